-- A worked example: the list with types keeps the rules, so that it links; with another type of its
-- lift, or of its import, it does not.
use Rattle.comp_links.specs.Naming.{own_names}
use Rattle.std.proofs.Common.{inl, ◌≡◌, ◌∙◌, ℕ, Bool, true, false, true≢false, List, [], ◌∷◌, refl, sym, ap, subst, Option, Some, None, take, arith}
use Rattle.std.proofs.lemmas.Option.{same_Some}
use Rattle.std.specs.List.{slice_get}
use Rattle.standard_kinds.specs.declared.kinds.ExportKind.TheVariants as kinds
use Rattle.standard_kinds.specs.declared.kinds.Primitive.TheVariants as primitives
use Rattle.comp_bytes.proofs.Worked.{f, g, root}
use Rattle.comp_bytes.specs.ItemIndices.{in_space}
use Rattle.comp_bytes.specs.declared.space.Space.TheVariants as spaces
use Rattle.comp_bytes.specs.declared.types.ComponentValType.TheVariants as values
use Rattle.comp_bytes.specs.declared.def.Item.TheVariants as items
use Rattle.comp_bytes.specs.declared.def.Def.{Def}
use Rattle.comp_bytes.specs.declared.def.Def.TheVariants as defs
use Rattle.wit_data.specs.Values.{values_from}
use Rattle.wit_data.specs.declared.functions.AbiVariant.TheVariants.{GuestImport}
use Rattle.wit_data.specs.declared.functions.Function.{Function}
use Rattle.wit_data.specs.declared.worlds.WorldKey.TheVariants as keys
use Rattle.comp_roles.specs.declared.imports.Import.TheVariants as imports
use Rattle.comp_roles.specs.declared.imports.ImportInstance.TheVariants as instances
use Rattle.comp_trees.specs.Trees.{Resource, PrimitiveOf, RecordOf, is_known_function}
use Rattle.comp_trees.specs.DefinedTrees.{TypeTree, OfValues, function_tree}
use Rattle.comp_inventories.specs.Inventories.{inventory, scope_of}
use Rattle.comp_links.specs.Lists.{stated_types}
use Rattle.comp_links.specs.Targets.{Main, OfRoot, Lifted as LiftedFrom}
use Rattle.comp_roles.specs.declared.offered.ExternType.TheVariants as externs
use Rattle.comp_runs.specs.Store.{Export, Function as Held, Lifting}
use Rattle.comp_runs.specs.Machine.{Machine}
use Rattle.wit_data.specs.declared.ids.TypeId.{TypeId}
use Rattle.comp_trees.specs.WitTrees.{wit_function_tree}
use Rattle.comp_terms.specs.Terms.{IsFunctionType, IsImportedFunction, IsLowering, IsInstanceOf}
use Rattle.comp_terms.specs.Terms as terms
use Rattle.comp_terms.specs.Planned.{type_of_function, IsTypeOf, IsLiftFor, IsArgumentFor}
use Rattle.comp_terms.specs.Rules.{IsBuilt, IsDescriptionRight}
use Rattle.comp_terms.specs.Exports.{ExportsFunction}
use Rattle.link_laws.specs.Composition.{IsComposed}
use Rattle.link_laws.specs.Linking.{outcome, LiftMeets, IsProvided, IsLinked, Links}
use Rattle.link_laws.proofs.BaseRoles.{no_bases}
use Rattle.link_laws.proofs.Stores.{main_module}
use Rattle.link_laws.proofs.Steps.{no_modules}
use Rattle.link_laws.proofs.Runs.{composed, links}
use Rattle.link_laws.proofs.Worked.{root_import, made, machine_of, a, one_apart}
use Rattle.comp_bytes.specs.declared.types.Description.TheVariants as descriptions
use Rattle.link_laws.proofs.WorkedTypes.{p, wit_f, wit_g, g_core, world, is_world, typed_list, misnamed, f_tree, g_tree}
use Rattle.link_laws.proofs.WorkedApart.{functions_apart}

-- ---- it keeps the rules

abbrev ds : ℕ → List Def
ds n = take n (typed_list 4)

p_imported : IsDescriptionRight world (ds 1) p (descriptions.TypeEqual 0)
unfolding inventory values_from
p_imported = (omega arith, record { id = record { index = 0 }; stated = refl; same = refl })

f_known : is_known_function (function_tree (scope_of (ds 2)) (record { async_ = false; params = record { name = a; ty = values.Defined 1 } ∷ []; result = Some (values.Primitive primitives.U8) })) ≡ true
unfolding inventory
f_known = refl

f_typed : IsFunctionType (ds 3) 2 f_tree
unfolding inventory
f_typed = record { denotes = record { within = omega arith; tree = refl } }

f_imported : IsImportedFunction (ds 5) 0 (root_import 1) f_tree
unfolding inventory
f_imported = record { is = refl }

f_imported_later : IsImportedFunction (ds 7) 0 (root_import 1) f_tree
unfolding inventory
f_imported_later = record { is = refl }

f_lowered : IsLowering (ds 7) 0 (root_import 1) f_tree []
f_lowered = record { function = 0; written = []; made = record { made = refl }; of = f_imported_later; with_options = tt }

f_as_said : IsTypeOf world (OfRoot f) f_tree
unfolding values_from
f_as_said = record { wit = wit_f; imported = refl; typed = refl }

f_offered : IsArgumentFor world Main (ds 7) (record { name = root; instance = 0 }) (root, instances.Names ((f, imports.WorldFunc (keys.Name f) f GuestImport) ∷ []))
unfolding values_from
f_offered = record {
  named = refl;
  serves = record {
    entries = record { name = f; kind = kinds.Func; index = 0 } ∷ [];
    made = record { made = refl };
    each = (record { named = refl; serves = inl (record { term = terms.Lowering (root_import 1) f_tree []; is = f_lowered; asked = ((refl, refl), f_as_said, tt) }); supplied = record { encoding = λ e. refl; memory = λ e. cc; realloc = λ shared needed. cc } }, tt);
  };
}

main_made : (n : ℕ) → slice_get (in_space spaces.CoreInstance (ds n)) 1 ≡ Some (defs.Item (items.CoreInstantiate 0 (record { name = root; instance = 0 } ∷ []))) → IsInstanceOf (ds n) 1 0
main_made n at = record { arguments = record { name = root; instance = 0 } ∷ []; made = record { made = at } }

g_known : is_known_function (function_tree (scope_of (ds 10)) (record { async_ = false; params = record { name = a; ty = values.Defined 3 } ∷ []; result = Some (values.Primitive primitives.U64) })) ≡ true
unfolding inventory
g_known = refl

g_typed : IsFunctionType (ds 11) 4 g_tree
unfolding inventory
g_typed = record { denotes = record { within = omega arith; tree = refl } }

g_typed_later : IsFunctionType (ds 12) 4 g_tree
unfolding inventory
g_typed_later = record { denotes = record { within = omega arith; tree = refl } }

g_as_said : g_tree ≡ type_of_function world wit_g
unfolding values_from
g_as_said = refl

g_lifted : IsLiftFor world (ds 12) 1 (LiftedFrom (record { of = Main; name = g }) []) g_tree
g_lifted = record {
  entry = record { of = 0; kind = kinds.Func; name = g };
  options = [];
  is = record {
    core = 1;
    kind = 4;
    written = [];
    made = record { made = refl };
    of = record { instance = 1; made = record { made = refl }; of = main_made 12 refl };
    function = refl;
    with_options = tt;
    typed = g_typed_later;
  };
  asked = (record { of = record { world_module = main_module world; listed = refl; same = refl }; named = refl }, tt);
}

g_required : ExportsFunction world (ds 12) 1
unfolding values_from
g_required = record {
  required = record { of = Main; key = keys.Name g };
  function = wit_g;
  next = refl;
  item = refl;
  lifted = record {
    target = LiftedFrom (record { of = Main; name = g }) [];
    wit = wit_g;
    said = refl;
    exported = refl;
    is = subst (IsLiftFor world (ds 12) 1 (LiftedFrom (record { of = Main; name = g }) [])) g_as_said g_lifted;
  };
}

keeps_the_rules : IsBuilt own_names world (typed_list 4)
unfolding values_from
keeps_the_rules = record {
  generated = record { shims = None; fixup = None };
  are_generated = record { shims = refl; fixup = refl; room = omega arith; alike = no_bases world refl };
  front = typed_list 4;
  names = [];
  whole = refl;
  right = (refl, (p_imported, (f_known, (record { type = f_tree; is = f_typed }, (tt, ((record { origin = root_import 1; type = f_tree; is = f_imported }, tt), (record { each = (record { scoped = omega arith }, tt); apart = one_apart f }, (inl (record { of = main_module world; listed = refl; scoped = omega arith; each = (f_offered, tt) }), (inl (record { number = 0; of = main_module world; type = externs.Func g_core; is = main_made 8 refl; listed = refl; offered = refl; of_kind = refl }), (refl, (g_known, ((omega arith, tt, record { type = g_tree; is = g_typed }), (g_required, tt)))))))))))));
  marked = refl;
  named = tt;
}

-- so it is composed as the world says, and linked at its end
pub typed_list_is_composed : IsComposed own_names world no_modules (typed_list 4)
unfolding keeps_the_rules
typed_list_is_composed = composed own_names world (typed_list 4) keeps_the_rules

pub typed_list_links : Links own_names world no_modules (typed_list 4)
unfolding keeps_the_rules
typed_list_links = links own_names world (typed_list 4) is_world (functions_apart own_names world (refl, tt)) keeps_the_rules

pub typed_list_is_linked : IsLinked own_names world no_modules (machine_of (outcome world no_modules (typed_list 4) made))
typed_list_is_linked = typed_list_links.linked made (machine_of (outcome world no_modules (typed_list 4) made)) refl

-- ---- where the lift is of the type of f, the list isn't linked

-- the result of the type of a lift, as a number
abbrev result_of : Option Held → ℕ
result_of (Some (Lifting core options type)) = elim type.result [ None ↦ 0 | Some t ↦ (elim t [ PrimitiveOf p ↦ (elim p [ primitives.U8 ↦ 1 | _ ↦ 2 ]) | _ ↦ 3 ]) ]
result_of function = 4

abbrev exchanged : Machine
exchanged = machine_of (outcome world no_modules (typed_list 2) made)

lift_of_g : (origins : TypeId → Resource) → IsProvided own_names world exchanged origins (record { of = Main; key = keys.Name g; function = g }) → ⊥
unfolding values_from
lift_of_g origins x =
    let address : 1 ≡ x.address = ap (λ (e : Export). e.address) (same_Some (record { space = spaces.Func; name = g; address = 1 }) (record { space = spaces.Func; name = g; address = x.address }) x.provided) in
    let wit : wit_g ≡ x.wit = same_Some wit_g x.wit x.type_of in
    let meets : LiftMeets world exchanged origins x.address x.wit (LiftedFrom (record { of = Main; name = g }) []) =
    subst (LiftMeets world exchanged origins x.address x.wit) (sym (same_Some (LiftedFrom (record { of = Main; name = g }) []) x.target x.said)) x.meets in
    let at_1 : slice_get exchanged.store.functions 1 ≡ Some (Lifting meets.core meets.held (wit_function_tree origins world.resolve.types x.wit)) =
    subst (λ n. slice_get exchanged.store.functions n ≡ Some (Lifting meets.core meets.held (wit_function_tree origins world.resolve.types x.wit))) (sym address) meets.is in
    let of_g : slice_get exchanged.store.functions 1 ≡ Some (Lifting meets.core meets.held (wit_function_tree origins world.resolve.types wit_g)) =
    subst (λ (w : Function). slice_get exchanged.store.functions 1 ≡ Some (Lifting meets.core meets.held (wit_function_tree origins world.resolve.types w))) (sym wit) at_1 in
    let same : 1 ≡ 2 = ap result_of of_g in
    absurd (omega (arith, same))

pub exchanged_is_not_linked : IsLinked own_names world no_modules (machine_of (outcome world no_modules (typed_list 2) made)) → ⊥
exchanged_is_not_linked l = lift_of_g l.origins l.exports.0

-- ---- the list that imports a u8 under the name of the record doesn't link

abbrev is_record : List TypeTree → Bool
is_record (OfValues (RecordOf names ts) ∷ rest) = true
is_record trees = false

record_stated : is_record (stated_types world) ≡ true
unfolding values_from
record_stated = refl

pub misnamed_does_not_link : Links own_names world no_modules misnamed → ⊥
misnamed_does_not_link l = true≢false (sym record_stated ∙ sym (ap is_record (l.types made (machine_of (outcome world no_modules misnamed made)) refl)))
