-- A worked example: the list whose outer alias is of another record runs to its end, but it isn't linked.
use Rattle.comp_links.specs.Naming.{own_names}
use Rattle.std.proofs.Common.{◌≡◌, ℕ, List, [], ◌∷◌, refl, sym, ap, subst, Option, Some, None, arith}
use Rattle.std.proofs.lemmas.Option.{same_Some}
use Rattle.std.specs.Prelude.{codes}
use Rattle.comp_bytes.specs.declared.def.Item.{Item}
use Rattle.comp_bytes.specs.declared.def.Item.TheVariants as items
use Rattle.wit_data.specs.Values.{values_from}
use Rattle.wit_data.specs.declared.ids.TypeId.{TypeId}
use Rattle.wit_data.specs.declared.functions.Function.{Function as WitFunction}
use Rattle.comp_roles.specs.declared.offered.ExternType.TheVariants as externs
use Rattle.comp_roles.specs.declared.offered.ImportType.{ImportType}
use Rattle.comp_trees.specs.Trees.{Resource, Tree, RecordOf, ParamTree}
use Rattle.comp_trees.specs.WitTrees.{wit_function_tree}
use Rattle.comp_links.proofs.WorkedImports.{interface_id, f, x, from_u, wit_f, f_core, world}
use Rattle.comp_links.specs.Targets.{OfInterface, Lowered}
use Rattle.comp_runs.specs.Store.{Lowering, Function, Imported}
use Rattle.comp_runs.specs.Machine.{Machine, Outcome}
use Rattle.link_laws.specs.Meeting.{CoreMeets, ItemIsLowering, IsImport, Meets}
use Rattle.link_laws.specs.Linking.{outcome, IsServed, IsLinked}
use Rattle.link_laws.proofs.Stores.{main_module}
use Rattle.link_laws.proofs.Steps.{no_modules}
use Rattle.link_laws.proofs.NamedItem.{own_item}
use Rattle.link_laws.proofs.Worked.{ended, core_function, made, machine_of}
use Rattle.link_laws.proofs.WorkedOuterTypes.{record_type, list_of, end_with}

abbrev y : List ℕ
y = codes "y"

-- a second record of the component, which has another field
abbrev second_record : List Item
second_record = items.Type (record_type y) ∷ []

-- the function is of the record that the first instance exports, or of the second record
abbrev end_of : ℕ → Outcome
end_of index = outcome world no_modules (list_of second_record index) made

pub first_record_ends : ended (end_of 1) ≡ Some (end_with x)
first_record_ends = refl

pub second_record_ends : ended (end_of 2) ≡ Some (end_with y)
second_record_ends = refl

abbrev m : Machine
m = machine_of (end_of 2)

-- the first letter of the first field of a function's first parameter
abbrev first_letter : List (List ℕ) → ℕ
first_letter ((c ∷ cs) ∷ names) = c
first_letter names = 0

abbrev letter_of_tree : Tree → ℕ
letter_of_tree (RecordOf names ts) = first_letter names
letter_of_tree tree = 0

abbrev letter_of_params : List ParamTree → ℕ
letter_of_params [] = 0
letter_of_params (p ∷ ps) = letter_of_tree p.tree

abbrev letter_of : Option Function → ℕ
letter_of (Some (Imported origin type)) = letter_of_params type.params
letter_of function = 0

-- in the world, f is a function of a record with the field x
x_of_f : (origins : TypeId → Resource) → letter_of_params (wit_function_tree origins world.resolve.types wit_f).params ≡ 0x78
unfolding values_from
x_of_f origins = refl

-- function 0 is of a record with the field y
not_of_f : (origins : TypeId → Resource) → IsImport world m origins 0 (OfInterface (interface_id 1) f) → ⊥
not_of_f origins i =
    let wit : wit_f ≡ i.wit = same_Some wit_f i.wit i.type_of in
    let letter : 0x79 ≡ letter_of_params (wit_function_tree origins world.resolve.types i.wit).params = ap letter_of i.is in
    let same : 0x79 ≡ 0x78 = subst (λ n. 0x79 ≡ n) (x_of_f origins) (subst (λ (w : WitFunction). 0x79 ≡ letter_of_params (wit_function_tree origins world.resolve.types w).params) (sym wit) letter) in
    absurd (omega (arith, same))

no_lowering_of_f : (origins : TypeId → Resource) → CoreMeets world m None 0 (ItemIsLowering world m origins (OfInterface (interface_id 1) f) []) → ⊥
no_lowering_of_f origins c = not_of_f origins (own_item world m 0 (ItemIsLowering world m origins (OfInterface (interface_id 1) f) []) c 0 f_core (Lowering 0 []) refl refl).0

abbrev only_import : ImportType
only_import = record { module_name = from_u; field = f; ty = externs.Func f_core }

only_meets : (origins : TypeId → Resource) → IsServed world m origins (main_module world) (core_function 0) only_import → CoreMeets world m None 0 (ItemIsLowering world m origins (OfInterface (interface_id 1) f) [])
unfolding values_from
only_meets origins s = subst (Meets world m origins (core_function 0)) (same_Some s.target (Lowered (OfInterface (interface_id 1) f) []) (sym s.said)) s.meets

pub other_type_is_not_linked : IsLinked own_names world no_modules (machine_of (end_of 2)) → ⊥
other_type_is_not_linked l = no_lowering_of_f l.origins (only_meets l.origins (l.imports.each 0 _ _ refl refl).0)
