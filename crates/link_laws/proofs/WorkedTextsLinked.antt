-- A worked example: the list with the lowering of a function of a text keeps the rules, so that it
-- links; it keeps them with no other options of that lowering.
use Rattle.comp_links.specs.Naming.{own_names}
use Rattle.std.proofs.Common.{inl, inr, ◌≡◌, ◌∙◌, ℕ, zero, suc, Bool, true, false, true≢false, List, [], ◌∷◌, refl, sym, ap, subst, Option, Some, None, take, arith}
use Rattle.std.proofs.lemmas.Option.{none-some}
use Rattle.std.specs.Fmt.{digits}
use Rattle.std.specs.List.{slice_get, AllZip}
use Rattle.standard_kinds.specs.declared.kinds.ExportKind.TheVariants as kinds
use Rattle.standard_kinds.specs.declared.kinds.Primitive.TheVariants as primitives
use Rattle.standard_kinds.specs.declared.kinds.StringEncoding.TheVariants as encodings
use Rattle.comp_bytes.proofs.Worked.{f, root}
use Rattle.comp_bytes.specs.ItemIndices.{in_space}
use Rattle.comp_bytes.specs.Spaces.{kind_space}
use Rattle.comp_bytes.specs.declared.canon.CanonicalOption.{CanonicalOption}
use Rattle.comp_bytes.specs.declared.canon.CanonicalOption.TheVariants as canonical
use Rattle.comp_bytes.specs.declared.space.Space.TheVariants as spaces
use Rattle.comp_bytes.specs.declared.types.Alias.TheVariants as aliases
use Rattle.comp_bytes.specs.declared.def.CoreArgument.{CoreArgument}
use Rattle.comp_bytes.specs.declared.def.CoreInlineExport.{CoreInlineExport}
use Rattle.comp_bytes.specs.declared.def.Item.TheVariants as items
use Rattle.comp_bytes.specs.declared.def.Def.{Def}
use Rattle.comp_bytes.specs.declared.def.Def.TheVariants as defs
use Rattle.core_bytes.proofs.Worked.{zero_text, actual, shim}
use Rattle.wit_data.specs.Values.{values_from}
use Rattle.comp_roles.specs.declared.offered.ExternType.TheVariants as externs
use Rattle.comp_roles.specs.declared.imports.ImportInstance.TheVariants as instances
use Rattle.comp_trees.specs.Trees.{PrimitiveOf, FunctionTree, is_known_function}
use Rattle.comp_trees.specs.DefinedTrees.{function_tree}
use Rattle.comp_inventories.specs.Inventories.{inventory, scope_of}
use Rattle.comp_links.specs.Targets.{Main, OfRoot}
use Rattle.comp_links.specs.Targets as targets
use Rattle.comp_terms.specs.Generated.{IsShimOf, OfImport, target_of}
use Rattle.comp_terms.specs.Terms.{CoreExport, TermOption, Term, IsFunctionType, IsImportedFunction, IsInstanceOf, IsExported, IsOption, IsLowering, Is}
use Rattle.comp_terms.specs.Terms as terms
use Rattle.comp_terms.specs.Planned.{IsTypeOf, IsOptionFor, IsTermFor, IsItemFor, IsArgumentFor, IsFillFor, AreFillsFor}
use Rattle.comp_terms.specs.Rules.{IsBuilt, AliasesShim, InstantiatesFixup, InstantiatesModule}
use Rattle.comp_runs.specs.Machine.{Machine}
use Rattle.link_laws.specs.Composition.{IsComposed}
use Rattle.link_laws.specs.Linking.{outcome, IsLinked, Links}
use Rattle.link_laws.proofs.GivenImports.{one_purpose}
use Rattle.link_laws.proofs.Stores.{main_module}
use Rattle.link_laws.proofs.Runs.{composed, links}
use Rattle.link_laws.proofs.Worked.{made, machine_of, one_apart, root_import}
use Rattle.link_laws.proofs.WorkedTexts.{s, memory, wit_f, memory_type, role_f, world, is_world, named_options, table_names_them, only_shim, one_shim, bytes, generated, are_generated, text_type, lowering, right_options}
use Rattle.link_laws.proofs.WorkedApart.{functions_apart}

-- ---- it keeps the rules

abbrev ds : ℕ → List Def
ds n = take n (lowering right_options)

abbrev pub f_tree : FunctionTree
f_tree = record { is_async = false; params = record { name = s; tree = PrimitiveOf primitives.«String» } ∷ []; result = None }

type_known : is_known_function (function_tree (scope_of []) text_type) ≡ true
unfolding inventory
type_known = refl

f_typed : IsFunctionType (ds 1) 0 f_tree
unfolding inventory
f_typed = record { denotes = record { within = omega arith; tree = refl } }

f_imported : IsImportedFunction (ds 10) 0 (root_import 0) f_tree
unfolding inventory
f_imported = record { is = refl }

f_imported_later : IsImportedFunction (ds 12) 0 (root_import 0) f_tree
unfolding inventory
f_imported_later = record { is = refl }

shims_made : (n : ℕ) → slice_get (in_space spaces.CoreInstance (ds n)) 0 ≡ Some (defs.Item (items.CoreInstantiate 1 [])) → IsInstanceOf (ds n) 0 1
shims_made n at = record { arguments = []; made = record { made = at } }

main_made : (n : ℕ) → slice_get (in_space spaces.CoreInstance (ds n)) 2 ≡ Some (defs.Item (items.CoreInstantiate 0 (record { name = root; instance = 1 } ∷ []))) → IsInstanceOf (ds n) 2 0
main_made n at = record { arguments = record { name = root; instance = 1 } ∷ []; made = record { made = at } }

shim_aliased : AliasesShim world (ds 5) kinds.Func 0 zero_text
unfolding values_from digits
shim_aliased = record { place = 0; is = shims_made 5 refl; listed = omega arith; named = refl; function = refl }

stands_for_f : IsShimOf world only_shim Main role_f
unfolding values_from
stands_for_f = record { of_kind = refl; right = ((0, omega arith, refl), refl, tt); typed = refl }

-- main is given the shim
f_given : IsArgumentFor world Main (ds 7) (record { name = root; instance = 1 }) (root, instances.Names ((f, role_f) ∷ []))
unfolding values_from digits
f_given = record {
  named = refl;
  serves = record {
    entries = record { name = f; kind = kinds.Func; index = 0 } ∷ [];
    made = record { made = refl };
    each = (
      record {
        named = refl;
        serves = inr (record {
          shim = record { place = 0; stands = record { shim = only_shim; purpose = OfImport Main role_f; listed = refl; stands_for = stands_for_f; same = refl }; in_space = refl; is = record { instance = 0; made = record { made = refl }; of = shims_made 7 refl } };
          of_kind = stands_for_f.of_kind;
          shimmed = refl;
        });
        supplied = record { encoding = λ e. refl; memory = λ e. cc; realloc = λ shared needed. cc };
      },
      tt,
    );
  };
}

abbrev memory_export : CoreExport
memory_export = record { of = 0; kind = kinds.Memory; name = memory }

memory_is : IsExported (ds 12) 0 memory_export
memory_is = record { instance = 2; made = record { made = refl }; of = main_made 12 refl }

abbrev term_options : List TermOption
term_options = terms.Memory memory_export ∷ terms.Encoding encodings.UTF8 ∷ []

f_lowered : IsLowering (ds 12) 1 (root_import 0) f_tree term_options
f_lowered = record { function = 0; written = right_options; made = record { made = refl }; of = f_imported_later; with_options = ((refl, memory_is), (refl, tt)) }

f_as_said : IsTypeOf world (OfRoot f) f_tree
unfolding values_from
f_as_said = record { wit = wit_f; imported = refl; typed = refl }

-- the fixup is given the lowering
f_filled : AreFillsFor world (ds 12) 3
unfolding values_from digits
f_filled = record {
  entries = record { name = zero_text; kind = kinds.Func; index = 1 } ∷ [];
  made = record { made = refl };
  each = (
    record {
      named = refl;
      function = refl;
      purpose = OfImport Main role_f;
      stands_for = stands_for_f;
      serves = record {
        term = terms.Lowering (root_import 0) f_tree term_options;
        is = f_lowered;
        asked = ((refl, refl), f_as_said, (refl, (refl, tt)));
      };
    },
    tt,
  );
}

fixup_right : InstantiatesFixup world (ds 12) 2 (record { name = actual; instance = 3 } ∷ record { name = shim; instance = 0 } ∷ [])
fixup_right = record { numbered = refl; scoped = omega arith; any = refl; last = refl; given = (record { named = refl; serves = f_filled }, (record { named = refl; serves = shims_made 12 refl }, tt)) }

keeps_the_rules : IsBuilt own_names world (lowering right_options)
keeps_the_rules = record {
  generated = bytes;
  are_generated = are_generated;
  front = lowering right_options;
  names = [];
  whole = refl;
  right = (
    type_known,
    (
      record { type = f_tree; is = f_typed },
      (
        tt,
        (
          tt,
          (
            inr (inl (record { numbered = refl; any = refl; scoped = omega arith; first = refl; closed = refl })),
            (
              inr (inl shim_aliased),
              (
                record { each = (record { scoped = omega arith }, tt); apart = one_apart f },
                (
                  inl (record { of = main_module world; listed = refl; scoped = omega arith; each = (f_given, tt) }),
                  (
                    inl (record { number = 0; of = main_module world; type = externs.Memory memory_type; is = main_made 8 refl; listed = refl; offered = refl; of_kind = refl }),
                    (
                      tt,
                      (
                        (record { origin = root_import 0; type = f_tree; is = f_imported }, (omega arith, (tt, tt))),
                        (
                          record { each = (record { scoped = omega arith }, tt); apart = one_apart zero_text },
                          (inr (inr fixup_right), tt),
                        ),
                      ),
                    ),
                  ),
                ),
              ),
            ),
          ),
        ),
      ),
    ),
  );
  marked = refl;
  named = tt;
}

-- so it is composed as the world says, and linked at its end
pub texts_are_composed : IsComposed own_names world generated (lowering right_options)
unfolding keeps_the_rules are_generated values_from digits
texts_are_composed = composed own_names world (lowering right_options) keeps_the_rules

pub texts_link : Links own_names world generated (lowering right_options)
unfolding keeps_the_rules are_generated values_from digits
texts_link = links own_names world (lowering right_options) is_world (functions_apart own_names world tt) keeps_the_rules

abbrev ended : Machine
ended = machine_of (outcome world generated (lowering right_options) made)

pub texts_are_linked : IsLinked own_names world generated ended
texts_are_linked = texts_link.linked made ended refl

-- ---- with other options of the lowering it doesn't keep them

-- what the fixup is instantiated after
abbrev before_fixup : List CanonicalOption → List Def
before_fixup options = take 12 (lowering options)

abbrev fixup_arguments : List CoreArgument
fixup_arguments = record { name = actual; instance = 3 } ∷ record { name = shim; instance = 0 } ∷ []

-- the terms of the options that the table names
memory_term : (t : TermOption) → IsOptionFor world t targets.Memory → (e : CoreExport) × (t ≡ terms.Memory e)
memory_term (terms.Memory e) h = (e, refl)
memory_term t h = absurd h

encoding_term : (t : TermOption) → IsOptionFor world t (targets.Encoding encodings.UTF8) → t ≡ terms.Encoding encodings.UTF8
encoding_term (terms.Encoding e) h = ap terms.Encoding h
encoding_term t h = absurd h

-- the options that are such terms
memory_written : (earlier : List Def) (o : CanonicalOption) (e : CoreExport) → IsOption earlier o (terms.Memory e) → (index : ℕ) × (o ≡ canonical.Memory index) × (e.kind ≡ kinds.Memory) × IsExported earlier index e
memory_written earlier (canonical.Memory index) e h = (index, refl, h.0, h.1)
memory_written earlier o e h = absurd h

encoding_written : (earlier : List Def) (o : CanonicalOption) → IsOption earlier o (terms.Encoding encodings.UTF8) → o ≡ canonical.Utf8
encoding_written earlier canonical.Utf8 h = refl
encoding_written earlier canonical.Utf16 h = cc
encoding_written earlier canonical.CompactUtf16 h = cc
encoding_written earlier o h = absurd h

-- there is one memory
first_memory : (options : List CanonicalOption) (index : ℕ) (e : CoreExport) → e.kind ≡ kinds.Memory → IsExported (before_fixup options) index e → index ≡ 0
first_memory options zero e kind is = refl
first_memory options (suc n) e kind is =
    absurd (none-some _ (subst (λ k. slice_get (in_space (kind_space k) (before_fixup options)) (suc n) ≡ Some (defs.Item (items.Alias (aliases.CoreExport e.kind is.instance e.name)))) kind is.made.made))

only_these : (options written : List CanonicalOption) (ts : List TermOption) → AllZip (IsOption (before_fixup options)) written ts → AllZip (IsOptionFor world) ts named_options → written ≡ right_options
only_these options written [] h asked = absurd asked
only_these options written (t ∷ []) h asked = absurd asked.1
only_these options written (t ∷ u ∷ v ∷ ts) h asked = absurd asked.1.1
only_these options [] (t ∷ u ∷ []) h asked = absurd h
only_these options (o ∷ []) (t ∷ u ∷ []) h asked = absurd h.1
only_these options (o ∷ p ∷ q ∷ os) (t ∷ u ∷ []) h asked = absurd h.1.1
only_these options (o ∷ p ∷ []) (t ∷ u ∷ []) h asked =
    let is_memory = memory_term t asked.0 in
    let first = memory_written (before_fixup options) o is_memory.0 (subst (IsOption (before_fixup options) o) is_memory.1 h.0) in
    let second : p ≡ canonical.Utf8 = encoding_written (before_fixup options) p (subst (IsOption (before_fixup options) p) (encoding_term u asked.1.0) h.1.0) in
    let at_0 : o ≡ canonical.Memory 0 = first.1 ∙ ap canonical.Memory (first_memory options first.0 is_memory.0 first.2 first.3) in
    ap (λ x. x ∷ p ∷ []) at_0 ∙ ap (λ x. canonical.Memory 0 ∷ x ∷ []) second

-- what a lowering is made with
abbrev options_of : Option Def → List CanonicalOption
options_of (Some (defs.Item (items.Lower function options))) = options
options_of d = []

lowered_with : (options : List CanonicalOption) (term : Term) → Is (before_fixup options) spaces.CoreFunc 1 term → IsTermFor world (targets.Lowered (OfRoot f) named_options) term → options ≡ right_options
lowered_with options (terms.Lowering origin type ts) is asked =
    let written : options ≡ is.written = ap options_of is.made.made in
    written ∙ only_these options is.written ts is.with_options asked.2
lowered_with options term is asked = absurd asked

-- the fill of the shim is what the table names
abbrev fill_entry : CoreInlineExport
fill_entry = record { name = zero_text; kind = kinds.Func; index = 1 }

filled_with : (options : List CanonicalOption) → IsFillFor world (before_fixup options) fill_entry only_shim → options ≡ right_options
filled_with options fill =
    let of_f : OfImport Main role_f ≡ fill.purpose = one_purpose world only_shim (OfImport Main role_f) fill.purpose stands_for_f fill.stands_for in
    let serves : IsItemFor world (before_fixup options) spaces.CoreFunc 1 (targets.Lowered (OfRoot f) named_options) =
    subst (IsItemFor world (before_fixup options) spaces.CoreFunc 1) table_names_them (subst (λ p. IsItemFor world (before_fixup options) spaces.CoreFunc 1 (target_of world p)) (sym of_f) fill.serves) in
    lowered_with options serves.term serves.is serves.asked

-- the entries of an inline instance
abbrev entries_of : Option Def → List CoreInlineExport
entries_of (Some (defs.Item (items.CoreExports entries))) = entries
entries_of d = []

pub fills_only_these : (options : List CanonicalOption) → AreFillsFor world (before_fixup options) 3 → options ≡ right_options
fills_only_these options fills =
    let entries : fill_entry ∷ [] ≡ fills.entries = ap entries_of fills.made.made in
    let each : AllZip (IsFillFor world (before_fixup options)) fills.entries (only_shim ∷ []) = subst (AllZip (IsFillFor world (before_fixup options)) fills.entries) one_shim fills.each in
    filled_with options (subst (λ es. AllZip (IsFillFor world (before_fixup options)) es (only_shim ∷ [])) (sym entries) each).0

pub only_these_options : (options : List CanonicalOption) → IsBuilt own_names world (lowering options) → options ≡ right_options
unfolding values_from digits
only_these_options options built = by built.right.1.1.1.1.1.1.1.1.1.1.1.1.0
  where
    by : InstantiatesModule world (before_fixup options) 2 fixup_arguments → options ≡ right_options
    by (inl user) = absurd (none-some user.of user.listed)
    by (inr (inl shims)) = let same : 2 ≡ 1 = shims.numbered in absurd (omega (arith, same))
    by (inr (inr fixup)) = fills_only_these options fixup.given.0.serves

-- without the memory, or with another encoding
abbrev has_memory : List CanonicalOption → Bool
has_memory (canonical.Memory index ∷ options) = true
has_memory options = false

abbrev has_utf8 : List CanonicalOption → Bool
has_utf8 (o ∷ canonical.Utf8 ∷ options) = true
has_utf8 options = false

pub without_memory_breaks_them : IsBuilt own_names world (lowering (canonical.Utf8 ∷ [])) → ⊥
without_memory_breaks_them built = true≢false (sym (ap has_memory (only_these_options (canonical.Utf8 ∷ []) built)))

pub other_encoding_breaks_them : IsBuilt own_names world (lowering (canonical.Memory 0 ∷ canonical.Utf16 ∷ [])) → ⊥
other_encoding_breaks_them built = true≢false (sym (ap has_utf8 (only_these_options (canonical.Memory 0 ∷ canonical.Utf16 ∷ []) built)))
