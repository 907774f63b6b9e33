-- Worked examples: lists that are not composed as a world says. The sections of a generated module
-- are in disorder, or it has no debug names where they are on; a nested component has a core module
-- or a custom section, or defines a resource; a type of instances exports a function too many; an
-- argument of a nested component is given twice, or is a function of another type.
use Rattle.comp_links.specs.Naming.{Naming, own_names}
use Rattle.std.proofs.Common.{◌≡◌, ◌<◌, ◌++◌, ℕ, true, false, true≢false, List, [], ◌∷◌, length, map, take, sym, ap, subst, Option, Some, None, arith}
use Rattle.std.proofs.lemmas.Option.{same_Some}
use Rattle.std.specs.Prelude.{codes, get_or}
use Rattle.std.specs.List.{AllByRecursion, flat_map}
use Rattle.comp_bytes.proofs.Worked.{plain, f, core}
use Rattle.standard_kinds.specs.declared.kinds.ExportKind.TheVariants as kinds
use Rattle.standard_kinds.specs.declared.kinds.Primitive.TheVariants as primitives
use Rattle.comp_bytes.specs.declared.types.Alias.TheVariants as aliases
use Rattle.comp_bytes.specs.declared.space.Sort.TheVariants as sorts
use Rattle.comp_bytes.specs.declared.types.ComponentValType.TheVariants as values
use Rattle.comp_bytes.specs.declared.types.Description.TheVariants as descriptions
use Rattle.comp_bytes.specs.declared.types.Member.TheVariants as members
use Rattle.comp_bytes.specs.declared.types.TypeDef.TheVariants as types
use Rattle.comp_bytes.specs.declared.def.Argument.{Argument}
use Rattle.comp_bytes.specs.declared.def.Item.{Item}
use Rattle.comp_bytes.specs.declared.def.Item.TheVariants as items
use Rattle.comp_bytes.specs.declared.def.Def.{Def}
use Rattle.comp_bytes.specs.declared.def.Def.TheVariants as defs
use Rattle.core_bytes.specs.declared.section.Section.{Section}
use Rattle.core_bytes.specs.declared.section.Section.TheVariants as sections
use Rattle.comp_trees.specs.DefinedTrees.{TypeTree, OfFunctions}
use Rattle.comp_inventories.specs.Inventories.{inventory, no_function}
use Rattle.wit_data.specs.Values.{values_from}
use Rattle.comp_worlds.specs.declared.world.ComponentWorld.{ComponentWorld}
use Rattle.comp_terms.specs.Instances.{IsImportGiven}
use Rattle.nested_terms.specs.Nested.{function_import, type_import, empty_scope, imports_after}
use Rattle.link_laws.specs.Composition.{GeneratedModules, IsComposed}
use Rattle.link_laws.proofs.Steps.{no_modules}
use Rattle.link_laws.proofs.Worked.{plain_tree, h}
use Rattle.link_laws.proofs.WorkedShims.{world as shims_world, shims}
use Rattle.link_laws.proofs.WorkedNested.{world as nested_world, passing_on, given_as, list_of}
use Rattle.comp_links.proofs.WorkedImports.{world as outer_world}
use Rattle.link_laws.proofs.WorkedOuterTypes.{list_of as outer_list}

-- ---- sections

-- those of a module of shims, where the code comes before the exports
abbrev in_disorder : List Section
in_disorder = sections.Types [] ∷ sections.Functions [] ∷ sections.Code [] ∷ sections.Exports [] ∷ []

pub disorder_is_not_composed : (ds : List Def) → IsComposed own_names shims_world (record { shims = Some in_disorder; fixup = None }) ds → ⊥
disorder_is_not_composed ds c = let no : 10 < 7 = c.sections.0.ordered.1.1.1.0 in absurd (omega (arith, no))

-- those of one without debug names
abbrev with_debug_names : Naming
with_debug_names = record own_names { debug_names = true }

pub unnamed_is_not_composed : (ds : List Def) → IsComposed with_debug_names shims_world (record { shims = Some shims; fixup = None }) ds → ⊥
unnamed_is_not_composed ds c = true≢false c.sections.0.ordered.1.1.1.1.1

-- ---- what stands in a nested component

abbrev beside : Item → List Def → List Def
beside item ds = defs.Component (item ∷ []) ∷ ds

module _ (n : Naming) (w : ComponentWorld) (g : GeneratedModules) (ds : List Def) where
  pub core_module_is_not_composed : IsComposed n w g (beside (items.CoreModule core) ds) → ⊥
  core_module_is_not_composed c = c.sound.0.right.0

  pub custom_is_not_composed : IsComposed n w g (beside (items.Custom f []) ds) → ⊥
  custom_is_not_composed c = c.sound.0.right.0

  pub resource_is_not_composed : IsComposed n w g (beside (items.Type (types.Resource None)) ds) → ⊥
  resource_is_not_composed c = c.sound.0.right.0

-- ---- what a type of instances exports

abbrev counts : List (List (List ℕ)) → List ℕ
counts lists = map (λ (names : List (List ℕ)). length names) lists

abbrev first_count : List ℕ → ℕ
first_count [] = 0
first_count (n ∷ ns) = n

-- an interface of which one type is needed has a function too
abbrev with_function : List Def
with_function = defs.Item (items.InstanceType (record {
  members =
      members.Type (types.Func (record { async_ = false; params = []; result = None })) ∷ members.Export (plain f) (descriptions.Func 0) ∷ members.Export (plain h) (descriptions.Func 0) ∷ [];
})) ∷ outer_list [] 1

pub function_too_many_is_not_composed : IsComposed own_names outer_world no_modules with_function → ⊥
unfolding values_from
function_too_many_is_not_composed c = let no : 2 ≡ 1 = ap (λ lists. first_count (counts lists)) c.instance_types in absurd (omega (arith, no))

-- ---- the arguments of a nested component

abbrev component_of : Option Def → List Item
component_of (Some (defs.Component inner)) = inner
component_of d = []

-- the argument for f is given once more, with the other function
abbrev f_again : List Argument
f_again = given_as 0 1 ++ record { name = codes "import-func-f"; sort = sorts.Func; index = 1 } ∷ []

abbrev given_twice : List Def
given_twice = list_of (passing_on 0 1) f_again

pub given_twice_is_not_composed : IsComposed own_names nested_world no_modules given_twice → ⊥
given_twice_is_not_composed c =
    let own = c.sound.1.1.1.1.1.1.1.1.0 in
    let same : passing_on 0 1 ≡ own.definitions = ap component_of own.made.made in
    let named : map (λ (a : Argument). a.name) f_again ≡ flat_map function_import (passing_on 0 1) ++ flat_map type_import (passing_on 0 1) =
    subst (λ is. map (λ (a : Argument). a.name) f_again ≡ flat_map function_import is ++ flat_map type_import is) (sym same) own.exact in
    let no : 3 ≡ 2 = ap (λ names. length names) named in
    absurd (omega (arith, no))

-- f is given the lift of a function of another type
abbrev of_other_type : List Def
of_other_type =
    map defs.Item (
    items.CoreModule core
    ∷ items.CoreInstantiate 0 []
    ∷ items.Alias (aliases.CoreExport kinds.Func 0 f)
    ∷ items.Type (types.Func (record { async_ = false; params = record { name = f; ty = values.Primitive primitives.U32 } ∷ []; result = None }))
    ∷ items.Lift 0 [] 0
    ∷ items.Lift 0 [] 0
    ∷ [])
    ++ defs.Component (passing_on 0 1)
    ∷ defs.Item (items.Instantiate 0 (given_as 0 1))
    ∷ []

abbrev params_of : TypeTree → ℕ
params_of (OfFunctions type) = length type.params
params_of type = 0

pub other_type_is_not_composed : (w : ComponentWorld) → IsComposed own_names w no_modules of_other_type → ⊥
unfolding inventory
other_type_is_not_composed w c =
    let own = c.sound.1.1.1.1.1.1.1.0 in
    let before : List Def = take 7 of_other_type in
    let same : passing_on 0 1 ≡ own.definitions = ap component_of own.made.made in
    let each : AllByRecursion (IsImportGiven before (given_as 0 1)) (imports_after own.given empty_scope (passing_on 0 1)) =
    subst (λ is. AllByRecursion (IsImportGiven before (given_as 0 1)) (imports_after own.given empty_scope is)) (sym same) own.each in
    let argument : Argument = record { name = codes "import-func-f"; sort = sorts.Func; index = 0 } in
    let is : argument ≡ each.0.argument = same_Some argument each.0.argument each.0.named in
    let typed : (get_or (inventory before).functions 0 no_function).type ≡ OfFunctions plain_tree =
    subst (λ (a : Argument). (get_or (inventory before).functions a.index no_function).type ≡ OfFunctions plain_tree) (sym is) each.0.typed in
    let no : 1 ≡ 0 = ap params_of typed in
    absurd (omega (arith, no))
