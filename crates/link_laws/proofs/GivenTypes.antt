-- What the instance of a nested component exports is what the inventory says: the types that are
-- given for its imports are those that its arguments denote.
use Rattle.std.proofs.Common.{◌≡◌, ◌∙◌, ℕ, List, [], ◌∷◌, ◌++◌, get_or, refl, sym, ap}
use Rattle.std.proofs.lemmas.Option.{get_or_from_slice_get}
use Rattle.std.specs.List.{AllByRecursion}
use Rattle.comp_bytes.specs.declared.space.Sort.TheVariants as sorts
use Rattle.comp_bytes.specs.declared.types.Description.TheVariants as descriptions
use Rattle.comp_bytes.specs.declared.def.Argument.{Argument}
use Rattle.comp_bytes.specs.declared.def.Item.{Item}
use Rattle.comp_bytes.specs.declared.def.Item.TheVariants as items
use Rattle.comp_bytes.specs.declared.def.Def.{Def}
use Rattle.comp_trees.specs.DefinedTrees.{TypeTree, OfOthers}
use Rattle.nested_terms.specs.Nested.{NestedScope, no_function, ExportedFunction, ExportedType, empty_scope, with_item, imports_after, exports_after}
use Rattle.comp_inventories.specs.Inventories.{inventory, scope_of, type_of_argument, given_by, nested_exports}
use Rattle.comp_inventories.proofs.Components.{component_at}
use Rattle.comp_terms.specs.Instances.{IsTypeGiven, IsImportGiven, InstantiatesNested}

module _ (earlier : List Def) (arguments : List Argument) (given : List ℕ → TypeTree) where
  abbrev here : List ℕ → TypeTree
  here = given_by (scope_of earlier) arguments

  -- the argument of a name denotes what is said to be given for it
  one_given : (name : List ℕ) (tree : TypeTree) → IsTypeGiven earlier arguments name tree → tree ≡ here name
  one_given name tree h = sym h.denotes.tree ∙ sym (ap (type_of_argument (scope_of earlier)) h.named)

  same_given : (s : NestedScope) (all : List Item) → AllByRecursion (IsImportGiven earlier arguments) (imports_after given s all) → exports_after given s all ≡ exports_after here s all
  same_given s [] h = refl
  same_given s (items.Import name (descriptions.Func kind) ∷ is) h = same_given (with_item given s (items.Import name (descriptions.Func kind))) is h.1
  same_given s (items.Import name (descriptions.TypeEqual index) ∷ is) h = same_given (with_item given s (items.Import name (descriptions.TypeEqual index))) is h.1
  same_given s (items.Import name descriptions.SubResource ∷ is) h =
      same_given (with_type (given name.name)) is h.1 ∙ ap (λ tree. exports_after here (with_type tree) is) (one_given name.name (given name.name) h.0)
    where
      with_type : TypeTree → NestedScope
      with_type tree = record { types = s.types ++ tree ∷ []; functions = s.functions ++ [] }
  same_given s (items.Import name (descriptions.Instance index) ∷ is) h = same_given (with_item given s (items.Import name (descriptions.Instance index))) is h
  same_given s (items.Export name sorts.Func index description ∷ is) h =
      ap (λ l. ExportedFunction name.name (get_or s.functions index no_function) ∷ l) (same_given (with_item given s (items.Export name sorts.Func index description)) is h)
  same_given s (items.Export name sorts.Type index description ∷ is) h =
      ap (λ l. ExportedType name.name (get_or s.types index OfOthers) ∷ l) (same_given (with_item given s (items.Export name sorts.Type index description)) is h)
  same_given s (i ∷ is) h = same_given (with_item given s i) is h

-- the instance of the nested component with this index
pub exports_given : (earlier : List Def) (component : ℕ) (arguments : List Argument) (h : InstantiatesNested earlier component arguments) →
    nested_exports (inventory earlier) component arguments ≡ exports_after h.given empty_scope h.definitions
exports_given earlier component arguments h =
    let of : get_or (inventory earlier).components component [] ≡ h.definitions = get_or_from_slice_get (inventory earlier).components component h.definitions [] (component_at earlier component h.definitions h.made) in
    ap (λ is. exports_after (given_by (scope_of earlier) arguments) empty_scope is) of ∙ sym (same_given earlier arguments h.given empty_scope h.definitions h.each)
