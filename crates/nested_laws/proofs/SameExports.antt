-- What an instance exports is determined by its arguments: where the imports of a nested component
-- are given these, it is the same whatever resources are said to be given for the imports of
-- resources.
use Rattle.std.proofs.Common.{◌≡◌, ◌∙◌, ℕ, List, [], ◌∷◌, ◌++◌, get_or, refl, sym, ap, subst}
use Rattle.std.proofs.lemmas.Option.{same_Some}
use Rattle.comp_bytes.specs.declared.space.Sort.TheVariants as sorts
use Rattle.comp_bytes.specs.declared.types.Description.TheVariants as descriptions
use Rattle.comp_bytes.specs.declared.def.Item.{Item}
use Rattle.comp_bytes.specs.declared.def.Item.TheVariants as items
use Rattle.comp_trees.specs.DefinedTrees.{TypeTree, OfOthers}
use Rattle.nested_terms.specs.Nested.{NestedScope, no_function, ExportedFunction, ExportedType, empty_scope, with_item, imports_after, exports_after}
use Rattle.comp_runs.specs.Store.{Export, TypeItem}
use Rattle.instance_laws.specs.Instantiated.{IsHeldAs}
use Rattle.instance_laws.proofs.Held.{tree_of_held}
use Rattle.nested_laws.specs.NestedRuns.{AreGiven, GivesType}

module _ (types : List TypeItem) (arguments : List Export) (given other : List ℕ → TypeTree) where
  -- an argument denotes one tree
  one_tree : (name : List ℕ) (a b : TypeTree) → GivesType types arguments name a → GivesType types arguments name b → a ≡ b
  one_tree name a b h k =
      let same : k.export ≡ h.export = same_Some k.export h.export (sym k.found ∙ h.found) in
      sym (tree_of_held types a h.export.address h.is) ∙ tree_of_held types b h.export.address (subst (λ (e : Export). IsHeldAs types b e.address) same k.is)

  same_after : (s : NestedScope) (all : List Item) → AreGiven types arguments (imports_after given s all) → AreGiven types arguments (imports_after other s all) → exports_after given s all ≡ exports_after other s all
  same_after s [] h k = refl
  same_after s (items.Import name (descriptions.Func kind) ∷ is) h k = same_after (with_item given s (items.Import name (descriptions.Func kind))) is h.1 k.1
  same_after s (items.Import name (descriptions.TypeEqual index) ∷ is) h k = same_after (with_item given s (items.Import name (descriptions.TypeEqual index))) is h.1 k.1
  same_after s (items.Import name descriptions.SubResource ∷ is) h k =
      let same : given name.name ≡ other name.name = one_tree name.name (given name.name) (other name.name) h.0 k.0 in
      same_after (with_type (given name.name)) is h.1 (subst (λ tree. AreGiven types arguments (imports_after other (with_type tree) is)) (sym same) k.1)
      ∙ ap (λ tree. exports_after other (with_type tree) is) same
    where
      with_type : TypeTree → NestedScope
      with_type tree = record { types = s.types ++ tree ∷ []; functions = s.functions ++ [] }
  same_after s (items.Import name (descriptions.Instance index) ∷ is) h k = same_after (with_item given s (items.Import name (descriptions.Instance index))) is h k
  same_after s (items.Export name sorts.Func index description ∷ is) h k =
      ap (λ l. ExportedFunction name.name (get_or s.functions index no_function) ∷ l) (same_after (with_item given s (items.Export name sorts.Func index description)) is h k)
  same_after s (items.Export name sorts.Type index description ∷ is) h k =
      ap (λ l. ExportedType name.name (get_or s.types index OfOthers) ∷ l) (same_after (with_item given s (items.Export name sorts.Type index description)) is h k)
  same_after s (i ∷ is) h k = same_after (with_item given s i) is h k

  pub same_exports : (all : List Item) → AreGiven types arguments (imports_after given empty_scope all) → AreGiven types arguments (imports_after other empty_scope all) →
      exports_after given empty_scope all ≡ exports_after other empty_scope all
  same_exports all h k = same_after empty_scope all h k
