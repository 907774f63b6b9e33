-- What the instance of a nested component exports is what the inventory says: the types that are
-- given for its imports are those that its arguments denote.
use Rattle.std.proofs.Common.{◌≡◌, ◌∙◌, ℕ, List, [], ◌∷◌, ◌++◌, Some, None, append-nil, map, get_or, refl, sym, ap}
use Rattle.std.proofs.lemmas.Option.{get_or_from_slice_get}
use Rattle.std.specs.List.{AllByRecursion, slice_get}
use Rattle.comp_bytes.specs.declared.space.Sort.TheVariants as sorts
use Rattle.comp_bytes.specs.declared.types.Description.TheVariants as descriptions
use Rattle.comp_bytes.specs.declared.def.Argument.{Argument}
use Rattle.comp_bytes.specs.declared.def.Item.{Item}
use Rattle.comp_bytes.specs.declared.def.Item.TheVariants as items
use Rattle.comp_bytes.specs.declared.def.Def.{Def}
use Rattle.comp_trees.specs.DefinedTrees.{TypeTree, OfOthers}
use Rattle.nested_terms.specs.Nested.{NestedScope, no_function, ExportedFunction, ExportedType, empty_scope, with_item, imports_after, exports_after}
use Rattle.comp_inventories.specs.Inventories.{Inventory, InstanceEntry, NestedInstance, OtherInstance, entry_tree, inventory, instances_made, scope_of, type_of_argument, given_by, nested_exports}
use Rattle.comp_inventories.proofs.Inventories.{inventory-push}
use Rattle.comp_inventories.proofs.Counting.{instances-counted}
use Rattle.comp_inventories.proofs.Components.{component_at}
use Rattle.comp_terms.specs.Instances.{IsTypeGiven, IsImportGiven}
use Rattle.comp_bytes.specs.ItemIndices.{IsAt}
use Rattle.comp_bytes.specs.Spaces.{items_in}
use Rattle.comp_bytes.specs.declared.space.Space.TheVariants as spaces
use Rattle.comp_bytes.specs.declared.types.ExternName.{ExternName}
use Rattle.comp_bytes.specs.declared.def.Def.TheVariants as defs
use Rattle.comp_lists.proofs.Lists.{slice_get-end}

module _ (earlier : List Def) (arguments : List Argument) (given : List ℕ → TypeTree) where
  abbrev here : List ℕ → TypeTree
  here = given_by (scope_of earlier) arguments

  -- the argument of a name denotes what is said to be given for it
  one_given : (name : List ℕ) (tree : TypeTree) → IsTypeGiven earlier arguments name tree → tree ≡ here name
  one_given name tree h = sym h.denotes.tree ∙ sym (ap (type_of_argument (scope_of earlier)) h.named)

  pub same_given : (s : NestedScope) (all : List Item) → AllByRecursion (IsImportGiven earlier arguments) (imports_after given s all) → exports_after given s all ≡ exports_after here s all
  same_given s [] h = refl
  same_given s (items.Import name (descriptions.Func kind) ∷ is) h = same_given (with_item given s (items.Import name (descriptions.Func kind))) is h.1
  same_given s (items.Import name (descriptions.TypeEqual index) ∷ is) h = same_given (with_item given s (items.Import name (descriptions.TypeEqual index))) is h.1
  same_given s (items.Import name descriptions.SubResource ∷ is) h =
      same_given (with_type (given name.name)) is h.1 ∙ ap (λ tree. exports_after here (with_type tree) is) (one_given name.name (given name.name) h.0)
    where
      with_type : TypeTree → NestedScope
      with_type tree = record { types = s.types ++ tree ∷ []; functions = s.functions ++ [] }
  same_given s (items.Import name (descriptions.Instance index) ∷ is) h = same_given (with_item given s (items.Import name (descriptions.Instance index))) is h
  same_given s (items.Export name sorts.Func index description ∷ is) h =
      ap (λ l. ExportedFunction name.name (get_or s.functions index no_function) ∷ l) (same_given (with_item given s (items.Export name sorts.Func index description)) is h)
  same_given s (items.Export name sorts.Type index description ∷ is) h =
      ap (λ l. ExportedType name.name (get_or s.types index OfOthers) ∷ l) (same_given (with_item given s (items.Export name sorts.Type index description)) is h)
  same_given s (i ∷ is) h = same_given (with_item given s i) is h

-- ---- what the inventory says of instances

-- an instance that is made
instance_made : (ds : List Def) (d : Def) (e : InstanceEntry) → instances_made (inventory ds) d ≡ e ∷ [] → slice_get (inventory (ds ++ d ∷ [])).instances (items_in spaces.Instance ds) ≡ Some e
instance_made ds d e made =
    ap (λ (v : Inventory). slice_get v.instances (items_in spaces.Instance ds)) (inventory-push ds d)
    ∙ (ap (λ l. slice_get ((inventory ds).instances ++ l) (items_in spaces.Instance ds)) made
    ∙ (ap (slice_get ((inventory ds).instances ++ e ∷ [])) (sym (instances-counted ds)) ∙ slice_get-end (inventory ds).instances e))

-- of a nested component that was added before it
pub nested_entry : (old mid new : List Def) (definitions : List Item) (component index : ℕ) (arguments : List Argument) → mid ≡ old ++ defs.Component definitions ∷ [] → IsAt mid spaces.Component component (defs.Component definitions) →
    new ≡ mid ++ defs.Item (items.Instantiate component arguments) ∷ [] → index ≡ items_in spaces.Instance mid →
    slice_get (inventory new).instances index ≡ Some (NestedInstance (exports_after (given_by (scope_of old) arguments) empty_scope definitions))
nested_entry old mid new definitions component index arguments added at more is =
    let of : get_or (inventory mid).components component [] ≡ definitions = get_or_from_slice_get (inventory mid).components component definitions [] (component_at mid component definitions at) in
    let scope : scope_of mid ≡ scope_of old = ap scope_of added ∙ (ap (λ (v : Inventory). map entry_tree v.types) (inventory-push old (defs.Component definitions)) ∙ ap (map entry_tree) (append-nil (inventory old).types)) in
    let same : nested_exports (inventory mid) component arguments ≡ exports_after (given_by (scope_of old) arguments) empty_scope definitions =
    ap (λ is. exports_after (given_by (scope_of mid) arguments) empty_scope is) of ∙ ap (λ ts. exports_after (given_by ts arguments) empty_scope definitions) scope in
    ap (λ ds. slice_get (inventory ds).instances index) more
    ∙ (ap (slice_get (inventory (mid ++ defs.Item (items.Instantiate component arguments) ∷ [])).instances) is
    ∙ instance_made mid (defs.Item (items.Instantiate component arguments)) (NestedInstance (exports_after (given_by (scope_of old) arguments) empty_scope definitions)) (ap (λ e. NestedInstance e ∷ []) same))

-- what is exported is what it was
pub exported_entry : (old new : List Def) (name : ExternName) (index exported : ℕ) (e : InstanceEntry) → slice_get (inventory old).instances index ≡ Some e → new ≡ old ++ defs.Item (items.Export name sorts.Instance index None) ∷ [] → exported ≡ items_in spaces.Instance old →
    slice_get (inventory new).instances exported ≡ Some e
exported_entry old new name index exported e there more is =
    ap (λ ds. slice_get (inventory ds).instances exported) more
    ∙ (ap (slice_get (inventory (old ++ defs.Item (items.Export name sorts.Instance index None) ∷ [])).instances) is
    ∙ instance_made old (defs.Item (items.Export name sorts.Instance index None)) e (ap (λ x. x ∷ []) (get_or_from_slice_get (inventory old).instances index e OtherInstance there)))
