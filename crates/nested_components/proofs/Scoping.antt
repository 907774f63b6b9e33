-- What the items of a nested component make, and what a type is that an item makes.
use Rattle.std.proofs.Common.{◌≡◌, ◌∙◌, ◌+◌, arith, ℕ, List, [], ◌∷◌, ◌++◌, length, refl, ap, sym, subst, cond, get_or, append-nil}
use Rattle.std.specs.Prelude.{Result, Ok, Err, IfOk, OnOk, OnErr}
use Rattle.std.proofs.lemmas.List.{length-append}
use Rattle.std.proofs.lemmas.List.Sums.{sum_by-cons}
use Rattle.std.proofs.Math.Seq.{get_or-append_seam}
use Rattle.byte_encoding.specs.declared.fault.BuildFault.{BuildFault}
use Rattle.wit_data.specs.declared.ids.TypeId.{TypeId}
use Rattle.comp_bytes.specs.declared.space.Sort.TheVariants as sorts
use Rattle.comp_bytes.specs.declared.types.Description.TheVariants as descriptions
use Rattle.comp_bytes.specs.declared.types.TypeDef.{TypeDef}
use Rattle.comp_bytes.specs.declared.def.Item.{Item}
use Rattle.comp_bytes.specs.declared.def.Item.TheVariants as items
use Rattle.comp_trees.specs.Trees.{Resource, DefinedAt}
use Rattle.comp_trees.specs.DefinedTrees.{TypeTree, OfOthers}
use Rattle.comp_trees.specs.DefinedScopes.{Denotes, type_tree}
use Rattle.wit_types.specs.Denoting.{Longer, AddsOne, Makes}
use Rattle.wit_types.proofs.Growing.{longer_none}
use Rattle.nested_terms.specs.Nested.{NestedScope, empty_scope, with_item, scope_after, IsItemRight}
use Rattle.nested_components.specs.declared.contents.Contents.{Contents}
use Rattle.nested_components.specs.declared.stage.Stage.{Stage}
use Rattle.nested_components.specs.Homes.{Home}
use Rattle.nested_components.specs.Counts.{makes_type, types_in}
use Rattle.nested_components.specs.Growing.{scope_of, ItemsGrow, Grows}
use Rattle.nested_components.specs.Following.{scope_append, staged_none, items_none}

module _ (given : List ℕ → TypeTree) where
  length_with : (s : NestedScope) (i : Item) → length (with_item given s i).types ≡ length s.types + cond (makes_type i) 1 0
  length_with s (items.Type t) = length-append s.types (type_tree s.types (DefinedAt 0) t ∷ [])
  length_with s (items.Import name (descriptions.TypeEqual index)) = length-append s.types (get_or s.types index OfOthers ∷ [])
  length_with s (items.Import name descriptions.SubResource) = length-append s.types (given name.name ∷ [])
  length_with s (items.Export name sorts.Type index description) = length-append s.types (get_or s.types index OfOthers ∷ [])
  length_with s i = length-append s.types []

  length_after : (s : NestedScope) (is : List Item) → length (scope_after given s is).types ≡ length s.types + types_in is
  length_after s [] = omega arith
  length_after s (i ∷ is) =
      let later = length_after (with_item given s i) is in
      let here = length_with s i in
      let count = sum_by-cons (λ x. cond (makes_type x) 1 0) i is in
      later ∙ (ap (λ n. n + types_in is) here ∙ (omega arith ∙ ap (λ n. length s.types + n) (sym count)))

  -- the number of types of the scope is that of the items that make one
  pub length_scope : (is : List Item) → length (scope_of given is).types ≡ types_in is
  length_scope is = length_after empty_scope is ∙ omega arith

  -- the scope with one item more
  pub scope_more : (old new : List Item) (i : Item) → new ≡ old ++ i ∷ [] → scope_of given new ≡ with_item given (scope_of given old) i
  scope_more old new i is = ap (scope_of given) is ∙ scope_append given empty_scope old (i ∷ [])

  -- an item that makes this type
  module _ (old new : List Item) (i : Item) (type : TypeTree) (makes : (with_item given (scope_of given old) i).types ≡ (scope_of given old).types ++ type ∷ []) (is : new ≡ old ++ i ∷ []) where
    pub types_more : AddsOne (scope_of given old).types (scope_of given new).types type
    types_more = record { added = ap (λ (s : NestedScope). s.types) (scope_more old new i is) ∙ makes }

    pub denotes_new : (index : ℕ) → index ≡ types_in old → Denotes (scope_of given new).types index type
    denotes_new index at =
        let types = (scope_of given old).types in
        subst (λ ts. Denotes ts index type) (sym types_more.added)
        (subst (λ k. Denotes (types ++ type ∷ []) k type) (length_scope old ∙ sym at)
        (record { within = omega (arith, length-append types (type ∷ [])); tree = get_or-append_seam types type [] OfOthers }))

  module _ (old new : List Item) (t : TypeDef) where
    abbrev defined : TypeTree
    defined = type_tree (scope_of given old).types (DefinedAt 0) t

    -- the result of a call that defines a type
    pub type_added : (r : Result ℕ BuildFault) → IfOk r (λ i. i ≡ types_in old) → OnOk r (new ≡ old ++ items.Type t ∷ []) → OnErr r (new ≡ old) → Makes (scope_of given old).types (scope_of given new).types r defined
    type_added (Ok i) at is same = (types_more old new (items.Type t) defined refl is, denotes_new old new (items.Type t) defined refl is i at)
    type_added (Err e) at is same = subst (λ now. Longer (scope_of given old).types (scope_of given now).types) (sym same) (longer_none (scope_of given old).types)

    grown_by : IsItemRight given (scope_of given old) (items.Type t) → new ≡ old ++ items.Type t ∷ [] → ItemsGrow given old new [] [] [] []
    grown_by right is = record {
      more = items.Type t ∷ [];
      grown = is;
      right = (right, tt);
      imported = refl;
      typed = refl;
      exported = refl;
      made = ap (λ (s : NestedScope). s.functions) (scope_more old new (items.Type t) is);
    }

  pub type_grown : (origin : TypeId → Resource) (home : Home) (stage : Stage) (old new : Contents) (t : TypeDef) (r : Result ℕ BuildFault) → new.taken ≡ old.taken → new.types ≡ old.types → IsItemRight given (scope_of given old.items) (items.Type t) →
      OnOk r (new.items ≡ old.items ++ items.Type t ∷ []) → OnErr r (new.items ≡ old.items) → Grows given origin home stage old new []
  type_grown origin home stage old new t (Ok i) kept still right is same =
      record { more = []; staged = staged_none stage; chosen = refl; taken = kept ∙ sym (append-nil old.taken); types = still ∙ sym (append-nil old.types); own = tt; items = grown_by old.items new.items t right is }
  type_grown origin home stage old new t (Err e) kept still right is same =
      record { more = []; staged = staged_none stage; chosen = refl; taken = kept ∙ sym (append-nil old.taken); types = still ∙ sym (append-nil old.types); own = tt; items = subst (λ now. ItemsGrow given old.items now [] [] [] []) (sym same) (items_none given old.items) }
