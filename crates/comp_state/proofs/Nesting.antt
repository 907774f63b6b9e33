-- The items of a right nested component name earlier items of its own scope (component model,
-- binary format: index spaces).
use Rattle.std.proofs.Common.{◌≡◌, ◌∙◌, ◌+◌, ◌<◌, ℕ, zero, suc, cond, List, [], ◌∷◌, ◌++◌, length, get_or, refl, ap, sym, subst, arith, Some, None}
use Rattle.std.proofs.lemmas.List.{length-append}
use Rattle.std.proofs.lemmas.List.Sums.{sum_by_push}
use Rattle.comp_bytes.specs.Spaces.{is_space, item_space}
use Rattle.comp_bytes.specs.References.{Reference, own}
use Rattle.comp_bytes.specs.Scopes.{Scope, scope_of, InScope, EachIn, ItemScoped}
use Rattle.comp_bytes.specs.declared.space.Sort.TheVariants as sorts
use Rattle.comp_bytes.specs.declared.space.Space.{Space}
use Rattle.comp_bytes.specs.declared.space.Space.TheVariants as spaces
use Rattle.comp_bytes.specs.declared.types.Description.TheVariants as descriptions
use Rattle.comp_bytes.specs.declared.types.TypeDef.TheVariants as types
use Rattle.comp_bytes.specs.declared.def.Item.{Item}
use Rattle.comp_bytes.specs.declared.def.Item.TheVariants as items
use Rattle.comp_trees.specs.Trees.{FunctionTree}
use Rattle.comp_trees.specs.DefinedTrees.{TypeTree, OfFunctions, OfOthers}
use Rattle.comp_trees.proofs.KnownScopes.{known_defined, known_function_names}
use Rattle.nested_terms.specs.Nested.{NestedScope, empty_scope, with_item, IsItemRight, AreItemsRight}

-- how many items of this space an item makes
abbrev makes : Space → Item → ℕ
makes space i = cond (is_space space (item_space i)) 1 0

-- the scope has what the items before it make
record IsCounted (s : NestedScope) (before : List Item) : Type 0 where
  types : length s.types ≡ scope_of item_space before spaces.Type
  functions : length s.functions ≡ scope_of item_space before spaces.Func

function_in_range : (scope : List TypeTree) (index : ℕ) (type : FunctionTree) → get_or scope index OfOthers ≡ OfFunctions type → index < length scope
function_in_range [] index type e = cc
function_in_range (t ∷ ts) zero type e = omega arith
function_in_range (t ∷ ts) (suc n) type e = let rest = function_in_range ts n type e in omega (arith, rest)

module _ (given : List ℕ → TypeTree) where
  types_made : (s : NestedScope) (i : Item) → IsItemRight given s i → length (with_item given s i).types ≡ length s.types + makes spaces.Type i
  types_made s (items.Type (types.Func f)) h = length-append s.types _
  types_made s (items.Type (types.Defined t)) h = length-append s.types _
  types_made s (items.Import name (descriptions.Func kind)) h = length-append s.types _
  types_made s (items.Import name (descriptions.TypeEqual index)) h = length-append s.types _
  types_made s (items.Import name descriptions.SubResource) h = length-append s.types _
  types_made s (items.Export name sorts.Func index (Some (descriptions.Func kind))) h = length-append s.types _
  types_made s (items.Export name sorts.Type index None) h = length-append s.types _
  types_made s i h = absurd h

  functions_made : (s : NestedScope) (i : Item) → IsItemRight given s i → length (with_item given s i).functions ≡ length s.functions + makes spaces.Func i
  functions_made s (items.Type (types.Func f)) h = length-append s.functions _
  functions_made s (items.Type (types.Defined t)) h = length-append s.functions _
  functions_made s (items.Import name (descriptions.Func kind)) h = length-append s.functions _
  functions_made s (items.Import name (descriptions.TypeEqual index)) h = length-append s.functions _
  functions_made s (items.Import name descriptions.SubResource) h = length-append s.functions _
  functions_made s (items.Export name sorts.Func index (Some (descriptions.Func kind))) h = length-append s.functions _
  functions_made s (items.Export name sorts.Type index None) h = length-append s.functions _
  functions_made s i h = absurd h

  counted_with : (s : NestedScope) (before : List Item) (i : Item) → IsItemRight given s i → IsCounted s before → IsCounted (with_item given s i) (before ++ i ∷ [])
  counted_with s before i right counted = record {
    types = types_made s i right ∙ (ap (λ n. n + makes spaces.Type i) counted.types ∙ sym (sum_by_push (makes spaces.Type) before i));
    functions = functions_made s i right ∙ (ap (λ n. n + makes spaces.Func i) counted.functions ∙ sym (sum_by_push (makes spaces.Func) before i));
  }

  module _ (outer : Scope) where
    abbrev Within : List Item → Reference → Type 0
    Within before = InScope (scope_of item_space before ∷ outer ∷ [])

    type_named : (s : NestedScope) (before : List Item) → IsCounted s before → (index : ℕ) → index < length s.types → Within before (own spaces.Type index)
    type_named s before counted index l = subst (λ n. index < n) counted.types l

    function_named : (s : NestedScope) (before : List Item) → IsCounted s before → (index : ℕ) → index < length s.functions → Within before (own spaces.Func index)
    function_named s before counted index l = subst (λ n. index < n) counted.functions l

    item_scoped : (s : NestedScope) (before : List Item) → IsCounted s before → (i : Item) → IsItemRight given s i → ItemScoped (outer ∷ []) (scope_of item_space before) i
    item_scoped s before counted (items.Type (types.Func f)) h = (known_function_names (Within before) s.types (type_named s before counted) f h, tt)
    item_scoped s before counted (items.Type (types.Defined t)) h = (known_defined (Within before) s.types (type_named s before counted) t h, tt)
    item_scoped s before counted (items.Import name (descriptions.Func kind)) h = ((type_named s before counted kind (function_in_range s.types kind h.type h.tree), tt), tt)
    item_scoped s before counted (items.Import name (descriptions.TypeEqual index)) h = ((type_named s before counted index h, tt), tt)
    item_scoped s before counted (items.Import name descriptions.SubResource) h = (tt, tt)
    item_scoped s before counted (items.Export name sorts.Func index (Some (descriptions.Func kind))) h =
        ((function_named s before counted index h.0, (type_named s before counted kind h.1, tt)), tt)
    item_scoped s before counted (items.Export name sorts.Type index None) h = ((type_named s before counted index h, tt), tt)
    item_scoped s before counted i h = absurd h

    each_scoped : (s : NestedScope) (before is : List Item) → IsCounted s before → AreItemsRight given s is → EachIn item_space (ItemScoped (outer ∷ [])) before is
    each_scoped s before [] counted h = tt
    each_scoped s before (i ∷ is) counted h =
        (item_scoped s before counted i h.0, each_scoped (with_item given s i) (before ++ i ∷ []) is (counted_with s before i h.0 counted) h.1)

    pub nested_scoped : (is : List Item) → AreItemsRight given empty_scope is → EachIn item_space (ItemScoped (outer ∷ [])) [] is
    nested_scoped is h = each_scoped empty_scope [] is (record { types = refl; functions = refl }) h
