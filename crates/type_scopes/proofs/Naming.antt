-- The types of an interface in a scope: what holds of each holds after the scope grew.
use Rattle.std.proofs.Common.{ℕ, List}
use Rattle.comp_lists.proofs.Lists.{AllByRecursion-weaker}
use Rattle.wit_data.specs.declared.ids.InterfaceId.{InterfaceId}
use Rattle.wit_data.specs.declared.ids.TypeId.{TypeId}
use Rattle.wit_data.specs.declared.types.Type.TheVariants.{Id}
use Rattle.comp_bytes.specs.declared.types.ComponentValType.{ComponentValType}
use Rattle.comp_bytes.specs.declared.types.ComponentValType.TheVariants as values
use Rattle.comp_trees.specs.Members.{Surroundings}
use Rattle.comp_trees.specs.Trees.{Resource}
use Rattle.comp_trees.specs.DefinedTrees.{TypeTree}
use Rattle.wit_types.specs.Settings.{Setting}
use Rattle.wit_types.specs.Denoting.{Longer}
use Rattle.wit_types.specs.Maps.{IsNamedValue}
use Rattle.wit_types.proofs.Growing.{value_on, named_on}
use Rattle.type_scopes.specs.Interfaces.{TypeIn, TypesIn}
use Rattle.type_scopes.specs.Offers.{Offer, placed}

value_named_on : (s : Setting) (N M : List ℕ → ℕ → Type 0) (id : TypeId) (v : ComponentValType) → ((name : List ℕ) (i : ℕ) → N name i → M name i) → IsNamedValue s N (Id id) v → IsNamedValue s M (Id id) v
value_named_on s N M id (values.Primitive p) kept h = h
value_named_on s N M id (values.Defined i) kept h = named_on s N M id i kept h

type_on : (s : Setting) (old new : List TypeTree) (N M : List ℕ → ℕ → Type 0) (id : TypeId) → Longer old new → ((name : List ℕ) (i : ℕ) → N name i → M name i) → TypeIn s old N id → TypeIn s new M id
type_on s old new N M id g kept h = record { value = h.value; denotes = value_on g h.denotes; named = value_named_on s N M id h.value kept h.named }

pub types_on : (s : Setting) (old new : List TypeTree) (N M : List ℕ → ℕ → Type 0) (ids : List TypeId) → Longer old new → ((name : List ℕ) (i : ℕ) → N name i → M name i) → TypesIn s old N ids → TypesIn s new M ids
types_on s old new N M ids g kept h = record { each = AllByRecursion-weaker {P = TypeIn s old N} {Q = TypeIn s new M} (λ id k. type_on s old new N M id g kept k) ids h.each }

-- whichever types were passed
module _ (s : Surroundings) (origin : TypeId → Resource) (o : Offer) (here : InterfaceId) (p q : List TypeId) (scope : List TypeTree) (N : List ℕ → ℕ → Type 0) where
  value_placed : (id : TypeId) (v : ComponentValType) → IsNamedValue (placed s origin o here p) N (Id id) v → IsNamedValue (placed s origin o here q) N (Id id) v
  value_placed id (values.Primitive x) h = record { no_name = h.no_name }
  value_placed id (values.Defined i) h = record { as_own = h.as_own }

  type_placed : (id : TypeId) → TypeIn (placed s origin o here p) scope N id → TypeIn (placed s origin o here q) scope N id
  type_placed id h = record { value = h.value; denotes = h.denotes; named = value_placed id h.value h.named }

  pub types_placed : (ids : List TypeId) → TypesIn (placed s origin o here p) scope N ids → TypesIn (placed s origin o here q) scope N ids
  types_placed ids h = record { each = AllByRecursion-weaker {P = TypeIn (placed s origin o here p) scope N} {Q = TypeIn (placed s origin o here q) scope N} (λ id k. type_placed id k) ids h.each }
