-- What type indices and value types denote in a scope, and how a scope grows (component model, explainer: type
-- definitions; binary: type indices).
use Rattle.std.specs.Prelude.{ℕ, ◌≡◌, ◌<◌, List, [], ◌∷◌, ◌++◌, Option, Some, None, Result, Ok, Err}
use Rattle.std.specs.List.{AllByRecursion}
use Rattle.byte_encoding.specs.declared.fault.BuildFault.{BuildFault}
use Rattle.byte_encoding.specs.declared.fault.BuildFault.TheVariants.{Memory, TooMany}
use Rattle.comp_bytes.specs.declared.space.Space.TheVariants as spaces
use Rattle.comp_bytes.specs.declared.types.ComponentValType.{ComponentValType}
use Rattle.comp_bytes.specs.References.{Reference, own}
use Rattle.comp_trees.specs.Trees.{Tree}
use Rattle.comp_trees.specs.DefinedTrees.{TypeTree}
use Rattle.comp_trees.specs.DefinedScopes.{Denotes, IsValue}

-- more types stand behind the old ones
pub record Longer (old new : List TypeTree) : Type 0 where
  pub more : List TypeTree
  pub longer : new ≡ old ++ more

-- this one type stands behind the old ones
pub record AddsOne (old new : List TypeTree) (t : TypeTree) : Type 0 where
  pub added : new ≡ old ++ t ∷ []

-- each item that is referred to is one of the first so many types of the scope
abbrev pub AreTypes : ℕ → List Reference → Type 0
AreTypes count references = AllByRecursion (λ r. (r ≡ own spaces.Type r.index) × (r.index < count)) references

-- the value type is this
pub record ValueDenotes (scope : List TypeTree) (v : ComponentValType) (t : Tree) : Type 0 where
  pub is : IsValue scope v t

-- The result of a call that defines a type: the scope has this type more and no other, and the
-- index denotes it. A refusal leaves the types that there were.
abbrev pub Makes : List TypeTree → List TypeTree → Result ℕ BuildFault → TypeTree → Type 0
Makes old new (Ok index) t = AddsOne old new t × Denotes new index t
Makes old new (Err e) t = Longer old new

-- The same of a call that may define none.
abbrev pub MayMake : List TypeTree → List TypeTree → Result (Option ℕ) BuildFault → TypeTree → Type 0
MayMake old new (Ok (Some index)) t = AddsOne old new t × Denotes new index t
MayMake old new (Ok None) t = new ≡ old
MayMake old new (Err e) t = Longer old new

-- Out of memory, or a count for which a call of the scope may have refused, which left the scope so.
abbrev pub IsCause : {S : Type 0} → (S → ℕ → Type 0) → S → BuildFault → Type 0
IsCause refuses scope Memory = Unit {0}
IsCause refuses scope (TooMany count) = refuses scope count

-- the index of an export, or that of the type that is not exported
abbrev pub exported_or : Option ℕ → ℕ → ℕ
exported_or None index = index
exported_or (Some export) index = export
