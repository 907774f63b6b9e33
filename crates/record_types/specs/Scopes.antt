-- The types that may be named in an interface or in the world.
use Rattle.std.specs.Prelude.{ℕ, List, Bool}
use Rattle.record_types.specs.declared.known.TypeFacts.{TypeFacts}
use Rattle.record_types.specs.declared.known.ReadInterface.{ReadInterface}
use Rattle.record_types.specs.declared.known.Scope.{Scope}

-- named types, with what is known of them
abbrev pub Table : Type 0
Table = List (List ℕ × TypeFacts)

-- the interfaces before, and the named types of the interface that is being read, or of the world
pub record Names : Type 0 where
  pub done : List ReadInterface
  pub current : Table
  pub is_world : Bool

abbrev pub names_in : Scope → Names
names_in s = record { done = s.done.now; current = s.current.now; is_world = s.is_world }
