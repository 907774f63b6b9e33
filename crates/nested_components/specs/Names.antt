-- How the names of imports grow.
use Rattle.std.specs.Prelude.{ℕ, ◌≡◌, List, [], ◌∷◌, ◌++◌}
use Rattle.nested_terms.specs.Naming.{IsFirstFree}

-- one more name, which is free
pub record AddsName (old new : List (List ℕ)) (plain : List ℕ) : Type 0 where
  pub name : List ℕ
  pub free : IsFirstFree old plain name
  pub added : new ≡ old ++ name ∷ []
