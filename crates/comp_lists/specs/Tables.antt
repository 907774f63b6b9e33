-- Tables as lists of their entries. (No standard speaks of them.)
use Rattle.std.specs.Prelude.{Bool, List, [], ◌∷◌, ◌++◌, is_some, if◌then◌else◌}
use Rattle.std.specs.Map.{lookup}

-- a table with one more entry, unless its key has one, which is kept
abbrev pub with_first : {K X : Type 0} → (K → K → Bool) → List (K × X) → K → X → List (K × X)
with_first eq table key value = if is_some (lookup (eq key) table) then table else table ++ (key, value) ∷ []
