-- Tables that are made of lists of entries. (No standard defines them.)
use Rattle.std.specs.Prelude.{Bool, List, [], ◌∷◌}
use Rattle.comp_lists.specs.Tables.{with_first}

-- a table to which each of these entries is added, if its key has none yet
abbrev pub with_all : {K X : Type 0} → (K → K → Bool) → List (K × X) → List (K × X) → List (K × X)
with_all eq table [] = table
with_all eq table (e ∷ es) = with_all eq (with_first eq table e.0 e.1) es
