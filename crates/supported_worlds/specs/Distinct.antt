-- Whether nothing occurs twice in a list, as a test; and whether a key is new to a table. (The test
-- of std's `IsDistinct`.)
use Rattle.std.specs.Prelude.{Bool, true, not, ◌&&◌, List, [], ◌∷◌, is_none}
use Rattle.std.specs.List.{list_all, list_any}
use Rattle.std.specs.Map.{lookup}

abbrev pub are_apart : {K : Type 0} → (K → K → Bool) → List K → Bool
are_apart same [] = true
are_apart same (k ∷ ks) = not (list_any (same k) ks) && are_apart same ks

-- whether a table has no entry of a key
abbrev pub is_new : {K X : Type 0} → (K → K → Bool) → List (K × X) → K → Bool
is_new same table k = is_none (lookup (same k) table)

abbrev pub are_new : {K X : Type 0} → (K → K → Bool) → List (K × X) → List K → Bool
are_new same table ks = list_all (is_new same table) ks
