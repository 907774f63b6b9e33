-- Whether the types among imports are in place, followed from import to import. (This project's own.)
use Rattle.std.specs.Prelude.{◌≡◌, ℕ, false, List, ◌∷◌, Option}
use Rattle.std.specs.Option.{option_map_or}
use Rattle.wit_data.specs.declared.types.TypeDef.{TypeDef}
use Rattle.wit_data.specs.declared.worlds.WorldItem.{WorldItem}
use Rattle.wit_data.specs.declared.worlds.WorldKey.{WorldKey}
use Rattle.supported_worlds.specs.Placed.{imported_numbers, are_in_place}

-- With the type of this number next, types are in place from one number on exactly where the others
-- are from the answer on; without an answer, they are not.
pub record Follows (types : List TypeDef) (next n : ℕ) (answer : Option ℕ) : Type 0 where
  pub then : (ns : List ℕ) → are_in_place types next (n ∷ ns) ≡ option_map_or (λ m. are_in_place types m ns) answer false

-- The same with this import next.
pub record FollowsImport (types : List TypeDef) (next : ℕ) (entry : WorldKey × WorldItem) (answer : Option ℕ) : Type 0 where
  pub then : (rest : List (WorldKey × WorldItem)) → are_in_place types next (imported_numbers (entry ∷ rest)) ≡ option_map_or (λ m. are_in_place types m (imported_numbers rest)) answer false
