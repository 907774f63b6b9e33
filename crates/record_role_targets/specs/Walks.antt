-- A walk over streams and futures in their order, which notes those whose numbers are wanted and
-- ends at the last of these.
use Rattle.std.specs.Prelude.{◌≡◌, ℕ, ◌+◌, nat_eq, nat_lt, List, [], ◌∷◌, Option, Some, None, if◌then◌else◌}
use Rattle.std.specs.List.{slice_get}
use Rattle.std.specs.Map.{lookup}
use Rattle.comp_lists.specs.Tables.{with_first}
use Rattle.wit_data.specs.declared.ids.TypeId.{TypeId}
use Rattle.record_role_targets.specs.declared.walks.Walk.{Walk}
use Rattle.record_role_targets.specs.declared.wanted.Wanted.{Wanted}
use Rattle.record_role_targets.specs.Wanted.{has_number, IsNumber}

-- the number after one, unless that is the last
abbrev pub next_after : Wanted → ℕ → Option ℕ
next_after w n = if nat_lt n w.last then Some (n + 1) else None

abbrev pub noted : Wanted → List (ℕ × TypeId) → ℕ → TypeId → List (ℕ × TypeId)
noted w found n t = if has_number w n then with_first nat_eq found n t else found

-- a walk that is at this number, over one stream or future more
abbrev pub passed_at : Wanted → Walk → Option ℕ → TypeId → Walk
passed_at w walk None t = walk
passed_at w walk (Some n) t = record { next = next_after w n; found = noted w walk.found n t }

abbrev pub passed : Wanted → Walk → TypeId → Walk
passed w walk t = passed_at w walk walk.next t

-- a walk over these
abbrev pub walked : Wanted → Walk → List TypeId → Walk
walked w walk [] = walk
walked w walk (t ∷ ts) = walked w (passed w walk t) ts

-- What a table has under each number that is wanted is what the list has there.
pub record FindsNumbers (met : List TypeId) (w : Wanted) (table : List (ℕ × TypeId)) : Type 0 where
  pub found : (n : ℕ) → IsNumber w n → lookup (nat_eq n) table ≡ slice_get met n
