-- Deeds that can be done are never stuck.
use Rattle.std.proofs.Common.{◌≡◌, ℕ, zero, suc, ◌+◌, ◌^◌, List, [], ◌∷◌, map, Bool, true, false, Option, Some, refl, sym, subst}
use Rattle.std.specs.Prelude.{slice_get, slice_set, if◌then◌else◌, nat_lt, option_map}
use Rattle.std.proofs.lemmas.Option.{slice_get-map}
use Rattle.std.proofs.lemmas.Bool.{lt-ltb}
use Rattle.core_types.specs.declared.types.ValType.{ValType}
use Rattle.core_types.specs.declared.types.ValType.TheVariants.{I32}
use Rattle.core_runs.specs.Values.{Value, I32Value, fit}
use Rattle.core_runs.specs.Store.{Cell, Kept, Foreign, Answer, Gives, Traps, Called, SetForeign, Stored, Now, Outcome, Returned, Trapped, Open, Stuck}
use Rattle.core_runs.specs.Execution.{with_item, where_true, and_then, answered, seen, renewed, read_given, read_cell, write_cell}
use Rattle.core_runs.specs.Starts.{Deed, Fills, Calls, Sets, Sums, Stores, read_at, write_at, added, sum_of, deed_done, deeds_done}
use Rattle.core_runs.specs.Expected.{NotStuck}
use Rattle.core_runs.specs.LawsOfStarts.{IsNumber, CanBeDone, CanEachBeDone, DeedsAreNotStuck}
use Rattle.core_runs.proofs.Throughout.{below}

-- The run is not stuck, and each number that was in a global is there where it continues.
abbrev Keeps : List Cell → Outcome → Type 0
Keeps old (Returned rs now) = (g : ℕ) → IsNumber (slice_get old g) → IsNumber (slice_get now.globals g)
Keeps old (Trapped cause now) = Unit {0}
Keeps old (Open now) = Unit {0}
Keeps old Stuck = ⊥

-- a number is read
if_keeps : (old : List Cell) (b : Bool) (x : Outcome) (now : Now) → Keeps old x → Keeps old (if b then x else Open now)
if_keeps old true x now h = h
if_keeps old false x now h = tt

given_keeps : (old : List Cell) (answers : List Answer) (now : Now) (go : Value → Now → Outcome) → ((n : ℕ) (left : List Answer) → Keeps old (go (I32Value n) (record now { answers = left }))) → Keeps old (read_given I32 answers now go)
given_keeps old [] now go h = tt
given_keeps old (Traps ∷ answers) now go h = tt
given_keeps old (Gives [] number ∷ answers) now go h = tt
given_keeps old (Gives (I32Value n ∷ []) number ∷ answers) now go h = if_keeps old (nat_lt n (2 ^ 32)) _ now (h n answers)
given_keeps old (Gives (v ∷ []) number ∷ answers) now go h = tt
given_keeps old (Gives (v ∷ w ∷ vs) number ∷ answers) now go h = tt

read_keeps : (old : List Cell) (cell : Option Cell) (now : Now) (go : Value → Now → Outcome) → IsNumber cell → ((n : ℕ) (left : List Answer) → Keeps old (go (I32Value n) (record now { answers = left }))) → Keeps old (with_item cell (λ c. read_cell c now go))
read_keeps old (Some (Kept I32 (I32Value x))) now go is h = h x now.answers
read_keeps old (Some (Foreign what I32)) now go is h = given_keeps old now.answers now go h
read_keeps old cell now go is h = absurd is

sum_keeps : (b o : ℕ) (now : Now) (go : ℕ → Now → Outcome) → IsNumber (slice_get now.globals b) → IsNumber (slice_get now.globals o) → ((s : ℕ) (left : List Answer) → nat_lt s (2 ^ 32) ≡ true → Keeps now.globals (go s (record now { answers = left }))) → Keeps now.globals (sum_of b o now go)
sum_keeps b o now go nb no' h =
    read_keeps now.globals (slice_get now.globals b) now (λ v first. read_at o first (λ w second. added v w (λ s. go s second))) nb (λ x left.
    read_keeps now.globals (slice_get now.globals o) (record now { answers = left }) (λ w second. added (I32Value x) w (λ s. go s second)) no' (λ y rest. h _ rest (below (x + y))))

-- a number is unchanged where another is set
still_number : (cells : List Cell) (g i s : ℕ) → IsNumber (slice_get cells i) → IsNumber (slice_get (slice_set cells g (Kept I32 (I32Value s))) i)
still_number [] g i s h = h
still_number (c ∷ cells) zero zero s h = tt
still_number (c ∷ cells) zero (suc i) s h = h
still_number (c ∷ cells) (suc g) zero s h = h
still_number (c ∷ cells) (suc g) (suc i) s h = still_number cells g i s h

write_keeps : (old : List Cell) (g s : ℕ) (cell : Option Cell) (now : Now) → now.globals ≡ old → IsNumber cell → nat_lt s (2 ^ 32) ≡ true → Keeps old (with_item cell (λ c. write_cell g c (I32Value s) now (λ after. Returned [] after)))
write_keeps old g s (Some (Kept I32 (I32Value x))) now e is fine =
    subst (λ b. Keeps old (where_true b (Returned [] (record now { globals = slice_set now.globals g (Kept I32 (I32Value s)) })))) (sym fine) (λ i h. subst (λ (l : List Cell). IsNumber (slice_get (slice_set l g (Kept I32 (I32Value s))) i)) (sym e) (still_number old g i s h))
write_keeps old g s (Some (Foreign what I32)) now e is fine =
    subst (λ b. Keeps old (where_true b (Returned [] (seen now (SetForeign what (I32Value s)))))) (sym fine) (λ i h. subst (λ (l : List Cell). IsNumber (slice_get l i)) (sym e) h)
write_keeps old g s cell now e is fine = absurd is

-- numbers are unchanged over a call from outside
renewed_number : (number : ℕ) (cell : Option Cell) → IsNumber cell → IsNumber (option_map (renewed number) cell)
renewed_number number (Some (Kept I32 (I32Value x))) h = tt
renewed_number number (Some (Foreign what I32)) h = tt
renewed_number number cell h = absurd h

answered_keeps : (ts : List ValType) (answers : List Answer) (now : Now) → Keeps now.globals (answered ts answers now)
answered_keeps ts [] now = tt
answered_keeps ts (Traps ∷ answers) now = tt
answered_keeps ts (Gives rs number ∷ answers) now =
    if_keeps now.globals (fit ts rs) (Returned rs (record now { globals = map (renewed number) now.globals; answers = answers })) now (λ g h. subst IsNumber (sym (slice_get-map (renewed number) now.globals g)) (renewed_number number (slice_get now.globals g) h))

deed_keeps : (d : Deed) (now : Now) → CanBeDone now.globals d → Keeps now.globals (deed_done d now)
deed_keeps (Fills g f) now h = absurd h
deed_keeps (Calls target arguments) now h =
    let call = Called target.address arguments in
    subst (λ b. Keeps now.globals (where_true b (answered target.signature.results now.answers (seen now call)))) (sym h) (answered_keeps target.signature.results now.answers (seen now call))
deed_keeps (Sets g number) now h =
    write_keeps now.globals g number (slice_get now.globals g) now refl h.0 (lt-ltb number (2 ^ 32) h.1)
deed_keeps (Sums b o g) now h =
    sum_keeps b o now (λ s after. write_at g (I32Value s) after) h.0 h.1 (λ s left fine. write_keeps now.globals g s (slice_get now.globals g) (record now { answers = left }) refl h.2 fine)
deed_keeps (Stores b o m a) now h =
    sum_keeps b o now (λ s after. Returned [] (seen after (Stored m a s))) h.0 h.1 (λ s left fine g is. is)

still : (old new : List Cell) (d : Deed) → ((g : ℕ) → IsNumber (slice_get old g) → IsNumber (slice_get new g)) → CanBeDone old d → CanBeDone new d
still old new (Fills g f) keeps h = h
still old new (Calls target arguments) keeps h = h
still old new (Sets g number) keeps h = (keeps g h.0, h.1)
still old new (Sums b o g) keeps h = (keeps b h.0, keeps o h.1, keeps g h.2)
still old new (Stores b o m a) keeps h = (keeps b h.0, keeps o h.1)

still_each : (old new : List Cell) (ds : List Deed) → ((g : ℕ) → IsNumber (slice_get old g) → IsNumber (slice_get new g)) → CanEachBeDone old ds → CanEachBeDone new ds
still_each old new [] keeps h = tt
still_each old new (d ∷ ds) keeps h = (still old new d keeps h.0, still_each old new ds keeps h.1)

then_not_stuck : (old : List Cell) (o : Outcome) (k : List Value → Now → Outcome) → Keeps old o → ((rs : List Value) (after : Now) → ((g : ℕ) → IsNumber (slice_get old g) → IsNumber (slice_get after.globals g)) → NotStuck (k rs after)) → NotStuck (and_then o k)
then_not_stuck old (Returned rs now) k h f = f rs now h
then_not_stuck old (Trapped cause now) k h f = tt
then_not_stuck old (Open now) k h f = tt
then_not_stuck old Stuck k h f = absurd h

pub deeds_are_not_stuck : DeedsAreNotStuck
deeds_are_not_stuck [] now h = tt
deeds_are_not_stuck (d ∷ ds) now h =
    then_not_stuck now.globals (deed_done d now) (λ rs after. deeds_done ds after) (deed_keeps d now h.0) (λ rs after keeps. deeds_are_not_stuck ds after (still_each now.globals after.globals ds keeps h.1))
