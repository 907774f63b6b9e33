-- Laws of start functions: what the values of `Bodies` do.
-- This project's own, over the core standard's execution of instructions.
use Rattle.std.specs.Prelude.{◌≡◌, ℕ, suc, ◌+◌, ◌%◌, ◌<◌, ◌^◌, List, [], ◌∷◌, ◌++◌, length, map, true, Some, slice_get, slice_set, Option}
use Rattle.core_types.specs.declared.types.ValType.TheVariants.{I32}
use Rattle.core_runs.specs.declared.start.StartStep.{StartStep}
use Rattle.core_runs.specs.Values.{Value, I32Value, fits, fit}
use Rattle.core_runs.specs.Store.{Frame, Store, Cell, Kept, Foreign, Answer, Gives, SetForeign, Stored, Now, Outcome, Returned}
use Rattle.core_runs.specs.Execution.{seen, exec}
use Rattle.core_runs.specs.Bodies.{start}
use Rattle.core_runs.specs.Expected.{NotStuck}
use Rattle.core_runs.specs.Shims.{HasBody}
use Rattle.core_runs.specs.Starts.{start_signature, Deed, Sets, Sums, Stores, MeansEach, read_at, deed_done, deeds_done, Filling, unfilled, filled, fill_deeds, with_globals, Filled, NoFills, Throughout, Traced, Fills, Calls}

-- A start function does the deeds that its steps mean, in order. At most two generated functions are in progress.
abbrev pub StartsAct : Type 0
StartsAct =
    (steps : List StartStep) (deeds : List Deed) (n : ℕ) (store : Store) (frame : Frame) (f : ℕ) (now : Now) → HasBody store f frame start_signature (start steps) → MeansEach store frame steps deeds → exec (suc (suc n)) store f [] now ≡ deeds_done deeds now

-- One that begins with fills continues where all is filled and nothing else has changed: fills make no event.
abbrev pub StartsFillFirst : Type 0
StartsFillFirst =
    (steps : List StartStep) (fills : List Filling) (deeds : List Deed) (pre post : List Cell) (n : ℕ) (store : Store) (frame : Frame) (f : ℕ) (now : Now) → HasBody store f frame start_signature (start steps) → MeansEach store frame steps (fill_deeds (length pre) fills ++ deeds) → now.globals ≡ pre ++ (map unfilled fills ++ post) → exec (suc (suc n)) store f [] now ≡ deeds_done deeds (with_globals now (pre ++ (map filled fills ++ post)))

-- Deeds make exactly their events, in order; also in a run that ends early, up to where it ended.
abbrev pub DeedsAreTraced : Type 0
DeedsAreTraced = (deeds : List Deed) (now : Now) → Traced deeds now.events (deeds_done deeds now)

-- After the fills everything is filled from the first event on, also in a run that ends early.
abbrev pub FilledThroughout : Type 0
FilledThroughout =
    (fills : List Filling) (deeds : List Deed) (pre post : List Cell) (now : Now) → NoFills deeds → now.moments ≡ [] → Throughout (Filled (length pre) fills) (deeds_done deeds (with_globals now (pre ++ (map filled fills ++ post))))

-- The global at this address is read as a number, which leaves `after`.
abbrev pub ReadsNumber : Now → ℕ → ℕ → Now → Type 0
ReadsNumber now g x after = (go : Value → Now → Outcome) → read_at g now go ≡ go (I32Value x) after

-- A kept number is read as it is; a user's global takes an answer, with no event.
abbrev pub NumbersAreRead : Type 0
NumbersAreRead =
    ((now : Now) (g x : ℕ) → slice_get now.globals g ≡ Some (Kept I32 (I32Value x)) → ReadsNumber now g x now)
    × ((now : Now) (g x what number : ℕ) (answers : List Answer) → slice_get now.globals g ≡ Some (Foreign what I32) → now.answers ≡ Gives (I32Value x ∷ []) number ∷ answers → fits I32 (I32Value x) ≡ true → ReadsNumber now g x (record now { answers = answers }))

-- An address is initialised to the sum of two globals: in a kept global, in a user's, or in memory.
abbrev pub AddressesAreSums : Type 0
AddressesAreSums =
    (base offset x y : ℕ) (now first second : Now) → ReadsNumber now base x first → ReadsNumber first offset y second →
    ((g old : ℕ) → slice_get second.globals g ≡ Some (Kept I32 (I32Value old)) → deed_done (Sums base offset g) now ≡ Returned [] (with_globals second (slice_set second.globals g (Kept I32 (I32Value ((x + y) % 2 ^ 32))))))
    × ((g what : ℕ) → slice_get second.globals g ≡ Some (Foreign what I32) → deed_done (Sums base offset g) now ≡ Returned [] (seen second (SetForeign what (I32Value ((x + y) % 2 ^ 32)))))
    × ((memory address : ℕ) → deed_done (Stores base offset memory address) now ≡ Returned [] (seen second (Stored memory address ((x + y) % 2 ^ 32))))

-- A kept cell that is set holds the number, with no event.
abbrev pub CellsAreSet : Type 0
CellsAreSet =
    (now : Now) (g old number : ℕ) → slice_get now.globals g ≡ Some (Kept I32 (I32Value old)) → number < 2 ^ 32 → deed_done (Sets g number) now ≡ Returned [] (with_globals now (slice_set now.globals g (Kept I32 (I32Value number))))

-- an `i32` is here, kept or a user's
abbrev pub IsNumber : Option Cell → Type 0
IsNumber (Some (Kept I32 (I32Value x))) = Unit {0}
IsNumber (Some (Foreign what I32)) = Unit {0}
IsNumber cell = ⊥

-- A deed can be done: arguments have the types, and what is added or set is an `i32`.
abbrev pub CanBeDone : List Cell → Deed → Type 0
CanBeDone globals (Fills g f) = ⊥
CanBeDone globals (Calls target arguments) = fit target.signature.params arguments ≡ true
CanBeDone globals (Sets g number) = IsNumber (slice_get globals g) × (number < 2 ^ 32)
CanBeDone globals (Sums base offset g) = IsNumber (slice_get globals base) × IsNumber (slice_get globals offset) × IsNumber (slice_get globals g)
CanBeDone globals (Stores base offset memory address) = IsNumber (slice_get globals base) × IsNumber (slice_get globals offset)

abbrev pub CanEachBeDone : List Cell → List Deed → Type 0
CanEachBeDone globals [] = Unit {0}
CanEachBeDone globals (d ∷ ds) = CanBeDone globals d × CanEachBeDone globals ds

-- Deeds that can be done are never stuck.
abbrev pub DeedsAreNotStuck : Type 0
DeedsAreNotStuck = (deeds : List Deed) (now : Now) → CanEachBeDone now.globals deeds → NotStuck (deeds_done deeds now)
