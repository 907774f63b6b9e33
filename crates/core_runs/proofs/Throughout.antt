-- What holds throughout a run of deeds, and the events that they make.
use Rattle.std.proofs.Common.{◌≡◌, ℕ, zero, suc, ◌+◌, ◌%◌, ◌^◌, List, [], ◌∷◌, ◌++◌, length, map, Bool, true, false, Option, Some, None, refl, sym, ap, ◌∙◌, subst, arith}
use Rattle.std.proofs.lemmas.Bool.{lt-ltb}
use Rattle.std.proofs.lemmas.Nat.{mod_below}
use Rattle.std.specs.Prelude.{slice_get, slice_set, if◌then◌else◌, nat_lt}
use Rattle.std.specs.List.{AllByRecursion}
use Rattle.core_types.specs.declared.types.ValType.{ValType}
use Rattle.core_types.specs.declared.types.ValType.TheVariants.{I32, Ref}
use Rattle.core_types.specs.declared.types.RefType.{RefType}
use Rattle.core_types.specs.declared.types.FuncType.{FuncType}
use Rattle.core_runs.specs.Values.{Value, I32Value, Function, fits, fit}
use Rattle.core_runs.specs.Store.{Cell, Kept, Foreign, Answer, Gives, Traps, Event, Called, SetForeign, Stored, Now, Outcome, Returned, Trapped, Open, Stuck}
use Rattle.core_runs.specs.Execution.{with_item, where_true, and_then, answered, asked, seen, renewed, read_given, read_cell, write_cell}
use Rattle.core_runs.specs.Starts.{Deed, Fills, Calls, Sets, Sums, Stores, read_at, write_at, added, sum_of, deed_done, deeds_done, Filling, filled, with_globals, Filled, NoFills, Held, Throughout}
use Rattle.core_runs.specs.LawsOfStarts.{CellsAreSet, FilledThroughout, NumbersAreRead, AddressesAreSums}
use Rattle.core_runs.proofs.Runs.{has_front, has_all}
use Rattle.core_runs.proofs.Refs.{function_unchanged}

-- a fact of outcomes that holds of stuck runs and of runs without an answer left, and of a read
-- where it holds of the continuation
module _ (Q : Outcome → Type 0) (stuck : Q Stuck) where
  pub if_meets : (b : Bool) (x z : Outcome) → Q x → Q z → Q (if b then x else z)
  if_meets true x z h g = h
  if_meets false x z h g = g

  given_meets : (t : ValType) (answers : List Answer) (now : Now) (go : Value → Now → Outcome) → Q (Open now) → ((v : Value) (left : List Answer) → Q (go v (record now { answers = left }))) → Q (read_given t answers now go)
  given_meets t [] now go waits h = waits
  given_meets t (Traps ∷ answers) now go waits h = waits
  given_meets t (Gives [] number ∷ answers) now go waits h = waits
  given_meets t (Gives (v ∷ []) number ∷ answers) now go waits h = if_meets (fits t v) _ _ (h v answers) waits
  given_meets t (Gives (v ∷ w ∷ vs) number ∷ answers) now go waits h = waits

  cell_meets : (cell : Option Cell) (now : Now) (go : Value → Now → Outcome) → Q (Open now) → ((v : Value) (left : List Answer) → Q (go v (record now { answers = left }))) → Q (with_item cell (λ c. read_cell c now go))
  cell_meets None now go waits h = stuck
  cell_meets (Some (Kept t v)) now go waits h = h v now.answers
  cell_meets (Some (Foreign what t)) now go waits h = given_meets t now.answers now go waits h

  added_meets : (v w : Value) (go : ℕ → Outcome) → ((s : ℕ) → Q (go s)) → Q (added v w go)
  added_meets (I32Value x) (I32Value y) go h = h _
  added_meets (I32Value x) w go h = stuck
  added_meets v w go h = stuck

  pub sum_meets : (b o : ℕ) (now : Now) (go : ℕ → Now → Outcome) → ((left : List Answer) → Q (Open (record now { answers = left }))) → ((s : ℕ) (left : List Answer) → Q (go s (record now { answers = left }))) → Q (sum_of b o now go)
  sum_meets b o now go waits h =
      cell_meets (slice_get now.globals b) now (λ v first. read_at o first (λ w second. added v w (λ s. go s second))) (waits now.answers) (λ v left.
      cell_meets (slice_get now.globals o) (record now { answers = left }) (λ w second. added v w (λ s. go s second)) (waits left) (λ w rest.
      added_meets v w (λ s. go s (record now { answers = rest })) (λ s. h s rest)))

  pub where_meets : (b : Bool) (o : Outcome) → (b ≡ true → Q o) → Q (where_true b o)
  where_meets true o h = h refl
  where_meets false o h = stuck

-- P is kept by opaque calls, and by writes of numbers
abbrev pub Stable : (List Cell → Type 0) → Type 0
Stable P = (number : ℕ) (globals : List Cell) → P globals → P (map (renewed number) globals)

abbrev pub KeptBySum : (List Cell → Type 0) → Type 0
KeptBySum P = (globals : List Cell) (g s : ℕ) (t : ValType) (old : Value) → slice_get globals g ≡ Some (Kept t old) → fits t (I32Value s) ≡ true → P globals → P (slice_set globals g (Kept t (I32Value s)))

all_append : {X : Type 0} (P : X → Type 0) (xs ys : List X) → AllByRecursion P xs → AllByRecursion P ys → AllByRecursion P (xs ++ ys)
all_append P [] ys a b = b
all_append P (x ∷ xs) ys a b = (a.0, all_append P xs ys a.1 b)

then_throughout : (P : List Cell → Type 0) (o : Outcome) (k : List Value → Now → Outcome) → Throughout P o → ((rs : List Value) (now : Now) → Held P now → Throughout P (k rs now)) → Throughout P (and_then o k)
then_throughout P (Returned rs now) k h f = f rs now h
then_throughout P (Trapped cause now) k h f = h
then_throughout P (Open now) k h f = h
then_throughout P Stuck k h f = tt

answered_throughout : (P : List Cell → Type 0) → Stable P → (ts : List ValType) (answers : List Answer) (now : Now) → Held P now → Throughout P (answered ts answers now)
answered_throughout P stable ts [] now h = h
answered_throughout P stable ts (Traps ∷ answers) now h = h
answered_throughout P stable ts (Gives rs number ∷ answers) now h =
    if_meets (Throughout P) tt (fit ts rs) (Returned rs (record now { globals = map (renewed number) now.globals; answers = answers })) (Open now) (stable number now.globals h.0, h.1) h

-- one more event where P holds
seen_held : (P : List Cell → Type 0) (now : Now) (event : Event) → Held P now → Held P (seen now event)
seen_held P now event h = (h.0, all_append P now.moments (now.globals ∷ []) h.1 (h.0, tt))

asked_throughout : (P : List Cell → Type 0) → Stable P → (f : ℕ) (s : FuncType) (arguments : List Value) (now : Now) → Held P now → Throughout P (asked f s arguments now)
asked_throughout P stable f s arguments now h =
    where_meets (Throughout P) tt (fit s.params arguments) _ (λ fine. answered_throughout P stable s.results now.answers (seen now (Called f arguments)) (seen_held P now (Called f arguments) h))

-- a write of a sum
write_throughout : (P : List Cell → Type 0) → KeptBySum P → (g s : ℕ) (now : Now) (cell : Option Cell) → slice_get now.globals g ≡ cell → Held P now → Throughout P (with_item cell (λ c. write_cell g c (I32Value s) now (λ after. Returned [] after)))
write_throughout P unchanged g s now None e h = tt
write_throughout P unchanged g s now (Some (Kept t old)) e h =
    where_meets (Throughout P) tt (fits t (I32Value s)) _ (λ fine. (unchanged now.globals g s t old e fine h.0, h.1))
write_throughout P unchanged g s now (Some (Foreign what t)) e h =
    where_meets (Throughout P) tt (fits t (I32Value s)) _ (λ fine. seen_held P now (SetForeign what (I32Value s)) h)

deeds_throughout : (P : List Cell → Type 0) → Stable P → KeptBySum P → (deeds : List Deed) (now : Now) → NoFills deeds → Held P now → Throughout P (deeds_done deeds now)
deeds_throughout P stable unchanged [] now no_fills h = h
deeds_throughout P stable unchanged (Fills g f ∷ ds) now no_fills h = absurd no_fills
deeds_throughout P stable unchanged (Calls target arguments ∷ ds) now no_fills h =
    then_throughout P (asked target.address target.signature arguments now) _ (asked_throughout P stable target.address target.signature arguments now h) (λ rs after g. deeds_throughout P stable unchanged ds after no_fills g)
deeds_throughout P stable unchanged (Sets g number ∷ ds) now no_fills h =
    then_throughout P (deed_done (Sets g number) now) _ (write_throughout P unchanged g number now (slice_get now.globals g) refl h) (λ rs after k. deeds_throughout P stable unchanged ds after no_fills k)
deeds_throughout P stable unchanged (Sums b o g ∷ ds) now no_fills h =
    then_throughout P (deed_done (Sums b o g) now) _ (sum_meets (Throughout P) tt b o now (λ s after. write_at g (I32Value s) after) (λ left. h) (λ s left. write_throughout P unchanged g s (record now { answers = left }) (slice_get now.globals g) refl h)) (λ rs after g. deeds_throughout P stable unchanged ds after no_fills g)
deeds_throughout P stable unchanged (Stores b o m a ∷ ds) now no_fills h =
    then_throughout P (deed_done (Stores b o m a) now) _ (sum_meets (Throughout P) tt b o now (λ s after. Returned [] (seen after (Stored m a s))) (λ left. h) (λ s left. seen_held P (record now { answers = left }) (Stored m a s) h)) (λ rs after g. deeds_throughout P stable unchanged ds after no_fills g)

-- filled globals are kept filled
filled_stable : (fills : List Filling) (base : ℕ) → Stable (Filled base fills)
filled_stable [] base number globals h = tt
filled_stable (fill ∷ fills) base number globals h =
    (function_unchanged globals base (Ref fill.held) fill.function number h.0, filled_stable fills (base + 1) number globals h.1)

-- a number is written to no global of a reference type
other_cell_kept : (cells : List Cell) (g i s : ℕ) (t : ValType) (old : Value) (r : RefType) (f : ℕ) → slice_get cells g ≡ Some (Kept t old) → fits t (I32Value s) ≡ true → slice_get cells i ≡ Some (Kept (Ref r) (Function f)) → slice_get (slice_set cells g (Kept t (I32Value s))) i ≡ Some (Kept (Ref r) (Function f))
other_cell_kept [] g i s t old r f hg fine hi = cc
other_cell_kept (c ∷ cells) zero zero s t old r f hg fine hi =
    let same : Some (Kept t old) ≡ Some (Kept (Ref r) (Function f)) = sym hg ∙ hi in
    let type : t ≡ Ref r = cc in
    let bad : false ≡ true = subst (λ x. fits x (I32Value s) ≡ true) type fine in
    absurd (cc)
other_cell_kept (c ∷ cells) zero (suc i) s t old r f hg fine hi = hi
other_cell_kept (c ∷ cells) (suc g) zero s t old r f hg fine hi = hi
other_cell_kept (c ∷ cells) (suc g) (suc i) s t old r f hg fine hi = other_cell_kept cells g i s t old r f hg fine hi

filled_kept : (fills : List Filling) (base : ℕ) → KeptBySum (Filled base fills)
filled_kept [] base globals g s t old hg fine h = tt
filled_kept (fill ∷ fills) base globals g s t old hg fine h =
    (other_cell_kept globals g base s t old fill.held fill.function hg fine h.0, filled_kept fills (base + 1) globals g s t old hg fine h.1)

pub filled_throughout : FilledThroughout
filled_throughout fills deeds pre post now no_fills none =
    let P = Filled (length pre) fills in
    let globals = pre ++ (map filled fills ++ post) in
    let here : P globals = has_front globals (length pre) (map filled fills) post (has_all (map filled fills ++ post) pre) in
    deeds_throughout P (filled_stable fills (length pre)) (filled_kept fills (length pre)) deeds (with_globals now globals) no_fills (here, subst (λ (l : List (List Cell)). AllByRecursion P l) (sym none) tt)

-- numbers are read
pub numbers_are_read : NumbersAreRead
numbers_are_read = (
  λ now g x e go. ap (λ o. with_item o (λ c. read_cell c now go)) e,
  λ now g x what number answers e given fine go.
      ap (λ o. with_item o (λ c. read_cell c now go)) e
      ∙ ap (λ l. read_given I32 l now go) given
      ∙ ap (λ b. if b then go (I32Value x) (record now { answers = answers }) else Open now) fine,
)

pub below : (n : ℕ) → nat_lt (n % 2 ^ 32) (2 ^ 32) ≡ true
below n = lt-ltb (n % 2 ^ 32) (2 ^ 32) (mod_below n (2 ^ 32) (omega arith))

pub addresses_are_sums : AddressesAreSums
addresses_are_sums base offset x y now first second one two =
    let sum = (x + y) % 2 ^ 32 in
    let reads : (go : ℕ → Now → Outcome) → sum_of base offset now go ≡ go sum second =
    λ go. one (λ v after. read_at offset after (λ w last. added v w (λ s. go s last))) ∙ two (λ w last. added (I32Value x) w (λ s. go s last)) in (
      λ g old e. reads (λ s after. write_at g (I32Value s) after)
          ∙ ap (λ o. with_item o (λ c. write_cell g c (I32Value sum) second (λ after. Returned [] after))) e
          ∙ ap (λ b. where_true b (Returned [] (with_globals second (slice_set second.globals g (Kept I32 (I32Value sum)))))) (below (x + y)),
      λ g what e. reads (λ s after. write_at g (I32Value s) after)
          ∙ ap (λ o. with_item o (λ c. write_cell g c (I32Value sum) second (λ after. Returned [] after))) e
          ∙ ap (λ b. where_true b (Returned [] (seen second (SetForeign what (I32Value sum))))) (below (x + y)),
      λ m a. reads (λ s after. Returned [] (seen after (Stored m a s))),
    )

-- a kept cell is set
pub cells_are_set : CellsAreSet
cells_are_set now g old number e fine =
    ap (λ o. with_item o (λ c. write_cell g c (I32Value number) now (λ after. Returned [] after))) e
    ∙ ap (λ b. where_true b (Returned [] (with_globals now (slice_set now.globals g (Kept I32 (I32Value number)))))) (lt-ltb number (2 ^ 32) fine)
