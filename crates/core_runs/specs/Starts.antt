-- Start functions: what their steps do, deed by deed, and what holds throughout.
-- This project's own, over the core standard's execution of instructions and its start function.
use Rattle.std.specs.Prelude.{◌≡◌, ℕ, ◌+◌, ◌%◌, ◌<◌, ◌^◌, List, [], ◌∷◌, ◌++◌, Some, slice_get, map, take}
use Rattle.std.specs.List.{AllByRecursion}
use Rattle.core_types.specs.declared.types.ValType.TheVariants.{Ref}
use Rattle.core_types.specs.declared.types.RefType.{RefType}
use Rattle.core_types.specs.declared.types.FuncType.{FuncType}
use Rattle.core_runs.specs.declared.start.StartStep.{StartStep}
use Rattle.core_runs.specs.declared.start.StartStep.TheVariants.{Fill, Thunk, Hook, AddressToGlobal, AddressToMemory}
use Rattle.core_runs.specs.Hooks.{hook_number}
use Rattle.core_runs.specs.Values.{Value, I32Value, Function}
use Rattle.core_runs.specs.Store.{Frame, Store, Cell, Kept, Event, Called, SetForeign, Stored, Now, Outcome, Returned, Trapped, Open, Stuck}
use Rattle.core_runs.specs.Execution.{with_item, and_then, asked, seen, read_cell, write_cell}
use Rattle.core_runs.specs.Expected.{Known, Is, hook_signature}
use Rattle.core_runs.specs.Bodies.{tls_set}
use Rattle.core_runs.specs.Shims.{HasBody}

-- the values are in the list from this index on
abbrev pub HasAt : {X : Type 0} → List X → ℕ → List X → Type 0
HasAt xs i [] = Unit {0}
HasAt xs i (v ∷ vs) = (slice_get xs i ≡ Some v) × HasAt xs (i + 1) vs

-- A start function has no parameters and no results; so has a thunk.
abbrev pub start_signature : FuncType
start_signature = record { params = []; results = [] }

-- What a step does, with addresses in the store: a global gets a function; a function is called from outside; a global
-- gets a number; a global gets the sum of two others; the sum of two globals is stored.
pub data Deed : Type 0 where
  Fills : (global function : ℕ) → Deed
  Calls : (target : Known) → (arguments : List Value) → Deed
  Sets : (global number : ℕ) → Deed
  Sums : (base offset global : ℕ) → Deed
  Stores : (base offset memory address : ℕ) → Deed

-- The function at this address is one that sets a thread-local cell, the global at that one, whatever its module.
pub record SetsCell (store : Store) (f global : ℕ) : Type 0 where
  pub frame : Frame
  pub local : ℕ
  pub has : HasBody store f frame hook_signature (tls_set local)
  pub names : slice_get frame.globals local ≡ Some global

-- A step of a module of this frame means the deed: its indices name what the deed works on. A task hook may be a
-- generated function that sets a cell to the hook's number.
abbrev pub Means : Store → Frame → StartStep → Deed → Type 0
Means store frame (Fill global function) (Fills g f) = (slice_get frame.functions function ≡ Some f) × (slice_get frame.globals global ≡ Some g)
Means store frame (Thunk function) (Calls target arguments) =
    (slice_get frame.functions function ≡ Some target.address) × (target.signature ≡ start_signature) × (arguments ≡ []) × ((what : ℕ) × Is store target what)
Means store frame (Hook hook moment) (Calls target arguments) =
    (slice_get frame.functions hook ≡ Some target.address) × (target.signature ≡ hook_signature) × (arguments ≡ I32Value (hook_number moment) ∷ []) × ((what : ℕ) × Is store target what)
Means store frame (Hook hook moment) (Sets g number) =
    (f : ℕ) × (slice_get frame.functions hook ≡ Some f) × SetsCell store f g × (number ≡ hook_number moment)
Means store frame (AddressToGlobal base offset global) (Sums b o g) =
    (slice_get frame.globals base ≡ Some b) × (slice_get frame.globals offset ≡ Some o) × (slice_get frame.globals global ≡ Some g)
Means store frame (AddressToMemory base offset address) (Stores b o m a) =
    (slice_get frame.globals base ≡ Some b) × (slice_get frame.globals offset ≡ Some o) × (slice_get frame.memories 0 ≡ Some m) × (a ≡ address) × (address < 2 ^ 32)
Means store frame step deed = ⊥

abbrev pub MeansEach : Store → Frame → List StartStep → List Deed → Type 0
MeansEach store frame [] [] = Unit {0}
MeansEach store frame (step ∷ steps) (deed ∷ deeds) = Means store frame step deed × MeansEach store frame steps deeds
MeansEach store frame steps deeds = ⊥

-- the global at an address is read
abbrev pub read_at : ℕ → Now → (Value → Now → Outcome) → Outcome
read_at g now go = with_item (slice_get now.globals g) (λ cell. read_cell cell now go)

-- the global at an address is written
abbrev pub write_at : ℕ → Value → Now → Outcome
write_at g v now = with_item (slice_get now.globals g) (λ cell. write_cell g cell v now (λ after. Returned [] after))

-- two numbers are added, as numbers of 32 bits are
abbrev pub added : Value → Value → (ℕ → Outcome) → Outcome
added (I32Value x) (I32Value y) go = go ((x + y) % 2 ^ 32)
added v w go = Stuck

-- the sum of the globals at two addresses
abbrev pub sum_of : ℕ → ℕ → Now → (ℕ → Now → Outcome) → Outcome
sum_of base offset now go =
    read_at base now (λ v first. read_at offset first (λ w second. added v w (λ sum. go sum second)))

-- what one deed does
abbrev pub deed_done : Deed → Now → Outcome
deed_done (Fills g f) now = write_at g (Function f) now
deed_done (Calls target arguments) now = asked target.address target.signature arguments now
deed_done (Sets g number) now = write_at g (I32Value number) now
deed_done (Sums base offset g) now = sum_of base offset now (λ sum after. write_at g (I32Value sum) after)
deed_done (Stores base offset memory address) now =
    sum_of base offset now (λ sum after. Returned [] (seen after (Stored memory address sum)))

-- the deeds in order
abbrev pub deeds_done : List Deed → Now → Outcome
deeds_done [] now = Returned [] now
deeds_done (d ∷ ds) now = and_then (deed_done d now) (λ results after. deeds_done ds after)

-- One global of the reference form: its reference type, the function that it holds before, and the one that fills it.
pub record Filling : Type 0 where
  pub held : RefType
  pub stub : ℕ
  pub function : ℕ

abbrev pub unfilled : Filling → Cell
unfilled f = Kept (Ref f.held) (Function f.stub)

abbrev pub filled : Filling → Cell
filled f = Kept (Ref f.held) (Function f.function)

-- the globals from this address on are filled
abbrev pub fill_deeds : ℕ → List Filling → List Deed
fill_deeds g [] = []
fill_deeds g (f ∷ fs) = Fills g f.function ∷ fill_deeds (g + 1) fs

abbrev pub with_globals : Now → List Cell → Now
with_globals now globals = record now { globals = globals }

-- the globals from an address on hold these functions
abbrev pub Filled : ℕ → List Filling → List Cell → Type 0
Filled base fills globals = HasAt globals base (map filled fills)

-- deeds that fill nothing
abbrev pub NoFills : List Deed → Type 0
NoFills [] = Unit {0}
NoFills (Fills g f ∷ deeds) = ⊥
NoFills (d ∷ deeds) = NoFills deeds

-- P holds of the globals now, and held at each event
abbrev pub Held : (List Cell → Type 0) → Now → Type 0
Held P now = P now.globals × AllByRecursion P now.moments

-- the same at a run's end, however it ends
abbrev pub Throughout : (List Cell → Type 0) → Outcome → Type 0
Throughout P (Returned results now) = Held P now
Throughout P (Trapped cause now) = Held P now
Throughout P (Open now) = Held P now
Throughout P Stuck = Unit {0}

-- no event, or one write of this value to a user's global
abbrev pub Written : Value → List Event → Type 0
Written v [] = Unit {0}
Written v (SetForeign what w ∷ []) = w ≡ v
Written v events = ⊥

-- the events of one deed
abbrev pub Makes : Deed → List Event → Type 0
Makes (Fills g f) events = Written (Function f) events
Makes (Calls target arguments) events = events ≡ Called target.address arguments ∷ []
Makes (Sets g number) events = Written (I32Value number) events
Makes (Sums base offset g) events = (sum : ℕ) × Written (I32Value sum) events
Makes (Stores base offset memory address) events = (sum : ℕ) × (events ≡ Stored memory address sum ∷ [])

-- the events of all, in order, and no other
abbrev pub MakesEach : List Deed → List Event → Type 0
MakesEach [] events = events ≡ []
MakesEach (d ∷ ds) events = (first : List Event) × (rest : List Event) × (events ≡ first ++ rest) × Makes d first × MakesEach ds rest

-- A run has made exactly the events of the deeds, after those before it; one that ends early has made those
-- of the first few.
abbrev pub Traced : List Deed → List Event → Outcome → Type 0
Traced deeds old (Returned results now) = (new : List Event) × (now.events ≡ old ++ new) × MakesEach deeds new
Traced deeds old (Trapped cause now) = (count : ℕ) × (new : List Event) × (now.events ≡ old ++ new) × MakesEach (take count deeds) new
Traced deeds old (Open now) = (count : ℕ) × (new : List Event) × (now.events ≡ old ++ new) × MakesEach (take count deeds) new
Traced deeds old Stuck = Unit {0}
