-- From modules to shims: the shims' instance, and the fill of its table.
use Rattle.std.proofs.Common.{◌≡◌, ℕ, zero, suc, ◌+◌, ◌-◌, ◌<◌, ◌≤◌, ◌^◌, List, [], ◌∷◌, ◌++◌, length, map, drop, true, Option, Some, None, refl, sym, ap, ◌∙◌, subst, arith, append_assoc}
use Rattle.std.specs.Prelude.{slice_get, slice_set, replicate, if◌then◌else◌, nat_le, option_map, pos}
use Rattle.std.proofs.Math.Seq.{set-append_seam}
use Rattle.std.proofs.lemmas.List.{append-nil, length-replicate, drop-replicate}
use Rattle.std.proofs.lemmas.Option.{slice_get-map, slice_get_within}
use Rattle.std.proofs.lemmas.Bool.Decides.{nat_tests}
use Rattle.core_types.specs.declared.types.FuncType.{FuncType}
use Rattle.core_bytes.specs.declared.entry.ElementSegment.TheVariants as segments
use Rattle.core_runs.specs.Values.{Value, fit}
use Rattle.core_runs.specs.Store.{Frame, Func, Generated, signature_of, Store, Now, ByCode, Trapped}
use Rattle.core_runs.specs.Execution.{exec}
use Rattle.core_runs.specs.Bodies.{table_shim, table_shims}
use Rattle.core_runs.specs.Shims.{HasBody, HoldsSlot}
use Rattle.core_runs.specs.Instances.{cons_if, bind, all_at, own_functions, new_frame, Made, instance_of, made_of, element_done, with_table, empty_table, slots_after}
use Rattle.core_runs.specs.LawsOfInstances.{Slot, shim_of, shim_parts, Typed, Extends, ShimsMade, ShimsTrapAtFirst, SegmentsFill, FilledShimsForward}
use Rattle.core_runs.proofs.Runs.{has_all}
use Rattle.core_runs.proofs.Shims.{table_shim_at}

-- the functions of the shim module's instance
abbrev pub table_functions : Frame → ℕ → List Slot → List Func
table_functions frame k [] = []
table_functions frame k (s ∷ ss) = Generated frame s.type [] ((table_shim (length s.type.params) k s.index).instructions) ∷ table_functions frame (k + 1) ss

own_table : (frame : Frame) (k : ℕ) (shims : List Slot) → Typed frame.types shims → own_functions frame (map (λ s. s.index) shims) (table_shims k (map shim_of shims)) ≡ Some (table_functions frame k shims)
own_table frame k [] h = refl
own_table frame k (s ∷ ss) h =
    let code = (table_shim (length s.type.params) k s.index).instructions in
    ap (λ o. cons_if (option_map (λ type. Generated frame type [] code) o) (own_functions frame (map (λ x. x.index) ss) (table_shims (k + 1) (map shim_of ss)))) h.0
    ∙ ap (λ o. cons_if (Some (Generated frame s.type [] code)) o) (own_table frame (k + 1) ss h.1)

-- what making the shim module's instance leaves
abbrev pub table_made : List FuncType → List Slot → Store → Now → Made
table_made types shims store now =
    let frame = new_frame (shim_parts types shims) [] store now in
    record {
      frame = frame;
      store = record { functions = store.functions ++ table_functions frame 0 shims; tables = store.tables ++ empty_table (length shims) ∷ []; memories = store.memories ++ [] };
      now = record now { globals = now.globals ++ [] };
    }

pub table_instance : (types : List FuncType) (shims : List Slot) (store : Store) (now : Now) → Typed types shims → instance_of (shim_parts types shims) [] store now ≡ Some (table_made types shims store now)
table_instance types shims store now h =
    let m = shim_parts types shims in
    let frame = new_frame m [] store now in
    ap (λ o. made_of m frame store now o (Some [])) (own_table frame 0 shims h)

-- an item of the second of two appended lists
pub slice_get-behind : {X : Type 0} (xs ys : List X) (i : ℕ) → slice_get (xs ++ ys) (length xs + i) ≡ slice_get ys i
slice_get-behind [] ys i = let e : 0 + i ≡ i = omega arith in ap (λ n. slice_get ys n) e
slice_get-behind (x ∷ xs) ys i =
    let e : length (x ∷ xs) + i ≡ suc (length xs + i) = omega arith in
    ap (λ n. slice_get (x ∷ (xs ++ ys)) n) e ∙ slice_get-behind xs ys i

pub slice_get-front : {X : Type 0} (xs ys : List X) (i : ℕ) (x : X) → slice_get xs i ≡ Some x → slice_get (xs ++ ys) i ≡ Some x
slice_get-front [] ys i x h = cc
slice_get-front (y ∷ xs) ys zero x h = h
slice_get-front (y ∷ xs) ys (suc i) x h = slice_get-front xs ys i x h

table_function_at : (frame : Frame) (shims : List Slot) (k i : ℕ) (s : Slot) → slice_get shims i ≡ Some s → slice_get (table_functions frame k shims) i ≡ Some (Generated frame s.type [] ((table_shim (length s.type.params) (k + i) s.index).instructions))
table_function_at frame [] k i s h = cc
table_function_at frame (x ∷ shims) k zero s h =
    let same : x ≡ s = cc in
    let e : k ≡ k + 0 = omega arith in
    ap (λ (y : Slot). Some (Generated frame y.type [] ((table_shim (length y.type.params) k y.index).instructions))) same
    ∙ ap (λ n. Some (Generated frame s.type [] ((table_shim (length s.type.params) n s.index).instructions))) e
table_function_at frame (x ∷ shims) k (suc i) s h =
    let e : k + 1 + i ≡ k + suc i = omega arith in
    table_function_at frame shims (k + 1) i s h
    ∙ ap (λ n. Some (Generated frame s.type [] ((table_shim (length s.type.params) n s.index).instructions))) e

typed_at : (types : List FuncType) (shims : List Slot) (i : ℕ) (s : Slot) → Typed types shims → slice_get shims i ≡ Some s → slice_get types s.index ≡ Some s.type
typed_at types [] i s h e = cc
typed_at types (x ∷ shims) zero s h e = let same : x ≡ s = cc in subst (λ (y : Slot). slice_get types y.index ≡ Some y.type) same h.0
typed_at types (x ∷ shims) (suc i) s h e = typed_at types shims i s h.1 e

-- all the slots of an empty table
pub all_slots : (addresses : List ℕ) (n : ℕ) → length addresses ≡ n → slots_after 0 addresses (empty_table n) ≡ Some (map (λ a. Some a) addresses)
all_slots addresses n e =
    let fits : nat_le (0 + length addresses) (length (empty_table n)) ≡ true = grind (arith, nat_tests, length-replicate {A = Option ℕ} n None) in
    let gone : drop (0 + length addresses) (empty_table n) ≡ [] = ap (λ m. drop m (empty_table n)) (let z : 0 + length addresses ≡ n = omega arith in z) ∙ drop-replicate n n None ∙ (let z : n - n ≡ 0 = omega arith in ap (λ m. replicate m None) z) in
    ap (λ b. if b then Some (map (λ a. Some a) addresses ++ drop (0 + length addresses) (empty_table n)) else None) fits
    ∙ ap (λ l. Some (map (λ a. Some a) addresses ++ l)) gone
    ∙ ap Some (append-nil (map (λ a. Some a) addresses))

empty_slot : (n i : ℕ) → i < n → slice_get (empty_table n) i ≡ Some None
empty_slot zero i h = absurd (omega arith)
empty_slot (suc n) zero h = refl
empty_slot (suc n) (suc i) h = empty_slot n i (omega arith)

-- the fixup's element segment fills the shim module's table, whatever was instantiated in between
pub fill_done : (types : List FuncType) (shims : List Slot) (store : Store) (now : Now) (later : Store) (frame : Frame) (fs addresses : List ℕ) → (e : Extends (table_made types shims store now).store later) → slice_get frame.tables 0 ≡ Some (length store.tables) → all_at frame.functions fs ≡ Some addresses → length addresses ≡ length shims → element_done frame (segments.Active None (pos 0) fs) later.tables ≡ Some (store.tables ++ map (λ a. Some a) addresses ∷ e.more_tables)
fill_done types shims store now later frame fs addresses e named given len =
    let slots = empty_table (length shims) in
    let new_address = length store.tables in
    let full = map (λ a. Some a) addresses in
    let tables : later.tables ≡ store.tables ++ slots ∷ e.more_tables = e.tables ∙ append_assoc store.tables (slots ∷ []) e.more_tables in
    let found : slice_get later.tables new_address ≡ Some slots = ap (λ l. slice_get l new_address) tables ∙ (has_all (slots ∷ e.more_tables) store.tables).0 in
    ap (λ o. bind o (λ t. bind (slice_get later.tables t) (λ s. bind (all_at frame.functions fs) (λ a. with_table t later.tables (slots_after 0 a s))))) named
    ∙ ap (λ o. bind o (λ s. bind (all_at frame.functions fs) (λ a. with_table new_address later.tables (slots_after 0 a s)))) found
    ∙ ap (λ o. bind o (λ a. with_table new_address later.tables (slots_after 0 a slots))) given
    ∙ ap (λ o. with_table new_address later.tables o) (all_slots addresses (length shims) len)
    ∙ ap (λ l. Some (slice_set l new_address full)) tables
    ∙ ap Some (set-append_seam store.tables slots e.more_tables full)

-- A shim of the shim module's instance, in a store where the table's slots are these.
shim_links : (types : List FuncType) (shims : List Slot) (store : Store) (now : Now) → Typed types shims → length shims ≤ 2 ^ 32 → (later : Store) (more_functions : List Func) (slots : List (Option ℕ)) (more_tables : List (List (Option ℕ))) → later.functions ≡ (table_made types shims store now).store.functions ++ more_functions → later.tables ≡ store.tables ++ slots ∷ more_tables → (i : ℕ) (s : Slot) (slot : Option ℕ) → slice_get shims i ≡ Some s → slice_get slots i ≡ Some slot → HasBody later (length store.functions + i) (table_made types shims store now).frame s.type (table_shim (length s.type.params) i s.index) × HoldsSlot later (table_made types shims store now).frame i slot
shim_links types shims store now typed room later more_functions slots more_tables functions tables i s slot at holds =
    let made = table_made types shims store now in
    let new_address = length store.functions + i in
    let own = table_functions made.frame 0 shims in
    let zero : 0 + i ≡ i = omega arith in
    let code = table_function_at made.frame shims 0 i s at ∙ ap (λ n. Some (Generated made.frame s.type [] ((table_shim (length s.type.params) n s.index).instructions))) zero in
    let found = ap (λ l. slice_get l new_address) (functions ∙ append_assoc store.functions own more_functions) ∙ slice_get-behind store.functions (own ++ more_functions) i ∙ slice_get-front own more_functions i _ code in (
      found,
      record {
        table = length store.tables;
        slots = slots;
        names_table = refl;
        holds_slots = ap (λ l. slice_get l (length store.tables)) tables ∙ (has_all (slots ∷ more_tables) store.tables).0;
        holds = holds;
      },
    )

-- Before the fill each shim traps with no event.
pub before_fill : (types : List FuncType) (shims : List Slot) (store : Store) (now : Now) → Typed types shims → length shims ≤ 2 ^ 32 → (later : Store) → Extends (table_made types shims store now).store later → (i : ℕ) (s : Slot) → slice_get shims i ≡ Some s → (n : ℕ) (arguments : List Value) (moment : Now) → fit s.type.params arguments ≡ true → exec (suc n) later (length store.functions + i) arguments moment ≡ Trapped ByCode moment
before_fill types shims store now typed room later e i s at n arguments moment fine =
    let within = slice_get_within shims i s at in
    let empty : slice_get (empty_table (length shims)) i ≡ Some None = empty_slot (length shims) i within in
    let links = shim_links types shims store now typed room later e.more_functions (empty_table (length shims)) e.more_tables e.functions (e.tables ∙ append_assoc store.tables (empty_table (length shims) ∷ []) e.more_tables) i s None at empty in
    (table_shim_at s.type i s.index (omega arith)).empty n later (table_made types shims store now).frame (length store.functions + i) arguments moment links.0 links.1 fine

-- After it each shim does what the function does that fills it.
pub after_fill : (types : List FuncType) (shims : List Slot) (store : Store) (now : Now) → Typed types shims → length shims ≤ 2 ^ 32 → (later : Store) (more_functions : List Func) (addresses : List ℕ) (more_tables : List (List (Option ℕ))) → later.functions ≡ (table_made types shims store now).store.functions ++ more_functions → later.tables ≡ store.tables ++ map (λ a. Some a) addresses ∷ more_tables → (i : ℕ) (s : Slot) (f : ℕ) (g : Func) → slice_get shims i ≡ Some s → slice_get addresses i ≡ Some f → slice_get later.functions f ≡ Some g → signature_of g ≡ s.type → (n : ℕ) (arguments : List Value) (moment : Now) → fit s.type.params arguments ≡ true → exec (suc n) later (length store.functions + i) arguments moment ≡ exec n later f arguments moment
after_fill types shims store now typed room later more_functions addresses more_tables functions tables i s f g at filled there same n arguments moment fine =
    let within = slice_get_within shims i s at in
    let holds : slice_get (map (λ a. Some a) addresses) i ≡ Some (Some f) = slice_get-map (λ a. Some a) addresses i ∙ ap (option_map (λ a. Some a)) filled in
    let links = shim_links types shims store now typed room later more_functions (map (λ a. Some a) addresses) more_tables functions tables i s (Some f) at holds in
    (table_shim_at s.type i s.index (omega arith)).filled n later (table_made types shims store now).frame (length store.functions + i) f g arguments moment links.0 (typed_at types shims i s typed at) links.1 there same fine

made_is : (types : List FuncType) (shims : List Slot) (store : Store) (now : Now) (made : Made) → ShimsMade types shims store now made → table_made types shims store now ≡ made
made_is types shims store now made h =
    let e : Some (table_made types shims store now) ≡ Some made = sym (table_instance types shims store now h.typed) ∙ ap (λ m. instance_of m [] store now) (sym h.parts) ∙ h.is_made in
    cc

pub shims_trap_at_first : ShimsTrapAtFirst
shims_trap_at_first types shims store now made later h e =
    before_fill types shims store now h.typed h.room later (subst (λ (m : Made). Extends m.store later) (sym (made_is types shims store now made h)) e)

pub segments_fill : SegmentsFill
segments_fill types shims store now made later frame fs addresses h e =
    fill_done types shims store now later frame fs addresses (record {
      more_functions = e.more_functions;
      more_tables = e.more_tables;
      functions = e.functions ∙ ap (λ (m : Made). m.store.functions ++ e.more_functions) (sym (made_is types shims store now made h));
      tables = e.tables ∙ ap (λ (m : Made). m.store.tables ++ e.more_tables) (sym (made_is types shims store now made h));
    })

pub filled_shims_forward : FilledShimsForward
filled_shims_forward types shims store now made later more_functions addresses more_tables h functions tables =
    after_fill types shims store now h.typed h.room later more_functions addresses more_tables (functions ∙ ap (λ (m : Made). m.store.functions ++ more_functions) (sym (made_is types shims store now made h))) tables
