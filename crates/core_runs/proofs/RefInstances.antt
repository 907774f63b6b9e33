-- The shims of an instance in the reference form.
use Rattle.std.proofs.Common.{◌≡◌, ℕ, zero, suc, ◌+◌, ◌<◌, List, [], ◌∷◌, ◌++◌, length, map, Some, refl, sym, ap, ◌∙◌, subst, arith}
use Rattle.std.specs.Prelude.{slice_get, option_map}
use Rattle.std.specs.List.{range_with_len}
use Rattle.std.proofs.lemmas.List.FromFn.{get_or-range_with_len, length-range_with_len}
use Rattle.std.proofs.lemmas.Option.{slice_get-get_or, slice_get_within}
use Rattle.core_types.specs.declared.types.ValType.TheVariants.{Ref}
use Rattle.core_types.specs.declared.types.RefType.TheVariants.{Concrete}
use Rattle.core_bytes.specs.declared.entry.DefinedGlobal.{DefinedGlobal}
use Rattle.core_runs.specs.Values.{Function}
use Rattle.core_runs.specs.Store.{Frame, Store, Cell, Kept, Now}
use Rattle.core_runs.specs.Bodies.{ref_shim, stub}
use Rattle.core_runs.specs.Starts.{unfilled}
use Rattle.core_runs.specs.Instances.{Parts, own_globals, new_frame}
use Rattle.core_runs.specs.LawsOfInstances.{Defines}
use Rattle.core_runs.specs.LawsOfRefInstances.{RefShim, ref_global, HasRefShims, fillings, RefShimsAreUnfilled, RefShimsTrapAtFirst, FilledRefShimsForward}
use Rattle.core_runs.proofs.Instances.{slice_get-behind, slice_get-front}
use Rattle.core_runs.proofs.Makings.{making, cons_split, instances_define}
use Rattle.core_runs.proofs.Refs.{ref_shims_forward, empty_ref_shims_trap}

-- the number at an index of a range
range_at : (a n i : ℕ) → i < n → slice_get (range_with_len a n) i ≡ Some (a + i)
range_at a n i h =
    let within : i < length (range_with_len a n) = omega (arith, length-range_with_len a n) in
    slice_get-get_or (range_with_len a n) i 0 within ∙ ap Some (get_or-range_with_len a n i 0 h)

-- shim i of those from global `global_index` on
shim_at : (m : Parts) (shims : List RefShim) (global_index i : ℕ) (s : RefShim) → HasRefShims m global_index shims → slice_get shims i ≡ Some s → Defines m s.function s.index s.type (ref_shim (length s.type.params) (global_index + i) s.index) × Defines m s.stub s.index s.type stub
shim_at m [] global_index i s h e = cc
shim_at m (x ∷ shims) global_index zero s h e =
    let same : x ≡ s = cc in
    let zero_more : global_index ≡ global_index + 0 = omega arith in
    subst (λ (y : RefShim). Defines m y.function y.index y.type (ref_shim (length y.type.params) (global_index + 0) y.index) × Defines m y.stub y.index y.type stub) same
    (subst (λ p. Defines m x.function x.index x.type (ref_shim (length x.type.params) p x.index)) zero_more h.0, h.1)
shim_at m (x ∷ shims) global_index (suc i) s h e =
    let one_more : global_index + 1 + i ≡ global_index + suc i = omega arith in
    let rest = shim_at m shims (global_index + 1) i s h.2 e in
    (subst (λ p. Defines m s.function s.index s.type (ref_shim (length s.type.params) p s.index)) one_more rest.0, rest.1)

-- the first cells of an instance whose first globals are those of shims
cells_unfilled : (m : Parts) (frame : Frame) (base : ℕ) (shims : List RefShim) (global_index : ℕ) (more : List DefinedGlobal) (functions : List ℕ) (cells : List Cell) → frame.functions ≡ range_with_len base (length m.functions) → HasRefShims m global_index shims → length functions ≡ length shims → own_globals frame (map ref_global shims ++ more) ≡ Some cells → (post : List Cell) × (cells ≡ map unfilled (fillings base shims functions) ++ post)
cells_unfilled m frame base [] global_index more functions cells e has len h = (cells, refl)
cells_unfilled m frame base (s ∷ shims) global_index more [] cells e has len h = cc
cells_unfilled m frame base (s ∷ shims) global_index more (f ∷ functions) cells e has len h =
    let within = slice_get_within m.functions s.stub s.index has.1.0 in
    let found : slice_get frame.functions s.stub ≡ Some (base + s.stub) = ap (λ l. slice_get l s.stub) e ∙ range_at base (length m.functions) s.stub within in
    let type = Ref (Concrete s.index) in
    let first : option_map (λ v. Kept type v) (option_map (λ a. Function a) (slice_get frame.functions s.stub)) ≡ Some (Kept type (Function (base + s.stub))) = ap (λ o. option_map (λ v. Kept type v) (option_map (λ a. Function a) o)) found in
    let split = cons_split (option_map (λ v. Kept type v) (option_map (λ a. Function a) (slice_get frame.functions s.stub))) (own_globals frame (map ref_global shims ++ more)) cells h in
    let rest = cells_unfilled m frame base shims (global_index + 1) more functions split.1 e has.2 (omega (arith, len)) split.3 in
    let same : Some split.0 ≡ Some (Kept type (Function (base + s.stub))) = sym split.2 ∙ first in
    let head : split.0 ≡ Kept type (Function (base + s.stub)) = cc in
    (rest.0, split.4 ∙ ap (λ (c : Cell). c ∷ split.1) head ∙ ap (λ l. Kept type (Function (base + s.stub)) ∷ l) rest.1)

pub ref_shims_are_unfilled : RefShimsAreUnfilled
ref_shims_are_unfilled m shims store now made functions h len =
    let parts = making m [] store now made h.is_made in
    let frame = new_frame m [] store now in
    let cells : own_globals frame (map ref_global shims ++ h.more) ≡ Some parts.cells = ap (λ l. own_globals frame l) (sym h.globals) ∙ parts.cells_is in
    let first = cells_unfilled m frame (length store.functions) shims 0 h.more functions parts.cells refl h.has len cells in
    (first.0, parts.globals ∙ ap (λ l. now.globals ++ l) first.1)

-- the cell of shim i at first
unfilled_at : (base : ℕ) (shims : List RefShim) (functions : List ℕ) (post : List Cell) (i : ℕ) (s : RefShim) → length functions ≡ length shims → slice_get shims i ≡ Some s → slice_get (map unfilled (fillings base shims functions) ++ post) i ≡ Some (Kept (Ref (Concrete s.index)) (Function (base + s.stub)))
unfilled_at base [] functions post i s len e = cc
unfilled_at base (x ∷ shims) [] post i s len e = cc
unfilled_at base (x ∷ shims) (f ∷ functions) post zero s len e =
    let same : x ≡ s = cc in
    ap (λ (y : RefShim). Some (Kept (Ref (Concrete y.index)) (Function (base + y.stub)))) same
unfilled_at base (x ∷ shims) (f ∷ functions) post (suc i) s len e =
    unfilled_at base shims functions post i s (omega (arith, len)) e

-- the address of global i
global_at : (m : Parts) (store : Store) (now : Now) (shims : List RefShim) (more : List DefinedGlobal) (i : ℕ) (s : RefShim) → m.globals ≡ map ref_global shims ++ more → slice_get shims i ≡ Some s → slice_get (new_frame m [] store now).globals i ≡ Some (length now.globals + i)
global_at m store now shims more i s e h =
    let there : slice_get m.globals i ≡ Some (ref_global s) = ap (λ l. slice_get l i) e ∙ slice_get-front (map ref_global shims) more i (ref_global s) (mapped shims i s h) in
    range_at (length now.globals) (length m.globals) i (slice_get_within m.globals i (ref_global s) there)
  where
    mapped : (shims : List RefShim) (i : ℕ) (s : RefShim) → slice_get shims i ≡ Some s → slice_get (map ref_global shims) i ≡ Some (ref_global s)
    mapped [] i s h = cc
    mapped (x ∷ shims) zero s h = let same : x ≡ s = cc in ap (λ (y : RefShim). Some (ref_global y)) same
    mapped (x ∷ shims) (suc i) s h = mapped shims i s h

pub filled_ref_shims_forward : FilledRefShimsForward
filled_ref_shims_forward m shims store now made later h e i s f g at there same n arguments moment holds fine =
    let made_is = instances_define m [] store now made h.is_made in
    let has = shim_at m shims 0 i s h.has at in
    let zero_more : 0 + i ≡ i = omega arith in
    let shim = subst (λ p. Defines m s.function s.index s.type (ref_shim (length s.type.params) p s.index)) zero_more has.0 in
    let code = made_is.1 s.function s.index s.type (ref_shim (length s.type.params) i s.index) later shim e in
    let typed : slice_get made.frame.types s.index ≡ Some s.type = ap (λ (x : Frame). slice_get x.types s.index) made_is.0 ∙ shim.1 in
    ref_shims_forward s.type i s.index n later made.frame (length store.functions + s.function) f g arguments moment code typed (record {
      address = length now.globals + i;
      held = Ref (Concrete s.index);
      names_global = ap (λ (x : Frame). slice_get x.globals i) made_is.0 ∙ global_at m store now shims h.more i s h.globals at;
      holds = holds;
    }) there same fine

pub ref_shims_trap_at_first : RefShimsTrapAtFirst
ref_shims_trap_at_first m shims store now made later h e i s at n arguments moment kept fine =
    let made_is = instances_define m [] store now made h.is_made in
    let has = shim_at m shims 0 i s h.has at in
    let zero_more : 0 + i ≡ i = omega arith in
    let shim = subst (λ p. Defines m s.function s.index s.type (ref_shim (length s.type.params) p s.index)) zero_more has.0 in
    let code = made_is.1 s.function s.index s.type (ref_shim (length s.type.params) i s.index) later shim e in
    let stub_code = made_is.1 s.stub s.index s.type stub later has.1 e in
    let typed : slice_get made.frame.types s.index ≡ Some s.type = ap (λ (x : Frame). slice_get x.types s.index) made_is.0 ∙ shim.1 in
    let cells = ref_shims_are_unfilled m shims store now made (map (λ (x : RefShim). x.stub) shims) h (all_there shims) in
    let holds = kept ∙ ap (λ l. slice_get l (length now.globals + i)) cells.1 ∙ slice_get-behind now.globals (map unfilled (fillings (length store.functions) shims (map (λ (x : RefShim). x.stub) shims)) ++ cells.0) i ∙ unfilled_at (length store.functions) shims (map (λ (x : RefShim). x.stub) shims) cells.0 i s (all_there shims) at in
    empty_ref_shims_trap s.type i s.index n later made.frame made.frame (length store.functions + s.function) (length store.functions + s.stub) arguments moment code typed (record {
      address = length now.globals + i;
      held = Ref (Concrete s.index);
      names_global = ap (λ (x : Frame). slice_get x.globals i) made_is.0 ∙ global_at m store now shims h.more i s h.globals at;
      holds = holds;
    }) stub_code fine
  where
    all_there : (shims : List RefShim) → length (map (λ (x : RefShim). x.stub) shims) ≡ length shims
    all_there [] = refl
    all_there (x ∷ shims) = ap suc (all_there shims)
