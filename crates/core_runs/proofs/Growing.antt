-- Each iteration of a loop appends one piece to a body.
use Rattle.std.proofs.Common.{◌≡◌, ℕ, zero, suc, ◌+◌, ◌<◌, List, [], ◌∷◌, ◌++◌, length, take, get_or, sym, ap, ◌∙◌, arith, append_assoc}
use Rattle.std.proofs.lemmas.List.FromFn.{map-range_with_len_more}
use Rattle.core_bytes.specs.declared.code.Instruction.{Instruction}
use Rattle.core_bytes.specs.declared.code.Instruction.TheVariants.{LocalGet}
use Rattle.core_runs.specs.declared.tables.Shim.{Shim}
use Rattle.std.specs.List.{flat_map}
use Rattle.std.proofs.lemmas.Grind.{flat_map-append}
use Rattle.core_runs.specs.declared.start.StartStep.{StartStep}
use Rattle.core_runs.specs.Bodies.{start_step, gets, table_shim, table_shims}

pub gets_more : (code : List Instruction) (i : ℕ) → (code ++ gets i) ++ LocalGet i ∷ [] ≡ code ++ gets (i + 1)
gets_more code i =
    append_assoc code (gets i) (LocalGet i ∷ []) ∙ ap (λ l. code ++ l) (sym (map-range_with_len_more LocalGet 0 i i (omega arith)))

more_from : (shims : List Shim) (slot_index i : ℕ) (none : Shim) → i < length shims → table_shims slot_index (take (suc i) shims) ≡ table_shims slot_index (take i shims) ++ table_shim (get_or shims i none).params (slot_index + i) (get_or shims i none).type_index ∷ []
more_from [] slot_index i none h = absurd (omega arith)
more_from (x ∷ shims) slot_index zero none h =
    let same : slot_index ≡ slot_index + 0 = omega arith in
    ap (λ n. table_shim x.params n x.type_index ∷ []) same
more_from (x ∷ shims) slot_index (suc i) none h =
    let s = get_or shims i none in
    let one : slot_index + 1 + i ≡ slot_index + suc i = omega arith in
    ap (λ l. table_shim x.params slot_index x.type_index ∷ l) (more_from shims (slot_index + 1) i none (omega arith) ∙ ap (λ n. table_shims (slot_index + 1) (take i shims) ++ table_shim s.params n s.type_index ∷ []) one)

pub shims_more : (shims : List Shim) (i : ℕ) (none : Shim) → i < length shims → table_shims 0 (take (i + 1) shims) ≡ table_shims 0 (take i shims) ++ table_shim (get_or shims i none).params i (get_or shims i none).type_index ∷ []
shims_more shims i none h =
    let s = get_or shims i none in
    let one : i + 1 ≡ suc i = omega arith in
    let zero_more : 0 + i ≡ i = omega arith in
    ap (λ n. table_shims 0 (take n shims)) one ∙ more_from shims 0 i none h ∙ ap (λ n. table_shims 0 (take i shims) ++ table_shim s.params n s.type_index ∷ []) zero_more

pub steps_joined : (fills steps : List StartStep) → flat_map start_step (fills ++ steps) ≡ flat_map start_step fills ++ flat_map start_step steps
steps_joined fills steps = flat_map-append start_step fills steps
