-- The two functions of the cell read it and set it, and do nothing else.
use Rattle.std.proofs.Common.{◌≡◌, ℕ, zero, suc, List, [], ◌∷◌, true, ◌&&◌, Some, refl, ap, ◌∙◌}
use Rattle.std.specs.Prelude.{slice_get, slice_set}
use Rattle.core_types.specs.declared.types.ValType.{ValType}
use Rattle.core_runs.specs.Values.{Value, fits, fit}
use Rattle.core_runs.specs.Store.{Frame, Store, Cell, Kept, Now, Returned}
use Rattle.core_runs.specs.Execution.{with_item, where_true, and_then, Calling, body, read_cell, write_cell, exec, acts}
use Rattle.core_runs.specs.Starts.{with_globals}
use Rattle.core_runs.specs.Bodies.{tls_get, tls_set}
use Rattle.core_runs.specs.Cells.{Get, Set, IsGetter, IsSetter, GettersRead, SettersWrite, tls_calls, TlsIsOneCell}
use Rattle.core_runs.proofs.Runs.{checked, exec_generated}

one_fits : (t : ValType) (v : Value) → fits t v ≡ true → fit (t ∷ []) (v ∷ []) ≡ true
one_fits t v e = ap (λ b. b && true) e

get_body : (store : Store) (call : Calling) (frame : Frame) (local global : ℕ) (t : ValType) (v : Value) (now : Now) → slice_get frame.globals local ≡ Some global → slice_get now.globals global ≡ Some (Kept t v) → body store call frame ((tls_get local)).instructions [] [] now ≡ Returned (v ∷ []) now
get_body store call frame local global t v now hl hg =
    ap (λ o. with_item o (λ g. with_item (slice_get now.globals g) (λ cell. read_cell cell now (λ w after. body store call frame [] (w ∷ []) [] after)))) hl
    ∙ ap (λ o. with_item o (λ cell. read_cell cell now (λ w after. body store call frame [] (w ∷ []) [] after))) hg

pub get_runs : (n : ℕ) (store : Store) (t : ValType) (global f : ℕ) (v : Value) (now : Now) → IsGetter store t global f → slice_get now.globals global ≡ Some (Kept t v) → fits t v ≡ true → exec (suc n) store f [] now ≡ Returned (v ∷ []) now
get_runs n store t global f v now tls holds fine =
    exec_generated n store f _ [] now tls.has
    ∙ ap (λ o. and_then o (checked (t ∷ []))) (get_body store (exec n store) tls.frame tls.local global t v now tls.names holds)
    ∙ ap (λ b. where_true b (Returned (v ∷ []) now)) (one_fits t v fine)

set_body : (store : Store) (call : Calling) (frame : Frame) (local global : ℕ) (t : ValType) (old v : Value) (now : Now) → slice_get frame.globals local ≡ Some global → slice_get now.globals global ≡ Some (Kept t old) → fits t v ≡ true → body store call frame ((tls_set local)).instructions [] (v ∷ []) now ≡ Returned [] (with_globals now (slice_set now.globals global (Kept t v)))
set_body store call frame local global t old v now hl hg fine =
    ap (λ o. with_item o (λ g. with_item (slice_get now.globals g) (λ cell. write_cell g cell v now (λ after. body store call frame [] [] (v ∷ []) after)))) hl
    ∙ ap (λ o. with_item o (λ cell. write_cell global cell v now (λ after. body store call frame [] [] (v ∷ []) after))) hg
    ∙ ap (λ b. where_true b (Returned [] (with_globals now (slice_set now.globals global (Kept t v))))) fine

pub set_runs : (n : ℕ) (store : Store) (t : ValType) (global f : ℕ) (old v : Value) (now : Now) → IsSetter store t global f → slice_get now.globals global ≡ Some (Kept t old) → fits t v ≡ true → exec (suc n) store f (v ∷ []) now ≡ Returned [] (with_globals now (slice_set now.globals global (Kept t v)))
set_runs n store t global f old v now tls holds fine =
    exec_generated n store f _ (v ∷ []) now tls.has
    ∙ ap (λ b. where_true b (and_then (body store (exec n store) tls.frame ((tls_set tls.local)).instructions [] (v ∷ []) now) (checked []))) (one_fits t v fine)
    ∙ ap (λ o. and_then o (checked [])) (set_body store (exec n store) tls.frame tls.local global t old v now tls.names holds fine)

pub getters_read : GettersRead
unfolding acts
getters_read store t cell f tls = record { same = λ v now holds fine. get_runs 3 store t cell f v now tls holds fine }

pub setters_write : SettersWrite
unfolding acts
setters_write store t cell f tls = record { same = λ old v now holds fine. set_runs 3 store t cell f old v now tls holds fine }

-- what was written is there
pub set_there : (cells : List Cell) (g : ℕ) (old new : Cell) → slice_get cells g ≡ Some old → slice_get (slice_set cells g new) g ≡ Some new
set_there [] g old new h = cc
set_there (c ∷ cells) zero old new h = refl
set_there (c ∷ cells) (suc g) old new h = set_there cells g old new h

pub tls_is_one_cell : TlsIsOneCell
tls_is_one_cell store t cell [] v now go holds fine all = (now, holds, refl, refl, refl)
tls_is_one_cell store t cell (Get f ∷ calls) v now go holds fine all =
    let rest = tls_is_one_cell store t cell calls v now (λ more last. go ((v ∷ []) ∷ more) last) holds fine all.1 in
    (rest.0, rest.1, rest.2, rest.3, ap (λ o. and_then o (λ results after. tls_calls store calls after (λ more last. go (results ∷ more) last))) (all.0.same v now holds fine) ∙ rest.4)
tls_is_one_cell store t cell (Set f w ∷ calls) v now go holds fine all =
    let now1 = with_globals now (slice_set now.globals cell (Kept t w)) in
    let rest = tls_is_one_cell store t cell calls w now1 (λ more last. go ([] ∷ more) last) (set_there now.globals cell (Kept t v) (Kept t w) holds) all.0.1 all.1 in
    (rest.0, rest.1, rest.2, rest.3, ap (λ o. and_then o (λ results after. tls_calls store calls after (λ more last. go (results ∷ more) last))) (all.0.0.same v w now holds all.0.1) ∙ rest.4)
