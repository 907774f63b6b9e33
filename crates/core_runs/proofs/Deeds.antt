-- The steps of a start function do the deeds that they mean.
use Rattle.std.proofs.Common.{◌≡◌, ℕ, suc, ◌+◌, List, [], ◌∷◌, ◌++◌, length, map, reverse, Bool, true, false, Option, Some, None, refl, sym, ap, ◌∙◌, subst, arith, append_assoc, length-append}
use Rattle.std.specs.Prelude.{slice_get, slice_set, if◌then◌else◌}
use Rattle.std.specs.List.{flat_map}
use Rattle.std.specs.Int.{w32}
use Rattle.std.proofs.lemmas.Int.{of_z-to_z}
use Rattle.std.proofs.Math.Seq.{set-append_seam}
use Rattle.core_types.specs.declared.types.ValType.{ValType}
use Rattle.core_types.specs.declared.types.ValType.TheVariants.{I32}
use Rattle.core_types.specs.declared.types.FuncType.{FuncType}
use Rattle.core_bytes.specs.declared.code.Instruction.{Instruction}
use Rattle.core_bytes.specs.declared.code.Instruction.TheVariants.{Call, GlobalGet, GlobalSet, I32Add, I32Store}
use Rattle.core_runs.specs.declared.start.StartStep.{StartStep}
use Rattle.core_runs.specs.declared.start.StartStep.TheVariants.{Fill, Thunk, Hook, AddressToGlobal, AddressToMemory}
use Rattle.core_runs.specs.Hooks.{hook_number}
use Rattle.core_runs.specs.Values.{Value, I32Value, I64Value, F32Value, F64Value, Function, fits, fit}
use Rattle.core_runs.specs.Store.{Frame, Store, Cell, Kept, Foreign, Answer, Gives, Traps, Stored, Now, Outcome, Returned, Open}
use Rattle.core_runs.specs.Execution.{with_item, where_true, and_then, asked, call_top, read_given, read_cell, write_cell, seen, body, exec}
use Rattle.core_runs.specs.Expected.{Known, Is}
use Rattle.core_runs.specs.Bodies.{start_step, sum_code, tls_set}
use Rattle.core_runs.specs.Starts.{Deed, Fills, Calls, Sets, Sums, Stores, SetsCell, Means, MeansEach, read_at, write_at, added, sum_of, deed_done, deeds_done, Filling, unfilled, filled, fill_deeds, with_globals}
use Rattle.core_runs.specs.LawsOfStarts.{StartsAct, StartsFillFirst}
use Rattle.core_runs.proofs.Runs.{has_all, checked, asked_fits, exec_generated}
use Rattle.core_runs.proofs.NotStuck.{hook_fits}
use Rattle.core_runs.proofs.Shims.{call_top_run}
use Rattle.core_runs.proofs.Wrappers.{and_then_cong, and_then_assoc, and_then_fitting, no_results, opaque_run}

-- two continuations of a read that are equal for each result are equal
if_alike : (b : Bool) (x y z : Outcome) → x ≡ y → (if b then x else z) ≡ (if b then y else z)
if_alike true x y z h = h
if_alike false x y z h = refl

given_alike : (t : ValType) (answers : List Answer) (now : Now) (k l : Value → Now → Outcome) → ((v : Value) (after : Now) → k v after ≡ l v after) → read_given t answers now k ≡ read_given t answers now l
given_alike t [] now k l h = refl
given_alike t (Traps ∷ answers) now k l h = refl
given_alike t (Gives [] number ∷ answers) now k l h = refl
given_alike t (Gives (v ∷ []) number ∷ answers) now k l h = if_alike (fits t v) _ _ (Open now) (h v (record now { answers = answers }))
given_alike t (Gives (v ∷ w ∷ vs) number ∷ answers) now k l h = refl

cell_alike : (cell : Option Cell) (now : Now) (k l : Value → Now → Outcome) → ((v : Value) (after : Now) → k v after ≡ l v after) → with_item cell (λ c. read_cell c now k) ≡ with_item cell (λ c. read_cell c now l)
cell_alike None now k l h = refl
cell_alike (Some (Kept t v)) now k l h = h v now
cell_alike (Some (Foreign what t)) now k l h = given_alike t now.answers now k l h

-- a read and its continuation
if_then : (b : Bool) (x y z : Outcome) (k : List Value → Now → Outcome) → and_then x k ≡ y → and_then z k ≡ z → and_then (if b then x else z) k ≡ (if b then y else z)
if_then true x y z k h g = h
if_then false x y z k h g = g

given_then : (t : ValType) (answers : List Answer) (now : Now) (go : Value → Now → Outcome) (k : List Value → Now → Outcome) → and_then (read_given t answers now go) k ≡ read_given t answers now (λ v after. and_then (go v after) k)
given_then t [] now go k = refl
given_then t (Traps ∷ answers) now go k = refl
given_then t (Gives [] number ∷ answers) now go k = refl
given_then t (Gives (v ∷ []) number ∷ answers) now go k = if_then (fits t v) _ _ (Open now) k refl refl
given_then t (Gives (v ∷ w ∷ vs) number ∷ answers) now go k = refl

cell_then : (cell : Option Cell) (now : Now) (go : Value → Now → Outcome) (k : List Value → Now → Outcome) → and_then (with_item cell (λ c. read_cell c now go)) k ≡ with_item cell (λ c. read_cell c now (λ v after. and_then (go v after) k))
cell_then None now go k = refl
cell_then (Some (Kept t v)) now go k = refl
cell_then (Some (Foreign what t)) now go k = given_then t now.answers now go k

added_then : (v w : Value) (go : ℕ → Outcome) (k : List Value → Now → Outcome) → and_then (added v w go) k ≡ added v w (λ s. and_then (go s) k)
added_then (I32Value x) (I32Value y) go k = refl
added_then (I32Value x) w go k = refl
added_then v w go k = refl

sum_then : (b o : ℕ) (now : Now) (go : ℕ → Now → Outcome) (k : List Value → Now → Outcome) → and_then (sum_of b o now go) k ≡ sum_of b o now (λ s after. and_then (go s after) k)
sum_then b o now go k =
    cell_then (slice_get now.globals b) now (λ v first. read_at o first (λ w second. added v w (λ s. go s second))) k
    ∙ cell_alike (slice_get now.globals b) now _ _ (λ v first.
    cell_then (slice_get first.globals o) first (λ w second. added v w (λ s. go s second)) k
    ∙ cell_alike (slice_get first.globals o) first _ _ (λ w second. added_then v w (λ s. go s second) k))

sum_alike : (b o : ℕ) (now : Now) (k l : ℕ → Now → Outcome) → ((s : ℕ) (after : Now) → k s after ≡ l s after) → sum_of b o now k ≡ sum_of b o now l
sum_alike b o now k l h =
    cell_alike (slice_get now.globals b) now _ _ (λ v first. cell_alike (slice_get first.globals o) first _ _ (λ w second. added_alike v w _ _ (λ s. h s second)))
  where
    added_alike : (v w : Value) (k l : ℕ → Outcome) → ((s : ℕ) → k s ≡ l s) → added v w k ≡ added v w l
    added_alike (I32Value x) (I32Value y) k l h = h _
    added_alike (I32Value x) w k l h = refl
    added_alike v w k l h = refl

where_then : (b : Bool) (o : Outcome) (k : List Value → Now → Outcome) → and_then (where_true b o) k ≡ where_true b (and_then o k)
where_then true o k = refl
where_then false o k = refl

-- the written global, and the continuation
write_then : (g : ℕ) (cell : Option Cell) (v : Value) (now : Now) (k : List Value → Now → Outcome) → and_then (with_item cell (λ c. write_cell g c v now (λ after. Returned [] after))) k ≡ with_item cell (λ c. write_cell g c v now (λ after. k [] after))
write_then g None v now k = refl
write_then g (Some (Kept t old)) v now k = where_then (fits t v) _ k
write_then g (Some (Foreign what t)) v now k = where_then (fits t v) _ k

-- a call of a function that sets a cell writes it
cell_set : (n : ℕ) (store : Store) (f g : ℕ) (v : Value) (now : Now) → SetsCell store f g → fit (I32 ∷ []) (v ∷ []) ≡ true → exec (suc n) store f (v ∷ []) now ≡ write_at g v now
cell_set n store f g v now sets fine =
    let code = (tls_set sets.local).instructions in
    let call = exec n store in
    let ran : body store call sets.frame code [] (v ∷ []) now ≡ write_at g v now =
    ap (λ o. with_item o (λ x. with_item (slice_get now.globals x) (λ cell. write_cell x cell v now (λ after. Returned [] after)))) sets.names in
    exec_generated n store f _ (v ∷ []) now sets.has
    ∙ ap (λ b. where_true b (and_then (body store call sets.frame code [] (v ∷ []) now) (checked []))) fine
    ∙ ap (λ o. and_then o (checked [])) ran
    ∙ write_then g (slice_get now.globals g) v now (checked [])

module _ (store : Store) (n : ℕ) (frame : Frame) where
  -- what code does after a step
  abbrev pub following : List Instruction → List Value → Now → Outcome
  following rest results after = body store (exec (suc n) store) frame rest [] [] after

  add_run : (v w : Value) (stack : List Value) (rest : List Instruction) (now : Now) → body store (exec (suc n) store) frame (I32Add ∷ rest) (w ∷ v ∷ stack) [] now ≡ added v w (λ s. body store (exec (suc n) store) frame rest (I32Value s ∷ stack) [] now)
  add_run (I32Value x) (I32Value y) stack rest now = refl
  add_run (I32Value x) (I64Value y) stack rest now = refl
  add_run (I32Value x) (F32Value y) stack rest now = refl
  add_run (I32Value x) (F64Value y) stack rest now = refl
  add_run (I32Value x) (Function y) stack rest now = refl
  add_run v (I32Value y) stack rest now = refl
  add_run v w stack rest now = refl

  get_run : (local g : ℕ) (rest : List Instruction) (stack : List Value) (now : Now) → slice_get frame.globals local ≡ Some g → body store (exec (suc n) store) frame (GlobalGet local ∷ rest) stack [] now ≡ read_at g now (λ v after. body store (exec (suc n) store) frame rest (v ∷ stack) [] after)
  get_run local g rest stack now h =
      ap (λ o. with_item o (λ x. with_item (slice_get now.globals x) (λ cell. read_cell cell now (λ v after. body store (exec (suc n) store) frame rest (v ∷ stack) [] after)))) h

  set_run : (local g : ℕ) (v : Value) (rest : List Instruction) (now : Now) → slice_get frame.globals local ≡ Some g → body store (exec (suc n) store) frame (GlobalSet local ∷ rest) (v ∷ []) [] now ≡ and_then (write_at g v now) (following rest)
  set_run local g v rest now h =
      ap (λ o. with_item o (λ x. with_item (slice_get now.globals x) (λ cell. write_cell x cell v now (λ after. body store (exec (suc n) store) frame rest [] [] after)))) h
      ∙ sym (write_then g (slice_get now.globals g) v now (following rest))

  sum_run : (base offset b o : ℕ) (rest : List Instruction) (stack : List Value) (now : Now) → slice_get frame.globals base ≡ Some b → slice_get frame.globals offset ≡ Some o → body store (exec (suc n) store) frame (sum_code base offset ++ rest) stack [] now ≡ sum_of b o now (λ s after. body store (exec (suc n) store) frame rest (I32Value s ∷ stack) [] after)
  sum_run base offset b o rest stack now hb ho =
      get_run base b (GlobalGet offset ∷ I32Add ∷ rest) stack now hb
      ∙ cell_alike (slice_get now.globals b) now _ _ (λ v first.
      get_run offset o (I32Add ∷ rest) (v ∷ stack) first ho
      ∙ cell_alike (slice_get first.globals o) first _ _ (λ w second. add_run v w stack rest second))

  -- one call of a function from outside that gives nothing
  call_run : (index : ℕ) (target : Known) (what : ℕ) (arguments : List Value) (rest : List Instruction) (now : Now) → slice_get frame.functions index ≡ Some target.address → Is store target what → length target.signature.params ≡ length arguments → target.signature.results ≡ [] → body store (exec (suc n) store) frame (Call index ∷ rest) (reverse arguments ++ []) [] now ≡ and_then (asked target.address target.signature arguments now) (following rest)
  call_run index target what arguments rest now names is len none =
      let next = body store (exec (suc n) store) frame rest in
      opaque_run store (suc n) frame index target.address what target.signature arguments [] next [] now names is len
      ∙ and_then_fitting target.signature.results (asked target.address target.signature arguments now) (λ rs after. next (reverse rs ++ []) [] after) (following rest) (asked_fits target.address target.signature arguments now) (λ rs after fine.
      ap (λ l. next (reverse l ++ []) [] after) (no_results rs (subst (λ (ts : List ValType). fit ts rs ≡ true) none fine)))

  store_run : (m a s : ℕ) (rest : List Instruction) (now : Now) → slice_get frame.memories 0 ≡ Some m → body store (exec (suc n) store) frame (I32Store ∷ rest) (I32Value s ∷ I32Value a ∷ []) [] now ≡ following rest [] (seen now (Stored m a s))
  store_run m a s rest now h = ap (λ o. with_item o (λ x. following rest [] (seen now (Stored x a s)))) h

  -- one call of a function that sets a cell
  cell_run : (index f g number : ℕ) (rest : List Instruction) (now : Now) → slice_get frame.functions index ≡ Some f → SetsCell store f g → fit (I32 ∷ []) (I32Value number ∷ []) ≡ true → body store (exec (suc n) store) frame (Call index ∷ rest) (I32Value number ∷ []) [] now ≡ and_then (write_at g (I32Value number) now) (following rest)
  cell_run index f g number rest now names sets fine =
      let v = I32Value number in
      let next = body store (exec (suc n) store) frame rest in
      let k = λ (rs : List Value) (after : Now). next (reverse rs ++ []) [] after in
      ap (λ o. with_item o (λ a. call_top store (exec (suc n) store) frame a next (v ∷ []) [] now)) names
      ∙ call_top_run store (exec (suc n) store) frame f _ (v ∷ []) [] next [] now sets.has refl
      ∙ ap (λ o. and_then o k) (cell_set n store f g (I32Value number) now sets fine)
      ∙ write_then g (slice_get now.globals g) v now k
      ∙ sym (write_then g (slice_get now.globals g) v now (following rest))

  -- one step
  step_run : (step : StartStep) (deed : Deed) (rest : List Instruction) (now : Now) → Means store frame step deed → body store (exec (suc n) store) frame (start_step step ++ rest) [] [] now ≡ and_then (deed_done deed now) (following rest)
  step_run (Fill global function) (Fills g f) rest now h =
      ap (λ o. with_item o (λ a. body store (exec (suc n) store) frame (GlobalSet global ∷ rest) (Function a ∷ []) [] now)) h.0
      ∙ set_run global g (Function f) rest now h.1
  step_run (Thunk function) (Calls target arguments) rest now h =
      subst (λ (vs : List Value). body store (exec (suc n) store) frame (Call function ∷ rest) [] [] now ≡ and_then (asked target.address target.signature vs now) (following rest)) (sym h.2)
      (call_run function target h.3.0 [] rest now h.0 h.3.1 (ap (λ (t : FuncType). length t.params) h.1) (ap (λ (t : FuncType). t.results) h.1))
  step_run (Hook hook moment) (Calls target arguments) rest now h =
      subst (λ (vs : List Value). body store (exec (suc n) store) frame (Call hook ∷ rest) (I32Value (hook_number moment) ∷ []) [] now ≡ and_then (asked target.address target.signature vs now) (following rest)) (sym h.2)
      (call_run hook target h.3.0 (I32Value (hook_number moment) ∷ []) rest now h.0 h.3.1 (ap (λ (t : FuncType). length t.params) h.1) (ap (λ (t : FuncType). t.results) h.1))
  step_run (Hook hook moment) (Sets g number) rest now h =
      subst (λ (k : ℕ). body store (exec (suc n) store) frame (Call hook ∷ rest) (I32Value (hook_number moment) ∷ []) [] now ≡ and_then (write_at g (I32Value k) now) (following rest)) (sym h.3)
      (cell_run hook h.0 g (hook_number moment) rest now h.1 h.2 (hook_fits moment))
  step_run (AddressToGlobal base offset global) (Sums b o g) rest now h =
      sum_run base offset b o (GlobalSet global ∷ rest) [] now h.0 h.1
      ∙ sum_alike b o now _ _ (λ s after. set_run global g (I32Value s) rest after h.2)
      ∙ sym (sum_then b o now (λ s after. write_at g (I32Value s) after) (following rest))
  step_run (AddressToMemory base offset address) (Stores b o m a) rest now h =
      ap (λ x. body store (exec (suc n) store) frame (sum_code base offset ++ (I32Store ∷ rest)) (I32Value x ∷ []) [] now) (of_z-to_z w32 address h.4 ∙ sym h.3)
      ∙ sum_run base offset b o (I32Store ∷ rest) (I32Value a ∷ []) now h.0 h.1
      ∙ sum_alike b o now _ _ (λ s after. store_run m a s rest after h.2)
      ∙ sym (sum_then b o now (λ s after. Returned [] (seen after (Stored m a s))) (following rest))
  step_run step deed rest now h = absurd h

  steps_run : (steps : List StartStep) (deeds : List Deed) (now : Now) → MeansEach store frame steps deeds → body store (exec (suc n) store) frame (flat_map start_step steps) [] [] now ≡ deeds_done deeds now
  steps_run [] [] now h = refl
  steps_run (step ∷ steps) (deed ∷ deeds) now h =
      step_run step deed (flat_map start_step steps) now h.0
      ∙ and_then_cong (deed_done deed now) (following (flat_map start_step steps)) (λ rs after. deeds_done deeds after) (λ rs after. steps_run steps deeds after h.1)
  steps_run steps deeds now h = absurd h

-- deeds give nothing
done_checked : (deeds : List Deed) (now : Now) → and_then (deeds_done deeds now) (checked []) ≡ deeds_done deeds now
done_checked [] now = refl
done_checked (d ∷ ds) now =
    and_then_assoc (deed_done d now) (λ rs after. deeds_done ds after) (checked [])
    ∙ and_then_cong (deed_done d now) _ (λ rs after. deeds_done ds after) (λ rs after. done_checked ds after)

pub starts_act : StartsAct
starts_act steps deeds n store frame f now there means =
    exec_generated (suc n) store f _ [] now there
    ∙ ap (λ o. and_then o (checked [])) (steps_run store n frame steps deeds now means)
    ∙ done_checked deeds now

-- One fill replaces what the global held with its function.
one_fill : (fill : Filling) (pre post : List Cell) (now : Now) → now.globals ≡ pre ++ (unfilled fill ∷ post) → write_at (length pre) (Function fill.function) now ≡ Returned [] (with_globals now (pre ++ (filled fill ∷ post)))
one_fill fill pre post now he =
    let there : slice_get now.globals (length pre) ≡ Some (unfilled fill) = ap (λ l. slice_get l (length pre)) he ∙ (has_all (unfilled fill ∷ post) pre).0 in
    ap (λ o. with_item o (λ c. write_cell (length pre) c (Function fill.function) now (λ after. Returned [] after))) there
    ∙ ap (λ l. Returned [] (with_globals now l)) (ap (λ l. slice_set l (length pre) (filled fill)) he ∙ set-append_seam pre (unfilled fill) post (filled fill))

fills_done : (fills : List Filling) (deeds : List Deed) (pre post : List Cell) (now : Now) → now.globals ≡ pre ++ (map unfilled fills ++ post) → deeds_done (fill_deeds (length pre) fills ++ deeds) now ≡ deeds_done deeds (with_globals now (pre ++ (map filled fills ++ post)))
fills_done [] deeds pre post now he = ap (λ l. deeds_done deeds (with_globals now l)) he
fills_done (fill ∷ fills) deeds pre post now he =
    let new = filled fill in
    let now1 = with_globals now (pre ++ (new ∷ (map unfilled fills ++ post))) in
    let longer : length (pre ++ new ∷ []) ≡ length pre + 1 = omega (arith, length-append pre (new ∷ [])) in
    ap (λ o. and_then o (λ rs after. deeds_done (fill_deeds (length pre + 1) fills ++ deeds) after)) (one_fill fill pre (map unfilled fills ++ post) now he)
    ∙ ap (λ g. deeds_done (fill_deeds g fills ++ deeds) now1) (sym longer)
    ∙ fills_done fills deeds (pre ++ new ∷ []) post now1 (sym (append_assoc pre (new ∷ []) (map unfilled fills ++ post)))
    ∙ ap (λ l. deeds_done deeds (with_globals now l)) (append_assoc pre (new ∷ []) (map filled fills ++ post))

pub starts_fill_first : StartsFillFirst
starts_fill_first steps fills deeds pre post n store frame f now there means he =
    starts_act steps (fill_deeds (length pre) fills ++ deeds) n store frame f now there means ∙ fills_done fills deeds pre post now he
