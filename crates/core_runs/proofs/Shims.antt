-- A shim does what the function that it holds does.
use Rattle.std.proofs.Common.{◌≡◌, ℕ, suc, ◌<◌, List, [], ◌∷◌, ◌++◌, length, reverse, take, drop, Bool, true, false, ◌&&◌, Option, Some, None, refl, sym, ap, ◌∙◌, subst}
use Rattle.std.specs.Prelude.{ℤ, slice_get, ◌^◌, if◌then◌else◌}
use Rattle.std.proofs.Math.Seq.{take-append_seam, drop-append_seam}
use Rattle.std.proofs.lemmas.List.{reverse-reverse, length-reverse, append-nil}
use Rattle.std.proofs.lemmas.Bool.{eq-eqb}
use Rattle.core_types.specs.declared.types.ValType.{ValType}
use Rattle.core_types.specs.declared.types.ValType.TheVariants.{I32, I64, F32, F64, Ref}
use Rattle.core_types.specs.declared.types.RefType.TheVariants.{FuncRef, Concrete}
use Rattle.core_bytes.specs.declared.code.Instruction.TheVariants.{I32Const, CallIndirect}
use Rattle.core_types.specs.declared.types.FuncType.{FuncType}
use Rattle.core_bytes.specs.declared.code.Body.{Body}
use Rattle.std.specs.Int.{cast_unsigned, cast_signed, w32}
use Rattle.core_runs.specs.Values.{Value, I32Value, fits, fit, same_value_type, same_value_types, same_signature}
use Rattle.core_runs.specs.Store.{Frame, Func, signature_of, Store, Now, ByCode, Outcome, Returned, Trapped}
use Rattle.core_runs.specs.Execution.{with_item, where_true, and_then, Calling, Next, body, act, call_top, of_type, with_slot, exec}
use Rattle.core_runs.specs.Bodies.{plain, table_shim_code, table_shim}
use Rattle.core_runs.specs.Shims.{HasBody, HoldsSlot, ForwardsBySlot, ShimBySlot}
use Rattle.core_runs.specs.LawsOfShims.{TableShimsForward, EmptyTableShimsTrap}
use Rattle.std.proofs.lemmas.Int.{of_z-to_z}
use Rattle.core_runs.proofs.Runs.{has_locals, gets_run, and_then_same, checked, exec_generated, exec_fits}

and_left : (a b : Bool) → (a && b) ≡ true → a ≡ true
and_left true b e = refl
and_left false b e = e

and_right : (a b : Bool) → (a && b) ≡ true → b ≡ true
and_right true b e = e
and_right false b e = absurd (let bad : false ≡ true = e in cc)

-- as many values as types
pub fit-length : (ts : List ValType) (vs : List Value) → fit ts vs ≡ true → length ts ≡ length vs
fit-length [] [] e = refl
fit-length [] (v ∷ vs) e = cc
fit-length (t ∷ ts) [] e = cc
fit-length (t ∷ ts) (v ∷ vs) e = ap suc (fit-length ts vs (and_right (fits t v) (fit ts vs) e))

same_value_type-refl : (t : ValType) → same_value_type t t ≡ true
same_value_type-refl I32 = refl
same_value_type-refl I64 = refl
same_value_type-refl F32 = refl
same_value_type-refl F64 = refl
same_value_type-refl (Ref FuncRef) = refl
same_value_type-refl (Ref (Concrete t)) = eq-eqb t t refl

same_value_types-refl : (ts : List ValType) → same_value_types ts ts ≡ true
same_value_types-refl [] = refl
same_value_types-refl (t ∷ ts) = ap (λ b. b && same_value_types ts ts) (same_value_type-refl t) ∙ same_value_types-refl ts

same_signature-refl : (s : FuncType) → same_signature s s ≡ true
same_signature-refl s = ap (λ b. b && same_value_types s.results s.results) (same_value_types-refl s.params) ∙ same_value_types-refl s.results

-- the topmost values, the lowest first, and what is below them
pub top_values : (vs below : List Value) (n : ℕ) → n ≡ length vs → reverse (take n (reverse vs ++ below)) ≡ vs
top_values vs below n e =
    let len : n ≡ length (reverse vs) = e ∙ sym (length-reverse vs) in
    ap (λ m. reverse (take m (reverse vs ++ below))) len ∙ ap reverse (take-append_seam (reverse vs) below) ∙ reverse-reverse vs

pub below_values : (vs below : List Value) (n : ℕ) → n ≡ length vs → drop n (reverse vs ++ below) ≡ below
below_values vs below n e =
    let len : n ≡ length (reverse vs) = e ∙ sym (length-reverse vs) in
    ap (λ m. drop m (reverse vs ++ below)) len ∙ drop-append_seam (reverse vs) below

module _ (store : Store) (call : Calling) (frame : Frame) where
  -- a call of the topmost values
  pub call_top_run : (f : ℕ) (g : Func) (vs below : List Value) (next : Next) (locals : List Value) (now : Now) → slice_get store.functions f ≡ Some g → length (signature_of g).params ≡ length vs → call_top store call frame f next (reverse vs ++ below) locals now ≡ and_then (call f vs now) (λ results after. next (reverse results ++ below) locals after)
  call_top_run f g vs below next locals now h len =
      let n = length (signature_of g).params in
      let stack = reverse vs ++ below in
      ap (λ o. with_item o (λ x. and_then (call f (reverse (take (length (signature_of x).params) stack)) now) (λ results after. next (reverse results ++ drop (length (signature_of x).params) stack) locals after))) h
      ∙ ap (λ a. and_then (call f a now) (λ results after. next (reverse results ++ drop n stack) locals after)) (top_values vs below n len)
      ∙ ap (λ d. and_then (call f vs now) (λ results after. next (reverse results ++ d) locals after)) (below_values vs below n len)

  -- a function of the type
  pub of_type_run : (f type : ℕ) (g : Func) (now : Now) (go : Outcome) → slice_get store.functions f ≡ Some g → slice_get frame.types type ≡ Some (signature_of g) → of_type store call frame f type now go ≡ go
  of_type_run f type g now go h t =
      ap (λ o. with_item o (λ x. with_item (slice_get frame.types type) (λ s. if same_signature s (signature_of x) then go else Trapped ByCode now))) h
      ∙ ap (λ o. with_item o (λ s. if same_signature s (signature_of g) then go else Trapped ByCode now)) t
      ∙ ap (λ b. if b then go else Trapped ByCode now) (same_signature-refl (signature_of g))

  -- the call through the table
  pub indirect_run : (type table slot_index : ℕ) (slots : List (Option ℕ)) (f : ℕ) (g : Func) (vs : List Value) (next : Next) (locals : List Value) (now : Now) → slice_get frame.tables 0 ≡ Some table → slice_get store.tables table ≡ Some slots → slice_get slots slot_index ≡ Some (Some f) → slice_get store.functions f ≡ Some g → slice_get frame.types type ≡ Some (signature_of g) → length (signature_of g).params ≡ length vs → act store call frame (CallIndirect type 0) next (I32Value slot_index ∷ (reverse vs ++ [])) locals now ≡ and_then (call f vs now) (λ results after. next (reverse results ++ []) locals after)
  indirect_run type table slot_index slots f g vs next locals now ht hs hp hf hg len =
      let stack = reverse vs ++ [] in
      let go = λ (x : ℕ). of_type store call frame x type now (call_top store call frame x next stack locals now) in
      ap (λ o. with_item o (λ t. with_item (slice_get store.tables t) (λ s. with_slot (slice_get s slot_index) now go))) ht
      ∙ ap (λ o. with_item o (λ s. with_slot (slice_get s slot_index) now go)) hs
      ∙ ap (λ o. with_slot o now go) hp
      ∙ of_type_run f type g now _ hf hg
      ∙ call_top_run f g vs [] next locals now hf len

  empty_slot_run : (type table slot_index : ℕ) (slots : List (Option ℕ)) (stack : List Value) (next : Next) (locals : List Value) (now : Now) → slice_get frame.tables 0 ≡ Some table → slice_get store.tables table ≡ Some slots → slice_get slots slot_index ≡ Some None → act store call frame (CallIndirect type 0) next (I32Value slot_index ∷ stack) locals now ≡ Trapped ByCode now
  empty_slot_run type table slot_index slots stack next locals now ht hs hp =
      let go = λ (x : ℕ). of_type store call frame x type now (call_top store call frame x next stack locals now) in
      ap (λ o. with_item o (λ t. with_item (slice_get store.tables t) (λ s. with_slot (slice_get s slot_index) now go))) ht
      ∙ ap (λ o. with_item o (λ s. with_slot (slice_get s slot_index) now go)) hs
      ∙ ap (λ o. with_slot o now go) hp

-- the code of a shim up to the call
table_shim_up_to : (store : Store) (call : Calling) (frame : Frame) (slot_index : ℤ) (type : ℕ) (ts : List ValType) (vs : List Value) (now : Now) → length ts ≡ length vs → body store call frame (table_shim_code (length ts) slot_index type) [] (vs ++ []) now ≡ act store call frame (CallIndirect type 0) (body store call frame []) (I32Value (cast_unsigned w32 slot_index) ∷ (reverse vs ++ [])) (vs ++ []) now
table_shim_up_to store call frame slot_index type ts vs now len =
    ap (λ n. body store call frame (table_shim_code n slot_index type) [] (vs ++ []) now) len
    ∙ gets_run store call frame vs 0 (I32Const slot_index ∷ CallIndirect type 0 ∷ []) [] (vs ++ []) now (has_locals vs [])

-- results that are passed on
handed_on : (o : Outcome) (locals : List Value) (store : Store) (call : Calling) (frame : Frame) → and_then o (λ results after. body store call frame [] (reverse results ++ []) locals after) ≡ o
handed_on o locals store call frame =
    and_then_same o _ (λ rs now. ap (λ l. Returned l now) (ap reverse (append-nil (reverse rs)) ∙ reverse-reverse rs))

-- A filled shim does what the function does, whatever the function, the arguments and the results.
shim_filled : (n : ℕ) (store : Store) (frame : Frame) (shim f : ℕ) (g : Func) (s : FuncType) (slot_index : ℤ) (type : ℕ) (arguments : List Value) (now : Now) → HasBody store shim frame s (plain (table_shim_code (length s.params) slot_index type)) → slice_get frame.types type ≡ Some s → HoldsSlot store frame (cast_unsigned w32 slot_index) (Some f) → slice_get store.functions f ≡ Some g → signature_of g ≡ s → fit s.params arguments ≡ true → exec (suc n) store shim arguments now ≡ exec n store f arguments now
shim_filled n store frame shim f g s slot_index type arguments now code typed is there same fine =
    let call = exec n store in
    let len = fit-length s.params arguments fine in
    let typed' : slice_get frame.types type ≡ Some (signature_of g) = typed ∙ ap Some (sym same) in
    let len' : length (signature_of g).params ≡ length arguments = ap (λ (x : FuncType). length x.params) same ∙ len in
    let ran : body store call frame (table_shim_code (length s.params) slot_index type) [] (arguments ++ []) now ≡ exec n store f arguments now =
    table_shim_up_to store call frame slot_index type s.params arguments now len
    ∙ indirect_run store call frame type is.table (cast_unsigned w32 slot_index) is.slots f g arguments (body store call frame []) (arguments ++ []) now is.names_table is.holds_slots is.holds there typed' len'
    ∙ handed_on (exec n store f arguments now) (arguments ++ []) store call frame in
    exec_generated n store shim _ arguments now code
    ∙ ap (λ b. where_true b (and_then (body store call frame (table_shim_code (length s.params) slot_index type) [] (arguments ++ []) now) (checked s.results))) fine
    ∙ ap (λ o. and_then o (checked s.results)) ran
    ∙ subst (λ (x : FuncType). and_then (exec n store f arguments now) (checked x.results) ≡ exec n store f arguments now) same (exec_fits n store f g arguments now there)

-- A shim that isn't filled traps with no event.
shim_empty : (n : ℕ) (store : Store) (frame : Frame) (shim : ℕ) (s : FuncType) (slot_index : ℤ) (type : ℕ) (arguments : List Value) (now : Now) → HasBody store shim frame s (plain (table_shim_code (length s.params) slot_index type)) → HoldsSlot store frame (cast_unsigned w32 slot_index) None → fit s.params arguments ≡ true → exec (suc n) store shim arguments now ≡ Trapped ByCode now
shim_empty n store frame shim s slot_index type arguments now code is fine =
    let call = exec n store in
    let len = fit-length s.params arguments fine in
    let ran : body store call frame (table_shim_code (length s.params) slot_index type) [] (arguments ++ []) now ≡ Trapped ByCode now =
    table_shim_up_to store call frame slot_index type s.params arguments now len
    ∙ empty_slot_run store call frame type is.table (cast_unsigned w32 slot_index) is.slots (reverse arguments ++ []) (body store call frame []) (arguments ++ []) now is.names_table is.holds_slots is.holds in
    exec_generated n store shim _ arguments now code
    ∙ ap (λ b. where_true b (and_then (body store call frame (table_shim_code (length s.params) slot_index type) [] (arguments ++ []) now) (checked s.results))) fine
    ∙ ap (λ o. and_then o (checked s.results)) ran

pub table_shim_forwards : (s : FuncType) (slot_index : ℤ) (type : ℕ) → ForwardsBySlot s (plain (table_shim_code (length s.params) slot_index type)) type (cast_unsigned w32 slot_index)
table_shim_forwards s slot_index type = record {
  filled = λ n store frame shim f g arguments now. shim_filled n store frame shim f g s slot_index type arguments now;
  empty = λ n store frame shim arguments now. shim_empty n store frame shim s slot_index type arguments now;
}

-- for a slot by its index
pub table_shim_at : (s : FuncType) (slot_index type : ℕ) → slot_index < 2 ^ 32 → ForwardsBySlot s (table_shim (length s.params) slot_index type) type slot_index
table_shim_at s slot_index type h =
    subst (λ (p : ℕ). ForwardsBySlot s (table_shim (length s.params) slot_index type) type p) (of_z-to_z w32 slot_index h) (table_shim_forwards s (cast_signed w32 slot_index) type)

pub is_table_shim : (made : Body) (count slot_index type : ℕ) → made ≡ table_shim count slot_index type → slot_index < 2 ^ 32 → ShimBySlot count made type slot_index
is_table_shim made count slot_index type e h =
    record { forwards = λ s n. subst (λ (b : Body). ForwardsBySlot s b type slot_index) (ap (λ m. table_shim m slot_index type) n ∙ sym e) (table_shim_at s slot_index type h) }

pub table_shims_forward : TableShimsForward
table_shims_forward type slot_index type_index n store frame shim f g arguments now h =
    (table_shim_at type slot_index type_index h).filled n store frame shim f g arguments now

pub empty_table_shims_trap : EmptyTableShimsTrap
empty_table_shims_trap type slot_index type_index n store frame shim arguments now h =
    (table_shim_at type slot_index type_index h).empty n store frame shim arguments now
