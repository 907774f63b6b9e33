-- A shim in the reference form does what the function in its global does.
use Rattle.std.proofs.Common.{◌≡◌, ℕ, suc, List, [], ◌∷◌, ◌++◌, length, reverse, true, Some, refl, sym, ap, ◌∙◌, subst}
use Rattle.std.specs.Prelude.{slice_get, map, option_map}
use Rattle.std.proofs.lemmas.List.{reverse-reverse, append-nil}
use Rattle.std.proofs.lemmas.Option.{slice_get-map}
use Rattle.core_types.specs.declared.types.ValType.{ValType}
use Rattle.core_bytes.specs.declared.code.Instruction.TheVariants.{GlobalGet, ReturnCallRef, Unreachable}
use Rattle.core_types.specs.declared.types.FuncType.{FuncType}
use Rattle.core_bytes.specs.declared.code.Body.{Body}
use Rattle.core_runs.specs.Values.{Value, Function, fit}
use Rattle.core_runs.specs.Store.{Frame, Func, Generated, signature_of, Store, Cell, Kept, Now, ByCode, Returned, Trapped}
use Rattle.core_runs.specs.Execution.{with_item, where_true, and_then, Calling, body, read_cell, renewed, exec}
use Rattle.core_runs.specs.Bodies.{ref_shim_code, ref_shim, stub}
use Rattle.core_runs.specs.Shims.{HasBody, HoldsGlobal, ForwardsByGlobal, TrapsAtOnce, ShimByGlobal}
use Rattle.core_runs.specs.LawsOfShims.{RefShimsForward, StubsTrap, EmptyRefShimsTrap}
use Rattle.core_runs.proofs.Runs.{has_locals, gets_run, and_then_same, checked, exec_generated, exec_fits}
use Rattle.core_runs.proofs.Shims.{fit-length, call_top_run, of_type_run}

-- a function in a global is unchanged over opaque calls
pub function_unchanged : (globals : List Cell) (g : ℕ) (t : ValType) (f number : ℕ) → slice_get globals g ≡ Some (Kept t (Function f)) → slice_get (map (renewed number) globals) g ≡ Some (Kept t (Function f))
function_unchanged globals g t f number h = slice_get-map (renewed number) globals g ∙ ap (option_map (renewed number)) h

module _ (store : Store) (call : Calling) (frame : Frame) where
  ref_call_run : (local type global : ℕ) (t : ValType) (f : ℕ) (g : Func) (vs locals : List Value) (now : Now) → slice_get frame.globals local ≡ Some global → slice_get now.globals global ≡ Some (Kept t (Function f)) → slice_get store.functions f ≡ Some g → slice_get frame.types type ≡ Some (signature_of g) → length (signature_of g).params ≡ length vs → body store call frame (GlobalGet local ∷ ReturnCallRef type ∷ []) (reverse vs ++ []) locals now ≡ call f vs now
  ref_call_run local type global t f g vs locals now hl hg hf ht len =
      let stack = reverse vs ++ [] in
      let rest = body store call frame (ReturnCallRef type ∷ []) in
      ap (λ o. with_item o (λ x. with_item (slice_get now.globals x) (λ cell. read_cell cell now (λ v after. rest (v ∷ stack) locals after)))) hl
      ∙ ap (λ o. with_item o (λ cell. read_cell cell now (λ v after. rest (v ∷ stack) locals after))) hg
      ∙ of_type_run store call frame f type g now _ hf ht
      ∙ call_top_run store call frame f g vs [] (λ results l n. Returned (reverse results) n) locals now hf len
      ∙ and_then_same (call f vs now) _ (λ rs after. ap (λ l. Returned l after) (ap reverse (append-nil (reverse rs)) ∙ reverse-reverse rs))

-- A filled shim does what the function does, whatever the function, the arguments and the results.
ref_filled : (n : ℕ) (store : Store) (frame : Frame) (shim f : ℕ) (g : Func) (s : FuncType) (global type : ℕ) (arguments : List Value) (now : Now) → HasBody store shim frame s (ref_shim (length s.params) global type) → slice_get frame.types type ≡ Some s → HoldsGlobal frame global now.globals f → slice_get store.functions f ≡ Some g → signature_of g ≡ s → fit s.params arguments ≡ true → exec (suc n) store shim arguments now ≡ exec n store f arguments now
ref_filled n store frame shim f g s global type arguments now code typed is there same fine =
    let call = exec n store in
    let len = fit-length s.params arguments fine in
    let typed' : slice_get frame.types type ≡ Some (signature_of g) = typed ∙ ap Some (sym same) in
    let len' : length (signature_of g).params ≡ length arguments = ap (λ (x : FuncType). length x.params) same ∙ len in
    let ran : body store call frame (ref_shim_code (length s.params) global type) [] (arguments ++ []) now ≡ exec n store f arguments now =
    ap (λ m. body store call frame (ref_shim_code m global type) [] (arguments ++ []) now) len
    ∙ gets_run store call frame arguments 0 (GlobalGet global ∷ ReturnCallRef type ∷ []) [] (arguments ++ []) now (has_locals arguments [])
    ∙ ref_call_run store call frame global type is.address is.held f g arguments (arguments ++ []) now is.names_global is.holds there typed' len' in
    exec_generated n store shim _ arguments now code
    ∙ ap (λ b. where_true b (and_then (body store call frame (ref_shim_code (length s.params) global type) [] (arguments ++ []) now) (checked s.results))) fine
    ∙ ap (λ o. and_then o (checked s.results)) ran
    ∙ subst (λ (x : FuncType). and_then (exec n store f arguments now) (checked x.results) ≡ exec n store f arguments now) same (exec_fits n store f g arguments now there)

pub ref_shim_forwards : (s : FuncType) (global type : ℕ) → ForwardsByGlobal s (ref_shim (length s.params) global type) type global
ref_shim_forwards s global type = record {
  filled = λ n store frame shim f g arguments now. ref_filled n store frame shim f g s global type arguments now;
}

pub is_ref_shim : (made : Body) (count global type : ℕ) → made ≡ ref_shim count global type → ShimByGlobal count made type global
is_ref_shim made count global type e =
    record { forwards = λ s n. subst (λ (b : Body). ForwardsByGlobal s b type global) (ap (λ m. ref_shim m global type) n ∙ sym e) (ref_shim_forwards s global type) }

-- A stub traps with no event.
pub stub_traps : (s : FuncType) → TrapsAtOnce s stub
stub_traps s = record {
  trap = λ n store frame f arguments now there fine. exec_generated n store f _ arguments now there ∙ ap (λ b. where_true b (Trapped ByCode now)) fine;
}

pub ref_shims_forward : RefShimsForward
ref_shims_forward type global type_index n store frame shim f g arguments now =
    (ref_shim_forwards type global type_index).filled n store frame shim f g arguments now

pub stubs_trap : StubsTrap
stubs_trap type n store frame f arguments now = (stub_traps type).trap n store frame f arguments now

pub empty_ref_shims_trap : EmptyRefShimsTrap
empty_ref_shims_trap type global type_index n store frame other shim f arguments now there typed holds empty fine =
    ref_shims_forward type global type_index (suc n) store frame shim f (Generated other type [] (Unreachable ∷ [])) arguments now there typed holds empty refl fine
    ∙ stubs_trap type n store other f arguments now empty fine
