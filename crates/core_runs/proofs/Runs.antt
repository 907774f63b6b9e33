-- What the parts of generated code do.
use Rattle.std.proofs.Common.{◌≡◌, ℕ, zero, suc, ◌+◌, ◌<◌, List, [], ◌∷◌, ◌++◌, length, map, reverse, Bool, true, false, Option, Some, None, refl, sym, ap, ◌∙◌, subst, arith, append_assoc, length-append}
use Rattle.std.specs.Prelude.{slice_get, if◌then◌else◌}
use Rattle.std.specs.List.{range_with_len}
use Rattle.std.proofs.Math.Seq.{get_or-append_seam}
use Rattle.std.proofs.lemmas.Option.{slice_get-get_or}
use Rattle.std.proofs.lemmas.Grind.{reverse_onto}
use Rattle.core_bytes.specs.declared.code.Instruction.{Instruction}
use Rattle.core_bytes.specs.declared.code.Instruction.TheVariants.{LocalGet}
use Rattle.core_types.specs.declared.types.ValType.{ValType}
use Rattle.core_types.specs.declared.types.FuncType.{FuncType}
use Rattle.core_runs.specs.Values.{Value, fit, zeros}
use Rattle.core_runs.specs.Store.{Frame, Func, Generated, Opaque, signature_of, Store, Answer, Gives, Traps, Now, Outcome, Returned, Trapped, Open, Stuck}
use Rattle.core_runs.specs.Execution.{with_item, where_true, and_then, answered, asked, Calling, body, exec, performed}
use Rattle.core_runs.specs.Starts.{HasAt}

pub has_front : {X : Type 0} (xs : List X) (i : ℕ) (a b : List X) → HasAt xs i (a ++ b) → HasAt xs i a
has_front xs i [] b h = tt
has_front xs i (v ∷ a) b h = (h.0, has_front xs (i + 1) a b h.1)

pub has_all : {X : Type 0} (vs pre : List X) → HasAt (pre ++ vs) (length pre) vs
has_all [] pre = tt
has_all (v ∷ vs) pre =
    let within : length pre < length (pre ++ v ∷ vs) = omega (arith, length-append pre (v ∷ vs)) in
    let here = slice_get-get_or (pre ++ v ∷ vs) (length pre) v within ∙ ap Some (get_or-append_seam pre v vs v) in
    let n : length (pre ++ v ∷ []) ≡ length pre + 1 = omega (arith, length-append pre (v ∷ [])) in
    let rest = has_all vs (pre ++ v ∷ []) in
    let rest' = subst (λ l. HasAt l (length (pre ++ v ∷ [])) vs) (append_assoc pre (v ∷ []) vs) rest in
    (here, subst (λ m. HasAt (pre ++ v ∷ vs) m vs) n rest')

-- a list's own front is in it from index 0 on
pub has_locals : (arguments more : List Value) → HasAt (arguments ++ more) 0 arguments
has_locals arguments more = has_front (arguments ++ more) 0 arguments more (has_all (arguments ++ more) [])

module _ (store : Store) (call : Calling) (frame : Frame) where
  -- the parameters are pushed in order
  pub gets_run : (vs : List Value) (i : ℕ) (rest : List Instruction) (stack locals : List Value) (now : Now) → HasAt locals i vs → body store call frame (map LocalGet (range_with_len i (length vs)) ++ rest) stack locals now ≡ body store call frame rest (reverse vs ++ stack) locals now
  gets_run [] i rest stack locals now h = refl
  gets_run (v ∷ vs) i rest stack locals now h =
      ap (λ o. with_item o (λ x. body store call frame (map LocalGet (range_with_len (i + 1) (length vs)) ++ rest) (x ∷ stack) locals now)) h.0
      ∙ gets_run vs (i + 1) rest (v ∷ stack) locals now h.1
      ∙ ap (λ s. body store call frame rest s locals now) (sym (append_assoc (reverse vs) (v ∷ []) stack) ∙ ap (λ s. s ++ stack) (sym (reverse_onto vs v [])))

-- the same outcome, where results are passed on unchanged
pub and_then_same : (o : Outcome) (k : List Value → Now → Outcome) → ((rs : List Value) (now : Now) → k rs now ≡ Returned rs now) → and_then o k ≡ o
and_then_same (Returned rs now) k h = h rs now
and_then_same (Trapped cause now) k h = refl
and_then_same (Open now) k h = refl
and_then_same Stuck k h = refl

-- results are of their types, or the run is stuck
abbrev pub checked : List ValType → List Value → Now → Outcome
checked ts rs now = where_true (fit ts rs) (Returned rs now)

checked_twice : (ts : List ValType) (rs : List Value) (now : Now) (b : Bool) → fit ts rs ≡ b → and_then (where_true b (Returned rs now)) (checked ts) ≡ where_true b (Returned rs now)
checked_twice ts rs now true e = ap (λ b. where_true b (Returned rs now)) e
checked_twice ts rs now false e = refl

checked_again : (ts : List ValType) (o : Outcome) → and_then (and_then o (checked ts)) (checked ts) ≡ and_then o (checked ts)
checked_again ts (Returned rs now) = checked_twice ts rs now (fit ts rs) refl
checked_again ts (Trapped cause now) = refl
checked_again ts (Open now) = refl
checked_again ts Stuck = refl

given_fits : (ts : List ValType) (rs : List Value) (now stop : Now) (b : Bool) → fit ts rs ≡ b → and_then (if b then Returned rs now else Open stop) (checked ts) ≡ (if b then Returned rs now else Open stop)
given_fits ts rs now stop true e = ap (λ b. where_true b (Returned rs now)) e
given_fits ts rs now stop false e = refl

answered_fits : (ts : List ValType) (answers : List Answer) (now : Now) → and_then (answered ts answers now) (checked ts) ≡ answered ts answers now
answered_fits ts [] now = refl
answered_fits ts (Traps ∷ answers) now = refl
answered_fits ts (Gives rs number ∷ answers) now = given_fits ts rs _ _ (fit ts rs) refl

where_and_then : (b : Bool) (o : Outcome) (k : List Value → Now → Outcome) → and_then o k ≡ o → and_then (where_true b o) k ≡ where_true b o
where_and_then true o k h = h
where_and_then false o k h = refl

pub asked_fits : (f : ℕ) (s : FuncType) (arguments : List Value) (now : Now) → and_then (asked f s arguments now) (checked s.results) ≡ asked f s arguments now
asked_fits f s arguments now = where_and_then (fit s.params arguments) _ _ (answered_fits s.results now.answers _)

performed_fits : (store : Store) (call : Option Calling) (f : ℕ) (g : Func) (arguments : List Value) (now : Now) → and_then (performed store call f g arguments now) (checked (signature_of g).results) ≡ performed store call f g arguments now
performed_fits store call f (Opaque what s) arguments now = where_and_then (fit s.params arguments) _ _ (answered_fits s.results now.answers _)
performed_fits store None f (Generated frame s locals code) arguments now = refl
performed_fits store (Some call) f (Generated frame s locals code) arguments now =
    where_and_then (fit s.params arguments) _ _ (checked_again s.results (body store call frame code [] (arguments ++ zeros locals) now))

-- a call of a function that exists
pub exec_is : (n : ℕ) (store : Store) (f : ℕ) (g : Func) (arguments : List Value) (now : Now) → slice_get store.functions f ≡ Some g → (inner : Option Calling) × (exec n store f arguments now ≡ performed store inner f g arguments now)
unfolding exec
exec_is zero store f g arguments now h = (None, ap (λ o. with_item o (λ x. performed store None f x arguments now)) h)
exec_is (suc n) store f g arguments now h = (Some (exec n store), ap (λ o. with_item o (λ x. performed store (Some (exec n store)) f x arguments now)) h)

pub exec_generated : (n : ℕ) (store : Store) (f : ℕ) (g : Func) (arguments : List Value) (now : Now) → slice_get store.functions f ≡ Some g → exec (suc n) store f arguments now ≡ performed store (Some (exec n store)) f g arguments now
unfolding exec
exec_generated n store f g arguments now h = ap (λ o. with_item o (λ x. performed store (Some (exec n store)) f x arguments now)) h

pub exec_opaque : (n : ℕ) (store : Store) (f what : ℕ) (s : FuncType) (arguments : List Value) (now : Now) → slice_get store.functions f ≡ Some (Opaque what s) → exec n store f arguments now ≡ asked f s arguments now
exec_opaque n store f what s arguments now h = (exec_is n store f (Opaque what s) arguments now h).1

-- the results of a call have the types of the function's results
pub exec_fits : (n : ℕ) (store : Store) (f : ℕ) (g : Func) (arguments : List Value) (now : Now) → slice_get store.functions f ≡ Some g → and_then (exec n store f arguments now) (checked (signature_of g).results) ≡ exec n store f arguments now
exec_fits n store f g arguments now h =
    let e = exec_is n store f g arguments now h in
    subst (λ o. and_then o (checked (signature_of g).results) ≡ o) (sym e.1) (performed_fits store e.0 f g arguments now)
