-- A walk over lists, one after the other, and what it notes.
use Rattle.std.proofs.Common.{◌≡◌, ℕ, zero, suc, ◌+◌, ◌<◌, ◌≤◌, Bool, true, false, cond, List, [], ◌∷◌, ◌++◌, length, get_or, drop, refl, ap, ◌∙◌, sym, arith, Option, Some, None, is_some, not, true≢false}
use Rattle.std.specs.Prelude.{slice_get, nat_eq, nat_lt, if◌then◌else◌}
use Rattle.std.specs.List.{flat_map, AllByRecursion}
use Rattle.std.specs.Map.{lookup}
use Rattle.std.proofs.lemmas.Bool.{ne_eqb}
use Rattle.std.proofs.lemmas.Bool.Decides.{Decides-eqb, Decides-ltb}
use Rattle.comp_lists.specs.Tables.{with_first}
use Rattle.wit_data.specs.declared.functions.Function.{Function}
use Rattle.wit_data.specs.declared.functions.Param.{Param}
use Rattle.wit_data.specs.declared.ids.TypeId.{TypeId}
use Rattle.wit_data.specs.declared.types.Type.{«Type» as Ty}
use Rattle.wit_data.specs.declared.types.TypeDef.{TypeDef}
use Rattle.wit_data.specs.declared.types.TypeDefKind.{TypeDefKind}
use Rattle.wit_data.specs.Parts.{parts, RefersBack, IsBelow}
use Rattle.wit_data.specs.Values.{values, part_values, kind_at}
use Rattle.wit_data.proofs.Values.{made_whole, all_at}
use Rattle.wit_data.proofs.Meeting.{drop_next, drop_all, met_at, parts_long}
use Rattle.record_role_targets.specs.declared.walks.Walk.{Walk}
use Rattle.record_role_targets.specs.declared.wanted.Wanted.{Wanted}
use Rattle.record_role_targets.specs.Payloads.{itself, is_handle, meeting, met_in, met_in_function}
use Rattle.record_role_targets.specs.Walks.{next_after, noted, passed_at, passed, walked, FindsNumbers}
use Rattle.record_role_targets.specs.Wanted.{has_number, IsNumber}

-- ---- over lists

pub walked_both : (w : Wanted) (walk : Walk) (xs ys : List TypeId) → walked w walk (xs ++ ys) ≡ walked w (walked w walk xs) ys
walked_both w walk [] ys = refl
walked_both w walk (x ∷ xs) ys = walked_both w (passed w walk x) xs ys

-- A walk that is past all that is wanted is at its end.
pub walked_past : (w : Wanted) (walk : Walk) (ts : List TypeId) → walk.next ≡ None → walk ≡ walked w walk ts
walked_past w walk [] past = refl
walked_past w walk (t ∷ ts) past =
    let same : passed w walk t ≡ walk = ap (λ n. passed_at w walk n t) past in
    walked_past w walk ts past ∙ ap (λ x. walked w x ts) (sym same)

pub past_walked : (w : Wanted) (walk : Walk) (ts : List TypeId) (none : Bool) → is_some walk.next ≡ not none → none ≡ true → walk ≡ walked w walk ts
past_walked w walk ts none is past = walked_past w walk ts (by walk.next (is ∙ ap not past))
  where
    by : (o : Option ℕ) → is_some o ≡ false → o ≡ None
    by None h = refl
    by (Some n) h = absurd (true≢false h)

-- What was noted before, and in the first so many lists.
pub record WalkedSoFar (w : Wanted) (before walk : Walk) (n : ℕ) (lists : List (List TypeId)) : Type 0 where
  pub so_far : walked w walk (flat_map (λ l. l) (drop n lists)) ≡ walked w before (flat_map (λ l. l) lists)

pub walk_start : (w : Wanted) (before : Walk) (lists : List (List TypeId)) → WalkedSoFar w before before 0 lists
walk_start w before lists = record { so_far = refl }

pub walk_step : (w : Wanted) (before walk next : Walk) (n : ℕ) (lists : List (List TypeId)) → n < length lists → next ≡ walked w walk (get_or lists n []) → WalkedSoFar w before walk n lists → WalkedSoFar w before next (n + 1) lists
walk_step w before walk next n lists l e s =
    let rest = flat_map (λ l. l) (drop (n + 1) lists) in
    record { so_far = ap (λ x. walked w x rest) e ∙ (sym (walked_both w walk (get_or lists n []) rest) ∙ (sym (ap (λ ls. walked w walk (flat_map (λ l. l) ls)) (drop_next lists n [] l)) ∙ s.so_far)) }

pub walk_step_at : (types : List TypeDef) (id : ℕ) (w : Wanted) (before walk next : Walk) (n : ℕ) (p : Option Ty) → n < length (parts (kind_at types id)) → next ≡ walked w walk (met_in types p) → p ≡ get_or (parts (kind_at types id)) n None
    → WalkedSoFar w before walk n (part_values meeting types id) → WalkedSoFar w before next (n + 1) (part_values meeting types id)
walk_step_at types id w before walk next n p l e is_at s =
    let within : n < length (part_values meeting types id) = omega (arith, l, parts_long meeting types id) in
    let met : met_in types p ≡ get_or (part_values meeting types id) n [] = met_at meeting types id n (met_in types p) p l refl is_at in
    walk_step w before walk next n (part_values meeting types id) within (e ∙ ap (λ ts. walked w walk ts) met) s

pub walk_end : (w : Wanted) (before walk : Walk) (n : ℕ) (lists : List (List TypeId)) → n ≡ length lists → WalkedSoFar w before walk n lists → walk ≡ walked w before (flat_map (λ l. l) lists)
walk_end w before walk n lists e s = sym (ap (λ ls. walked w walk (flat_map (λ l. l) ls)) (drop_all lists n e)) ∙ s.so_far

-- A type: its parts and then itself, unless it is a handle.
pub type_walked : (types : List TypeDef) (id : ℕ) (w : Wanted) (before inside walk : Walk) (k : TypeDefKind) (handle : Bool) → RefersBack types → id < length types → k ≡ kind_at types id → handle ≡ is_handle k → handle ≡ false
    → inside ≡ walked w before (flat_map (λ l. l) (part_values meeting types id)) → walk ≡ walked w inside (itself id k) → walk ≡ walked w before (get_or (values meeting types) id [])
type_walked types id w before inside walk k handle b l e is entered came went =
    let lists = flat_map (λ l. l) (part_values meeting types id) in
    let test : is_handle (kind_at types id) ≡ false = ap is_handle (sym e) ∙ (sym is ∙ entered) in
    went ∙ (ap (λ x. walked w x (itself id k)) came ∙ (sym (walked_both w before lists (itself id k)) ∙ (ap (λ q. walked w before (lists ++ itself id q)) e
    ∙ (sym (ap (λ h. walked w before (cond h [] (lists ++ itself id (kind_at types id)))) test) ∙ sym (ap (λ ts. walked w before ts) (made_whole meeting types id b l))))))

pub handle_walked : (types : List TypeDef) (id : ℕ) (w : Wanted) (walk : Walk) (k : TypeDefKind) (handle : Bool) → RefersBack types → id < length types → k ≡ kind_at types id → handle ≡ is_handle k → handle ≡ true → walk ≡ walked w walk (get_or (values meeting types) id [])
handle_walked types id w walk k handle b l e is closed =
    let test : is_handle (kind_at types id) ≡ true = ap is_handle (sym e) ∙ (sym is ∙ closed) in
    sym (ap (λ ts. walked w walk ts) (made_whole meeting types id b l) ∙ ap (λ h. walked w walk (cond h [] (flat_map (λ l. l) (part_values meeting types id) ++ itself id (kind_at types id)))) test)

-- What was noted before, and in the first so many parameters.
pub record ParamsSoFar (types : List TypeDef) (w : Wanted) (before walk : Walk) (n : ℕ) (params : List Param) : Type 0 where
  pub so_far : walked w walk (flat_map (λ p. met_in types (Some p.ty)) (drop n params)) ≡ walked w before (flat_map (λ p. met_in types (Some p.ty)) params)

pub params_start : (types : List TypeDef) (w : Wanted) (before : Walk) (params : List Param) → ParamsSoFar types w before before 0 params
params_start types w before params = record { so_far = refl }

pub params_step : (types : List TypeDef) (w : Wanted) (before walk next : Walk) (n : ℕ) (params : List Param) (d p : Param) → n < length params → p ≡ get_or params n d → next ≡ walked w walk (met_in types (Some p.ty)) → ParamsSoFar types w before walk n params → ParamsSoFar types w before next (n + 1) params
params_step types w before walk next n params d p l is e s =
    let met = λ (q : Param). met_in types (Some q.ty) in
    let rest = flat_map met (drop (n + 1) params) in
    record { so_far = ap (λ x. walked w x rest) (e ∙ ap (λ q. walked w walk (met q)) is) ∙ (sym (walked_both w walk (met (get_or params n d)) rest) ∙ (sym (ap (λ ps. walked w walk (flat_map met ps)) (drop_next params n d l)) ∙ s.so_far)) }

pub params_end : (types : List TypeDef) (w : Wanted) (before walk : Walk) (n : ℕ) (params : List Param) → n ≡ length params → ParamsSoFar types w before walk n params → walk ≡ walked w before (flat_map (λ p. met_in types (Some p.ty)) params)
params_end types w before walk n params e s = sym (ap (λ ps. walked w walk (flat_map (λ p. met_in types (Some p.ty)) ps)) (drop_all params n e)) ∙ s.so_far

pub param_below : (types : List TypeDef) (n : ℕ) (params : List Param) (d : Param) → AllByRecursion (λ p. IsBelow (length types) (Some p.ty)) params → n < length params → IsBelow (length types) (Some (get_or params n d).ty)
param_below types n params d h l = all_at (λ p. IsBelow (length types) (Some p.ty)) params n d h l

-- ---- what is noted

abbrev look : List (ℕ × TypeId) → ℕ → Option TypeId
look found n = lookup (nat_eq n) found

other_last : (found : List (ℕ × TypeId)) (k n : ℕ) (t : TypeId) → nat_eq n k ≡ false → look (found ++ (k, t) ∷ []) n ≡ look found n
other_last [] k n t apart = ap (λ b. cond b (Some t) None) apart
other_last (e ∷ es) k n t apart = ap (λ o. cond (nat_eq n e.0) (Some e.1) o) (other_last es k n t apart)

new_last : (found : List (ℕ × TypeId)) (k : ℕ) (t : TypeId) → look found k ≡ None → look (found ++ (k, t) ∷ []) k ≡ Some t
new_last [] k t none = ap (λ b. cond b (Some t) None) ((Decides-eqb k k).1 refl)
new_last (e ∷ es) k t none = by (nat_eq k e.0) none (new_last es k t)
  where
    by : (b : Bool) → cond b (Some e.1) (look es k) ≡ None → (look es k ≡ None → look (es ++ (k, t) ∷ []) k ≡ Some t) → cond b (Some e.1) (look (es ++ (k, t) ∷ []) k) ≡ Some t
    by true p more = cc
    by false p more = more p

noted_other : (w : Wanted) (found : List (ℕ × TypeId)) (k n : ℕ) (t : TypeId) → nat_eq n k ≡ false → look (noted w found k t) n ≡ look found n
noted_other w found k n t apart = by (has_number w k) (is_some (look found k))
  where
    by : (b c : Bool) → look (if b then (if c then found else found ++ (k, t) ∷ []) else found) n ≡ look found n
    by false c = refl
    by true true = refl
    by true false = other_last found k n t apart

noted_here : (w : Wanted) (found : List (ℕ × TypeId)) (k : ℕ) (t : TypeId) → has_number w k ≡ true → look found k ≡ None → look (noted w found k t) k ≡ Some t
noted_here w found k t listed none =
    ap (λ b. look (if b then with_first nat_eq found k t else found) k) listed
    ∙ (ap (λ o. look (if is_some o then found else found ++ (k, t) ∷ []) k) none ∙ new_last found k t none)

-- A number is before the one at which a walk is.
abbrev IsBefore : ℕ → Option ℕ → Type 0
IsBefore n None = Unit {0}
IsBefore n (Some k) = n < k

still_before : (w : Wanted) (n k : ℕ) → n ≤ k → IsBefore n (next_after w k)
still_before w n k l = by (nat_lt k w.last)
  where
    by : (b : Bool) → IsBefore n (if b then Some (k + 1) else None)
    by true = omega (arith, l)
    by false = tt

apart : (n k : ℕ) → n < k → nat_eq n k ≡ false
apart n k l = ne_eqb n k (λ e. omega (arith, l, e))

kept : (w : Wanted) (ts : List TypeId) (next : Option ℕ) (found : List (ℕ × TypeId)) (n : ℕ) → IsBefore n next → look (walked w (record { next = next; found = found }) ts).found n ≡ look found n
kept w [] next found n h = refl
kept w (t ∷ ts) None found n h = kept w ts None found n tt
kept w (t ∷ ts) (Some k) found n h = kept w ts (next_after w k) (noted w found k t) n (still_before w n k (omega (arith, h))) ∙ noted_other w found k n t (apart n k h)

abbrev IsFresh : ℕ → List (ℕ × TypeId) → Type 0
IsFresh k found = (m : ℕ) → k ≤ m → look found m ≡ None

found_from : (w : Wanted) (ts : List TypeId) (k d n : ℕ) (found : List (ℕ × TypeId)) → IsFresh k found → k + d ≡ n → IsNumber w n → look (walked w (record { next = Some k; found = found }) ts).found n ≡ slice_get ts d
found_from w [] k d n found fresh e is = fresh n (omega (arith, e))
found_from w (t ∷ ts) k zero n found fresh e is =
    let here : k ≡ n = omega (arith, e) in
    kept w ts (next_after w k) (noted w found k t) n (still_before w n k (omega (arith, here)))
    ∙ (ap (λ m. look (noted w found m t) n) here ∙ noted_here w found n t is.listed (fresh n (omega (arith, here))))
found_from w (t ∷ ts) k (suc d) n found fresh e is =
    let more : nat_lt k w.last ≡ true = (Decides-ltb k w.last).1 (omega (arith, e, is.below)) in
    let next : next_after w k ≡ Some (k + 1) = ap (λ b. if b then Some (k + 1) else None) more in
    let after : IsFresh (k + 1) (noted w found k t) = λ m l. noted_other w found k m t (ne_eqb m k (λ q. omega (arith, l, q))) ∙ fresh m (omega (arith, l)) in
    ap (λ (o : Option ℕ). look (walked w (record { next = o; found = noted w found k t }) ts).found n) next
    ∙ found_from w ts (k + 1) d n (noted w found k t) after (omega (arith, e)) is

pub all_found : (types given : List TypeDef) (f : Function) (params : List Param) (w : Wanted) (fresh : List (ℕ × TypeId)) (middle end : Walk) → fresh ≡ [] → given ≡ types → params ≡ f.params
    → middle ≡ walked w (record { next = Some 0; found = fresh }) (flat_map (λ p. met_in given (Some p.ty)) params) → end ≡ walked w middle (met_in given f.result) → FindsNumbers (met_in_function types f) w end.found
all_found types given f params w fresh middle end begins same these came went =
    let start : Walk = record { next = Some 0; found = fresh } in
    let of_params = flat_map (λ p. met_in types (Some p.ty)) f.params in
    let first : middle ≡ walked w start of_params =
    came ∙ (ap (λ ts. walked w start (flat_map (λ p. met_in ts (Some p.ty)) params)) same ∙ ap (λ ps. walked w start (flat_map (λ p. met_in types (Some p.ty)) ps)) these) in
    let whole : end ≡ walked w (record { next = Some 0; found = [] }) (met_in_function types f) =
    went ∙ (ap (λ ts. walked w middle (met_in ts f.result)) same ∙ (ap (λ x. walked w x (met_in types f.result)) first
    ∙ (sym (walked_both w start of_params (met_in types f.result)) ∙ ap (λ (fs : List (ℕ × TypeId)). walked w (record { next = Some 0; found = fs }) (met_in_function types f)) begins))) in
    record { found = λ n is. ap (λ x. look x.found n) whole ∙ found_from w (met_in_function types f) 0 n n [] (λ m l. refl) (omega arith) is }
