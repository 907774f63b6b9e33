-- What each step of a pass over waiting interfaces preserves.
use Rattle.std.proofs.Common.{◌≡◌, ℕ, zero, suc, ◌+◌, ◌<◌, ◌≤◌, ◌⊎◌, inl, inr, Bool, true, false, not, ◌&&◌, ◌||◌, cond, if◌then◌else◌, List, [], ◌∷◌, ◌++◌, length, get_or, set, take, drop, add-one, Option, Some, None, is_some, refl, sym, ap, ◌∙◌, subst, arith, true≢false}
use Rattle.std.specs.Prelude.{nat_eq, nat_lt, replicate}
use Rattle.std.specs.Ordering.{nat_cmp, is_gt}
use Rattle.std.proofs.Math.Bool.{or-true}
use Rattle.std.specs.List.{list_any, slice_get}
use Rattle.std.specs.Map.{lookup}
use Rattle.std.specs.Str.{bytes_eq}
use Rattle.std.proofs.lemmas.Slice.Eq.{bytes_eq-Decides}
use Rattle.std.proofs.lemmas.Bool.Decides.{Decides-eqb}
use Rattle.std.proofs.lemmas.List.{take_more, get_or-set_same, get_or-set_other, length-set, length-replicate, get_or-replicate}
use Rattle.std.proofs.lemmas.Option.{same_Some, none-some, get_or_from_slice_get, slice_get_read}
use Rattle.std.proofs.lemmas.Bool.{cases_eq}
use Rattle.std.proofs.Math.Logic.{⊎_elim}
use Rattle.std.proofs.Math.Seq.{drop-cons}
use Rattle.record_values.specs.declared.names.InterfaceName.{InterfaceName}
use Rattle.record_values.specs.declared.names.InterfaceName.TheVariants as names
use Rattle.record_values.specs.declared.world.ItemKey.{ItemKey}
use Rattle.record_values.specs.Names.{name_kind, name_text, is_same_interface}
use Rattle.record_versions.specs.declared.order.Waiting.{Waiting}
use Rattle.record_versions.specs.Order.{Taken, is_taken, all_taken, is_ready, first_ready, with_taken, taken_anew}
use Rattle.record_versions.specs.Taking.{is_listed, Lacks, IsAway, IsKept}

-- ---- truths

both : (a b : Bool) → (a && b) ≡ true → (a ≡ true) × (b ≡ true)
both true b e = (refl, e)
both false b e = absurd (true≢false (sym e))

either : (a b : Bool) → (a || b) ≡ true → (a ≡ true) ⊎ (b ≡ true)
either true b e = inl refl
either false b e = inr e

neither : (a b : Bool) → a ≡ false → b ≡ false → (a || b) ≡ false
neither a b e f = rw (e, f) refl

and_false : (a b : Bool) → b ≡ false → (a && b) ≡ false
and_false true b e = e
and_false false b e = refl

or_true : (a b : Bool) → a ≡ true → (a || b) ≡ true
or_true a b e = rw e refl

decide : (a : Bool) → (a ≡ true) ⊎ (a ≡ false)
decide true = inl refl
decide false = inr refl

-- ---- names

name_by : (x y : InterfaceName) → name_kind x ≡ name_kind y → name_text x ≡ name_text y → x ≡ y
name_by (names.Id a) (names.Id b) k t = ap names.Id t
name_by (names.Imported a) (names.Imported b) k t = ap names.Imported t
name_by (names.Exported a) (names.Exported b) k t = ap names.Exported t
name_by (names.Unused a) (names.Unused b) k t = ap names.Unused (omega (arith, k))
name_by x y k t = absurd (omega (arith, k))

one_name : (x y : InterfaceName) → is_same_interface x y ≡ true → x ≡ y
one_name x y e =
    let b = both (nat_eq (name_kind x) (name_kind y)) (bytes_eq (name_text x) (name_text y)) e in
    name_by x y ((Decides-eqb (name_kind x) (name_kind y)).0 b.0) ((bytes_eq-Decides (name_text x) (name_text y)).0 b.1)

same_name : (x : InterfaceName) → is_same_interface x x ≡ true
same_name x =
    rw ((Decides-eqb (name_kind x) (name_kind x)).1 refl, (bytes_eq-Decides (name_text x) (name_text x)).1 refl) refl

-- ---- what is taken

one_more : (taken : Taken) (k : InterfaceName) (v : ItemKey) (n : InterfaceName) → is_taken (taken ++ (k, v) ∷ []) n ≡ (is_taken taken n || is_same_interface n k)
one_more [] k v n = by (is_same_interface n k)
  where
    by : (b : Bool) → is_some (cond b (Some v) None) ≡ b
    by true = refl
    by false = refl
one_more (t ∷ ts) k v n = by (is_same_interface n t.0) (one_more ts k v n)
  where
    by : (b : Bool) → is_taken (ts ++ (k, v) ∷ []) n ≡ (is_taken ts n || is_same_interface n k) →
        is_some (cond b (Some t.1) (lookup (is_same_interface n) (ts ++ (k, v) ∷ []))) ≡ (is_some (cond b (Some t.1) (lookup (is_same_interface n) ts)) || is_same_interface n k)
    by true h = refl
    by false h = h

remains_taken : (taken : Taken) (w : Waiting) (n : InterfaceName) → is_taken taken n ≡ true → is_taken (with_taken taken w) n ≡ true
remains_taken taken w n h = by (is_taken taken w.name)
  where
    by : (b : Bool) → is_taken (if b then taken else taken ++ (w.name, w.key) ∷ []) n ≡ true
    by true = h
    by false = one_more taken w.name w.key n ∙ or_true (is_taken taken n) (is_same_interface n w.name) h

remains_untaken : (taken : Taken) (w : Waiting) (n : InterfaceName) → is_taken taken n ≡ false → is_same_interface n w.name ≡ false → is_taken (with_taken taken w) n ≡ false
remains_untaken taken w n h apart = by (is_taken taken w.name)
  where
    by : (b : Bool) → is_taken (if b then taken else taken ++ (w.name, w.key) ∷ []) n ≡ false
    by true = h
    by false = one_more taken w.name w.key n ∙ neither (is_taken taken n) (is_same_interface n w.name) h apart

remain_taken : (taken : Taken) (w : Waiting) (own : InterfaceName) (ns : List InterfaceName) → all_taken taken own ns ≡ true → all_taken (with_taken taken w) own ns ≡ true
remain_taken taken w own [] h = refl
remain_taken taken w own (n ∷ ns) h =
    let b = both (is_same_interface n own || is_taken taken n) (all_taken taken own ns) h in
    rw (head (is_same_interface n own) b.0, remain_taken taken w own ns b.1) refl
  where
    head : (s : Bool) → (s || is_taken taken n) ≡ true → (s || is_taken (with_taken taken w) n) ≡ true
    head true e = refl
    head false e = remains_taken taken w n e

-- one more use that is the interface itself or taken
pub more_taken : (taken : Taken) (own : InterfaceName) (ns : List InterfaceName) (i : ℕ) (n : InterfaceName) → i < length ns → n ≡ get_or ns i n →
    (is_same_interface n own || is_taken taken n) ≡ true → all_taken taken own (take i ns) ≡ true → all_taken taken own (take (i + 1) ns) ≡ true
more_taken taken own ns i n l is here h = rw (take_more ns i n l, ← is) (at_end (take i ns) h)
  where
    at_end : (xs : List InterfaceName) → all_taken taken own xs ≡ true → all_taken taken own (xs ++ n ∷ []) ≡ true
    at_end [] e = rw here refl
    at_end (x ∷ xs) e = let b = both (is_same_interface x own || is_taken taken x) (all_taken taken own xs) e in rw (b.0, at_end xs b.1) refl

lacks_at : (own : InterfaceName) (ns : List InterfaceName) (i : ℕ) (n : InterfaceName) → slice_get ns i ≡ Some n → is_same_interface n own ≡ false →
    (taken : Taken) → is_taken taken n ≡ false → all_taken taken own ns ≡ false
lacks_at own [] i n at apart taken h = absurd (none-some n at)
lacks_at own (x ∷ xs) zero n at apart taken h =
    let e = same_Some x n at in
    rw (e, apart, h) refl
lacks_at own (x ∷ xs) (suc i) n at apart taken h = and_false (is_same_interface x own || is_taken taken x) (all_taken taken own xs) (lacks_at own xs i n at apart taken h)

pub lacks : (w : Waiting) (i : ℕ) (n : InterfaceName) → slice_get w.uses i ≡ Some n → is_same_interface n w.name ≡ false → Lacks n w
unfolding Lacks
lacks w i n at apart = lacks_at w.name w.uses i n at apart

-- ---- which is the first

not_ready : (taken : Taken) (wait : InterfaceName → ℕ → Bool) (position : ℕ) (w : Waiting) → IsAway taken wait position w → is_ready taken w ≡ false
unfolding IsAway Lacks
not_ready taken wait position w (inl h) = rw h refl
not_ready taken wait position w (inr a) = and_false (not (is_taken taken w.name)) (all_taken taken w.name w.uses) (a.3 taken a.2)

first_is : (all : List Waiting) (taken : Taken) (i : ℕ) (w : Waiting) → ((j : ℕ) (v : Waiting) → j < i → slice_get all j ≡ Some v → is_ready taken v ≡ false) →
    slice_get all i ≡ Some w → is_ready taken w ≡ true → first_ready taken all ≡ Some w
first_is [] taken i w before at ready = absurd (none-some w at)
first_is (v ∷ vs) taken zero w before at ready = let e = same_Some v w at in rw (e, ready) refl
first_is (v ∷ vs) taken (suc i) w before at ready =
    rw (before zero v (omega arith) refl) (first_is vs taken i w (λ j u l h. before (suc j) u (omega arith) h) at ready)

none_is : (all : List Waiting) (taken : Taken) → ((j : ℕ) (v : Waiting) → slice_get all j ≡ Some v → is_ready taken v ≡ false) → first_ready taken all ≡ None
none_is [] taken none = refl
none_is (v ∷ vs) taken none = rw (none zero v refl) (none_is vs taken (λ j u h. none (suc j) u h))

pub lacks_if : (taken : Taken) (w : Waiting) (i : ℕ) (n : InterfaceName) → slice_get w.uses i ≡ Some n → (is_same_interface n w.name || is_taken taken n) ≡ false →
    (m : InterfaceName) → slice_get w.uses i ≡ Some m → (is_taken taken m ≡ false) × Lacks m w
lacks_if taken w i n at not_here m same =
    let e : n ≡ m = same_Some n m (sym at ∙ same) in
    subst (λ (x : InterfaceName). (is_taken taken x ≡ false) × Lacks x w) e
    ((parts (is_same_interface n w.name) not_here).1, lacks w i n at (parts (is_same_interface n w.name) not_here).0)
  where
    parts : (s : Bool) → (s || is_taken taken n) ≡ false → (s ≡ false) × (is_taken taken n ≡ false)
    parts true e = absurd (true≢false e)
    parts false e = (refl, e)

pub past_end : {X : Type 0} (xs : List X) (i : ℕ) (x : X) → length xs ≤ i → slice_get xs i ≡ Some x → ⊥
past_end [] i x l h = none-some x h
past_end (y ∷ ys) zero x l h = omega (arith, l)
past_end (y ∷ ys) (suc i) x l h = past_end ys i x (omega arith) h

-- ---- those that wait

listed_more : (q position : ℕ) (ps : List ℕ) → list_any (nat_eq q) (ps ++ position ∷ []) ≡ (nat_eq q position || list_any (nat_eq q) ps)
listed_more q position [] = refl
listed_more q position (p ∷ ps) = rw (listed_more q position ps) (swap (nat_eq q p) (nat_eq q position) (list_any (nat_eq q) ps))
  where
    swap : (a b c : Bool) → (a || (b || c)) ≡ (b || (a || c))
    swap true true c = refl
    swap true false c = refl
    swap false b c = refl

pub parks : (wait : InterfaceName → ℕ → Bool) (mid new : Option (List ℕ)) (name key m : InterfaceName) (q position : ℕ) (ps positions : List ℕ) →
    is_listed mid q ≡ (if is_same_interface name m then false else wait m q) → new ≡ cond (is_same_interface key m) (Some positions) mid → key ≡ name →
    positions ≡ ps ++ position ∷ [] → list_any (nat_eq q) ps ≡ wait name q → is_listed new q ≡ ((is_same_interface name m && nat_eq q position) || wait m q)
parks wait mid new name key m q position ps positions before after copied pushed listed =
    rw (after, copied, pushed) (by (is_same_interface name m) refl before)
  where
    by : (b : Bool) → is_same_interface name m ≡ b → is_listed mid q ≡ (if b then false else wait m q) →
        is_listed (cond b (Some (ps ++ position ∷ [])) mid) q ≡ ((b && nat_eq q position) || wait m q)
    by true e h = listed_more q position ps ∙ ap (λ x. nat_eq q position || x) (listed ∙ ap (λ x. wait x q) (one_name name m e))
    by false e h = h

-- ---- what each step preserves

le_of : (x y : ℕ) → is_gt (nat_cmp x y) ≡ false → x ≤ y
le_of x y h = grind arith

same_number : (x y : ℕ) → nat_eq x y ≡ true → x ≡ y
same_number x y e = (Decides-eqb x y).0 e

position_below : (all : List Waiting) (position : ℕ) (w : Waiting) → slice_get all position ≡ Some w → position < length all
position_below [] position w at = absurd (none-some w at)
position_below (v ∷ vs) zero w at = omega arith
position_below (v ∷ vs) (suc position) w at = let l = position_below vs position w at in omega (arith, l)

-- a property of the interface at a position holds of every interface that is found there
pub at_one : (P : Waiting → Type 0) (all : List Waiting) (position : ℕ) (w : Waiting) → slice_get all position ≡ Some w → P w → (v : Waiting) → slice_get all position ≡ Some v → P v
at_one P all position w at here v is = subst P (same_Some w v (sym at ∙ is)) here

still_away : (taken : Taken) (wait more : InterfaceName → ℕ → Bool) (position : ℕ) (w : Waiting) → ((m : InterfaceName) (q : ℕ) → wait m q ≡ true → more m q ≡ true) →
    IsAway taken wait position w → IsAway taken more position w
unfolding IsAway
still_away taken wait more position w up (inl h) = inl h
still_away taken wait more position w up (inr a) = inr (a.0, up a.0 position a.1, a.2, a.3)

pub away_taken : (taken : Taken) (wait : InterfaceName → ℕ → Bool) (position : ℕ) (w : Waiting) → is_taken taken w.name ≡ true → IsAway taken wait position w
unfolding IsAway
away_taken taken wait position w h = inl h

pub away_parked : (taken : Taken) (wait : InterfaceName → ℕ → Bool) (position : ℕ) (w : Waiting) (name : InterfaceName) → wait name position ≡ true → is_taken taken name ≡ false → Lacks name w →
    IsAway taken wait position w
unfolding IsAway
away_parked taken wait position w name h un l = inr (name, h, un, l)

module _ (all : List Waiting) (taken : Taken) where
  pub kept_from_start : (to_try : ℕ → Bool) (wait : InterfaceName → ℕ → Bool) (checked : List ℕ) → checked ≡ replicate (length all) 0 → ((q : ℕ) → to_try q ≡ nat_lt q (length all)) →
      ((m : InterfaceName) (q : ℕ) → wait m q ≡ false) → IsKept all taken to_try wait checked
  kept_from_start to_try wait checked zeros each none = record {
    counted = rw zeros (length-replicate (length all) 0);
    to_try_below = λ q h. below q (sym (each q) ∙ h);
    waiting_below = λ m q h. absurd (true≢false (sym h ∙ none m q));
    known = λ position w at. rw (zeros, get_or-replicate {A = ℕ} (length all) position 0 0 (position_below all position w at)) refl;
    accounted = λ position w at. inl (each position ∙ is_below position (position_below all position w at));
  }
    where
      below : (q : ℕ) → nat_lt q (length all) ≡ true → q < length all
      below q h = grind arith

      is_below : (q : ℕ) → q < length all → nat_lt q (length all) ≡ true
      is_below q h = grind arith

  module _ (to_try : ℕ → Bool) (wait : InterfaceName → ℕ → Bool) (checked : List ℕ) (kept : IsKept all taken to_try wait checked) where
    pub kept_checked : (position k : ℕ) (w : Waiting) → slice_get all position ≡ Some w → all_taken taken w.name (take k w.uses) ≡ true → IsKept all taken to_try wait (set checked position k)
    kept_checked position k w at here = record {
      counted = length-set checked position k ∙ kept.counted;
      to_try_below = kept.to_try_below;
      waiting_below = kept.waiting_below;
      known = λ q v is. ⊎_elim (λ e. same q v is e) (λ ne. rw (get_or-set_other checked position q k 0 ne) (kept.known q v is)) (cases_eq q position);
      accounted = kept.accounted;
    }
      where
        same : (q : ℕ) (v : Waiting) → slice_get all q ≡ Some v → q ≡ position → all_taken taken v.name (take (get_or (set checked position k) q 0) v.uses) ≡ true
        same q v is e =
            let l : position < length checked = (let p = position_below all position w at in let c = kept.counted in omega (arith, p, c)) in
            rw (e, get_or-set_same checked position k 0 l) (at_one (λ u. all_taken taken u.name (take k u.uses) ≡ true) all position w at here v (rw (← e) is))

    pub kept_parked : (more : InterfaceName → ℕ → Bool) (name : InterfaceName) (position : ℕ) → position < length all →
        ((m : InterfaceName) (q : ℕ) → more m q ≡ ((is_same_interface name m && nat_eq q position) || wait m q)) → IsKept all taken to_try more checked
    kept_parked more name position l each = record {
      counted = kept.counted;
      to_try_below = kept.to_try_below;
      waiting_below = λ m q h. ⊎_elim (λ e. rw (same_number q position (both (is_same_interface name m) (nat_eq q position) e).1) l) (λ e. kept.waiting_below m q e)
          (either (is_same_interface name m && nat_eq q position) (wait m q) (sym (each m q) ∙ h));
      known = kept.known;
      accounted = λ q w at. ⊎_elim (λ t. inl t) (λ a. inr (still_away taken wait more q w (λ m p h. each m p ∙ rw h (or-true (is_same_interface name m && nat_eq p position))) a)) (kept.accounted q w at);
    }

    pub kept_taken : (more : ℕ → Bool) (less : InterfaceName → ℕ → Bool) (w : Waiting) → ((q : ℕ) → more q ≡ (to_try q || wait w.name q)) →
        ((m : InterfaceName) (q : ℕ) → less m q ≡ (if is_same_interface w.name m then false else wait m q)) → IsKept all (with_taken taken w) more less checked
    unfolding IsAway
    kept_taken more less w woken left = record {
      counted = kept.counted;
      to_try_below = λ q h. ⊎_elim (λ e. kept.to_try_below q e) (λ e. kept.waiting_below w.name q e) (either (to_try q) (wait w.name q) (sym (woken q) ∙ h));
      waiting_below = λ m q h. kept.waiting_below m q (remains m q (is_same_interface w.name m) (sym (left m q) ∙ h));
      known = λ q v at. remain_taken taken w v.name (take (get_or checked q 0) v.uses) (kept.known q v at);
      accounted = λ q v at. ⊎_elim (λ t. inl (woken q ∙ or_true (to_try q) (wait w.name q) t)) (λ a. away q v a) (kept.accounted q v at);
    }
      where
        remains : (m : InterfaceName) (q : ℕ) (b : Bool) → (if b then false else wait m q) ≡ true → wait m q ≡ true
        remains m q true h = absurd (true≢false (sym h))
        remains m q false h = h

        apart : (m : InterfaceName) → is_same_interface w.name m ≡ false → (b : Bool) → is_same_interface m w.name ≡ b → is_same_interface m w.name ≡ false
        apart m no_same false e = e
        apart m no_same true e = absurd (true≢false (sym (same_name w.name) ∙ ap (is_same_interface w.name) (sym (one_name m w.name e)) ∙ no_same))

        by : (q : ℕ) (v : Waiting) (m : InterfaceName) → wait m q ≡ true → is_taken taken m ≡ false → Lacks m v → (b : Bool) → is_same_interface w.name m ≡ b →
            (more q ≡ true) ⊎ IsAway (with_taken taken w) less q v
        by q v m h un l true e = inl (woken q ∙ rw (one_name w.name m e, h) (or-true (to_try q)))
        by q v m h un l false e =
            inr (away_parked (with_taken taken w) less q v m (left m q ∙ rw e h) (remains_untaken taken w m un (apart m e (is_same_interface m w.name) refl)) l)

        away : (q : ℕ) (v : Waiting) → IsAway taken wait q v → (more q ≡ true) ⊎ IsAway (with_taken taken w) less q v
        away q v (inl h) = inr (inl (remains_taken taken w v.name h))
        away q v (inr a) = by q v a.0 a.1 a.2 a.3 (is_same_interface w.name a.0) refl

    pub first_kept : (position : ℕ) (w : Waiting) → ((q : ℕ) → to_try q ≡ true → is_gt (nat_cmp position q) ≡ false) → slice_get all position ≡ Some w → is_ready taken w ≡ true →
        first_ready taken all ≡ Some w
    first_kept position w least at ready =
        first_is all taken position w (λ j v l h. ⊎_elim (λ t. absurd (let k = le_of position j (least j t) in omega (arith, l, k))) (λ a. not_ready taken wait j v a) (kept.accounted j v h)) at ready

    pub none_kept : ((q : ℕ) → to_try q ≡ false) → first_ready taken all ≡ None
    none_kept none = none_is all taken (λ j v h. ⊎_elim (λ t. absurd (true≢false (sym t ∙ none j))) (λ a. not_ready taken wait j v a) (kept.accounted j v h))

pub away_by : (taken : Taken) (wait more : InterfaceName → ℕ → Bool) (position : ℕ) (w : Waiting) (name : InterfaceName) →
    ((m : InterfaceName) (q : ℕ) → more m q ≡ ((is_same_interface name m && nat_eq q position) || wait m q)) → (is_taken taken name ≡ false) × Lacks name w → IsAway taken more position w
away_by taken wait more position w name each h =
    away_parked taken more position w name (each name position ∙ rw (same_name name, (Decides-eqb position position).1 refl) refl) h.0 h.1

whole : {X : Type 0} (xs : List X) (k : ℕ) → length xs ≤ k → take k xs ≡ xs
whole [] zero h = refl
whole [] (suc k) h = refl
whole (x ∷ xs) zero h = absurd (omega (arith, h))
whole (x ∷ xs) (suc k) h = ap (λ ys. x ∷ ys) (whole xs k (omega (arith, h)))

pub ready_by : (taken : Taken) (w : Waiting) (k : ℕ) → is_taken taken w.name ≡ false → all_taken taken w.name (take k w.uses) ≡ true → length w.uses ≤ k → is_ready taken w ≡ true
ready_by taken w k un h past =
    let e : all_taken taken w.name w.uses ≡ true = ap (all_taken taken w.name) (sym (whole w.uses k past)) ∙ h in
    rw (un, e) refl

pub read_at : (checked : List ℕ) (all : List Waiting) (position k : ℕ) → length checked ≡ length all → position < length all → k ≡ get_or checked position k → get_or checked position 0 ≡ k
read_at checked all position k counted l is =
    get_or_from_slice_get checked position k 0 (slice_get_read checked (length checked) position k refl (omega (arith, counted, l)) is)

pub none_listed : (test : ℕ → Bool) (keys : List ℕ) → (0 < length keys → false ≡ true) → list_any test keys ≡ false
none_listed test [] h = refl
none_listed test (k ∷ ks) h = absurd (true≢false (sym (h (omega arith))))

-- one round takes the first that is ready
pub round : (all : List Waiting) (i : ℕ) (taken new : Taken) (w : Waiting) → i < length all → Some w ≡ first_ready taken all → new ≡ with_taken taken w →
    taken_anew (drop (i + 1) all) new all ≡ taken_anew (drop i all) taken all
round all i taken new w l first is = rw (drop-cons all i w l, add-one, ← first, is) refl
