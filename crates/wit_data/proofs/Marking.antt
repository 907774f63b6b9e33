-- What marked types reach, as marks are added and types are visited.
use Rattle.std.proofs.Common.{◌≡◌, ◌≢◌, ℕ, zero, suc, ◌+◌, ◌<◌, ◌≤◌, ◌==◌, Bool, true, false, true≢false, ◌||◌, ◌&&◌, List, [], ◌∷◌, length, get_or, set, replicate, map, filter, refl, ap, subst, ◌∙◌, sym, arith, Option, Some, None, if◌then◌else◌, inl, inr, option_map, unwrap_or, slice_get, Result, Ok, Err, IfOk}
use Rattle.std.specs.List.{list_any}
use Rattle.std.proofs.lemmas.List.{get_or-set_same, get_or-set_other, length-set, length-map, length-replicate}
use Rattle.std.proofs.lemmas.Bool.{cases_order, eqb-true}
use Rattle.std.proofs.lemmas.Bool.Decides.{eqb_tells}
use Rattle.wit_data.specs.declared.types.Type.{«Type» as Ty}
use Rattle.wit_data.specs.declared.types.Type.TheVariants.{Primitive, Id}
use Rattle.wit_data.specs.declared.types.TypeDef.{TypeDef}
use Rattle.wit_data.specs.declared.ids.TypeId.{TypeId}
use Rattle.wit_data.specs.declared.ids.InterfaceId.{InterfaceId}
use Rattle.wit_data.specs.declared.resolve.Interface.{Interface}
use Rattle.wit_data.specs.declared.resolve.Resolve.{Resolve}
use Rattle.wit_data.specs.Parts.{IsBelow, RefersBack}
use Rattle.wit_data.specs.Values.{value, part_values}
use Rattle.wit_data.specs.Live.{reaching, is_live, live_types, named_types}
use Rattle.wit_data.specs.Marks.{with_mark, reaches, reached_below, reached, Spreads, PassesOn, AreLive}
use Rattle.wit_data.proofs.Values.{made_whole}
use Rattle.wit_data.proofs.Meeting.{MetSoFar, met_start, met_step, met_end, or_assoc, or_false}

or_true : (a : Bool) → (a || true) ≡ true
or_true true = refl
or_true false = refl

-- A type reaches what its parts reach, and itself.
pub reaches_by : (types : List TypeDef) (n target : ℕ) → RefersBack types → n < length types → reaches types n target ≡ ((n == target) || list_any (λ b. b) (part_values (reaching target) types n))
reaches_by types n target s l = made_whole (reaching target) types n s l

pub reaches_itself : (types : List TypeDef) (n target : ℕ) → RefersBack types → n < length types → (n == target) ≡ true → reaches types n target ≡ true
reaches_itself types n target s l e = reaches_by types n target s l ∙ ap (λ b. b || list_any (λ b. b) (part_values (reaching target) types n)) e

-- A mark on a type after the first so many is not read.
pub below_unmarked : (types : List TypeDef) (marks : List Bool) (i n target : ℕ) → n ≤ i → reached_below types (set marks i true) n target ≡ reached_below types marks n target
below_unmarked types marks i zero target l = refl
below_unmarked types marks i (suc n) target l =
    let other : n ≢ i = λ e. omega (arith, l, e) in
    ap (λ b. (b && reaches types n target) || reached_below types (set marks i true) n target) (get_or-set_other marks i n true false other) ∙ ap (λ b. (get_or marks n false && reaches types n target) || b) (below_unmarked types marks i n target (omega (arith, l)))

swapped : (m r b : Bool) → (r || b) ≡ (((m && r) || b) || r)
swapped true true b = refl
swapped true false b = sym (or_false b)
swapped false true b = sym (or_true b)
swapped false false b = sym (or_false b)

-- A mark among the first so many adds what it reaches.
pub below_marked : (types : List TypeDef) (marks : List Bool) (i n target : ℕ) → i < n → i < length marks → reached_below types (set marks i true) n target ≡ (reached_below types marks n target || reaches types i target)
below_marked types marks i zero target l h = absurd (omega (arith, l))
below_marked types marks i (suc n) target l h =
    let rest = reached_below types (set marks i true) n target in
    elim (cases_order i n) [
      | inl e ↦
          let here : get_or (set marks i true) n false ≡ true = subst (λ k. get_or (set marks i true) k false ≡ true) e (get_or-set_same marks i true false h) in
          ap (λ b. (b && reaches types n target) || rest) here ∙ (ap (λ b. reaches types n target || b) (below_unmarked types marks i n target (omega (arith, e))) ∙ (swapped (get_or marks n false) (reaches types n target) (reached_below types marks n target) ∙ ap (λ k. reached_below types marks (suc n) target || reaches types k target) (sym e)))
      | inr w ↦ elim w [
        | inl less ↦
            let other : n ≢ i = λ e. omega (arith, less, e) in
            ap (λ b. (b && reaches types n target) || rest) (get_or-set_other marks i n true false other) ∙ (ap (λ b. (get_or marks n false && reaches types n target) || b) (below_marked types marks i n target less h) ∙ sym (or_assoc (get_or marks n false && reaches types n target) (reached_below types marks n target) (reaches types i target)))
        | inr more ↦ absurd (omega (arith, l, more))
      ]
    ]

-- A mark adds what it reaches.
pub marked_one : (types : List TypeDef) (marks : List Bool) (i n target : ℕ) → RefersBack types → i < n → n ≤ length marks → length marks ≡ length types → reached types (set marks i true) n target ≡ (reached types marks n target || reaches types i target)
marked_one types marks i n target s l h long =
    let there : i < length marks = omega (arith, l, h) in
    let below = below_marked types marks i n target l there in
    elim (eqb_tells i target) [
      | inl same ↦
          let here : get_or (set marks i true) target false ≡ true = subst (λ k. get_or (set marks i true) k false ≡ true) same.1 (get_or-set_same marks i true false there) in
          let own : reaches types i target ≡ true = reaches_itself types i target s (omega (arith, there, long)) same.0 in
          ap (λ b. b || reached_below types (set marks i true) n target) here ∙ (sym (or_true (reached types marks n target)) ∙ ap (λ b. reached types marks n target || b) (sym own))
      | inr differ ↦
          let other : target ≢ i = λ e. differ.1 (sym e) in
          ap (λ b. b || reached_below types (set marks i true) n target) (get_or-set_other marks i target true false other) ∙ (ap (λ b. get_or marks target false || b) below ∙ sym (or_assoc (get_or marks target false) (reached_below types marks n target) (reaches types i target)))
    ]

pub marked_part : (types : List TypeDef) (marks : List Bool) (p : Option Ty) (n target : ℕ) → RefersBack types → IsBelow n p → n ≤ length marks → length marks ≡ length types → reached types (with_mark marks p) n target ≡ (reached types marks n target || value (reaching target) types p)
marked_part types marks None n target s l h long = sym (or_false (reached types marks n target))
marked_part types marks (Some (Primitive q)) n target s l h long = sym (or_false (reached types marks n target))
marked_part types marks (Some (Id id)) n target s l h long = marked_one types marks id.index n target s l h long

pub length_marked : (marks : List Bool) (p : Option Ty) → length (with_mark marks p) ≡ length marks
length_marked marks None = refl
length_marked marks (Some (Primitive q)) = refl
length_marked marks (Some (Id id)) = length-set marks id.index true

-- The first so many of the types are marked.
pub record SpreadsSoFar (types : List TypeDef) (old new : List Bool) (n done : ℕ) (found : ℕ → List Bool) : Type 0 where
  pub long : length new ≡ length old
  pub each : (target : ℕ) → MetSoFar (reached types old n target) (reached types new n target) done (found target)

pub spread_start : (types : List TypeDef) (marks : List Bool) (n : ℕ) (found : ℕ → List Bool) → SpreadsSoFar types marks marks n 0 found
spread_start types marks n found = record { long = refl; each = λ target. met_start (reached types marks n target) (found target) }

pub spread_step : (types : List TypeDef) (old marks : List Bool) (n done : ℕ) (found : ℕ → List Bool) (p : Option Ty) → RefersBack types → IsBelow n p → n ≤ length old → length old ≡ length types → ((target : ℕ) → done < length (found target)) → ((target : ℕ) → value (reaching target) types p ≡ get_or (found target) done false) → SpreadsSoFar types old marks n done found → SpreadsSoFar types old (with_mark marks p) n (done + 1) found
spread_step types old marks n done found p s b h long in_range at so_far =
    let room : n ≤ length marks = omega (arith, h, so_far.long) in
    let same : length marks ≡ length types = so_far.long ∙ long in
    record {
      long = length_marked marks p ∙ so_far.long;
      each = λ target. subst (λ b. MetSoFar (reached types old n target) b (done + 1) (found target)) (sym (marked_part types marks p n target s b room same)) (met_step (reached types old n target) (reached types marks n target) (value (reaching target) types p) done (found target) (in_range target) (at target) (so_far.each target));
    }

pub spread_end : (types : List TypeDef) (old new : List Bool) (n done : ℕ) (found : ℕ → List Bool) → ((target : ℕ) → done ≡ length (found target)) → SpreadsSoFar types old new n done found → Spreads types old new n found
spread_end types old new n done found all so_far = record { long = so_far.long; each = λ target. met_end (reached types old n target) (reached types new n target) done (found target) (all target) (so_far.each target) }

or_swap : (a b : Bool) → (a || b) ≡ (b || a)
or_swap true true = refl
or_swap true false = refl
or_swap false true = refl
or_swap false false = refl

passed : (same mark own below found r : Bool) → (same ≡ true → mark ≡ true) → r ≡ (same || found) → own ≡ true → ((mark || below) || found) ≡ (mark || ((own && r) || below))
passed true true own below found r imply e o = refl
passed true false own below found r imply e o = absurd (true≢false (sym (imply refl)))
passed false true own below found r imply e o = refl
passed false false own below found r imply e o = or_swap below found ∙ (ap (λ x. x || below) (sym e) ∙ ap (λ x. (x && r) || below) (sym o))

-- A type that was visited, where it is marked.
pub pass_marked : (types : List TypeDef) (old new : List Bool) (n : ℕ) → RefersBack types → n < length types → get_or old n false ≡ true → Spreads types old new n (λ target. part_values (reaching target) types n) → PassesOn types old (n + 1) new n
pass_marked types old new n s l marked spreads =
    subst (λ m. PassesOn types old m new n) {x = suc n} {y = n + 1} (omega arith) (record {
      long = spreads.long;
      each = λ target. spreads.each target ∙ passed (n == target) (get_or old target false) (get_or old n false) (reached_below types old n target) (list_any (λ b. b) (part_values (reaching target) types n)) (reaches types n target) (itself target) (reaches_by types n target s l) marked;
    })
  where
    itself : (target : ℕ) → (n == target) ≡ true → get_or old target false ≡ true
    itself target e = subst (λ k. get_or old k false ≡ true) (eqb-true n target e) marked

unmarked : (size n : ℕ) → get_or (replicate size false) n false ≡ false
unmarked zero n = refl
unmarked (suc size) zero = refl
unmarked (suc size) (suc n) = unmarked size n

pub none_below : (types : List TypeDef) (size n target : ℕ) → reached_below types (replicate size false) n target ≡ false
none_below types size zero target = refl
none_below types size (suc n) target = ap (λ b. (b && reaches types n target) || reached_below types (replicate size false) n target) (unmarked size n) ∙ none_below types size n target

-- Without a mark nothing is reached.
pub none_reached : (types : List TypeDef) (size n target : ℕ) → reached types (replicate size false) n target ≡ false
none_reached types size n target = ap (λ b. b || reached_below types (replicate size false) n target) (unmarked size target) ∙ none_below types size n target

pub any_mapped : {X : Type 0} (f : X → Bool) (xs : List X) → list_any (λ b. b) (map f xs) ≡ list_any f xs
any_mapped f [] = refl
any_mapped f (x ∷ xs) = ap (λ b. f x || b) (any_mapped f xs)

-- Where the given types are marked, and all types were visited, those that they reach are marked.
pub live_end : (types : List TypeDef) (given : List Ty) (old first last : List Bool) → old ≡ replicate (length types) false → Spreads types old first (length types) (λ target. map (λ t. value (reaching target) types (Some t)) given) → PassesOn types first (length types) last 0 → AreLive types given last
live_end types given old first last none spreads passes =
    record {
      long = passes.long ∙ (spreads.long ∙ (ap length none ∙ length-replicate (length types) false));
      each = λ target. sym (or_false (get_or last target false)) ∙ (passes.each target ∙ (spreads.each target ∙ (ap (λ b. b || list_any (λ b. b) (map (λ t. value (reaching target) types (Some t)) given)) (ap (λ marks. reached types marks (length types) target) none ∙ none_reached types (length types) (length types) target) ∙ any_mapped (λ t. value (reaching target) types (Some t)) given)));
    }

pub filter_same : {X : Type 0} (p q : X → Bool) (xs : List X) → ((x : X) → p x ≡ q x) → filter p xs ≡ filter q xs
filter_same p q [] same = refl
filter_same p q (x ∷ xs) same = ap (λ b. if b then x ∷ filter p xs else filter p xs) (same x) ∙ ap (λ ys. if q x then x ∷ ys else ys) (filter_same p q xs same)

pub length_found : (types : List TypeDef) (given : List Ty) (target : ℕ) → length (map (λ t. value (reaching target) types (Some t)) given) ≡ length given
length_found types given target = length-map given (λ t. value (reaching target) types (Some t))

named_there : (interfaces : List Interface) (n : ℕ) (d : Interface) → n < length interfaces → unwrap_or (option_map (λ i. i.types) (slice_get interfaces n)) [] ≡ (get_or interfaces n d).types
named_there [] n d l = absurd (omega (arith, l))
named_there (i ∷ is) zero d l = refl
named_there (i ∷ is) (suc n) d l = named_there is n d (omega (arith, l))

-- Those of an interface's types that are marked, where what is marked is what the given types reach.
pub live_named : (r : Resolve) (id : InterfaceId) (types : List TypeDef) (interfaces : List Interface) (given : List Ty) (marks seen : List Bool) (d : Interface) (found : List TypeId) → types ≡ r.types → interfaces ≡ r.interfaces → seen ≡ marks → id.index < length r.interfaces → AreLive types given marks → found ≡ filter (λ i. get_or seen i.index false) (map (λ e. e.1) (get_or interfaces id.index d).types) → found ≡ live_types r.types given (named_types r id)
live_named r id types interfaces given marks seen d found same_types same_interfaces same_marks l live e =
    let each : (i : TypeId) → get_or seen i.index false ≡ is_live r.types given i.index = λ i. ap (λ ms. get_or ms i.index false) same_marks ∙ (live.each i.index ∙ ap (λ ts. is_live ts given i.index) same_types) in
    let named : (get_or interfaces id.index d).types ≡ named_types r id = ap (λ is. (get_or is id.index d).types) same_interfaces ∙ sym (named_there r.interfaces id.index d l) in
    e ∙ (filter_same (λ i. get_or seen i.index false) (λ i. is_live r.types given i.index) (map (λ e. e.1) (get_or interfaces id.index d).types) each ∙ ap (λ ns. live_types r.types given ns) named)

-- What follows from a fact of a result's value is a fact of the result.
pub if_ok : {T E : Type 0} (P Q : T → Type 0) (result : Result T E) → ((x : T) → P x → Q x) → IfOk result P → IfOk result Q
if_ok P Q (Ok x) follow fact = follow x fact
if_ok P Q (Err e) follow fact = tt
