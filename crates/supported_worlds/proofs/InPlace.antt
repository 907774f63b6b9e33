-- The types among the imports are in place where each follows the one before it, and this says that
-- each resource of the root is imported.
use Rattle.std.proofs.Common.{arith, ◌≡◌, ◌<◌, ◌≤◌, ◌+◌, ◌-◌, ◌==◌, ℕ, zero, suc, Bool, true, false, not, ◌&&◌, ◌||◌, nat_le, List, [], ◌∷◌, ◌++◌, length, drop, Option, Some, None, slice_range, refl, sym, ap, ap₂, subst, ◌∙◌, true≢false, length-take, length-drop, take_all}
use Rattle.std.specs.Prelude.{Contains, is_none}
use Rattle.std.specs.List.{list_any}
use Rattle.std.proofs.lemmas.Bool.{le-leb, lt-leb, leb-true, eqb-true, eq-eqb}
use Rattle.std.proofs.lemmas.List.Folds.{drop_split, list_any_at}
use Rattle.wit_data.specs.declared.ids.InterfaceId.{InterfaceId}
use Rattle.wit_data.specs.declared.ids.TypeId.{TypeId}
use Rattle.wit_data.specs.declared.types.TypeDef.{TypeDef}
use Rattle.wit_data.specs.declared.types.TypeDefKind.{TypeDefKind}
use Rattle.wit_data.specs.declared.types.TypeDefKind.TheVariants as kinds
use Rattle.wit_data.specs.declared.worlds.WorldItem.{WorldItem}
use Rattle.wit_data.specs.declared.worlds.WorldItem.TheVariants as items
use Rattle.wit_data.specs.declared.worlds.WorldKey.{WorldKey}
use Rattle.wit_data.specs.declared.worlds.WorldKey.TheVariants as keys
use Rattle.comp_worlds.specs.Encodable.{AscendFrom, ImportsResources, is_resource_kind}
use Rattle.comp_worlds.specs.WorldContents.{items_of, interface_of_owner, interface_at}
use Rattle.comp_worlds.specs.Worlds.{IsResource}
use Rattle.comp_worlds.specs.declared.world.ComponentWorld.{ComponentWorld}
use Rattle.supported_worlds.specs.Placed.{is_root_resource, imported_numbers, ascend_from, have_resources, are_in_place}
use Rattle.supported_worlds.specs.Places.{Follows, FollowsImport}
use Rattle.supported_worlds.proofs.Lists.{at_front, after}

abbrev Entries : Type 0
Entries = List (WorldKey × WorldItem)

-- ---- tests

pub both : (a b : Bool) → (a && b) ≡ true → (a ≡ true) × (b ≡ true)
both true b h = (refl, h)
both false b h = absurd (true≢false (sym h))

pub and_false : (b : Bool) → (b && false) ≡ false
and_false true = refl
and_false false = refl

or_true : (b : Bool) → (b || true) ≡ true
or_true true = refl
or_true false = refl

other : (a b : ℕ) → b < a → (a == b) ≡ false
other a b l = by (a == b) refl
  where
    by : (t : Bool) → (a == b) ≡ t → t ≡ false
    by true same = let e = eqb-true a b same in absurd (omega (arith, e, l))
    by false same = refl

-- ---- numbers that ascend

pub ascending : (k : ℕ) (ns : List ℕ) → ascend_from k ns ≡ true → AscendFrom k ns
ascending k [] h = tt
ascending k (n ∷ ns) h = let b = both (nat_le k n) (ascend_from (suc n) ns) h in (leb-true k n b.0, ascending (suc n) ns b.1)

ascended : (k : ℕ) (ns : List ℕ) → AscendFrom k ns → ascend_from k ns ≡ true
ascended k [] h = refl
ascended k (n ∷ ns) h = ap₂ (λ a b. a && b) (le-leb k n h.0) (ascended (suc n) ns h.1)

-- a lesser number is none of them
not_among : (m k : ℕ) (ns : List ℕ) → AscendFrom m ns → k < m → list_any (λ n. n == k) ns ≡ false
not_among m k [] h l = refl
not_among m k (n ∷ ns) h l = let a = h.0 in ap₂ (λ a b. a || b) (other n k (omega (arith, a, l))) (not_among (suc n) k ns h.1 (omega (arith, a, l)))

-- ---- resources among types

-- types of which none is a resource are passed over
skipped : (ns : List ℕ) (k m : ℕ) (xs ys : List TypeDef) → m ≡ k + length xs → list_any is_root_resource xs ≡ false → have_resources ns k (xs ++ ys) ≡ have_resources ns m ys
skipped ns k m [] ys e none = ap (λ i. have_resources ns i ys) (omega (arith, e))
skipped ns k m (x ∷ xs) ys e none = by (is_root_resource x) none (λ rest. skipped ns (suc k) m xs ys (omega (arith, e)) rest)
  where
    by : (b : Bool) → (b || list_any is_root_resource xs) ≡ false → (list_any is_root_resource xs ≡ false → have_resources ns (suc k) (xs ++ ys) ≡ have_resources ns m ys)
        → ((not b || list_any (λ n. n == k) ns) && have_resources ns (suc k) (xs ++ ys)) ≡ have_resources ns m ys
    by true none more = absurd (true≢false none)
    by false none more = more none

-- a resource before all imported types is none of them
lacking : (ns : List ℕ) (m k : ℕ) (xs ys : List TypeDef) → AscendFrom m ns → k + length xs ≤ m → list_any is_root_resource xs ≡ true → have_resources ns k (xs ++ ys) ≡ false
lacking ns m k [] ys h l some = absurd (true≢false (sym some))
lacking ns m k (x ∷ xs) ys h l some = by (is_root_resource x) some (λ rest. lacking ns m (suc k) xs ys h (omega (arith, l)) rest)
  where
    by : (b : Bool) → (b || list_any is_root_resource xs) ≡ true → (list_any is_root_resource xs ≡ true → have_resources ns (suc k) (xs ++ ys) ≡ false)
        → ((not b || list_any (λ n. n == k) ns) && have_resources ns (suc k) (xs ++ ys)) ≡ false
    by true some more = ap (λ b. b && have_resources ns (suc k) (xs ++ ys)) (not_among m k ns h (omega (arith, l)))
    by false some more = more some

-- an earlier type counts for none of these
without : (n : ℕ) (ns : List ℕ) (k : ℕ) (ts : List TypeDef) → n < k → have_resources (n ∷ ns) k ts ≡ have_resources ns k ts
without n ns k [] l = refl
without n ns k (t ∷ ts) l = ap₂ (λ a b. (not (is_root_resource t) || (a || list_any (λ m. m == k) ns)) && b) (earlier (n == k) refl) (without n ns (suc k) ts (omega (arith, l)))
  where
    earlier : (b : Bool) → (n == k) ≡ b → (n == k) ≡ false
    earlier true same = let e = eqb-true n k same in absurd (omega (arith, e, l))
    earlier false same = same

-- where nothing is imported, no type may be a resource
none_left : (k : ℕ) (ts : List TypeDef) → have_resources [] k ts ≡ not (list_any is_root_resource ts)
none_left k [] = refl
none_left k (t ∷ ts) = by (is_root_resource t) (none_left (suc k) ts)
  where
    by : (b : Bool) → have_resources [] (suc k) ts ≡ not (list_any is_root_resource ts) → ((not b || false) && have_resources [] (suc k) ts) ≡ not (b || list_any is_root_resource ts)
    by true more = refl
    by false more = more

-- ---- from one imported type to the next

first_dropped : {X : Type 0} (xs : List X) (n : ℕ) → n < length xs → (x : X) × (drop n xs ≡ x ∷ drop (suc n) xs)
first_dropped [] n l = absurd (omega (arith, l))
first_dropped (x ∷ xs) zero l = (x, refl)
first_dropped (x ∷ xs) (suc n) l = first_dropped xs n (omega (arith, l))

module _ (types : List TypeDef) (k n : ℕ) (ns : List ℕ) where
  between : List TypeDef
  between = slice_range types k n

  length_between : k ≤ n → n < length types → length (slice_range types k n) ≡ n - k
  length_between l inside = length-take (n - k) (drop k types) ∙ (let d = length-drop k types in omega (arith, d, l, inside))

  in_order : k ≤ n → n < length types → list_any is_root_resource (slice_range types k n) ≡ false → are_in_place types k (n ∷ ns) ≡ are_in_place types (suc n) ns
  in_order l inside none =
      let size = length_between l inside in
      let d = first_dropped types n inside in
      let here : have_resources (n ∷ ns) n (d.0 ∷ drop (suc n) types) ≡ have_resources ns (suc n) (drop (suc n) types) =
      ap (λ b. (not (is_root_resource d.0) || (b || list_any (λ m. m == n) ns)) && have_resources (n ∷ ns) (suc n) (drop (suc n) types)) (eq-eqb n n refl)
      ∙ ap (λ b. b && have_resources (n ∷ ns) (suc n) (drop (suc n) types)) (or_true (not (is_root_resource d.0)))
      ∙ without n ns (suc n) (drop (suc n) types) (omega arith) in
      let rest : have_resources (n ∷ ns) k (drop k types) ≡ have_resources ns (suc n) (drop (suc n) types) =
      ap (have_resources (n ∷ ns) k) (drop_split types k n l) ∙ skipped (n ∷ ns) k n (slice_range types k n) (drop n types) (omega (arith, size, l)) none
      ∙ ap (have_resources (n ∷ ns) n) d.1 ∙ here in
      ap₂ (λ a b. (a && ascend_from (suc n) ns) && b) (le-leb k n l) rest

  passed_over : k ≤ n → n < length types → list_any is_root_resource (slice_range types k n) ≡ true → are_in_place types k (n ∷ ns) ≡ false
  passed_over l inside some = by (ascend_from (suc n) ns) refl
    where
      lacks : AscendFrom (suc n) ns → have_resources (n ∷ ns) k (drop k types) ≡ false
      lacks h =
          let size = length_between l inside in
          ap (have_resources (n ∷ ns) k) (drop_split types k n l) ∙ lacking (n ∷ ns) n k (slice_range types k n) (drop n types) (omega arith, h) (omega (arith, size, l)) some

      by : (b : Bool) → ascend_from (suc n) ns ≡ b → are_in_place types k (n ∷ ns) ≡ false
      by true h = ap (λ b. (nat_le k n && ascend_from (suc n) ns) && b) (lacks (ascending (suc n) ns h)) ∙ and_false (nat_le k n && ascend_from (suc n) ns)
      by false h = ap (λ b. (nat_le k n && b) && have_resources (n ∷ ns) k (drop k types)) h ∙ ap (λ b. b && have_resources (n ∷ ns) k (drop k types)) (and_false (nat_le k n))

  too_early : n < k → are_in_place types k (n ∷ ns) ≡ false
  too_early l = ap (λ b. (b && ascend_from (suc n) ns) && have_resources (n ∷ ns) k (drop k types)) (lt-leb k n l)

-- an earlier type, one after a resource that is passed over, and the next one
pub earlier_type : (types : List TypeDef) (next n : ℕ) → n < next → Follows types next n None
earlier_type types next n l = record { then = λ ns. too_early types next n ns l }

pub later_type : (types : List TypeDef) (next n : ℕ) → next ≤ n → n < length types → true ≡ list_any is_root_resource (slice_range types next n) → Follows types next n None
later_type types next n l inside some = record { then = λ ns. passed_over types next n ns l inside (sym some) }

pub next_type : (types : List TypeDef) (next n : ℕ) → next ≤ n → n < length types → false ≡ list_any is_root_resource (slice_range types next n) → Follows types next n (Some (n + 1))
next_type types next n l inside none = record { then = λ ns. in_order types next n ns l inside (sym none) ∙ ap (λ i. are_in_place types i ns) (let e : suc n ≡ n + 1 = omega arith in e) }

-- ---- imports

pub of_type : (types : List TypeDef) (next : ℕ) (text : List ℕ) (id : TypeId) (answer : Option ℕ) → Follows types next id.index answer → FollowsImport types next (keys.Name text, items.NamedType id) answer
of_type types next text id answer h = record { then = λ rest. h.then (imported_numbers rest) }

-- all imports are in place, if the remaining ones are
pub record StillInPlace (types : List TypeDef) (next : ℕ) (rest all : Entries) : Type 0 where
  pub is : are_in_place types next (imported_numbers rest) ≡ are_in_place types 0 (imported_numbers all)

pub start : (types : List TypeDef) (all : Entries) → StillInPlace types 0 all all
start types all = record { is = refl }

pub step : (types : List TypeDef) (next n : ℕ) (e : WorldKey × WorldItem) (rest all : Entries) → StillInPlace types next (e ∷ rest) all → FollowsImport types next e (Some n) → StillInPlace types n rest all
step types next n e rest all h f = record { is = sym (f.then rest) ∙ h.is }

pub stop : (types : List TypeDef) (next : ℕ) (e : WorldKey × WorldItem) (rest all : Entries) → StillInPlace types next (e ∷ rest) all → FollowsImport types next e None → false ≡ are_in_place types 0 (imported_numbers all)
stop types next e rest all h f = sym (f.then rest) ∙ h.is

pub end : (types : List TypeDef) (next : ℕ) (all : Entries) (some : Bool) → StillInPlace types next [] all → some ≡ list_any is_root_resource (slice_range types next (length types)) → not some ≡ are_in_place types 0 (imported_numbers all)
end types next all some h is =
    let whole : slice_range types next (length types) ≡ drop next types = take_all (length types - next) (drop next types) (let d = length-drop next types in omega (arith, d)) in
    ap not is ∙ ap (λ xs. not (list_any is_root_resource xs)) whole ∙ sym (none_left next (drop next types)) ∙ h.is

-- ---- what this says

pub resource_kind : (kind : TypeDefKind) → is_resource_kind kind ≡ true → kind ≡ kinds.Resource
resource_kind kinds.Resource h = refl
resource_kind kind h = absurd (true≢false (sym h))

unowned : (o : Option InterfaceId) → is_none o ≡ true → o ≡ None
unowned None h = refl
unowned (Some id) h = absurd (true≢false (sym h))

-- the type of this number is a resource that belongs to no interface
record IsRoot (types : List TypeDef) (n : ℕ) : Type 0 where
  resource : IsResource types n
  alone : interface_at types n ≡ None

root_is : (t : TypeDef) → t.kind ≡ kinds.Resource → interface_of_owner t.owner ≡ None → is_root_resource t ≡ true
root_is t kind owner = ap₂ (λ (k : TypeDefKind) (o : Option InterfaceId). is_resource_kind k && is_none o) kind owner

among : (ns : List ℕ) (i : ℕ) → list_any (λ n. n == i) ns ≡ true → Contains ns i
among [] i h = absurd (true≢false (sym h))
among (n ∷ ns) i h = by (n == i) refl h (among ns i)
  where
    by : (b : Bool) → (n == i) ≡ b → (b || list_any (λ m. m == i) ns) ≡ true → (list_any (λ m. m == i) ns ≡ true → Contains ns i) → Contains (n ∷ ns) i
    by true same h more = subst (λ (m : ℕ). Contains (m ∷ ns) i) (sym (eqb-true n i same)) (at_front i ns)
    by false same h more = after n ns i (more h)

is_among : (ns : List ℕ) (i : ℕ) → Contains ns i → list_any (λ n. n == i) ns ≡ true
is_among ns i m = list_any_at (λ n. n == i) ns m.0 i m.1 (ap (λ n. n == i) m.2 ∙ eq-eqb i i refl)

later : (t : TypeDef) (ts : List TypeDef) (n : ℕ) → IsRoot (t ∷ ts) (suc n) → IsRoot ts n
later t ts n r = let l = r.resource.present in record { resource = record { present = omega (arith, l); kind = r.resource.kind }; alone = r.alone }

earlier : (t : TypeDef) (ts : List TypeDef) (n : ℕ) → IsRoot ts n → IsRoot (t ∷ ts) (suc n)
earlier t ts n r = let l = r.resource.present in record { resource = record { present = omega (arith, l); kind = r.resource.kind }; alone = r.alone }

has_each : (ns : List ℕ) (k : ℕ) (ts : List TypeDef) → have_resources ns k ts ≡ true → (n i : ℕ) → i ≡ k + n → IsRoot ts n → list_any (λ m. m == i) ns ≡ true
has_each ns k [] h n i e r = let l = r.resource.present in absurd (omega (arith, l))
has_each ns k (t ∷ ts) h zero i e r =
    let b = both (not (is_root_resource t) || list_any (λ m. m == k) ns) (have_resources ns (suc k) ts) h in
    let same : k ≡ i = omega (arith, e) in
    subst (λ (j : ℕ). list_any (λ m. m == j) ns ≡ true) same (sym (ap (λ b. not b || list_any (λ m. m == k) ns) (root_is t r.resource.kind r.alone)) ∙ b.0)
has_each ns k (t ∷ ts) h (suc n) i e r =
    let b = both (not (is_root_resource t) || list_any (λ m. m == k) ns) (have_resources ns (suc k) ts) h in
    has_each ns (suc k) ts b.1 n i (omega (arith, e)) (later t ts n r)

has_all : (ns : List ℕ) (k : ℕ) (ts : List TypeDef) → ((n i : ℕ) → i ≡ k + n → IsRoot ts n → list_any (λ m. m == i) ns ≡ true) → have_resources ns k ts ≡ true
has_all ns k [] h = refl
has_all ns k (t ∷ ts) h = ap₂ (λ a b. a && b) (by (is_root_resource t) refl) (has_all ns (suc k) ts (λ n i e r. h (suc n) i (omega (arith, e)) (earlier t ts n r)))
  where
    root_at : is_root_resource t ≡ true → IsRoot (t ∷ ts) zero
    root_at is =
        let b = both (is_resource_kind t.kind) (is_none (interface_of_owner t.owner)) is in
        record { resource = record { present = omega arith; kind = resource_kind t.kind b.0 }; alone = unowned (interface_of_owner t.owner) b.1 }

    by : (b : Bool) → is_root_resource t ≡ b → (not (is_root_resource t) || list_any (λ m. m == k) ns) ≡ true
    by true is = ap (λ b. not b || list_any (λ m. m == k) ns) is ∙ h zero k (omega arith) (root_at is)
    by false is = ap (λ b. not b || list_any (λ m. m == k) ns) is

pub imports_resources : (w : ComponentWorld) → are_in_place w.resolve.types 0 (imported_numbers (items_of w).imports) ≡ true → ImportsResources w
imports_resources w h =
    let ns = imported_numbers (items_of w).imports in
    let b = both (ascend_from 0 ns) (have_resources ns 0 w.resolve.types) h in
    record {
      ordered = ascending 0 ns b.0;
      each = λ n r alone. among ns n (has_each ns 0 w.resolve.types b.1 n n (omega arith) (record { resource = r; alone = alone }));
    }

pub in_place : (w : ComponentWorld) → ImportsResources w → are_in_place w.resolve.types 0 (imported_numbers (items_of w).imports) ≡ true
in_place w h =
    let ns = imported_numbers (items_of w).imports in
    ap₂ (λ a b. a && b) (ascended 0 ns h.ordered)
    (has_all ns 0 w.resolve.types (λ n i e r. let same : n ≡ i = omega (arith, e) in is_among ns i (subst (λ (j : ℕ). Contains ns j) same (h.each n r.resource r.alone))))
