-- The places of interfaces among the exports, and the interfaces at such places.
use Rattle.std.proofs.Common.{arith, ◌≡◌, ◌∙◌, ◌+◌, ◌<◌, ◌==◌, ◌&&◌, ◌||◌, not, ap, sym, refl, ℕ, zero, suc, add-one, nat_eq, Bool, true, false, cond, Less, Greater, is_eq, List, [], ◌∷◌, ◌++◌, length, map, filter, take, get_or, Option, Some, is_some, if◌then◌else◌}
use Prim.Native.Nat.compare
use Rattle.std.specs.Cmp.{nat_cmp_is}
use Rattle.std.specs.BTreeSet.{BTreeSet, contains, IsOrdered}
use Rattle.std.specs.BTreeMap.{is_at}
use Rattle.std.specs.HashMap.{HashMap}
use Rattle.std.specs.List.{AllByRecursion, list_any, cons_option, filter_map, slice_get}
use Rattle.std.specs.List.Sorted.{IsStrictlySortedBy}
use Rattle.std.specs.Map.{lookup}
use Rattle.std.specs.Ordering.{nat_cmp}
use Rattle.std.proofs.lemmas.Bool.Decides.{Decides-eqb}
use Rattle.std.proofs.lemmas.Cmp.{nat_eq_equiv, nat_cmp_total}
use Rattle.std.proofs.lemmas.Map.Lookups.{btree_set_from_contains, exact_unsigned}
use Rattle.wit_data.specs.declared.ids.InterfaceId.{InterfaceId}
use Rattle.wit_data.specs.declared.resolve.Resolve.{Resolve}
use Rattle.wit_data.specs.declared.types.Type.{«Type» as Ty}
use Rattle.wit_data.specs.Live.{is_live}
use Rattle.world_values.specs.Mentions.{interface_types, names_interface, owners_from}
use Rattle.world_tables.specs.Walking.{has}
use Rattle.world_tables.specs.Placing.{passes_at, is_listed, is_place, ArePlaces}

-- ---- numbers

apart : (x y : ℕ) → (x ≡ y → ⊥) → nat_eq x y ≡ false
apart x y other = by (nat_eq x y) refl
  where
    by : (b : Bool) → nat_eq x y ≡ b → nat_eq x y ≡ false
    by true e = absurd (other ((Decides-eqb x y).0 e))
    by false e = e

equal_later : (x y : ℕ) → nat_eq (suc x) (suc y) ≡ nat_eq x y
equal_later x y = rw (compare.suc-suc x y) refl

compared_later : (x y : ℕ) → nat_cmp (suc x) (suc y) ≡ nat_cmp x y
compared_later x y = rw (compare.suc-suc (suc x) y, compare.suc-suc x y) refl

first_is_less : (y : ℕ) → nat_cmp 0 (suc y) ≡ Less
first_is_less y = sym (nat_cmp_is 0 (suc y) Less (omega arith))

later_is_greater : (x : ℕ) → nat_cmp (suc x) 0 ≡ Greater
later_is_greater x = sym (nat_cmp_is (suc x) 0 Greater (omega arith))

-- ---- places by interface

listed_more : (q place : ℕ) (ps : List ℕ) → list_any (nat_eq q) (ps ++ place ∷ []) ≡ (nat_eq q place || list_any (nat_eq q) ps)
listed_more q place [] = refl
listed_more q place (p ∷ ps) = ap (λ b. nat_eq q p || b) (listed_more q place ps) ∙ swap (nat_eq q p) (nat_eq q place) (list_any (nat_eq q) ps)
  where
    swap : (a b c : Bool) → (a || (b || c)) ≡ (b || (a || c))
    swap true true c = refl
    swap true false c = refl
    swap false b c = refl

-- a place is added to those of an interface, which were taken out of the table
pub place_added : (before : ℕ → ℕ → Bool) (mid new : Option (List ℕ)) (key n q place : ℕ) (ps places : List ℕ) → is_listed mid q ≡ (if nat_eq key n then false else before n q) → new ≡ cond (nat_eq key n) (Some places) mid →
    places ≡ ps ++ place ∷ [] → list_any (nat_eq q) ps ≡ before key q → is_listed new q ≡ ((nat_eq key n && nat_eq q place) || before n q)
place_added before mid new key n q place ps places left is pushed listed =
    ap (λ o. is_listed o q) is ∙ (ap (λ (l : List ℕ). is_listed (cond (nat_eq key n) (Some l) mid) q) pushed ∙ by (nat_eq key n) refl left)
  where
    by : (b : Bool) → nat_eq key n ≡ b → is_listed mid q ≡ (if b then false else before n q) → is_listed (cond b (Some (ps ++ place ∷ [])) mid) q ≡ ((b && nat_eq q place) || before n q)
    by true e h = listed_more q place ps ∙ (ap (λ b. nat_eq q place || b) listed ∙ ap (λ k. nat_eq q place || before k q) ((Decides-eqb key n).0 e))
    by false e h = h

at_more : (test : InterfaceId → Bool) (ids : List InterfaceId) (i p : ℕ) (d : InterfaceId) → i < length ids → passes_at test (take (suc i) ids) p ≡ ((test (get_or ids i d) && nat_eq p i) || passes_at test (take i ids) p)
at_more test [] i p d l = absurd (omega (arith, l))
at_more test (x ∷ xs) zero zero d l = by (test x)
  where
    by : (b : Bool) → b ≡ ((b && true) || false)
    by true = refl
    by false = refl
at_more test (x ∷ xs) zero (suc p) d l = by (test x) ∙ ap (λ b. (test x && b) || false) (sym (apart (suc p) 0 (λ e. omega (arith, e))))
  where
    by : (b : Bool) → false ≡ ((b && false) || false)
    by true = refl
    by false = refl
at_more test (x ∷ xs) (suc i) zero d l = by (test (get_or xs i d)) ∙ ap (λ b. (test (get_or xs i d) && b) || test x) (sym (apart 0 (suc i) (λ e. omega (arith, e))))
  where
    by : (b : Bool) → test x ≡ ((b && false) || test x)
    by true = refl
    by false = refl
at_more test (x ∷ xs) (suc i) (suc p) d l = at_more test xs i p d (omega (arith, l)) ∙ ap (λ b. (test (get_or xs i d) && b) || passes_at test (take i xs) p) (sym (equal_later p i))

-- one interface more has its place
pub placed_more : (ids : List InterfaceId) (i n p : ℕ) (d id : InterfaceId) (old new : Bool) → i < length ids → id ≡ get_or ids i d → old ≡ passes_at (λ o. n == o.index) (take i ids) p → new ≡ ((nat_eq id.index n && nat_eq p i) || old) →
    new ≡ passes_at (λ o. n == o.index) (take (i + 1) ids) p
placed_more ids i n p d id old new l is before now =
    let test : InterfaceId → Bool = λ o. n == o.index in
    now ∙ (ap (λ b. (nat_eq id.index n && nat_eq p i) || b) before
    ∙ (ap (λ b. (b && nat_eq p i) || passes_at test (take i ids) p) (nat_eq_equiv.symm id.index n ∙ ap test is)
    ∙ (sym (at_more test ids i p d l) ∙ ap (λ k. passes_at test (take k ids) p) (sym (add-one i)))))

-- ---- interfaces at places

-- the places at which an interface passes
places : (InterfaceId → Bool) → List InterfaceId → List ℕ
places test [] = []
places test (x ∷ xs) = (if test x then 0 ∷ [] else []) ++ map suc (places test xs)

none_before : (ks : List ℕ) → list_any (is_at (nat_cmp 0)) (map suc ks) ≡ false
none_before [] = refl
none_before (k ∷ ks) = ap (λ o. is_eq o || list_any (is_at (nat_cmp 0)) (map suc ks)) (first_is_less k) ∙ none_before ks

any_later : (q : ℕ) (ks : List ℕ) → list_any (is_at (nat_cmp (suc q))) (map suc ks) ≡ list_any (is_at (nat_cmp q)) ks
any_later q [] = refl
any_later q (k ∷ ks) = ap (λ o. is_eq o || list_any (is_at (nat_cmp (suc q))) (map suc ks)) (compared_later q k) ∙ ap (λ b. is_at (nat_cmp q) k || b) (any_later q ks)

place_is : (test : InterfaceId → Bool) (ids : List InterfaceId) (q : ℕ) → list_any (is_at (nat_cmp q)) (places test ids) ≡ passes_at test ids q
unfolding places
place_is test [] q = refl
place_is test (x ∷ xs) zero = by (test x)
  where
    by : (b : Bool) → list_any (is_at (nat_cmp 0)) ((if b then 0 ∷ [] else []) ++ map suc (places test xs)) ≡ b
    by true = refl
    by false = none_before (places test xs)
place_is test (x ∷ xs) (suc q) = by (test x) ∙ (any_later q (places test xs) ∙ place_is test xs q)
  where
    by : (b : Bool) → list_any (is_at (nat_cmp (suc q))) ((if b then 0 ∷ [] else []) ++ map suc (places test xs)) ≡ list_any (is_at (nat_cmp (suc q))) (map suc (places test xs))
    by true = ap (λ o. is_eq o || list_any (is_at (nat_cmp (suc q))) (map suc (places test xs))) (later_is_greater q)
    by false = refl

all_after : (ks : List ℕ) → AllByRecursion (λ y. nat_cmp 0 y ≡ Less) (map suc ks)
all_after [] = tt
all_after (k ∷ ks) = (first_is_less k, all_after ks)

all_later : (q : ℕ) (ks : List ℕ) → AllByRecursion (λ y. nat_cmp q y ≡ Less) ks → AllByRecursion (λ y. nat_cmp (suc q) y ≡ Less) (map suc ks)
all_later q [] h = tt
all_later q (k ∷ ks) h = (compared_later q k ∙ h.0, all_later q ks h.1)

sorted_later : (ks : List ℕ) → IsStrictlySortedBy nat_cmp ks → IsStrictlySortedBy nat_cmp (map suc ks)
unfolding IsStrictlySortedBy
sorted_later [] h = tt
sorted_later (k ∷ ks) h = (all_later k ks h.0, sorted_later ks h.1)

places_sorted : (test : InterfaceId → Bool) (ids : List InterfaceId) → IsStrictlySortedBy nat_cmp (places test ids)
unfolding IsStrictlySortedBy places
places_sorted test [] = tt
places_sorted test (x ∷ xs) = by (test x) (sorted_later (places test xs) (places_sorted test xs))
  where
    by : (b : Bool) → IsStrictlySortedBy nat_cmp (map suc (places test xs)) → IsStrictlySortedBy nat_cmp ((if b then 0 ∷ [] else []) ++ map suc (places test xs))
    by true h = (all_after (places test xs), h)
    by false h = h

got_later : (x : InterfaceId) (xs : List InterfaceId) (ks : List ℕ) → filter_map (slice_get (x ∷ xs)) (map suc ks) ≡ filter_map (slice_get xs) ks
got_later x xs [] = refl
got_later x xs (k ∷ ks) = ap (λ ys. cons_option (slice_get xs k) ys) (got_later x xs ks)

got_at : (test : InterfaceId → Bool) (ids : List InterfaceId) → filter_map (slice_get ids) (places test ids) ≡ filter test ids
unfolding places
got_at test [] = refl
got_at test (x ∷ xs) = by (test x) (got_later x xs (places test xs) ∙ got_at test xs)
  where
    by : (b : Bool) → filter_map (slice_get (x ∷ xs)) (map suc (places test xs)) ≡ filter test xs → filter_map (slice_get (x ∷ xs)) ((if b then 0 ∷ [] else []) ++ map suc (places test xs)) ≡ cond b (x ∷ filter test xs) (filter test xs)
    by true h = ap (λ ys. x ∷ ys) h
    by false h = h

-- the interfaces at all places at which one passes are those that pass, in their order
pub picked : (ids found : List InterfaceId) (set : BTreeSet ℕ) → IsOrdered nat_cmp set → found ≡ filter_map (slice_get ids) set.keys → (test : InterfaceId → Bool) → ((q : ℕ) → contains nat_cmp set q ≡ passes_at test ids q) → found ≡ filter test ids
picked ids found set ordered is test at =
    let whole : BTreeSet ℕ = record { keys = places test ids } in
    is ∙ (ap (filter_map (slice_get ids)) (btree_set_from_contains nat_cmp_total set whole ordered (places_sorted test ids) (λ q. at q ∙ sym (place_is test ids q)) exact_unsigned) ∙ got_at test ids)

-- ---- which are named

any_same : {X : Type 0} (f g : X → Bool) → ((x : X) → f x ≡ g x) → (xs : List X) → list_any f xs ≡ list_any g xs
any_same f g same [] = refl
any_same f g same (x ∷ xs) = ap (λ b. b || list_any f xs) (same x) ∙ ap (λ b. g x || b) (any_same f g same xs)

at_same : (f g : InterfaceId → Bool) → ((x : InterfaceId) → f x ≡ g x) → (ids : List InterfaceId) (p : ℕ) → passes_at f ids p ≡ passes_at g ids p
at_same f g same [] p = refl
at_same f g same (x ∷ xs) zero = same x
at_same f g same (x ∷ xs) (suc p) = at_same f g same xs p

abbrev Numbers : Type 0
Numbers = List (ℕ × Unit {0})

-- of the owners but one, one is this interface
one_owner : (id x : InterfaceId) (owners : Numbers) → list_any (λ e. not (e.0 == id.index) && (e.0 == x.index)) owners ≡ (has owners x.index && not (x.index == id.index))
one_owner id x [] = refl
one_owner id x (e ∷ es) =
    ap (λ b. (not (e.0 == id.index) && (e.0 == x.index)) || b) (one_owner id x es)
    ∙ (by (e.0 == x.index) refl ∙ ap (λ b. is_some (cond b (Some e.1) (lookup (nat_eq x.index) es)) && not (x.index == id.index)) (nat_eq_equiv.symm e.0 x.index))
  where
    whole : (a b : Bool) → ((a && true) || (b && a)) ≡ (true && a)
    whole true b = refl
    whole false true = refl
    whole false false = refl

    none : (a b : Bool) → ((a && false) || b) ≡ b
    none true b = refl
    none false b = refl

    by : (b : Bool) → (e.0 == x.index) ≡ b → ((not (e.0 == id.index) && b) || (has es x.index && not (x.index == id.index))) ≡ (is_some (cond b (Some e.1) (lookup (nat_eq x.index) es)) && not (x.index == id.index))
    by true same = ap (λ k. (not (k == id.index) && true) || (has es x.index && not (x.index == id.index))) ((Decides-eqb e.0 x.index).0 same) ∙ whole (not (x.index == id.index)) (has es x.index)
    by false same = none (not (e.0 == id.index)) (has es x.index && not (x.index == id.index))

none_at : (id : InterfaceId) (owners : Numbers) → list_any (λ e. not (e.0 == id.index) && false) owners ≡ false
none_at id [] = refl
none_at id (e ∷ es) = by (not (e.0 == id.index)) ∙ none_at id es
  where
    by : (b : Bool) → ((b && false) || list_any (λ e. not (e.0 == id.index) && false) es) ≡ list_any (λ e. not (e.0 == id.index) && false) es
    by true = refl
    by false = refl

owner_at_place : (id : InterfaceId) (owners : Numbers) (ids : List InterfaceId) (p : ℕ) → list_any (λ e. not (e.0 == id.index) && passes_at (λ o. e.0 == o.index) ids p) owners ≡ passes_at (λ other. has owners other.index && not (other.index == id.index)) ids p
owner_at_place id owners [] p = none_at id owners
owner_at_place id owners (x ∷ xs) zero = one_owner id x owners
owner_at_place id owners (x ∷ xs) (suc p) = owner_at_place id owners xs p

-- the places of owners but one are those at which an interface stands that is named
pub named_at : (r : Resolve) (id : InterfaceId) (given : List Ty) (owners : Numbers) (all : List InterfaceId) {S : Type 0} (table : HashMap ℕ (List ℕ) S) (set : BTreeSet ℕ) → given ≡ interface_types r id →
    ((n : ℕ) → has owners n ≡ has (owners_from (is_live r.types given) 0 r.types) n) → ArePlaces all table → ((q : ℕ) → contains nat_cmp set q ≡ list_any (λ e. not (e.0 == id.index) && is_place table e.0 q) owners) →
    (q : ℕ) → contains nat_cmp set q ≡ passes_at (λ other. names_interface r id other && not (other.index == id.index)) all q
named_at r id given owners all table set same made placed found q =
    found q
    ∙ (any_same (λ e. not (e.0 == id.index) && is_place table e.0 q) (λ e. not (e.0 == id.index) && passes_at (λ o. e.0 == o.index) all q) (λ e. ap (λ b. not (e.0 == id.index) && b) (placed.each e.0 q)) owners
    ∙ (owner_at_place id owners all q
    ∙ at_same (λ other. has owners other.index && not (other.index == id.index)) (λ other. names_interface r id other && not (other.index == id.index))
    (λ other. ap (λ b. b && not (other.index == id.index)) (made other.index ∙ ap (λ g. has (owners_from (is_live r.types g) 0 r.types) other.index) same)) all q))
