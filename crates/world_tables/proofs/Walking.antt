-- A walk through types enters those that are reached, and collects their owners.
use Rattle.std.proofs.Common.{arith, inl, inr, ◌≡◌, ◌∙◌, ◌+◌, ◌<◌, ◌≤◌, ◌==◌, ◌||◌, ◌⊎◌, ap, sym, refl, subst, ℕ, zero, suc, nat_eq, Bool, true, false, true≢false, cond, List, [], ◌∷◌, ◌++◌, length, map, take, get_or, Option, Some, None, is_some, if◌then◌else◌}
use Rattle.std.specs.List.{list_any}
use Rattle.std.specs.Map.{lookup}
use Rattle.std.proofs.lemmas.Bool.Decides.{Decides-eqb}
use Rattle.std.proofs.lemmas.Cmp.{nat_eq_equiv}
use Rattle.std.proofs.lemmas.List.Folds.{list_any_more}
use Rattle.comp_lists.specs.Tables.{with_first}
use Rattle.wit_data.specs.declared.types.Type.{«Type» as Ty}
use Rattle.wit_data.specs.declared.types.Type.TheVariants.{Primitive, Id}
use Rattle.wit_data.specs.declared.types.TypeDef.{TypeDef}
use Rattle.wit_data.specs.Live.{reaching, is_live}
use Rattle.wit_data.specs.Parts.{parts, height, RefersBack}
use Rattle.wit_data.specs.Values.{kind_at}
use Rattle.wit_data.proofs.Values.{made_whole}
use Rattle.world_values.specs.Mentions.{owner_in, owners_from}
use Rattle.world_values.specs.Tables.{with_all}
use Rattle.world_tables.specs.declared.walk.Walk.{Walk}
use Rattle.world_tables.specs.Walking.{has, reaches, parts_reach, IsWalk, Enters}
use Rattle.world_tables.proofs.Entering.{in_first, in_all}

abbrev Numbers : Type 0
Numbers = List (ℕ × Unit {0})

-- ---- truths

either : (a b : Bool) → (a || b) ≡ true → (a ≡ true) ⊎ (b ≡ true)
either true b e = inl refl
either false b e = inr e

or_left : (a b : Bool) → a ≡ true → (a || b) ≡ true
or_left true b e = refl
or_left false b e = absurd (true≢false (sym e))

or_right : (a b : Bool) → b ≡ true → (a || b) ≡ true
or_right true b e = refl
or_right false b e = e

or_none : (a : Bool) → a ≡ (a || false)
or_none true = refl
or_none false = refl

or_assoc : (a b c : Bool) → ((a || b) || c) ≡ (a || (b || c))
or_assoc true b c = refl
or_assoc false b c = refl

or_swap : (a b c : Bool) → ((a || b) || c) ≡ (a || (c || b))
or_swap true b c = refl
or_swap false true true = refl
or_swap false true false = refl
or_swap false false true = refl
or_swap false false false = refl

-- what follows from another adds nothing to it
or_absorbed : (a b : Bool) → (b ≡ true → a ≡ true) → a ≡ (a || b)
or_absorbed true b h = refl
or_absorbed false true h = h refl
or_absorbed false false h = refl

-- ---- lists

-- all of a list
pub whole : {X : Type 0} (xs : List X) (n : ℕ) → length xs ≤ n → take n xs ≡ xs
whole [] zero l = refl
whole [] (suc n) l = refl
whole (x ∷ xs) zero l = absurd (omega (arith, l))
whole (x ∷ xs) (suc n) l = ap (λ ys. x ∷ ys) (whole xs n (omega (arith, l)))

-- ---- what a type reaches

any_of : {X : Type 0} (f : X → Bool) (xs : List X) → list_any (λ b. b) (map f xs) ≡ list_any f xs
any_of f [] = refl
any_of f (x ∷ xs) = ap (λ b. f x || b) (any_of f xs)

reached_at : (types : List TypeDef) → RefersBack types → (n target : ℕ) → n < length types → reaches types (Some (Id (record { index = n }))) target ≡ ((n == target) || parts_reach types n target)
reached_at types back n target l =
    made_whole (reaching target) types n back l ∙ ap (λ b. (n == target) || b) (any_of (λ p. reaches types p target) (parts (kind_at types n)))

-- ---- owners

owners_same : (p q : ℕ → Bool) (k : ℕ) (types : List TypeDef) → ((m : ℕ) → k ≤ m → p m ≡ q m) → owners_from p k types ≡ owners_from q k types
owners_same p q k [] same = refl
owners_same p q k (t ∷ ts) same =
    ap (λ b. (if b then owner_in t.owner else []) ++ owners_from p (suc k) ts) (same k (omega arith)) ∙ ap (λ os. (if q k then owner_in t.owner else []) ++ os) (owners_same p q (suc k) ts (λ m l. same m (omega (arith, l))))

no_owners : (k : ℕ) (types : List TypeDef) → owners_from (λ n. false) k types ≡ []
no_owners k [] = refl
no_owners k (t ∷ ts) = no_owners (suc k) ts

has_both : (xs ys : Numbers) (n : ℕ) → has (xs ++ ys) n ≡ (has xs n || has ys n)
has_both [] ys n = refl
has_both (x ∷ xs) ys n = by (nat_eq n x.0) (has_both xs ys n)
  where
    by : (b : Bool) → has (xs ++ ys) n ≡ (has xs n || has ys n) → is_some (cond b (Some x.1) (lookup (nat_eq n) (xs ++ ys))) ≡ (is_some (cond b (Some x.1) (lookup (nat_eq n) xs)) || has ys n)
    by true h = refl
    by false h = h

-- one more type is among those whose owners are collected
owner_more : (live more : ℕ → Bool) (m : ℕ) → ((n : ℕ) → more n ≡ (live n || nat_eq n m)) → (k i : ℕ) (types : List TypeDef) (d : TypeDef) (q : ℕ) → m ≡ k + i → i < length types →
    has (owners_from more k types) q ≡ (has (owners_from live k types) q || has (owner_in (get_or types i d).owner) q)
owner_more live more m each k i [] d q at l = absurd (omega (arith, l))
owner_more live more m each k zero (t ∷ ts) d q at l =
    let own : Numbers = owner_in t.owner in
    let rest : Numbers = owners_from live (suc k) ts in
    let now : more k ≡ true = each k ∙ or_right (live k) (nat_eq k m) ((Decides-eqb k m).1 (omega (arith, at))) in
    let later : owners_from more (suc k) ts ≡ rest = owners_same more live (suc k) ts (λ n past. each n ∙ (ap (λ b. live n || b) (apart n past (nat_eq n m) refl) ∙ sym (or_none (live n)))) in
    ap (λ b. has ((if b then own else []) ++ owners_from more (suc k) ts) q) now
    ∙ (ap (λ os. has (own ++ os) q) later
    ∙ (has_both own rest q ∙ by (live k)))
  where
    apart : (n : ℕ) → suc k ≤ n → (b : Bool) → nat_eq n m ≡ b → nat_eq n m ≡ false
    apart n past true e = let same : n ≡ m = (Decides-eqb n m).0 e in absurd (omega (arith, past, same, at))
    apart n past false e = e

    by : (b : Bool) → (has (owner_in t.owner) q || has (owners_from live (suc k) ts) q) ≡ (has ((if b then owner_in t.owner else []) ++ owners_from live (suc k) ts) q || has (owner_in t.owner) q)
    by true = both (has (owner_in t.owner) q) (has (owners_from live (suc k) ts) q) ∙ ap (λ b. b || has (owner_in t.owner) q) (sym (has_both (owner_in t.owner) (owners_from live (suc k) ts) q))
      where
        both : (a b : Bool) → (a || b) ≡ ((a || b) || a)
        both true b = refl
        both false true = refl
        both false false = refl
    by false = turned (has (owner_in t.owner) q) (has (owners_from live (suc k) ts) q)
      where
        turned : (a b : Bool) → (a || b) ≡ (b || a)
        turned true true = refl
        turned true false = refl
        turned false true = refl
        turned false false = refl
owner_more live more m each k (suc i) (t ∷ ts) d q at l =
    let here : more k ≡ live k = each k ∙ (ap (λ b. live k || b) (apart (nat_eq k m) refl) ∙ sym (or_none (live k))) in
    let first : Numbers = if live k then owner_in t.owner else [] in
    let own : Numbers = owner_in (get_or ts i d).owner in
    let inner = owner_more live more m each (suc k) i ts d q (omega (arith, at)) (omega (arith, l)) in
    ap (λ b. has ((if b then owner_in t.owner else []) ++ owners_from more (suc k) ts) q) here
    ∙ (has_both first (owners_from more (suc k) ts) q
    ∙ (ap (λ b. has first q || b) inner
    ∙ (sym (or_assoc (has first q) (has (owners_from live (suc k) ts) q) (has own q))
    ∙ ap (λ b. b || has own q) (sym (has_both first (owners_from live (suc k) ts) q)))))
  where
    apart : (b : Bool) → nat_eq k m ≡ b → nat_eq k m ≡ false
    apart true e = let same : k ≡ m = (Decides-eqb k m).0 e in absurd (omega (arith, same, at))
    apart false e = e

-- ---- a walk

pub enters_none : (walk : Walk) → Enters walk walk (λ n. false)
enters_none walk = record { each = λ n. or_none (has walk.entered n) }

-- what names no type
pub enters_nothing : (types : List TypeDef) (walk : Walk) (part none : Option Ty) → part ≡ none → height none ≡ 0 → Enters walk walk (reaches types part)
enters_nothing types walk part none is low = subst (λ p. Enters walk walk (reaches types p)) (sym is) (by none low)
  where
    by : (p : Option Ty) → height p ≡ 0 → Enters walk walk (reaches types p)
    by None l = record { each = λ n. or_none (has walk.entered n) }
    by (Some (Primitive x)) l = record { each = λ n. or_none (has walk.entered n) }
    by (Some (Id id)) l = absurd (omega (arith, l))

pub enters_on : (old mid new : Walk) (p q r : ℕ → Bool) → Enters old mid p → Enters mid new q → ((n : ℕ) → r n ≡ (p n || q n)) → Enters old new r
enters_on old mid new p q r h k both = record {
  each = λ n. k.each n ∙ (ap (λ b. b || q n) (h.each n) ∙ (or_assoc (has old.entered n) (p n) (q n) ∙ ap (λ b. has old.entered n || b) (sym (both n))));
}

module _ (types : List TypeDef) where
  pub walk_start : (walk : Walk) → walk.entered ≡ [] → walk.owners ≡ [] → IsWalk types walk
  walk_start walk none nothing = record {
    closed = λ n target h. absurd (true≢false (sym (sym (ap (λ (es : Numbers). has es n) none) ∙ h)));
    owners = λ n. ap (λ (es : Numbers). has es n) nothing ∙ sym (ap (λ (es : Numbers). has (owners_from (has es) 0 types) n) none ∙ ap (λ (os : Numbers). has os n) (no_owners 0 types));
  }

  -- a type that was entered is entered with all that it reaches
  pub enters_again : (walk : Walk) (n : ℕ) (there : Bool) → IsWalk types walk → there ≡ has walk.entered n → there ≡ true → Enters walk walk (reaches types (Some (Id (record { index = n }))))
  enters_again walk n there h is found = record {
    each = λ target. or_absorbed (has walk.entered target) (reaches types (Some (Id (record { index = n }))) target) (h.closed n target (sym is ∙ found));
  }

  module _ (back : RefersBack types) (old mid new : Walk) (n : ℕ) (l : n < length types) (right : IsWalk types mid) (inside : Enters old mid (parts_reach types n)) (entered : new.entered ≡ with_first nat_eq mid.entered n tt) where
    abbrev This : Option Ty
    This = Some (Id (record { index = n }))

    has_now : (target : ℕ) → has new.entered target ≡ (has mid.entered target || nat_eq target n)
    has_now target = ap (λ (es : Numbers). has es target) entered ∙ in_first nat_eq nat_eq_equiv mid.entered n tt target

    -- a type whose parts are entered
    pub enters_type : Enters old new (reaches types This)
    enters_type = record {
      each = λ target.
          has_now target ∙ (ap (λ b. b || nat_eq target n) (inside.each target) ∙ (or_swap (has old.entered target) (parts_reach types n target) (nat_eq target n)
          ∙ (ap (λ b. has old.entered target || (b || parts_reach types n target)) (nat_eq_equiv.symm target n) ∙ ap (λ b. has old.entered target || b) (sym (reached_at types back n target l)))));
    }

    closed_now : (m target : ℕ) → has new.entered m ≡ true → reaches types (Some (Id (record { index = m }))) target ≡ true → has new.entered target ≡ true
    closed_now m target h e = by (either (has mid.entered m) (nat_eq m n) (sym (has_now m) ∙ h))
      where
        by : (has mid.entered m ≡ true) ⊎ (nat_eq m n ≡ true) → has new.entered target ≡ true
        by (inl before) = has_now target ∙ or_left (has mid.entered target) (nat_eq target n) (right.closed m target before e)
        by (inr now) = enters_type.each target ∙ or_right (has old.entered target) (reaches types This target) (subst (λ k. reaches types (Some (Id (record { index = k }))) target ≡ true) ((Decides-eqb m n).0 now) e)

    pub walk_type : (d : TypeDef) → new.owners ≡ with_all nat_eq mid.owners (owner_in (get_or types n d).owner) → IsWalk types new
    walk_type d owners = record {
      closed = closed_now;
      owners = λ q.
          ap (λ (os : Numbers). has os q) owners ∙ (in_all nat_eq nat_eq_equiv mid.owners (owner_in (get_or types n d).owner) q ∙ (ap (λ b. b || has (owner_in (get_or types n d).owner) q) (right.owners q)
          ∙ sym (owner_more (has mid.entered) (has new.entered) n has_now 0 n types d q (omega arith) l)));
    }

  -- the owners of the types that were entered are those of the types that are reached
  pub owners_reached : (given : List Ty) (first last : Walk) (owners : Numbers) → first.entered ≡ [] → IsWalk types last → Enters first last (is_live types given) → owners ≡ last.owners →
      (n : ℕ) → has owners n ≡ has (owners_from (is_live types given) 0 types) n
  owners_reached given first last owners none right enters is n =
      ap (λ (os : Numbers). has os n) is ∙ (right.owners n ∙ ap (λ (os : Numbers). has os n) (owners_same (has last.entered) (is_live types given) 0 types (λ m past. enters.each m ∙ ap (λ (es : Numbers). has es m || is_live types given m) none)))

-- ---- a loop over types by their numbers in a list

-- what is entered with those before this one
abbrev pub AreMet : {X : Type 0} → List TypeDef → (X → Option Ty) → List X → Walk → Walk → ℕ → Type 0
AreMet types type xs old new n = Enters old new (λ target. list_any (λ x. reaches types (type x) target) (take n xs))

module _ {X : Type 0} (types : List TypeDef) (type : X → Option Ty) (xs : List X) (old : Walk) where
  pub met_more : (mid new : Walk) (n : ℕ) (d : X) (p : Option Ty) → n < length xs → p ≡ type (get_or xs n d) → AreMet types type xs old mid n → Enters mid new (reaches types p) → AreMet types type xs old new (n + 1)
  met_more mid new n d p l is h k =
      enters_on old mid new (λ target. list_any (λ x. reaches types (type x) target) (take n xs)) (reaches types p) (λ target. list_any (λ x. reaches types (type x) target) (take (n + 1) xs)) h k
      (λ target. list_any_more (λ x. reaches types (type x) target) xs n d l ∙ ap (λ q. list_any (λ x. reaches types (type x) target) (take n xs) || reaches types q target) (sym is))

  pub met_all : (new : Walk) (n : ℕ) → length xs ≤ n → AreMet types type xs old new n → Enters old new (λ target. list_any (λ x. reaches types (type x) target) xs)
  met_all new n l h = subst (λ ys. Enters old new (λ target. list_any (λ x. reaches types (type x) target) ys)) (whole xs n l) h
