-- A walk, step by step.
use Rattle.std.proofs.Common.{◌≡◌, ◌∙◌, ◌+◌, ◌<◌, ◌≤◌, arith, inl, inr, ℕ, zero, suc, Bool, true, false, true≢false, List, [], ◌∷◌, ◌++◌, length, refl, ap, sym, subst, get_or, append-nil, append_assoc, Option, Some, None, is_some}
use Rattle.std.specs.List.{AllByRecursion, IsDistinct, list_all}
use Rattle.std.specs.Map.{lookup}
use Rattle.std.proofs.lemmas.Bool.{and_from, and_parts, cases_lt}
use Rattle.comp_lists.specs.Tables.{with_first}
use Rattle.comp_lists.proofs.Lists.{AllByRecursion-weaker, AllByRecursion-push, AllByRecursion-back}
use Rattle.wit_data.specs.declared.functions.Function.{Function}
use Rattle.wit_data.specs.declared.ids.InterfaceId.{InterfaceId}
use Rattle.wit_data.specs.declared.ids.TypeId.{TypeId}
use Rattle.wit_data.specs.declared.types.Type.{«Type» as Ty}
use Rattle.wit_data.specs.declared.types.Type.TheVariants.{Id}
use Rattle.wit_data.specs.declared.types.TypeDef.{TypeDef}
use Rattle.wit_data.specs.declared.types.TypeDefKind.{TypeDefKind}
use Rattle.wit_data.specs.declared.types.TypeOwner.{TypeOwner}
use Rattle.wit_data.specs.Parts.{RefersBack}
use Rattle.wit_data.specs.Values.{value}
use Rattle.wit_types.specs.Settings.{owner_at}
use Rattle.wit_types.specs.Allowing.{foreign}
use Rattle.wit_types.proofs.Growing.{holds_of_found, holds_of_added}
use Rattle.wit_types.proofs.SameKeys.{one_id}
use Rattle.type_scopes.specs.Needs.{each_passes}
use Rattle.type_scopes.specs.Titles.{is_one_of}
use Rattle.foreign_types.specs.declared.walk.Walk.{Walk}
use Rattle.foreign_types.specs.Foreign.{is_covered, is_parts_covered, is_function_covered, AreReady, same_type, type_passes, IsReached, AreForeignTypes}
use Rattle.foreign_types.specs.Walking.{IsWalk, is_entered, AllPass, Lists, Passes, PartsPass, ListedPass, EntriesPass}
use Rattle.foreign_types.proofs.Once.{still_there, now_there, listed_once}
use Rattle.foreign_types.proofs.Covering.{one_of_last, ready_more, covered_other, covered_own, covered_more, parts_pass}

-- ---- what is listed

pub lists_none : (types : List TypeDef) (ids : List TypeId) (pass : (ℕ → TypeDefKind → Bool) → Type 0) → Lists types ids ids pass
lists_none types ids pass = record { more = []; grown = sym (append-nil ids); passing = λ test h. tt }

both : {X : Type 0} (P : X → Type 0) (xs ys : List X) → AllByRecursion P xs → AllByRecursion P ys → AllByRecursion P (xs ++ ys)
both P [] ys h k = k
both P (x ∷ xs) ys h k = (h.0, both P xs ys h.1 k)

pub lists_on : (types : List TypeDef) (old mid new : List TypeId) (p q r : (ℕ → TypeDefKind → Bool) → Type 0) → ((test : ℕ → TypeDefKind → Bool) → r test → p test) → ((test : ℕ → TypeDefKind → Bool) → r test → q test) →
    Lists types old mid p → Lists types mid new q → Lists types old new r
lists_on types old mid new p q r f g h k = record {
  more = h.more ++ k.more;
  grown = k.grown ∙ (ap (λ ids. ids ++ k.more) h.grown ∙ append_assoc old h.more k.more);
  passing = λ test x. both (type_passes test types) h.more k.more (h.passing test (f test x)) (k.passing test (g test x));
}

-- ---- one test of many

-- all pass, and so does the one at an index
pub passes_at : {X : Type 0} (test : X → Bool) (xs : List X) (n : ℕ) (d : X) → n < length xs → list_all test xs ≡ true → test (get_or xs n d) ≡ true
passes_at test [] n d l e = absurd (omega (arith, l))
passes_at test (x ∷ xs) zero d l e = (and_parts (test x) (list_all test xs) e).0
passes_at test (x ∷ xs) (suc n) d l e = passes_at test xs n d (omega (arith, l)) (and_parts (test x) (list_all test xs) e).1

-- the one at each index passes, and so all do
pub all_at : {X : Type 0} (test : X → Bool) (xs : List X) (d : X) → ((k : ℕ) → k < length xs → test (get_or xs k d) ≡ true) → list_all test xs ≡ true
all_at test [] d h = refl
all_at test (x ∷ xs) d h = and_from (test x) (list_all test xs) (h 0 (omega arith)) (all_at test xs d (λ k l. h (suc k) (omega (arith, l))))

-- what stands at an index of a list, whatever stands behind the list
pub same_at : {X : Type 0} (xs : List X) (n : ℕ) (d e : X) → n < length xs → get_or xs n d ≡ get_or xs n e
same_at [] n d e l = absurd (omega (arith, l))
same_at (x ∷ xs) zero d e l = refl
same_at (x ∷ xs) (suc n) d e l = same_at xs n d e (omega (arith, l))

-- ---- a walk

pub owned_by : (types : List TypeDef) (here : InterfaceId) (id : TypeId) (owner : TypeOwner) (o : Option InterfaceId) → owner ≡ owner_at types id.index → o ≡ foreign (Some here) owner → foreign (Some here) (owner_at types id.index) ≡ o
owned_by types here id owner o is of = sym (of ∙ ap (foreign (Some here)) is)

module _ (types : List TypeDef) (here : InterfaceId) where
  pub walk_start : (walk : Walk) → walk.listed ≡ [] → walk.entered ≡ [] → IsWalk types here walk
  unfolding IsDistinct
  walk_start walk none nothing = record {
    ready = subst (λ ids. AreReady types here ids) (sym none) tt;
    once = subst (λ ids. IsDistinct same_type ids) (sym none) tt;
    known = subst (λ ids. AllByRecursion (λ id. is_entered walk id ≡ true) ids) (sym none) tt;
    entered = subst (λ es. AllByRecursion (λ e. is_covered types here walk.listed (Some (Id e.0)) ≡ true) es) (sym nothing) tt;
  }

  -- a type that was entered is covered
  pub covered_before : (walk : Walk) (id : TypeId) (there : Bool) → IsWalk types here walk → there ≡ is_some (lookup (same_type id) walk.entered) → there ≡ true → is_covered types here walk.listed (Some (Id id)) ≡ true
  covered_before walk id there h is found = by (lookup (same_type id) walk.entered) refl
    where
      by : (o : Option (Unit {0})) → lookup (same_type id) walk.entered ≡ o → is_covered types here walk.listed (Some (Id id)) ≡ true
      by None e = let no = ap is_some (sym e) ∙ (sym is ∙ found) in absurd (true≢false (sym no))
      by (Some x) e = holds_of_found same_type one_id (λ (p : TypeId × Unit {0}). is_covered types here walk.listed (Some (Id p.0)) ≡ true) id walk.entered x h.entered e

  -- what was entered still is, and so is this type
  entered_more : (mid new : Walk) (id : TypeId) (ids : List TypeId) → new.entered ≡ with_first same_type mid.entered id tt → AllByRecursion (λ x. is_entered mid x ≡ true) ids → AllByRecursion (λ x. is_entered new x ≡ true) ids
  entered_more mid new id ids is known = AllByRecursion-weaker (λ x k. subst (λ (es : List (TypeId × Unit {0})). is_some (lookup (same_type x) es) ≡ true) (sym is) (still_there same_type mid.entered id x tt k)) ids known

  -- a type that is covered is entered
  pub walk_entered : (mid new : Walk) (id : TypeId) → IsWalk types here mid → is_covered types here mid.listed (Some (Id id)) ≡ true → new.listed ≡ mid.listed → new.entered ≡ with_first same_type mid.entered id tt → IsWalk types here new
  walk_entered mid new id h covered same is =
      let P : List TypeId → TypeId × Unit {0} → Type 0 = λ ids e. is_covered types here ids (Some (Id e.0)) ≡ true in
      record {
        ready = subst (λ ids. AreReady types here ids) (sym same) h.ready;
        once = subst (λ ids. IsDistinct same_type ids) (sym same) h.once;
        known = subst (λ ids. AllByRecursion (λ x. is_entered new x ≡ true) ids) (sym same) (entered_more mid new id mid.listed is h.known);
        entered = subst (λ ids. AllByRecursion (P ids) new.entered) (sym same) (subst (λ es. AllByRecursion (P mid.listed) es) (sym is) (holds_of_added same_type (P mid.listed) mid.entered id tt h.entered covered));
      }

  module _ (back : RefersBack types) where
    -- a type of another interface whose parts are covered is entered and listed
    module _ (mid new : Walk) (id : TypeId) (other : InterfaceId) (h : IsWalk types here mid) (l : id.index < length types) (owner : foreign (Some here) (owner_at types id.index) ≡ Some other) (inside : is_parts_covered types here mid.listed id.index ≡ true)
        (is : new.listed ≡ mid.listed ++ id ∷ []) where
      pub covered_listed : is_covered types here new.listed (Some (Id id)) ≡ true
      covered_listed = covered_other types here back new.listed id other l owner (subst (λ ids. is_one_of ids id.index ≡ true) (sym is) (one_of_last mid.listed id))

      pub walk_listed : (old : Walk) → is_entered old id ≡ false → AllByRecursion (λ x. is_entered old x ≡ true) old.listed → Lists types old.listed mid.listed (PartsPass types id.index) → new.entered ≡ with_first same_type mid.entered id tt → IsWalk types here new
      walk_listed old unmet known lists same =
          let P : List TypeId → TypeId × Unit {0} → Type 0 = λ ids e. is_covered types here ids (Some (Id e.0)) ≡ true in
          let all : List TypeId = mid.listed ++ id ∷ [] in
          record {
            ready = subst (λ ids. AreReady types here ids) (sym is) (ready_more types here [] mid.listed id h.ready (record { within = l; other = other; owner = owner; parts = inside }));
            once = subst (λ ids. IsDistinct same_type ids) (sym is) (listed_once types back old mid.listed id l unmet known lists h.once);
            known = subst (λ ids. AllByRecursion (λ x. is_entered new x ≡ true) ids) (sym is)
                (AllByRecursion-push (λ x. is_entered new x ≡ true) mid.listed id (entered_more mid new id mid.listed same h.known) (subst (λ (es : List (TypeId × Unit {0})). is_some (lookup (same_type id) es) ≡ true) (sym same) (now_there mid.entered id)));
            entered = subst (λ es. AllByRecursion (P new.listed) es) (sym same)
                (holds_of_added same_type (P new.listed) mid.entered id tt (subst (λ ids. AllByRecursion (P ids) mid.entered) (sym is) (AllByRecursion-weaker (λ e c. covered_more types here back mid.listed (id ∷ []) (Some (Id e.0)) c) mid.entered h.entered)) covered_listed);
          }

      pub lists_listed : (old : List TypeId) → Lists types old mid.listed (PartsPass types id.index) → Lists types old new.listed (Passes types (Some (Id id)))
      lists_listed old h =
          lists_on types old mid.listed new.listed (PartsPass types id.index) (Passes types (Some (Id id))) (Passes types (Some (Id id))) (λ test e. parts_pass types back test id l e) (λ test e. e) h
          (record { more = id ∷ []; grown = is; passing = λ test e. (e, tt) })

    -- a type that no other interface owns is covered where its parts are
    pub covered_kept : (walk : Walk) (id : TypeId) → id.index < length types → foreign (Some here) (owner_at types id.index) ≡ None → is_parts_covered types here walk.listed id.index ≡ true → is_covered types here walk.listed (Some (Id id)) ≡ true
    covered_kept walk id l owner inside = covered_own types here back walk.listed id l owner inside

    pub lists_kept : (old new : List TypeId) (id : TypeId) → id.index < length types → Lists types old new (PartsPass types id.index) → Lists types old new (Passes types (Some (Id id)))
    lists_kept old new id l h =
        lists_on types old new new (PartsPass types id.index) (Passes types (Some (Id id))) (Passes types (Some (Id id))) (λ test e. parts_pass types back test id l e) (λ test e. e) h (lists_none types new (Passes types (Some (Id id))))

-- ---- a loop over types by their numbers in a list

-- what names a type at each index before this one is covered, and what was listed passes where all do
pub record MetTo {X : Type 0} (types : List TypeDef) (here : InterfaceId) (type : X → Option Ty) (xs : List X) (d : X) (old new : List TypeId) (n : ℕ) : Type 0 where
  pub covered : (k : ℕ) → k < n → is_covered types here new (type (get_or xs k d)) ≡ true
  pub lists : Lists types old new (λ test. list_all (λ x. value (each_passes test) types (type x)) xs ≡ true)

module _ {X : Type 0} (types : List TypeDef) (here : InterfaceId) (type : X → Option Ty) (xs : List X) (d : X) (old : List TypeId) where
  pub met_none : MetTo types here type xs d old old 0
  met_none = record { covered = λ k l. absurd (omega (arith, l)); lists = lists_none types old (λ test. list_all (λ x. value (each_passes test) types (type x)) xs ≡ true) }

  pub met_more : RefersBack types → (mid new : List TypeId) (n : ℕ) (p : Option Ty) → n < length xs → p ≡ type (get_or xs n d) → MetTo types here type xs d old mid n → is_covered types here new p ≡ true → Lists types mid new (Passes types p) →
      MetTo types here type xs d old new (n + 1)
  met_more back mid new n p l is h covered lists = record {
    covered = λ k m. elim (cases_lt k n) [
      | inl less ↦ subst (λ ids. is_covered types here ids (type (get_or xs k d)) ≡ true) (sym lists.grown) (covered_more types here back mid lists.more (type (get_or xs k d)) (h.covered k less))
      | inr past ↦ let same : n ≡ k = omega (arith, m, past) in subst (λ j. is_covered types here new (type (get_or xs j d)) ≡ true) same (subst (λ q. is_covered types here new q ≡ true) is covered)
    ];
    lists = lists_on types old mid new (λ test. list_all (λ x. value (each_passes test) types (type x)) xs ≡ true) (Passes types p) (λ test. list_all (λ x. value (each_passes test) types (type x)) xs ≡ true) (λ test e. e)
        (λ test e. subst (λ q. Passes types q test) (sym is) (passes_at (λ x. value (each_passes test) types (type x)) xs n d l e)) h.lists lists;
  }

  pub met_all : (new : List TypeId) (n : ℕ) → length xs ≤ n → MetTo types here type xs d old new n → list_all (λ x. is_covered types here new (type x)) xs ≡ true
  met_all new n l h = all_at (λ x. is_covered types here new (type x)) xs d (λ k m. h.covered k (omega (arith, l, m)))

-- ---- a loop over entries

-- entries before these are covered, and what was listed passes where all do
pub record EntriesTo {X : Type 0} (types : List TypeDef) (Covered : List TypeId → X → Type 0) (PassesOne : X → (ℕ → TypeDefKind → Bool) → Type 0) (all rest : List X) (old new : List TypeId) : Type 0 where
  pub done : List X
  pub whole : all ≡ done ++ rest
  pub covered : AllByRecursion (Covered new) done
  pub lists : Lists types old new (λ test. AllByRecursion (λ x. PassesOne x test) all)

module _ {X : Type 0} (types : List TypeDef) (Covered : List TypeId → X → Type 0) (PassesOne : X → (ℕ → TypeDefKind → Bool) → Type 0) (all : List X) (old : List TypeId) where
  pub entries_none : EntriesTo types Covered PassesOne all all old old
  entries_none = record { done = []; whole = refl; covered = tt; lists = lists_none types old (λ test. AllByRecursion (λ x. PassesOne x test) all) }

  pub entries_more : ((ids more : List TypeId) (x : X) → Covered ids x → Covered (ids ++ more) x) → (mid new : List TypeId) (x : X) (rest : List X) → EntriesTo types Covered PassesOne all (x ∷ rest) old mid → Covered new x → Lists types mid new (PassesOne x) →
      EntriesTo types Covered PassesOne all rest old new
  entries_more later mid new x rest h covered lists = record {
    done = h.done ++ x ∷ [];
    whole = h.whole ∙ sym (append_assoc h.done (x ∷ []) rest);
    covered = AllByRecursion-push (Covered new) h.done x (subst (λ ids. AllByRecursion (Covered ids) h.done) (sym lists.grown) (AllByRecursion-weaker (later mid lists.more) h.done h.covered)) covered;
    lists = lists_on types old mid new (λ test. AllByRecursion (λ x. PassesOne x test) all) (PassesOne x) (λ test. AllByRecursion (λ x. PassesOne x test) all) (λ test e. e)
        (λ test e. (AllByRecursion-back (λ x. PassesOne x test) h.done (x ∷ rest) (subst (λ xs. AllByRecursion (λ x. PassesOne x test) xs) h.whole e)).0) h.lists lists;
  }

  pub entries_all : (new : List TypeId) → EntriesTo types Covered PassesOne all [] old new → AllByRecursion (Covered new) all
  entries_all new h = subst (λ xs. AllByRecursion (Covered new) xs) (sym (h.whole ∙ append-nil h.done)) h.covered

-- ---- the whole

-- all that is listed, after types and then functions
pub all_foreign : (types : List TypeDef) (here : InterfaceId) → RefersBack types → (named : List (List ℕ × TypeId)) (entries : List (List ℕ × Function)) (first mid : List TypeId) (last : Walk) → first ≡ [] →
    AllByRecursion (λ t. is_covered types here mid (Some (Id t.1)) ≡ true) named → Lists types first mid (ListedPass types named) → IsWalk types here last → AllByRecursion (λ e. is_function_covered types here last.listed e.1 ≡ true) entries →
    Lists types mid last.listed (EntriesPass types entries) → AreForeignTypes types here named entries last.listed
all_foreign types here back named entries first mid last none covered listed walk functions more =
    let Both : (ℕ → TypeDefKind → Bool) → Type 0 = λ test. ListedPass types named test × EntriesPass types entries test in
    let all : Lists types first last.listed Both = lists_on types first mid last.listed (ListedPass types named) (EntriesPass types entries) Both (λ test h. h.0) (λ test h. h.1) listed more in
    let is : last.listed ≡ all.more = all.grown ∙ ap (λ ids. ids ++ all.more) none in
    record {
      ready = walk.ready;
      once = walk.once;
      types_covered = subst (λ ids. AllByRecursion (λ t. is_covered types here ids (Some (Id t.1)) ≡ true) named) (sym more.grown) (AllByRecursion-weaker (λ t h. covered_more types here back mid more.more (Some (Id t.1)) h) named covered);
      functions_covered = functions;
      reached = subst (λ ids. AllByRecursion (IsReached types named entries) ids) (sym is) (each_of (λ x. IsReached types named entries x) all.more (λ n d l. record { each = λ test h k. all_of test all.more n d (all.passing test (h, k)) l }));
    }
  where
    all_of : (test : ℕ → TypeDefKind → Bool) (ids : List TypeId) (n : ℕ) (d : TypeId) → AllPass test types ids → n < length ids → type_passes test types (get_or ids n d)
    all_of test [] n d h l = absurd (omega (arith, l))
    all_of test (id ∷ ids) zero d h l = h.0
    all_of test (id ∷ ids) (suc n) d h l = all_of test ids n d h.1 (omega (arith, l))

    each_of : (P : TypeId → Type 0) (ids : List TypeId) → ((n : ℕ) (d : TypeId) → n < length ids → P (get_or ids n d)) → AllByRecursion P ids
    each_of P [] h = tt
    each_of P (id ∷ ids) h = (h 0 id (omega arith), each_of P ids (λ n d l. h (suc n) d (omega (arith, l))))
