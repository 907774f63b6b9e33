-- A type that was not entered was not listed, so that it is listed once.
use Rattle.std.proofs.Common.{◌≡◌, ◌∙◌, ◌<◌, ◌&&◌, ◌||◌, arith, ℕ, zero, suc, Bool, true, false, true≢false, cond, nat_lt, List, [], ◌∷◌, ◌++◌, length, map, refl, ap, sym, subst, Option, Some, None, is_some, if◌then◌else◌}
use Rattle.std.specs.List.{AllByRecursion, IsDistinct, list_all, list_any}
use Rattle.std.specs.Map.{lookup}
use Rattle.std.proofs.lemmas.Bool.{and_from}
use Rattle.std.proofs.lemmas.Bool.Decides.{Decides-ltb}
use Rattle.std.proofs.lemmas.List.Folds.{list_all-map}
use Rattle.std.proofs.lemmas.Map.Keys.{IsDistinct-push}
use Rattle.comp_lists.specs.Tables.{with_first}
use Rattle.comp_lists.proofs.Lists.{AllByRecursion-weaker}
use Rattle.wit_data.specs.declared.ids.TypeId.{TypeId}
use Rattle.wit_data.specs.contracts.ids.TypeIdEq.TheImpl.Laws.{laws-law as id_laws}
use Rattle.wit_data.specs.declared.types.Type.{«Type» as Ty}
use Rattle.wit_data.specs.declared.types.Type.TheVariants.{Primitive, Id}
use Rattle.wit_data.specs.declared.types.TypeDef.{TypeDef}
use Rattle.wit_data.specs.declared.types.TypeDefKind.{TypeDefKind}
use Rattle.wit_data.specs.Parts.{parts, IsBelow, RefersBack}
use Rattle.wit_data.specs.Values.{Making, kind_at, value}
use Rattle.wit_data.proofs.Values.{made_whole, parts_below}
use Rattle.wit_types.proofs.SameKeys.{one_id}
use Rattle.type_scopes.specs.Needs.{each_passes}
use Rattle.foreign_types.specs.Foreign.{same_type}
use Rattle.foreign_types.specs.declared.walk.Walk.{Walk}
use Rattle.foreign_types.specs.Walking.{is_entered, Lists, PartsPass}

-- ---- what a type is made of has lesser numbers

-- whether a type has a lesser number than this one
abbrev is_before : ℕ → ℕ → TypeDefKind → Bool
is_before bound n kind = nat_lt n bound

module _ (types : List TypeDef) (back : RefersBack types) (bound : ℕ) where
  abbrev IsBefore : Option Ty → Type 0
  IsBefore p = value (each_passes (is_before bound)) types p ≡ true

  these_before : (k : ℕ) → ((j : TypeId) → j.index < k → IsBefore (Some (Id j))) → (ps : List (Option Ty)) → AllByRecursion (IsBelow k) ps → list_all (λ p. value (each_passes (is_before bound)) types p) ps ≡ true
  these_before k go [] l = refl
  these_before k go (None ∷ ps) l = these_before k go ps l.1
  these_before k go (Some (Primitive p) ∷ ps) l = these_before k go ps l.1
  these_before k go (Some (Id j) ∷ ps) l = and_from (value (each_passes (is_before bound)) types (Some (Id j))) (list_all (λ p. value (each_passes (is_before bound)) types p) ps) (go j l.0) (these_before k go ps l.1)

  parts_before : (n : ℕ) → n < length types → ((j : TypeId) → j.index < n → IsBefore (Some (Id j))) → PartsPass types n (is_before bound)
  parts_before n l go = these_before n go (parts (kind_at types n)) (parts_below types n back l)

  type_before : (id : TypeId) → id.index < length types → id.index < bound → PartsPass types id.index (is_before bound) → IsBefore (Some (Id id))
  type_before id l less inside =
      let m : Making Bool = each_passes (is_before bound) in
      let ps = parts (kind_at types id.index) in
      made_whole m types id.index back l ∙
      and_from (nat_lt id.index bound) (list_all (λ b. b) (map (value m types) ps)) ((Decides-ltb id.index bound).1 less) (list_all-map (λ b. b) (value m types) ps ∙ inside)

  each_before : (fuel : ℕ) (id : TypeId) → id.index < fuel → id.index < length types → id.index < bound → IsBefore (Some (Id id))
  each_before zero id f l less = absurd (omega (arith, f))
  each_before (suc fuel) id f l less = type_before id l less (parts_before id.index l (λ j i. each_before fuel j (omega (arith, f, i)) (omega (arith, l, i)) (omega (arith, less, i))))

  -- and so it has itself
  index_before : (id : TypeId) → id.index < length types → IsBefore (Some (Id id)) → id.index < bound
  index_before id l e =
      let m : Making Bool = each_passes (is_before bound) in
      let ps = parts (kind_at types id.index) in
      (Decides-ltb id.index bound).0 (first (nat_lt id.index bound) (list_all (λ b. b) (map (value m types) ps)) (sym (made_whole m types id.index back l) ∙ e))
    where
      first : (a b : Bool) → (a && b) ≡ true → a ≡ true
      first true b e = refl
      first false b e = e

-- ---- tables

-- what is found is still found when an entry is added
pub still_there : {K X : Type 0} (eq : K → K → Bool) (es : List (K × X)) (k j : K) (x : X) → is_some (lookup (eq j) es) ≡ true → is_some (lookup (eq j) (with_first eq es k x)) ≡ true
still_there eq es k j x h = by (is_some (lookup (eq k) es))
  where
    at_end : (ds : List (_ × _)) → is_some (lookup (eq j) ds) ≡ true → is_some (lookup (eq j) (ds ++ (k, x) ∷ [])) ≡ true
    at_end [] e = absurd (true≢false (sym e))
    at_end (d ∷ ds) e = later (eq j d.0) e (at_end ds)
      where
        later : (b : Bool) → is_some (cond b (Some d.1) (lookup (eq j) ds)) ≡ true → (is_some (lookup (eq j) ds) ≡ true → is_some (lookup (eq j) (ds ++ (k, x) ∷ [])) ≡ true) → is_some (cond b (Some d.1) (lookup (eq j) (ds ++ (k, x) ∷ []))) ≡ true
        later true e g = refl
        later false e g = g e

    by : (b : Bool) → is_some (lookup (eq j) (if b then es else es ++ (k, x) ∷ [])) ≡ true
    by true = h
    by false = at_end es h

-- and the entry itself is
pub now_there : (es : List (TypeId × Unit {0})) (id : TypeId) → is_some (lookup (same_type id) (with_first same_type es id tt)) ≡ true
now_there es id = by (is_some (lookup (same_type id) es)) refl
  where
    at_end : (ds : List (TypeId × Unit {0})) → is_some (lookup (same_type id) (ds ++ (id, tt) ∷ [])) ≡ true
    at_end [] = ap (λ b. is_some (cond b (Some tt) None)) (id_laws.refl id)
    at_end (d ∷ ds) = later (same_type id d.0) (at_end ds)
      where
        later : (b : Bool) → is_some (lookup (same_type id) (ds ++ (id, tt) ∷ [])) ≡ true → is_some (cond b (Some d.1) (lookup (same_type id) (ds ++ (id, tt) ∷ []))) ≡ true
        later true g = refl
        later false g = g

    by : (b : Bool) → is_some (lookup (same_type id) es) ≡ b → is_some (lookup (same_type id) (if b then es else es ++ (id, tt) ∷ [])) ≡ true
    by true e = e
    by false e = at_end es

-- ---- what is listed

-- none of these types is this one
abbrev AreOthers : TypeId → List TypeId → Type 0
AreOthers id ids = AllByRecursion (λ x. id ≡ x → ⊥) ids

none_same : (id : TypeId) (ids : List TypeId) → AreOthers id ids → list_any (same_type id) ids ≡ false
none_same id [] h = refl
none_same id (x ∷ xs) h = by (same_type id x) refl (none_same id xs h.1)
  where
    by : (b : Bool) → same_type id x ≡ b → list_any (same_type id) xs ≡ false → (b || list_any (same_type id) xs) ≡ false
    by true e rest = absurd (h.0 (one_id id x e))
    by false e rest = rest

others : (id : TypeId) (ids more : List TypeId) → AreOthers id ids → AreOthers id more → AreOthers id (ids ++ more)
others id [] more h k = k
others id (x ∷ xs) more h k = (h.0, others id xs more h.1 k)

-- a type that was not entered before its parts were met is listed once behind them
pub listed_once : (types : List TypeDef) → RefersBack types → (old : Walk) (mid : List TypeId) (id : TypeId) → id.index < length types → is_entered old id ≡ false → AllByRecursion (λ x. is_entered old x ≡ true) old.listed →
    Lists types old.listed mid (PartsPass types id.index) → IsDistinct same_type mid → IsDistinct same_type (mid ++ id ∷ [])
listed_once types back old mid id l unmet known lists once = IsDistinct-push id_laws mid id once (none_same id mid (subst (AreOthers id) (sym lists.grown) (others id old.listed lists.more before after)))
  where
    before : AreOthers id old.listed
    before = AllByRecursion-weaker (λ x k same. true≢false (sym k ∙ (ap (is_entered old) (sym same) ∙ unmet))) old.listed known

    inside : PartsPass types id.index (is_before id.index)
    inside = parts_before types back id.index id.index l (λ j i. each_before types back id.index (suc j.index) j (omega arith) (omega (arith, l, i)) i)

    after : AreOthers id lists.more
    after = AllByRecursion-weaker (λ x k same. let n : id.index ≡ x.index = ap (λ (t : TypeId). t.index) same in absurd (omega (arith, n, index_before types back id.index x (omega (arith, n, l)) k))) lists.more (lists.passing (is_before id.index) inside)
