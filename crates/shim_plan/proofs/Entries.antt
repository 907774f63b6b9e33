-- Tables of shims by kind.
use Rattle.std.proofs.Common.{◌≡◌, ℕ, zero, suc, ◌+◌, Bool, true, false, List, [], ◌∷◌, ◌++◌, length, is_some, take, if◌then◌else◌, refl, sym, ap, subst, ◌∙◌, arith}
use Rattle.std.specs.List.{IsDistinct, take-map}
use Rattle.std.specs.Map.{lookup, keys_of, values_of}
use Rattle.std.specs.Fmt.{decimal}
use Rattle.std.proofs.lemmas.List.{map-append}
use Rattle.comp_lists.specs.Tables.{with_first}
use Rattle.shim_plan.specs.declared.kinds.ShimKind.{ShimKind}
use Rattle.shim_plan.specs.declared.shims.Shim.{Shim}
use Rattle.shim_plan.specs.Plans.{same_kind, kinds_of, by_kind, shim_of, AreNumbered, with_shim}
use Rattle.shim_plan.specs.Tables.{IsPlan}

abbrev pub Table : Type 0
Table = List (ShimKind × Shim)

pub empty_plan : (es : Table) → es ≡ [] → IsPlan es
empty_plan es e = subst IsPlan (sym e) (record { by_kind = refl; numbered = tt })

pub as_list : (es : Table) → IsPlan es → (kind : ShimKind) → lookup (same_kind kind) es ≡ shim_of kind (values_of es)
as_list es plan kind = ap (lookup (same_kind kind)) plan.by_kind

keys_by_kind : (shims : List Shim) → keys_of (by_kind shims) ≡ kinds_of shims
keys_by_kind [] = refl
keys_by_kind (s ∷ ss) = ap (λ ks. s.kind ∷ ks) (keys_by_kind ss)

pub apart : (es : Table) → IsPlan es → IsDistinct same_kind (keys_of es) → IsDistinct same_kind (kinds_of (values_of es))
apart es plan d = subst (IsDistinct same_kind) (ap keys_of plan.by_kind ∙ keys_by_kind (values_of es)) d

pub apart_as_list : (es : Table) (shims : List Shim) → values_of es ≡ shims → IsPlan es → IsDistinct same_kind (keys_of es) → IsDistinct same_kind (kinds_of shims)
apart_as_list es shims v plan d = subst (λ s. IsDistinct same_kind (kinds_of s)) v (apart es plan d)

-- ---- a shim more

numbered_more : (place : ℕ) (shims : List Shim) (s : Shim) → AreNumbered place shims → s.name ≡ decimal (place + length shims) → AreNumbered place (shims ++ s ∷ [])
numbered_more place [] s n e = (e ∙ ap decimal (omega arith), tt)
numbered_more place (x ∷ xs) s n e = (n.0, numbered_more (suc place) xs s n.1 (e ∙ ap decimal (omega arith)))

-- what adding a shim under its kind gives
pub record Added (es : Table) (shims : List Shim) (s : Shim) (new : Table) : Type 0 where
  pub plan : IsPlan new
  pub values : values_of new ≡ with_shim shims s

added : (es : Table) (s : Shim) → IsPlan es → s.name ≡ decimal (length (values_of es)) → IsPlan (es ++ (s.kind, s) ∷ [])
added es s plan e = record {
  by_kind = ap (λ x. x ++ (s.kind, s) ∷ []) plan.by_kind ∙ sym (map-append (λ (x : Shim). (x.kind, x)) (values_of es) (s ∷ [])) ∙ ap by_kind (sym (map-append (λ (x : ShimKind × Shim). x.1) es ((s.kind, s) ∷ [])));
  numbered = subst (AreNumbered 0) (sym (map-append (λ (x : ShimKind × Shim). x.1) es ((s.kind, s) ∷ []))) (numbered_more 0 (values_of es) s plan.numbered (e ∙ ap decimal (omega arith)));
}

pub after_insert : (es : Table) (s : Shim) (new : Table) → IsPlan es → s.name ≡ decimal (length (values_of es)) → new ≡ with_first same_kind es s.kind s → Added es (values_of es) s new
after_insert es s new plan e is = let p = by (is_some (lookup (same_kind s.kind) es)) (is_some (shim_of s.kind (values_of es))) (ap is_some (as_list es plan s.kind)) is in record { plan = p.0; values = p.1 }
  where
    by : (b c : Bool) → b ≡ c → new ≡ (if b then es else es ++ (s.kind, s) ∷ []) → IsPlan new × (values_of new ≡ (if c then values_of es else values_of es ++ s ∷ []))
    by true true f n = (subst IsPlan (sym n) plan, ap values_of n)
    by false false f n = (subst IsPlan (sym n) (added es s plan e), ap values_of n ∙ map-append (λ (x : ShimKind × Shim). x.1) es ((s.kind, s) ∷ []))
    by true false f n = cc
    by false true f n = cc

-- ---- the first ones alone

numbered_first : (n place : ℕ) (shims : List Shim) → AreNumbered place shims → AreNumbered place (take n shims)
numbered_first zero place shims h = tt
numbered_first (suc n) place [] h = tt
numbered_first (suc n) place (s ∷ ss) h = (h.0, numbered_first n (suc place) ss h.1)

pub values_first : (n : ℕ) (es : Table) → values_of (take n es) ≡ take n (values_of es)
values_first n es = sym (take-map (λ e. e.1) n es)

pub first_plan : (n : ℕ) (es : Table) → IsPlan es → IsPlan (take n es)
first_plan n es plan = record {
  by_kind = ap (take n) plan.by_kind ∙ take-map (λ (x : Shim). (x.kind, x)) n (values_of es) ∙ ap by_kind (sym (values_first n es));
  numbered = subst (AreNumbered 0) (sym (values_first n es)) (numbered_first n 0 (values_of es) plan.numbered);
}

pub kept_plan : (n : ℕ) (es new : Table) → IsPlan es → new ≡ take n es → IsPlan new
kept_plan n es new plan e = subst IsPlan (sym e) (first_plan n es plan)

pub kept_values : (n : ℕ) (es new : Table) (shims : List Shim) → values_of es ≡ shims → new ≡ take n es → values_of new ≡ take n shims
kept_values n es new shims v e = ap values_of e ∙ values_first n es ∙ ap (take n) v

pub same_plan : (es new : Table) → IsPlan es → new ≡ es → IsPlan new
same_plan es new plan e = subst IsPlan (sym e) plan
