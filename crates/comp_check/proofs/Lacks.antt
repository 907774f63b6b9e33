-- The first missing item of lists of references.
use Rattle.std.proofs.Common.{◌≡◌, ℕ, ◌+◌, ◌<◌, List, [], ◌∷◌, ◌++◌, length, get_or, drop, Option, Some, None, refl, sym, ap, ◌∙◌}
use Rattle.std.specs.Prelude.{slice_get}
use Rattle.std.specs.List.{flat_map}
use Rattle.std.proofs.lemmas.List.{at_drop_more}
use Rattle.comp_bytes.specs.References.{Reference}
use Rattle.comp_check.specs.declared.scope.Counts.{Counts}
use Rattle.comp_check.specs.declared.scope.Lack.{Lack}
use Rattle.comp_check.specs.Lacking.{lack_in, or_else, lacking}

or_none : (a b : Option Lack) → or_else a b ≡ None → (a ≡ None) × (b ≡ None)
or_none None b e = (refl, e)
or_none (Some x) b e = absurd cc

-- the first missing item of two lists is that of the first list, or else that of the second
pub lacking_append : (scopes : List Counts) (rs more : List Reference) → lacking scopes rs ≡ None → lacking scopes (rs ++ more) ≡ lacking scopes more
unfolding lacking
lacking_append scopes [] more e = refl
lacking_append scopes (r ∷ rs) more e =
    let p = or_none (lack_in (slice_get scopes r.outward) r) (lacking scopes rs) e in
    rw p.0 (lacking_append scopes rs more p.1)

found_first : (a b c : Option Lack) (x : Lack) → or_else a b ≡ Some x → (b ≡ Some x → c ≡ Some x) → or_else a c ≡ Some x
found_first None b c x e f = f e
found_first (Some y) b c x e f = e

pub lacking_found : (scopes : List Counts) (rs more : List Reference) (lack : Lack) → lacking scopes rs ≡ Some lack → lacking scopes (rs ++ more) ≡ Some lack
unfolding lacking
lacking_found scopes [] more lack e = absurd cc
lacking_found scopes (r ∷ rs) more lack e =
    found_first (lack_in (slice_get scopes r.outward) r) (lacking scopes rs) (lacking scopes (rs ++ more)) lack e (λ f. lacking_found scopes rs more lack f)

-- ---- a loop over values with references

pub continues : {X : Type 0} (scopes : List Counts) (f : X → List Reference) (xs : List X) (i : ℕ) (x d : X) → i < length xs → x ≡ get_or xs i d → lacking scopes (f x) ≡ None →
    lacking scopes (flat_map f (drop i xs)) ≡ lacking scopes (flat_map f (drop (i + 1) xs))
continues {X} scopes f xs i x d lt is none =
    at_drop_more (λ (w : List X). lacking scopes (flat_map f w)) xs i d lt ∙ ap (λ (y : X). lacking scopes (f y ++ flat_map f (drop (i + 1) xs))) (sym is) ∙ lacking_append scopes (f x) (flat_map f (drop (i + 1) xs)) none

pub ends : {X : Type 0} (scopes : List Counts) (f : X → List Reference) (xs : List X) (i : ℕ) (x d : X) (lack : Lack) → i < length xs → x ≡ get_or xs i d → lacking scopes (f x) ≡ Some lack →
    lacking scopes (flat_map f (drop i xs)) ≡ Some lack
ends {X} scopes f xs i x d lack lt is found =
    at_drop_more (λ (w : List X). lacking scopes (flat_map f w)) xs i d lt ∙ ap (λ (y : X). lacking scopes (f y ++ flat_map f (drop (i + 1) xs))) (sym is) ∙ lacking_found scopes (f x) (flat_map f (drop (i + 1) xs)) lack found

-- ---- a reference, and more after it

pub lacking_cons : (scopes : List Counts) (r : Reference) (more : List Reference) → lacking scopes (r ∷ []) ≡ None → lacking scopes (r ∷ more) ≡ lacking scopes more
lacking_cons scopes r more e = lacking_append scopes (r ∷ []) more e

pub lacking_head : (scopes : List Counts) (r : Reference) (more : List Reference) (lack : Lack) → lacking scopes (r ∷ []) ≡ Some lack → lacking scopes (r ∷ more) ≡ Some lack
lacking_head scopes r more lack e = lacking_found scopes (r ∷ []) more lack e

pub ruleset chained = (lacking_append, lacking_found, lacking_cons, lacking_head)
