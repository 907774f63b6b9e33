-- A shim that is found by its kind has its place and its name.
use Rattle.std.proofs.Common.{◌≡◌, ◌∙◌, ℕ, suc, ◌+◌, Bool, true, false, List, [], ◌∷◌, cond, Some, refl, ap, sym, subst, arith}
use Rattle.std.specs.Fmt.{decimal}
use Rattle.std.specs.List.{slice_get}
use Rattle.std.proofs.lemmas.Option.{none-some, same_Some}
use Rattle.comp_worlds.specs.Encodable.{IsEncodable}
use Rattle.comp_worlds.specs.declared.world.ComponentWorld.{ComponentWorld}
use Rattle.shim_plan.proofs.EqualKinds.{are_one}
use Rattle.shim_plan.specs.Plans.{same_kind, shim_of, AreNumbered}
use Rattle.shim_plan.specs.declared.kinds.ShimKind.{ShimKind}
use Rattle.shim_plan.specs.declared.shims.Shim.{Shim}
use Rattle.world_shims.proofs.Numbered.{shims_numbered}
use Rattle.world_shims.specs.WorldShims.{shims_of}

-- a shim of this kind among those that are numbered from a place on
record IsPlaced (kind : ShimKind) (start : ℕ) (shims : List Shim) (s : Shim) : Type 0 where
  place : ℕ
  there : slice_get shims place ≡ Some s
  same : s.kind ≡ kind
  named : s.name ≡ decimal (start + place)

placed : (kind : ShimKind) (start : ℕ) (shims : List Shim) (s : Shim) → AreNumbered start shims → shim_of kind shims ≡ Some s → IsPlaced kind start shims s
placed kind start [] s h e = absurd (none-some s e)
placed kind start (x ∷ xs) s h e = by (same_kind kind x.kind) refl e (placed kind (suc start) xs s h.1)
  where
    by : (b : Bool) → same_kind kind x.kind ≡ b → cond b (Some x) (shim_of kind xs) ≡ Some s → (shim_of kind xs ≡ Some s → IsPlaced kind (suc start) xs s) → IsPlaced kind start (x ∷ xs) s
    by true is e rest =
        let at_start : x.name ≡ decimal (start + 0) = h.0 ∙ ap decimal (omega arith) in
        subst (IsPlaced kind start (x ∷ xs)) (same_Some x s e) (record { place = 0; there = refl; same = sym ((are_one kind x.kind).0 is); named = at_start })
    by false is e rest =
        let r = rest e in
        record { place = suc r.place; there = r.there; same = r.same; named = r.named ∙ ap decimal (omega arith) }

pub found_shim : (w : ComponentWorld) → IsEncodable w → (kind : ShimKind) (s : Shim) → shim_of kind (shims_of w) ≡ Some s → (place : ℕ) × (slice_get (shims_of w) place ≡ Some s) × (s.kind ≡ kind) × (s.name ≡ decimal place)
found_shim w ok kind s e =
    let r = placed kind 0 (shims_of w) s (shims_numbered w) e in
    (r.place, r.there, r.same, r.named ∙ ap decimal (omega arith))
