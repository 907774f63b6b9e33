-- The sets that are reached from no options: none, memory, memory with an encoding.
use Rattle.std.proofs.Common.{◌≡◌, refl, ℕ, List, [], ◌∷◌, Bool, true, false, ◌||◌}
use Rattle.comp_options.specs.Options.{needs, with_if, pass_all}
use Rattle.comp_options.specs.Laws.{LoweringAddsRealloc}
use Rattle.comp_options.specs.declared.required.Direction.TheVariants.{Lift, Lower}

data Reached : Type 0 where
  none : Reached
  memory : Reached
  text : Reached

abbrev lift_bits : Reached → ℕ
lift_bits none = 0
lift_bits memory = 1
lift_bits text = 5

abbrev lower_bits : Reached → ℕ
lower_bits none = 0
lower_bits memory = 3
lower_bits text = 7

-- the next set, by whether there is a text, and whether memory is needed
abbrev next : Bool → Bool → Reached → Reached
next true m r = text
next false true none = memory
next false true memory = memory
next false true text = text
next false false r = r

lift_next : (t m : Bool) (r : Reached) → with_if t 4 (with_if t 1 (with_if m 1 (lift_bits r))) ≡ lift_bits (next t m r)
lift_next true true none = refl
lift_next true true memory = refl
lift_next true true text = refl
lift_next true false none = refl
lift_next true false memory = refl
lift_next true false text = refl
lift_next false true none = refl
lift_next false true memory = refl
lift_next false true text = refl
lift_next false false r = refl

lower_next : (t m : Bool) (r : Reached) → with_if (m || t) 2 (with_if t 4 (with_if t 1 (with_if m 1 (lower_bits r)))) ≡ lower_bits (next t m r)
lower_next true true none = refl
lower_next true true memory = refl
lower_next true true text = refl
lower_next true false none = refl
lower_next true false memory = refl
lower_next true false text = refl
lower_next false true none = refl
lower_next false true memory = refl
lower_next false true text = refl
lower_next false false r = refl

both : (r : Reached) → lower_bits r ≡ with_if (needs (lift_bits r) 1) 2 (lift_bits r)
both none = refl
both memory = refl
both text = refl

run : (cs : List ℕ) (r : Reached) → pass_all Lower cs (lower_bits r) ≡ with_if (needs (pass_all Lift cs (lift_bits r)) 1) 2 (pass_all Lift cs (lift_bits r))
run [] r = both r
run (c ∷ cs) r = rw (lift_next (needs c 1) (needs c 2) r, lower_next (needs c 1) (needs c 2) r) (run cs (next (needs c 1) (needs c 2) r))

pub lowering_adds_realloc_lem : LoweringAddsRealloc
lowering_adds_realloc_lem cs = run cs none
