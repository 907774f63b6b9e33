use Rattle.std.proofs.Common.{◌≡◌, ◌∷◌, ◌++◌, [], map, sym}
use Rattle.std.proofs.lemmas.List.{map_push}
use Rattle.core_sections.proofs.Repeated.{continues}
use Rattle.core_parts.proofs.Repeating.{stops}
use Rattle.core_parts.proofs.bodies.read_bodies.Goals as goal

pub loop-preserved : goal.loop-preserved
loop-preserved c =
    let e : map (λ b. b.now) c.push.new.self.items ≡ map (λ b. b.now) c.loop.bodies.items ++ c.in-Some.body.now ∷ [] = rw c.in_ok-push.ensures.items (map_push _ c.loop.bodies.items c.in-Some.body) in
    rw e (continues _ _ _ _ _ _ _ _ c.loop-test.true (sym c.in-Some.ensures.value) c.loop.invariant)

pub returns-in_default : goal.returns-in_default
returns-in_default c = stops _ _ _ _ _ _ c.loop-test.true (sym c.in_default.ensures.value) c.loop.invariant
