use Rattle.std.proofs.Common.{◌≡◌, ◌∷◌, ◌++◌, [], map, sym}
use Rattle.std.proofs.lemmas.List.{map_push}
use Rattle.core_sections.proofs.Repeated.{continues}
use Rattle.core_parts.specs.Names.{name_view}
use Rattle.core_parts.proofs.Repeating.{stops}
use Rattle.core_parts.proofs.names.read_names.Goals as goal

pub loop-preserved : goal.loop-preserved
loop-preserved c =
    let e : map name_view c.push.new.self.items ≡ map name_view c.loop.names.items ++ name_view c.in-Some.name ∷ [] = rw c.in_ok-push.ensures.items (map_push _ c.loop.names.items c.in-Some.name) in
    rw e (continues _ _ _ _ _ _ _ _ c.loop-test.true (sym c.in-Some.ensures) c.loop.invariant)

pub returns-in_default : goal.returns-in_default
returns-in_default c = stops _ _ _ _ _ _ c.loop-test.true (sym c.in_default.ensures) c.loop.invariant
