use Rattle.std.proofs.Common.{◌≡◌, ◌∷◌, ◌++◌, [], map, sym}
use Rattle.std.proofs.lemmas.List.{map_push}
use Rattle.core_sections.proofs.Repeated.{continues}
use Rattle.core_parts.specs.Imports.{parts_view}
use Rattle.core_parts.proofs.Repeating.{stops}
use Rattle.core_parts.proofs.imports.read_all.Goals as goal

pub loop-preserved : goal.loop-preserved
loop-preserved c =
    let e : map parts_view c.push.new.self.items ≡ map parts_view c.loop.imports.items ++ parts_view c.in-Some.import ∷ [] = rw c.in_ok-push.ensures.items (map_push _ c.loop.imports.items c.in-Some.import) in
    rw e (continues _ _ _ _ _ _ _ _ c.loop-test.true (sym c.in-Some.ensures) c.loop.invariant)

pub returns-in_default : goal.returns-in_default
returns-in_default c = stops _ _ _ _ _ _ c.loop-test.true (sym c.in_default.ensures) c.loop.invariant
