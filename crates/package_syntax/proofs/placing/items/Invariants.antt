use Rattle.std.proofs.Common.{◌≡◌, ◌-◌}
use Rattle.package_syntax.specs.Placing.{items_at}
use Rattle.package_syntax.proofs.Loop.{with_front}
use Rattle.package_syntax.proofs.placing.items.Given as goal

abbrev pub invariant-loop : goal.invariant-loop
invariant-loop g l = with_front l.items (items_at g.T.Place.at (l.count - l.counter) l.rest) ≡ items_at g.T.Place.at l.count l.bytes
