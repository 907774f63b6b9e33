use Rattle.record_versions.specs.Taking.{waits}
use Rattle.std.specs.HashMap.{get}
use Rattle.record_values.specs.Names.{is_same_interface}
use Rattle.record_versions.proofs.Keeping.{parks}
use Rattle.record_versions.proofs.taking.park.Goals as goal

pub returns : goal.returns
returns c = λ m q.
    parks (waits c.args.parked.now) (get is_same_interface c.unpark-positions.new.parked m) (get is_same_interface c.insert.new.self m) c.args.name.now c.in_ok-name_copy.name_copy m q
    c.args.position c.unpark-positions.result c.push.new.self (c.unpark-positions.ensures.waits m q) (c.in_ok-insert.ensures.updates.0 m) c.in_ok-name_copy.ensures c.in_ok-push.ensures.ok
    (c.unpark-positions.ensures.positions q)
