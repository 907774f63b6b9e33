use Rattle.std.proofs.Common.{nat_eq}
use Rattle.std.specs.HashMap.{get}
use Rattle.world_tables.specs.Placing.{is_place}
use Rattle.world_tables.proofs.Placing.{place_added}
use Rattle.world_tables.proofs.places.add_place.Goals as goal

pub returns : goal.returns
returns c = λ n q.
    place_added (is_place c.args.places.now) (get nat_eq c.take_places-list.new.places n) (get nat_eq c.insert.new.self n) c.args.id.index n q c.args.place c.take_places-list.result c.push.new.self
    (c.take_places-list.ensures.others n q) (c.in_ok-insert.ensures.updates.0 n) c.in_ok-push.ensures.ok (c.take_places-list.ensures.list q)
