use Rattle.world_tables.proofs.Walking.{walk_start, owners_reached}
use Rattle.world_tables.proofs.meeting.owners_among.Goals as goal

pub meet_given-requires-clause-right : goal.meet_given-requires-clause-right
meet_given-requires-clause-right c = walk_start c.args.types.now c.new-walk.result c.new-walk.ensures.entered c.new-walk.ensures.owners

pub returns : goal.returns
returns c =
    let of = c.in_ok-meet_given.ensures in
    owners_reached c.args.types.now c.args.given.now c.new-walk.result c.meet_given.new.walk c.into_owners.result c.new-walk.ensures.entered of.right of.enters c.into_owners.ensures
