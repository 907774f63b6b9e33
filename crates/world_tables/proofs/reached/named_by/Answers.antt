use Rattle.std.proofs.Common.{rules, ◌==◌, ◌&&◌, not}
use Rattle.world_values.specs.Mentions.{names_interface}
use Rattle.world_tables.proofs.Placing.{named_at}
use Rattle.world_tables.proofs.reached.named_by.Goals as goal

pub returns : goal.returns
returns c =
    let r = c.args.resolve.now in
    let id = c.args.id in
    let all = c.args.all.now in
    c.in_ok-named.ensures (λ other. names_interface r id other && not (other.index == id.index))
    (named_at r id c.in_ok-given.given.items c.in_ok-owners.owners all c.args.places.now c.in_ok-found.found c.in_ok-given.ensures.named (search rules) c.requires.placed c.in_ok-found.ensures)
