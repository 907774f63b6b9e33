use Rattle.world_names.specs.Labels.{canonical_label}
use Rattle.world_names.proofs.labels.canonical_label.Goals as goal

pub returns : goal.returns
unfolding canonical_label
returns c = search (c.any_of_three.ensures, c.interface_named.ensures, c.whole_id.ensures, c.of_canonical.ensures)
