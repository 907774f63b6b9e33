use Rattle.tests_of_encoder.proofs.Stubs.{parts_sound}
use Rattle.tests_of_encoder.proofs.worlds.world_of.Goals as goal

pub world_of_parts-requires-clause-sound : goal.world_of_parts-requires-clause-sound
world_of_parts-requires-clause-sound c = parts_sound c.in_ok-parts.parts c.args.bytes.now c.in_ok-parts.ensures
