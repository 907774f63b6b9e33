-- The validated world of what an encoder holds. The rules are this project's own: the component
-- model's standard defines components, and not how they are made.
use Rattle.std.specs.Prelude.{◌≡◌}
use Rattle.comp_worlds.specs.Encodable.{IsEncodable}
use Rattle.comp_worlds.specs.Gathering.{HasModules}
use Rattle.comp_worlds.specs.declared.lower.Lower as lower
use Rattle.comp_worlds.specs.declared.world.ComponentWorld.{ComponentWorld}
use Rattle.comp_encoder.specs.Encoder.{Encoder}

-- the validated world of what was gathered
pub record IsWorldOf {L B F : Type 0} (l : lower.Ghosts L B F) (e : Encoder L B) (w : ComponentWorld) : Type 0 where
  pub prepared : w ≡ l.prepared e.lower e.gathered
  pub valid : IsEncodable w
  pub modules : HasModules e.gathered w
