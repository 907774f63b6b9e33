-- What has to be exported once. (This project's own.)
use Rattle.std.specs.Prelude.{◌≡◌, true}
use Rattle.std.specs.List.{AllByRecursion}
use Rattle.wit_data.specs.declared.worlds.World.{World}
use Rattle.world_values.specs.Mentions.{same_interface}
use Rattle.comp_worlds.specs.declared.world.WorldParts.{WorldParts}
use Rattle.supported_worlds.specs.Distinct.{are_apart}
use Rattle.supported_worlds.specs.LeftOut.{required_of}

-- no module has to export an interface twice
pub record IsRequiredOnce (p : WorldParts) (w : World) : Type 0 where
  pub main : are_apart same_interface (required_of w.exports p.main_exports) ≡ true
  pub adapters : AllByRecursion (λ a. are_apart same_interface (required_of w.exports a.1.required_exports) ≡ true) p.adapters
