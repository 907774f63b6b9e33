-- The shims of a world are numbered by their places.
use Rattle.std.proofs.Common.{ℕ, suc, List, [], ◌∷◌, refl}
use Rattle.std.specs.List.{flat_map}
use Rattle.comp_worlds.specs.declared.world.ComponentWorld.{ComponentWorld}
use Rattle.shim_plan.specs.Needed.{needed}
use Rattle.shim_plan.specs.Plans.{AreNumbered, numbered, lacking}
use Rattle.shim_plan.specs.declared.needs.NeededShim.{NeededShim}
use Rattle.world_shims.specs.WorldShims.{modules_in, shims_of}

numbers : (place : ℕ) (needs : List NeededShim) → AreNumbered place (numbered place needs)
numbers place [] = tt
numbers place (n ∷ ns) = (refl, numbers (suc place) ns)

pub shims_numbered : (w : ComponentWorld) → AreNumbered 0 (shims_of w)
shims_numbered w = numbers 0 (lacking [] (flat_map (needed w) (modules_in w)))
