-- The modules of a world are those that were gathered for it (component model, explainer: a component has core modules,
-- as they are).
use Rattle.std.specs.Prelude.{◌≡◌, ℕ, List, map, Some, option_map}
use Rattle.world_values.specs.declared.gathered.Gathered.{Gathered}
use Rattle.world_values.specs.declared.gathered.GatheredAdapter.{GatheredAdapter}
use Rattle.world_values.specs.declared.gathered.Part.{Part}
use Rattle.comp_worlds.specs.declared.world.ComponentWorld.{ComponentWorld}
use Rattle.comp_worlds.specs.declared.world.WorldAdapter.{WorldAdapter}

-- an adapter by its name and its bytes, as it was gathered, and in the world
abbrev pub gathered_module : {B : Type 0} → List ℕ × GatheredAdapter B → List ℕ × List ℕ
gathered_module a = (a.0, a.1.part.bytes)

abbrev pub world_module : List ℕ × WorldAdapter → List ℕ × List ℕ
world_module a = (a.0, a.1.info.bytes)

-- main has the bytes of the main module that was gathered, and the adapters have the names and the
-- bytes of the gathered ones, in order
pub record HasModules {B : Type 0} (g : Gathered B) (w : ComponentWorld) : Type 0 where
  pub main : option_map (λ (p : Part B). p.bytes) g.main ≡ Some w.main.bytes
  pub adapters : map gathered_module g.adapters ≡ map world_module w.adapters
