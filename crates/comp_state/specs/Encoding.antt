-- The model of an encoding state, as contracts see it. (The rules are this project's own: the standard defines
-- components, and not how they are made.)
use Rattle.std.specs.Prelude.{ℕ, Bool, List}
use Rattle.comp_builder.specs.Built.{Built}
use Rattle.comp_worlds.specs.declared.world.ComponentWorld.{ComponentWorld}
use Rattle.comp_links.specs.Naming.{Naming}
use Rattle.comp_imports.specs.Names.{naming_by}
use Rattle.comp_state.specs.declared.state.Step.{Step}
use Rattle.comp_state.specs.declared.state.Step.TheVariants.{Started, Imported, Instantiated}

-- the world, how the names of interfaces are made (whether they are canonical, and a table of other
-- names), whether core modules have names for debuggers, what was built so far, and how far it is
pub record Encoding : Type 0 where
  pub world : ComponentWorld
  pub canonical : Bool
  pub renamed : List (List ℕ × List ℕ)
  pub debug_names : Bool
  pub built : Built
  pub step : Step

-- the names of imports
abbrev pub naming_in : Encoding → Naming
naming_in e = naming_by e.canonical e.renamed e.debug_names

-- the functions that the world imports are there
abbrev pub AreImported : Step → Type 0
AreImported Started = ⊥
AreImported Imported = Unit {0}
AreImported Instantiated = Unit {0}
