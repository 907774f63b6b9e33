-- The root while its steps add to it. (The rules are this project's own.)
use Rattle.std.specs.Prelude.{◌≡◌}
use Rattle.comp_items.specs.Items.{Extends}
use Rattle.comp_worlds.specs.declared.world.ComponentWorld.{ComponentWorld}
use Rattle.root_imports.specs.RootScopes.{AreTablesRight}
use Rattle.root_imports.specs.declared.root_scope.RootScope.{RootScope}

abbrev pub Root : Type 0
Root = RootScope ComponentWorld

-- the root after a step: the tables are right, and the component has only grown at its end
pub record RootKept (w : ComponentWorld) (old new : Root) : Type 0 where
  pub world : new.world ≡ old.world
  pub met : new.met ≡ old.met
  pub instances : new.instances ≡ old.instances
  pub extends : Extends old.items new.items
  pub tables : AreTablesRight w old.met new.instances new.items.defs new.maps

-- the root after a step that also changes which types of exported interfaces are at hand
pub record RootMoved (w : ComponentWorld) (old new : Root) : Type 0 where
  pub world : new.world ≡ old.world
  pub last : new.met.last ≡ old.met.last
  pub instances : new.instances ≡ old.instances
  pub extends : Extends old.items new.items
  pub tables : AreTablesRight w new.met new.instances new.items.defs new.maps
