-- What the bytes that `encode` returns are (component model, binary format; explainer: component definitions).
use Rattle.comp_links.specs.Naming.{Naming}
use Rattle.std.specs.Prelude.{ℕ, Bool, List, IsTrue}
use Rattle.comp_bytes.specs.Grammar.{Encodes}
use Rattle.comp_bytes.specs.Scopes.{Scoped}
use Rattle.comp_bytes.specs.declared.def.Def.{Def}
use Rattle.comp_names.specs.Names.{NamesOk}
use Rattle.comp_worlds.specs.declared.world.ComponentWorld.{ComponentWorld}
use Rattle.comp_worlds.specs.Gathering.{HasModules}
use Rattle.comp_worlds.specs.declared.lower.Lower as lower
use Rattle.comp_encoder.specs.Encoder.{Encoder, naming}
use Rattle.link_laws.specs.Composition.{GeneratedModules, IsComposed}
use Rattle.link_laws.specs.Linking.{Links}

-- These bytes are the component of a validated world: they encode a list of definitions, in which
-- each index names an earlier item, which is composed as the world says, with names that are made
-- in this way, and which links when it is run. Where `validate` is on, no name occurs twice in its
-- list, and names of imports and exports are well formed.
pub record IsComponentOf (n : Naming) (w : ComponentWorld) (validate : Bool) (bytes : List ℕ) : Type 0 where
  pub defs : List Def
  pub encodes : Encodes bytes defs
  pub scoped : Scoped defs
  pub generated : GeneratedModules
  pub composed : IsComposed n w generated defs
  pub links : Links n w generated defs
  pub named : IsTrue validate → NamesOk defs

module _ {L B F : Type 0} (l : lower.Ghosts L B F) where
  -- these bytes are the component of the world that the lower layer prepares from what was
  -- gathered, under the names that were asked for; its modules are the gathered ones
  pub record IsEncoding (e : Encoder L B) (bytes : List ℕ) : Type 0 where
    pub component : IsComponentOf (naming e) (l.prepared e.lower e.gathered) e.gathered.options.validate bytes
    pub modules : HasModules e.gathered (l.prepared e.lower e.gathered)
