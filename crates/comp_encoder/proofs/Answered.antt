-- The bytes that were built for a world are its component.
use Rattle.std.proofs.Common.{ℕ, Bool, List, subst, IsTrue}
use Rattle.comp_bytes.specs.Grammar.{Encodes}
use Rattle.comp_bytes.specs.Scopes.{Scoped}
use Rattle.comp_bytes.specs.declared.def.Def.{Def}
use Rattle.comp_names.specs.Names.{NamesOk}
use Rattle.comp_worlds.specs.Encodable.{IsEncodable}
use Rattle.comp_links.specs.Naming.{Naming}
use Rattle.comp_worlds.specs.declared.world.ComponentWorld.{ComponentWorld}
use Rattle.comp_worlds.specs.Gathering.{HasModules}
use Rattle.comp_worlds.specs.declared.lower.Lower as lower
use Rattle.comp_terms.specs.Rules.{IsBuilt}
use Rattle.comp_encoder.specs.Encoder.{Encoder, naming}
use Rattle.comp_encoder.specs.Prepared.{IsWorldOf}
use Rattle.comp_encoder.specs.Component.{IsComponentOf, IsEncoding}
use Rattle.comp_encoder.specs.Outputs.{NoSharedName}
use Rattle.comp_encoder.proofs.ExportsApart.{exports_apart}
use Rattle.link_laws.proofs.Ordered.{modules_of}
use Rattle.link_laws.proofs.Runs.{composed, links}

pub made_of : (n : Naming) (w : ComponentWorld) (validate : Bool) (bytes : List ℕ) (ds : List Def) → IsEncodable w → NoSharedName n.canonical w → Encodes bytes ds →
    Scoped ds × IsBuilt n w ds → (IsTrue validate → NamesOk ds) → IsComponentOf n w validate bytes
made_of n w validate bytes ds valid none encodes built named = record {
  defs = ds;
  encodes = encodes;
  scoped = built.0;
  generated = modules_of w n.debug_names built.1.generated;
  composed = composed n w ds built.1;
  links = links n w ds valid.valid (exports_apart n w valid.valid none) built.1;
  named = named;
}

module _ {L B F : Type 0} (l : lower.Ghosts L B F) where
  pub component_of : (e : Encoder L B) (w : ComponentWorld) (bytes : List ℕ) → IsWorldOf l e w → IsComponentOf (naming e) w e.gathered.options.validate bytes → IsEncoding l e bytes
  component_of e w bytes is h = record {
    component = subst (λ x. IsComponentOf (naming e) x e.gathered.options.validate bytes) is.prepared h;
    modules = subst (λ x. HasModules e.gathered x) is.prepared is.modules;
  }
