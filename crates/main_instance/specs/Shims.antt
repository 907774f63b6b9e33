-- What the module of shims adds to a component (component model, explainer: core instances; this project's own).
use Rattle.std.specs.Prelude.{◌≡◌, ◌<◌, ◌^◌, ℕ, Bool, true, false, List, [], ◌∷◌, length, Option, Some, None}
use Rattle.core_bytes.specs.Modules.{Encodes}
use Rattle.comp_bytes.specs.declared.def.Def.{Def}
use Rattle.comp_worlds.specs.Bases.{cell_type}
use Rattle.comp_worlds.specs.Offered.{shared_memory}
use Rattle.comp_worlds.specs.declared.world.ComponentWorld.{ComponentWorld}
use Rattle.comp_terms.specs.Generated.{has_shim_module, shims_number}
use Rattle.comp_terms.specs.Rules.{Grows, ModuleIs, InstanceOf}
use Rattle.comp_terms.specs.Terms.{IsInstanceOf}
use Rattle.world_shims.specs.WorldShims.{shims_of, sections_of_shims}

-- the module of shims and its instance, which has this index
pub record AddsShims (w : ComponentWorld) (debug_names : Bool) (old new : List Def) (instance : ℕ) : Type 0 where
  pub bytes : List ℕ
  pub encodes : Encodes bytes (sections_of_shims (shared_memory w) (cell_type w) (shims_of w) debug_names)
  pub room : length (shims_of w) < 2 ^ 32
  pub grows : Grows w old new (ModuleIs bytes ∷ InstanceOf (shims_number w) ∷ [])
  pub made : IsInstanceOf new instance (shims_number w)

-- the same, where there is a module of shims
abbrev pub MayAddShims : ComponentWorld → Bool → List Def → List Def → Option ℕ → Type 0
MayAddShims w debug_names old new None = (has_shim_module w ≡ false) × (new ≡ old)
MayAddShims w debug_names old new (Some instance) = AddsShims w debug_names old new instance × (has_shim_module w ≡ true)
