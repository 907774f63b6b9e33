-- Modules of a world that were made, one after the other. (This project's own.)
use Rattle.std.specs.Prelude.{◌≡◌, ℕ, List, [], ◌∷◌, ◌++◌, Ok}
use Rattle.std.specs.List.{AllByRecursion}
use Rattle.comp_worlds.specs.declared.world.WorldAdapter.{WorldAdapter}
use Rattle.record_faults.specs.declared.fault.Refusal.{Refusal}
use Rattle.record_merge.specs.declared.bindgen.Bindgen.{Bindgen}
use Rattle.record_resolve.specs.declared.resolving.Resolved.{Resolved}
use Rattle.supported_worlds.specs.Modules.{module_of}
use Rattle.world_values.specs.declared.gathered.GatheredAdapter.{GatheredAdapter}
use Rattle.world_values.specs.declared.gathered.Part.{Part}
use Rattle.gathered_worlds.specs.declared.modules.ModuleParts.{ModuleParts}
use Rattle.gathered_worlds.specs.declared.preparing.Modules.{Modules}
use Rattle.gathered_worlds.specs.Causes.{AdapterCause, PartsCause}
use Rattle.gathered_worlds.specs.Guarantees.{user_module, IsSoundPart}
use Rattle.gathered_worlds.specs.Arguments.{Adapters}
use Rattle.gathered_worlds.specs.declared.reach.Reach.{Reach}
use Rattle.gathered_worlds.specs.Preparing.{module_parts, adapter_parts, adapter_of, adapter_in, adapters_after}

-- this is the adapter of a gathered one, which has no fault
pub record IsAdapterOf (r : Resolved) (reach : Reach) (a : GatheredAdapter Bindgen) (w : WorldAdapter) : Type 0 where
  pub parts : ModuleParts
  pub made : adapter_parts r reach a ≡ Ok parts
  pub is : w ≡ adapter_of a parts
  pub sound : IsSoundPart r (user_module parts)
  pub fine : (f : Refusal) → AdapterCause r reach a f → ⊥

-- it was added at the end
pub record IsAdded (r : Resolved) (reach : Reach) (a : List ℕ × GatheredAdapter Bindgen) (old new : List (List ℕ × WorldAdapter)) : Type 0 where
  pub parts : ModuleParts
  pub made : adapter_parts r reach a.1 ≡ Ok parts
  pub put : new ≡ old ++ adapter_in a parts ∷ []
  pub sound : IsSoundPart r (user_module parts)
  pub fine : (f : Refusal) → AdapterCause r reach a.1 f → ⊥

-- these are main and the adapters of gathered ones, which have no fault
pub record AreModulesOf (r : Resolved) (reach : Reach) (main : Part Bindgen) (adapters : Adapters) (m : Modules) : Type 0 where
  pub main_made : module_parts r reach.main [] main ≡ Ok m.main
  pub adapters_made : adapters_after r reach [] adapters ≡ Ok m.adapters
  pub main_sound : IsSoundPart r (user_module m.main)
  pub adapters_sound : AllByRecursion (λ a. IsSoundPart r (module_of a)) m.adapters
  pub fine : (f : Refusal) → PartsCause r reach main adapters f → ⊥
