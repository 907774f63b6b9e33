-- The shims and their instance stay what they are while definitions are added.
use Rattle.std.proofs.Common.{ℕ, List, Option, Some, None}
use Rattle.comp_bytes.specs.declared.def.Def.{Def}
use Rattle.comp_items.proofs.Kept.{Longer, instance-kept}
use Rattle.comp_worlds.specs.declared.world.ComponentWorld.{ComponentWorld}
use Rattle.main_instance.specs.Sources.{IsShimInstance}
use Rattle.exported_types.specs.ExportedTypes.{AreDestructorSources, AreShimSources}
use Rattle.exported_types.specs.declared.own_resources.DestructorSources.{DestructorSources}
use Rattle.exported_types.specs.declared.own_resources.ShimSources.{ShimSources}

pub shim_instance-kept : (w : ComponentWorld) {old new : List Def} → Longer old new → (o : Option ℕ) → IsShimInstance w old o → IsShimInstance w new o
shim_instance-kept w g None h = h
shim_instance-kept w g (Some index) h = instance-kept g h

pub shim_sources-kept : (w : ComponentWorld) {old new : List Def} → Longer old new → (s : ShimSources) → AreShimSources w old s → AreShimSources w new s
shim_sources-kept w g s h = record { shims = h.shims; instance = shim_instance-kept w g s.instance h.instance }

pub destructor_sources-kept : (w : ComponentWorld) {old new : List Def} → Longer old new → (s : DestructorSources) → AreDestructorSources w old s → AreDestructorSources w new s
destructor_sources-kept w g s h = record { shims = shim_sources-kept w g s.shims h.shims; found = h.found }
