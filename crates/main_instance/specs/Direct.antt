-- Functions that are lowered before the modules are instantiated that export what their options
-- name (Canonical ABI: `canon lower`, `realloc`).
use Rattle.std.specs.Prelude.{◌≡◌, ℕ, List, Option, Some, None, IsSome, Contains}
use Rattle.comp_bytes.specs.declared.def.Def.{Def}
use Rattle.comp_bytes.specs.declared.space.Space.TheVariants as spaces
use Rattle.comp_links.specs.Links.{lower_needs}
use Rattle.comp_links.specs.Roles.{import_encoding}
use Rattle.comp_links.specs.Targets.{UserModule as User, TargetOption, WorldFunction, Lowered}
use Rattle.comp_terms.specs.Planned.{IsItemFor}
use Rattle.comp_worlds.specs.Offered.{shared_memory}
use Rattle.comp_worlds.specs.Uses.{imports_of}
use Rattle.comp_worlds.specs.declared.world.ComponentWorld.{ComponentWorld}
use Rattle.comp_worlds.specs.declared.world.ValidatedModule.{ValidatedModule}
use Rattle.core_options.specs.MainOptions.{IsFunctionOf}
use Rattle.shim_plan.specs.Needed.{call_of, realloc_shim, import_realloc}
use Rattle.shim_plan.specs.Plans.{shim_of}
use Rattle.shim_targets.specs.CallOptions.{NamesNoExport}
use Rattle.shim_targets.specs.ShimTargets.{which_of}
use Rattle.world_shims.specs.WorldShims.{shims_of}
use Rattle.main_instance.specs.Calls.{import_at}
use Rattle.main_instance.specs.declared.direct.DirectCall.{DirectCall}

-- a call of an import of the module that has an encoding and no shim: where main imports no memory,
-- its options name nothing that a module exports
pub record IsDirectCall (w : ComponentWorld) (of : User) (m : ValidatedModule) (c : DirectCall) : Type 0 where
  pub present : Contains (imports_of m) (import_at c.place c.import.now)
  pub encoded : import_encoding w of c.import.now ≡ Some c.encoding
  pub called : IsSome (call_of c.import.now)
  pub plain : shared_memory w ≡ None → NamesNoExport (lower_needs w c.import.now)

-- the core function of this index is a lowering of an imported function, whichever of the world it
-- is, with these options
abbrev pub IsLoweringWith : ComponentWorld → List Def → List Def → ℕ → List TargetOption → ℕ → Type 0
IsLoweringWith w old new function options index = (called : WorldFunction) → IsFunctionOf w old function called → IsItemFor w new spaces.CoreFunc index (Lowered called options)

-- the realloc of calls of the module's imports has a shim, if there is one
abbrev pub HasReallocShim : ComponentWorld → User → ValidatedModule → Type 0
HasReallocShim w of m = (r : Option (List ℕ) × List ℕ) → import_realloc w (which_of of) m ≡ Some r → IsSome (shim_of (realloc_shim r).kind (shims_of w))
