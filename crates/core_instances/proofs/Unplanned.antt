-- A plan of shims is refused with its cause.
use Rattle.std.proofs.Common.{inl}
use Rattle.std.specs.List.{flat_map}
use Rattle.world_shims.specs.WorldShims.{modules_in}
use Rattle.comp_worlds.specs.Encodable.{IsEncodable}
use Rattle.comp_worlds.specs.declared.world.ComponentWorld.{ComponentWorld}
use Rattle.shim_plan.specs.Encodings.{Explains, unencoded}
use Rattle.shim_plan.specs.declared.fault.ShimFault.{ShimFault}
use Rattle.shim_plan.specs.declared.fault.ShimFault.TheVariants as plan
use Rattle.shim_targets.proofs.Unencoded.{unencoded_is}
use Rattle.core_options.specs.Causes.{IsCause}
use Rattle.core_instances.specs.Instances.{of_plan}

pub plan_refused : (w : ComponentWorld) → IsEncodable w → (fault : ShimFault) → Explains (flat_map (unencoded w) (modules_in w)) fault → IsCause w (of_plan fault)
plan_refused w ok plan.Memory h = tt
plan_refused w ok (plan.NoEncoding place) h =
    let u = unencoded_is w ok place h in
    inl (record { given = u.0; present = u.1; needs = u.2; none = u.3; at = u.4 })
