use Rattle.std.proofs.Common.{◌≡◌, drop}
use Rattle.std.specs.List.{list_any}
use Rattle.supported_worlds.specs.Placed.{is_root_resource}
use Rattle.supported_worlds.proofs.resources.has_resource.Given as goal

abbrev pub invariant-loop-def : goal.invariant-loop-def
invariant-loop-def l = list_any is_root_resource (drop l.def-index l.types) ≡ list_any is_root_resource l.types
