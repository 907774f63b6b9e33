use Rattle.std.proofs.Common.{◌≡◌, true}
use Rattle.std.specs.List.{AllByRecursion}
use Rattle.comp_roles.specs.Lookups.{first_some}
use Rattle.world_values.specs.Mentions.{same_interface}
use Rattle.supported_worlds.specs.Distinct.{are_apart}
use Rattle.supported_worlds.specs.LeftOut.{required_of, adapter_left_out}
use Rattle.supported_worlds.proofs.Walking.{AdaptersStill}
use Rattle.supported_worlds.proofs.modules.adapters_left_out.Given as goal

abbrev pub invariant-loop-name : goal.invariant-loop-name
invariant-loop-name l =
    goal.iterator-loop-name.can_next l.name-iterator ×
    goal.iterator-loop-name.is_finite l.name-iterator ×
    AllByRecursion (λ a. are_apart same_interface (required_of l.exports a.1.required_exports) ≡ true) l.name-iterator ×
    (first_some (adapter_left_out l.resolve l.exports l.places.types l.places.interfaces.root) l.name-iterator ≡ first_some (adapter_left_out l.resolve l.exports l.places.types l.places.interfaces.root) l.adapters) ×
    AdaptersStill l.name-iterator l.adapters
