use Rattle.std.proofs.Common.{◌≡◌}
use Rattle.linked_modules.specs.Linking.{each_passes, adapter_given}
use Rattle.linked_modules.proofs.linking.check_adapters.Given as goal

abbrev pub invariant-loop-adapter : goal.invariant-loop-adapter
invariant-loop-adapter l =
    (goal.iterator-loop-adapter).can_next l.adapter-iterator ×
    (goal.iterator-loop-adapter).is_finite l.adapter-iterator ×
    (each_passes (adapter_given l.main l.adapters) l.adapter-iterator ≡ each_passes (adapter_given l.main l.adapters) l.adapters)
