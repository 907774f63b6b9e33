use Rattle.std.proofs.Common.{◌≡◌, ◌++◌}
use Rattle.std.specs.List.{flat_map}
use Rattle.shim_plan.specs.Needed.{export_needs}
use Rattle.shim_plan.proofs.modules.UserModule.add_destructors.Given as goal

abbrev pub invariant-loop-name : goal.invariant-loop-name
invariant-loop-name l =
    let needs = export_needs l.self.world.now l.self.which.now in
    goal.iterator-loop-name.can_next l.name-iterator ×
    goal.iterator-loop-name.is_finite l.name-iterator ×
    (l.needs.items ++ flat_map needs l.name-iterator ≡ l.fn.needs.items ++ flat_map needs l.self.found.now.exports.exports)
