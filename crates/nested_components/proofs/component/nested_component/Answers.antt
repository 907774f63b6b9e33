use Rattle.std.proofs.Common.{◌++◌}
use Rattle.nested_components.proofs.Planned.{imports_apart, all_given}
use Rattle.nested_components.proofs.component.nested_component.Goals as goal

pub placed_component-requires-clause-given : goal.placed_component-requires-clause-given
placed_component-requires-clause-given g c =
    let plan = c.in_ok-plan.plan in
    let p = c.in_ok-plan.ensures in
    let imports = plan.names.foreign ++ plan.names.resources in
    all_given g.origin c.args.resolve.now.types imports (imports_apart plan.names.functions imports plan.taken p.table p.apart)
