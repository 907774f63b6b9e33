use Rattle.std.proofs.Common.{List, subst}
use Rattle.record_values.specs.declared.record.ImportName.{ImportName}
use Rattle.record_values.specs.declared.roles.ImportRole.{ImportRole}
use Rattle.record_role_targets.proofs.Wanting.{WantedSoFar, wanted_step}
use Rattle.record_role_targets.proofs.wanted.wanted_functions.Goals as goal

pub loop-name-preserved : goal.loop-name-preserved
loop-name-preserved c =
    let e : ImportName × ImportRole = (c.in-Some._name.now, c.in-Some.role.now) in
    let s = subst (λ (es : List (ImportName × ImportRole)). WantedSoFar c.loop-name.functions es c.args.roles.now) c.in-Some.ensures.steps c.loop-name.invariant.2 in
    (tt, tt, wanted_step c.loop-name.functions c.add_role.new.functions e c.next.new.self c.args.roles.now s c.in_ok-add_role.ensures.added c.in_ok-add_role.ensures.kept)
