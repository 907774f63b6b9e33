use Rattle.std.proofs.Common.{◌↔◌, drop}
use Rattle.std.specs.List.{AllByRecursion}
use Rattle.shim_plan.specs.Needed.{HasOwnTypes}
use Rattle.tests_of_shims.proofs.returns.have_returned.Given as goal

abbrev pub invariant-loop-import : goal.invariant-loop-import
invariant-loop-import l =
    AllByRecursion (λ i. HasOwnTypes l.resolve i.role.now) l.imports ↔ AllByRecursion (λ i. HasOwnTypes l.resolve i.role.now) (drop l.import-index l.imports)
