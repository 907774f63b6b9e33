use Rattle.std.proofs.Common.{take}
use Rattle.nested_components.specs.Planning.{PlansTypes}
use Rattle.nested_components.proofs.plan.choose_type_names.Given as goal

abbrev pub invariant-loop-id : goal.invariant-loop-id
invariant-loop-id l = PlansTypes l.resolve.types l.fn.taken l.taken (take l.id-index l.ids) l.imports
