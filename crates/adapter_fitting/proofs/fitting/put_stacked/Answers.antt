use Rattle.std.proofs.Common.{map}
use Rattle.core_sections.specs.Sections.{view}
use Rattle.adapter_fitting.proofs.Limited.{stack_written}
use Rattle.adapter_fitting.proofs.fitting.put_stacked.Goals as goal

pub returns : goal.returns
returns c =
    stack_written c.args.out.now.items c.put_with_stack.new.out.items c.put_with_stack.result c.args.exports.now c.in_ok-indices.indices c.in_ok-realloc.realloc c.args.needed (map view c.args.sections.now)
    c.in_ok-indices.ensures c.in_ok-realloc.ensures c.put_with_stack.ensures
