use Rattle.std.proofs.Common.{ℕ, List, map}
use Rattle.byte_encoding.specs.Written.{Writes}
use Rattle.core_sections.specs.Sections.{view}
use Rattle.module_edits.specs.Additions.{with_function}
use Rattle.adapter_fitting.specs.Allocation.{allocation}
use Rattle.adapter_fitting.specs.Fitting.{stack_function}
use Rattle.adapter_fitting.proofs.Limited.{with_buffer}
use Rattle.adapter_fitting.proofs.fitting.put_with_stack.Goals as goal

pub returns : goal.returns
returns c =
    with_buffer (λ (b : List ℕ). Writes c.args.out.now.items c.put_with_body.new.out.items c.put_with_body.result (with_function c.args.exports.now c.args.indices.first (stack_function c.args.indices b) (map view c.args.sections.now)))
    c.as_slice.result.now c.put_allocation.new.out.items c.new-body.result.items (allocation c.args.realloc c.args.globals).bytes c.as_slice.ensures.value c.in_ok-put_allocation.ensures.0 c.new-body.ensures.items c.put_with_body.ensures
