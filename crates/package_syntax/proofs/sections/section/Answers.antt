use Rattle.std.proofs.Common.{arith}
use Rattle.package_syntax.proofs.SectionLoop.{header_lengths}
use Rattle.package_syntax.proofs.sections.section.Goals as goal

pub overflow_sub-start : goal.overflow_sub-start
overflow_sub-start c = omega (arith, header_lengths c.args.bytes.now c.in-Ok.read.0 c.in-Ok.read.1.now c.in-Ok.read.2.now c.in-Ok.ensures)

pub overflow_sub-start-2 : goal.overflow_sub-start-2
overflow_sub-start-2 c = omega (arith, header_lengths c.args.bytes.now c.in-Ok.read.0 c.in-Ok.read.1.now c.in-Ok.read.2.now c.in-Ok.ensures)

pub contents-requires : goal.contents-requires
contents-requires c = omega (arith, c.requires, header_lengths c.args.bytes.now c.in-Ok.read.0 c.in-Ok.read.1.now c.in-Ok.read.2.now c.in-Ok.ensures)
