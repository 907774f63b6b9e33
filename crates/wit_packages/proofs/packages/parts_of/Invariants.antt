use Rattle.std.proofs.Common.{◌≡◌}
use Rattle.wit_packages.specs.Packages.{parts_from, no_parts}
use Rattle.wit_packages.proofs.packages.parts_of.Given as goal

abbrev pub invariant-loop-section : goal.invariant-loop-section
invariant-loop-section l = parts_from l.section-iterator.rest.items l.parts ≡ parts_from l.fn.sections no_parts
