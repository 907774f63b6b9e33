use Rattle.std.proofs.Common.{◌≡◌}
use Rattle.comp_imports.proofs.OuterTypes.{OuterSoFar}
use Rattle.comp_imports.proofs.interface_types.add_outer_types.Given as goal

abbrev pub invariant-loop-ty : goal.invariant-loop-ty
invariant-loop-ty l =
    goal.iterator-loop-ty.can_next l.ty-iterator ×
    goal.iterator-loop-ty.is_finite l.ty-iterator ×
    (l.root ≡ record l.fn.root { items = l.root.items }) ×
    OuterSoFar l.fn.root.world.now l.fn.root.items l.root.items l.fn.root.instances l.fn.met l.table l.ty-iterator
