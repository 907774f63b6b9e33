use Rattle.std.proofs.Common.{◌≡◌, ◌++◌}
use Rattle.std.specs.List.{IsDistinct}
use Rattle.std.specs.Str.{bytes_eq}
use Rattle.record_imports.specs.Grouping.{names_of, instances_of}
use Rattle.record_imports.proofs.importing.table_of.Given as goal

abbrev pub invariant-loop-group : goal.invariant-loop-group
invariant-loop-group l =
    (l.modules ++ instances_of l.arguments l.group-iterator.rest.items ≡ instances_of l.arguments l.fn.groups.items) × IsDistinct bytes_eq (names_of l.fn.groups.items)
