use Rattle.std.proofs.Common.{◌≡◌, ◌++◌, take, string_bytes}
use Rattle.std.specs.List.{flat_map}
use Rattle.name_warnings.specs.Lines.{line}
use Rattle.name_warnings.proofs.lines.put_lines.Given as goal

abbrev pub invariant-loop-warning : goal.invariant-loop-warning
invariant-loop-warning l = string_bytes l.out ≡ string_bytes l.fn.out ++ flat_map line (take l.warning-index l.warnings)
