use Rattle.std.proofs.Common.{◌≡◌, ◌++◌, take, string_bytes}
use Rattle.std.specs.List.{flat_map}
use Rattle.name_warnings.specs.Lines.{place}
use Rattle.name_warnings.proofs.lines.put_path.Given as goal

abbrev pub invariant-loop-name : goal.invariant-loop-name
invariant-loop-name l = string_bytes l.out ≡ string_bytes l.fn.out ++ flat_map place (take l.name-index l.path)
