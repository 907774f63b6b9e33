use Rattle.std.specs.Prelude.{◌≡◌, ◌*◌, ◌^◌, ◌≤◌, take}
use Rattle.std.specs.List.{sum_by}
use Rattle.comp_bytes.specs.Spaces.{space_of}
use Rattle.comp_bytes.specs.Scopes.{DefScoped}
use Rattle.comp_check.specs.Indexes.{lines}
use Rattle.comp_check.proofs.CheckedPrefix.{CheckedPrefix}
use Rattle.comp_check.proofs.indexes.check_definitions.Given as goal

abbrev pub invariant-loop-def : goal.invariant-loop-def
invariant-loop-def l = record {
  checked_prefix : CheckedPrefix space_of DefScoped l.own l.definitions l.def-index;
  line_is : l.line ≡ sum_by lines (take l.def-index l.definitions);
  small : l.line ≤ l.def-index * 2 ^ 64;
}
