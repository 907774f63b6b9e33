use Rattle.std.proofs.Common.{◌≡◌, ◌++◌, take}
use Rattle.std.specs.List.{flat_map}
use Rattle.name_warnings.specs.Forms.{label_warnings}
use Rattle.name_warnings.proofs.labels.add_each_label.Given as goal

abbrev pub invariant-loop-name : goal.invariant-loop-name
invariant-loop-name l = l.warnings ≡ l.fn.warnings ++ flat_map (label_warnings l.path) (take l.name-index l.names)
