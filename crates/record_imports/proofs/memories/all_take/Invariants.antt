use Rattle.std.proofs.Common.{◌≡◌, drop, map}
use Rattle.comp_roles.specs.Borrowed.{core_import}
use Rattle.record_imports.specs.Memories.{all_take}
use Rattle.record_imports.proofs.memories.all_take.Given as goal

abbrev pub invariant-loop-import : goal.invariant-loop-import
invariant-loop-import l = all_take l.first (map core_import (drop l.import-index l.imports)) ≡ all_take l.first (map core_import l.imports)
