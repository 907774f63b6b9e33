use Rattle.std.proofs.Common.{◌≡◌, drop, map}
use Rattle.comp_roles.specs.Borrowed.{core_import}
use Rattle.linked_modules.specs.Linking.{each_passes, import_given}
use Rattle.linked_modules.proofs.linking.check_imports.Given as goal

abbrev pub invariant-loop-import : goal.invariant-loop-import
invariant-loop-import l =
    each_passes (import_given l.importer l.main l.adapters) (map core_import (drop l.import-index l.imports)) ≡ each_passes (import_given l.importer l.main l.adapters) (map core_import l.imports)
