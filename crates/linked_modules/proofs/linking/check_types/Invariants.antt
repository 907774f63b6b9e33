use Rattle.std.proofs.Common.{◌≡◌, drop}
use Rattle.linked_modules.specs.Linking.{each_passes, typed_given}
use Rattle.linked_modules.proofs.linking.check_types.Given as goal

abbrev pub invariant-loop-import : goal.invariant-loop-import
invariant-loop-import l =
    each_passes (typed_given l.importer l.main l.adapters l.map.modules) (drop l.import-index l.imports) ≡ each_passes (typed_given l.importer l.main l.adapters l.map.modules) l.imports
