use Rattle.std.proofs.Common.{take}
use Rattle.comp_imports.specs.Names.{naming_of}
use Rattle.comp_terms.specs.Exports.{exports_in}
use Rattle.main_exports.specs.Exports.{AreExportsAtHand, exporter}
use Rattle.main_exports.proofs.Exporting.{ExportsSoFar}
use Rattle.main_exports.proofs.sources.ModuleExports.export_keys.Given as goal

abbrev pub invariant-loop-key : goal.invariant-loop-key
invariant-loop-key l =
    ExportsSoFar (naming_of l.self.names) l.fn.root.world.now (exporter l.self) l.fn.root l.root (take l.key-index l.keys) ×
    AreExportsAtHand l.fn.root.world.now l.root.met (exports_in l.root.items.defs)
