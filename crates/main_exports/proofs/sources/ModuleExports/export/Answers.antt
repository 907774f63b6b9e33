use Rattle.std.proofs.Common.{ap}
use Rattle.comp_builder.specs.Built.{Built}
use Rattle.main_exports.proofs.sources.ModuleExports.export.Goals as goal

pub returns-clause-added : goal.returns-clause-added
returns-clause-added c = record { name = _; at = c.in_ok-exported.ensures.adds.0; added = ap (λ (b : Built). b.defs) c.in_ok-exported.ensures.adds.1 }
