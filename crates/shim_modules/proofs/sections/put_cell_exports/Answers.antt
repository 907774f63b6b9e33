use Rattle.std.proofs.Common.{sym, ◌∙◌}
use Rattle.shim_modules.proofs.Cells.{exported}
use Rattle.shim_modules.proofs.sections.put_cell_exports.Goals as goal

pub returns-in_ok-export-2 : goal.returns-in_ok-export-2
returns-in_ok-export-2 c =
    exported c.args.section.now c.export.new.self c.export-then-is_some.new.self c.args.count c.args.cell (sym c.is_some.ensures ∙ c.if-is_some.true) c.in_ok-export.ensures.ok c.in_ok-export-2.ensures.ok
