use Rattle.std.proofs.Common.{sym, ◌∙◌}
use Rattle.shim_modules.proofs.Cells.{named}
use Rattle.shim_modules.proofs.sections.put_cell_names.Goals as goal

pub returns-in_ok-append-2 : goal.returns-in_ok-append-2
returns-in_ok-append-2 c =
    named c.args.names.now c.append.new.self c.append-then-is_some.new.self c.args.count c.args.cell (sym c.is_some.ensures ∙ c.if-is_some.true) c.in_ok-append.ensures.ok c.in_ok-append-2.ensures.ok
