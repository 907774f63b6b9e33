use Rattle.core_export_names.proofs.exports.function_export.Goals as goal

pub returns : goal.returns
returns c = search (c.either.ensures, c.standard_function.ensures, c.older_if.ensures)
