use Rattle.core_export_names.proofs.exports.helper_name.Goals as goal

pub returns : goal.returns
returns c = search (c.any_of_three.ensures, c.used_name_after.ensures, c.used_name_after-2.ensures, c.destructor.ensures)
