use Rattle.comp_names.proofs.Deciding.{nowhere}
use Rattle.comp_names.proofs.Parts.{prefixed_nowhere}
use Rattle.comp_names.proofs.form.is_constructor.Goals as goal

pub returns-in-None : goal.returns-in-None
returns-in-None c = nowhere (prefixed_nowhere _ c.args.name.now c.in-None.ensures.none)
