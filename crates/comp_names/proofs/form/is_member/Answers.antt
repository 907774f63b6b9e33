use Rattle.comp_names.proofs.Deciding.{same}
use Rattle.comp_names.proofs.Parts.{prefixed_iff}
use Rattle.comp_names.proofs.form.is_member.Goals as goal

pub returns-in-Some : goal.returns-in-Some
returns-in-Some c = same (prefixed_iff c.args.kind.now c.args.name.now c.in-Some.pair.now c.in-Some.ensures.some) c.is_pair.ensures
