use Rattle.std.proofs.Common.{sym, subst}
use Rattle.std.specs.Prelude.{◌↔◌, IsTrue}
use Rattle.comp_names.specs.NameForm.{IsVersion}
use Rattle.comp_names.proofs.Versions.{is_found}
use Rattle.comp_names.proofs.version.is_version.Goals as goal

pub returns : goal.returns
returns c = subst (λ b. IsTrue b ↔ IsVersion c.args.text.now) (sym c.is_some.ensures) (is_found c.args.text.now c.in_ok-found.found c.in_ok-found.ensures.some c.in_ok-found.ensures.none)
