use Rattle.std.proofs.Common.{◌≡◌, ℕ, List, subst}
use Rattle.comp_lists.specs.Splits.{split_once}
use Rattle.comp_names.proofs.Testing.{unversioned_tested}
use Rattle.comp_names.specs.NameForm.{colon}
use Rattle.comp_names.specs.Tests.{is_interface_by}
use Rattle.comp_names.proofs.tests.is_unversioned.Goals as goal

pub returns : goal.returns
returns c =
    let interface = c.before_version-interface.result in
    subst (λ (t : List ℕ). c.is_unversioned.result ≡ is_interface_by (split_once colon t)) c.before_version-interface.ensures (unversioned_tested c.is_unversioned.result interface.now c.is_unversioned.ensures)
