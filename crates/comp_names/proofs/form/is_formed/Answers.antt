use Rattle.std.proofs.Common.{refl, inl, inr}
use Rattle.comp_names.specs.NameForm.{Joined, IsUnversioned, IsVersionText, at_sign}
use Rattle.comp_names.proofs.Deciding.{ok_last}
use Rattle.comp_names.proofs.form.is_formed.Goals as goal
use Rattle.comp_names.proofs.form.is_formed.Goals.{then-is_plain-via-then-is_plain, then-is_plain-via-else-is_plain+then-is_unversioned}

pub returns-then-is_plain : goal.returns-then-is_plain
returns-then-is_plain c = elim c.then-is_plain.branch [
  | then-is_plain-via-then-is_plain w ↦ (λ h. inl (c.is_plain.ensures.0 w.if-is_plain.true), λ f. refl)
  | then-is_plain-via-else-is_plain+then-is_unversioned w ↦ (λ h. inr (inl (w.is_unversioned.ensures.0 w.if-is_unversioned.true)), λ f. refl)
]

pub returns : goal.returns
returns c = ok_last (Joined IsUnversioned at_sign IsVersionText c.args.name.now) c.is_versioned.result c.if-is_plain.false c.is_plain.ensures c.if-is_unversioned.false c.is_unversioned.ensures c.is_versioned.ensures
