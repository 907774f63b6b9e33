use Rattle.std.proofs.Common.{sym, ap, ◌∙◌}
use Rattle.std.specs.List.{list_any}
use Rattle.std.specs.Str.{bytes_eq}
use Rattle.comp_names.proofs.Meeting.{looked_up}
use Rattle.comp_names.proofs.met.Met.note.Goals as goal

pub returns-then-contains_key-clause-cause : goal.returns-then-contains_key-clause-cause
returns-then-contains_key-clause-cause c = (c.in_ok-clone.ensures, sym (ap (λ m. list_any (bytes_eq c.args.name.now) m) c.self.view_is) ∙ (sym (looked_up (bytes_eq c.args.name.now) c.self.inside.names) ∙ (sym c.contains_key.ensures ∙ c.if-contains_key.true)))

pub returns-clause-other : goal.returns-clause-other
returns-clause-other c = sym (ap (λ m. list_any (bytes_eq c.args.name.now) m) c.self.view_is) ∙ (sym (looked_up (bytes_eq c.args.name.now) c.self.inside.names) ∙ (sym c.contains_key.ensures ∙ c.if-contains_key.false))
