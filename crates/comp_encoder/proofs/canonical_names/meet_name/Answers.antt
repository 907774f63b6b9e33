use Rattle.std.proofs.Common.{rules, ◌≡◌, ◌∙◌, ◌∷◌, ◌++◌, ℕ, List, [], Some, None, ap, subst, sym}
use Rattle.std.specs.Option.{option_copied}
use Rattle.comp_lists.specs.Found.{found}
use Rattle.wit_data.specs.Names.{id_text}
use Rattle.comp_encoder.specs.CanonicalNames.{IsSharedIn}
use Rattle.comp_encoder.specs.NamesMet.{Meets}
use Rattle.comp_encoder.proofs.MeetingNames.{name_added, name_met}
use Rattle.comp_encoder.proofs.canonical_names.meet_name.Goals as goal

pub returns-in-Some : goal.returns-in-Some
returns-in-Some c =
    let met = c.args.met.now in
    let name = c.in_ok-name.name in
    let whole = c.in_ok-whole.whole in
    let first = c.in_ok-first.first in
    let there : found name met ≡ Some first = sym c.get.ensures ∙ (ap option_copied c.in-Some.is ∙ ap (λ x. Some x) (sym c.in_ok-first.ensures)) in
    subst (λ (n : List ℕ). IsSharedIn (met ++ (n, id_text c.args.id.now) ∷ []) first whole name) c.in_ok-name.ensures
    (subst (λ (w : List ℕ). IsSharedIn (met ++ (name, w) ∷ []) first whole name) c.in_ok-whole.ensures (name_met name whole first met there))

pub returns : goal.returns
returns c =
    let met = c.args.met.now in
    let name = c.in_ok-name.name in
    let whole = c.in_ok-whole.whole in
    let none : found name met ≡ None = search rules in
    subst (λ (n : List ℕ). Meets ((n, id_text c.args.id.now) ∷ []) met c.insert.new.self None) c.in_ok-name.ensures
    (subst (λ (w : List ℕ). Meets ((name, w) ∷ []) met c.insert.new.self None) c.in_ok-whole.ensures (name_added name whole met c.insert.new.self c.in_ok-insert.ensures.ok none))
