use Rattle.std.proofs.Common.{◌≡◌, ◌∙◌, List, ◌++◌, ap, sym, subst}
use Rattle.std.proofs.lemmas.List.{append_assoc}
use Rattle.name_warnings.specs.declared.warning.Warning.{Warning}
use Rattle.world_warnings.specs.Worlds.{all_warnings}
use Rattle.world_warnings.proofs.worlds.add_world_warnings.Goals as goal

-- three parts, one after the other
added : (before first second third one two three : List Warning) → one ≡ before ++ first → two ≡ one ++ second → three ≡ two ++ third → three ≡ before ++ (first ++ (second ++ third))
added before first second third one two three e f g =
    g
    ∙ ap (λ l. l ++ third) f
    ∙ ap (λ l. (l ++ second) ++ third) e
    ∙ append_assoc (before ++ first) second third
    ∙ append_assoc before first (second ++ third)

pub returns : goal.returns
returns c =
    subst (λ facts. c.add_side-2.new.warnings ≡ c.args.warnings.now ++ all_warnings facts c.args.path.now c.args.wit.now)
    c.in_ok-facts.ensures
    (added c.args.warnings.now _ _ _ c.add_all_interfaces.new.warnings c.add_side.new.warnings c.add_side-2.new.warnings c.in_ok-add_all_interfaces.ensures c.in_ok-add_side.ensures c.in_ok-add_side-2.ensures)
