use Rattle.std.proofs.Common.{option_map, sym, ap, ◌∙◌}
use Rattle.json_paths.specs.Taking.{without}
use Rattle.serde_json.specs.Find.{get}
use Rattle.serde_json.specs.View.{view}
use Rattle.serde_json.proofs.Views.{view-lookup, view-Object}
use Rattle.json_paths.proofs.Others.{keeps_others, left_of, is_gone}
use Rattle.json_paths.proofs.taking.take_member.Goals as goal

pub returns-in-Object-clause-taken : goal.returns-in-Object-clause-taken
returns-in-Object-clause-taken c =
    ap (option_map view) c.remove-member.ensures.value ∙ view-lookup c.args.key.now c.in-Object.members.entries
    ∙ sym (ap (get c.args.key.now) (ap view (sym c.take.ensures.taken ∙ c.in-Object.is) ∙ view-Object c.in-Object.members))

pub returns-in-Object-clause-others : goal.returns-in-Object-clause-others
returns-in-Object-clause-others c k other =
    keeps_others c.args.key.now c.in-Object.members c.remove-member.new.self c.remove-member.ensures.entries k other
    ∙ sym (ap (λ v. get k (view v)) (sym c.take.ensures.taken ∙ c.in-Object.is))

pub returns-in-Object-clause-left : goal.returns-in-Object-clause-left
returns-in-Object-clause-left c =
    left_of c.args.key.now c.in-Object.members c.remove-member.new.self c.remove-member.ensures.entries
    ∙ sym (ap (λ v. without c.args.key.now (view v)) (sym c.take.ensures.taken ∙ c.in-Object.is))

pub returns-in-Object-clause-gone : goal.returns-in-Object-clause-gone
returns-in-Object-clause-gone c = is_gone c.args.key.now c.remove-member.new.self c.remove-member.ensures.updates.1
