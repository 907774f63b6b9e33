use Rattle.std.proofs.Common.{ap, sym, ◌∙◌, length}
use Rattle.std.specs.Fmt.{decimal}
use Rattle.comp_lists.specs.Tables.{with_first}
use Rattle.shim_plan.specs.Plans.{same_kind}
use Rattle.shim_plan.proofs.Entries.{after_insert}
use Rattle.shim_plan.proofs.shims.Shims.push.Goals as goal

pub invariant_of-self-2 : goal.invariant_of-self-2
invariant_of-self-2 c =
    let entries = c.self.inside.shims.entries in
    let name = c.requires ∙ ap (λ v. decimal (length v)) (sym c.self.view_is) in
    let added = c.in_ok-insert_if_absent.ensures.ok ∙ ap (λ k. with_first same_kind entries k c.args.shim) c.in_ok-kind.ensures in
    (after_insert entries c.args.shim c.insert_if_absent.new.shims.entries c.self.invariant name added).plan
