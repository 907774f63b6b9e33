use Rattle.std.proofs.Common.{◌∙◌, ap, sym, ◌++◌}
use Rattle.nested_components.proofs.Copying.{id_absent}
use Rattle.nested_components.proofs.tables.copy_ids.Goals as goal

pub insert-requires : goal.insert-requires
insert-requires c =
    id_absent c.loop-id.copy c.next.new.self c.args.table.now c.in-Some.id.now c.in-Some.index.now (ap (λ es. c.loop-id.copy ++ es) (sym c.in-Some.ensures.steps) ∙ c.loop-id.invariant.2) c.iter-id-items.ensures.unique
