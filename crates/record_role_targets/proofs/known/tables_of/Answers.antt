use Rattle.std.proofs.Common.{subst}
use Rattle.record_role_targets.specs.declared.wanted.Wanted.{Wanted}
use Rattle.record_role_targets.specs.Wanted.{NamedFunction, Functions}
use Rattle.record_role_targets.proofs.Knowing.{TablesSoFar, tables_step, not_yet}
use Rattle.record_role_targets.proofs.known.tables_of.Goals as goal

pub insert-requires : goal.insert-requires
insert-requires c =
    let f : NamedFunction × Wanted = (c.in-Some.name.now, c.in-Some.wanted.now) in
    let s = subst (λ (fs : Functions). TablesSoFar c.args.resolved.now c.loop-name.tables fs c.args.functions.now) c.in-Some.ensures.steps c.loop-name.invariant.2 in
    not_yet c.args.resolved.now c.loop-name.tables f c.next.new.self c.args.functions.now _ s c.copied.ensures c.iter-name-items.ensures.unique

pub loop-name-preserved : goal.loop-name-preserved
loop-name-preserved c =
    let f : NamedFunction × Wanted = (c.in-Some.name.now, c.in-Some.wanted.now) in
    let s = subst (λ (fs : Functions). TablesSoFar c.args.resolved.now c.loop-name.tables fs c.args.functions.now) c.in-Some.ensures.steps c.loop-name.invariant.2 in
    (tt, tt, tables_step c.args.resolved.now c.loop-name.tables c.insert.new.self f c.next.new.self c.args.functions.now _ c.in_ok-table.table s c.copied.ensures c.in_ok-table.ensures c.in_ok-insert.ensures.ok)
