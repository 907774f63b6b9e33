use Rattle.std.proofs.Common.{rules, ◌≡◌, true, false, List, subst}
use Rattle.wit_data.specs.declared.worlds.WorldItem.{WorldItem}
use Rattle.wit_data.specs.declared.worlds.WorldKey.{WorldKey}
use Rattle.exported_types.specs.ExportedTypes.{is_item}
use Rattle.exported_types.proofs.ExportNames.{EntriesSoFar, entries_step, entry_found}
use Rattle.exported_types.proofs.export_order.key_of.Goals as goal

pub returns-then-is_interface-clause-found : goal.returns-then-is_interface-clause-found
returns-then-is_interface-clause-found c =
    let all = c.args.exports.now in
    let e : WorldKey × WorldItem = (c.in-Some.key.now, c.in-Some.item.now) in
    let is : is_item c.in-Some.item.now c.args.id ≡ true = search rules in
    entry_found all c.args.id e c.next.new.self c.iter-key-items.ensures.unique (subst (λ (es : List (WorldKey × WorldItem)). EntriesSoFar all c.args.id es) c.in-Some.ensures.steps c.loop-key.invariant.2) is

pub loop-key-preserved : goal.loop-key-preserved
loop-key-preserved c =
    let all = c.args.exports.now in
    let e : WorldKey × WorldItem = (c.in-Some.key.now, c.in-Some.item.now) in
    let other : is_item c.in-Some.item.now c.args.id ≡ false = search rules in
    (tt, tt, entries_step all c.args.id e c.next.new.self (subst (λ (es : List (WorldKey × WorldItem)). EntriesSoFar all c.args.id es) c.in-Some.ensures.steps c.loop-key.invariant.2) other)
