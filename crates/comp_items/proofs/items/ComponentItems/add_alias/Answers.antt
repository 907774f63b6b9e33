use Rattle.std.proofs.Common.{ap}
use Rattle.comp_builder.specs.Built.{Built}
use Rattle.comp_items.proofs.Remembering.{items-by, items-aliased}
use Rattle.comp_bytes.specs.ItemIndices.{IsAt}
use Rattle.comp_bytes.specs.Spaces.{kind_space}
use Rattle.comp_items.specs.Items.{alias_of}
use Rattle.comp_items.proofs.items.ComponentItems.add_alias.Goals as goal

pub invariant_of-self-in_err-insert_if_absent : goal.invariant_of-self-in_err-insert_if_absent
invariant_of-self-in_err-insert_if_absent c = rw c.in_err-insert_if_absent.ensures.err (items-by _ (ap (λ (b : Built). b.defs) c.in_ok-index.ensures.adds.1) c.self.invariant)

pub invariant_of-self-2 : goal.invariant_of-self-2
invariant_of-self-2 c =
    let at : IsAt c.core_alias_export.new.self.defs (kind_space c.args.key.kind) c.in_ok-index.index (alias_of c.args.key) = rw (← c.as_str-name.ensures) c.in_ok-index.ensures.at in
    items-aliased c.insert_if_absent.new.self c.args.key c.in_ok-index.index c.in_ok-insert_if_absent.ensures.ok at
    (items-by _ (ap (λ (b : Built). b.defs) c.in_ok-index.ensures.adds.1) c.self.invariant)
