use Rattle.std.proofs.Common.{ap, refl, rules}
use Rattle.comp_builder.specs.Built.{Built}
use Rattle.comp_items.proofs.Extending.{extends_adds}
use Rattle.comp_items.specs.Items.{Extends}
use Rattle.root_imports.proofs.Keeping.{kept_items}
use Rattle.root_imports.specs.Growing.{Grows-then}
use Rattle.main_fixup.proofs.Filled.{IsActual, actual_made}
use Rattle.main_fixup.proofs.fills.actual_instance.Goals as goal

made : (c : goal.In_ok-instance) → IsActual c.args.root.now.world.now c.fills.new.root.items.defs c.inline_instance.new.self.defs c.in_ok-instance.instance
made c =
    actual_made c.args.root.now.world.now c.fills.new.root.items.defs c.inline_instance.new.self.defs c.in_ok-instance.instance c.in_ok-entries.entries c.in_ok-entries.ensures.few c.in_ok-entries.ensures.fills
    (ap (λ (b : Built). b.defs) c.in_ok-instance.ensures.adds.1) c.in_ok-instance.ensures.at

pub returns-clause-grows : goal.returns-clause-grows
returns-clause-grows c = let a = made c in Grows-then c.in_ok-entries.ensures.grows a.grows

pub returns-clause-fills : goal.returns-clause-fills
returns-clause-fills c = let a = made c in a.fills

pub returns-clause-kept : goal.returns-clause-kept
returns-clause-kept c =
    let mid = c.fills.new.root in
    let g : Extends mid.items c.inline_instance.new.self = search (extends_adds, rules) in
    kept_items c.args.root.now.world.now c.args.root.now mid (record mid { items = c.inline_instance.new.self }) c.in_ok-entries.ensures.kept refl g
