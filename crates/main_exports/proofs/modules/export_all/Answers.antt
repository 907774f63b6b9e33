use Rattle.std.proofs.Common.{◌≡◌, length, sym, subst}
use Rattle.std.specs.List.{flat_map}
use Rattle.comp_imports.specs.Names.{naming_of}
use Rattle.comp_items.proofs.Remembering.{longer}
use Rattle.comp_links.specs.Lists.{keys_of_adapter, required_keys}
use Rattle.comp_terms.specs.Exports.{exports_in}
use Rattle.core_options.specs.MainOptions.{AreUserInstances}
use Rattle.core_options.proofs.OptionTerms.{instances_kept}
use Rattle.root_imports.specs.Keeping.{RootMoved}
use Rattle.root_imports.proofs.Keeping.{moved_then}
use Rattle.main_exports.specs.Exports.{AreExported, AreExportsAtHand, AreExportsReady}
use Rattle.main_exports.proofs.Adapters.{all_exported, main_counted, ready-moved}
use Rattle.main_exports.proofs.modules.export_all.Goals as goal

pub export_main-requires-clause-ready : goal.export_main-requires-clause-ready
export_main-requires-clause-ready c = record { valid = c.requires.valid; tables = c.requires.tables; passed = c.requires.passed; ordered = c.requires.ordered; at_hand = c.requires.at_hand }

pub export_adapters-requires-clause-ready : goal.export_adapters-requires-clause-ready
export_adapters-requires-clause-ready c =
    let mid = c.export_main.new.root in
    let e = c.in_ok-export_main.ensures in
    let ready : AreExportsReady c.args.root.now.world.now c.args.root.now =
    record { valid = c.requires.valid; tables = c.requires.tables; passed = c.requires.passed; ordered = c.requires.ordered; at_hand = c.requires.at_hand } in
    subst (λ x. AreExportsReady x.now mid) (sym e.moved.world) (ready-moved c.args.root.now.world.now c.args.root.now mid e.moved e.at_hand ready)

pub export_adapters-requires-clause-made : goal.export_adapters-requires-clause-made
export_adapters-requires-clause-made c =
    let mid = c.export_main.new.root in
    let moved = c.in_ok-export_main.ensures.moved in
    subst (λ x. AreUserInstances x.now mid.items.defs c.args.instances.now) (sym moved.world) (instances_kept (longer moved.extends) c.requires.made)

pub export_adapters-requires-clause-behind : goal.export_adapters-requires-clause-behind
export_adapters-requires-clause-behind c =
    let w = c.args.root.now.world.now in
    let mid = c.export_main.new.root in
    let e = c.in_ok-export_main.ensures in
    subst (λ x. exports_in mid.items.defs ≡ length x.now.main_exports) (sym e.moved.world) (main_counted (naming_of c.args.names.now) w c.args.root.now.items.defs mid.items.defs c.requires.none e.exported)

pub returns-in_err-export_adapters-clause-moved : goal.returns-in_err-export_adapters-clause-moved
returns-in_err-export_adapters-clause-moved c =
    let mid = c.export_main.new.root in
    let new = c.export_adapters.new.root in
    let moved = c.in_ok-export_main.ensures.moved in
    moved_then c.args.root.now.world.now c.args.root.now mid new moved (subst (λ x. RootMoved x.now mid new) moved.world c.in_err-export_adapters.ensures.moved)

pub returns-in_err-export_adapters-clause-at_hand : goal.returns-in_err-export_adapters-clause-at_hand
returns-in_err-export_adapters-clause-at_hand c =
    let new = c.export_adapters.new.root in
    subst (λ x. AreExportsAtHand x.now new.met (exports_in new.items.defs)) c.in_ok-export_main.ensures.moved.world c.in_err-export_adapters.ensures.at_hand

pub returns-clause-moved : goal.returns-clause-moved
returns-clause-moved c =
    let mid = c.export_main.new.root in
    let new = c.export_adapters.new.root in
    let moved = c.in_ok-export_main.ensures.moved in
    moved_then c.args.root.now.world.now c.args.root.now mid new moved (subst (λ x. RootMoved x.now mid new) moved.world c.in_ok-export_adapters.ensures.moved)

pub returns-clause-at_hand : goal.returns-clause-at_hand
returns-clause-at_hand c =
    let new = c.export_adapters.new.root in
    subst (λ x. AreExportsAtHand x.now new.met (exports_in new.items.defs)) c.in_ok-export_main.ensures.moved.world c.in_ok-export_adapters.ensures.at_hand

all : (c : goal.In_ok-export_adapters) → AreExported (naming_of c.args.names.now) c.args.root.now.world.now c.args.root.now.items.defs c.export_adapters.new.root.items.defs (required_keys c.args.root.now.world.now)
all c =
    let n = naming_of c.args.names.now in
    let w = c.args.root.now.world.now in
    let mid = c.export_main.new.root in
    let new = c.export_adapters.new.root in
    let e = c.in_ok-export_main.ensures in
    all_exported n w c.args.root.now.items.defs mid.items.defs new.items.defs e.exported
    (subst (λ x. AreExported n x.now mid.items.defs new.items.defs (flat_map keys_of_adapter x.now.adapters)) e.moved.world c.in_ok-export_adapters.ensures.exported)

pub returns-clause-grows : goal.returns-clause-grows
returns-clause-grows c = let a = all c in a.grows

pub returns-clause-encoded : goal.returns-clause-encoded
returns-clause-encoded c = let a = all c in a.encoded

pub returns-clause-has : goal.returns-clause-has
returns-clause-has c = let a = all c in a.has
