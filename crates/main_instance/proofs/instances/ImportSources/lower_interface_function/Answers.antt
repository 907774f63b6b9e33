use Rattle.std.proofs.Common.{◌≡◌, [], ap, rules, Some, IsSome}
use Rattle.std.specs.Map.{lookup}
use Rattle.comp_builder.specs.Built.{Built}
use Rattle.comp_bytes.specs.declared.def.Def.TheVariants as defs
use Rattle.comp_bytes.specs.declared.def.Item.TheVariants as items
use Rattle.comp_bytes.specs.declared.space.ComponentExportKind.TheVariants as exports
use Rattle.comp_bytes.specs.declared.types.Alias.TheVariants as aliases
use Rattle.comp_links.specs.Targets.{OfInterface}
use Rattle.comp_terms.specs.Rules.{Grows}
use Rattle.wit_data.specs.contracts.ids.InterfaceIdPartialEq.TheImpl as same_id
use Rattle.root_imports.specs.Growing.{Grows-by, Grows-then}
use Rattle.main_instance.proofs.Growth.{sources-kept}
use Rattle.main_instance.proofs.Instantiating.{extends_by}
use Rattle.main_instance.proofs.Interfaces.{aliased, aliased_function, interface_found, used_function}
use Rattle.main_instance.proofs.instances.ImportSources.lower_interface_function.Goals as goal

pub unwrap-instance-requires : goal.unwrap-instance-requires
unwrap-instance-requires c =
    let s = c.requires.sources in
    let found : IsSome (lookup (same_id.eq-value.it c.args.interface) c.args.root.now.instances) = interface_found c.args.root.now.world.now c.args.root.now.items.defs c.args.root.now.instances c.args.interface c.args.name.now s.tables.offers.imports c.requires.imported in
    search rules

pub lower_call-requires-clause-sources : goal.lower_call-requires-clause-sources
lower_call-requires-clause-sources c = sources-kept (extends_by c.args.root.now.items c.alias_function.new.self _ _ c.in_ok-aliased.ensures.adds.1) c.requires.sources

pub lower_call-requires-clause-imported : goal.lower_call-requires-clause-imported
lower_call-requires-clause-imported c =
    let s = c.requires.sources in
    let at : lookup (same_id.eq-value.it c.args.interface) c.args.root.now.instances ≡ Some c.unwrap-instance.result.now = search rules in
    let h = used_function c.args.root.now.world.now c.args.root.now.items.defs c.args.root.now.instances c.args.interface c.unwrap-instance.result.now c.args.name.now s.tables.offers.imports.finds c.requires.imported at in
    let f = aliased_function h c.alias_function.new.self.defs c.in_ok-aliased.aliased (c.in_ok-aliased.ensures.imported h.import.number h.import.outer h.import.members h.type h.import.imported h.exported.typed) in
    record { origin = f.origin; type = f.type; is = f.is }

pub returns-clause-grows : goal.returns-clause-grows
returns-clause-grows c =
    let s = c.requires.sources in
    let at : lookup (same_id.eq-value.it c.args.interface) c.args.root.now.instances ≡ Some c.unwrap-instance.result.now = search rules in
    let h = used_function c.args.root.now.world.now c.args.root.now.items.defs c.args.root.now.instances c.args.interface c.unwrap-instance.result.now c.args.name.now s.tables.offers.imports.finds c.requires.imported at in
    let one : Grows c.args.root.now.world.now c.args.root.now.items.defs c.alias_function.new.self.defs [] =
    Grows-by (defs.Item (items.Alias (aliases.Export exports.Func c.unwrap-instance.result.now c.args.name.now))) (ap (λ (b : Built). b.defs) c.in_ok-aliased.ensures.adds.1) (aliased h) in
    Grows-then one c.in_ok-index.ensures.grows

pub returns-clause-lowered : goal.returns-clause-lowered
returns-clause-lowered c =
    let s = c.requires.sources in
    let at : lookup (same_id.eq-value.it c.args.interface) c.args.root.now.instances ≡ Some c.unwrap-instance.result.now = search rules in
    let h = used_function c.args.root.now.world.now c.args.root.now.items.defs c.args.root.now.instances c.args.interface c.unwrap-instance.result.now c.args.name.now s.tables.offers.imports.finds c.requires.imported at in
    let f = aliased_function h c.alias_function.new.self.defs c.in_ok-aliased.aliased (c.in_ok-aliased.ensures.imported h.import.number h.import.outer h.import.members h.type h.import.imported h.exported.typed) in
    c.in_ok-index.ensures.lowered (OfInterface c.args.interface c.args.name.now) f
