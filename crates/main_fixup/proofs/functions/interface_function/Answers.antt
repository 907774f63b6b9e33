use Rattle.std.proofs.Common.{◌≡◌, ap, rules, Some, IsSome}
use Rattle.std.specs.Map.{lookup}
use Rattle.comp_builder.specs.Built.{Built}
use Rattle.comp_bytes.specs.declared.def.Def.TheVariants as defs
use Rattle.comp_bytes.specs.declared.def.Item.TheVariants as items
use Rattle.comp_bytes.specs.declared.space.ComponentExportKind.TheVariants as exports
use Rattle.comp_bytes.specs.declared.types.Alias.TheVariants as aliases
use Rattle.wit_data.specs.contracts.ids.InterfaceIdPartialEq.TheImpl as same_id
use Rattle.root_imports.specs.Growing.{Grows-by}
use Rattle.main_fixup.proofs.Interfaces.{IsInterfaceFunction, aliased, interface_found, origin_of, used_function}
use Rattle.main_fixup.proofs.functions.interface_function.Goals as goal

pub unwrap-instance-requires : goal.unwrap-instance-requires
unwrap-instance-requires c =
    let s = c.requires.sources in
    let found : IsSome (lookup (same_id.eq-value.it c.args.interface) c.args.root.now.instances) = interface_found c.args.root.now.world.now c.args.root.now.items.defs c.args.root.now.instances c.args.interface c.args.name.now s.tables.offers.imports c.requires.used in
    search rules

pub returns-clause-grows : goal.returns-clause-grows
returns-clause-grows c =
    let s = c.requires.sources in
    let w = c.args.root.now.world.now in
    let old = c.args.root.now.items.defs in
    let instance = c.unwrap-instance.result.now in
    let at : lookup (same_id.eq-value.it c.args.interface) c.args.root.now.instances ≡ Some instance = search rules in
    let h : IsInterfaceFunction w old instance c.args.interface c.args.name.now = used_function w old c.args.root.now.instances c.args.interface instance c.args.name.now s.tables.offers.imports.finds c.requires.used at in
    Grows-by (defs.Item (items.Alias (aliases.Export exports.Func instance c.args.name.now))) (ap (λ (b : Built). b.defs) c.in_ok-index.ensures.adds.1) (aliased h)

pub returns-clause-function : goal.returns-clause-function
returns-clause-function c =
    let s = c.requires.sources in
    let w = c.args.root.now.world.now in
    let old = c.args.root.now.items.defs in
    let instance = c.unwrap-instance.result.now in
    let at : lookup (same_id.eq-value.it c.args.interface) c.args.root.now.instances ≡ Some instance = search rules in
    let h : IsInterfaceFunction w old instance c.args.interface c.args.name.now = used_function w old c.args.root.now.instances c.args.interface instance c.args.name.now s.tables.offers.imports.finds c.requires.used at in
    record {
      origin = record { number = h.import.number; inner = Some c.args.name.now };
      type = h.type;
      of = origin_of h;
      typed = h.typed;
      is = c.in_ok-index.ensures.imported h.import.number h.import.outer h.import.members h.type h.import.imported h.exported.typed;
    }
