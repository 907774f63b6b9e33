use Rattle.std.proofs.Common.{rules, ◌≡◌, ◌<◌, length, Some, refl, sym, subst, IsSome}
use Rattle.std.specs.Map.{lookup}
use Rattle.comp_bytes.specs.declared.space.Space.TheVariants as spaces
use Rattle.comp_bytes.specs.declared.space.ComponentExportKind.TheVariants as exports
use Rattle.comp_bytes.specs.declared.types.Alias.TheVariants as aliases
use Rattle.comp_bytes.specs.declared.def.Def.{Def}
use Rattle.comp_bytes.specs.declared.def.Def.TheVariants as defs
use Rattle.comp_bytes.specs.declared.def.Item.TheVariants as items
use Rattle.comp_terms.specs.Rules.{IsRight}
use Rattle.comp_worlds.specs.WorldContents.{name_at}
use Rattle.comp_links.specs.Lists.{type_of_world}
use Rattle.wit_data.specs.contracts.ids.InterfaceIdPartialEq.TheImpl as same_id
use Rattle.root_imports.specs.Interfaces.{IsInterfaceExport}
use Rattle.root_imports.proofs.Defining.{one_made, root_added}
use Rattle.root_imports.proofs.ExportedTypes.{export_aliased, export_made, found_export, is_there, named_within}
use Rattle.root_imports.proofs.Meeting.{named_parts}
use Rattle.root_imports.proofs.root_scope.RootScope.alias_exported_type.Goals as goal

pub type_name-title-requires-clause-present : goal.type_name-title-requires-clause-present
type_name-title-requires-clause-present g c =
    let w = g.W.HasWorld.world c.args.self.now.world.now in
    let named = (named_parts w.resolve.types c.args.interface c.args.id.index c.requires.named).0 in
    subst (λ v. c.args.id.index < length v.resolve.types) (sym c.as_world.ensures) (named_within w.resolve.types c.args.id.index named)

pub type_name-title-requires-clause-named : goal.type_name-title-requires-clause-named
type_name-title-requires-clause-named g c =
    let w = g.W.HasWorld.world c.args.self.now.world.now in
    let named = (named_parts w.resolve.types c.args.interface c.args.id.index c.requires.named).0 in
    subst (λ v. IsSome (name_at v.resolve.types c.args.id.index)) (sym c.as_world.ensures) (is_there (name_at w.resolve.types c.args.id.index) named)

pub unwrap-instance-requires : goal.unwrap-instance-requires
unwrap-instance-requires g c = search rules

pub returns-in_err-index-clause-grows : goal.returns-in_err-index-clause-grows
returns-in_err-index-clause-grows g c =
    let w = g.W.HasWorld.world c.args.self.now.world.now in
    let old = c.args.self.now.items.defs in
    let instance = c.unwrap-instance.result.now in
    let at : lookup (same_id.eq-value.it c.args.interface) c.args.self.now.met.exported ≡ Some instance = search rules in
    let h : IsInterfaceExport w old c.args.interface instance = found_export w old c.args.interface instance c.args.self.now.met.exported c.requires.finds.each at in
    let named : name_at w.resolve.types c.args.id.index ≡ Some c.type_name-title.result.now = subst (λ v. name_at v.resolve.types c.args.id.index ≡ Some c.type_name-title.result.now) c.as_world.ensures c.type_name-title.ensures in
    let d : Def = defs.Item (items.Alias (aliases.Export exports.Type instance c.type_name-title.result.now)) in
    let right : IsRight w old d = export_aliased c.args.id h c.requires.named c.type_name-title.result.now named in
    root_added w c.args.self.now.items c.alias_type.new.self c.alias_type.result spaces.Type d refl right c.alias_type.ensures.adds

pub returns-clause-grows : goal.returns-clause-grows
returns-clause-grows g c =
    let w = g.W.HasWorld.world c.args.self.now.world.now in
    let old = c.args.self.now.items.defs in
    let instance = c.unwrap-instance.result.now in
    let at : lookup (same_id.eq-value.it c.args.interface) c.args.self.now.met.exported ≡ Some instance = search rules in
    let h : IsInterfaceExport w old c.args.interface instance = found_export w old c.args.interface instance c.args.self.now.met.exported c.requires.finds.each at in
    let named : name_at w.resolve.types c.args.id.index ≡ Some c.type_name-title.result.now = subst (λ v. name_at v.resolve.types c.args.id.index ≡ Some c.type_name-title.result.now) c.as_world.ensures c.type_name-title.ensures in
    let d : Def = defs.Item (items.Alias (aliases.Export exports.Type instance c.type_name-title.result.now)) in
    let right : IsRight w old d = export_aliased c.args.id h c.requires.named c.type_name-title.result.now named in
    root_added w c.args.self.now.items c.alias_type.new.self c.alias_type.result spaces.Type d refl right c.alias_type.ensures.adds

pub returns-clause-makes : goal.returns-clause-makes
returns-clause-makes g c =
    let w = g.W.HasWorld.world c.args.self.now.world.now in
    let old = c.args.self.now.items.defs in
    let instance = c.unwrap-instance.result.now in
    let at : lookup (same_id.eq-value.it c.args.interface) c.args.self.now.met.exported ≡ Some instance = search rules in
    let h : IsInterfaceExport w old c.args.interface instance = found_export w old c.args.interface instance c.args.self.now.met.exported c.requires.finds.each at in
    let named : name_at w.resolve.types c.args.id.index ≡ Some c.type_name-title.result.now = subst (λ v. name_at v.resolve.types c.args.id.index ≡ Some c.type_name-title.result.now) c.as_world.ensures c.type_name-title.ensures in
    let d : Def = defs.Item (items.Alias (aliases.Export exports.Type instance c.type_name-title.result.now)) in
    one_made c.args.self.now.items c.alias_type.new.self c.in_ok-index.index d (type_of_world w c.args.id) (export_made c.args.id h c.requires.named c.type_name-title.result.now named) c.in_ok-index.ensures.adds
