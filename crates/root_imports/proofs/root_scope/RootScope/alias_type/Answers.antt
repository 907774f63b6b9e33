use Rattle.std.proofs.Common.{rules, ◌≡◌, ◌<◌, length, Some, refl, sym, subst, IsSome}
use Rattle.std.specs.Map.{lookup}
use Rattle.comp_bytes.specs.declared.space.Space.TheVariants as spaces
use Rattle.comp_bytes.specs.declared.space.ComponentExportKind.TheVariants as exports
use Rattle.comp_bytes.specs.declared.types.Alias.TheVariants as aliases
use Rattle.comp_bytes.specs.declared.def.Def.{Def}
use Rattle.comp_bytes.specs.declared.def.Def.TheVariants as defs
use Rattle.comp_bytes.specs.declared.def.Item.TheVariants as items
use Rattle.comp_trees.specs.DefinedScopes.{Denotes}
use Rattle.comp_inventories.specs.Inventories.{scope_of}
use Rattle.comp_terms.specs.Rules.{IsRight}
use Rattle.comp_worlds.specs.WorldContents.{name_at}
use Rattle.wit_data.specs.contracts.ids.InterfaceIdPartialEq.TheImpl as same_id
use Rattle.root_imports.proofs.Defining.{one_added, root_added}
use Rattle.root_imports.proofs.ExportedTypes.{IsExported, exported, exported_at, has_name, type_aliased, type_present, type_tree}
use Rattle.root_imports.proofs.root_scope.RootScope.alias_type.Goals as goal

pub type_name-name-requires-clause-present : goal.type_name-name-requires-clause-present
type_name-name-requires-clause-present g c =
    let w = g.W.HasWorld.world c.args.self.now.world.now in
    let h = exported_at w c.args.self.now.items.defs c.args.self.now.instances c.args.interface c.args.id c.requires.finds c.requires.found c.requires.needed in
    subst (λ v. c.args.id.index < length v.resolve.types) (sym c.as_world.ensures) (type_present h.is)

pub type_name-name-requires-clause-named : goal.type_name-name-requires-clause-named
type_name-name-requires-clause-named g c =
    let w = g.W.HasWorld.world c.args.self.now.world.now in
    let h = exported_at w c.args.self.now.items.defs c.args.self.now.instances c.args.interface c.args.id c.requires.finds c.requires.found c.requires.needed in
    subst (λ v. IsSome (name_at v.resolve.types c.args.id.index)) (sym c.as_world.ensures) (has_name h.is)

pub returns-in_err-index-clause-grows : goal.returns-in_err-index-clause-grows
returns-in_err-index-clause-grows g c =
    let w = g.W.HasWorld.world c.args.self.now.world.now in
    let old = c.args.self.now.items.defs in
    let instance = c.unwrap-instance.result.now in
    let at : lookup (same_id.eq-value.it c.args.interface) c.args.self.now.instances ≡ Some instance = search rules in
    let h : IsExported w old c.args.interface instance c.args.id = exported w old c.args.self.now.instances c.args.interface instance c.args.id c.requires.finds at c.requires.needed in
    let named : name_at w.resolve.types c.args.id.index ≡ Some c.type_name-name.result.now = subst (λ v. name_at v.resolve.types c.args.id.index ≡ Some c.type_name-name.result.now) c.as_world.ensures c.type_name-name.ensures in
    let d : Def = defs.Item (items.Alias (aliases.Export exports.Type instance c.type_name-name.result.now)) in
    let right : IsRight w old d = type_aliased h c.type_name-name.result.now named in
    root_added w c.args.self.now.items c.alias_type.new.self c.alias_type.result spaces.Type d refl right c.alias_type.ensures.adds

pub returns-clause-grows : goal.returns-clause-grows
returns-clause-grows g c =
    let w = g.W.HasWorld.world c.args.self.now.world.now in
    let old = c.args.self.now.items.defs in
    let instance = c.unwrap-instance.result.now in
    let at : lookup (same_id.eq-value.it c.args.interface) c.args.self.now.instances ≡ Some instance = search rules in
    let h : IsExported w old c.args.interface instance c.args.id = exported w old c.args.self.now.instances c.args.interface instance c.args.id c.requires.finds at c.requires.needed in
    let named : name_at w.resolve.types c.args.id.index ≡ Some c.type_name-name.result.now = subst (λ v. name_at v.resolve.types c.args.id.index ≡ Some c.type_name-name.result.now) c.as_world.ensures c.type_name-name.ensures in
    let d : Def = defs.Item (items.Alias (aliases.Export exports.Type instance c.type_name-name.result.now)) in
    let right : IsRight w old d = type_aliased h c.type_name-name.result.now named in
    root_added w c.args.self.now.items c.alias_type.new.self c.alias_type.result spaces.Type d refl right c.alias_type.ensures.adds

pub returns-clause-makes : goal.returns-clause-makes
returns-clause-makes g c =
    let w = g.W.HasWorld.world c.args.self.now.world.now in
    let old = c.args.self.now.items.defs in
    let new = c.alias_type.new.self in
    let instance = c.unwrap-instance.result.now in
    let at : lookup (same_id.eq-value.it c.args.interface) c.args.self.now.instances ≡ Some instance = search rules in
    let h : IsExported w old c.args.interface instance c.args.id = exported w old c.args.self.now.instances c.args.interface instance c.args.id c.requires.finds at c.requires.needed in
    let named : name_at w.resolve.types c.args.id.index ≡ Some c.type_name-name.result.now = subst (λ v. name_at v.resolve.types c.args.id.index ≡ Some c.type_name-name.result.now) c.as_world.ensures c.type_name-name.ensures in
    let d : Def = defs.Item (items.Alias (aliases.Export exports.Type instance c.type_name-name.result.now)) in
    let denotes = subst (λ t. Denotes (scope_of new.defs) c.in_ok-index.index t) (type_tree h c.type_name-name.result.now named) (c.in_ok-index.ensures.denotes h.import.number h.import.outer h.import.members h.import.imported) in
    (one_added c.args.self.now.items new c.in_ok-index.index d _ _ refl c.in_ok-index.ensures.adds denotes, denotes)
