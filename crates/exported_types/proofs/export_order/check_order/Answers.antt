use Rattle.std.proofs.Common.{◌≡◌, false, Some, subst}
use Rattle.std.specs.List.{AllByRecursion}
use Rattle.std.specs.Map.{lookup}
use Rattle.std.specs.Option.{IfSome}
use Rattle.wit_data.specs.Keys.{is_same_key}
use Rattle.wit_data.specs.declared.worlds.World.{World}
use Rattle.wit_data.specs.declared.worlds.WorldItem.{WorldItem}
use Rattle.wit_data.specs.declared.worlds.WorldItem.TheVariants as items
use Rattle.wit_data.specs.declared.worlds.WorldKey.{WorldKey}
use Rattle.comp_worlds.specs.ExportOrder.{used_exports}
use Rattle.exported_types.specs.ExportedTypes.{is_item, IsMissing}
use Rattle.exported_types.proofs.ExportNames.{export_key_sound, used_has_key, of_found}
use Rattle.exported_types.proofs.export_order.check_order.Goals as goal

pub name_world_key-requires-clause-present : goal.name_world_key-requires-clause-present
name_world_key-requires-clause-present c = export_key_sound c.args.root.now.world.now c.requires.valid c.args.key.now (items.Interface c.args.id) c.requires.item

pub unwrap-other-requires : goal.unwrap-other-requires
unwrap-other-requires c =
    let w = c.args.root.now.world.now in
    used_has_key w c.requires.valid c.args.root.now.met c.args.id c.in-Some.used c.args.key.now c.requires.item (subst (λ o. IfSome o (IsMissing c.args.root.now.met (used_exports w c.args.id))) c.in-Some.is c.in_ok-used.ensures.missing) c.key_of.result
    (λ none. subst (λ (world : World). AllByRecursion (λ (e : WorldKey × WorldItem). is_item e.1 c.in-Some.used ≡ false) world.exports) c.items.ensures (c.key_of.ensures.none none))

pub name_world_key-requires-2-clause-present : goal.name_world_key-requires-2-clause-present
name_world_key-requires-2-clause-present c =
    let w = c.args.root.now.world.now in
    let found = of_found (λ key. lookup (is_same_key key) c.items.result.now.exports ≡ Some (items.Interface c.in-Some.used)) c.key_of.result c.unwrap-other.result c.unwrap-other.ensures c.key_of.ensures.found in
    export_key_sound w c.requires.valid c.unwrap-other.result.now (items.Interface c.in-Some.used)
    (subst (λ (world : World). lookup (is_same_key c.unwrap-other.result.now) world.exports ≡ Some (items.Interface c.in-Some.used)) c.items.ensures found)
