use Rattle.std.proofs.Common.{◌≡◌, ◌∙◌, ap, sym, subst, IsSome, Some}
use Rattle.std.specs.Map.{lookup}
use Rattle.std.specs.Option.{option_copied}
use Rattle.wit_data.specs.Keys.{is_same_key}
use Rattle.wit_data.specs.declared.worlds.World.{World}
use Rattle.comp_worlds.specs.WorldContents.{exported_item}
use Rattle.main_exports.proofs.Exporting.{required_item, never_type, copied_there}
use Rattle.root_imports.proofs.Keeping.{moved_kept}
use Rattle.main_exports.proofs.AtHand.{at_hand_kept}
use Rattle.main_exports.proofs.Lifting.{unwrapped}
use Rattle.main_exports.proofs.sources.ModuleExports.export_item.Goals as goal

pub unwrap-requires : goal.unwrap-requires
unwrap-requires c =
    let found : option_copied c.get.result ≡ exported_item c.args.root.now.world.now c.args.key.now = c.get.ensures ∙ ap (λ (w : World). lookup (is_same_key c.args.key.now) w.exports) c.items.ensures in
    copied_there c.get.result (subst (λ o. IsSome o) (sym found) (required_item c.args.root.now.world.now c.args.self.now.user.found.now c.args.key.now c.requires.required))

pub unreachable-requires : goal.unreachable-requires
unreachable-requires c =
    let w = c.args.root.now.world.now in
    let found : option_copied c.get.result ≡ exported_item w c.args.key.now = c.get.ensures ∙ ap (λ (x : World). lookup (is_same_key c.args.key.now) x.exports) c.items.ensures in
    never_type w c.requires.exports.valid c.args.key.now c.in-NamedType.field-0 (sym found ∙ (unwrapped c.get.result c.unwrap.result c.unwrap.ensures ∙ ap Some c.in-NamedType.is))

pub returns-in-Function-clause-at_hand : goal.returns-in-Function-clause-at_hand
returns-in-Function-clause-at_hand c =
    let old = c.args.root.now in
    let new = c.export_function.new.root in
    let kept = c.export_function.ensures.kept in
    at_hand_kept old.world.now old.items new.items old.met new.met kept.extends kept.met c.requires.at_hand

pub returns-in-Function-clause-moved : goal.returns-in-Function-clause-moved
returns-in-Function-clause-moved c = moved_kept c.args.root.now.world.now c.args.root.now c.export_function.new.root c.export_function.ensures.kept
