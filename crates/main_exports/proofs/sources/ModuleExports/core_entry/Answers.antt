use Rattle.std.proofs.Common.{◌≡◌, ◌∙◌, sym, subst, Some, IsSome}
use Rattle.comp_links.specs.Targets.{ExportRef}
use Rattle.comp_worlds.specs.WorldContents.{core_name_in}
use Rattle.core_options.specs.MainOptions.{IsAliasOf}
use Rattle.core_options.proofs.Offered.{core_offered}
use Rattle.main_exports.proofs.Lifting.{unwrapped}
use Rattle.main_exports.proofs.Exporting.{copied_there}
use Rattle.main_exports.proofs.OwnExports.{core_there, is_user, own_ref, own_instance}
use Rattle.main_exports.proofs.sources.ModuleExports.core_entry.Goals as goal

pub unwrap-name-requires : goal.unwrap-name-requires
unwrap-name-requires c =
    let w = c.args.root.now.world.now in
    let f = c.args.required.now in
    let e = c.args.self.now in
    let there = core_there w c.args.root.now.items.defs e.user c.requires.exports.user f in
    copied_there c.implementation.result (subst (λ o. IsSome o) (there ∙ (sym (c.requires.exports.tabled.entries.implementations f) ∙ sym c.implementation.ensures)) c.requires.present)

pub alias_of-requires : goal.alias_of-requires
alias_of-requires c =
    let w = c.args.root.now.world.now in
    let f = c.args.required.now in
    let e = c.args.self.now in
    let name = c.unwrap-name.result.now in
    let said : core_name_in e.user.found.now.exports.exports f.key f.function ≡ Some name = sym (c.requires.exports.tabled.entries.implementations f) ∙ (sym c.implementation.ensures ∙ unwrapped c.implementation.result c.unwrap-name.result c.unwrap-name.ensures) in
    record {
      made = own_instance w c.args.root.now.items.defs e c.requires.exports.user name c.own_export.result c.own_export.ensures
          (core_offered w e.user.found.now (is_user w c.args.root.now.items.defs e.user c.requires.exports.user c.requires.exports.valid.valid) f.key f.function name said);
    }

pub returns-clause-entry : goal.returns-clause-entry
returns-clause-entry c =
    let w = c.args.root.now.world.now in
    let f = c.args.required.now in
    let name = c.unwrap-name.result.now in
    let new = c.alias_of.new.root.items.defs in
    record {
      name = name;
      said = core_there w c.args.root.now.items.defs c.args.self.now.user c.requires.exports.user f ∙ (sym (c.requires.exports.tabled.entries.implementations f) ∙ (sym c.implementation.ensures ∙ unwrapped c.implementation.result c.unwrap-name.result c.unwrap-name.ensures));
      alias = subst (λ (x : ExportRef). IsAliasOf w new c.in_ok-core.core x) (own_ref c.args.self.now name c.own_export.result c.own_export.ensures) c.in_ok-core.ensures.alias;
    }
