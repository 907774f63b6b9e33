use Rattle.std.proofs.Common.{sym, subst}
use Rattle.comp_links.specs.Links.{export_of, module_of}
use Rattle.comp_links.specs.Targets.{UserModule as User}
use Rattle.core_options.specs.MainOptions.{IsAliasOf}
use Rattle.main_fixup.specs.Filling.{IsExportAt}
use Rattle.main_fixup.proofs.Named.{offers_named}
use Rattle.main_fixup.proofs.exports.export_of_module.Goals as goal

pub instance_of_module-instance-requires-clause-named : goal.instance_of_module-instance-requires-clause-named
instance_of_module-instance-requires-clause-named c = offers_named c.args.root.now.world.now (export_of (module_of c.args.which.now) c.args.name.now) c.requires.offered

pub export_at-requires : goal.export_at-requires
export_at-requires c =
    let h = c.requires.offered in
    record {
      made =
          subst (λ (u : User). IsExportAt c.args.root.now.world.now c.args.root.now.items.defs c.instance_of_module-instance.result (export_of u c.args.name.now)) (sym c.custom_module-of.ensures)
          (record { export = h; made = c.instance_of_module-instance.ensures h.number h.is });
    }

pub returns-clause-alias : goal.returns-clause-alias
returns-clause-alias c =
    subst (λ (u : User). IsAliasOf c.args.root.now.world.now c.export_at.new.root.items.defs c.in_ok-index.index (export_of u c.args.name.now)) c.custom_module-of.ensures c.in_ok-index.ensures.alias
