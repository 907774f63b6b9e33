use Rattle.std.proofs.Common.{List, ℕ, sym, subst}
use Rattle.comp_links.specs.Links.{export_of}
use Rattle.comp_links.specs.Targets.{Adapter}
use Rattle.core_options.specs.MainOptions.{IsAliasOf}
use Rattle.main_fixup.specs.Filling.{IsExportAt}
use Rattle.main_fixup.proofs.Named.{offers_named}
use Rattle.main_fixup.proofs.exports.export_of_adapter.Goals as goal

pub instance_of_adapter-instance-requires-clause-named : goal.instance_of_adapter-instance-requires-clause-named
instance_of_adapter-instance-requires-clause-named c = offers_named c.args.root.now.world.now (export_of (Adapter c.args.adapter.now) c.args.name.now) c.requires.offered

pub export_at-requires : goal.export_at-requires
export_at-requires c =
    let h = c.requires.offered in
    record {
      made =
          subst (λ (n : List ℕ). IsExportAt c.args.root.now.world.now c.args.root.now.items.defs c.instance_of_adapter-instance.result (export_of (Adapter n) c.args.name.now)) (sym c.as_str.ensures)
          (record { export = h; made = c.instance_of_adapter-instance.ensures h.number h.is });
    }

pub returns-clause-alias : goal.returns-clause-alias
returns-clause-alias c =
    subst (λ (n : List ℕ). IsAliasOf c.args.root.now.world.now c.export_at.new.root.items.defs c.in_ok-index.index (export_of (Adapter n) c.args.name.now)) c.as_str.ensures c.in_ok-index.ensures.alias
