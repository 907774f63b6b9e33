use Rattle.std.proofs.Common.{refl}
use Rattle.standard_kinds.specs.declared.kinds.ExportKind.TheVariants as kinds
use Rattle.comp_roles.specs.declared.offered.ExternType.TheVariants as externs
use Rattle.core_options.proofs.Aliases.{grows_alias}
use Rattle.core_options.proofs.OptionTerms.{aliased}
use Rattle.core_options.proofs.modules.alias_of.Goals as goal

pub returns-clause-grows : goal.returns-clause-grows
returns-clause-grows c =
    let e = c.args.export in
    let h = c.requires.made in
    grows_alias c.args.root.now.world.now c.args.root.now.items.defs c.core_function.new.self.defs kinds.Func e.instance h.number h.exporting e.name.now (externs.Func h.offered.0) h.made h.listed h.offered.1 refl c.in_ok-index.ensures.adds

pub returns-clause-alias : goal.returns-clause-alias
returns-clause-alias c = aliased c.args.root.now.world.now c.args.root.now.items.defs c.core_function.new.self.defs c.in_ok-index.index c.args.export c.requires.made c.in_ok-index.ensures.exported
