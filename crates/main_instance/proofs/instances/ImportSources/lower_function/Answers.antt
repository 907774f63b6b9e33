use Rattle.std.proofs.Common.{rules}
use Rattle.comp_links.specs.Targets.{OfRoot}
use Rattle.core_options.specs.MainOptions.{IsFunctionOf}
use Rattle.root_imports.specs.Imports.{IsRootImport}
use Rattle.main_instance.proofs.instances.ImportSources.lower_function.Goals as goal

pub lower_call-requires-clause-imported : goal.lower_call-requires-clause-imported
lower_call-requires-clause-imported c =
    let i : IsRootImport c.args.root.now.world.now c.args.root.now.items.defs c.unwrap-function.result.now c.args.name.now = c.requires.sources.imports.each c.args.name.now c.unwrap-function.result.now (search rules) in
    record { origin = i.origin; type = i.type; is = i.is }

pub returns-clause-lowered : goal.returns-clause-lowered
returns-clause-lowered c =
    let i : IsRootImport c.args.root.now.world.now c.args.root.now.items.defs c.unwrap-function.result.now c.args.name.now = c.requires.sources.imports.each c.args.name.now c.unwrap-function.result.now (search rules) in
    let f : IsFunctionOf c.args.root.now.world.now c.args.root.now.items.defs c.unwrap-function.result.now (OfRoot c.args.name.now) = record { origin = i.origin; type = i.type; of = i.of; typed = i.typed; is = i.is } in
    c.in_ok-index.ensures.lowered (OfRoot c.args.name.now) f
