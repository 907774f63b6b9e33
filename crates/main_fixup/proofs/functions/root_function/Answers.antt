use Rattle.std.proofs.Common.{rules}
use Rattle.root_imports.specs.Imports.{IsRootImport}
use Rattle.main_fixup.proofs.functions.root_function.Goals as goal

pub returns : goal.returns
returns c =
    let i : IsRootImport c.args.root.now.world.now c.args.root.now.items.defs c.unwrap.result.now c.args.name.now = c.requires.sources.imports.each c.args.name.now c.unwrap.result.now (search rules) in
    record { origin = i.origin; type = i.type; of = i.of; typed = i.typed; is = i.is }
