use Rattle.std.proofs.Common.{ap}
use Rattle.comp_builder.specs.Built.{Built}
use Rattle.comp_bytes.specs.declared.def.Def.TheVariants as defs
use Rattle.comp_bytes.specs.declared.def.Item.TheVariants as items
use Rattle.root_imports.specs.Growing.{Grows-by}
use Rattle.core_instances.proofs.modules.add_module.Goals as goal

pub returns-clause-grows : goal.returns-clause-grows
returns-clause-grows c = Grows-by (defs.Item (items.CoreModule c.args.bytes.now)) (ap (λ (b : Built). b.defs) c.in_ok-_index.ensures.adds.1) tt
