use Rattle.std.proofs.Common.{inr, refl}
use Rattle.comp_terms.specs.Planned.{cell_export}
use Rattle.comp_terms.specs.Terms as terms
use Rattle.shim_modules.specs.Shims.{setter_name}
use Rattle.main_instance.proofs.instances.ImportSources.cell_setter.Goals as goal

pub cell_function-requires-clause-named : goal.cell_function-requires-clause-named
cell_function-requires-clause-named c = inr refl

pub returns-clause-given : goal.returns-clause-given
returns-clause-given c = record { term = terms.Exported (cell_export c.args.root.now.world.now setter_name); is = (refl, c.in_ok-index.ensures.exported); asked = refl }
