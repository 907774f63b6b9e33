use Rattle.std.proofs.Common.{inl, refl}
use Rattle.comp_terms.specs.Planned.{cell_export}
use Rattle.comp_terms.specs.Terms as terms
use Rattle.shim_modules.specs.Shims.{getter_name}
use Rattle.main_instance.proofs.instances.ImportSources.cell_getter.Goals as goal

pub cell_function-requires-clause-named : goal.cell_function-requires-clause-named
cell_function-requires-clause-named c = inl refl

pub returns-clause-given : goal.returns-clause-given
returns-clause-given c = record { term = terms.Exported (cell_export c.args.root.now.world.now getter_name); is = (refl, c.in_ok-index.ensures.exported); asked = refl }
