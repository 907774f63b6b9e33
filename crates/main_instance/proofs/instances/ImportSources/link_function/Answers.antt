use Rattle.std.proofs.Common.{◌∙◌, ap, sym, true≢false}
use Rattle.comp_links.specs.Links.{is_always_shimmed}
use Rattle.main_instance.proofs.instances.ImportSources.link_function.Goals as goal

pub shim_of_function-requires-clause-planned : goal.shim_of_function-requires-clause-planned
shim_of_function-requires-clause-planned c apart = absurd (true≢false (sym (ap (is_always_shimmed c.args.root.now.world.now) c.in-ErrorContextDebugMessage.is) ∙ apart))
