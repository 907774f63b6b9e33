use Rattle.main_instance.proofs.ReturnCalls.{none_shared}
use Rattle.std.proofs.Common.{None, subst}
use Rattle.core_options.specs.MainOptions.{user_of}
use Rattle.main_instance.specs.Sources.{IsMemoryBefore}
use Rattle.main_instance.proofs.instances.ImportSources.give_function.Goals as goal

pub shim_of_function-requires-clause-planned : goal.shim_of_function-requires-clause-planned
shim_of_function-requires-clause-planned c apart =
    let w = c.args.root.now.world.now in
    let of = user_of c.args.self.now.user.which in
    let ds = c.args.root.now.items.defs in
    none_shared w ds of (subst (IsMemoryBefore w ds of) c.in-None.is c.requires.sources.memory)
