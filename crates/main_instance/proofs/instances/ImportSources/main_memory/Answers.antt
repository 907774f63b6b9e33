use Rattle.std.proofs.Common.{subst}
use Rattle.comp_terms.specs.Planned.{main_memory}
use Rattle.core_options.proofs.Memories.{memory_there}
use Rattle.core_options.specs.MainOptions.{IsMemoryIf}
use Rattle.main_instance.proofs.OfMain.{memory_given}
use Rattle.main_instance.proofs.instances.ImportSources.main_memory.Goals as goal

pub returns-in-Some-clause-given : goal.returns-in-Some-clause-given
returns-in-Some-clause-given c =
    let w = c.args.root.now.world.now in
    let ds = c.args.root.now.items.defs in
    memory_given w ds c.in-Some.index (subst (IsMemoryIf ds (main_memory w)) c.in-Some.is c.requires.memory)

pub returns-in-Some-clause-there : goal.returns-in-Some-clause-there
returns-in-Some-clause-there c =
    let w = c.args.root.now.world.now in
    let ds = c.args.root.now.items.defs in
    memory_there w ds c.in-Some.index (subst (IsMemoryIf ds (main_memory w)) c.in-Some.is c.requires.memory)
