use Rattle.std.proofs.Common.{subst}
use Rattle.core_options.proofs.Memories.{memory_exported}
use Rattle.core_options.specs.MainOptions.{IsMemoryIf}
use Rattle.main_instance.specs.Sources.{shared_export}
use Rattle.core_instances.proofs.UserInstances.{memory_shared, memory_unshared}
use Rattle.core_instances.proofs.users.memory_of_main.Goals as goal

pub returns-in-Some-clause-memory : goal.returns-in-Some-clause-memory
returns-in-Some-clause-memory c =
    let w = c.args.root.now.world.now in
    let ds = c.args.root.now.items.defs in
    memory_shared w ds c.in-Some.index (subst (IsMemoryIf ds (shared_export w)) c.in-Some.is c.requires.shared)

pub returns-in_ok-own-in-None-clause-memory : goal.returns-in_ok-own-in-None-clause-memory
returns-in_ok-own-in-None-clause-memory c =
    let w = c.args.root.now.world.now in
    memory_exported w c.exported_memory.new.root.items.defs c.in_ok-own-in-None.own (memory_unshared w c.args.root.now.items.defs (subst (IsMemoryIf c.args.root.now.items.defs (shared_export w)) c.in-None.is c.requires.shared)) c.in_ok-own-in-None.ensures.memory
