use Rattle.main_instance.proofs.AccessCalls.{access_sound}
use Rattle.main_instance.specs.Calls.{import_at}
use Rattle.shim_plan.specs.Needed.{accessed_payload}
use Rattle.main_instance.proofs.instances.ImportSources.give_access.Goals as goal

pub options-needed-requires-clause-present : goal.options-needed-requires-clause-present
options-needed-requires-clause-present c =
    let w = c.args.root.now.world.now in
    let s = c.requires.sources in
    let u = c.args.self.now.user in
    let a = accessed_payload c.args.access in
    let i = import_at c.args.place c.args.import.now in
    access_sound w s.valid u s.user i c.requires.present a c.requires.role
