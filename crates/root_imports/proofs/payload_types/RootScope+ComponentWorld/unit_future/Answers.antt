use Rattle.std.proofs.Common.{ap, None}
use Rattle.root_imports.proofs.Growth.{tables_in}
use Rattle.root_imports.proofs.payload_types.RootScope+ComponentWorld.unit_future.Goals as goal

pub returns-clause-tables : goal.returns-clause-tables
returns-clause-tables c =
    let old = c.args.self.now in
    let new = c.encode_unit_future.new.encoder in
    tables_in old.world.now new.world.now None old.met new.met new.instances new.items.defs new.maps _ c.encode_unit_future.ensures.setting (ap (λ r. r.now) c.encode_unit_future.ensures.follows.0) c.encode_unit_future.ensures.follows.1 c.encode_unit_future.ensures.faithful
