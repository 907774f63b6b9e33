use Rattle.std.proofs.Common.{ap, None}
use Rattle.root_imports.proofs.Growth.{tables_in}
use Rattle.root_imports.proofs.exported_types.RootScope+ComponentWorld.record_resource.Goals as goal

pub returns-in_err-record_type_index-clause-tables : goal.returns-in_err-record_type_index-clause-tables
returns-in_err-record_type_index-clause-tables c =
    let new = c.record_type_index.new.encoder in
    tables_in c.args.self.now.world.now new.world.now None c.args.self.now.met new.met new.instances new.items.defs new.maps _ c.record_type_index.ensures.setting (ap (λ r. r.now) c.record_type_index.ensures.follows.0) c.record_type_index.ensures.follows.1 c.record_type_index.ensures.faithful

pub returns-clause-tables : goal.returns-clause-tables
returns-clause-tables c =
    let new = c.record_type_index.new.encoder in
    tables_in c.args.self.now.world.now new.world.now None c.args.self.now.met new.met new.instances new.items.defs new.maps _ c.record_type_index.ensures.setting (ap (λ r. r.now) c.record_type_index.ensures.follows.0) c.record_type_index.ensures.follows.1 c.record_type_index.ensures.faithful
