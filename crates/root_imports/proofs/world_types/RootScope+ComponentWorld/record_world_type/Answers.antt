use Rattle.std.proofs.Common.{ap, subst, sym, None, Some}
use Rattle.comp_inventories.specs.Inventories.{scope_of}
use Rattle.root_imports.specs.Interfaces.{AreInterfacesKnown}
use Rattle.root_imports.specs.RootScopes.{AreTablesRight}
use Rattle.root_imports.proofs.Growth.{other_interface, tables_in}
use Rattle.root_imports.specs.declared.met_types.MetTypes.{MetTypes}
use Rattle.root_imports.proofs.Passing.{tables_next}
use Rattle.root_imports.proofs.world_types.RootScope+ComponentWorld.record_world_type.Goals as goal

pub returns-in_err-record_type_index-clause-tables : goal.returns-in_err-record_type_index-clause-tables
returns-in_err-record_type_index-clause-tables c =
    let new = c.record_type_index.new.encoder in
    subst (λ r. AreTablesRight r.now new.met new.instances new.items.defs new.maps) c.record_type_index.ensures.follows.0
    (other_interface new.world.now new.interface None new.met (scope_of new.items.defs) (AreInterfacesKnown new.world.now new.items.defs new.met.exported new.instances) new.maps c.record_type_index.ensures.faithful)

pub returns-clause-tables : goal.returns-clause-tables
returns-clause-tables c =
    let w = c.args.self.now.world.now in
    let new = c.record_type_index.new.encoder in
    let tables : AreTablesRight w c.args.self.now.met new.instances new.items.defs new.maps =
    tables_in w new.world.now None c.args.self.now.met new.met new.instances new.items.defs new.maps _ c.record_type_index.ensures.setting (ap (λ r. r.now) c.record_type_index.ensures.follows.0) c.record_type_index.ensures.follows.1 c.record_type_index.ensures.faithful in
    subst (λ (m : MetTypes). AreTablesRight w (record m { last = Some c.args.id }) new.instances new.items.defs new.maps) (sym c.record_type_index.ensures.follows.1) (tables_next w c.args.self.now.met new.instances new.items.defs new.maps tables c.args.id c.requires.order c.in_ok-record_type_index.ensures.recorded)
