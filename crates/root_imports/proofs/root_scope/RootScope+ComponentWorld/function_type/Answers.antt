use Rattle.std.proofs.Common.{ap, None}
use Rattle.comp_inventories.specs.Inventories.{scope_of}
use Rattle.root_imports.specs.Interfaces.{AreInterfacesKnown}
use Rattle.root_imports.proofs.Growth.{other_interface, tables_in}
use Rattle.root_imports.proofs.Allowing.{root_allows}
use Rattle.root_imports.proofs.root_scope.RootScope+ComponentWorld.function_type.Goals as goal

pub encode_func_type-requires-clause-allowed : goal.encode_func_type-requires-clause-allowed
encode_func_type-requires-clause-allowed c = root_allows c.args.self.now.world.now c.requires.valid c.args.self.now.met c.requires.passed c.args.interface c.args.function.now c.requires.supplied c.requires.needed

pub encode_func_type-requires-clause-faithful : goal.encode_func_type-requires-clause-faithful
encode_func_type-requires-clause-faithful c =
    let old = c.args.self.now in
    other_interface old.world.now None c.args.interface old.met (scope_of old.items.defs) (AreInterfacesKnown old.world.now old.items.defs old.met.exported old.instances) old.maps c.requires.tables

pub returns-clause-tables : goal.returns-clause-tables
returns-clause-tables c =
    let new = c.encode_func_type.new.encoder in
    tables_in c.args.self.now.world.now new.world.now c.args.interface c.args.self.now.met new.met new.instances new.items.defs new.maps _ c.encode_func_type.ensures.setting (ap (λ r. r.now) c.encode_func_type.ensures.follows.0) c.encode_func_type.ensures.follows.1 c.encode_func_type.ensures.faithful
