use Rattle.std.proofs.Common.{ap, None}
use Rattle.comp_inventories.specs.Inventories.{scope_of}
use Rattle.comp_links.specs.Lists.{resource_of}
use Rattle.root_imports.specs.Interfaces.{AreInterfacesKnown}
use Rattle.root_imports.proofs.Allowing.{type_allows}
use Rattle.root_imports.proofs.Growth.{other_interface, tables_in}
use Rattle.root_imports.proofs.PayloadTypes.{payload_apart}
use Rattle.root_imports.proofs.payload_types.RootScope+ComponentWorld.typed_payload.Goals as goal

pub encode_valtype-requires-clause-present : goal.encode_valtype-requires-clause-present
encode_valtype-requires-clause-present c = c.requires.payload.present

pub encode_valtype-requires-clause-allowed : goal.encode_valtype-requires-clause-allowed
encode_valtype-requires-clause-allowed c =
    type_allows c.args.self.now.world.now c.requires.valid c.args.self.now.met c.requires.passed c.args.interface c.args.id c.requires.payload.present c.requires.supplied c.requires.of

pub encode_valtype-requires-clause-faithful : goal.encode_valtype-requires-clause-faithful
encode_valtype-requires-clause-faithful c =
    let old = c.args.self.now in
    other_interface old.world.now None c.args.interface old.met (scope_of old.items.defs) (AreInterfacesKnown old.world.now old.items.defs old.met.exported old.instances) old.maps c.requires.tables

pub returns-in_err-value-clause-tables : goal.returns-in_err-value-clause-tables
returns-in_err-value-clause-tables c =
    let old = c.args.self.now in
    let new = c.encode_valtype.new.encoder in
    tables_in old.world.now new.world.now c.args.interface old.met new.met new.instances new.items.defs new.maps _ c.encode_valtype.ensures.setting (ap (λ r. r.now) c.encode_valtype.ensures.follows.0) c.encode_valtype.ensures.follows.1 c.encode_valtype.ensures.faithful

pub returns-clause-tables : goal.returns-clause-tables
returns-clause-tables c =
    let old = c.args.self.now in
    let new = c.encode_valtype.new.encoder in
    tables_in old.world.now new.world.now c.args.interface old.met new.met new.instances new.items.defs new.maps _ c.encode_valtype.ensures.setting (ap (λ r. r.now) c.encode_valtype.ensures.follows.0) c.encode_valtype.ensures.follows.1 c.encode_valtype.ensures.faithful

pub unreachable-requires : goal.unreachable-requires
unreachable-requires c =
    let w = c.args.self.now.world.now in
    payload_apart (resource_of w) w.resolve.types c.requires.valid.sound.back c.args.id c.requires.payload (scope_of c.encode_valtype.new.encoder.items.defs) c.in_ok-value.value c.in_ok-value.ensures.value _ c.in-Primitive.is
