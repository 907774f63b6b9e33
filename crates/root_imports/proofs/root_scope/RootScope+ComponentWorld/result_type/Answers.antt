use Rattle.std.proofs.Common.{◌∙◌, ap, subst, None}
use Rattle.wit_data.specs.Sound.{HasType}
use Rattle.comp_inventories.specs.Inventories.{scope_of}
use Rattle.root_imports.specs.Growing.{root_same}
use Rattle.root_imports.specs.Interfaces.{AreInterfacesKnown}
use Rattle.root_imports.specs.RootScopes.{root_setting}
use Rattle.root_imports.proofs.Growth.{other_interface, tables_in}
use Rattle.root_imports.proofs.Allowing.{root_allows}
use Rattle.root_imports.proofs.Results.{result_allowed, result_typed, result_known, none_typed}
use Rattle.root_imports.proofs.root_scope.RootScope+ComponentWorld.result_type.Goals as goal

pub encode_valtype-requires-clause-allowed : goal.encode_valtype-requires-clause-allowed
encode_valtype-requires-clause-allowed c =
    let w = c.args.self.now.world.now in
    let f = c.requires.of.function in
    result_allowed (root_setting w c.args.interface c.args.self.now.met) f c.in-Some.ty (c.requires.of.is ∙ c.in-Some.is)
    (root_allows w c.requires.valid c.args.self.now.met c.requires.passed c.args.interface f c.requires.supplied c.requires.of.needed)

pub encode_valtype-requires-clause-present : goal.encode_valtype-requires-clause-present
encode_valtype-requires-clause-present c =
    let of = c.requires.of in
    let present = of.present in
    subst (HasType c.args.self.now.world.now.resolve) (of.is ∙ c.in-Some.is) present.result

pub encode_valtype-requires-clause-faithful : goal.encode_valtype-requires-clause-faithful
encode_valtype-requires-clause-faithful c =
    let old = c.args.self.now in
    other_interface old.world.now None c.args.interface old.met (scope_of old.items.defs) (AreInterfacesKnown old.world.now old.items.defs old.met.exported old.instances) old.maps c.requires.tables

pub returns-in_ok-value-in-Some-clause-typed : goal.returns-in_ok-value-in-Some-clause-typed
returns-in_ok-value-in-Some-clause-typed c =
    result_typed c.args.self.now.world.now c.args.result_type c.in-Some.ty c.in-Some.is (scope_of c.encode_valtype.new.encoder.items.defs) c.in_ok-value-in-Some.value c.in_ok-value-in-Some.ensures.value

pub returns-in_ok-value-in-Some-clause-known : goal.returns-in_ok-value-in-Some-clause-known
returns-in_ok-value-in-Some-clause-known c =
    result_known c.args.self.now.world.now c.in-Some.ty (scope_of c.encode_valtype.new.encoder.items.defs) c.in_ok-value-in-Some.value c.in_ok-value-in-Some.ensures.value

pub returns-in_ok-value-in-Some-clause-tables : goal.returns-in_ok-value-in-Some-clause-tables
returns-in_ok-value-in-Some-clause-tables c =
    let new = c.encode_valtype.new.encoder in
    tables_in c.args.self.now.world.now new.world.now c.args.interface c.args.self.now.met new.met new.instances new.items.defs new.maps _ c.encode_valtype.ensures.setting (ap (λ r. r.now) c.encode_valtype.ensures.follows.0) c.encode_valtype.ensures.follows.1 c.encode_valtype.ensures.faithful

pub returns-in_err-value-in-Some-clause-tables : goal.returns-in_err-value-in-Some-clause-tables
returns-in_err-value-in-Some-clause-tables c =
    let new = c.encode_valtype.new.encoder in
    tables_in c.args.self.now.world.now new.world.now c.args.interface c.args.self.now.met new.met new.instances new.items.defs new.maps _ c.encode_valtype.ensures.setting (ap (λ r. r.now) c.encode_valtype.ensures.follows.0) c.encode_valtype.ensures.follows.1 c.encode_valtype.ensures.faithful

pub returns-in-None-clause-typed : goal.returns-in-None-clause-typed
returns-in-None-clause-typed c = none_typed c.args.self.now.world.now c.args.result_type c.in-None.is (scope_of c.args.self.now.items.defs)

pub returns-in-None-clause-grows : goal.returns-in-None-clause-grows
returns-in-None-clause-grows c = root_same c.args.self.now.world.now c.args.self.now.items
