use Rattle.std.proofs.Common.{[], ◌∷◌, refl, ap, sym, subst, None}
use Rattle.comp_bytes.specs.declared.types.Description.TheVariants as descriptions
use Rattle.comp_bytes.specs.declared.types.Member.TheVariants as members
use Rattle.type_scopes.specs.Interfaces.{IsRight}
use Rattle.type_scopes.proofs.Exporting.{adds_function, extends_function}
use Rattle.type_scopes.proofs.Passing.{grow_extends, right_then}
use Rattle.type_scopes.proofs.functions.encode_function.Goals as goal

pub returns-clause-function : goal.returns-clause-function
returns-clause-function g c =
    let e = c.args.encoder.now in
    adds_function g.P.Placement.surroundings g.P.Placement.origin e.outer e.interface e.passed.now c.args.resolve.now.types e.members c.encode_func_type.new.encoder.members c.add_function.new.self.members (record { name = c.in_ok-name.name; version_suffix = None })
    c.in_ok-index.index c.args.function.now c.requires.same c.in_ok-index.ensures.follows.3 (ap (λ x. x.members) c.in_ok-add_function.ensures.added) c.in_ok-name.ensures c.in_ok-index.ensures.denotes

pub returns-clause-right : goal.returns-clause-right
returns-clause-right g c =
    let e = c.encode_func_type.new.encoder in
    let n = c.add_function.new.self in
    let is = c.in_ok-add_function.ensures.added in
    right_then g.P.Placement.surroundings g.P.Placement.origin e.outer n.outer e.interface n.interface e.passed.now n.passed.now e.members n.members (members.Export (record { name = c.in_ok-name.name; version_suffix = None }) (descriptions.Func c.in_ok-index.index) ∷ []) e.maps n.maps
    (ap (λ x. x.outer) is) (ap (λ x. x.interface) is) (ap (λ x. x.passed.now) is) (ap (λ x. x.maps) is) (ap (λ x. x.members) is) c.in_ok-index.ensures.faithful

pub returns-clause-extends : goal.returns-clause-extends
returns-clause-extends g c =
    extends_function g.P.Placement.surroundings c.args.encoder.now.members c.encode_func_type.new.encoder.members c.add_function.new.self.members (record { name = c.in_ok-name.name; version_suffix = None }) c.in_ok-index.index _
    c.in_ok-index.ensures.follows.3 (ap (λ x. x.members) c.in_ok-add_function.ensures.added) c.in_ok-index.ensures.denotes

pub returns-in_err-index-clause-extends : goal.returns-in_err-index-clause-extends
returns-in_err-index-clause-extends g c = let m = c.encode_func_type.new.encoder.members in grow_extends g.P.Placement.surroundings c.args.encoder.now.members m m c.in_err-index.ensures.follows.3 refl

pub returns-in_err-name-clause-extends : goal.returns-in_err-name-clause-extends
returns-in_err-name-clause-extends g c = let m = c.encode_func_type.new.encoder.members in grow_extends g.P.Placement.surroundings c.args.encoder.now.members m m c.in_ok-index.ensures.follows.3 refl

pub returns-in_err-add_function-clause-extends : goal.returns-in_err-add_function-clause-extends
returns-in_err-add_function-clause-extends g c =
    grow_extends g.P.Placement.surroundings c.args.encoder.now.members c.encode_func_type.new.encoder.members c.add_function.new.self.members c.in_ok-index.ensures.follows.3 (ap (λ x. x.members) c.in_err-add_function.ensures.kept)

pub returns-in_err-add_function-clause-right : goal.returns-in_err-add_function-clause-right
returns-in_err-add_function-clause-right g c =
    subst (λ x. IsRight g.P.Placement.surroundings g.P.Placement.origin x.outer x.interface x.passed.now x.members x.maps) (sym c.in_err-add_function.ensures.kept) c.in_ok-index.ensures.faithful
