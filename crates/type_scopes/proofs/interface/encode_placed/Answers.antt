use Rattle.std.proofs.Common.{◌≡◌, ◌∙◌, [], true, refl, ap, sym, subst}
use Rattle.std.specs.List.{AllByRecursion}
use Rattle.comp_trees.specs.Members.{AreMembersRight, member_trees}
use Rattle.wit_types.specs.Settings.{Setting}
use Rattle.wit_types.specs.Allowing.{allows_function}
use Rattle.type_scopes.specs.Exports.{IsExport, AreOwnExports}
use Rattle.type_scopes.specs.Interfaces.{AreExported, AreInOrder, TypesIn, used_among}
use Rattle.type_scopes.specs.Offers.{Offer, placed}
use Rattle.type_scopes.proofs.Allowed.{in_order, used_allowed}
use Rattle.type_scopes.proofs.Exported.{types_found}
use Rattle.type_scopes.proofs.Exporting.{types_later}
use Rattle.type_scopes.proofs.Passing.{own_extended, right_extended}
use Rattle.type_scopes.proofs.interface.encode_placed.Goals as goal

pub export_types-requires-clause-order : goal.export_types-requires-clause-order
export_types-requires-clause-order g c =
    let s = g.P.Placement.surroundings in
    let n = c.new-encoder.result in
    let o : Offer = record { types = c.args.resolve.now.types; table = c.args.table.now } in
    subst (λ (q : Offer). AreInOrder s g.P.Placement.origin q n.interface c.args.types.now) (sym (c.new-encoder.ensures.outer ∙ c.new-outer.ensures))
    (subst (λ i. AreInOrder s g.P.Placement.origin o i c.args.types.now) (sym c.new-encoder.ensures.interface)
    (in_order s g.P.Placement.origin o c.args.interface c.args.types.now (used_among c.args.used.now c.args.functions.now) c.requires.sound.back c.requires.needs c.requires.titled c.requires.ascend))

pub encode_functions-requires-clause-allowed : goal.encode_functions-requires-clause-allowed
encode_functions-requires-clause-allowed g c =
    let s = g.P.Placement.surroundings in
    let m = c.export_types.new.encoder in
    let o : Offer = record { types = c.args.resolve.now.types; table = c.args.table.now } in
    let of = c.in_ok-export_types.ensures in
    let same : placed s g.P.Placement.origin m.outer m.interface m.passed.now ≡ placed s g.P.Placement.origin o c.args.interface c.args.types.now =
    ap (λ q. placed s g.P.Placement.origin q m.interface m.passed.now) (of.outer ∙ (c.new-encoder.ensures.outer ∙ c.new-outer.ensures))
    ∙ (ap (λ i. placed s g.P.Placement.origin o i m.passed.now) (of.interface ∙ c.new-encoder.ensures.interface) ∙ ap (placed s g.P.Placement.origin o c.args.interface) of.passed) in
    let fs = used_among c.args.used.now c.args.functions.now in
    subst (λ (t : Setting). AllByRecursion (λ f. allows_function t f ≡ true) fs) (sym same)
    (used_allowed s g.P.Placement.origin o c.args.interface c.args.types.now fs c.requires.sound.back c.requires.needs c.args.resolve.now c.args.used.now c.args.functions.now refl refl c.requires.functions)

pub returns-clause-types : goal.returns-clause-types
returns-clause-types g c =
    let s = g.P.Placement.surroundings in
    let m = c.export_types.new.encoder.members in
    let new = c.encode_functions.new.encoder.members in
    let n = c.new-encoder.result in
    let o : Offer = record { types = c.args.resolve.now.types; table = c.args.table.now } in
    let e : AreExported s g.P.Placement.origin o c.args.interface c.args.types.now m =
    subst (λ i. AreExported s g.P.Placement.origin o i c.args.types.now m) c.new-encoder.ensures.interface
    (subst (λ (q : Offer). AreExported s g.P.Placement.origin q n.interface c.args.types.now m) (c.new-encoder.ensures.outer ∙ c.new-outer.ensures) c.in_ok-export_types.ensures.exported) in
    subst (λ ms. TypesIn (placed s g.P.Placement.origin o c.args.interface c.args.types.now) (member_trees s [] ms) (IsExport ms) c.args.types.now) (sym c.into_type.ensures)
    (types_later s g.P.Placement.origin o c.args.interface c.args.types.now m new c.args.types.now c.in_ok-encode_functions.ensures.extends e.types)

pub returns-clause-members : goal.returns-clause-members
returns-clause-members g c =
    let s = g.P.Placement.surroundings in
    let n = c.new-encoder.result in
    subst (λ ms. AreMembersRight s [] ms) (sym c.into_type.ensures)
    (right_extended s g.P.Placement.origin n.outer n.interface c.export_types.new.encoder.members c.encode_functions.new.encoder.members c.in_ok-encode_functions.ensures.extends c.in_ok-export_types.ensures.exported.right)

pub returns-clause-exported : goal.returns-clause-exported
returns-clause-exported g c =
    let s = g.P.Placement.surroundings in
    let m = c.export_types.new.encoder.members in
    let new = c.encode_functions.new.encoder.members in
    let out = c.into_type.result.members in
    let n = c.new-encoder.result in
    let o : Offer = record { types = c.args.resolve.now.types; table = c.args.table.now } in
    let e : AreExported s g.P.Placement.origin o c.args.interface c.args.types.now m =
    subst (λ i. AreExported s g.P.Placement.origin o i c.args.types.now m) c.new-encoder.ensures.interface
    (subst (λ (q : Offer). AreExported s g.P.Placement.origin q n.interface c.args.types.now m) (c.new-encoder.ensures.outer ∙ c.new-outer.ensures) c.in_ok-export_types.ensures.exported) in
    let own : AreOwnExports s g.P.Placement.origin o c.args.interface c.args.types.now [] out = subst (λ ms. AreOwnExports s g.P.Placement.origin o c.args.interface c.args.types.now [] ms) (sym c.into_type.ensures) (own_extended s g.P.Placement.origin o c.args.interface c.args.types.now m new c.in_ok-encode_functions.ensures.extends e.own) in
    types_found s g.P.Placement.origin o c.args.interface out c.args.types.now c.requires.apart (returns-clause-members g c) own c.requires.titled (returns-clause-types g c)
