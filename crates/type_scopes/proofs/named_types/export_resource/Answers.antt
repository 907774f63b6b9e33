use Rattle.std.proofs.Common.{◌∙◌, List, [], ◌∷◌, Some, refl, sym, ap, subst}
use Rattle.wit_data.specs.declared.types.Type.TheVariants.{Id}
use Rattle.wit_data.specs.declared.types.TypeDef.{TypeDef}
use Rattle.comp_bytes.specs.declared.types.Description.TheVariants as descriptions
use Rattle.comp_bytes.specs.declared.types.Member.TheVariants as members
use Rattle.comp_trees.specs.DefinedScopes.{Denotes}
use Rattle.comp_trees.specs.DefinedTrees.{OfValues}
use Rattle.comp_trees.specs.Members.{member_trees}
use Rattle.comp_trees.specs.WitTrees.{wit_tree}
use Rattle.wit_types.specs.Maps.{Faithful}
use Rattle.wit_types.specs.Settings.{Setting}
use Rattle.type_scopes.specs.Exports.{any_index}
use Rattle.type_scopes.specs.Offers.{placed}
use Rattle.type_scopes.specs.Titles.{IsTitled}
use Rattle.type_scopes.proofs.Passing.{exported_resource, named_tree, right_then}
use Rattle.type_scopes.proofs.Scoping.{denotes_new}
use Rattle.type_scopes.proofs.named_types.export_resource.Goals as goal

pub record_type_index-requires-clause-faithful : goal.record_type_index-requires-clause-faithful
record_type_index-requires-clause-faithful g c =
    let e = c.args.encoder.now in
    let n = c.add_resource.new.self in
    let is = c.in_ok-index.ensures.added in
    right_then g.P.Placement.surroundings g.P.Placement.origin e.outer n.outer e.interface n.interface e.passed.now n.passed.now e.members n.members (members.Export c.args.name descriptions.SubResource ∷ []) e.maps n.maps
    (ap (λ x. x.outer) is) (ap (λ x. x.interface) is) (ap (λ x. x.passed.now) is) (ap (λ x. x.maps) is) (ap (λ x. x.members) is) c.requires.right

pub record_type_index-requires-clause-denotes : goal.record_type_index-requires-clause-denotes
record_type_index-requires-clause-denotes g c =
    let e = c.args.encoder.now in
    let n = c.add_resource.new.self in
    let s = g.P.Placement.surroundings in
    let is = c.in_ok-index.ensures.added in
    subst (λ (ts : List TypeDef). Denotes (member_trees s [] n.members) c.in_ok-index.index (OfValues (wit_tree g.P.Placement.origin ts (Some (Id c.args.id))))) (sym (ap (λ x. x.outer.types) is))
    (subst (λ t. Denotes (member_trees s [] n.members) c.in_ok-index.index t)
    (named_tree s g.P.Placement.origin e.outer e.interface c.args.resolve.now.types c.args.id c.args.name.name c.requires.same c.requires.sound.back c.requires.titled c.requires.resource c.requires.known)
    (denotes_new s e.members n.members (members.Export c.args.name descriptions.SubResource) c.in_ok-index.index refl c.in_ok-index.ensures.index (ap (λ x. x.members) is)))

pub returns-clause-exported : goal.returns-clause-exported
returns-clause-exported g c =
    let e = c.args.encoder.now in
    let n = c.add_resource.new.self in
    let s = g.P.Placement.surroundings in
    let titled : IsTitled e.outer.types e.interface c.args.id c.args.name.name = subst (λ (ts : List TypeDef). IsTitled ts e.interface c.args.id c.args.name.name) (sym c.requires.same) c.requires.titled in
    exported_resource s g.P.Placement.origin e.outer e.interface e.passed.now c.args.id e.members n.members c.record_type_index.new.encoder.members c.args.name c.in_ok-index.index
    (named_tree s g.P.Placement.origin e.outer e.interface c.args.resolve.now.types c.args.id c.args.name.name c.requires.same c.requires.sound.back c.requires.titled c.requires.resource c.requires.known)
    c.in_ok-index.ensures.index (ap (λ x. x.members) c.in_ok-index.ensures.added) c.in_ok-record_type_index.ensures.follows.3 titled c.requires.exported

pub returns-clause-right : goal.returns-clause-right
returns-clause-right g c =
    let s = g.P.Placement.surroundings in
    let r = c.record_type_index.new.encoder in
    subst (λ (q : Setting). Faithful q (member_trees s [] r.members) any_index (Unit {0}) r.maps)
    (c.in_ok-record_type_index.ensures.setting ∙ ap (λ x. placed s g.P.Placement.origin x.outer x.interface x.passed.now) c.in_ok-index.ensures.added) c.in_ok-record_type_index.ensures.faithful
