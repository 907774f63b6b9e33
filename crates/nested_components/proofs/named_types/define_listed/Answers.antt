use Rattle.std.proofs.Common.{◌≡◌, ◌∙◌, List, true, ap, sym, subst, is_some}
use Rattle.wit_data.specs.declared.types.TypeDef.{TypeDef}
use Rattle.wit_data.specs.Values.{kind_at}
use Rattle.wit_types.specs.Allowing.{is_resource}
use Rattle.nested_components.proofs.OwnResources.{import_at}
use Rattle.nested_components.proofs.named_types.define_listed.Goals as goal

pub index_of-requires : goal.index_of-requires
index_of-requires g c =
    let types = c.args.resolve.now.types in
    let n = c.args.id.index in
    let is : is_resource (kind_at types n) ≡ true = ap is_resource (sym (c.kind_of.ensures ∙ ap (λ (ts : List TypeDef). kind_at ts n) c.as_slice.ensures)) ∙ (sym c.is_resource.ensures ∙ c.if-is_resource.true) in
    let own = subst (λ (ts : List TypeDef). is_resource (kind_at ts n) ≡ true) (sym c.requires.same) is in
    ap is_some (c.requires.imported.each c.args.id c.requires.listed own).found

pub returns-then-is_resource-clause-denotes : goal.returns-then-is_resource-clause-denotes
returns-then-is_resource-clause-denotes g c =
    let given = g.P.Placement.given in
    let origin = g.P.Placement.origin in
    let e = c.args.encoder.now in
    let types = c.args.resolve.now.types in
    let n = c.args.id.index in
    let is : is_resource (kind_at types n) ≡ true = ap is_resource (sym (c.kind_of.ensures ∙ ap (λ (ts : List TypeDef). kind_at ts n) c.as_slice.ensures)) ∙ (sym c.is_resource.ensures ∙ c.if-is_resource.true) in
    let own = subst (λ (ts : List TypeDef). is_resource (kind_at ts n) ≡ true) (sym c.requires.same) is in
    import_at given origin e.home e.contents.items c.args.imported.now c.args.id (c.requires.imported.each c.args.id c.requires.listed own) c.index_of.result c.index_of.ensures
