use Rattle.std.proofs.Common.{◌≡◌, ◌∙◌, List, ap, sym, subst, true}
use Rattle.comp_trees.specs.DefinedTrees.{OfValues}
use Rattle.comp_trees.specs.WitTrees.{wit_tree}
use Rattle.std.specs.Prelude.{Some}
use Rattle.wit_data.specs.declared.types.Type.TheVariants.{Id}
use Rattle.wit_data.specs.declared.types.TypeDef.{TypeDef}
use Rattle.wit_data.specs.Values.{kind_at}
use Rattle.wit_types.specs.Allowing.{is_resource}
use Rattle.nested_terms.specs.Nested.{IsOfResource}
use Rattle.nested_components.proofs.ForeignTypes.{resource_tree}
use Rattle.nested_components.proofs.foreign_imports.define_foreign_type.Goals as goal

pub returns-then-is_resource-clause-bound : goal.returns-then-is_resource-clause-bound
returns-then-is_resource-clause-bound g c =
    let origin = g.P.Placement.origin in
    let types = c.args.resolve.now.types in
    let id = c.args.import.now.id in
    let is : is_resource (kind_at types id.index) ≡ true =
    ap is_resource (sym (c.kind_of.ensures ∙ ap (λ (ts : List TypeDef). kind_at ts id.index) c.as_slice.ensures)) ∙ (sym c.is_resource.ensures ∙ c.if-is_resource.true) in (
      c.requires.given,
      subst (λ (ts : List TypeDef). IsOfResource (OfValues (wit_tree origin ts (Some (Id id))))) (sym c.requires.same) (resource_tree origin types id c.requires.sound.back c.requires.present is),
    )
