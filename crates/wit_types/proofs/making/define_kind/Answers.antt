use Rattle.std.proofs.Common.{ap, sym, ◌∙◌}
use Rattle.comp_trees.specs.Trees.{is_known}
use Rattle.wit_types.proofs.Growing.{value_of_index, value_as}
use Rattle.wit_types.proofs.Adding.{type_added}
use Rattle.wit_types.proofs.Defining.{defined_as}
use Rattle.wit_types.proofs.Knowing.{parts_known}
use Rattle.wit_types.proofs.making.define_kind.Goals as goal

pub define_type-requires-clause-present : goal.define_type-requires-clause-present
define_type-requires-clause-present g c =
    (defined_as (g.E.ValtypeEncoder.setting c.args.encoder.now) (g.E.ValtypeEncoder.scope c.args.encoder.now) c.args.given.now c.args.kind.now c.in-Some.ty c.requires.defined c.requires.parts (sym c.in-Some.is ∙ c.in_ok-ty.ensures)).stands

pub returns-clause-value : goal.returns-clause-value
returns-clause-value g c n =
    value_as (value_of_index c.in_ok-define_type-in-Some.ensures.denotes)
    ((defined_as (g.E.ValtypeEncoder.setting c.args.encoder.now) (g.E.ValtypeEncoder.scope c.args.encoder.now) c.args.given.now c.args.kind.now c.in-Some.ty c.requires.defined c.requires.parts (sym c.in-Some.is ∙ c.in_ok-ty.ensures)).tree n)

pub define_type-requires-clause-known : goal.define_type-requires-clause-known
define_type-requires-clause-known g c =
    ap is_known ((defined_as (g.E.ValtypeEncoder.setting c.args.encoder.now) (g.E.ValtypeEncoder.scope c.args.encoder.now) c.args.given.now c.args.kind.now c.in-Some.ty c.requires.defined c.requires.parts (sym c.in-Some.is ∙ c.in_ok-ty.ensures)).tree 0)
    ∙ parts_known (g.E.ValtypeEncoder.setting c.args.encoder.now) 0 c.args.kind.now

pub returns-clause-adds : goal.returns-clause-adds
returns-clause-adds g c n =
    type_added _ _ _ _
    ((defined_as (g.E.ValtypeEncoder.setting c.args.encoder.now) (g.E.ValtypeEncoder.scope c.args.encoder.now) c.args.given.now c.args.kind.now c.in-Some.ty c.requires.defined c.requires.parts (sym c.in-Some.is ∙ c.in_ok-ty.ensures)).tree n)
    c.in_ok-define_type-in-Some.ensures.adds
