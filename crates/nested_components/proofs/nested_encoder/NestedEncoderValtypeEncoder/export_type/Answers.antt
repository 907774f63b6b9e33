use Rattle.std.proofs.Common.{get_or, refl}
use Rattle.comp_trees.specs.DefinedTrees.{OfOthers}
use Rattle.nested_components.specs.Growing.{scope_of}
use Rattle.nested_components.proofs.Importing.{is_there, named_grown, named_made}
use Rattle.nested_components.proofs.nested_encoder.NestedEncoderValtypeEncoder.export_type.Goals as goal

pub import_named-requires : goal.import_named-requires
import_named-requires g c =
    let e = c.args.self.now in
    let there = get_or (scope_of g.P.Placement.given e.contents.items).types c.args.index OfOthers in
    record { listed = is_there g.P.Placement.origin e.home e.stage c.in-Importing.is c.args.name there c.requires.named }

pub returns-clause-makes : goal.returns-clause-makes
returns-clause-makes g c =
    let e = c.args.self.now in
    named_made g.P.Placement.given g.P.Placement.origin e.home e.stage c.in-Importing.is e.contents c.import_named.new.contents c.args.name c.args.index c.import_named.result
    c.import_named.ensures.index c.import_named.ensures.imported c.import_named.ensures.kept

pub returns-clause-follows : goal.returns-clause-follows
returns-clause-follows g c =
    let e = c.args.self.now in (
      refl,
      refl,
      named_grown g.P.Placement.given g.P.Placement.origin e.home e.stage c.in-Importing.is e.contents c.import_named.new.contents c.args.name c.args.index c.import_named.result
          c.requires.named c.requires.present c.import_named.ensures.imported c.import_named.ensures.kept,
    )
