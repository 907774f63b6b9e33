use Rattle.std.proofs.Common.{◌∙◌, ap, sym, subst}
use Rattle.wit_data.specs.Parts.{RefersBack}
use Rattle.nested_components.specs.Homes.{Home}
use Rattle.nested_components.proofs.OwnResources.{own_next, own_more}
use Rattle.nested_components.proofs.resources.import_resources.Goals as goal

pub import_resource-requires-clause-back : goal.import_resource-requires-clause-back
import_resource-requires-clause-back g c = subst RefersBack (sym (ap (λ (h : Home). h.types) c.loop-import.invariant.so_far.same)) c.requires.back

pub import_resource-requires-clause-own : goal.import_resource-requires-clause-own
import_resource-requires-clause-own g c =
    let e = c.args.encoder.now in
    let now = c.loop-import.encoder in
    own_next g.P.Placement.given g.P.Placement.origin e.home e.stage e.contents c.args.imports.now c.loop-import.import-index now.home now.contents c.import-item.result c.import-item.is c.loop-import-test.true c.loop-import.invariant.so_far c.requires.own

pub loop-import-preserved : goal.loop-import-preserved
loop-import-preserved g c =
    let e = c.args.encoder.now in
    let now = c.loop-import.encoder in
    let new = c.import_resource.new.encoder in
    let i = c.loop-import.invariant in
    let of = c.in_ok-import_resource.ensures in
    record {
      so_far = own_more g.P.Placement.given g.P.Placement.origin e.home e.stage e.contents c.args.imports.now c.loop-import.import-index now.home now.contents c.import-item.result c.import-item.is c.loop-import-test.true i.so_far new.home new.contents now.stage of.home i.stage of.grows;
      stage = of.stage ∙ i.stage;
      right = of.right;
    }
