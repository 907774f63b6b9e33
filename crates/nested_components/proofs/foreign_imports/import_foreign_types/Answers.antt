use Rattle.std.proofs.Common.{◌∙◌, ◌+◌, drop, ap}
use Rattle.nested_components.specs.Homes.{Home}
use Rattle.nested_components.proofs.ForeignTypes.{usable_next, imported_more, next_parts}
use Rattle.nested_components.proofs.foreign_imports.import_foreign_types.Goals as goal

pub import_foreign_type-requires-clause-parts : goal.import_foreign_type-requires-clause-parts
import_foreign_type-requires-clause-parts g c =
    let given = g.P.Placement.given in
    let origin = g.P.Placement.origin in
    let e = c.args.encoder.now in
    let now = c.loop-import.encoder in
    let t = c.import-item.result in
    let i = c.loop-import.invariant in
    next_parts given origin now.home now.stage t (drop (c.loop-import.import-index + 1) c.args.imports.now) c.args.resolve.now.types (ap (λ (h : Home). h.types) i.so_far.same ∙ c.requires.same) c.requires.sound.back (i.stage ∙ c.requires.stage)
    (usable_next given origin e.home e.stage e.contents c.args.imports.now c.loop-import.import-index now.home now.contents t c.import-item.is c.loop-import-test.true i.so_far)

pub loop-import-preserved : goal.loop-import-preserved
loop-import-preserved g c =
    let given = g.P.Placement.given in
    let origin = g.P.Placement.origin in
    let e = c.args.encoder.now in
    let now = c.loop-import.encoder in
    let new = c.import_foreign_type.new.encoder in
    let i = c.loop-import.invariant in
    let of = c.in_ok-import_foreign_type.ensures in
    record {
      so_far = imported_more given origin e.home e.stage e.contents c.args.imports.now c.loop-import.import-index now.home now.contents c.import-item.result c.import-item.is c.loop-import-test.true i.so_far new.home new.contents now.stage of.home i.stage of.grows;
      stage = of.stage ∙ i.stage;
      right = of.right;
    }
