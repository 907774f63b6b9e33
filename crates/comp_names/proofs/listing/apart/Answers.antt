use Rattle.std.proofs.Common.{arith, ◌∙◌}
use Rattle.std.proofs.lemmas.Result.{err_from_is_err_and}
use Rattle.comp_names.proofs.Meeting.{starts, meets, passes, refuses}
use Rattle.comp_names.proofs.listing.apart.Goals as goal
use Rattle.comp_names.proofs.listing.apart.Goals.{in-Some+in_ok-note, in_default}

pub loop-entry-init : goal.loop-entry-init
loop-entry-init g c = starts g.L.Listing.listed c.args.entries.now c.new-met.result c.new-met.ensures

pub returns-in_err-note : goal.returns-in_err-note
returns-in_err-note g c =
    let p = err_from_is_err_and c.from_residual.result c.from_residual.ensures.1 in
    rw (p.1, p.2) (refuses g.L.Listing.listed c.args.entries.now c.loop-entry.entry-index c.entry-item.result c.loop-entry.met c.in-Some.name.now c.in_err-note.field-0.0 c.loop-entry.invariant (omega arith) c.entry-item.is c.in-Some.ensures.some c.in_err-note.ensures.cause)

pub loop-entry-preserved : goal.loop-entry-preserved
loop-entry-preserved g c = elim c.match-name.branch [
  | in-Some+in_ok-note w ↦ meets g.L.Listing.listed c.args.entries.now c.loop-entry.entry-index c.entry-item.result c.loop-entry.met c.match-name.met w.in-Some.name.now c.loop-entry.invariant (omega arith) c.entry-item.is w.in-Some.ensures.some (w.met-is ∙ w.in_ok-note.ensures.ok) w.in_ok-note.ensures.other
  | in_default w ↦ rw w.met-is (passes g.L.Listing.listed c.args.entries.now c.loop-entry.entry-index c.entry-item.result c.loop-entry.met c.loop-entry.invariant (omega arith) c.entry-item.is w.in_default.ensures.none)
]
