use Rattle.std.proofs.Common.{map}
use Rattle.module_edits.specs.Additions.{added_view}
use Rattle.module_edits.proofs.Chosen.{unread, read}
use Rattle.module_edits.proofs.code.put_code.Goals as goal

pub returns-in-None : goal.returns-in-None
returns-in-None c =
    unread _ _ _ c.args.exports.now c.args.first (added_view c.args.new) c.args.contents.now _ (rw c.in-None.is at c.in_ok-function_bodies.ensures) c.put_bytes.ensures

pub returns-in-Some : goal.returns-in-Some
returns-in-Some c =
    read _ _ _ c.args.exports.now c.args.first (added_view c.args.new) c.args.contents.now _ (map (λ b. b.now) c.in-Some.bodies.items)
    (rw c.in-Some.is at c.in_ok-function_bodies.ensures) (rw c.deref.ensures.value at c.put_all.ensures)
