use Rattle.std.proofs.Common.{◌≡◌, ◌+◌, map, drop}
use Rattle.byte_encoding.specs.Encoding.{each, named}
use Rattle.module_edits.specs.Additions.{bodies_from}
use Rattle.module_edits.proofs.Remaining.{Remains}
use Rattle.module_edits.proofs.code.put_bodies.Given as goal

abbrev pub invariant-loop-body : goal.invariant-loop-body
invariant-loop-body l =
    (l.index ≡ l.first + l.body-index) ×
    Remains l.fn.out.items l.out.items
    (each named (bodies_from l.exports l.call (l.first + l.body-index) (map (λ b. b.now) (drop l.body-index l.bodies))))
    (each named (bodies_from l.exports l.call l.first (map (λ b. b.now) l.bodies)))
