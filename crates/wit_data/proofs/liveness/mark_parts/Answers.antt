use Rattle.std.proofs.Common.{◌≡◌, ◌<◌, ◌+◌, length, get_or, false, sym, subst, arith, ℕ, refl, ◌≤◌}
use Rattle.wit_data.specs.Parts.{parts}
use Rattle.wit_data.specs.Values.{value, part_values, kind_at}
use Rattle.wit_data.specs.Live.{reaching}
use Rattle.wit_data.proofs.Meeting.{parts_long, met_at}
use Rattle.wit_data.proofs.Marking.{SpreadsSoFar, spread_step}
use Rattle.wit_data.proofs.liveness.mark_parts.Goals as goal

pub loop-n-preserved : goal.loop-n-preserved
loop-n-preserved c =
    let types = c.args.types.now in
    let found = λ (target : ℕ). part_values (reaching target) types c.args.id in
    let in_range : c.loop-n.n < length (parts (kind_at types c.args.id)) = omega (arith, c.loop-n-test.true, c.part_count_of-n-end.ensures) in
    let all_in_range : (target : ℕ) → c.loop-n.n < length (found target) = λ target. omega (arith, in_range, parts_long (reaching target) types c.args.id) in
    let at : (target : ℕ) → value (reaching target) types c.part_of.result ≡ get_or (found target) c.loop-n.n false = λ target. met_at (reaching target) types c.args.id c.loop-n.n (value (reaching target) types c.part_of.result) c.part_of.result in_range refl c.part_of.ensures.value in
    let room : c.args.id ≤ length c.args.marks.now = omega (arith, c.requires.long, c.requires.present) in
    subst (λ marks. SpreadsSoFar types c.args.marks.now marks c.args.id (c.loop-n.n + 1) found) (sym c.mark.ensures) (spread_step types c.args.marks.now c.loop-n.marks c.args.id c.loop-n.n found c.part_of.result c.requires.sound c.part_of.ensures.earlier room c.requires.long all_in_range at c.loop-n.invariant)
