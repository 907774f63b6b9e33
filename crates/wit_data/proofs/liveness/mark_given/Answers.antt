use Rattle.std.proofs.Common.{◌≡◌, ◌<◌, ◌≤◌, ◌+◌, ℕ, length, map, get_or, false, Some, sym, subst, arith}
use Rattle.std.proofs.lemmas.List.{get_or-map}
use Rattle.standard_kinds.specs.declared.kinds.Primitive.TheVariants as prims
use Rattle.wit_data.specs.declared.types.Type.TheVariants.{Primitive}
use Rattle.wit_data.specs.Parts.{IsBelow}
use Rattle.wit_data.specs.Values.{value}
use Rattle.wit_data.specs.Live.{reaching}
use Rattle.wit_data.proofs.Values.{all_at}
use Rattle.wit_data.proofs.Marking.{SpreadsSoFar, spread_step, length_found}
use Rattle.wit_data.proofs.liveness.mark_given.Goals as goal

pub loop-n-preserved : goal.loop-n-preserved
loop-n-preserved c =
    let types = c.args.types.now in
    let given = c.args.given.now in
    let found = λ (target : ℕ). map (λ t. value (reaching target) types (Some t)) given in
    let none = Primitive prims.Bool in
    let ty = get_or given c.loop-n.n none in
    let in_range : c.loop-n.n < length given = c.loop-n-test.true in
    let all_in_range : (target : ℕ) → c.loop-n.n < length (found target) = λ target. omega (arith, in_range, length_found types given target) in
    let at : (target : ℕ) → value (reaching target) types (Some ty) ≡ get_or (found target) c.loop-n.n false = λ target. sym (get_or-map (λ t. value (reaching target) types (Some t)) given c.loop-n.n none false in_range) in
    let below = all_at (λ t. IsBelow (length types) (Some t)) given c.loop-n.n none c.requires.given in_range in
    let room : length types ≤ length c.args.marks.now = omega (arith, c.requires.long) in
    subst (λ marks. SpreadsSoFar types c.args.marks.now marks (length types) (c.loop-n.n + 1) found) (sym c.mark.ensures) (spread_step types c.args.marks.now c.loop-n.marks (length types) c.loop-n.n found (Some ty) c.requires.sound below room c.requires.long all_in_range at c.loop-n.invariant)
