use Rattle.std.proofs.Common.{◌∙◌, arith, true, false, sym}
use Rattle.std.specs.Map.{keys_of}
use Rattle.nested_components.proofs.Freeing.{found_taken, tried_none, tried_more, smaller, count_fits}
use Rattle.nested_components.proofs.names.first_free.Goals as goal

pub loop-free-init : goal.loop-free-init
loop-free-init c = tried_none (keys_of c.args.taken.now) c.args.name

pub loop-free-preserved : goal.loop-free-preserved
loop-free-preserved c =
    let there = found_taken c.args.taken.now c.loop-free.free true (sym c.contains_key.ensures ∙ c.loop-free-test.true) in
    tried_more (keys_of c.args.taken.now) c.args.name c.loop-free.free c.in_ok-free.free c.loop-free.count there c.in_ok-free.ensures.numbered c.loop-free.invariant

pub loop-free-smaller : goal.loop-free-smaller
loop-free-smaller c =
    let there = found_taken c.args.taken.now c.loop-free.free true (sym c.contains_key.ensures ∙ c.loop-free-test.true) in
    smaller (keys_of c.args.taken.now) c.loop-free.free c.in_ok-free.free c.loop-free.count (omega (arith, c.loop-free.auto.count-fits)) there c.in_ok-free.ensures.numbered

pub overflow_add-count : goal.overflow_add-count
overflow_add-count c =
    let tried = loop-free-preserved c in
    let fits = count_fits (keys_of c.args.taken.now) c.args.name c.in_ok-free.free c.loop-free.count (omega (arith, c.loop-free.auto.count-fits)) tried c.in_ok-free.ensures.short in
    omega (arith, fits)

pub returns : goal.returns
returns c =
    record {
      count = c.loop-free.count;
      few = omega (arith, c.loop-free.auto.count-fits);
      same = c.loop-free.invariant.same;
      is_free = found_taken c.args.taken.now c.loop-free.free false (sym c.contains_key.ensures ∙ c.loop-free-test.false);
      fewer = c.loop-free.invariant.fewer;
    }
