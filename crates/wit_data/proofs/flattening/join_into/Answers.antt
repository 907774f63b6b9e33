use Rattle.std.proofs.Common.{◌≤◌, length, ◌∙◌, sym, arith}
use Rattle.wit_data.proofs.Joining.{joined_all}
use Rattle.wit_data.proofs.flattening.join_into.Goals as goal

pub returns : goal.returns
returns c =
    let all : length c.args.others.now ≤ c.loop-index.index = omega (arith, c.loop-index-test.false) in
    sym (joined_all c.loop-index.values.items c.args.others.now c.loop-index.index all) ∙ c.loop-index.invariant
