use Rattle.std.proofs.Common.{◌≤◌, length, arith, refl}
use Rattle.wit_data.proofs.Limits.{within_all}
use Rattle.wit_data.proofs.sizes.are_within.Goals as goal

pub returns : goal.returns
returns c =
    let all : length c.args.types.now ≤ c.loop-id.id = omega (arith, c.loop-id-test.false) in
    (λ h. within_all c.args.types.now c.loop-id.id all c.loop-id.invariant, λ h. refl)
