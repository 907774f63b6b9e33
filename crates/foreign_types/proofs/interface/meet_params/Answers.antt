use Rattle.std.proofs.Common.{◌<◌, ◌≤◌, arith, [], length, get_or, ap, Some}
use Rattle.wit_data.specs.declared.functions.Param.{Param}
use Rattle.wit_data.specs.declared.types.Type.TheVariants.{Id}
use Rattle.foreign_types.proofs.Walking.{same_at, met_none, met_more, met_all}
use Rattle.foreign_types.proofs.interface.meet_params.Goals as goal

pub loop-n-init : goal.loop-n-init
loop-n-init c = (c.requires.right, λ d. met_none c.args.types.now c.args.here (λ (p : Param). Some p.ty) c.args.params.now d c.args.walk.now.listed)

pub loop-n-preserved : goal.loop-n-preserved
loop-n-preserved c =
    let n = c.loop-n.n in
    let within : n < length c.args.params.now = omega (arith, c.loop-n-test.true) in
    let of = c.in_ok-meet_part.ensures in
    let param : Param = c.index-params-n.result in (
      of.right,
      λ d. met_more c.args.types.now c.args.here (λ (p : Param). Some p.ty) c.args.params.now d c.args.walk.now.listed c.requires.back c.loop-n.walk.listed c.meet_part.new.walk.listed n (Some (get_or c.args.params.now n param).ty) within
          (ap (λ (p : Param). Some p.ty) (same_at c.args.params.now n param d within)) (c.loop-n.invariant.1 d) of.covered of.lists,
    )

abbrev nothing : Param
nothing = record { name = []; ty = Id (record { index = 0 }) }

pub returns-clause-covered : goal.returns-clause-covered
returns-clause-covered c =
    let past : length c.args.params.now ≤ c.loop-n.n = omega (arith, c.loop-n-test.false) in
    met_all c.args.types.now c.args.here (λ (p : Param). Some p.ty) c.args.params.now nothing c.args.walk.now.listed c.loop-n.walk.listed c.loop-n.n past (c.loop-n.invariant.1 nothing)

pub returns-clause-lists : goal.returns-clause-lists
returns-clause-lists c = (c.loop-n.invariant.1 nothing).lists
