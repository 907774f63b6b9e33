use Rattle.std.proofs.Common.{◌≡◌, ◌∙◌, ◌+◌, ap, arith}
use Rattle.core_parts.specs.Functions.{is_exported}
use Rattle.module_edits.proofs.Bodies.{body_written}
use Rattle.module_edits.proofs.code.put_bodies.Goals as goal

pub loop-body-preserved : goal.loop-body-preserved
loop-body-preserved c =
    let calls : c.contains.result ≡ is_exported c.args.exports.now (c.args.first + c.loop-body.body-index) = c.contains.ensures ∙ c.requires c.loop-body.index ∙ ap (is_exported c.args.exports.now) c.loop-body.invariant.0 in (
      omega (arith, c.loop-body.invariant.0),
      body_written c.args.exports.now c.args.call.now c.args.first c.args.bodies.now c.loop-body.body-index _ _ _ _ _ c.loop-body-test.true calls c.loop-body.invariant.1 c.in_ok-put_body.ensures,
    )
