use Rattle.std.proofs.Common.{ℕ, List, ◌∷◌, subst}
use Rattle.comp_worlds.specs.declared.world.WorldAdapter.{WorldAdapter}
use Rattle.shim_plan.proofs.Appending.{exits}
use Rattle.world_shims.proofs.Planned.{AppendedSoFar, one_more, one_refused}
use Rattle.world_shims.proofs.plan.append_adapters.Goals as goal

pub loop-name-preserved : goal.loop-name-preserved
loop-name-preserved c =
    let w = c.args.world.now in
    let a : List ℕ × WorldAdapter = (c.in-Some.name.now, c.in-Some.field-0-1.now) in
    let before : AppendedSoFar w c.args.shims.now w.adapters c.loop-name.shims (a ∷ c.next.new.self) =
    subst (λ (es : List (List ℕ × WorldAdapter)). AppendedSoFar w c.args.shims.now w.adapters c.loop-name.shims es) c.in-Some.ensures.steps c.loop-name.invariant.2 in (
      tt,
      tt,
      one_more w c.args.shims.now w.adapters c.loop-name.shims c.append_indirect.new.self a c.next.new.self c.as_str.result.now before c.as_str.ensures c.in_ok-append_indirect.ensures.ok c.in_ok-append_indirect.ensures.encoded,
    )

pub returns-in_err-append_indirect-clause-cause : goal.returns-in_err-append_indirect-clause-cause
returns-in_err-append_indirect-clause-cause c =
    let w = c.args.world.now in
    let a : List ℕ × WorldAdapter = (c.in-Some.name.now, c.in-Some.field-0-1.now) in
    let before : AppendedSoFar w c.args.shims.now w.adapters c.loop-name.shims (a ∷ c.next.new.self) =
    subst (λ (es : List (List ℕ × WorldAdapter)). AppendedSoFar w c.args.shims.now w.adapters c.loop-name.shims es) c.in-Some.ensures.steps c.loop-name.invariant.2 in
    exits _ _ _ c.from_residual.ensures.1
    (one_refused w c.args.shims.now w.adapters c.loop-name.shims a c.next.new.self c.as_str.result.now _ before c.as_str.ensures c.in_err-append_indirect.ensures.cause)
