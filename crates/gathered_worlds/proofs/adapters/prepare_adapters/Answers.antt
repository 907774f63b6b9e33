use Rattle.std.proofs.Common.{◌∷◌, ℕ, List, [], subst}
use Rattle.record_merge.specs.declared.bindgen.Bindgen.{Bindgen}
use Rattle.world_values.specs.declared.gathered.GatheredAdapter.{GatheredAdapter}
use Rattle.gathered_worlds.specs.Causes.{AdaptersCause}
use Rattle.gathered_worlds.specs.Arguments.{Adapters}
use Rattle.gathered_worlds.specs.Preparing.{adapters_after}
use Rattle.gathered_worlds.proofs.Adding.{AdaptersSoFar, adapters_step, name_absent, all_fine, given_out, stopped, caused}
use Rattle.gathered_worlds.proofs.CheckingCauses.{handed_out}
use Rattle.gathered_worlds.proofs.adapters.prepare_adapters.Goals as goal

pub add_adapter-requires-clause-absent : goal.add_adapter-requires-clause-absent
add_adapter-requires-clause-absent c =
    let r = c.args.resolved.now in
    let reach = c.args.reach.now in
    let all = c.args.adapters.now in
    let made = c.loop-name.made in
    let entry : List ℕ × GatheredAdapter Bindgen = (c.in-Some.name.now, c.in-Some.adapter.now) in
    let before : AdaptersSoFar r reach all (entry ∷ c.next.new.self) made = subst (λ (rest : Adapters). AdaptersSoFar r reach all rest made) c.in-Some.ensures.steps c.loop-name.invariant.2 in
    name_absent r reach all c.next.new.self entry.0 entry.1 made before c.loop-name.invariant.3

pub loop-name-preserved : goal.loop-name-preserved
loop-name-preserved c =
    let r = c.args.resolved.now in
    let reach = c.args.reach.now in
    let all = c.args.adapters.now in
    let made = c.loop-name.made in
    let entry : List ℕ × GatheredAdapter Bindgen = (c.in-Some.name.now, c.in-Some.adapter.now) in
    let before : AdaptersSoFar r reach all (entry ∷ c.next.new.self) made = subst (λ (rest : Adapters). AdaptersSoFar r reach all rest made) c.in-Some.ensures.steps c.loop-name.invariant.2 in (
      tt,
      tt,
      adapters_step r reach all c.next.new.self entry made c.add_adapter.new.made before c.in_ok-add_adapter.ensures.ok,
      c.loop-name.invariant.3,
    )

pub returns-in_err-add_adapter-clause-exact : goal.returns-in_err-add_adapter-clause-exact
returns-in_err-add_adapter-clause-exact c =
    let r = c.args.resolved.now in
    let reach = c.args.reach.now in
    let all = c.args.adapters.now in
    let made = c.loop-name.made in
    let entry : List ℕ × GatheredAdapter Bindgen = (c.in-Some.name.now, c.in-Some.adapter.now) in
    let before : AdaptersSoFar r reach all (entry ∷ c.next.new.self) made = subst (λ (rest : Adapters). AdaptersSoFar r reach all rest made) c.in-Some.ensures.steps c.loop-name.invariant.2 in
    given_out c.from_residual.result (adapters_after r reach [] all) c.in_err-add_adapter.field-0.0 c.from_residual.ensures.1
    (λ other. stopped r reach all c.next.new.self entry made c.in_err-add_adapter.field-0.0 before (c.in_err-add_adapter.ensures.err other))

pub returns-in_err-add_adapter-clause-cause : goal.returns-in_err-add_adapter-clause-cause
returns-in_err-add_adapter-clause-cause c =
    let r = c.args.resolved.now in
    let reach = c.args.reach.now in
    let all = c.args.adapters.now in
    let made = c.loop-name.made in
    let entry : List ℕ × GatheredAdapter Bindgen = (c.in-Some.name.now, c.in-Some.adapter.now) in
    let before : AdaptersSoFar r reach all (entry ∷ c.next.new.self) made = subst (λ (rest : Adapters). AdaptersSoFar r reach all rest made) c.in-Some.ensures.steps c.loop-name.invariant.2 in
    handed_out (λ f. AdaptersCause r reach all f) c.from_residual.result c.in_err-add_adapter.field-0.0 c.from_residual.ensures.1
    (λ f e. caused r reach all c.next.new.self entry made f before (c.in_err-add_adapter.ensures.cause f e))

pub returns-clause-refused : goal.returns-clause-refused
returns-clause-refused c = λ ok.
    let r = c.args.resolved.now in
    let reach = c.args.reach.now in
    let all = c.args.adapters.now in
    let made = c.loop-name.made in
    all_fine r reach all made (subst (λ (rest : Adapters). AdaptersSoFar r reach all rest made) c.in-None.ensures.steps.0 c.loop-name.invariant.2)
