use Rattle.std.proofs.Common.{◌≡◌, ◌∙◌, ◌<◌, arith, List, [], ◌∷◌, ap, refl, sym, subst, length, get_or, OnOk}
use Rattle.wit_data.specs.Parts.{parts}
use Rattle.wit_data.specs.Values.{kind_at, part_values}
use Rattle.wit_data.proofs.Meeting.{met_at, parts_long}
use Rattle.type_scopes.specs.Foreign.{meeting, met_in, with_each}
use Rattle.type_scopes.specs.declared.outer_type.OuterType.{OuterType}
use Rattle.type_scopes.proofs.Meeting.{met_step, met_other, met_own, entered_before, entered_now, entered_kept}
use Rattle.type_scopes.proofs.other_interfaces.+meeting.Goals as goal

pub enter_type-returns-in_ok-insert_if_absent-in-Some-clause-met : goal.enter_type-returns-in_ok-insert_if_absent-in-Some-clause-met
enter_type-returns-in_ok-insert_if_absent-in-Some-clause-met t c =
    let types = c.args.types.now in
    let inside = met_other types c.args.here c.in-Some.interface c.args.id.index c.owner_of.result c.foreign.result c.requires.back c.requires.present c.owner_of.ensures c.foreign.ensures c.in-Some.is in
    c.in_ok-insert_if_absent-in-Some.ensures.ok ∙ ap (with_each c.args.met.now.types) (sym inside)

pub enter_type-returns-in_ok-insert_if_absent-in-Some-clause-entered : goal.enter_type-returns-in_ok-insert_if_absent-in-Some-clause-entered
enter_type-returns-in_ok-insert_if_absent-in-Some-clause-entered t c =
    entered_kept c.args.types.now c.args.here c.args.met.now (record c.args.met.now { types = c.insert_if_absent.new.self }) (record { interface = c.in-Some.interface; id = c.args.id } ∷ []) c.requires.entered c.in_ok-insert_if_absent-in-Some.ensures.ok refl

pub enter_type-returns-in-None-clause-met : goal.enter_type-returns-in-None-clause-met
enter_type-returns-in-None-clause-met t c =
    let types = c.args.types.now in
    let inside = met_own types c.args.here c.args.id.index c.owner_of.result c.foreign.result c.requires.back c.requires.present c.owner_of.ensures c.foreign.ensures c.in-None.is in
    subst (λ (ts : List OuterType). OnOk c.meet_parts.result (c.meet_parts.new.met.types ≡ with_each c.args.met.now.types ts)) (sym inside) c.meet_parts.ensures.met

pub meet_parts-loop-n-preserved : goal.meet_parts-loop-n-preserved
meet_parts-loop-n-preserved t c =
    let types = c.args.types.now in
    let m = meeting types c.args.here in
    let n = c.loop-n.n in
    let found = part_values m types c.args.id.index in
    let here : n < length (parts (kind_at types c.args.id.index)) = omega (arith, c.loop-n-test.true, c.part_count_of-n-end.ensures) in
    let within : n < length found = omega (arith, here, parts_long m types c.args.id.index) in
    let at : met_in types c.args.here c.part_of.result ≡ get_or found n [] = met_at m types c.args.id.index n (met_in types c.args.here c.part_of.result) c.part_of.result here refl c.part_of.ensures.value in
    (met_step c.args.met.now.types c.loop-n.met.types c.meet_part.new.met.types n found within (c.in_ok-meet_part.ensures.met ∙ ap (with_each c.loop-n.met.types) at) c.loop-n.invariant.0, c.in_ok-meet_part.ensures.entered)

pub meet_type-returns-then-contains_key-clause-met : goal.meet_type-returns-then-contains_key-clause-met
meet_type-returns-then-contains_key-clause-met t c = entered_before c.args.types.now c.args.here c.args.met.now c.args.id c.contains_key.result c.requires.entered c.contains_key.ensures c.if-contains_key.true

pub meet_type-returns-clause-entered : goal.meet_type-returns-clause-entered
meet_type-returns-clause-entered t c =
    let mid = c.enter_type.new.met in
    entered_now c.args.types.now c.args.here c.args.met.now mid (record mid { entered = c.insert_if_absent.new.self }) c.args.id c.in_ok-enter_type.ensures.entered c.in_ok-enter_type.ensures.met refl c.in_ok-insert_if_absent.ensures.ok
