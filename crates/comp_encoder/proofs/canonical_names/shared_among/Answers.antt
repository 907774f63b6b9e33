use Rattle.std.proofs.Common.{◌≡◌, ◌∙◌, List, is_some, true, false, subst, sym}
use Rattle.wit_data.specs.declared.worlds.WorldItem.{WorldItem}
use Rattle.wit_data.specs.declared.worlds.WorldKey.{WorldKey}
use Rattle.comp_encoder.proofs.MeetingNames.{NamesSoFar, names_start, next_key, shared_found, names_on, names_done}
use Rattle.comp_encoder.proofs.canonical_names.shared_among.Goals as goal

pub loop-key-init : goal.loop-key-init
loop-key-init c =
    let r = c.args.resolve.now in
    let all = c.args.entries.now in
    let items : c.into_iter-key-iterator.result ≡ all = c.into_iter-key-iterator.ensures.into_iter_gives ∙ c.iter-key-items.ensures.rest in
    (tt, tt, subst (λ (es : List (WorldKey × WorldItem)). NamesSoFar r all c.new-met.result es) (sym items) (names_start r all c.new-met.result c.new-met.ensures))

pub meet_key-requires : goal.meet_key-requires
meet_key-requires c =
    let r = c.args.resolve.now in
    let all = c.args.entries.now in
    let e : WorldKey × WorldItem = (c.in-Some.key.now, c.in-Some._item.now) in
    next_key r all c.loop-key.met e c.next.new.self (subst (λ (es : List (WorldKey × WorldItem)). NamesSoFar r all c.loop-key.met es) c.in-Some.ensures.steps c.loop-key.invariant.2) c.requires

pub returns-then-is_some : goal.returns-then-is_some
returns-then-is_some c =
    let r = c.args.resolve.now in
    let all = c.args.entries.now in
    let e : WorldKey × WorldItem = (c.in-Some.key.now, c.in-Some._item.now) in
    let some : is_some c.in_ok-shared.shared ≡ true = sym c.is_some.ensures ∙ c.if-is_some.true in
    shared_found r all c.loop-key.met e c.next.new.self (subst (λ (es : List (WorldKey × WorldItem)). NamesSoFar r all c.loop-key.met es) c.in-Some.ensures.steps c.loop-key.invariant.2) c.meet_key.new.met c.in_ok-shared.shared some
    c.in_ok-shared.ensures

pub loop-key-preserved-else-is_some : goal.loop-key-preserved-else-is_some
loop-key-preserved-else-is_some c =
    let r = c.args.resolve.now in
    let all = c.args.entries.now in
    let e : WorldKey × WorldItem = (c.in-Some.key.now, c.in-Some._item.now) in
    let none : is_some c.in_ok-shared.shared ≡ false = sym c.is_some.ensures ∙ c.if-is_some.false in (
      tt,
      tt,
      names_on r all c.loop-key.met e c.next.new.self (subst (λ (es : List (WorldKey × WorldItem)). NamesSoFar r all c.loop-key.met es) c.in-Some.ensures.steps c.loop-key.invariant.2) c.meet_key.new.met c.in_ok-shared.shared none
          c.in_ok-shared.ensures,
    )

pub loop-key-preserved : goal.loop-key-preserved
loop-key-preserved c =
    let r = c.args.resolve.now in
    let all = c.args.entries.now in
    let e : WorldKey × WorldItem = (c.in-Some.key.now, c.in-Some._item.now) in
    let none : is_some c.in_ok-shared.shared ≡ false = sym c.is_some.ensures ∙ c.if-is_some.false in (
      tt,
      tt,
      names_on r all c.loop-key.met e c.next.new.self (subst (λ (es : List (WorldKey × WorldItem)). NamesSoFar r all c.loop-key.met es) c.in-Some.ensures.steps c.loop-key.invariant.2) c.meet_key.new.met c.in_ok-shared.shared none
          c.in_ok-shared.ensures,
    )

pub returns : goal.returns
returns c =
    let r = c.args.resolve.now in
    let all = c.args.entries.now in
    names_done r all c.loop-key.met (subst (λ (es : List (WorldKey × WorldItem)). NamesSoFar r all c.loop-key.met es) c.in-None.ensures.steps.0 c.loop-key.invariant.2)
