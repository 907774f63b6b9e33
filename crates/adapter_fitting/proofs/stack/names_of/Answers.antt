use Rattle.std.proofs.Common.{◌≡◌, ◌∙◌, ◌++◌, map, ap, arith}
use Rattle.std.proofs.lemmas.List.{map-append}
use Rattle.module_edits.proofs.Remaining.{none_of}
use Rattle.std.specs.Global.{Vec}
use Rattle.core_parts.specs.Names.{name_view}
use Rattle.core_parts.specs.declared.names.GlobalName.{GlobalName}
use Rattle.adapter_fitting.specs.Places.{placed_view}
use Rattle.adapter_fitting.specs.Stack.{names_of}
use Rattle.adapter_fitting.proofs.Chains.{read_exits}
use Rattle.adapter_fitting.proofs.Naming.{behind_nothing, names_next_at, names_fail_at, names_end}
use Rattle.adapter_fitting.proofs.stack.names_of.Goals as goal

pub loop-section-init : goal.loop-section-init
loop-section-init c = rw c.new-names.ensures.items (behind_nothing (names_of (map placed_view c.args.sections.now)))

pub loop-section-preserved : goal.loop-section-preserved
loop-section-preserved c =
    let e : map name_view c.extend_from_slice.new.self.items ≡ map name_view c.loop-section.names.items ++ map name_view c.in_ok-more.more.items =
    ap (map name_view) (rw c.deref.ensures.value at c.in_ok-extend_from_slice.ensures.items) ∙ map-append name_view c.loop-section.names.items c.in_ok-more.more.items in
    rw e (names_next_at c.args.sections.now c.loop-section.section-index _ _ _ _ c.loop-section-test.true c.in_ok-more.ensures c.loop-section.invariant)

pub returns-in_err-more : goal.returns-in_err-more
returns-in_err-more c =
    read_exits (λ (v : Vec GlobalName). map name_view v.items) _ _ _ c.from_residual.ensures.1
    (names_fail_at (λ (v : Vec GlobalName). map name_view v.items) _ c.args.sections.now c.loop-section.section-index _ _ _ c.loop-section-test.true c.in_err-more.ensures c.loop-section.invariant)

pub returns : goal.returns
returns c = names_end (map name_view c.loop-section.names.items) _ _ (none_of placed_view c.args.sections.now c.loop-section.section-index (omega (arith, c.loop-section-test.false))) c.loop-section.invariant
