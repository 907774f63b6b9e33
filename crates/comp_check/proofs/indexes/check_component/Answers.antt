use Rattle.std.proofs.Common.{◌∙◌, ◌∷◌, [], ◌<◌, List, Option, subst, map, take, length, ap, arith}
use Rattle.std.specs.List.{AllByRecursion}
use Rattle.std.proofs.lemmas.Result.{err_from_is_err_and}
use Rattle.comp_bytes.specs.Spaces.{item_space}
use Rattle.comp_bytes.specs.References.{item_references}
use Rattle.comp_bytes.specs.Scopes.{ItemScoped, InScope, InsideScoped}
use Rattle.comp_bytes.specs.declared.space.Space.{Space}
use Rattle.comp_check.specs.Indexes.{ItemFault}
use Rattle.comp_check.specs.declared.scope.Counts.{Counts}
use Rattle.comp_check.specs.Lacking.{counted, and_made, AroundFault}
use Rattle.comp_check.proofs.CheckedPrefix.{prefix_more, prefix_fault, prefix_small, taken}
use Rattle.comp_check.proofs.indexes.check_component.Goals as goal

pub returns-in_err-check_item_on-clause-cause : goal.returns-in_err-check_item_on-clause-cause
returns-in_err-check_item_on-clause-cause c =
    let p = err_from_is_err_and c.from_residual.result c.from_residual.ensures.1 in
    let e = c.in_err-check_item_on.field-0.0 in
    let outer = counted c.args.top.now ∷ [] in
    let i = c.loop-item_index.item_index in
    let item = c.index-inner-item_index.result in
    let lt : i < length c.args.inner.now = c.loop-item_index-test.true in
    let at = subst (λ (s : List Counts). AroundFault (map counted s) item e.space e.index) c.new.ensures c.in_err-check_item_on.ensures.cause.0 in
    let line = c.in_err-check_item_on.ensures.cause.1 in
    rw (p.1, p.2) (take i c.args.inner.now, prefix_fault item_space (ItemScoped outer) (ItemFault outer e.space e.index) c.loop-item_index.own c.args.inner.now i item c.loop-item_index.invariant lt c.index-inner-item_index.is at, omega (arith, line, taken c.args.inner.now i lt))

pub count-requires : goal.count-requires
count-requires c = λ space. omega (arith, prefix_small item_space (ItemScoped (counted c.args.top.now ∷ [])) c.loop-item_index.own c.args.inner.now c.loop-item_index.item_index c.loop-item_index.invariant space)

pub loop-item_index-preserved : goal.loop-item_index-preserved
loop-item_index-preserved c =
    let item = c.index-inner-item_index.result in
    let named = subst (λ (s : List Counts). AllByRecursion (InScope (map counted s)) (item_references item)) c.new.ensures c.in_ok-check_item_on.ensures.named in
    let inside = subst (λ (s : List Counts). InsideScoped (map counted s) item) c.new.ensures c.in_ok-check_item_on.ensures.within in
    prefix_more item_space (ItemScoped (counted c.args.top.now ∷ [])) c.loop-item_index.own c.count.new.self c.args.inner.now c.loop-item_index.item_index item c.loop-item_index.invariant c.loop-item_index-test.true c.index-inner-item_index.is (named, inside) (c.count.ensures ∙ ap (λ (made : Option Space). and_made (counted c.loop-item_index.own) made) c.item_space.ensures)
