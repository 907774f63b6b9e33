use Rattle.std.proofs.Common.{◌≡◌, ◌∙◌, ◌∷◌, List, Some, None, Option, ap, subst, map, take, arith}
use Rattle.std.proofs.lemmas.Result.{err_from_is_err_and}
use Rattle.comp_bytes.specs.Spaces.{member_space}
use Rattle.comp_bytes.specs.References.{member_references}
use Rattle.comp_bytes.specs.Scopes.{MemberScoped}
use Rattle.comp_bytes.specs.declared.space.Space.{Space}
use Rattle.comp_check.specs.Indexes.{MemberFault}
use Rattle.comp_check.specs.declared.scope.Counts.{Counts}
use Rattle.comp_check.specs.Lacking.{counted, lacking, and_made}
use Rattle.comp_check.proofs.CheckedPrefix.{all_there, one_missing, prefix_more, prefix_fault, prefix_small}
use Rattle.comp_check.proofs.indexes.check_members.Goals as goal

pub returns-in_err-check_member-clause-cause : goal.returns-in_err-check_member-clause-cause
returns-in_err-check_member-clause-cause c =
    let p = err_from_is_err_and c.from_residual.result c.from_residual.ensures.1 in
    let lack = c.in_err-check_member.field-0.0 in
    let outer = map counted c.args.outer.now in
    let at = one_missing (c.loop-member.own ∷ c.args.outer.now) (member_references c.member-item.result) lack (subst (λ (s : List Counts). lacking s (member_references c.member-item.result) ≡ Some lack) c.new.ensures c.in_err-check_member.ensures) in
    rw (p.1, p.2) (take c.loop-member.member-index c.args.members.now, prefix_fault member_space (MemberScoped outer) (MemberFault outer lack.space lack.index) c.loop-member.own c.args.members.now c.loop-member.member-index c.member-item.result c.loop-member.invariant c.loop-member-test.true c.member-item.is at)

pub count-requires : goal.count-requires
count-requires c = λ space. omega (arith, prefix_small member_space (MemberScoped (map counted c.args.outer.now)) c.loop-member.own c.args.members.now c.loop-member.member-index c.loop-member.invariant space)

pub loop-member-preserved : goal.loop-member-preserved
loop-member-preserved c =
    let there = all_there (c.loop-member.own ∷ c.args.outer.now) (member_references c.member-item.result) (subst (λ (s : List Counts). lacking s (member_references c.member-item.result) ≡ None) c.new.ensures c.in_ok-check_member.ensures) in
    prefix_more member_space (MemberScoped (map counted c.args.outer.now)) c.loop-member.own c.count.new.self c.args.members.now c.loop-member.member-index c.member-item.result c.loop-member.invariant c.loop-member-test.true c.member-item.is there (c.count.ensures ∙ ap (λ (made : Option Space). and_made (counted c.loop-member.own) made) c.member_space.ensures)
