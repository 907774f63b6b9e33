use Rattle.gathered_worlds.specs.Causes.{MergeCause}
use Rattle.record_faults.specs.Faults.{of_record, flat}
use Rattle.gathered_worlds.proofs.Steps.{handed_out, merge_caused, merge_has_none}
use Rattle.gathered_worlds.proofs.merging.merge.Goals as goal

pub returns-in_err-merge-clause-cause : goal.returns-in_err-merge-clause-cause
returns-in_err-merge-clause-cause c =
    handed_out (λ e. MergeCause c.args.first.now c.args.second.now (flat e)) c.from_residual.result (of_record c.in_err-merge.field-0.0) c.from_residual.ensures.1
    (merge_caused c.args.first.now c.args.second.now c.in_err-merge.field-0.0 c.in_err-merge.ensures.cause)

pub returns-clause-refused : goal.returns-clause-refused
returns-clause-refused c = λ ok f k. merge_has_none c.args.first.now c.args.second.now (c.in_ok-merge.ensures.refused ok) f k
