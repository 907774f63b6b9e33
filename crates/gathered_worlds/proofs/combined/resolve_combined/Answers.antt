use Rattle.record_faults.specs.Faults.{of_record, flat}
use Rattle.gathered_worlds.specs.Causes.{CombinedCause}
use Rattle.gathered_worlds.proofs.Steps.{handed_out}
use Rattle.gathered_worlds.proofs.CombinedCauses.{merging_caused, all_exact, all_usable, all_caused, all_refused}
use Rattle.gathered_worlds.proofs.combined.resolve_combined.Goals as goal

pub returns-in_err-merged_versions-clause-cause : goal.returns-in_err-merged_versions-clause-cause
returns-in_err-merged_versions-clause-cause c =
    handed_out (λ e. CombinedCause c.args.merging c.args.wit.now (flat e)) c.from_residual.result (of_record c.in_err-merged_versions.field-0.0) c.from_residual.ensures.1
    (merging_caused c.args.merging c.args.wit.now c.in_err-merged_versions.field-0.0 c.in_err-merged_versions.ensures)

pub returns-clause-exact : goal.returns-clause-exact
returns-clause-exact c = all_exact c.args.merging c.args.wit.now c.in_ok-merged_versions.merged_versions _ c.in_ok-merged_versions.ensures c.resolve_merged-resolved.ensures.combined

pub returns-clause-usable : goal.returns-clause-usable
returns-clause-usable c = all_usable c.in_ok-merged_versions.merged_versions _ c.resolve_merged-resolved.ensures.combined

pub returns-clause-cause : goal.returns-clause-cause
returns-clause-cause c = all_caused c.args.merging c.args.wit.now c.in_ok-merged_versions.merged_versions _ c.in_ok-merged_versions.ensures c.resolve_merged-resolved.ensures.cause

pub returns-clause-refused : goal.returns-clause-refused
returns-clause-refused c = all_refused c.args.merging c.args.wit.now c.in_ok-merged_versions.merged_versions _ c.in_ok-merged_versions.ensures c.resolve_merged-resolved.ensures.combined
