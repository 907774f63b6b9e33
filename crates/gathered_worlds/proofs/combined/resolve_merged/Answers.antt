use Rattle.std.proofs.Common.{◌≡◌, Bool, Ok}
use Rattle.record_faults.specs.Faults.{of_record, flat}
use Rattle.record_values.specs.declared.world.Wit.{Wit}
use Rattle.record_versions.specs.MergedVersions.{merged_versions}
use Rattle.gathered_worlds.specs.Causes.{CombinedCause}
use Rattle.gathered_worlds.proofs.Steps.{handed_out}
use Rattle.gathered_worlds.proofs.CombinedCauses.{resolving_caused}
use Rattle.gathered_worlds.proofs.combined.resolve_merged.Goals as goal

pub returns-in_err-resolved-clause-cause : goal.returns-in_err-resolved-clause-cause
returns-in_err-resolved-clause-cause c =
    handed_out (λ e. (merging : Bool) (w : Wit) → merged_versions merging w ≡ Ok c.args.merged_versions.now → CombinedCause merging w (flat e)) c.from_residual.result (of_record c.in_err-resolved.field-0.0) c.from_residual.ensures.1
    (λ other merging w is. resolving_caused merging w c.args.merged_versions.now c.in_err-resolved.field-0.0 is c.in_err-resolved.ensures other)
