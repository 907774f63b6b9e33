use Rattle.record_resolve.specs.Resolved.{resolved_after}
use Rattle.record_resolve.proofs.After.{kept}
use Rattle.record_resolve.proofs.resolving.resolve_after.Goals as goal

pub returns : goal.returns
unfolding resolved_after
returns c =
    let exports = rw c.new.ensures at c.export_all-exports.ensures in
    kept _ _ _ _ _ _ exports c.in_ok-inward.ensures c.put_together.ensures
