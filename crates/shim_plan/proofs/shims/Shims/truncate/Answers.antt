use Rattle.shim_plan.proofs.Entries.{kept_plan}
use Rattle.shim_plan.proofs.shims.Shims.truncate.Goals as goal

pub invariant_of-self : goal.invariant_of-self
invariant_of-self c = kept_plan _ c.self.inside.shims.entries c.truncate.new.self.entries c.self.invariant c.truncate.ensures.entries
