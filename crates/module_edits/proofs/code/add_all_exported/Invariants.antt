use Rattle.std.proofs.Common.{◌≡◌, ℕ, ◌||◌, take}
use Rattle.std.specs.BTreeSet.{contains}
use Rattle.std.specs.Ordering.{nat_cmp}
use Rattle.core_parts.specs.Functions.{is_exported}
use Rattle.module_edits.proofs.code.add_all_exported.Given as goal

abbrev pub invariant-loop-export : goal.invariant-loop-export
invariant-loop-export l = (q : ℕ) → contains nat_cmp l.functions q ≡ (contains nat_cmp l.fn.functions q || is_exported (take l.export-index l.exports) q)
