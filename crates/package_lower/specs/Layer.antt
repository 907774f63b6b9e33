-- The results of the calls of this layer where they are not refused, the fault of memory, and when
-- merging and preparing are refused. (The faults are this project's own.)
use Rattle.std.specs.Prelude.{ℕ, Bool, true, false, List, []}
use Rattle.std.specs.Result.{result_unwrap_or}
use Rattle.world_values.specs.declared.gathered.Gathered.{Gathered}
use Rattle.gathered_worlds.specs.Causes as causes
use Rattle.record_faults.specs.declared.fault.PlainFault.{PlainFault}
use Rattle.record_faults.specs.declared.fault.PlainFault.TheVariants as plain_faults
use Rattle.record_merge.specs.declared.bindgen.Bindgen.{Bindgen}
use Rattle.record_merge.specs.Said.{nothing_said}
use Rattle.package_lower.specs.declared.fault.LowerFault.{LowerFault}
use Rattle.package_lower.specs.declared.fault.LowerFault.TheVariants as faults
use Rattle.package_lower.specs.Decoding.{decoding}

abbrev pub is_memory : LowerFault → Bool
is_memory (faults.Plain plain_faults.Memory) = true
is_memory _ = false

abbrev pub decoded : Bool → List ℕ → List ℕ × Bindgen
decoded rejects_older bytes = result_unwrap_or (decoding rejects_older bytes) ([], nothing_said)

-- what modules say together, and their world, are refused as those of records are
abbrev pub by_plain : (PlainFault → Type 0) → LowerFault → Type 0
by_plain P (faults.Plain f) = P f
by_plain P (faults.Package n fault) = ⊥
by_plain P (faults.SeveralMeanings name) = ⊥

abbrev pub MergeCause : Bindgen → Bindgen → LowerFault → Type 0
MergeCause a b fault = by_plain (causes.MergeCause a b) fault

abbrev pub PrepareCause : Gathered Bindgen → LowerFault → Type 0
PrepareCause g fault = by_plain (causes.PrepareCause g) fault
