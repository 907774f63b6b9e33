-- The result of decoding where it is not refused. (The record is this project's own.)
use Rattle.std.specs.Prelude.{ℕ, List, []}
use Rattle.std.specs.Result.{result_unwrap_or}
use Rattle.record_merge.specs.declared.bindgen.Bindgen.{Bindgen}
use Rattle.record_merge.specs.Said.{nothing_said}
use Rattle.plain_lower.specs.ModuleRecords.{decoding}

abbrev pub decoded : List ℕ → List ℕ × Bindgen
decoded bytes = result_unwrap_or (decoding bytes) ([], nothing_said)
