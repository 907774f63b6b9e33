-- What several modules say of their world. (This project's own.)
use Rattle.std.specs.Prelude.{Result}
use Rattle.world_values.specs.declared.gathered.Merged.{Merged}
use Rattle.record_merge.specs.declared.bindgen.Bindgen.{Bindgen}
use Rattle.record_merge.specs.Merging.{merged}
use Rattle.record_faults.specs.declared.fault.Failure.{Failure}
use Rattle.record_faults.specs.Faults.{read}
use Rattle.gathered_worlds.specs.Equalities.{tests}

abbrev pub merging : Bindgen → Bindgen → Result (Merged Bindgen) Failure
merging a b = read (merged tests a b)
