-- Reading the items of an array one after the other, as a loop does.
use Rattle.std.proofs.Common.{List, ◌++◌, Result, Ok}
use Rattle.json_paths.specs.declared.fault.Failure.{Failure}
use Rattle.json_paths.specs.Faults.{◌>>=◌}

-- what was read so far, and what is still to be read
abbrev pub with_front : {A : Type 0} → List A → Result (List A) Failure → Result (List A) Failure
with_front front read = read >>= λ xs. Ok (front ++ xs)
