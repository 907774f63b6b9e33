use Rattle.std.proofs.Common.{◌≡◌, drop}
use Rattle.record_merge.specs.Encodings.{with_functions}
use Rattle.record_merge.proofs.encodings.add_functions.Given as goal

abbrev pub invariant-loop-function : goal.invariant-loop-function
invariant-loop-function l =
    with_functions l.encoding l.key l.table (drop l.function-index l.functions) ≡ with_functions l.encoding l.key l.fn.table l.functions
