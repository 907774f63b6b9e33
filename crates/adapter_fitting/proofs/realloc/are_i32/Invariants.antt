use Rattle.std.proofs.Common.{◌≡◌, ◌+◌, ◌≤◌, length, drop}
use Rattle.std.specs.Prelude.{filter}
use Rattle.adapter_fitting.specs.Stack.{is_i32}
use Rattle.adapter_fitting.proofs.realloc.are_i32.Given as goal

abbrev pub invariant-loop-ty : goal.invariant-loop-ty
invariant-loop-ty l = (l.numbers + length (filter is_i32 (drop l.ty-index l.types)) ≡ length (filter is_i32 l.types)) × (l.numbers ≤ l.ty-index)
