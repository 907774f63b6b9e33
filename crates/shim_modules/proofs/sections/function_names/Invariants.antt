use Rattle.std.proofs.Common.{◌≡◌, ◌++◌, drop}
use Rattle.shim_modules.specs.Shims.{shim_names}
use Rattle.shim_modules.proofs.sections.function_names.Given as goal

abbrev pub invariant-loop-number : goal.invariant-loop-number
invariant-loop-number l = l.names ++ shim_names l.number (drop l.number l.shims) ≡ shim_names 0 l.shims
