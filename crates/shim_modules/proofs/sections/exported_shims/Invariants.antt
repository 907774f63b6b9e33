use Rattle.std.proofs.Common.{◌≡◌, ◌++◌, drop}
use Rattle.shim_modules.specs.Shims.{shim_exports}
use Rattle.shim_modules.proofs.sections.exported_shims.Given as goal

abbrev pub invariant-loop-number : goal.invariant-loop-number
invariant-loop-number l = l.section ++ shim_exports l.number (drop l.number l.shims) ≡ shim_exports 0 l.shims
