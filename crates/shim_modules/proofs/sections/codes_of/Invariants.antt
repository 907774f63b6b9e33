use Rattle.std.proofs.Common.{◌≡◌, ◌++◌, map, drop}
use Rattle.shim_modules.proofs.sections.codes_of.Given as goal

abbrev pub invariant-loop-shim : goal.invariant-loop-shim
invariant-loop-shim l = l.codes.items ++ map (λ s. s.code) (drop l.shim-index l.shims) ≡ map (λ s. s.code) l.shims
