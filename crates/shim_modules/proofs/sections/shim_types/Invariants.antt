use Rattle.std.proofs.Common.{◌≡◌, ◌++◌, map, drop}
use Rattle.shim_modules.proofs.sections.shim_types.Given as goal

abbrev pub invariant-loop-shim : goal.invariant-loop-shim
invariant-loop-shim l = l.section ++ map (λ s. s.code.type_index) (drop l.shim-index l.shims) ≡ map (λ s. s.code.type_index) l.shims
