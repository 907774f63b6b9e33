use Rattle.std.proofs.Common.{◌≡◌, ◌++◌, drop}
use Rattle.interned_types.proofs.interning.type_section.Given as goal

abbrev pub invariant-loop-ty : goal.invariant-loop-ty
invariant-loop-ty l = l.section ++ drop l.ty-index l.types ≡ l.types
