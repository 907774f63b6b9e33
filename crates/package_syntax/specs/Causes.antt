-- Why bytes are refused: they spell no package that a program can hold. Component model, binary format.
use Rattle.std.specs.Prelude.{ℕ, ◌≡◌, List, Err}
use Rattle.package_syntax.specs.declared.fault.SyntaxFault.{SyntaxFault}
use Rattle.package_syntax.specs.declared.fault.SyntaxFault.TheVariants as faults
use Rattle.package_syntax.specs.declared.syntax.Section.{Section}
use Rattle.package_syntax.specs.Syntax.{Spells}
use Rattle.package_syntax.specs.Writable.{IsWritable}
use Rattle.package_syntax.specs.Sections.{package_at}

abbrev pub SpellsNone : List ℕ → Type 0
SpellsNone bytes = (ss : List Section) → IsWritable ss → Spells bytes ss → ⊥

-- Out of memory is always allowed. Else the bytes spell nothing, and the refusal is the first.
abbrev pub IsRefusal : List ℕ → SyntaxFault → Type 0
IsRefusal bytes faults.Memory = Unit {0}
IsRefusal bytes (faults.Refused r) = SpellsNone bytes × (package_at bytes ≡ Err r)
