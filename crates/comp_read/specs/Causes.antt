-- Why bytes are refused: they encode no list that a program can hold. Component model, binary format.
use Rattle.std.specs.Prelude.{ℕ, List}
use Rattle.comp_bytes.specs.Grammar.{Encodes}
use Rattle.comp_bytes.specs.declared.def.Def.{Def}
use Rattle.comp_read.specs.Writable.{IsWritable}
use Rattle.comp_read.specs.Stops.{IsFaultOffset}
use Rattle.comp_read.specs.declared.fault.ReadFault.{ReadFault}
use Rattle.comp_read.specs.declared.fault.ReadFault.TheVariants as reads

abbrev pub EncodesNone : List ℕ → Type 0
EncodesNone bytes = (ds : List Def) → IsWritable ds → Encodes bytes ds → ⊥

-- Out of memory is always allowed. Else the fault has the offset of the innermost section that can't be read.
abbrev pub IsRefusal : List ℕ → ReadFault → Type 0
IsRefusal bytes reads.Memory = Unit {0}
IsRefusal bytes (reads.Grammar offset) = EncodesNone bytes × IsFaultOffset bytes offset
