-- The byte of a kind of core item. Core standard, binary format: exports. Component model, binary format: `core:sort`.
use Rattle.std.specs.Prelude.{ℕ}
use Rattle.standard_kinds.specs.declared.kinds.ExportKind.{ExportKind}
use Rattle.standard_kinds.specs.declared.kinds.ExportKind.TheVariants as kinds

-- core:sort, of the kinds that a core instance exports
abbrev pub kind_byte : ExportKind → ℕ
kind_byte kinds.Func = 0x00
kind_byte kinds.Table = 0x01
kind_byte kinds.Memory = 0x02
kind_byte kinds.Global = 0x03
