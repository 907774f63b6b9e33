-- Reading the arguments of instantiations, and options of canonical functions. Component model, binary format:
-- `core:instantiatearg`, `core:inlineexport`, `instantiatearg`, `canonopt`.
use Rattle.std.specs.Prelude.{ℕ, ◌==◌, if◌then◌else◌, Some, None}
use Rattle.comp_bytes.specs.declared.canon.CanonicalOption.{CanonicalOption}
use Rattle.comp_bytes.specs.declared.canon.CanonicalOption.TheVariants as canonical
use Rattle.comp_bytes.specs.declared.def.CoreArgument.{CoreArgument}
use Rattle.comp_bytes.specs.declared.def.CoreInlineExport.{CoreInlineExport}
use Rattle.comp_bytes.specs.declared.def.Argument.{Argument}
use Rattle.part_readers.specs.Reading.{Reader, made_at, then_at, before_byte, tagged, number_at, name_at}
use Rattle.part_readers.specs.PartReaders.{kind_at, sort_at}

unfoldable pub core_argument_at : Reader CoreArgument
core_argument_at bytes = made_at (λ p. record { name = p.0; instance = p.1 }) (then_at (before_byte name_at 0x12) number_at) bytes

unfoldable pub core_inline_export_at : Reader CoreInlineExport
core_inline_export_at bytes = made_at (λ p. record { name = p.0.0; kind = p.0.1; index = p.1 }) (then_at (then_at name_at kind_at) number_at) bytes

unfoldable pub argument_at : Reader Argument
argument_at bytes = made_at (λ p. record { name = p.0.0; sort = p.0.1; index = p.1 }) (then_at (then_at name_at sort_at) number_at) bytes

abbrev pub canonical_after : ℕ → Reader CanonicalOption
canonical_after b bytes =
    if b == 0x00 then Some (canonical.Utf8, bytes)
    else (if b == 0x01 then Some (canonical.Utf16, bytes)
    else (if b == 0x02 then Some (canonical.CompactUtf16, bytes)
    else (if b == 0x03 then made_at (λ n. canonical.Memory n) number_at bytes
    else (if b == 0x04 then made_at (λ n. canonical.Realloc n) number_at bytes
    else (if b == 0x05 then made_at (λ n. canonical.PostReturn n) number_at bytes
    else (if b == 0x06 then Some (canonical.Async, bytes)
    else (if b == 0x07 then made_at (λ n. canonical.Callback n) number_at bytes
    else None)))))))

unfoldable pub canonical_at : Reader CanonicalOption
canonical_at bytes = tagged canonical_after bytes
