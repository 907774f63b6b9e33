-- The values that roles of core imports take.
use Rattle.std.specs.Prelude.{ℕ, ◌==◌, List, codes, Bool, Result, Ok, Err, if◌then◌else◌}
use Rattle.std.specs.Str.{bytes_eq}
use Rattle.serde_json.specs.Data.{Data}
use Rattle.standard_kinds.specs.declared.kinds.ExportKind.{ExportKind}
use Rattle.standard_kinds.specs.declared.kinds.ExportKind.TheVariants as export_kinds
use Rattle.core_types.specs.declared.types.ValType.{ValType}
use Rattle.core_types.specs.declared.types.ValType.TheVariants as vals
use Rattle.json_paths.specs.declared.fault.Failure.{Failure}
use Rattle.json_paths.specs.Faults.{◌>>=◌}
use Rattle.json_paths.specs.Reading.{here, text_of, number_of}

-- 1 is asynchronous, 0 is not
unfoldable pub flag_of : Data → Result Bool Failure
flag_of d = do
  n ← number_of 2 d
  Ok (n == 1)

abbrev pub address_from : List ℕ → Result ValType Failure
address_from s =
    if bytes_eq s (codes "i32") then Ok vals.I32
    else if bytes_eq s (codes "i64") then Ok vals.I64
    else Err here

-- the type of an address, or of what a slot holds
unfoldable pub address_of : Data → Result ValType Failure
address_of d = do
  s ← text_of d
  address_from s

abbrev pub sort_from : List ℕ → Result ExportKind Failure
sort_from s =
    if bytes_eq s (codes "func") then Ok export_kinds.Func
    else if bytes_eq s (codes "table") then Ok export_kinds.Table
    else if bytes_eq s (codes "memory") then Ok export_kinds.Memory
    else if bytes_eq s (codes "global") then Ok export_kinds.Global
    else Err here

unfoldable pub sort_of : Data → Result ExportKind Failure
sort_of d = do
  s ← text_of d
  sort_from s
