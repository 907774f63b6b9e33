-- The encoding of types, imports and exports of a core module (WebAssembly core specification, binary
-- format, "Types", "Import section", "Export section"). Limits of 64-bit and shared memories and tables, and
-- tags, are those of the standard's later versions.
use Rattle.std.specs.Prelude.{ℕ, ◌^◌, ◌-◌, ◌/◌, nat_lt, nat_le, List, [], ◌∷◌, length, ◌==◌, ◌&&◌, ◌||◌, Bool, true, false, Option, Some, None, if◌then◌else◌}
use Rattle.core_sections.specs.Numbers.{leb_at, name_at}
use Rattle.core_sections.specs.Reading.{◌>>=◌, vec_at}
use Rattle.core_sections.specs.declared.entries.ValType.{ValType}
use Rattle.core_sections.specs.declared.entries.ValType.TheVariants as vals
use Rattle.core_sections.specs.declared.entries.FuncType.{FuncType}
use Rattle.core_sections.specs.declared.entries.Limits.{Limits}
use Rattle.core_sections.specs.declared.entries.EntityType.{EntityType}
use Rattle.core_sections.specs.declared.entries.EntityType.TheVariants as entities
use Rattle.core_sections.specs.declared.entries.CoreImport.{CoreImport}
use Rattle.core_sections.specs.declared.entries.ExportKind.{ExportKind}
use Rattle.core_sections.specs.declared.entries.ExportKind.TheVariants as kinds
use Rattle.core_sections.specs.declared.entries.CoreExport.{CoreExport}

abbrev pub byte_at : List ℕ → Option (ℕ × List ℕ)
byte_at [] = None
byte_at (b ∷ rest) = Some (b, rest)

-- ---- value types

-- how many values a number of so many bytes can have: each byte has seven bits
abbrev pub span_of : ℕ → ℕ
span_of n =
    if n == 1 then 2 ^ 7
    else if n == 2 then 2 ^ 14
    else if n == 3 then 2 ^ 21
    else if n == 4 then 2 ^ 28
    else if n == 5 then 2 ^ 35
    else if n == 6 then 2 ^ 42
    else if n == 7 then 2 ^ 49
    else if n == 8 then 2 ^ 56
    else if n == 9 then 2 ^ 63
    else 2 ^ 70

-- A heap type is a signed number of 33 bits. Below half the span it is the index of a type. From there on it
-- is itself less the span: -12 to -23 are the abstract heap types, and -16 is that of all functions.
abbrev pub heap_of : ℕ → ℕ → Option Bool
heap_of bits span =
    if nat_lt bits (span / 2) then (if nat_lt bits (2 ^ 32) then Some false else None)
    else if (span - bits) == 16 then Some true
    else if nat_le 12 (span - bits) && nat_le (span - bits) 23 then Some false
    else None

-- whether the heap type is that of all functions
abbrev pub heap_at : List ℕ → Option (Bool × List ℕ)
heap_at bytes = do
  n ← leb_at (2 ^ 35) bytes
  is_func ← heap_of n.0 (span_of (length bytes - length n.1))
  Some (is_func, n.1)

-- a reference that may be null: to a function, where its heap type is that of all functions
abbrev pub nullable_at : List ℕ → Option (ValType × List ℕ)
nullable_at bytes = do
  h ← heap_at bytes
  Some ((if h.0 then vals.FuncRef else vals.OtherRef), h.1)

abbrev pub never_null_at : List ℕ → Option (ValType × List ℕ)
never_null_at bytes = do
  h ← heap_at bytes
  Some (vals.OtherRef, h.1)

-- a reference type, of which the first byte was read
abbrev pub ref_type_at : ℕ → List ℕ → Option (ValType × List ℕ)
ref_type_at b bytes =
    if b == 112 then Some (vals.FuncRef, bytes)
    else if nat_le 105 b && nat_le b 116 then Some (vals.OtherRef, bytes)
    else if b == 99 then nullable_at bytes
    else if b == 100 then never_null_at bytes
    else None

-- a value type, of which the first byte was read
abbrev pub val_type_from : ℕ → List ℕ → Option (ValType × List ℕ)
val_type_from b bytes =
    if b == 127 then Some (vals.I32, bytes)
    else if b == 126 then Some (vals.I64, bytes)
    else if b == 125 then Some (vals.F32, bytes)
    else if b == 124 then Some (vals.F64, bytes)
    else if b == 123 then Some (vals.V128, bytes)
    else ref_type_at b bytes

unfoldable pub val_type_at : List ℕ → Option (ValType × List ℕ)
val_type_at bytes = do
  b ← byte_at bytes
  val_type_from b.0 b.1

-- ---- function types

abbrev pub params_and_results_at : List ℕ → Option (FuncType × List ℕ)
params_and_results_at bytes = do
  ps ← vec_at val_type_at bytes
  rs ← vec_at val_type_at ps.1
  Some (record { params = ps.0; results = rs.0 }, rs.1)

unfoldable pub func_type_at : List ℕ → Option (FuncType × List ℕ)
func_type_at bytes = do
  b ← byte_at bytes
  if b.0 == 96 then params_and_results_at b.1 else None

-- ---- limits

-- a number of 64 bits, or of 32
abbrev pub number_at : Bool → List ℕ → Option (ℕ × List ℕ)
number_at is_long bytes = if is_long then leb_at (2 ^ 64) bytes else leb_at (2 ^ 32) bytes

abbrev pub some_number_at : Bool → List ℕ → Option (Option ℕ × List ℕ)
some_number_at is_long bytes = do
  n ← number_at is_long bytes
  Some (Some n.0, n.1)

abbrev pub maximum_at : Bool → Bool → List ℕ → Option (Option ℕ × List ℕ)
maximum_at is_there is_long bytes = if is_there then some_number_at is_long bytes else Some (None, bytes)

-- what follows the byte of flags
abbrev pub limits_of : Bool → Bool → Bool → List ℕ → Option (Limits × List ℕ)
limits_of is_long has_maximum is_wide bytes = do
  n ← number_at is_long bytes
  m ← maximum_at has_maximum is_long n.1
  Some (record { minimum = n.0; maximum = m.0; is_wide = is_wide }, m.1)

-- the flags: 1 for a maximum, 2 for shared, 4 for addresses of 64 bits
abbrev pub limits_from : ℕ → List ℕ → Option (Limits × List ℕ)
limits_from flags bytes =
    if flags == 0 then limits_of false false false bytes
    else if flags == 1 then limits_of false true false bytes
    else if flags == 2 then limits_of false false true bytes
    else if flags == 3 then limits_of false true true bytes
    else if flags == 4 || (flags == 6) then limits_of true false true bytes
    else if flags == 5 || (flags == 7) then limits_of true true true bytes
    else None

unfoldable pub limits_at : List ℕ → Option (Limits × List ℕ)
limits_at bytes = do
  b ← byte_at bytes
  limits_from b.0 b.1

-- ---- imports

abbrev pub mutable_of : ℕ → Option Bool
mutable_of b = if b == 0 then Some false else if b == 1 then Some true else None

abbrev pub function_at : List ℕ → Option (EntityType × List ℕ)
function_at bytes = do
  n ← leb_at (2 ^ 32) bytes
  Some (entities.Function n.0, n.1)

abbrev pub table_at : List ℕ → Option (EntityType × List ℕ)
table_at bytes = do
  b ← byte_at bytes
  t ← ref_type_at b.0 b.1
  l ← limits_at t.1
  Some (entities.Table t.0 l.0, l.1)

abbrev pub memory_at : List ℕ → Option (EntityType × List ℕ)
memory_at bytes = do
  l ← limits_at bytes
  Some (entities.Memory l.0, l.1)

abbrev pub global_at : List ℕ → Option (EntityType × List ℕ)
global_at bytes = do
  t ← val_type_at bytes
  b ← byte_at t.1
  m ← mutable_of b.0
  Some (entities.Global t.0 m, b.1)

abbrev pub tag_type_at : List ℕ → Option (EntityType × List ℕ)
tag_type_at bytes = do
  n ← leb_at (2 ^ 32) bytes
  Some (entities.Tag n.0, n.1)

abbrev pub tag_at : List ℕ → Option (EntityType × List ℕ)
tag_at bytes = do
  b ← byte_at bytes
  if b.0 == 0 then tag_type_at b.1 else None

-- what follows the byte of the kind
abbrev pub entity_of_kind : ℕ → List ℕ → Option (EntityType × List ℕ)
entity_of_kind b bytes =
    if b == 0 then function_at bytes
    else if b == 1 then table_at bytes
    else if b == 2 then memory_at bytes
    else if b == 3 then global_at bytes
    else if b == 4 then tag_at bytes
    else None

unfoldable pub entity_at : List ℕ → Option (EntityType × List ℕ)
entity_at bytes = do
  b ← byte_at bytes
  entity_of_kind b.0 b.1

unfoldable pub import_at : List ℕ → Option (CoreImport × List ℕ)
import_at bytes = do
  m ← name_at bytes
  f ← name_at m.1
  e ← entity_at f.1
  Some (record { «module» = m.0; field = f.0; entity = e.0 }, e.1)

-- ---- exports

abbrev pub kind_of : ℕ → Option ExportKind
kind_of b =
    if b == 0 then Some kinds.Function
    else if b == 1 then Some kinds.Table
    else if b == 2 then Some kinds.Memory
    else if b == 3 then Some kinds.Global
    else if b == 4 then Some kinds.Tag
    else None

unfoldable pub export_at : List ℕ → Option (CoreExport × List ℕ)
export_at bytes = do
  n ← name_at bytes
  b ← byte_at n.1
  k ← kind_of b.0
  i ← leb_at (2 ^ 32) b.1
  Some (record { name = n.0; index = record { kind = k; index = i.0 } }, i.1)
