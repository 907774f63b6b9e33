-- Reading types, names and aliases from the front of bytes.
-- Component model, binary format: `sort`, `deftype`, `alias`, `externdesc`, `importname'`.
use Rattle.std.specs.Prelude.{ℕ, ◌==◌, Bool, true, false, if◌then◌else◌, List, Option, Some, None}
use Rattle.standard_kinds.specs.declared.kinds.ExportKind.{ExportKind}
use Rattle.standard_kinds.specs.declared.kinds.ExportKind.TheVariants as kinds
use Rattle.comp_bytes.specs.declared.space.ComponentExportKind.{ComponentExportKind}
use Rattle.comp_bytes.specs.declared.space.ComponentExportKind.TheVariants as exports
use Rattle.comp_bytes.specs.declared.space.Sort.{Sort}
use Rattle.comp_bytes.specs.declared.space.Sort.TheVariants as sorts
use Rattle.standard_kinds.specs.declared.kinds.Primitive.{Primitive}
use Rattle.standard_kinds.specs.declared.kinds.Primitive.TheVariants as primitives
use Rattle.comp_bytes.specs.declared.types.ComponentValType.{ComponentValType}
use Rattle.comp_bytes.specs.declared.types.ComponentValType.TheVariants as values
use Rattle.comp_bytes.specs.declared.types.Field.{Field}
use Rattle.comp_bytes.specs.declared.types.Case.{Case}
use Rattle.comp_bytes.specs.declared.types.DefinedType.{DefinedType}
use Rattle.comp_bytes.specs.declared.types.DefinedType.TheVariants as defined
use Rattle.comp_bytes.specs.declared.types.FuncTypeDef.{FuncTypeDef}
use Rattle.comp_bytes.specs.declared.types.TypeDef.{TypeDef}
use Rattle.comp_bytes.specs.declared.types.TypeDef.TheVariants as types
use Rattle.comp_bytes.specs.declared.types.ExternName.{ExternName}
use Rattle.comp_bytes.specs.declared.types.Description.{Description}
use Rattle.comp_bytes.specs.declared.types.Description.TheVariants as descriptions
use Rattle.comp_bytes.specs.declared.types.Alias.{Alias}
use Rattle.comp_bytes.specs.declared.types.Alias.TheVariants as aliases
use Rattle.comp_bytes.specs.declared.types.Member.{Member}
use Rattle.comp_bytes.specs.declared.types.Member.TheVariants as members
use Rattle.comp_bytes.specs.declared.types.InstanceType.{InstanceType}
use Rattle.part_readers.specs.Reading.{◌>>=◌, Read, Reader, made_at, then_at, after_byte, before_byte, tagged, byte_at, expect, number_at, type_index_at, name_at, list_at, option_at}

-- ---- sorts

abbrev pub kind_after : ℕ → Reader ExportKind
kind_after b bytes =
    if b == 0x00 then Some (kinds.Func, bytes)
    else (if b == 0x01 then Some (kinds.Table, bytes)
    else (if b == 0x02 then Some (kinds.Memory, bytes)
    else (if b == 0x03 then Some (kinds.Global, bytes)
    else None)))

unfoldable pub kind_at : Reader ExportKind
kind_at bytes = tagged kind_after bytes

abbrev pub sort_after : ℕ → Reader Sort
sort_after b bytes =
    if b == 0x00 then made_at (λ k. sorts.Core k) kind_at bytes
    else (if b == 0x01 then Some (sorts.Func, bytes)
    else (if b == 0x03 then Some (sorts.Type, bytes)
    else (if b == 0x04 then Some (sorts.Component, bytes)
    else (if b == 0x05 then Some (sorts.Instance, bytes)
    else None))))

unfoldable pub sort_at : Reader Sort
sort_at bytes = tagged sort_after bytes

-- ---- value types

abbrev pub primitive_of : ℕ → Option Primitive
primitive_of b =
    if b == 0x7f then Some primitives.Bool
    else (if b == 0x7e then Some primitives.S8
    else (if b == 0x7d then Some primitives.U8
    else (if b == 0x7c then Some primitives.S16
    else (if b == 0x7b then Some primitives.U16
    else (if b == 0x7a then Some primitives.S32
    else (if b == 0x79 then Some primitives.U32
    else (if b == 0x78 then Some primitives.S64
    else (if b == 0x77 then Some primitives.U64
    else (if b == 0x76 then Some primitives.F32
    else (if b == 0x75 then Some primitives.F64
    else (if b == 0x74 then Some primitives.Char
    else (if b == 0x73 then Some primitives.String
    else (if b == 0x64 then Some primitives.ErrorContext
    else None)))))))))))))

unfoldable pub primitive_after : ℕ → Reader Primitive
primitive_after b bytes = primitive_of b >>= λ p. Some (p, bytes)

-- a type index, if there is no primitive type
abbrev pub primitive_or : Read Primitive → Read ℕ → Read ComponentValType
primitive_or (Some p) index = Some (values.Primitive p.0, p.1)
primitive_or None index = index >>= λ n. Some (values.Defined n.0, n.1)

unfoldable pub value_type_at : Reader ComponentValType
value_type_at bytes = byte_at bytes >>= λ b. primitive_or (primitive_after b.0 b.1) (type_index_at bytes)

unfoldable pub field_at : Reader Field
field_at bytes = made_at (λ p. record { name = p.0; ty = p.1 }) (then_at name_at value_type_at) bytes

unfoldable pub case_at : Reader Case
case_at bytes = made_at (λ p. record { name = p.0; ty = p.1 }) (before_byte (then_at name_at (option_at value_type_at)) 0x00) bytes

abbrev pub result_after : ℕ → Reader (Option ComponentValType)
result_after b bytes =
    if b == 0x00 then made_at (λ t. Some t) value_type_at bytes
    else (if b == 0x01 then (expect 0x00 bytes >>= λ rest. Some (None, rest))
    else None)

-- resultlist
unfoldable pub result_at : Reader (Option ComponentValType)
result_at bytes = tagged result_after bytes

-- ---- types

unfoldable pub result_type_at : Reader DefinedType
result_type_at bytes = made_at (λ p. defined.Result p.0 p.1) (then_at (option_at value_type_at) (option_at value_type_at)) bytes

unfoldable pub small_type_after : ℕ → Reader DefinedType
small_type_after b bytes =
    if b == 0x70 then made_at (λ t. defined.List t) value_type_at bytes
    else (if b == 0x6b then made_at (λ t. defined.Option t) value_type_at bytes
    else (if b == 0x6a then result_type_at bytes
    else (if b == 0x69 then made_at (λ n. defined.Own n) number_at bytes
    else (if b == 0x68 then made_at (λ n. defined.Borrow n) number_at bytes
    else (if b == 0x66 then made_at (λ t. defined.Stream t) (option_at value_type_at) bytes
    else (if b == 0x65 then made_at (λ t. defined.Future t) (option_at value_type_at) bytes
    else made_at (λ p. defined.Primitive p) (primitive_after b) bytes))))))

unfoldable pub defined_after : ℕ → Reader DefinedType
defined_after b bytes =
    if b == 0x72 then made_at (λ fields. defined.Record fields) (list_at field_at) bytes
    else (if b == 0x71 then made_at (λ cases. defined.Variant cases) (list_at case_at) bytes
    else (if b == 0x6f then made_at (λ types. defined.Tuple types) (list_at value_type_at) bytes
    else (if b == 0x6e then made_at (λ names. defined.Flags names) (list_at name_at) bytes
    else (if b == 0x6d then made_at (λ names. defined.Enum names) (list_at name_at) bytes
    else small_type_after b bytes))))

unfoldable pub func_type_at : Bool → Reader FuncTypeDef
func_type_at is_async bytes = made_at (λ p. record { async_ = is_async; params = p.0; result = p.1 }) (then_at (list_at field_at) result_at) bytes

unfoldable pub type_def_after : ℕ → Reader TypeDef
type_def_after b bytes =
    if b == 0x40 then made_at (λ f. types.Func f) (func_type_at false) bytes
    else (if b == 0x43 then made_at (λ f. types.Func f) (func_type_at true) bytes
    else (if b == 0x3f then after_byte 0x7f (made_at (λ destructor. types.Resource destructor) (option_at number_at)) bytes
    else made_at (λ t. types.Defined t) (defined_after b) bytes))

-- ---- names, descriptions, aliases, members

abbrev pub extern_name_after : ℕ → Reader ExternName
extern_name_after b bytes =
    if b == 0x00 then made_at (λ name. record { name = name; version_suffix = None }) name_at bytes
    else (if b == 0x01 then made_at (λ p. record { name = p.0; version_suffix = Some p.1 }) (then_at name_at name_at) bytes
    else None)

unfoldable pub extern_name_at : Reader ExternName
extern_name_at bytes = tagged extern_name_after bytes

abbrev pub type_bound_after : ℕ → Reader Description
type_bound_after b bytes =
    if b == 0x00 then made_at (λ n. descriptions.TypeEqual n) number_at bytes
    else (if b == 0x01 then Some (descriptions.SubResource, bytes)
    else None)

unfoldable pub type_bound_at : Reader Description
type_bound_at bytes = tagged type_bound_after bytes

abbrev pub description_after : ℕ → Reader Description
description_after b bytes =
    if b == 0x01 then made_at (λ n. descriptions.Func n) number_at bytes
    else (if b == 0x03 then type_bound_at bytes
    else (if b == 0x05 then made_at (λ n. descriptions.Instance n) number_at bytes
    else None))

unfoldable pub description_at : Reader Description
description_at bytes = tagged description_after bytes

-- an alias of a core export, after the byte of core sorts
unfoldable pub core_alias_at : Reader Alias
core_alias_at bytes = made_at (λ p. aliases.CoreExport p.0.0 p.0.1 p.1) (then_at (then_at (before_byte kind_at 0x01) number_at) name_at) bytes

unfoldable pub export_alias_at : ComponentExportKind → Reader Alias
export_alias_at kind bytes = made_at (λ p. aliases.Export kind p.0 p.1) (then_at number_at name_at) bytes

unfoldable pub outer_alias_at : Reader Alias
outer_alias_at bytes = made_at (λ p. aliases.Outer p.0 p.1) (then_at number_at number_at) bytes

-- an alias of a type, which is an export or one of an outer scope
abbrev pub type_alias_after : ℕ → Reader Alias
type_alias_after b bytes =
    if b == 0x00 then export_alias_at exports.Type bytes
    else (if b == 0x02 then outer_alias_at bytes
    else None)

unfoldable pub type_alias_at : Reader Alias
type_alias_at bytes = tagged type_alias_after bytes

abbrev pub alias_after : ℕ → Reader Alias
alias_after b bytes =
    if b == 0x00 then core_alias_at bytes
    else (if b == 0x01 then after_byte 0x00 (export_alias_at exports.Func) bytes
    else (if b == 0x03 then type_alias_at bytes
    else (if b == 0x04 then after_byte 0x00 (export_alias_at exports.Component) bytes
    else (if b == 0x05 then after_byte 0x00 (export_alias_at exports.Instance) bytes
    else None))))

unfoldable pub alias_at : Reader Alias
alias_at bytes = tagged alias_after bytes

abbrev pub member_after : ℕ → Reader Member
member_after b bytes =
    if b == 0x01 then made_at (λ t. members.Type t) (tagged type_def_after) bytes
    else (if b == 0x02 then made_at (λ a. members.Alias a) alias_at bytes
    else (if b == 0x04 then made_at (λ p. members.Export p.0 p.1) (then_at extern_name_at description_at) bytes
    else None))

unfoldable pub member_at : Reader Member
member_at bytes = tagged member_after bytes

-- an instance type, after its byte
unfoldable pub instance_type_at : Reader InstanceType
instance_type_at bytes = made_at (λ m. record { members = m }) (list_at member_at) bytes
