-- The types of core items as bytes, form by form. Core standard, binary format: types, with typed function references.
-- The names next to the definitions are those of its grammar.
use Rattle.std.specs.Prelude.{ℕ, Option, Some, None}
use Rattle.byte_encoding.specs.Encoding.{Encoding, ◌⊕◌, raw, octet, number, signed_leb, listed, flag}
use Rattle.core_types.specs.declared.types.RefType.{RefType}
use Rattle.core_types.specs.declared.types.RefType.TheVariants as references
use Rattle.core_types.specs.declared.types.ValType.{ValType}
use Rattle.core_types.specs.declared.types.ValType.TheVariants as values
use Rattle.core_types.specs.declared.types.FuncType.{FuncType}
use Rattle.core_types.specs.declared.types.GlobalType.{GlobalType}
use Rattle.core_types.specs.declared.types.TableType.{TableType}
use Rattle.core_types.specs.declared.types.MemoryType.{MemoryType}

-- reftype: an index of a type is a signed number of 33 bits, since an abstract heap type is a negative one
abbrev pub reference_type : RefType → Encoding
reference_type references.FuncRef = octet 0x70
reference_type (references.Concrete index) = octet 0x64 ⊕ raw (signed_leb index)

-- valtype
abbrev pub value_type : ValType → Encoding
value_type values.I32 = octet 0x7f
value_type values.I64 = octet 0x7e
value_type values.F32 = octet 0x7d
value_type values.F64 = octet 0x7c
value_type (values.Ref t) = reference_type t

-- functype
abbrev pub function_type : FuncType → Encoding
function_type f = octet 0x60 ⊕ listed value_type f.params ⊕ listed value_type f.results

-- limits: the least size, and the greatest where there is one
abbrev pub limits : ℕ → Option ℕ → Encoding
limits minimum None = octet 0x00 ⊕ number minimum
limits minimum (Some maximum) = octet 0x01 ⊕ number minimum ⊕ number maximum

-- tabletype
abbrev pub table_type : TableType → Encoding
table_type t = reference_type t.element_type ⊕ limits t.minimum t.maximum

-- memtype
abbrev pub memory_type : MemoryType → Encoding
memory_type m = limits m.minimum m.maximum

-- globaltype
abbrev pub global_type : GlobalType → Encoding
global_type g = value_type g.val_type ⊕ flag g.mutable
