-- The types, the instructions and the entries of core modules as bytes, form by form.
-- Core standard, binary format: types, instructions, modules, with typed function references and tail calls. The
-- names next to the definitions are those of its grammar.
use Rattle.std.specs.Prelude.{List, Some, None}
use Rattle.byte_encoding.specs.Encoding.{Encoding, ◌⊕◌, raw, octet, number, each, listed, named, sized}
use Rattle.standard_kinds.specs.Bytes.{kind_byte}
use Rattle.core_types.specs.Grammar.{value_type, table_type, memory_type, global_type}
use Rattle.core_bytes.specs.Signed.{signed}
use Rattle.core_bytes.specs.declared.entity.EntityType.{EntityType}
use Rattle.core_bytes.specs.declared.entity.EntityType.TheVariants as entities
use Rattle.core_bytes.specs.declared.entity.ConstExpr.{ConstExpr}
use Rattle.core_bytes.specs.declared.entity.ConstExpr.TheVariants as constants
use Rattle.core_bytes.specs.declared.code.Instruction.{Instruction}
use Rattle.core_bytes.specs.declared.code.Instruction.TheVariants as instructions
use Rattle.core_bytes.specs.declared.code.LocalRun.{LocalRun}
use Rattle.core_bytes.specs.declared.code.Body.{Body}
use Rattle.core_bytes.specs.declared.entry.Import.{Import}
use Rattle.core_bytes.specs.declared.entry.DefinedGlobal.{DefinedGlobal}
use Rattle.core_bytes.specs.declared.entry.Export.{Export}
use Rattle.core_bytes.specs.declared.entry.ElementSegment.{ElementSegment}
use Rattle.core_bytes.specs.declared.entry.ElementSegment.TheVariants as segments
use Rattle.core_bytes.specs.declared.entry.DataSegment.{DataSegment}
use Rattle.core_bytes.specs.declared.entry.Naming.{Naming}

-- importdesc
abbrev pub entity_type : EntityType → Encoding
entity_type (entities.Function index) = octet 0x00 ⊕ number index
entity_type (entities.Table t) = octet 0x01 ⊕ table_type t
entity_type (entities.Memory m) = octet 0x02 ⊕ memory_type m
entity_type (entities.Global g) = octet 0x03 ⊕ global_type g

-- instr
abbrev pub instruction : Instruction → Encoding
instruction instructions.Unreachable = octet 0x00
instruction (instructions.Call function) = octet 0x10 ⊕ number function
instruction (instructions.CallIndirect type table) = octet 0x11 ⊕ number type ⊕ number table
instruction (instructions.ReturnCallRef type) = octet 0x15 ⊕ number type
instruction instructions.Select = octet 0x1b
instruction (instructions.LocalGet local_index) = octet 0x20 ⊕ number local_index
instruction (instructions.LocalSet local_index) = octet 0x21 ⊕ number local_index
instruction (instructions.GlobalGet index) = octet 0x23 ⊕ number index
instruction (instructions.GlobalSet index) = octet 0x24 ⊕ number index
instruction instructions.I32Store = octet 0x36 ⊕ octet 0x02 ⊕ octet 0x00
instruction (instructions.I32Const n) = octet 0x41 ⊕ raw (signed n)
instruction (instructions.I64Const n) = octet 0x42 ⊕ raw (signed n)
instruction instructions.I32Add = octet 0x6a
instruction (instructions.RefFunc function) = octet 0xd2 ⊕ number function

-- expr: it ends with `0b`
abbrev pub expression : List Instruction → Encoding
expression code = each instruction code ⊕ octet 0x0b

-- expr, of a constant
abbrev pub constant : ConstExpr → Encoding
constant (constants.I32 n) = octet 0x41 ⊕ raw (signed n) ⊕ octet 0x0b
constant (constants.I64 n) = octet 0x42 ⊕ raw (signed n) ⊕ octet 0x0b
constant (constants.RefFunc function) = octet 0xd2 ⊕ number function ⊕ octet 0x0b

-- import
abbrev pub import_entry : Import → Encoding
import_entry i = named i.module_name ⊕ named i.field ⊕ entity_type i.entity

-- global
abbrev pub defined_global : DefinedGlobal → Encoding
defined_global g = global_type g.global_type ⊕ constant g.init

-- export
abbrev pub export_entry : Export → Encoding
export_entry e = named e.name ⊕ octet (kind_byte e.kind) ⊕ number e.index

-- elem: on table 0, on an explicit table (`00` says that it holds functions), and declared
abbrev pub element_segment : ElementSegment → Encoding
element_segment (segments.Active None offset functions) = octet 0x00 ⊕ constant (constants.I32 offset) ⊕ listed number functions
element_segment (segments.Active (Some table) offset functions) =
    octet 0x02 ⊕ number table ⊕ constant (constants.I32 offset) ⊕ octet 0x00 ⊕ listed number functions
element_segment (segments.Declared functions) = octet 0x03 ⊕ octet 0x00 ⊕ listed number functions

-- data, in memory 0: a list of bytes is encoded as a name is
abbrev pub data_segment : DataSegment → Encoding
data_segment d = octet 0x00 ⊕ constant (constants.I32 d.offset) ⊕ named d.bytes

-- locals
abbrev pub local_run : LocalRun → Encoding
local_run r = number r.count ⊕ value_type r.val_type

-- func: local variables, and an expr
abbrev pub body : Body → Encoding
body b = listed local_run b.locals ⊕ expression b.instructions

-- code
abbrev pub code_entry : Body → Encoding
code_entry b = sized (body b)

-- nameassoc
abbrev pub naming : Naming → Encoding
naming n = number n.index ⊕ named n.name
