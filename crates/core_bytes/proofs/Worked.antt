-- Worked examples: modules of shims, of their fixups and of start functions, and their bytes; and signed numbers.
use Rattle.std.proofs.Common.{◌≡◌, ℕ, List, [], ◌∷◌, refl, Some, None, true, pos, negsuc}
use Rattle.byte_encoding.specs.Encoding.{leb128}
use Rattle.standard_kinds.specs.declared.kinds.ExportKind.TheVariants as kinds
use Rattle.core_bytes.specs.Signed.{signed, signed_within}
use Rattle.core_bytes.specs.Grammar.{body}
use Rattle.core_bytes.specs.Modules.{section, encoding_of}
use Rattle.core_types.specs.declared.types.RefType.TheVariants as references
use Rattle.core_types.specs.declared.types.ValType.TheVariants as values
use Rattle.core_bytes.specs.declared.entity.EntityType.TheVariants as entities
use Rattle.core_bytes.specs.declared.entity.ConstExpr.TheVariants as constants
use Rattle.core_bytes.specs.declared.code.Instruction.TheVariants as instructions
use Rattle.core_bytes.specs.declared.code.Body.{Body}
use Rattle.core_bytes.specs.declared.entry.ElementSegment.TheVariants as segments
use Rattle.core_bytes.specs.declared.section.Section.{Section}
use Rattle.core_bytes.specs.declared.section.Section.TheVariants as sections

abbrev pub main : List ℕ
main = 0x6d ∷ 0x61 ∷ 0x69 ∷ 0x6e ∷ []

abbrev pub actual : List ℕ
actual = 0x61 ∷ 0x63 ∷ 0x74 ∷ 0x75 ∷ 0x61 ∷ 0x6c ∷ []

abbrev pub shim : List ℕ
shim = 0x73 ∷ 0x68 ∷ 0x69 ∷ 0x6d ∷ []

abbrev pub zero_text : List ℕ
zero_text = 0x30 ∷ []

abbrev pub imports_text : List ℕ
imports_text = 0x24 ∷ 0x69 ∷ 0x6d ∷ 0x70 ∷ 0x6f ∷ 0x72 ∷ 0x74 ∷ 0x73 ∷ []

abbrev pub g0 : List ℕ
g0 = 0x67 ∷ 0x30 ∷ []

abbrev pub initialize : List ℕ
initialize = 0x5f ∷ 0x69 ∷ 0x6e ∷ 0x69 ∷ 0x74 ∷ 0x69 ∷ 0x61 ∷ 0x6c ∷ 0x69 ∷ 0x7a ∷ 0x65 ∷ []

abbrev pub memory_export : List ℕ
memory_export = 0x24 ∷ 0x6d ∷ 0x65 ∷ 0x6d ∷ 0x6f ∷ 0x72 ∷ 0x79 ∷ []

abbrev pub get_base : List ℕ
get_base = 0x24 ∷ 0x67 ∷ 0x65 ∷ 0x74 ∷ 0x2d ∷ 0x74 ∷ 0x6c ∷ 0x73 ∷ 0x2d ∷ 0x62 ∷ 0x61 ∷ 0x73 ∷ 0x65 ∷ []

abbrev pub set_base : List ℕ
set_base = 0x24 ∷ 0x73 ∷ 0x65 ∷ 0x74 ∷ 0x2d ∷ 0x74 ∷ 0x6c ∷ 0x73 ∷ 0x2d ∷ 0x62 ∷ 0x61 ∷ 0x73 ∷ 0x65 ∷ []

abbrev pub i_text : List ℕ
i_text = 0x69 ∷ []

abbrev pub h_text : List ℕ
h_text = 0x68 ∷ []

abbrev pub memory_text : List ℕ
memory_text = 0x6d ∷ 0x65 ∷ 0x6d ∷ 0x6f ∷ 0x72 ∷ 0x79 ∷ []

abbrev pub c_text : List ℕ
c_text = 0x63 ∷ []

-- one shim that calls through a table, 60 bytes
abbrev pub table_shim : List Section
table_shim =
    sections.Types (record { params = (values.I32 ∷ values.I32 ∷ []); results = ([]) } ∷ [])
    ∷ sections.Functions (0 ∷ [])
    ∷ sections.Tables (record { element_type = references.FuncRef; minimum = 1; maximum = (Some 1) } ∷ [])
    ∷ sections.Exports (record { name = zero_text; kind = kinds.Func; index = 0 } ∷ record { name = imports_text; kind = kinds.Table; index = 0 } ∷ [])
    ∷ sections.Code (record { locals = ([]); instructions = ((instructions.LocalGet 0) ∷ (instructions.LocalGet 1) ∷ (instructions.I32Const (pos 0)) ∷ (instructions.CallIndirect 0 0) ∷ []) } ∷ [])
    ∷ []

pub table_shim_bytes : (encoding_of table_shim).bytes ≡ 0x00 ∷ 0x61 ∷ 0x73 ∷ 0x6d ∷ 0x01 ∷ 0x00 ∷ 0x00 ∷ 0x00 ∷ 0x01 ∷ 0x06 ∷ 0x01 ∷ 0x60 ∷ 0x02 ∷ 0x7f ∷ 0x7f ∷ 0x00 ∷ 0x03 ∷ 0x02 ∷ 0x01 ∷ 0x00 ∷ 0x04 ∷ 0x05 ∷ 0x01 ∷ 0x70 ∷ 0x01 ∷ 0x01 ∷ 0x01 ∷ 0x07 ∷ 0x10 ∷ 0x02 ∷ 0x01 ∷ 0x30 ∷ 0x00 ∷ 0x00 ∷ 0x08 ∷ 0x24 ∷ 0x69 ∷ 0x6d ∷ 0x70 ∷ 0x6f ∷ 0x72 ∷ 0x74 ∷ 0x73 ∷ 0x01 ∷ 0x00 ∷ 0x0a ∷ 0x0d ∷ 0x01 ∷ 0x0b ∷ 0x00 ∷ 0x20 ∷ 0x00 ∷ 0x20 ∷ 0x01 ∷ 0x41 ∷ 0x00 ∷ 0x11 ∷ 0x00 ∷ 0x00 ∷ 0x0b ∷ []
unfolding leb128 signed_within
table_shim_bytes = refl

-- the module that fills its slot, 58 bytes
abbrev pub table_fixup : List Section
table_fixup =
    sections.Types (record { params = (values.I32 ∷ values.I32 ∷ []); results = ([]) } ∷ [])
    ∷ sections.Imports (record { module_name = actual; field = zero_text; entity = entities.Function 0 } ∷ record { module_name = shim; field = imports_text; entity = entities.Table (record { element_type = references.FuncRef; minimum = 1; maximum = (Some 1) }) } ∷ [])
    ∷ sections.Elements (segments.Active None (pos 0) (0 ∷ []) ∷ [])
    ∷ []

pub table_fixup_bytes : (encoding_of table_fixup).bytes ≡ 0x00 ∷ 0x61 ∷ 0x73 ∷ 0x6d ∷ 0x01 ∷ 0x00 ∷ 0x00 ∷ 0x00 ∷ 0x01 ∷ 0x06 ∷ 0x01 ∷ 0x60 ∷ 0x02 ∷ 0x7f ∷ 0x7f ∷ 0x00 ∷ 0x02 ∷ 0x1f ∷ 0x02 ∷ 0x06 ∷ 0x61 ∷ 0x63 ∷ 0x74 ∷ 0x75 ∷ 0x61 ∷ 0x6c ∷ 0x01 ∷ 0x30 ∷ 0x00 ∷ 0x00 ∷ 0x04 ∷ 0x73 ∷ 0x68 ∷ 0x69 ∷ 0x6d ∷ 0x08 ∷ 0x24 ∷ 0x69 ∷ 0x6d ∷ 0x70 ∷ 0x6f ∷ 0x72 ∷ 0x74 ∷ 0x73 ∷ 0x01 ∷ 0x70 ∷ 0x01 ∷ 0x01 ∷ 0x01 ∷ 0x09 ∷ 0x07 ∷ 0x01 ∷ 0x00 ∷ 0x41 ∷ 0x00 ∷ 0x0b ∷ 0x01 ∷ 0x00 ∷ []
unfolding leb128 signed_within
table_fixup_bytes = refl

-- one shim that calls through a global, 60 bytes
abbrev pub ref_shim : List Section
ref_shim =
    sections.Types (record { params = (values.I32 ∷ values.I32 ∷ []); results = ([]) } ∷ [])
    ∷ sections.Functions (0 ∷ 0 ∷ [])
    ∷ sections.Globals (record { global_type = record { val_type = values.Ref (references.Concrete 0); mutable = true }; init = constants.RefFunc 0 } ∷ [])
    ∷ sections.Exports (record { name = g0; kind = kinds.Global; index = 0 } ∷ record { name = zero_text; kind = kinds.Func; index = 1 } ∷ [])
    ∷ sections.Code (record { locals = ([]); instructions = (instructions.Unreachable ∷ []) } ∷ record { locals = ([]); instructions = ((instructions.LocalGet 0) ∷ (instructions.LocalGet 1) ∷ (instructions.GlobalGet 0) ∷ (instructions.ReturnCallRef 0) ∷ []) } ∷ [])
    ∷ []

pub ref_shim_bytes : (encoding_of ref_shim).bytes ≡ 0x00 ∷ 0x61 ∷ 0x73 ∷ 0x6d ∷ 0x01 ∷ 0x00 ∷ 0x00 ∷ 0x00 ∷ 0x01 ∷ 0x06 ∷ 0x01 ∷ 0x60 ∷ 0x02 ∷ 0x7f ∷ 0x7f ∷ 0x00 ∷ 0x03 ∷ 0x03 ∷ 0x02 ∷ 0x00 ∷ 0x00 ∷ 0x06 ∷ 0x07 ∷ 0x01 ∷ 0x64 ∷ 0x00 ∷ 0x01 ∷ 0xd2 ∷ 0x00 ∷ 0x0b ∷ 0x07 ∷ 0x0a ∷ 0x02 ∷ 0x02 ∷ 0x67 ∷ 0x30 ∷ 0x03 ∷ 0x00 ∷ 0x01 ∷ 0x30 ∷ 0x00 ∷ 0x01 ∷ 0x0a ∷ 0x10 ∷ 0x02 ∷ 0x03 ∷ 0x00 ∷ 0x00 ∷ 0x0b ∷ 0x0a ∷ 0x00 ∷ 0x20 ∷ 0x00 ∷ 0x20 ∷ 0x01 ∷ 0x23 ∷ 0x00 ∷ 0x15 ∷ 0x00 ∷ 0x0b ∷ []
unfolding leb128 signed_within
ref_shim_bytes = refl

-- what fills its global, 69 bytes
abbrev pub ref_fixup : List Section
ref_fixup =
    sections.Types (record { params = (values.I32 ∷ values.I32 ∷ []); results = ([]) } ∷ record { params = ([]); results = ([]) } ∷ [])
    ∷ sections.Imports (record { module_name = actual; field = zero_text; entity = entities.Function 0 } ∷ record { module_name = shim; field = g0; entity = entities.Global (record { val_type = values.Ref (references.Concrete 0); mutable = true }) } ∷ [])
    ∷ sections.Functions (1 ∷ [])
    ∷ sections.Start 1
    ∷ sections.Elements (segments.Declared (0 ∷ []) ∷ [])
    ∷ sections.Code (record { locals = ([]); instructions = ((instructions.RefFunc 0) ∷ (instructions.GlobalSet 0) ∷ []) } ∷ [])
    ∷ []

pub ref_fixup_bytes : (encoding_of ref_fixup).bytes ≡ 0x00 ∷ 0x61 ∷ 0x73 ∷ 0x6d ∷ 0x01 ∷ 0x00 ∷ 0x00 ∷ 0x00 ∷ 0x01 ∷ 0x09 ∷ 0x02 ∷ 0x60 ∷ 0x02 ∷ 0x7f ∷ 0x7f ∷ 0x00 ∷ 0x60 ∷ 0x00 ∷ 0x00 ∷ 0x02 ∷ 0x18 ∷ 0x02 ∷ 0x06 ∷ 0x61 ∷ 0x63 ∷ 0x74 ∷ 0x75 ∷ 0x61 ∷ 0x6c ∷ 0x01 ∷ 0x30 ∷ 0x00 ∷ 0x00 ∷ 0x04 ∷ 0x73 ∷ 0x68 ∷ 0x69 ∷ 0x6d ∷ 0x02 ∷ 0x67 ∷ 0x30 ∷ 0x03 ∷ 0x64 ∷ 0x00 ∷ 0x01 ∷ 0x03 ∷ 0x02 ∷ 0x01 ∷ 0x01 ∷ 0x08 ∷ 0x01 ∷ 0x01 ∷ 0x09 ∷ 0x05 ∷ 0x01 ∷ 0x03 ∷ 0x00 ∷ 0x01 ∷ 0x00 ∷ 0x0a ∷ 0x08 ∷ 0x01 ∷ 0x06 ∷ 0x00 ∷ 0xd2 ∷ 0x00 ∷ 0x24 ∷ 0x00 ∷ 0x0b ∷ []
unfolding leb128 signed_within
ref_fixup_bytes = refl

-- a start function that is imported, 39 bytes
abbrev pub start_only : List Section
start_only =
    sections.Types (record { params = ([]); results = ([]) } ∷ [])
    ∷ sections.Imports (record { module_name = main; field = initialize; entity = entities.Function 0 } ∷ [])
    ∷ sections.Start 0
    ∷ []

pub start_only_bytes : (encoding_of start_only).bytes ≡ 0x00 ∷ 0x61 ∷ 0x73 ∷ 0x6d ∷ 0x01 ∷ 0x00 ∷ 0x00 ∷ 0x00 ∷ 0x01 ∷ 0x04 ∷ 0x01 ∷ 0x60 ∷ 0x00 ∷ 0x00 ∷ 0x02 ∷ 0x14 ∷ 0x01 ∷ 0x04 ∷ 0x6d ∷ 0x61 ∷ 0x69 ∷ 0x6e ∷ 0x0b ∷ 0x5f ∷ 0x69 ∷ 0x6e ∷ 0x69 ∷ 0x74 ∷ 0x69 ∷ 0x61 ∷ 0x6c ∷ 0x69 ∷ 0x7a ∷ 0x65 ∷ 0x00 ∷ 0x00 ∷ 0x08 ∷ 0x01 ∷ 0x00 ∷ []
unfolding leb128 signed_within
start_only_bytes = refl

-- an empty section of types, and a memory, 29 bytes
abbrev pub memory_only : List Section
memory_only =
    sections.Types ([])
    ∷ sections.Memories (record { minimum = 1; maximum = None } ∷ [])
    ∷ sections.Exports (record { name = memory_export; kind = kinds.Memory; index = 0 } ∷ [])
    ∷ []

pub memory_only_bytes : (encoding_of memory_only).bytes ≡ 0x00 ∷ 0x61 ∷ 0x73 ∷ 0x6d ∷ 0x01 ∷ 0x00 ∷ 0x00 ∷ 0x00 ∷ 0x01 ∷ 0x01 ∷ 0x00 ∷ 0x05 ∷ 0x03 ∷ 0x01 ∷ 0x00 ∷ 0x01 ∷ 0x07 ∷ 0x0b ∷ 0x01 ∷ 0x07 ∷ 0x24 ∷ 0x6d ∷ 0x65 ∷ 0x6d ∷ 0x6f ∷ 0x72 ∷ 0x79 ∷ 0x02 ∷ 0x00 ∷ []
unfolding leb128 signed_within
memory_only_bytes = refl

-- a number that is kept in a global, 82 bytes
abbrev pub cell : List Section
cell =
    sections.Types (record { params = ([]); results = (values.I32 ∷ []) } ∷ record { params = (values.I32 ∷ []); results = ([]) } ∷ [])
    ∷ sections.Functions (0 ∷ 1 ∷ [])
    ∷ sections.Globals (record { global_type = record { val_type = values.I32; mutable = true }; init = constants.I32 (pos 0) } ∷ [])
    ∷ sections.Exports (record { name = get_base; kind = kinds.Func; index = 0 } ∷ record { name = set_base; kind = kinds.Func; index = 1 } ∷ [])
    ∷ sections.Code (record { locals = ([]); instructions = ((instructions.GlobalGet 0) ∷ []) } ∷ record { locals = ([]); instructions = ((instructions.LocalGet 0) ∷ (instructions.GlobalSet 0) ∷ []) } ∷ [])
    ∷ []

pub cell_bytes : (encoding_of cell).bytes ≡ 0x00 ∷ 0x61 ∷ 0x73 ∷ 0x6d ∷ 0x01 ∷ 0x00 ∷ 0x00 ∷ 0x00 ∷ 0x01 ∷ 0x09 ∷ 0x02 ∷ 0x60 ∷ 0x00 ∷ 0x01 ∷ 0x7f ∷ 0x60 ∷ 0x01 ∷ 0x7f ∷ 0x00 ∷ 0x03 ∷ 0x03 ∷ 0x02 ∷ 0x00 ∷ 0x01 ∷ 0x06 ∷ 0x06 ∷ 0x01 ∷ 0x7f ∷ 0x01 ∷ 0x41 ∷ 0x00 ∷ 0x0b ∷ 0x07 ∷ 0x21 ∷ 0x02 ∷ 0x0d ∷ 0x24 ∷ 0x67 ∷ 0x65 ∷ 0x74 ∷ 0x2d ∷ 0x74 ∷ 0x6c ∷ 0x73 ∷ 0x2d ∷ 0x62 ∷ 0x61 ∷ 0x73 ∷ 0x65 ∷ 0x00 ∷ 0x00 ∷ 0x0d ∷ 0x24 ∷ 0x73 ∷ 0x65 ∷ 0x74 ∷ 0x2d ∷ 0x74 ∷ 0x6c ∷ 0x73 ∷ 0x2d ∷ 0x62 ∷ 0x61 ∷ 0x73 ∷ 0x65 ∷ 0x00 ∷ 0x01 ∷ 0x0a ∷ 0x0d ∷ 0x02 ∷ 0x04 ∷ 0x00 ∷ 0x23 ∷ 0x00 ∷ 0x0b ∷ 0x06 ∷ 0x00 ∷ 0x20 ∷ 0x00 ∷ 0x24 ∷ 0x00 ∷ 0x0b ∷ []
unfolding leb128 signed_within
cell_bytes = refl

-- a call between two calls of a hook, 62 bytes
abbrev pub bracket : List Section
bracket =
    sections.Types (record { params = ([]); results = ([]) } ∷ record { params = (values.I32 ∷ []); results = ([]) } ∷ [])
    ∷ sections.Imports (record { module_name = main; field = i_text; entity = entities.Function 0 } ∷ record { module_name = main; field = h_text; entity = entities.Function 1 } ∷ [])
    ∷ sections.Functions (0 ∷ [])
    ∷ sections.Start 2
    ∷ sections.Code (record { locals = ([]); instructions = ((instructions.I32Const (pos 6)) ∷ (instructions.Call 1) ∷ (instructions.Call 0) ∷ (instructions.I32Const (pos 7)) ∷ (instructions.Call 1) ∷ []) } ∷ [])
    ∷ []

pub bracket_bytes : (encoding_of bracket).bytes ≡ 0x00 ∷ 0x61 ∷ 0x73 ∷ 0x6d ∷ 0x01 ∷ 0x00 ∷ 0x00 ∷ 0x00 ∷ 0x01 ∷ 0x08 ∷ 0x02 ∷ 0x60 ∷ 0x00 ∷ 0x00 ∷ 0x60 ∷ 0x01 ∷ 0x7f ∷ 0x00 ∷ 0x02 ∷ 0x13 ∷ 0x02 ∷ 0x04 ∷ 0x6d ∷ 0x61 ∷ 0x69 ∷ 0x6e ∷ 0x01 ∷ 0x69 ∷ 0x00 ∷ 0x00 ∷ 0x04 ∷ 0x6d ∷ 0x61 ∷ 0x69 ∷ 0x6e ∷ 0x01 ∷ 0x68 ∷ 0x00 ∷ 0x01 ∷ 0x03 ∷ 0x02 ∷ 0x01 ∷ 0x00 ∷ 0x08 ∷ 0x01 ∷ 0x02 ∷ 0x0a ∷ 0x0e ∷ 0x01 ∷ 0x0c ∷ 0x00 ∷ 0x41 ∷ 0x06 ∷ 0x10 ∷ 0x01 ∷ 0x10 ∷ 0x00 ∷ 0x41 ∷ 0x07 ∷ 0x10 ∷ 0x01 ∷ 0x0b ∷ []
unfolding leb128 signed_within
bracket_bytes = refl

-- bytes for an imported memory, 54 bytes
abbrev pub data_at : List Section
data_at =
    sections.Types (record { params = ([]); results = ([]) } ∷ [])
    ∷ sections.Imports (record { module_name = main; field = memory_text; entity = entities.Memory (record { minimum = 1; maximum = None }) } ∷ record { module_name = main; field = c_text; entity = entities.Function 0 } ∷ [])
    ∷ sections.Start 0
    ∷ sections.Data (record { offset = (pos 16); bytes = 0x68 ∷ 0x69 ∷ [] } ∷ [])
    ∷ []

pub data_at_bytes : (encoding_of data_at).bytes ≡ 0x00 ∷ 0x61 ∷ 0x73 ∷ 0x6d ∷ 0x01 ∷ 0x00 ∷ 0x00 ∷ 0x00 ∷ 0x01 ∷ 0x04 ∷ 0x01 ∷ 0x60 ∷ 0x00 ∷ 0x00 ∷ 0x02 ∷ 0x19 ∷ 0x02 ∷ 0x04 ∷ 0x6d ∷ 0x61 ∷ 0x69 ∷ 0x6e ∷ 0x06 ∷ 0x6d ∷ 0x65 ∷ 0x6d ∷ 0x6f ∷ 0x72 ∷ 0x79 ∷ 0x02 ∷ 0x00 ∷ 0x01 ∷ 0x04 ∷ 0x6d ∷ 0x61 ∷ 0x69 ∷ 0x6e ∷ 0x01 ∷ 0x63 ∷ 0x00 ∷ 0x00 ∷ 0x08 ∷ 0x01 ∷ 0x00 ∷ 0x0b ∷ 0x08 ∷ 0x01 ∷ 0x00 ∷ 0x41 ∷ 0x10 ∷ 0x0b ∷ 0x02 ∷ 0x68 ∷ 0x69 ∷ []
unfolding leb128 signed_within
data_at_bytes = refl

-- a body that stores a sum, 13 bytes after its size
abbrev pub address_body : Body
address_body = record { locals = ([]); instructions = ((instructions.I32Const (pos 64)) ∷ (instructions.GlobalGet 0) ∷ (instructions.GlobalGet 1) ∷ instructions.I32Add ∷ instructions.I32Store ∷ []) }

pub address_body_bytes : (body address_body).bytes ≡ 0x00 ∷ 0x41 ∷ 0xc0 ∷ 0x00 ∷ 0x23 ∷ 0x00 ∷ 0x23 ∷ 0x01 ∷ 0x6a ∷ 0x36 ∷ 0x02 ∷ 0x00 ∷ 0x0b ∷ []
unfolding leb128 signed_within
address_body_bytes = refl

-- a body with a local variable, which chooses, 29 bytes after its size
abbrev pub status_body : Body
status_body = record { locals = (record { count = 1; val_type = values.I32 } ∷ []); instructions = ((instructions.I32Const (pos 3)) ∷ (instructions.Call 0) ∷ (instructions.LocalGet 0) ∷ (instructions.LocalGet 1) ∷ (instructions.LocalGet 2) ∷ (instructions.Call 2) ∷ (instructions.LocalSet 3) ∷ (instructions.I32Const (pos 4)) ∷ (instructions.I32Const (pos 5)) ∷ (instructions.LocalGet 3) ∷ instructions.Select ∷ (instructions.Call 0) ∷ (instructions.LocalGet 3) ∷ []) }

pub status_body_bytes : (body status_body).bytes ≡ 0x01 ∷ 0x01 ∷ 0x7f ∷ 0x41 ∷ 0x03 ∷ 0x10 ∷ 0x00 ∷ 0x20 ∷ 0x00 ∷ 0x20 ∷ 0x01 ∷ 0x20 ∷ 0x02 ∷ 0x10 ∷ 0x02 ∷ 0x21 ∷ 0x03 ∷ 0x41 ∷ 0x04 ∷ 0x41 ∷ 0x05 ∷ 0x20 ∷ 0x03 ∷ 0x1b ∷ 0x10 ∷ 0x00 ∷ 0x20 ∷ 0x03 ∷ 0x0b ∷ []
unfolding leb128 signed_within
status_body_bytes = refl

-- twelve functions for a table, and the same declared
pub twelve_filled : (section (sections.Elements (segments.Active None (pos 0) (0 ∷ 1 ∷ 2 ∷ 3 ∷ 4 ∷ 5 ∷ 6 ∷ 7 ∷ 8 ∷ 9 ∷ 10 ∷ 11 ∷ []) ∷ []))).bytes ≡ 0x09 ∷ 0x12 ∷ 0x01 ∷ 0x00 ∷ 0x41 ∷ 0x00 ∷ 0x0b ∷ 0x0c ∷ 0x00 ∷ 0x01 ∷ 0x02 ∷ 0x03 ∷ 0x04 ∷ 0x05 ∷ 0x06 ∷ 0x07 ∷ 0x08 ∷ 0x09 ∷ 0x0a ∷ 0x0b ∷ []
unfolding leb128 signed_within
twelve_filled = refl

pub twelve_declared : (section (sections.Elements (segments.Declared (0 ∷ 1 ∷ 2 ∷ 3 ∷ 4 ∷ 5 ∷ 6 ∷ 7 ∷ 8 ∷ 9 ∷ 10 ∷ 11 ∷ []) ∷ []))).bytes ≡ 0x09 ∷ 0x10 ∷ 0x01 ∷ 0x03 ∷ 0x00 ∷ 0x0c ∷ 0x00 ∷ 0x01 ∷ 0x02 ∷ 0x03 ∷ 0x04 ∷ 0x05 ∷ 0x06 ∷ 0x07 ∷ 0x08 ∷ 0x09 ∷ 0x0a ∷ 0x0b ∷ []
unfolding leb128 signed_within
twelve_declared = refl

-- a segment for an explicit table
pub on_table : (section (sections.Elements (segments.Active (Some 1) (pos 2) (3 ∷ []) ∷ []))).bytes ≡ 0x09 ∷ 0x09 ∷ 0x01 ∷ 0x02 ∷ 0x01 ∷ 0x41 ∷ 0x02 ∷ 0x0b ∷ 0x00 ∷ 0x01 ∷ 0x03 ∷ []
unfolding leb128 signed_within
on_table = refl

-- the names of a module `a`, of its function 0 and of its global 1
abbrev pub some_names : Section
some_names =
    sections.Names (record {
      module_name = 0x61 ∷ [];
      functions = Some (record { index = 0; name = 0x66 ∷ [] } ∷ []);
      globals = Some (record { index = 1; name = 0x67 ∷ [] } ∷ []);
    })

pub some_names_bytes : (section some_names).bytes ≡ 0x00 ∷ 0x15 ∷ 0x04 ∷ 0x6e ∷ 0x61 ∷ 0x6d ∷ 0x65 ∷ 0x00 ∷ 0x02 ∷ 0x01 ∷ 0x61 ∷ 0x01 ∷ 0x04 ∷ 0x01 ∷ 0x00 ∷ 0x01 ∷ 0x66 ∷ 0x07 ∷ 0x04 ∷ 0x01 ∷ 0x01 ∷ 0x01 ∷ 0x67 ∷ []
unfolding leb128
some_names_bytes = refl

pub signed_63 : signed (pos 63) ≡ 0x3f ∷ []
unfolding signed_within
signed_63 = refl

pub signed_64 : signed (pos 64) ≡ 0xc0 ∷ 0x00 ∷ []
unfolding signed_within
signed_64 = refl

pub signed_minus_1 : signed (negsuc 0) ≡ 0x7f ∷ []
unfolding signed_within
signed_minus_1 = refl

pub signed_minus_64 : signed (negsuc 63) ≡ 0x40 ∷ []
unfolding signed_within
signed_minus_64 = refl

pub signed_minus_65 : signed (negsuc 64) ≡ 0xbf ∷ 0x7f ∷ []
unfolding signed_within
signed_minus_65 = refl

pub signed_minus_128 : signed (negsuc 127) ≡ 0x80 ∷ 0x7f ∷ []
unfolding signed_within
signed_minus_128 = refl

pub signed_2147483647 : signed (pos 2147483647) ≡ 0xff ∷ 0xff ∷ 0xff ∷ 0xff ∷ 0x07 ∷ []
unfolding signed_within
signed_2147483647 = refl

pub signed_minus_2147483648 : signed (negsuc 2147483647) ≡ 0x80 ∷ 0x80 ∷ 0x80 ∷ 0x80 ∷ 0x78 ∷ []
unfolding signed_within
signed_minus_2147483648 = refl

pub signed_minus_9223372036854775808 : signed (negsuc 9223372036854775807) ≡ 0x80 ∷ 0x80 ∷ 0x80 ∷ 0x80 ∷ 0x80 ∷ 0x80 ∷ 0x80 ∷ 0x80 ∷ 0x80 ∷ 0x7f ∷ []
unfolding signed_within
signed_minus_9223372036854775808 = refl
