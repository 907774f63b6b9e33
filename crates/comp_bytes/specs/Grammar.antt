-- Each definition as bytes, form by form.
-- Component model, binary format; the names next to the definitions are those of its grammar. Where it isn't final,
-- these are this project's own: the version suffix of a name, `43` for an async function, the type of a context
-- slot, and the `00` of the two waits.
use Rattle.std.specs.Prelude.{ℕ, ◌≡◌, List, map, Bool, Option, Some, None, if◌then◌else◌}
use Rattle.byte_encoding.specs.Encoding.{Encoding, Fits, ◌⊕◌, raw, octet, number, signed_leb, listed, named, optional, flag}
use Rattle.standard_kinds.specs.Bytes.{kind_byte}
use Rattle.comp_bytes.specs.Sections.{Entry, component}
use Rattle.standard_kinds.specs.declared.kinds.ExportKind.{ExportKind}
use Rattle.standard_kinds.specs.declared.kinds.ExportKind.TheVariants as kinds
use Rattle.comp_bytes.specs.declared.space.ComponentExportKind.{ComponentExportKind}
use Rattle.comp_bytes.specs.declared.space.ComponentExportKind.TheVariants as exports
use Rattle.comp_bytes.specs.declared.space.Sort.{Sort}
use Rattle.comp_bytes.specs.declared.space.Sort.TheVariants as sorts
use Rattle.standard_kinds.specs.declared.kinds.Primitive.{Primitive}
use Rattle.standard_kinds.specs.declared.kinds.Primitive.TheVariants as primitives
use Rattle.comp_bytes.specs.declared.types.ComponentValType.{ComponentValType}
use Rattle.comp_bytes.specs.declared.types.ComponentValType.TheVariants as values
use Rattle.comp_bytes.specs.declared.types.Field.{Field}
use Rattle.comp_bytes.specs.declared.types.Case.{Case}
use Rattle.comp_bytes.specs.declared.types.DefinedType.{DefinedType}
use Rattle.comp_bytes.specs.declared.types.DefinedType.TheVariants as defined
use Rattle.comp_bytes.specs.declared.types.FuncTypeDef.{FuncTypeDef}
use Rattle.comp_bytes.specs.declared.types.TypeDef.{TypeDef}
use Rattle.comp_bytes.specs.declared.types.TypeDef.TheVariants as types
use Rattle.comp_bytes.specs.declared.types.ExternName.{ExternName}
use Rattle.comp_bytes.specs.declared.types.Description.{Description}
use Rattle.comp_bytes.specs.declared.types.Description.TheVariants as descriptions
use Rattle.comp_bytes.specs.declared.types.Alias.{Alias}
use Rattle.comp_bytes.specs.declared.types.Alias.TheVariants as aliases
use Rattle.comp_bytes.specs.declared.types.Member.{Member}
use Rattle.comp_bytes.specs.declared.types.Member.TheVariants as members
use Rattle.comp_bytes.specs.declared.canon.CanonicalOption.{CanonicalOption}
use Rattle.comp_bytes.specs.declared.canon.CanonicalOption.TheVariants as canonical
use Rattle.comp_bytes.specs.declared.canon.ContextType.{ContextType}
use Rattle.comp_bytes.specs.declared.canon.ContextType.TheVariants as contexts
use Rattle.comp_bytes.specs.declared.types.InstanceType.{InstanceType}
use Rattle.comp_bytes.specs.declared.canon.Intrinsic.{Intrinsic}
use Rattle.comp_bytes.specs.declared.canon.Intrinsic.TheVariants as intrinsics
use Rattle.comp_bytes.specs.declared.def.CoreArgument.{CoreArgument}
use Rattle.comp_bytes.specs.declared.def.CoreInlineExport.{CoreInlineExport}
use Rattle.comp_bytes.specs.declared.def.Argument.{Argument}
use Rattle.comp_bytes.specs.declared.def.Item.{Item}
use Rattle.comp_bytes.specs.declared.def.Item.TheVariants as items
use Rattle.comp_bytes.specs.declared.def.Def.{Def}
use Rattle.comp_bytes.specs.declared.def.Def.TheVariants as defs

-- sort, of the kinds that an instance exports
abbrev pub export_byte : ComponentExportKind → ℕ
export_byte exports.Func = 0x01
export_byte exports.Type = 0x03
export_byte exports.Component = 0x04
export_byte exports.Instance = 0x05

-- sort
abbrev pub sort_bytes : Sort → Encoding
sort_bytes (sorts.Core kind) = octet 0x00 ⊕ octet (kind_byte kind)
sort_bytes sorts.Func = octet 0x01
sort_bytes sorts.Type = octet 0x03
sort_bytes sorts.Component = octet 0x04
sort_bytes sorts.Instance = octet 0x05

-- primvaltype
abbrev pub primitive_byte : Primitive → ℕ
primitive_byte primitives.Bool = 0x7f
primitive_byte primitives.S8 = 0x7e
primitive_byte primitives.U8 = 0x7d
primitive_byte primitives.S16 = 0x7c
primitive_byte primitives.U16 = 0x7b
primitive_byte primitives.S32 = 0x7a
primitive_byte primitives.U32 = 0x79
primitive_byte primitives.S64 = 0x78
primitive_byte primitives.U64 = 0x77
primitive_byte primitives.F32 = 0x76
primitive_byte primitives.F64 = 0x75
primitive_byte primitives.Char = 0x74
primitive_byte primitives.String = 0x73
primitive_byte primitives.ErrorContext = 0x64

-- valtype: a type index is a signed number, since a primitive type is a negative one
abbrev pub value_type : ComponentValType → Encoding
value_type (values.Primitive p) = octet (primitive_byte p)
value_type (values.Defined index) = raw (signed_leb index)

-- labelvaltype
abbrev pub field : Field → Encoding
field f = named f.name ⊕ value_type f.ty

-- case; the `00` is where a case once named another
abbrev pub case_of : Case → Encoding
case_of c = named c.name ⊕ optional value_type c.ty ⊕ octet 0x00

-- defvaltype
abbrev pub defined_type : DefinedType → Encoding
defined_type (defined.Primitive p) = octet (primitive_byte p)
defined_type (defined.Record fields) = octet 0x72 ⊕ listed field fields
defined_type (defined.Variant cases) = octet 0x71 ⊕ listed case_of cases
defined_type (defined.List t) = octet 0x70 ⊕ value_type t
defined_type (defined.Tuple types) = octet 0x6f ⊕ listed value_type types
defined_type (defined.Flags names) = octet 0x6e ⊕ listed named names
defined_type (defined.Enum names) = octet 0x6d ⊕ listed named names
defined_type (defined.Option t) = octet 0x6b ⊕ value_type t
defined_type (defined.Result ok err) = octet 0x6a ⊕ optional value_type ok ⊕ optional value_type err
defined_type (defined.Own index) = octet 0x69 ⊕ number index
defined_type (defined.Borrow index) = octet 0x68 ⊕ number index
defined_type (defined.Stream t) = octet 0x66 ⊕ optional value_type t
defined_type (defined.Future t) = octet 0x65 ⊕ optional value_type t

-- resultlist: `00 t`, or `01 00` for none
abbrev pub function_result : Option ComponentValType → Encoding
function_result None = octet 0x01 ⊕ octet 0x00
function_result (Some t) = octet 0x00 ⊕ value_type t

-- functype
abbrev pub function_type : FuncTypeDef → Encoding
function_type f = octet (if f.async_ then 0x43 else 0x40) ⊕ listed field f.params ⊕ function_result f.result

-- resourcetype, represented by an i32, with its destructor
abbrev pub resource_type : Option ℕ → Encoding
resource_type destructor = octet 0x3f ⊕ octet 0x7f ⊕ optional number destructor

-- deftype, but for an instance type
abbrev pub type_def : TypeDef → Encoding
type_def (types.Func f) = function_type f
type_def (types.Resource destructor) = resource_type destructor
type_def (types.Defined t) = defined_type t

-- importname', exportname'
abbrev pub extern_name : ExternName → Encoding
extern_name n = elim n.version_suffix [ None ↦ octet 0x00 ⊕ named n.name | Some suffix ↦ octet 0x01 ⊕ named n.name ⊕ named suffix ]

-- externdesc
abbrev pub description_bytes : Description → Encoding
description_bytes (descriptions.Func index) = octet 0x01 ⊕ number index
description_bytes (descriptions.TypeEqual index) = octet 0x03 ⊕ octet 0x00 ⊕ number index
description_bytes descriptions.SubResource = octet 0x03 ⊕ octet 0x01
description_bytes (descriptions.Instance index) = octet 0x05 ⊕ number index

-- alias
abbrev pub alias_bytes : Alias → Encoding
alias_bytes (aliases.Export kind instance name) = octet (export_byte kind) ⊕ octet 0x00 ⊕ number instance ⊕ named name
alias_bytes (aliases.CoreExport kind instance name) = octet 0x00 ⊕ octet (kind_byte kind) ⊕ octet 0x01 ⊕ number instance ⊕ named name
alias_bytes (aliases.Outer count index) = octet 0x03 ⊕ octet 0x02 ⊕ number count ⊕ number index

-- instancedecl
abbrev pub member : Member → Encoding
member (members.Type t) = octet 0x01 ⊕ type_def t
member (members.Alias a) = octet 0x02 ⊕ alias_bytes a
member (members.Export name description) = octet 0x04 ⊕ extern_name name ⊕ description_bytes description

-- instancetype
abbrev pub instance_type : InstanceType → Encoding
instance_type t = octet 0x42 ⊕ listed member t.members

-- canonopt
abbrev pub option_bytes : CanonicalOption → Encoding
option_bytes canonical.Utf8 = octet 0x00
option_bytes canonical.Utf16 = octet 0x01
option_bytes canonical.CompactUtf16 = octet 0x02
option_bytes (canonical.Memory index) = octet 0x03 ⊕ number index
option_bytes (canonical.Realloc index) = octet 0x04 ⊕ number index
option_bytes (canonical.PostReturn index) = octet 0x05 ⊕ number index
option_bytes canonical.Async = octet 0x06
option_bytes (canonical.Callback index) = octet 0x07 ⊕ number index

-- the core type of a context slot
abbrev pub context_byte : ContextType → ℕ
context_byte contexts.I32 = 0x7f
context_byte contexts.I64 = 0x7e

-- canon, but for lift and lower
abbrev pub intrinsic_bytes : Intrinsic → Encoding
intrinsic_bytes (intrinsics.ResourceNew index) = octet 0x02 ⊕ number index
intrinsic_bytes (intrinsics.ResourceDrop index) = octet 0x03 ⊕ number index
intrinsic_bytes (intrinsics.ResourceRep index) = octet 0x04 ⊕ number index
intrinsic_bytes intrinsics.TaskCancel = octet 0x05
intrinsic_bytes (intrinsics.SubtaskCancel async_) = octet 0x06 ⊕ flag async_
intrinsic_bytes (intrinsics.TaskReturn result options) = octet 0x09 ⊕ function_result result ⊕ listed option_bytes options
intrinsic_bytes (intrinsics.ContextGet ty slot) = octet 0x0a ⊕ octet (context_byte ty) ⊕ number slot
intrinsic_bytes (intrinsics.ContextSet ty slot) = octet 0x0b ⊕ octet (context_byte ty) ⊕ number slot
intrinsic_bytes intrinsics.SubtaskDrop = octet 0x0d
intrinsic_bytes (intrinsics.StreamNew index) = octet 0x0e ⊕ number index
intrinsic_bytes (intrinsics.StreamRead index options) = octet 0x0f ⊕ number index ⊕ listed option_bytes options
intrinsic_bytes (intrinsics.StreamWrite index options) = octet 0x10 ⊕ number index ⊕ listed option_bytes options
intrinsic_bytes (intrinsics.StreamCancelRead index async_) = octet 0x11 ⊕ number index ⊕ flag async_
intrinsic_bytes (intrinsics.StreamCancelWrite index async_) = octet 0x12 ⊕ number index ⊕ flag async_
intrinsic_bytes (intrinsics.StreamDropReadable index) = octet 0x13 ⊕ number index
intrinsic_bytes (intrinsics.StreamDropWritable index) = octet 0x14 ⊕ number index
intrinsic_bytes (intrinsics.FutureNew index) = octet 0x15 ⊕ number index
intrinsic_bytes (intrinsics.FutureRead index options) = octet 0x16 ⊕ number index ⊕ listed option_bytes options
intrinsic_bytes (intrinsics.FutureWrite index options) = octet 0x17 ⊕ number index ⊕ listed option_bytes options
intrinsic_bytes (intrinsics.FutureCancelRead index async_) = octet 0x18 ⊕ number index ⊕ flag async_
intrinsic_bytes (intrinsics.FutureCancelWrite index async_) = octet 0x19 ⊕ number index ⊕ flag async_
intrinsic_bytes (intrinsics.FutureDropReadable index) = octet 0x1a ⊕ number index
intrinsic_bytes (intrinsics.FutureDropWritable index) = octet 0x1b ⊕ number index
intrinsic_bytes (intrinsics.ErrorContextNew options) = octet 0x1c ⊕ listed option_bytes options
intrinsic_bytes (intrinsics.ErrorContextDebugMessage options) = octet 0x1d ⊕ listed option_bytes options
intrinsic_bytes intrinsics.ErrorContextDrop = octet 0x1e
intrinsic_bytes intrinsics.WaitableSetNew = octet 0x1f
intrinsic_bytes (intrinsics.WaitableSetWait index) = octet 0x20 ⊕ octet 0x00 ⊕ number index
intrinsic_bytes (intrinsics.WaitableSetPoll index) = octet 0x21 ⊕ octet 0x00 ⊕ number index
intrinsic_bytes intrinsics.WaitableSetDrop = octet 0x22
intrinsic_bytes intrinsics.WaitableJoin = octet 0x23
intrinsic_bytes intrinsics.BackpressureInc = octet 0x24
intrinsic_bytes intrinsics.BackpressureDec = octet 0x25

-- core:instantiatearg
abbrev pub core_argument : CoreArgument → Encoding
core_argument a = named a.name ⊕ octet 0x12 ⊕ number a.instance

-- core:inlineexport
abbrev pub core_inline_export : CoreInlineExport → Encoding
core_inline_export e = named e.name ⊕ octet (kind_byte e.kind) ⊕ number e.index

-- instantiatearg
abbrev pub argument : Argument → Encoding
argument a = named a.name ⊕ sort_bytes a.sort ⊕ number a.index

abbrev pub entry : ℕ → Encoding → Entry
entry id text = record { id = id; text = text }

-- section: the id of a definition's section, and what is written of it there
abbrev pub item : Item → Entry
item (items.CoreModule bytes) = entry 1 (raw bytes)
item (items.CoreInstantiate made args) = entry 2 (octet 0x00 ⊕ number made ⊕ listed core_argument args)
item (items.CoreExports entries) = entry 2 (octet 0x01 ⊕ listed core_inline_export entries)
item (items.Instantiate made args) = entry 5 (octet 0x00 ⊕ number made ⊕ listed argument args)
item (items.Alias a) = entry 6 (alias_bytes a)
item (items.Type t) = entry 7 (type_def t)
item (items.InstanceType t) = entry 7 (instance_type t)
item (items.Lift func options ty) = entry 8 (octet 0x00 ⊕ octet 0x00 ⊕ number func ⊕ listed option_bytes options ⊕ number ty)
item (items.Lower func options) = entry 8 (octet 0x01 ⊕ octet 0x00 ⊕ number func ⊕ listed option_bytes options)
item (items.Intrinsic i) = entry 8 (intrinsic_bytes i)
item (items.Import name description) = entry 10 (extern_name name ⊕ description_bytes description)
item (items.Export name sort index description) = entry 11 (extern_name name ⊕ sort_bytes sort ⊕ number index ⊕ optional description_bytes description)
item (items.Custom name contents) = entry 0 (named name ⊕ raw contents)

-- the same of a definition, which may be a nested component
abbrev pub definition : Def → Entry
definition (defs.Item i) = item i
definition (defs.Component inner) = entry 4 (component (map item inner))

-- The encoding of a component, by its definitions.
abbrev pub encoding_of : List Def → Encoding
encoding_of ds = component (map definition ds)

-- The bytes are those of the definitions, none of whose counts and sizes passes 32 bits.
abbrev pub Encodes : List ℕ → List Def → Type 0
Encodes bytes ds = Fits (encoding_of ds).counts × (bytes ≡ (encoding_of ds).bytes)
