-- The items that each definition names by index, in the order in which they are written.
-- Component model, binary format: every `idx` of the grammar.
use Rattle.std.specs.Prelude.{ℕ, List, [], ◌∷◌, ◌++◌, Option, Some, None}
use Rattle.std.specs.List.{flat_map}
use Rattle.comp_bytes.specs.Spaces.{kind_space, sort_space}
use Rattle.comp_bytes.specs.declared.space.Space.{Space}
use Rattle.comp_bytes.specs.declared.space.Space.TheVariants as spaces
use Rattle.comp_bytes.specs.declared.types.ComponentValType.{ComponentValType}
use Rattle.comp_bytes.specs.declared.types.ComponentValType.TheVariants as values
use Rattle.comp_bytes.specs.declared.types.Field.{Field}
use Rattle.comp_bytes.specs.declared.types.DefinedType.{DefinedType}
use Rattle.comp_bytes.specs.declared.types.DefinedType.TheVariants as defined
use Rattle.comp_bytes.specs.declared.types.TypeDef.{TypeDef}
use Rattle.comp_bytes.specs.declared.types.TypeDef.TheVariants as types
use Rattle.comp_bytes.specs.declared.types.Description.{Description}
use Rattle.comp_bytes.specs.declared.types.Description.TheVariants as descriptions
use Rattle.comp_bytes.specs.declared.types.Alias.{Alias}
use Rattle.comp_bytes.specs.declared.types.Alias.TheVariants as aliases
use Rattle.comp_bytes.specs.declared.types.Member.{Member}
use Rattle.comp_bytes.specs.declared.types.Member.TheVariants as members
use Rattle.comp_bytes.specs.declared.canon.CanonicalOption.{CanonicalOption}
use Rattle.comp_bytes.specs.declared.canon.CanonicalOption.TheVariants as canonical
use Rattle.comp_bytes.specs.declared.canon.Intrinsic.{Intrinsic}
use Rattle.comp_bytes.specs.declared.canon.Intrinsic.TheVariants as intrinsics
use Rattle.comp_bytes.specs.declared.def.Item.{Item}
use Rattle.comp_bytes.specs.declared.def.Item.TheVariants as items
use Rattle.comp_bytes.specs.declared.def.Def.{Def}
use Rattle.comp_bytes.specs.declared.def.Def.TheVariants as defs

-- An item, by its index in a space of the scope that is so many scopes outward: 0 is the own one.
pub record Reference : Type 0 where
  pub outward : ℕ
  pub space : Space
  pub index : ℕ

-- an item of the own scope
abbrev pub own : Space → ℕ → Reference
own space index = record { outward = 0; space = space; index = index }

abbrev pub type_at : ℕ → List Reference
type_at index = own spaces.Type index ∷ []

abbrev pub core_func_at : ℕ → List Reference
core_func_at index = own spaces.CoreFunc index ∷ []

abbrev pub where_some : {A : Type 0} → (A → List Reference) → Option A → List Reference
where_some f None = []
where_some f (Some x) = f x

abbrev pub value_references : ComponentValType → List Reference
value_references (values.Primitive p) = []
value_references (values.Defined index) = type_at index

abbrev pub fields_references : List Field → List Reference
fields_references fields = flat_map (λ f. value_references f.ty) fields

abbrev pub defined_references : DefinedType → List Reference
defined_references (defined.Primitive p) = []
defined_references (defined.Record fields) = fields_references fields
defined_references (defined.Variant cases) = flat_map (λ c. where_some value_references c.ty) cases
defined_references (defined.List t) = value_references t
defined_references (defined.Tuple members) = flat_map value_references members
defined_references (defined.Flags names) = []
defined_references (defined.Enum names) = []
defined_references (defined.Option t) = value_references t
defined_references (defined.Result ok err) = where_some value_references ok ++ where_some value_references err
defined_references (defined.Own index) = type_at index
defined_references (defined.Borrow index) = type_at index
defined_references (defined.Stream t) = where_some value_references t
defined_references (defined.Future t) = where_some value_references t

abbrev pub type_references : TypeDef → List Reference
type_references (types.Func f) = fields_references f.params ++ where_some value_references f.result
type_references (types.Resource destructor) = where_some core_func_at destructor
type_references (types.Defined t) = defined_references t

abbrev pub description_references : Description → List Reference
description_references (descriptions.Func index) = type_at index
description_references (descriptions.TypeEqual index) = type_at index
description_references descriptions.SubResource = []
description_references (descriptions.Instance index) = type_at index

abbrev pub alias_references : Alias → List Reference
alias_references (aliases.Export kind instance name) = own spaces.Instance instance ∷ []
alias_references (aliases.CoreExport kind instance name) = own spaces.CoreInstance instance ∷ []
alias_references (aliases.Outer count index) = record { outward = count; space = spaces.Type; index = index } ∷ []

abbrev pub option_references : CanonicalOption → List Reference
option_references canonical.Utf8 = []
option_references canonical.Utf16 = []
option_references canonical.CompactUtf16 = []
option_references (canonical.Memory index) = own spaces.CoreMemory index ∷ []
option_references (canonical.Realloc index) = core_func_at index
option_references (canonical.PostReturn index) = core_func_at index
option_references canonical.Async = []
option_references (canonical.Callback index) = core_func_at index

abbrev pub options_references : List CanonicalOption → List Reference
options_references options = flat_map option_references options

abbrev pub intrinsic_references : Intrinsic → List Reference
intrinsic_references (intrinsics.ResourceNew index) = type_at index
intrinsic_references (intrinsics.ResourceDrop index) = type_at index
intrinsic_references (intrinsics.ResourceRep index) = type_at index
intrinsic_references intrinsics.TaskCancel = []
intrinsic_references (intrinsics.SubtaskCancel async_) = []
intrinsic_references (intrinsics.TaskReturn result options) = where_some value_references result ++ options_references options
intrinsic_references (intrinsics.ContextGet ty slot) = []
intrinsic_references (intrinsics.ContextSet ty slot) = []
intrinsic_references intrinsics.SubtaskDrop = []
intrinsic_references (intrinsics.StreamNew index) = type_at index
intrinsic_references (intrinsics.StreamRead index options) = type_at index ++ options_references options
intrinsic_references (intrinsics.StreamWrite index options) = type_at index ++ options_references options
intrinsic_references (intrinsics.StreamCancelRead index async_) = type_at index
intrinsic_references (intrinsics.StreamCancelWrite index async_) = type_at index
intrinsic_references (intrinsics.StreamDropReadable index) = type_at index
intrinsic_references (intrinsics.StreamDropWritable index) = type_at index
intrinsic_references (intrinsics.FutureNew index) = type_at index
intrinsic_references (intrinsics.FutureRead index options) = type_at index ++ options_references options
intrinsic_references (intrinsics.FutureWrite index options) = type_at index ++ options_references options
intrinsic_references (intrinsics.FutureCancelRead index async_) = type_at index
intrinsic_references (intrinsics.FutureCancelWrite index async_) = type_at index
intrinsic_references (intrinsics.FutureDropReadable index) = type_at index
intrinsic_references (intrinsics.FutureDropWritable index) = type_at index
intrinsic_references (intrinsics.ErrorContextNew options) = options_references options
intrinsic_references (intrinsics.ErrorContextDebugMessage options) = options_references options
intrinsic_references intrinsics.ErrorContextDrop = []
intrinsic_references intrinsics.WaitableSetNew = []
intrinsic_references (intrinsics.WaitableSetWait memory) = own spaces.CoreMemory memory ∷ []
intrinsic_references (intrinsics.WaitableSetPoll memory) = own spaces.CoreMemory memory ∷ []
intrinsic_references intrinsics.WaitableSetDrop = []
intrinsic_references intrinsics.WaitableJoin = []
intrinsic_references intrinsics.BackpressureInc = []
intrinsic_references intrinsics.BackpressureDec = []

-- of a member of an instance type, whose scope is that type
abbrev pub member_references : Member → List Reference
member_references (members.Type t) = type_references t
member_references (members.Alias a) = alias_references a
member_references (members.Export name description) = description_references description

-- of an item; the members of an instance type are in a scope of their own, and are not among these
abbrev pub item_references : Item → List Reference
item_references (items.CoreModule bytes) = []
item_references (items.CoreInstantiate made args) = own spaces.CoreModule made ∷ flat_map (λ a. own spaces.CoreInstance a.instance ∷ []) args
item_references (items.CoreExports entries) = flat_map (λ e. own (kind_space e.kind) e.index ∷ []) entries
item_references (items.Instantiate made args) = own spaces.Component made ∷ flat_map (λ a. own (sort_space a.sort) a.index ∷ []) args
item_references (items.Alias a) = alias_references a
item_references (items.Type t) = type_references t
item_references (items.InstanceType t) = []
item_references (items.Lift func options ty) = core_func_at func ++ options_references options ++ type_at ty
item_references (items.Lower func options) = own spaces.Func func ∷ options_references options
item_references (items.Intrinsic i) = intrinsic_references i
item_references (items.Import name description) = description_references description
item_references (items.Export name sort index description) = own (sort_space sort) index ∷ where_some description_references description
item_references (items.Custom name contents) = []

-- of a definition; the items of a nested component are in a scope of their own
abbrev pub references : Def → List Reference
references (defs.Item i) = item_references i
references (defs.Component inner) = []
