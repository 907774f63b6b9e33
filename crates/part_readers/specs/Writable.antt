-- What every value of the program has, and a list of mere numbers may lack: its texts are UTF-8, and its indices are
-- below 2 ^ 32. Core standard, binary format: values (integers, names).
use Rattle.std.specs.Prelude.{ℕ, ◌<◌, ◌^◌, List, Option, Some, None}
use Rattle.std.specs.List.{AllByRecursion}
use Rattle.std.specs.Str.{IsUtf8}
use Rattle.comp_bytes.specs.declared.types.ComponentValType.{ComponentValType}
use Rattle.comp_bytes.specs.declared.types.ComponentValType.TheVariants as values
use Rattle.comp_bytes.specs.declared.types.Field.{Field}
use Rattle.comp_bytes.specs.declared.types.Case.{Case}
use Rattle.comp_bytes.specs.declared.types.DefinedType.{DefinedType}
use Rattle.comp_bytes.specs.declared.types.DefinedType.TheVariants as defined
use Rattle.comp_bytes.specs.declared.types.FuncTypeDef.{FuncTypeDef}
use Rattle.comp_bytes.specs.declared.types.TypeDef.{TypeDef}
use Rattle.comp_bytes.specs.declared.types.TypeDef.TheVariants as types
use Rattle.comp_bytes.specs.declared.types.ExternName.{ExternName}
use Rattle.comp_bytes.specs.declared.types.Description.{Description}
use Rattle.comp_bytes.specs.declared.types.Description.TheVariants as descriptions
use Rattle.comp_bytes.specs.declared.types.Alias.{Alias}
use Rattle.comp_bytes.specs.declared.types.Alias.TheVariants as aliases
use Rattle.comp_bytes.specs.declared.types.Member.{Member}
use Rattle.comp_bytes.specs.declared.types.Member.TheVariants as members
use Rattle.comp_bytes.specs.declared.types.InstanceType.{InstanceType}

abbrev pub IsIndex : ℕ → Type 0
IsIndex n = n < 2 ^ 32

-- a property of the value, if there is one
abbrev pub Optionally : {A : Type 0} → (A → Type 0) → Option A → Type 0
Optionally W None = Unit {0}
Optionally W (Some x) = W x

abbrev pub Always : {A : Type 0} → A → Type 0
Always x = Unit {0}

abbrev pub IsValueType : ComponentValType → Type 0
IsValueType (values.Primitive p) = Unit {0}
IsValueType (values.Defined index) = IsIndex index

abbrev pub IsField : Field → Type 0
IsField f = IsUtf8 f.name × IsValueType f.ty

abbrev pub IsCase : Case → Type 0
IsCase c = IsUtf8 c.name × Optionally IsValueType c.ty

abbrev pub IsDefinedType : DefinedType → Type 0
IsDefinedType (defined.Primitive p) = Unit {0}
IsDefinedType (defined.Record fields) = AllByRecursion IsField fields
IsDefinedType (defined.Variant cases) = AllByRecursion IsCase cases
IsDefinedType (defined.List t) = IsValueType t
IsDefinedType (defined.Tuple types) = AllByRecursion IsValueType types
IsDefinedType (defined.Flags names) = AllByRecursion IsUtf8 names
IsDefinedType (defined.Enum names) = AllByRecursion IsUtf8 names
IsDefinedType (defined.Option t) = IsValueType t
IsDefinedType (defined.Result ok err) = Optionally IsValueType ok × Optionally IsValueType err
IsDefinedType (defined.Own index) = IsIndex index
IsDefinedType (defined.Borrow index) = IsIndex index
IsDefinedType (defined.Stream t) = Optionally IsValueType t
IsDefinedType (defined.Future t) = Optionally IsValueType t

abbrev pub IsFuncType : FuncTypeDef → Type 0
IsFuncType f = AllByRecursion IsField f.params × Optionally IsValueType f.result

abbrev pub IsTypeDef : TypeDef → Type 0
IsTypeDef (types.Func f) = IsFuncType f
IsTypeDef (types.Resource destructor) = Optionally IsIndex destructor
IsTypeDef (types.Defined t) = IsDefinedType t

abbrev pub IsExternName : ExternName → Type 0
IsExternName n = IsUtf8 n.name × Optionally IsUtf8 n.version_suffix

abbrev pub IsDescription : Description → Type 0
IsDescription (descriptions.Func index) = IsIndex index
IsDescription (descriptions.TypeEqual index) = IsIndex index
IsDescription descriptions.SubResource = Unit {0}
IsDescription (descriptions.Instance index) = IsIndex index

abbrev pub IsAlias : Alias → Type 0
IsAlias (aliases.Export kind instance name) = IsIndex instance × IsUtf8 name
IsAlias (aliases.CoreExport kind instance name) = IsIndex instance × IsUtf8 name
IsAlias (aliases.Outer count index) = IsIndex count × IsIndex index

abbrev pub IsMember : Member → Type 0
IsMember (members.Type t) = IsTypeDef t
IsMember (members.Alias a) = IsAlias a
IsMember (members.Export name description) = IsExternName name × IsDescription description

abbrev pub IsInstanceType : InstanceType → Type 0
IsInstanceType t = AllByRecursion IsMember t.members
