-- What every value of the program has, and a list of mere numbers may lack: its texts are UTF-8,
-- its indices are below 2 ^ 32, and its core modules have their preamble. Core standard, binary
-- format: values (integers, names), modules.
use Rattle.std.specs.Prelude.{List}
use Rattle.std.specs.List.{AllByRecursion}
use Rattle.std.specs.Str.{IsUtf8}
use Rattle.core_types.specs.Core.{IsCoreModule}
use Rattle.part_readers.specs.Writable.{IsIndex, Optionally, IsValueType, IsTypeDef, IsExternName, IsDescription, IsAlias, IsInstanceType}
use Rattle.comp_bytes.specs.declared.canon.CanonicalOption.{CanonicalOption}
use Rattle.comp_bytes.specs.declared.canon.CanonicalOption.TheVariants as canonical
use Rattle.comp_bytes.specs.declared.canon.Intrinsic.{Intrinsic}
use Rattle.comp_bytes.specs.declared.canon.Intrinsic.TheVariants as intrinsics
use Rattle.comp_bytes.specs.declared.def.CoreArgument.{CoreArgument}
use Rattle.comp_bytes.specs.declared.def.CoreInlineExport.{CoreInlineExport}
use Rattle.comp_bytes.specs.declared.def.Argument.{Argument}
use Rattle.comp_bytes.specs.declared.def.Item.{Item}
use Rattle.comp_bytes.specs.declared.def.Item.TheVariants as items
use Rattle.comp_bytes.specs.declared.def.Def.{Def}
use Rattle.comp_bytes.specs.declared.def.Def.TheVariants as defs

abbrev pub IsCanonicalOption : CanonicalOption → Type 0
IsCanonicalOption canonical.Utf8 = Unit {0}
IsCanonicalOption canonical.Utf16 = Unit {0}
IsCanonicalOption canonical.CompactUtf16 = Unit {0}
IsCanonicalOption (canonical.Memory index) = IsIndex index
IsCanonicalOption (canonical.Realloc index) = IsIndex index
IsCanonicalOption (canonical.PostReturn index) = IsIndex index
IsCanonicalOption canonical.Async = Unit {0}
IsCanonicalOption (canonical.Callback index) = IsIndex index

abbrev pub AreOptions : List CanonicalOption → Type 0
AreOptions options = AllByRecursion IsCanonicalOption options

abbrev pub IsIntrinsic : Intrinsic → Type 0
IsIntrinsic (intrinsics.ResourceNew index) = IsIndex index
IsIntrinsic (intrinsics.ResourceDrop index) = IsIndex index
IsIntrinsic (intrinsics.ResourceRep index) = IsIndex index
IsIntrinsic intrinsics.TaskCancel = Unit {0}
IsIntrinsic (intrinsics.SubtaskCancel async_) = Unit {0}
IsIntrinsic (intrinsics.TaskReturn result options) = Optionally IsValueType result × AreOptions options
IsIntrinsic (intrinsics.ContextGet ty slot) = IsIndex slot
IsIntrinsic (intrinsics.ContextSet ty slot) = IsIndex slot
IsIntrinsic intrinsics.SubtaskDrop = Unit {0}
IsIntrinsic (intrinsics.StreamNew index) = IsIndex index
IsIntrinsic (intrinsics.StreamRead index options) = IsIndex index × AreOptions options
IsIntrinsic (intrinsics.StreamWrite index options) = IsIndex index × AreOptions options
IsIntrinsic (intrinsics.StreamCancelRead index async_) = IsIndex index
IsIntrinsic (intrinsics.StreamCancelWrite index async_) = IsIndex index
IsIntrinsic (intrinsics.StreamDropReadable index) = IsIndex index
IsIntrinsic (intrinsics.StreamDropWritable index) = IsIndex index
IsIntrinsic (intrinsics.FutureNew index) = IsIndex index
IsIntrinsic (intrinsics.FutureRead index options) = IsIndex index × AreOptions options
IsIntrinsic (intrinsics.FutureWrite index options) = IsIndex index × AreOptions options
IsIntrinsic (intrinsics.FutureCancelRead index async_) = IsIndex index
IsIntrinsic (intrinsics.FutureCancelWrite index async_) = IsIndex index
IsIntrinsic (intrinsics.FutureDropReadable index) = IsIndex index
IsIntrinsic (intrinsics.FutureDropWritable index) = IsIndex index
IsIntrinsic (intrinsics.ErrorContextNew options) = AreOptions options
IsIntrinsic (intrinsics.ErrorContextDebugMessage options) = AreOptions options
IsIntrinsic intrinsics.ErrorContextDrop = Unit {0}
IsIntrinsic intrinsics.WaitableSetNew = Unit {0}
IsIntrinsic (intrinsics.WaitableSetWait index) = IsIndex index
IsIntrinsic (intrinsics.WaitableSetPoll index) = IsIndex index
IsIntrinsic intrinsics.WaitableSetDrop = Unit {0}
IsIntrinsic intrinsics.WaitableJoin = Unit {0}
IsIntrinsic intrinsics.BackpressureInc = Unit {0}
IsIntrinsic intrinsics.BackpressureDec = Unit {0}

abbrev pub IsCoreArgument : CoreArgument → Type 0
IsCoreArgument a = IsUtf8 a.name × IsIndex a.instance

abbrev pub IsCoreInlineExport : CoreInlineExport → Type 0
IsCoreInlineExport e = IsUtf8 e.name × IsIndex e.index

abbrev pub IsArgument : Argument → Type 0
IsArgument a = IsUtf8 a.name × IsIndex a.index

abbrev pub IsItem : Item → Type 0
IsItem (items.CoreModule bytes) = IsCoreModule bytes
IsItem (items.CoreInstantiate made args) = IsIndex made × AllByRecursion IsCoreArgument args
IsItem (items.CoreExports entries) = AllByRecursion IsCoreInlineExport entries
IsItem (items.Instantiate made args) = IsIndex made × AllByRecursion IsArgument args
IsItem (items.Alias a) = IsAlias a
IsItem (items.Type t) = IsTypeDef t
IsItem (items.InstanceType t) = IsInstanceType t
IsItem (items.Lift func options ty) = IsIndex func × AreOptions options × IsIndex ty
IsItem (items.Lower func options) = IsIndex func × AreOptions options
IsItem (items.Intrinsic i) = IsIntrinsic i
IsItem (items.Import name description) = IsExternName name × IsDescription description
IsItem (items.Export name sort index description) = IsExternName name × IsIndex index × Optionally IsDescription description
IsItem (items.Custom name contents) = IsUtf8 name

abbrev pub IsDefinition : Def → Type 0
IsDefinition (defs.Item i) = IsItem i
IsDefinition (defs.Component inner) = AllByRecursion IsItem inner

-- a list that a program can hold
abbrev pub IsWritable : List Def → Type 0
IsWritable ds = AllByRecursion IsDefinition ds
