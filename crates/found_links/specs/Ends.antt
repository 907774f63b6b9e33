-- What items are called where links are shown: by the module, the import or the built-in function
-- that they are from. (The texts are this project's own; what the definitions mean is from the
-- component model's explainer: canonical definitions, aliases.)
use Rattle.std.specs.Prelude.{ℕ, List, [], ◌++◌, codes, Option, Some}
use Rattle.std.specs.List.{flat_map}
use Rattle.std.specs.Fmt.{decimal}
use Rattle.comp_bytes.specs.declared.space.Space.{Space}
use Rattle.comp_bytes.specs.declared.space.Space.TheVariants as spaces
use Rattle.comp_bytes.specs.declared.types.Alias.{Alias}
use Rattle.comp_bytes.specs.declared.types.Alias.TheVariants as aliases
use Rattle.comp_bytes.specs.declared.canon.CanonicalOption.{CanonicalOption}
use Rattle.comp_bytes.specs.declared.canon.CanonicalOption.TheVariants as canonical
use Rattle.comp_bytes.specs.declared.canon.Intrinsic.{Intrinsic}
use Rattle.comp_bytes.specs.declared.canon.Intrinsic.TheVariants as intrinsics
use Rattle.comp_bytes.specs.declared.def.Item.{Item}
use Rattle.comp_bytes.specs.declared.def.Item.TheVariants as items
use Rattle.comp_lines.specs.Lines.{space_word}
use Rattle.comp_lines.specs.Texts.{quoted}
use Rattle.found_links.specs.Items.{Found, item}

-- an item of which nothing more is said: its space and its index
abbrev pub numbered : Space → ℕ → List ℕ
numbered space index = space_word space ++ codes " " ++ decimal index

-- ---- core items

abbrev pub of_core_instance : ℕ → Option Item → List ℕ
of_core_instance index (Some (items.CoreInstantiate made args)) = codes "module " ++ decimal made
of_core_instance index _ = numbered spaces.CoreInstance index

-- a core instance: the module that it is an instance of
abbrev pub core_instance : Found → ℕ → List ℕ
core_instance f index = of_core_instance index (item f spaces.CoreInstance index)

-- an export of a core instance
abbrev pub exported : Found → ℕ → List ℕ → List ℕ
exported f instance name = core_instance f instance ++ codes " " ++ quoted name

abbrev pub aliased_core : Found → Space → ℕ → Alias → List ℕ
aliased_core f space index (aliases.CoreExport kind instance name) = exported f instance name
aliased_core f space index _ = numbered space index

abbrev pub of_core_export : Found → Space → ℕ → Option Item → List ℕ
of_core_export f space index (Some (items.Alias a)) = aliased_core f space index a
of_core_export f space index _ = numbered space index

-- a core item that is an alias of an instance's export
abbrev pub core_export : Found → Space → ℕ → List ℕ
core_export f space index = of_core_export f space index (item f space index)

abbrev pub option_text : Found → CanonicalOption → List ℕ
option_text f canonical.Utf8 = codes ", utf8"
option_text f canonical.Utf16 = codes ", utf16"
option_text f canonical.CompactUtf16 = codes ", compact"
option_text f (canonical.Memory index) = codes ", memory=" ++ core_export f spaces.CoreMemory index
option_text f (canonical.Realloc index) = codes ", realloc=" ++ core_export f spaces.CoreFunc index
option_text f (canonical.PostReturn index) = codes ", post-return=" ++ core_export f spaces.CoreFunc index
option_text f canonical.Async = codes ", async"
option_text f (canonical.Callback index) = codes ", callback=" ++ core_export f spaces.CoreFunc index

-- ---- functions and instances of components

abbrev pub of_instance : ℕ → Option Item → List ℕ
of_instance index (Some (items.Import name description)) = codes "import " ++ quoted name.name
of_instance index _ = numbered spaces.Instance index

abbrev pub instance : Found → ℕ → List ℕ
instance f index = of_instance index (item f spaces.Instance index)

abbrev pub aliased_func : Found → ℕ → Alias → List ℕ
aliased_func f index (aliases.Export kind from name) = instance f from ++ codes " " ++ quoted name
aliased_func f index _ = numbered spaces.Func index

abbrev pub of_func : Found → ℕ → Option Item → List ℕ
of_func f index (Some (items.Import name description)) = codes "import " ++ quoted name.name
of_func f index (Some (items.Alias a)) = aliased_func f index a
of_func f index _ = numbered spaces.Func index

-- a function: the import that it is, or of which it is an export
abbrev pub func : Found → ℕ → List ℕ
func f index = of_func f index (item f spaces.Func index)

-- ---- what a core item is made of, and how

abbrev pub intrinsic_word : Intrinsic → List ℕ
intrinsic_word (intrinsics.ResourceNew ty) = codes "resource.new"
intrinsic_word (intrinsics.ResourceDrop ty) = codes "resource.drop"
intrinsic_word (intrinsics.ResourceRep ty) = codes "resource.rep"
intrinsic_word intrinsics.TaskCancel = codes "task.cancel"
intrinsic_word (intrinsics.SubtaskCancel async_) = codes "subtask.cancel"
intrinsic_word (intrinsics.TaskReturn result options) = codes "task.return"
intrinsic_word (intrinsics.ContextGet ty slot) = codes "context.get"
intrinsic_word (intrinsics.ContextSet ty slot) = codes "context.set"
intrinsic_word intrinsics.SubtaskDrop = codes "subtask.drop"
intrinsic_word (intrinsics.StreamNew ty) = codes "stream.new"
intrinsic_word (intrinsics.StreamRead ty options) = codes "stream.read"
intrinsic_word (intrinsics.StreamWrite ty options) = codes "stream.write"
intrinsic_word (intrinsics.StreamCancelRead ty async_) = codes "stream.cancel-read"
intrinsic_word (intrinsics.StreamCancelWrite ty async_) = codes "stream.cancel-write"
intrinsic_word (intrinsics.StreamDropReadable ty) = codes "stream.drop-readable"
intrinsic_word (intrinsics.StreamDropWritable ty) = codes "stream.drop-writable"
intrinsic_word (intrinsics.FutureNew ty) = codes "future.new"
intrinsic_word (intrinsics.FutureRead ty options) = codes "future.read"
intrinsic_word (intrinsics.FutureWrite ty options) = codes "future.write"
intrinsic_word (intrinsics.FutureCancelRead ty async_) = codes "future.cancel-read"
intrinsic_word (intrinsics.FutureCancelWrite ty async_) = codes "future.cancel-write"
intrinsic_word (intrinsics.FutureDropReadable ty) = codes "future.drop-readable"
intrinsic_word (intrinsics.FutureDropWritable ty) = codes "future.drop-writable"
intrinsic_word (intrinsics.ErrorContextNew options) = codes "error-context.new"
intrinsic_word (intrinsics.ErrorContextDebugMessage options) = codes "error-context.debug-message"
intrinsic_word intrinsics.ErrorContextDrop = codes "error-context.drop"
intrinsic_word intrinsics.WaitableSetNew = codes "waitable-set.new"
intrinsic_word (intrinsics.WaitableSetWait memory) = codes "waitable-set.wait"
intrinsic_word (intrinsics.WaitableSetPoll memory) = codes "waitable-set.poll"
intrinsic_word intrinsics.WaitableSetDrop = codes "waitable-set.drop"
intrinsic_word intrinsics.WaitableJoin = codes "waitable.join"
intrinsic_word intrinsics.BackpressureInc = codes "backpressure.inc"
intrinsic_word intrinsics.BackpressureDec = codes "backpressure.dec"

abbrev pub of_core_source : Found → Space → ℕ → Option Item → List ℕ
of_core_source f space index (Some (items.Lower lowered options)) = func f lowered
of_core_source f space index (Some (items.Intrinsic i)) = codes "built-in " ++ intrinsic_word i
of_core_source f space index made = of_core_export f space index made

-- what a core item is from: the function that is lowered, the built-in function, or a module's export
abbrev pub core_source : Found → Space → ℕ → List ℕ
core_source f space index = of_core_source f space index (item f space index)

abbrev pub of_core_how : Found → Option Item → List ℕ
of_core_how f (Some (items.Lower lowered options)) = codes ", lowered" ++ flat_map (option_text f) options
of_core_how f _ = []

-- how it is made of that: with which options it is lowered
abbrev pub core_how : Found → Space → ℕ → List ℕ
core_how f space index = of_core_how f (item f space index)

-- ---- what a function that is exported is made of, and how

abbrev pub of_func_source : Found → ℕ → Option Item → List ℕ
of_func_source f index (Some (items.Lift core options ty)) = core_export f spaces.CoreFunc core
of_func_source f index made = of_func f index made

-- what a function is from: the core function that is lifted, or the import that it is
abbrev pub func_source : Found → ℕ → List ℕ
func_source f index = of_func_source f index (item f spaces.Func index)

abbrev pub of_func_how : Found → Option Item → List ℕ
of_func_how f (Some (items.Lift core options ty)) = codes ", lifted" ++ flat_map (option_text f) options
of_func_how f _ = []

-- how it is made of that: with which options it is lifted
abbrev pub func_how : Found → ℕ → List ℕ
func_how f index = of_func_how f (item f spaces.Func index)
