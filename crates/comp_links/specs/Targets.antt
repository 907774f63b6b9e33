-- What an import of a core module is to be given, and what a required export is to be lifted from
-- (Canonical ABI: `canon lower`, `canon lift` and their options, `canon resource.new` and its
-- neighbours, `canon task.return`, `canon stream.new` and the other built-in functions). A target names modules,
-- functions and exports, and never an index.
use Rattle.std.specs.Prelude.{ℕ, List, Option, Some, None}
use Rattle.standard_kinds.specs.declared.kinds.StringEncoding.{StringEncoding}
use Rattle.comp_bytes.specs.declared.canon.Intrinsic.{Intrinsic}
use Rattle.wit_data.specs.declared.ids.InterfaceId.{InterfaceId}
use Rattle.wit_data.specs.declared.ids.TypeId.{TypeId}
use Rattle.wit_data.specs.declared.types.Type.{«Type» as Ty}
use Rattle.wit_data.specs.declared.types.Type.TheVariants.{Id}
use Rattle.wit_data.specs.declared.types.TypeDef.{TypeDef}
use Rattle.comp_roles.specs.declared.payloads.PayloadType.{PayloadType}
use Rattle.comp_roles.specs.declared.payloads.PayloadType.TheVariants as payloads
use Rattle.comp_trees.specs.Trees.{Tree, Absent, StreamOf, FutureOf, Resource}
use Rattle.comp_trees.specs.WitTrees.{wit_tree}

-- a user module: main, or an adapter by its name
pub data UserModule : Type 0 where
  Main : UserModule
  Adapter : (name : List ℕ) → UserModule

-- an export of a user module
pub record ExportRef : Type 0 where
  pub of : UserModule
  pub name : List ℕ

-- a function that the world imports: at its root, or in an imported interface
pub data WorldFunction : Type 0 where
  OfRoot : (name : List ℕ) → WorldFunction
  OfInterface : (interface : InterfaceId) (name : List ℕ) → WorldFunction

-- an option of a lowering, a lift or a built-in function. The memory is main's, and no function here has options of its own
pub data TargetOption : Type 0 where
  Memory : TargetOption
  Realloc : (export_ref : ExportRef) → TargetOption
  Encoding : (encoding : StringEncoding) → TargetOption
  Async : TargetOption
  PostReturn : (export_ref : ExportRef) → TargetOption
  Callback : (export_ref : ExportRef) → TargetOption

-- `resource.new` makes a handle of a representation, `resource.rep` finds the representation of a
-- handle, and `resource.drop` drops a handle
pub data ResourceFunction : Type 0 where
  New : ResourceFunction
  Rep : ResourceFunction
  Drop : ResourceFunction

-- what a built-in function is of: nothing, a type of the world, or a stream or a future that carries nothing
pub data Operand : Type 0 where
  NoType : Operand
  OfType : (type : Ty) → Operand
  UnitStream : Operand
  UnitFuture : Operand

-- of the type that a function may have
abbrev pub operand_if_any : Option Ty → Operand
operand_if_any None = NoType
operand_if_any (Some type) = OfType type

-- of a stream or a future
abbrev pub payload_operand : PayloadType → Operand
payload_operand (payloads.Typed id function) = OfType (Id id)
payload_operand payloads.UnitFuture = UnitFuture
payload_operand payloads.UnitStream = UnitStream

-- what this denotes, where each resource of the world is what `origins` says
abbrev pub operand_tree : (origins : TypeId → Resource) → List TypeDef → Operand → Option Tree
operand_tree origins types NoType = None
operand_tree origins types (OfType type) = Some (wit_tree origins types (Some type))
operand_tree origins types UnitStream = Some (StreamOf Absent)
operand_tree origins types UnitFuture = Some (FutureOf Absent)

-- what an import of a core module is linked to, or what an export of the component is
pub data Target : Type 0 where
  Lowered : (function : WorldFunction) (options : List TargetOption) → Target
  ExportOf : (export_ref : ExportRef) → Target
  MainMemory : Target
  -- a function of the handles of a resource of the world
  OfResource : (function : ResourceFunction) (resource : TypeId) → Target
  -- a built-in function: its name has no index and no option
  BuiltIn : (name : Intrinsic) (operand : Operand) (options : List TargetOption) → Target
  -- the function that reads the cell of the thread-local base, and the one that sets it
  TlsGet : Target
  TlsSet : Target
  Lifted : (entry : ExportRef) (options : List TargetOption) → Target
  -- of a role that no world has so far: no item meets it
  Unlinked : Target
