-- The types that functions, interfaces and core imports name, and the tables that follow from them (component model,
-- binary format: an instance type declares each type that its functions and types name).
use Rattle.std.specs.Prelude.{ℕ, suc, Bool, ◌&&◌, ◌==◌, not, if◌then◌else◌, List, [], ◌∷◌, ◌++◌, map, filter, Option, Some, None, is_some}
use Rattle.std.specs.List.{flat_map, filter_map}
use Rattle.std.specs.Map.{lookup}
use Rattle.comp_lists.specs.Found.{found}
use Rattle.world_values.specs.Items.{functions_of, root_function_at}
use Rattle.world_values.specs.Tables.{with_all}
use Rattle.wit_data.specs.Live.{is_live, named_types}
use Rattle.wit_data.specs.Sound.{HasType, HasTypeId, HasFunction}
use Rattle.wit_data.specs.declared.functions.Function.{Function}
use Rattle.wit_data.specs.declared.functions.FunctionKind.{FunctionKind}
use Rattle.wit_data.specs.declared.functions.FunctionKind.TheVariants as kinds
use Rattle.wit_data.specs.declared.ids.InterfaceId.{InterfaceId}
use Rattle.wit_data.specs.declared.ids.TypeId.{TypeId}
use Rattle.wit_data.specs.declared.resolve.Resolve.{Resolve}
use Rattle.wit_data.specs.declared.types.Type.{«Type» as Ty}
use Rattle.wit_data.specs.declared.types.Type.TheVariants.{Id}
use Rattle.wit_data.specs.declared.types.TypeDef.{TypeDef}
use Rattle.wit_data.specs.declared.types.TypeOwner.{TypeOwner}
use Rattle.wit_data.specs.declared.types.TypeOwner.TheVariants as owners
use Rattle.wit_data.specs.declared.worlds.World.{World}
use Rattle.wit_data.specs.declared.worlds.WorldItem.{WorldItem}
use Rattle.wit_data.specs.declared.worlds.WorldItem.TheVariants as items
use Rattle.wit_data.specs.declared.worlds.WorldKey.{WorldKey}
use Rattle.wit_data.specs.contracts.ids.InterfaceIdPartialEq.TheImpl as same_id
use Rattle.comp_roles.specs.CoreImports.{CoreImport}
use Rattle.comp_roles.specs.declared.imports.Import.{Import}
use Rattle.comp_roles.specs.declared.imports.Import.TheVariants as imports
use Rattle.comp_roles.specs.declared.payloads.PayloadInfo.{PayloadInfo}
use Rattle.comp_roles.specs.declared.payloads.PayloadType.{PayloadType}
use Rattle.comp_roles.specs.declared.payloads.PayloadType.TheVariants as payloads

-- ---- what names which types

abbrev pub at_most_one : {A : Type 0} → Option A → List A
at_most_one None = []
at_most_one (Some x) = x ∷ []

-- the resource that a function belongs to
abbrev pub resource_of : FunctionKind → Option Ty
resource_of kinds.Freestanding = None
resource_of kinds.AsyncFreestanding = None
resource_of (kinds.Method id) = Some (Id id)
resource_of (kinds.AsyncMethod id) = Some (Id id)
resource_of (kinds.Static id) = Some (Id id)
resource_of (kinds.AsyncStatic id) = Some (Id id)
resource_of (kinds.Constructor id) = Some (Id id)

-- a function: its resource, its parameters and its result
abbrev pub function_types : Function → List Ty
function_types f = at_most_one (resource_of f.kind) ++ (map (λ p. p.ty) f.params ++ at_most_one f.result)

-- of these, what it takes and returns
abbrev pub passed_types : Function → List Ty
passed_types f = map (λ p. p.ty) f.params ++ at_most_one f.result

abbrev pub types_of_function : Option Function → List Ty
types_of_function None = []
types_of_function (Some f) = function_types f

-- an interface: its types, and what its functions name
abbrev pub interface_types : Resolve → InterfaceId → List Ty
interface_types r id = map (λ t. Id t.1) (named_types r id) ++ flat_map (λ f. function_types f.1) (functions_of r id)

-- the stream or the future of the role of a core import
abbrev pub payload_in : Import → Option PayloadInfo
payload_in (imports.StreamNew p) = Some p
payload_in (imports.StreamRead p is_async) = Some p
payload_in (imports.StreamWrite p is_async) = Some p
payload_in (imports.StreamCancelRead p is_async) = Some p
payload_in (imports.StreamCancelWrite p is_async) = Some p
payload_in (imports.StreamDropReadable p) = Some p
payload_in (imports.StreamDropWritable p) = Some p
payload_in (imports.FutureNew p) = Some p
payload_in (imports.FutureRead p is_async) = Some p
payload_in (imports.FutureWrite p is_async) = Some p
payload_in (imports.FutureCancelRead p is_async) = Some p
payload_in (imports.FutureCancelWrite p is_async) = Some p
payload_in (imports.FutureDropReadable p) = Some p
payload_in (imports.FutureDropWritable p) = Some p
payload_in role = None

abbrev pub payload_type : PayloadType → Option Ty
payload_type (payloads.Typed id function) = Some (Id id)
payload_type unit = None

-- its type, if it occurs in an import
abbrev pub imported_payload : Option PayloadInfo → Option Ty
imported_payload None = None
imported_payload (Some p) = if p.imported then payload_type p.ty else None

-- a core import: the imported function or resource drop that is its role, or the imported stream or future
abbrev pub role_types : Resolve → List (WorldKey × WorldItem) → Import → List Ty
role_types r entries (imports.WorldFunc key name abi) = types_of_function (root_function_at entries key)
role_types r entries (imports.InterfaceFunc key id name abi) = types_of_function (found name (functions_of r id))
role_types r entries (imports.ImportedResourceDrop key interface id) = Id id ∷ []
role_types r entries role = at_most_one (imported_payload (payload_in role))

-- what the role of a core import itself names exists in the resolve
abbrev pub HasRole : Resolve → Import → Type 0
HasRole r (imports.ImportedResourceDrop key interface id) = HasTypeId r id
HasRole r role = HasType r (imported_payload (payload_in role))

-- the function of a `task.return`, which the role itself has, exists in the resolve
abbrev pub HasReturned : Resolve → Import → Type 0
HasReturned r (imports.ExportedTaskReturn key interface f) = HasFunction r f
HasReturned r role = Unit {0}

-- an import of the world: a bare type is needed even if it is unused
abbrev pub import_types : WorldItem → List Ty
import_types (items.NamedType id) = Id id ∷ []
import_types item = []

abbrev pub export_types : Resolve → WorldItem → List Ty
export_types r (items.Interface id) = interface_types r id
export_types r (items.Function f) = function_types f
export_types r (items.NamedType id) = Id id ∷ []

-- all types for which the component needs definitions
abbrev pub used_types : List CoreImport → Resolve → World → List Ty
used_types imports r w =
    flat_map (λ i. role_types r w.imports i.role) imports ++ (flat_map (λ e. import_types e.1) w.imports ++ flat_map (λ e. export_types r e.1) w.exports)

-- ---- live types

abbrev pub same_interface : InterfaceId → InterfaceId → Bool
same_interface = same_id.eq-value.it

abbrev pub interface_in : WorldItem → Option InterfaceId
interface_in (items.Interface id) = Some id
interface_in item = None

-- the interfaces among imports or exports, in order
abbrev pub interfaces_of : List (WorldKey × WorldItem) → List InterfaceId
interfaces_of entries = filter_map (λ e. interface_in e.1) entries

-- an imported interface with those of its types that are live, in its order
abbrev pub live_entry : (ℕ → Bool) → Resolve → WorldItem → List (InterfaceId × List TypeId)
live_entry live r (items.Interface id) = (id, filter (λ t. live t.index) (map (λ e. e.1) (named_types r id))) ∷ []
live_entry live r item = []

-- of each imported interface those types that are used, or reached by used ones
abbrev pub live_type_imports : List CoreImport → Resolve → World → List (InterfaceId × List TypeId)
live_type_imports imports r w =
    with_all same_interface [] (flat_map (λ e. live_entry (is_live r.types (used_types imports r w)) r e.1) w.imports)

-- ---- exported interfaces that others name

-- the interface, by its number, to which a type belongs, if it belongs to one
abbrev pub owner_in : TypeOwner → List (ℕ × Unit {0})
owner_in (owners.Interface id) = (id.index, tt) ∷ []
owner_in owner = []

-- the interfaces to which the live types belong, where the first of the types has this number
abbrev pub owners_from : (ℕ → Bool) → ℕ → List TypeDef → List (ℕ × Unit {0})
owners_from live n [] = []
owners_from live n (t ∷ ts) = (if live n then owner_in t.owner else []) ++ owners_from live (suc n) ts

-- whether a type that an interface names reaches a type of another
abbrev pub names_interface : Resolve → InterfaceId → InterfaceId → Bool
names_interface r id other =
    is_some (lookup (λ n. other.index == n) (owners_from (is_live r.types (interface_types r id)) 0 r.types))

-- an exported interface with the other exported ones that it names
abbrev pub used_entry : Resolve → List InterfaceId → WorldItem → List (InterfaceId × List InterfaceId)
used_entry r all (items.Interface id) = (id, filter (λ other. names_interface r id other && not (other.index == id.index)) all) ∷ []
used_entry r all item = []

-- of each exported interface the other exported ones that it names, in the world's order
abbrev pub exports_used : Resolve → World → List (InterfaceId × List InterfaceId)
exports_used r w = with_all same_interface [] (flat_map (λ e. used_entry r (interfaces_of w.exports) e.1) w.exports)
