-- What is left out of some worlds, worked out.
use Rattle.std.proofs.Common.{Bool, true, false, ◌≡◌, ℕ, List, [], ◌∷◌, ◌++◌, map, Option, Some, None, refl}
use Rattle.std.specs.Prelude.{codes, replicate}
use Rattle.standard_kinds.specs.declared.kinds.Primitive.TheVariants as prims
use Rattle.standard_kinds.specs.declared.kinds.ExportKind.TheVariants as given
use Rattle.core_types.specs.declared.types.ValType.TheVariants as core
use Rattle.wit_data.specs.declared.functions.AbiVariant.TheVariants.{GuestImport, GuestExport, GuestImportAsync, GuestExportAsync, GuestExportAsyncStackful}
use Rattle.wit_data.specs.declared.functions.Function.{Function}
use Rattle.wit_data.specs.declared.functions.FunctionKind.{FunctionKind}
use Rattle.wit_data.specs.declared.functions.FunctionKind.TheVariants.{Freestanding, AsyncFreestanding, Method, AsyncMethod, Static, AsyncStatic, Constructor}
use Rattle.wit_data.specs.declared.ids.TypeId.{TypeId}
use Rattle.wit_data.specs.declared.ids.InterfaceId.{InterfaceId}
use Rattle.wit_data.specs.declared.names.IdName.{IdName}
use Rattle.wit_data.specs.declared.resolve.Interface.{Interface}
use Rattle.wit_data.specs.declared.resolve.Resolve.{Resolve}
use Rattle.wit_data.specs.declared.types.Type.{«Type» as Ty}
use Rattle.wit_data.specs.declared.types.Type.TheVariants.{Id, Primitive}
use Rattle.wit_data.specs.declared.types.TypeDef.{TypeDef}
use Rattle.wit_data.specs.declared.types.TypeDefKind.{TypeDefKind}
use Rattle.wit_data.specs.declared.types.TypeDefKind.TheVariants as kinds
use Rattle.wit_data.specs.declared.types.TypeOwner.TheVariants as owners
use Rattle.wit_data.specs.declared.worlds.World.{World}
use Rattle.wit_data.specs.declared.worlds.WorldItem.{WorldItem}
use Rattle.wit_data.specs.declared.worlds.WorldItem.TheVariants as items
use Rattle.wit_data.specs.declared.worlds.WorldKey.{WorldKey}
use Rattle.wit_data.specs.declared.worlds.WorldKey.TheVariants as keys
use Rattle.wit_data.specs.Values.{values_from}
use Rattle.comp_roles.specs.declared.exports.Export.TheVariants as exports
use Rattle.comp_roles.specs.declared.imports.Import.TheVariants as imports
use Rattle.comp_roles.specs.declared.payloads.PayloadInfo.{PayloadInfo}
use Rattle.comp_roles.specs.declared.payloads.PayloadType.TheVariants as payload_types
use Rattle.comp_roles.specs.declared.imports.ImportInstance.TheVariants as instances
use Rattle.comp_roles.specs.declared.libraries.Item.{Item}
use Rattle.comp_roles.specs.declared.libraries.MainOrAdapter.TheVariants as modules
use Rattle.supported_worlds.specs.Kinds.{import_kind}
use Rattle.supported_worlds.specs.LeftOut.{import_item_left_out, world_left_out, twice_left_out, names_left_out, order_left_out, resources_left_out, import_left_out, export_left_out, group_left_out, own_role_left_out}
use Rattle.supported_worlds.specs.Placed.{places_of}

abbrev a_type : TypeId
a_type = record { index = 0 }

abbrev another_type : TypeId
another_type = record { index = 1 }

abbrev an_interface : InterfaceId
an_interface = record { index = 0 }

abbrev another_interface : InterfaceId
another_interface = record { index = 1 }

abbrev an_interface_type : TypeDef
an_interface_type = record { name = Some (codes "t"); kind = kinds.Alias (Primitive prims.U8); owner = owners.Interface an_interface }

-- types of the world
abbrev of_world : TypeDefKind → TypeDef
of_world kind = record { name = Some (codes "t"); kind = kind; owner = owners.World (record { index = 0 }) }

abbrev unnamed : TypeDefKind → TypeDef
unnamed kind = record { name = None; kind = kind; owner = owners.«None» }

-- a function with these parameters, and this result
abbrev function : FunctionKind → List Ty → Option Ty → Function
function kind params result = record { name = codes "f"; kind = kind; params = map (λ t. record { name = codes "x"; ty = t }) params; result = result }

abbrev plain : Function
plain = function Freestanding [] None

abbrev f : WorldKey
f = keys.Name (codes "f")

abbrev nothing_imported : World
nothing_imported = record { imports = []; exports = [] }

abbrev resolve_of : List TypeDef → List Interface → Resolve
resolve_of types interfaces = record { interfaces = interfaces; types = types; worlds = [] }

-- a world that imports these types
abbrev importing : List TypeId → World
importing ids = record { imports = map (λ id. (keys.Name (codes "t"), items.NamedType id)) ids; exports = [] }

-- what is left out of an imported function at the root
abbrev of_root : List TypeDef → Function → Option (List ℕ)
of_root types g = import_item_left_out (f, items.Function g)

-- ---- functions

plain_is_encoded : of_root [] plain ≡ None
plain_is_encoded = refl

-- no type is left out: not a text, a list, a result in memory, or more parameters than are passed as core values
text_is_encoded : of_root [] (function Freestanding (Primitive prims.«String» ∷ []) (Some (Primitive prims.«String»))) ≡ None
text_is_encoded = refl

list_is_encoded : of_root (unnamed (kinds.«List» (Primitive prims.U8)) ∷ []) (function Freestanding (Id a_type ∷ []) (Some (Id a_type))) ≡ None
list_is_encoded = refl

pair_is_a_result : of_root (unnamed (kinds.Tuple (Primitive prims.U32 ∷ Primitive prims.U32 ∷ [])) ∷ []) (function Freestanding [] (Some (Id a_type))) ≡ None
pair_is_a_result = refl

many_params_are_encoded : of_root [] (function Freestanding (replicate 17 (Primitive prims.U32)) None) ≡ None
many_params_are_encoded = refl

any_types_are_encoded : (types : List TypeDef) (params : List Ty) (result : Option Ty) → of_root types (function Freestanding params result) ≡ None
any_types_are_encoded types params result = refl

-- nor is a kind of function: it may be asynchronous, and belong to a resource
async_is_encoded : of_root [] (function AsyncFreestanding (Primitive prims.«String» ∷ []) None) ≡ None
async_is_encoded = refl

method_is_encoded : of_root [] (function (Method a_type) [] None) ≡ None
method_is_encoded = refl

static_is_encoded : of_root [] (function (Static a_type) [] None) ≡ None
static_is_encoded = refl

constructor_is_encoded : of_root (unnamed kinds.Resource ∷ unnamed (kinds.Own a_type) ∷ []) (function (Constructor a_type) [] (Some (Id another_type))) ≡ None
constructor_is_encoded = refl

async_method_is_encoded : of_root [] (function (AsyncMethod a_type) [] None) ≡ None
async_method_is_encoded = refl

async_static_is_encoded : of_root [] (function (AsyncStatic a_type) [] None) ≡ None
async_static_is_encoded = refl

-- ---- items

-- an imported type is encoded, an exported one is not
types_are_imported : world_left_out (record { imports = (keys.Name (codes "t"), items.NamedType a_type) ∷ (f, items.Function plain) ∷ []; exports = [] }) ≡ None
types_are_imported = refl

types_are_not_exported : world_left_out (record { imports = []; exports = (keys.Name (codes "t"), items.NamedType a_type) ∷ [] }) ≡ Some (codes "type")
types_are_not_exported = refl

-- exports are checked only once all imports pass, and the first that is left out is reported
first_is_reported : world_left_out (record {
  imports = (f, items.Function plain) ∷ [];
  exports = (f, items.Function plain) ∷ (keys.Name (codes "t"), items.NamedType a_type) ∷ (keys.Interface an_interface, items.Interface an_interface) ∷ [];
}) ≡ Some (codes "type")
first_is_reported = refl

-- ---- interfaces

-- an interface with these types and this function
abbrev interface_of : List (List ℕ × TypeId) → Function → Interface
interface_of named g = record { id = None; types = named; functions = (codes "f", g) ∷ [] }

interface_is_imported : world_left_out (record { imports = (keys.Interface an_interface, items.Interface an_interface) ∷ (keys.Name (codes "i"), items.Interface an_interface) ∷ []; exports = [] }) ≡ None
interface_is_imported = refl

abbrev exporting : WorldKey → InterfaceId → World
exporting key id = record { imports = []; exports = (key, items.Interface id) ∷ [] }

interface_is_exported : world_left_out (exporting (keys.Name (codes "i")) an_interface) ≡ None
interface_is_exported = refl

-- ---- names of exported interfaces

abbrev an_id : IdName
an_id = record { namespace = codes "n"; «package» = codes "p"; interface = codes "i"; version = None }

abbrev with_id : Option IdName → Interface
with_id id = record { id = id; types = []; functions = [] }

name_is_encoded : names_left_out (resolve_of [] (with_id None ∷ [])) (exporting (keys.Name (codes "i")) an_interface) ≡ None
name_is_encoded = refl

colon_is_reported : names_left_out (resolve_of [] (with_id None ∷ [])) (exporting (keys.Name (codes "n:p/i")) an_interface) ≡ Some (codes "interface")
colon_is_reported = refl

id_is_encoded : names_left_out (resolve_of [] (with_id (Some an_id) ∷ [])) (exporting (keys.Interface an_interface) an_interface) ≡ None
id_is_encoded = refl

missing_id_is_reported : names_left_out (resolve_of [] (with_id None ∷ [])) (exporting (keys.Interface an_interface) an_interface) ≡ Some (codes "interface")
missing_id_is_reported = refl

-- two interfaces of one id
same_id_is_reported : names_left_out (resolve_of [] (with_id (Some an_id) ∷ with_id (Some an_id) ∷ []))
    (record { imports = []; exports = (keys.Interface an_interface, items.Interface an_interface) ∷ (keys.Interface another_interface, items.Interface another_interface) ∷ [] }) ≡ Some (codes "interface")
same_id_is_reported = refl

-- a function's name is no interface's
function_needs_no_id : names_left_out (resolve_of [] []) (record { imports = []; exports = (keys.Name (codes "a:b"), items.Function plain) ∷ [] }) ≡ None
function_needs_no_id = refl

-- ---- order

abbrev importing_interfaces : List InterfaceId → World
importing_interfaces ids = record { imports = map (λ id. (keys.Interface id, items.Interface id)) ids; exports = [] }

-- a type with this name of the first interface, and one of the second
abbrev of_first : List ℕ → TypeDefKind → TypeDef
of_first name kind = record { name = Some name; kind = kind; owner = owners.Interface an_interface }

abbrev of_second : List ℕ → TypeDefKind → TypeDef
of_second name kind = record { name = Some name; kind = kind; owner = owners.Interface another_interface }

-- The first interface has a resource `r`; the second uses it, as `s`, and has a function of its handles:
-- `interface a { resource r; }`, `interface b { use a.{r as s}; f: func(x: own<s>) -> borrow<s>; }`.
abbrev two_types : List TypeDef
two_types = of_first (codes "r") kinds.Resource ∷ of_second (codes "s") (kinds.Alias (Id a_type)) ∷ unnamed (kinds.Own another_type) ∷ unnamed (kinds.Borrow another_type) ∷ []

abbrev two_interfaces : List Interface
two_interfaces =
    record { id = None; types = (codes "r", a_type) ∷ []; functions = [] }
    ∷ interface_of ((codes "s", another_type) ∷ []) (function Freestanding (Id (record { index = 2 }) ∷ []) (Some (Id (record { index = 3 }))))
    ∷ []

first_type_comes_first : places_of two_types (importing_interfaces (an_interface ∷ another_interface ∷ [])).imports ≡ 0 ∷ 1 ∷ 1 ∷ 1 ∷ []
unfolding values_from
first_type_comes_first = refl

used_type_is_placed : order_left_out (resolve_of two_types two_interfaces) (importing_interfaces (an_interface ∷ another_interface ∷ [])) ≡ None
unfolding values_from
used_type_is_placed = refl

-- the second interface before the first, which it uses, or without it
wrong_order_is_reported : order_left_out (resolve_of two_types two_interfaces) (importing_interfaces (another_interface ∷ an_interface ∷ [])) ≡ Some (codes "interface")
unfolding values_from
wrong_order_is_reported = refl

missing_interface_is_reported : order_left_out (resolve_of two_types two_interfaces) (importing_interfaces (another_interface ∷ [])) ≡ Some (codes "interface")
unfolding values_from
missing_interface_is_reported = refl

-- a function of the first that is made of the second's type
later_type_is_reported : order_left_out
    (resolve_of (of_second (codes "s") (kinds.Stream None) ∷ []) (interface_of [] (function Freestanding (Id a_type ∷ []) None) ∷ record { id = None; types = (codes "s", a_type) ∷ []; functions = [] } ∷ []))
    (importing_interfaces (an_interface ∷ another_interface ∷ [])) ≡ Some (codes "interface")
unfolding values_from
later_type_is_reported = refl

-- a type that its interface doesn't list, or lists under another name, and a resource without a name
unlisted_type_is_reported : order_left_out (resolve_of (an_interface_type ∷ []) (interface_of [] plain ∷ [])) (importing_interfaces (an_interface ∷ [])) ≡ Some (codes "interface")
unfolding values_from
unlisted_type_is_reported = refl

other_name_is_reported : order_left_out (resolve_of (an_interface_type ∷ []) (interface_of ((codes "u", a_type) ∷ []) plain ∷ [])) (importing_interfaces (an_interface ∷ [])) ≡ Some (codes "interface")
unfolding values_from
other_name_is_reported = refl

unnamed_resource_is_reported : order_left_out (resolve_of (unnamed kinds.Resource ∷ []) []) nothing_imported ≡ Some (codes "interface")
unfolding values_from
unnamed_resource_is_reported = refl

-- an interface lists its own types alone, in their order
other_type_is_reported : order_left_out (resolve_of (of_world (kinds.Stream None) ∷ []) (interface_of ((codes "t", a_type) ∷ []) plain ∷ [])) (importing_interfaces (an_interface ∷ [])) ≡ Some (codes "interface")
unfolding values_from
other_type_is_reported = refl

order_of_types_is_reported : order_left_out
    (resolve_of (of_first (codes "t") (kinds.Stream None) ∷ of_first (codes "u") (kinds.Stream None) ∷ []) (interface_of ((codes "u", another_type) ∷ (codes "t", a_type) ∷ []) plain ∷ []))
    (importing_interfaces (an_interface ∷ [])) ≡ Some (codes "interface")
unfolding values_from
order_of_types_is_reported = refl

-- types and functions of the root come after all interfaces
root_is_last : order_left_out (resolve_of (two_types ++ of_world (kinds.Alias (Id a_type)) ∷ []) two_interfaces)
    (record { imports = (f, items.Function (function Freestanding (Id (record { index = 4 }) ∷ []) None)) ∷ (importing_interfaces (an_interface ∷ another_interface ∷ [])).imports; exports = [] }) ≡ None
unfolding values_from
root_is_last = refl

-- an exported interface is made of types without names, at whatever place
list_is_exported : order_left_out (resolve_of (unnamed (kinds.«List» (Primitive prims.U8)) ∷ []) (interface_of [] (function Freestanding (Id a_type ∷ []) (Some (Id a_type))) ∷ [])) (exporting (keys.Name (codes "i")) an_interface) ≡ None
unfolding values_from
list_is_exported = refl

-- of types of its own, and of types without names that are made of these
own_type_is_exported : order_left_out (resolve_of (an_interface_type ∷ []) (interface_of ((codes "t", a_type) ∷ []) plain ∷ [])) (exporting (keys.Name (codes "i")) an_interface) ≡ None
unfolding values_from
own_type_is_exported = refl

list_of_own_types_is_exported : order_left_out (resolve_of (an_interface_type ∷ unnamed (kinds.«List» (Id a_type)) ∷ []) (interface_of ((codes "t", a_type) ∷ []) (function Freestanding (Id another_type ∷ []) None) ∷ [])) (exporting (keys.Name (codes "i")) an_interface) ≡ None
unfolding values_from
list_of_own_types_is_exported = refl

-- and of a resource of its own
own_resource_is_exported : order_left_out (resolve_of (of_first (codes "r") kinds.Resource ∷ []) (interface_of ((codes "r", a_type) ∷ []) plain ∷ [])) (exporting (keys.Name (codes "i")) an_interface) ≡ None
unfolding values_from
own_resource_is_exported = refl

-- not of a named type of the world, or of a type that is made of one
list_of_names_is_reported : order_left_out (resolve_of (of_world (kinds.Stream None) ∷ unnamed (kinds.«List» (Id a_type)) ∷ []) (interface_of [] (function Freestanding (Id another_type ∷ []) None) ∷ [])) (exporting (keys.Name (codes "i")) an_interface) ≡ Some (codes "interface")
unfolding values_from
list_of_names_is_reported = refl

-- of types that are made of ones of another interface, which the world imports
abbrev of_two : TypeDefKind → List TypeDef
of_two kind = of_second (codes "s") kind ∷ of_first (codes "t") (kinds.«List» (Id a_type)) ∷ []

abbrev first_and_second : List Interface
first_and_second = interface_of ((codes "t", another_type) ∷ []) plain ∷ record { id = None; types = (codes "s", a_type) ∷ []; functions = [] } ∷ []

abbrev importing_and_exporting : List InterfaceId → List InterfaceId → World
importing_and_exporting imported exported = record { imports = (importing_interfaces imported).imports; exports = (importing_interfaces exported).imports }

used_type_is_exported : order_left_out (resolve_of (of_two (kinds.Stream None)) first_and_second) (importing_and_exporting (another_interface ∷ []) (an_interface ∷ [])) ≡ None
unfolding values_from
used_type_is_exported = refl

-- also where the type is a resource
used_resource_is_exported : order_left_out (resolve_of (of_two kinds.Resource) first_and_second) (importing_and_exporting (another_interface ∷ []) (an_interface ∷ [])) ≡ None
unfolding values_from
used_resource_is_exported = refl

-- also where that interface is exported, whatever the order, but not where it is neither
type_of_a_later_export_is_exported : order_left_out (resolve_of (of_two (kinds.Stream None)) first_and_second) (importing_and_exporting [] (an_interface ∷ another_interface ∷ [])) ≡ None
unfolding values_from
type_of_a_later_export_is_exported = refl

resource_of_an_earlier_export_is_exported : order_left_out (resolve_of (of_two kinds.Resource) first_and_second) (importing_and_exporting [] (another_interface ∷ an_interface ∷ [])) ≡ None
unfolding values_from
resource_of_an_earlier_export_is_exported = refl

type_of_no_interface_there_is_reported : order_left_out (resolve_of (of_two (kinds.Stream None)) first_and_second) (importing_and_exporting [] (an_interface ∷ [])) ≡ Some (codes "interface")
unfolding values_from
type_of_no_interface_there_is_reported = refl

-- nor are its types listed in another order
own_types_in_another_order_are_reported : order_left_out
    (resolve_of (of_first (codes "t") (kinds.Stream None) ∷ of_first (codes "u") (kinds.Stream None) ∷ []) (interface_of ((codes "u", another_type) ∷ (codes "t", a_type) ∷ []) plain ∷ []))
    (exporting (keys.Name (codes "i")) an_interface) ≡ Some (codes "interface")
unfolding values_from
own_types_in_another_order_are_reported = refl

-- an interface that is imported under two names
twice_imported_is_reported : twice_left_out [] (record { imports = (keys.Interface an_interface, items.Interface an_interface) ∷ (keys.Name (codes "i"), items.Interface an_interface) ∷ []; exports = [] }) ≡ Some (codes "interface")
twice_imported_is_reported = refl

two_interfaces_are_apart : twice_left_out [] (importing_interfaces (an_interface ∷ another_interface ∷ [])) ≡ None
two_interfaces_are_apart = refl

-- one that is imported and exported, or exported under two names
imported_and_exported_is_reported : twice_left_out [] (importing_and_exporting (an_interface ∷ another_interface ∷ []) (an_interface ∷ [])) ≡ Some (codes "interface")
imported_and_exported_is_reported = refl

twice_exported_is_reported : twice_left_out [] (importing_and_exporting [] (an_interface ∷ another_interface ∷ an_interface ∷ [])) ≡ Some (codes "interface")
twice_exported_is_reported = refl

-- or that has to be exported twice
twice_required_is_reported : twice_left_out (keys.Interface an_interface ∷ keys.Interface an_interface ∷ []) (importing_and_exporting [] (an_interface ∷ [])) ≡ Some (codes "interface")
twice_required_is_reported = refl

once_required_is_apart : twice_left_out (keys.Interface an_interface ∷ f ∷ []) (importing_and_exporting (another_interface ∷ []) (an_interface ∷ [])) ≡ None
once_required_is_apart = refl

-- so is a function at the root that has to be
function_required_twice_is_reported : twice_left_out (f ∷ keys.Interface an_interface ∷ f ∷ []) (importing_and_exporting [] (an_interface ∷ [])) ≡ Some (codes "world-func")
function_required_twice_is_reported = refl

interface_comes_before_a_function : twice_left_out (f ∷ keys.Interface an_interface ∷ f ∷ keys.Interface an_interface ∷ []) (importing_and_exporting [] (an_interface ∷ [])) ≡ Some (codes "interface")
interface_comes_before_a_function = refl

-- ---- resources

abbrev types_left_out : List TypeDef → World → Option (List ℕ)
types_left_out types w = resources_left_out types w.imports

resource_is_imported : types_left_out (of_world kinds.Resource ∷ []) (importing (a_type ∷ [])) ≡ None
resource_is_imported = refl

resource_is_missing : types_left_out (of_world kinds.Resource ∷ []) nothing_imported ≡ Some (codes "type")
resource_is_missing = refl

-- of two resources the first, or the last
first_is_missing : types_left_out (of_world kinds.Resource ∷ of_world kinds.Resource ∷ []) (importing (another_type ∷ [])) ≡ Some (codes "type")
first_is_missing = refl

last_is_missing : types_left_out (of_world kinds.Resource ∷ of_world kinds.Resource ∷ []) (importing (a_type ∷ [])) ≡ Some (codes "type")
last_is_missing = refl

both_are_imported : types_left_out (of_world kinds.Resource ∷ of_world kinds.Resource ∷ []) (importing (a_type ∷ another_type ∷ [])) ≡ None
both_are_imported = refl

-- a resource of an interface is not the world's
interface_resource_is_no_import : types_left_out (of_first (codes "r") kinds.Resource ∷ []) nothing_imported ≡ None
interface_resource_is_no_import = refl

-- other types need not be imported, but no type comes before an earlier one or twice
handle_is_passed_over : types_left_out (of_world kinds.Resource ∷ unnamed (kinds.Own a_type) ∷ of_world kinds.Resource ∷ []) (importing (a_type ∷ record { index = 2 } ∷ [])) ≡ None
handle_is_passed_over = refl

order_is_reported : types_left_out (of_world (kinds.Stream None) ∷ of_world (kinds.Stream None) ∷ []) (importing (another_type ∷ a_type ∷ [])) ≡ Some (codes "type")
order_is_reported = refl

twice_is_reported : types_left_out (of_world kinds.Resource ∷ []) (importing (a_type ∷ a_type ∷ [])) ≡ Some (codes "type")
twice_is_reported = refl

-- functions between them make no difference
function_is_no_type : types_left_out (of_world kinds.Resource ∷ []) (record { imports = (f, items.Function plain) ∷ (keys.Name (codes "t"), items.NamedType a_type) ∷ []; exports = [] }) ≡ None
function_is_no_type = refl

-- ---- roles

call_is_encoded : import_left_out [] [] 0 (imports.WorldFunc f (codes "f") GuestImport) ≡ None
call_is_encoded = refl

async_call_is_encoded : import_left_out [] [] 0 (imports.WorldFunc f (codes "f") GuestImportAsync) ≡ None
async_call_is_encoded = refl

exported_form_is_none : import_left_out [] [] 0 (imports.WorldFunc f (codes "f") GuestExport) ≡ Some (codes "world-func")
exported_form_is_none = refl

-- a function of an interface is called in the same forms
interface_call_is_encoded : import_left_out [] [] 0 (imports.InterfaceFunc f an_interface (codes "f") GuestImport) ≡ None
interface_call_is_encoded = refl

async_interface_call_is_encoded : import_left_out [] [] 0 (imports.InterfaceFunc f an_interface (codes "f") GuestImportAsync) ≡ None
async_interface_call_is_encoded = refl

exported_form_of_interface_is_none : import_left_out [] [] 0 (imports.InterfaceFunc f an_interface (codes "f") GuestExport) ≡ Some (codes "interface-func")
exported_form_of_interface_is_none = refl

-- what main exports is given to others
function_of_main_is_encoded : import_left_out [] [] 0 (imports.MainModuleExport (codes "x") given.Func) ≡ None
function_of_main_is_encoded = refl

memory_of_main_is_encoded : import_left_out [] [] 0 (imports.MainModuleExport (codes "x") given.Memory) ≡ None
memory_of_main_is_encoded = refl

global_of_main_is_encoded : import_left_out [] [] 0 (imports.MainModuleExport (codes "x") given.Global) ≡ None
global_of_main_is_encoded = refl

table_of_main_is_encoded : import_left_out [] [] 0 (imports.MainModuleExport (codes "x") given.Table) ≡ None
table_of_main_is_encoded = refl

-- the base of thread-local data is an address, of 32 or 64 bits
base_is_encoded : import_left_out [] [] 0 (imports.TlsBaseGet core.I32) ≡ None
base_is_encoded = refl

wide_base_is_encoded : import_left_out [] [] 0 (imports.TlsBaseSet core.I64) ≡ None
wide_base_is_encoded = refl

base_of_no_address_is_reported : import_left_out [] [] 0 (imports.TlsBaseGet core.F32) ≡ Some (codes "tls-get")
base_of_no_address_is_reported = refl

-- the drop of a resource, and of what is none
drop_is_encoded : import_left_out (of_world kinds.Resource ∷ []) (0 ∷ []) 0 (imports.ImportedResourceDrop f None a_type) ≡ None
drop_is_encoded = refl

drop_of_values_is_reported : import_left_out (of_world (kinds.Stream None) ∷ []) (0 ∷ []) 0 (imports.ImportedResourceDrop f None a_type) ≡ Some (codes "imported-drop")
drop_of_values_is_reported = refl

drop_behind_the_root_is_reported : import_left_out (of_world kinds.Resource ∷ []) (1 ∷ []) 0 (imports.ImportedResourceDrop f None a_type) ≡ Some (codes "imported-drop")
drop_behind_the_root_is_reported = refl

drop_of_nothing_is_reported : import_left_out (of_world kinds.Resource ∷ []) (0 ∷ []) 0 (imports.ImportedResourceDrop f None another_type) ≡ Some (codes "imported-drop")
drop_of_nothing_is_reported = refl

-- an exported function is implemented in one of three forms, and in none of those of imports
async_lift_is_encoded : export_left_out [] (exports.WorldFunc f (codes "f") GuestExportAsync) ≡ None
async_lift_is_encoded = refl

stackful_lift_is_encoded : export_left_out [] (exports.WorldFunc f (codes "f") GuestExportAsyncStackful) ≡ None
stackful_lift_is_encoded = refl

imported_form_is_reported : export_left_out [] (exports.WorldFunc f (codes "f") GuestImport) ≡ Some (codes "world-func")
imported_form_is_reported = refl

root_function_of_an_interface_is_reported : export_left_out [] (exports.WorldFunc (keys.Interface an_interface) (codes "f") GuestExportAsync) ≡ Some (codes "world-func")
root_function_of_an_interface_is_reported = refl

callback_is_encoded : export_left_out [] (exports.WorldFuncCallback f) ≡ None
callback_is_encoded = refl

-- so is a function of an exported interface, which may have a post-return or a callback
interface_lift_is_encoded : export_left_out [] (exports.InterfaceFunc f an_interface (codes "f") GuestExport) ≡ None
interface_lift_is_encoded = refl

async_interface_lift_is_encoded : export_left_out [] (exports.InterfaceFunc f an_interface (codes "f") GuestExportAsync) ≡ None
async_interface_lift_is_encoded = refl

stackful_interface_lift_is_encoded : export_left_out [] (exports.InterfaceFunc f an_interface (codes "f") GuestExportAsyncStackful) ≡ None
stackful_interface_lift_is_encoded = refl

imported_form_of_interface_is_reported : export_left_out [] (exports.InterfaceFunc f an_interface (codes "f") GuestImportAsync) ≡ Some (codes "interface-func")
imported_form_of_interface_is_reported = refl

interface_callback_is_encoded : export_left_out [] (exports.InterfaceFuncCallback f (codes "f")) ≡ None
interface_callback_is_encoded = refl

interface_post_return_is_encoded : export_left_out [] (exports.InterfaceFuncPostReturn f (codes "f")) ≡ None
interface_post_return_is_encoded = refl

realloc_is_encoded : export_left_out [] exports.GeneralPurposeRealloc ≡ None
realloc_is_encoded = refl

-- the destructor of a resource, and of what is none
destructor_is_encoded : export_left_out (of_first (codes "r") kinds.Resource ∷ []) (exports.ResourceDtor a_type) ≡ None
destructor_is_encoded = refl

destructor_of_values_is_reported : export_left_out (an_interface_type ∷ []) (exports.ResourceDtor a_type) ≡ Some (codes "dtor")
destructor_of_values_is_reported = refl

-- the roles of a resource of an exported interface, of one that main doesn't have to export, at
-- another key, and of what is no resource
abbrev exported_first : List (WorldKey × WorldItem)
exported_first = (importing_interfaces (an_interface ∷ another_interface ∷ [])).imports

abbrev a_resource : Resolve
a_resource = resolve_of (of_first (codes "r") kinds.Resource ∷ []) []

own_drop_is_encoded : own_role_left_out a_resource exported_first (an_interface ∷ []) (imports.ExportedResourceDrop (keys.Interface an_interface) a_type) ≡ None
own_drop_is_encoded = refl

unrequired_drop_is_reported : own_role_left_out a_resource exported_first (another_interface ∷ []) (imports.ExportedResourceDrop (keys.Interface an_interface) a_type) ≡ Some (codes "exported-drop")
unrequired_drop_is_reported = refl

new_of_another_interface_is_reported : own_role_left_out a_resource exported_first (an_interface ∷ another_interface ∷ []) (imports.ExportedResourceNew (keys.Interface another_interface) a_type) ≡ Some (codes "exported-new")
new_of_another_interface_is_reported = refl

representation_of_values_is_reported : own_role_left_out (resolve_of (an_interface_type ∷ []) []) exported_first (an_interface ∷ []) (imports.ExportedResourceRep (keys.Interface an_interface) a_type) ≡ Some (codes "exported-rep")
representation_of_values_is_reported = refl

-- `task.return` of a function that is exported, of another one of its name, and of none
abbrev a_function : Function
a_function = record { name = codes "f"; kind = AsyncFreestanding; params = []; result = None }

abbrev another_function : Function
another_function = record { name = codes "f"; kind = Freestanding; params = []; result = None }

abbrev one_exported : List (WorldKey × WorldItem)
one_exported = (keys.Name (codes "f"), items.Function a_function) ∷ []

task_return_is_encoded : own_role_left_out (resolve_of [] []) one_exported [] (imports.ExportedTaskReturn (keys.Name (codes "f")) None a_function) ≡ None
task_return_is_encoded = refl

task_return_of_another_is_reported : own_role_left_out (resolve_of [] []) one_exported [] (imports.ExportedTaskReturn (keys.Name (codes "f")) None another_function) ≡ Some (codes "task-return")
task_return_of_another_is_reported = refl

task_return_of_none_is_reported : own_role_left_out (resolve_of [] []) one_exported [] (imports.ExportedTaskReturn (keys.Name (codes "g")) None a_function) ≡ Some (codes "task-return")
task_return_of_none_is_reported = refl

-- streams and futures: without a type of their elements, of an imported function, and of an exported one
abbrev unit_stream : PayloadInfo
unit_stream = record { name = codes "s"; ty = payload_types.UnitStream; key = None; interface = None; imported = false }

abbrev met_in : Bool → WorldKey → PayloadInfo
met_in imported key = record { name = codes "s"; ty = payload_types.Typed a_type (codes "f"); key = Some key; interface = None; imported = imported }

unit_stream_is_encoded : import_left_out [] [] 0 (imports.StreamNew unit_stream) ≡ None
unit_stream_is_encoded = refl

imported_stream_is_encoded : import_left_out (unnamed (kinds.Stream None) ∷ []) (0 ∷ []) 0 (imports.StreamDropReadable (met_in true f)) ≡ None
imported_stream_is_encoded = refl

-- so may it be read
read_stream_is_encoded : import_left_out (unnamed (kinds.Stream None) ∷ []) (0 ∷ []) 0 (imports.StreamRead (met_in true f) true) ≡ None
read_stream_is_encoded = refl

stream_behind_the_root_is_reported : import_left_out (unnamed (kinds.Stream None) ∷ []) (1 ∷ []) 0 (imports.StreamDropReadable (met_in true f)) ≡ Some (codes "stream-drop-readable")
stream_behind_the_root_is_reported = refl

stream_of_values_is_reported : import_left_out (unnamed (kinds.«List» (Primitive prims.U8)) ∷ []) (0 ∷ []) 0 (imports.StreamNew (met_in true f)) ≡ Some (codes "stream-new")
stream_of_values_is_reported = refl

future_of_an_export_is_encoded : own_role_left_out (resolve_of (unnamed (kinds.Future None) ∷ []) []) one_exported [] (imports.FutureCancelWrite (met_in false f) false) ≡ None
future_of_an_export_is_encoded = refl

future_of_no_export_is_reported : own_role_left_out (resolve_of (unnamed (kinds.Future None) ∷ []) []) one_exported [] (imports.FutureCancelWrite (met_in false (keys.Name (codes "g"))) false) ≡ Some (codes "future-cancel-write")
future_of_no_export_is_reported = refl

-- of the imports from one module the first that is left out is reported
first_field_is_reported : group_left_out [] [] 0 (codes "$root", instances.Names ((codes "f", imports.WorldFunc f (codes "f") GuestImport) ∷ (codes "w", imports.WaitableSetWait) ∷ (codes "s", imports.StreamNew (met_in true f)) ∷ (codes "n", imports.FutureNew (met_in true f)) ∷ [])) ≡ Some (codes "stream-new")
first_field_is_reported = refl

whole_is_encoded : group_left_out [] [] 0 (codes "m", instances.Whole modules.Main) ≡ None
whole_is_encoded = refl

item_is_encoded : (item : Item) → import_left_out [] [] 0 (imports.Item item) ≡ None
item_is_encoded item = refl

-- it has its own kind and no other
item_is_of_a_library : (item : Item) → import_kind (imports.Item item) ≡ codes "library"
item_is_of_a_library item = refl
