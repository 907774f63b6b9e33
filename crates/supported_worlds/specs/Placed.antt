-- Whether a world imports interfaces and types in an order in which each type comes after those of
-- which it is made, and exports interfaces of their own types, of named ones of interfaces that it
-- imports or exports, and of types without names alone (component model, WIT: types, resources,
-- interfaces, `use`).
use Rattle.std.specs.Prelude.{ℕ, zero, suc, Bool, true, false, ◌==◌, nat_le, not, ◌&&◌, ◌||◌, List, [], ◌∷◌, length, map, drop, get_or, slice_get, Option, Some, None, is_some, is_none}
use Rattle.std.specs.List.{list_all, list_any, flat_map}
use Rattle.std.specs.Map.{lookup}
use Rattle.std.specs.Option.{option_map_or, option_and_then}
use Rattle.std.specs.Str.{bytes_eq}
use Rattle.comp_lists.specs.Found.{found}
use Rattle.wit_data.specs.contracts.functions.FunctionPartialEq.TheImpl as same_function
use Rattle.wit_data.specs.declared.functions.Function.{Function}
use Rattle.wit_data.specs.declared.ids.InterfaceId.{InterfaceId}
use Rattle.wit_data.specs.declared.ids.TypeId.{TypeId}
use Rattle.wit_data.specs.declared.resolve.Resolve.{Resolve}
use Rattle.wit_data.specs.declared.types.Type.{«Type» as Ty}
use Rattle.wit_data.specs.declared.types.Type.TheVariants.{Primitive, Id}
use Rattle.wit_data.specs.declared.types.TypeDef.{TypeDef}
use Rattle.wit_data.specs.declared.types.TypeDefKind.{TypeDefKind}
use Rattle.wit_data.specs.declared.types.TypeDefKind.TheVariants as kinds
use Rattle.wit_data.specs.declared.worlds.World.{World}
use Rattle.wit_data.specs.declared.worlds.WorldItem.{WorldItem}
use Rattle.wit_data.specs.declared.worlds.WorldItem.TheVariants as items
use Rattle.wit_data.specs.declared.worlds.WorldKey.{WorldKey}
use Rattle.wit_data.specs.Keys.{is_same_key}
use Rattle.wit_data.specs.Live.{named_types}
use Rattle.wit_data.specs.Parts.{parts}
use Rattle.wit_data.specs.Values.{kind_at, values}
use Rattle.comp_roles.specs.declared.payloads.PayloadInfo.{PayloadInfo}
use Rattle.comp_roles.specs.declared.payloads.PayloadType.{PayloadType}
use Rattle.comp_roles.specs.declared.payloads.PayloadType.TheVariants as payloads
use Rattle.world_values.specs.Items.{functions_of, root_function_at}
use Rattle.world_values.specs.Mentions.{interface_types, interface_in, same_interface}
use Rattle.comp_worlds.specs.Encodable.{Entries, place_in, placing, is_resource_kind, is_lent, stays_in}
use Rattle.comp_worlds.specs.Payloads.{is_payload_kind}
use Rattle.comp_worlds.specs.WorldContents.{world_type, interface_of_owner, interface_at, name_at}

-- ---- places

-- the places of all types, in their order
abbrev pub places_of : List TypeDef → Entries → List ℕ
places_of types es = values (placing types es) types

-- the place of a part of a type, by those of all types
abbrev pub place_at : List ℕ → Option Ty → ℕ
place_at places None = 0
place_at places (Some (Primitive p)) = 0
place_at places (Some (Id id)) = get_or places id.index 0

-- whether a part has this place or an earlier one
abbrev pub is_by : List ℕ → ℕ → Option Ty → Bool
is_by places last part = nat_le (place_at places part) last

-- ---- types

-- whether a resource has a name
abbrev pub is_named_as : TypeDefKind → Option (List ℕ) → Bool
is_named_as kinds.Resource name = is_some name
is_named_as kind name = true

-- whether a type of this number is listed under a name
abbrev pub is_listed_as : List (List ℕ × TypeId) → ℕ → List ℕ → Bool
is_listed_as types n name = option_map_or (λ t. t.index == n) (found name types) false

-- whether a type that belongs to an interface is listed there under its name
abbrev pub is_listed_in : Resolve → ℕ → Option InterfaceId → Bool
is_listed_in r n None = true
is_listed_in r n (Some id) = option_map_or (is_listed_as (named_types r id) n) (name_at r.types n) false

-- whether a type is made of types that have no later place, and is listed where it belongs
abbrev pub is_type_placed : Resolve → List ℕ → ℕ → Bool
is_type_placed r places n =
    list_all (is_by places (get_or places n 0)) (parts (kind_at r.types n)) && (is_named_as (kind_at r.types n) (name_at r.types n) && is_listed_in r n (interface_at r.types n))

-- whether the first so many types are
abbrev pub are_types_placed : Resolve → List ℕ → ℕ → Bool
are_types_placed r places zero = true
are_types_placed r places (suc n) = are_types_placed r places n && is_type_placed r places n

-- ---- items

-- whether a function is made of types that have this place or an earlier one
abbrev pub is_function_placed : List ℕ → ℕ → Function → Bool
is_function_placed places last f = list_all (λ p. is_by places last (Some p.ty)) f.params && is_by places last f.result

-- whether a type belongs to an interface, under a name
abbrev pub is_owned : InterfaceId → List ℕ → TypeDef → Bool
is_owned id name t = option_map_or (λ other. other.index == id.index) (interface_of_owner t.owner) false && option_map_or (λ own. bytes_eq own name) t.name false

-- whether a type that an interface lists is its own
abbrev pub is_own_type : List TypeDef → InterfaceId → List ℕ × TypeId → Bool
is_own_type types id entry = option_map_or (is_owned id entry.0) (slice_get types entry.1.index) false

-- whether these numbers ascend, and the first is at least this
abbrev pub ascend_from : ℕ → List ℕ → Bool
ascend_from k [] = true
ascend_from k (n ∷ ns) = nat_le k n && ascend_from (suc n) ns

-- whether an interface lists types of its own, in the order of the resolve
abbrev pub lists_own_types : Resolve → InterfaceId → Bool
lists_own_types r id = list_all (is_own_type r.types id) (named_types r id) && ascend_from 0 (map (λ t. t.1.index) (named_types r id))

-- whether one of this place does, and its functions are made of types of its place or of an earlier one
abbrev pub is_interface_placed : Resolve → List ℕ → ℕ → InterfaceId → Bool
is_interface_placed r places last id = lists_own_types r id && list_all (λ f. is_function_placed places last f.1) (functions_of r id)

-- whether an exported one does, and what it names stays in it; by a test for that
abbrev pub is_exported_placed : Resolve → (InterfaceId → Option Ty → Bool) → InterfaceId → Bool
is_exported_placed r stays id = lists_own_types r id && list_all (λ t. stays id (Some t)) (interface_types r id)

-- whether a type has a name, and belongs to no interface
abbrev pub is_root_type : List TypeDef → ℕ → Bool
is_root_type types n = is_none (interface_at types n) && is_some (name_at types n)

-- whether an import is such an interface, a function that is made of types of the root or of an earlier place, or
-- a type of the root; by the places of types and of interfaces, and that of the root
abbrev pub is_item_placed : Resolve → List ℕ → (InterfaceId → ℕ) → ℕ → WorldItem → Bool
is_item_placed r places of_interface root (items.Interface id) = is_interface_placed r places (of_interface id) id
is_item_placed r places of_interface root (items.Function f) = is_function_placed places root f
is_item_placed r places of_interface root (items.NamedType id) = is_root_type r.types id.index

-- whether an export is such an interface, or else is like an import; by places, and by what stays in interfaces
abbrev pub is_export_placed : Resolve → List ℕ → (InterfaceId → ℕ) → ℕ → (InterfaceId → Option Ty → Bool) → WorldItem → Bool
is_export_placed r places of_interface root stays (items.Interface id) = is_exported_placed r stays id
is_export_placed r places of_interface root stays item = is_item_placed r places of_interface root item

-- whether all types are placed, and all imports
abbrev pub are_imports_placed : Resolve → List ℕ → (InterfaceId → ℕ) → ℕ → World → Bool
are_imports_placed r places of_interface root w = are_types_placed r places (length r.types) && list_all (λ e. is_item_placed r places of_interface root e.1) w.imports

-- whether all exports are placed
abbrev pub are_exports_placed : Resolve → List ℕ → (InterfaceId → ℕ) → ℕ → (InterfaceId → Option Ty → Bool) → World → Bool
are_exports_placed r places of_interface root stays w = list_all (λ e. is_export_placed r places of_interface root stays e.1) w.exports

abbrev pub is_world_placed : Resolve → World → Bool
is_world_placed r w =
    are_imports_placed r (places_of r.types w.imports) (place_in w.imports) (length w.imports) w
    && are_exports_placed r (places_of r.types w.imports) (place_in w.imports) (length w.imports) (stays_in r.types (is_lent w)) w

-- ---- resources

abbrev pub is_resource : TypeDef → Bool
is_resource t = is_resource_kind t.kind

-- whether a type is a resource that belongs to no interface
abbrev pub is_root_resource : TypeDef → Bool
is_root_resource t = is_resource t && is_none (interface_of_owner t.owner)

-- the numbers of the types among the imports of a world, in order
abbrev pub imported_numbers : Entries → List ℕ
imported_numbers entries = map (λ t. t.1.index) (flat_map world_type entries)

-- whether each resource that belongs to no interface is one of these, among types of which the first has this number
abbrev pub have_resources : List ℕ → ℕ → List TypeDef → Bool
have_resources ns k [] = true
have_resources ns k (t ∷ ts) = (not (is_root_resource t) || list_any (λ n. n == k) ns) && have_resources ns (suc k) ts

-- whether, of the types from this number on, these are in order, and each such resource is one of them
abbrev pub are_in_place : List TypeDef → ℕ → List ℕ → Bool
are_in_place types k ns = ascend_from k ns && have_resources ns k (drop k types)

-- whether the handles of a type are dropped: it is a resource that has the place of the root or an earlier one
abbrev pub is_droppable : List TypeDef → List ℕ → ℕ → TypeId → Bool
is_droppable types places root id = option_map_or is_resource (slice_get types id.index) false && nat_le (get_or places id.index 0) root

-- whether a type is a resource
abbrev pub is_resource_at : List TypeDef → TypeId → Bool
is_resource_at types id = option_map_or is_resource (slice_get types id.index) false

-- whether an interface is exported at a key, and is one of those that main has to export; by the
-- world's exports, and by these
abbrev pub is_required_at : Entries → List InterfaceId → WorldKey → InterfaceId → Bool
is_required_at es required key id = option_map_or (same_interface id) (option_and_then interface_in (lookup (is_same_key key) es)) false && list_any (same_interface id) required

-- whether a type is a resource of such an interface
abbrev pub is_own_at : Entries → List InterfaceId → WorldKey → TypeDef → Bool
is_own_at es required key t = is_resource t && option_map_or (is_required_at es required key) (interface_of_owner t.owner) false

abbrev pub is_own_resource : List TypeDef → Entries → List InterfaceId → WorldKey → TypeId → Bool
is_own_resource types es required key id = option_map_or (is_own_at es required key) (slice_get types id.index) false

-- whether two functions are one
abbrev pub is_same_function : Function → Function → Bool
is_same_function = same_function.eq-value.it

-- whether this is the function that is exported at a key: at the root, or in this interface, which
-- is one of those that have to be exported
abbrev pub is_own_function : Resolve → Entries → List InterfaceId → WorldKey → Option InterfaceId → Function → Bool
is_own_function r es required key None f = option_map_or (is_same_function f) (root_function_at es key) false
is_own_function r es required key (Some id) f = is_required_at es required key id && option_map_or (is_same_function f) (found f.name (functions_of r id)) false

-- ---- streams and futures

-- whether a type is a stream or a future
abbrev pub is_payload : TypeDef → Bool
is_payload t = is_payload_kind t.kind

abbrev pub is_payload_at : List TypeDef → TypeId → Bool
is_payload_at types id = option_map_or is_payload (slice_get types id.index) false

-- whether the type of a stream or a future is one; of an imported function, it has the place of the root or an earlier one
abbrev pub is_payload_type : List TypeDef → List ℕ → ℕ → (imported : Bool) → PayloadType → Bool
is_payload_type types places root imported (payloads.Typed id name) = is_payload_at types id && (not imported || nat_le (get_or places id.index 0) root)
is_payload_type types places root imported unit = true

abbrev pub is_payload_placed : List TypeDef → List ℕ → ℕ → PayloadInfo → Bool
is_payload_placed types places root p = is_payload_type types places root p.imported p.ty

-- whether the world exports a function of this name at a key: at its root, or in this interface,
-- which is one of those that have to be exported
abbrev pub is_exported_function : Resolve → Entries → List InterfaceId → WorldKey → Option InterfaceId → List ℕ → Bool
is_exported_function r es required key None name = is_some (root_function_at es key)
is_exported_function r es required key (Some id) name = is_required_at es required key id && is_some (found name (functions_of r id))

abbrev pub is_exported_payload : Resolve → Entries → List InterfaceId → Option WorldKey → Option InterfaceId → PayloadType → Bool
is_exported_payload r es required key interface (payloads.Typed id name) = option_map_or (λ k. is_exported_function r es required k interface name) key false
is_exported_payload r es required key interface unit = true

-- whether there is the function of a stream or a future, unless it is one of an imported function
abbrev pub is_own_payload : Resolve → Entries → List InterfaceId → PayloadInfo → Bool
is_own_payload r es required p = p.imported || is_exported_payload r es required p.key p.interface p.ty
