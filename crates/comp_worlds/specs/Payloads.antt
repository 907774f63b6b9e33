-- The streams and futures of core imports, as a validated world has them (Canonical ABI: `canon stream.new`, `canon
-- future.new` and their neighbours; component model, WIT: `stream`, `future`).
use Rattle.std.specs.Prelude.{◌≡◌, ◌<◌, ℕ, Bool, true, false, List, length, Option, Some, None, Contains, IsSome}
use Rattle.std.specs.Option.{option_and_then}
use Rattle.wit_data.specs.Live.{is_live}
use Rattle.wit_data.specs.Values.{kind_at}
use Rattle.wit_data.specs.declared.functions.Function.{Function}
use Rattle.wit_data.specs.declared.ids.InterfaceId.{InterfaceId}
use Rattle.wit_data.specs.declared.ids.TypeId.{TypeId}
use Rattle.wit_data.specs.declared.types.TypeDef.{TypeDef}
use Rattle.wit_data.specs.declared.types.TypeDefKind.{TypeDefKind}
use Rattle.wit_data.specs.declared.types.TypeDefKind.TheVariants as kinds
use Rattle.wit_data.specs.declared.worlds.WorldKey.{WorldKey}
use Rattle.comp_roles.specs.declared.payloads.PayloadInfo.{PayloadInfo}
use Rattle.comp_roles.specs.declared.payloads.PayloadType.{PayloadType}
use Rattle.comp_roles.specs.declared.payloads.PayloadType.TheVariants as payloads
use Rattle.world_values.specs.Mentions.{passed_types, interface_in}
use Rattle.comp_worlds.specs.WorldContents.{exported_item, function_exported, keys_required}
use Rattle.comp_worlds.specs.declared.world.ComponentWorld.{ComponentWorld}

-- whether a kind is a stream or a future
abbrev pub is_payload_kind : TypeDefKind → Bool
is_payload_kind (kinds.Stream t) = true
is_payload_kind (kinds.Future t) = true
is_payload_kind kind = false

-- the type is a stream or a future
pub record IsPayloadType (types : List TypeDef) (id : TypeId) : Type 0 where
  pub present : id.index < length types
  pub kind : is_payload_kind (kind_at types id.index) ≡ true

-- the function of this name that the world exports at a key, at its root or in this interface, which
-- a user module has to export there, is made of the type
pub record IsOwnPayload (w : ComponentWorld) (key : WorldKey) (interface : Option InterfaceId) (name : List ℕ) (id : TypeId) : Type 0 where
  pub function : Function
  pub exported : function_exported w key name ≡ Some function
  pub of : option_and_then interface_in (exported_item w key) ≡ interface
  pub required : IsSome interface → Contains (keys_required w) key
  pub reached : is_live w.resolve.types (passed_types function) id.index ≡ true

abbrev pub IsExportedPayload : ComponentWorld → Option WorldKey → Option InterfaceId → List ℕ → TypeId → Type 0
IsExportedPayload w None interface name id = ⊥
IsExportedPayload w (Some key) interface name id = IsOwnPayload w key interface name id

-- a type of an imported function, which counts as one that the component uses, or of an exported one
abbrev pub IsPayloadOf : ComponentWorld → (imported : Bool) → Option WorldKey → Option InterfaceId → List ℕ → TypeId → Type 0
IsPayloadOf w true key interface name id = Unit {0}
IsPayloadOf w false key interface name id = IsExportedPayload w key interface name id

abbrev pub IsTyped : ComponentWorld → PayloadInfo → PayloadType → Type 0
IsTyped w p (payloads.Typed id name) = IsPayloadType w.resolve.types id × IsPayloadOf w p.imported p.key p.interface name id
IsTyped w p unit = Unit {0}

-- a stream or a future of a core import: of an imported function, of an exported one, or without a type of its elements
abbrev pub IsPayload : ComponentWorld → PayloadInfo → Type 0
IsPayload w p = IsTyped w p p.ty

-- the exported interface whose types its type is made of, if it is one of a function of such an interface
abbrev pub scope_if : (imported : Bool) → Option InterfaceId → Option InterfaceId
scope_if true interface = None
scope_if false interface = interface

abbrev pub type_scope : PayloadInfo → PayloadType → Option InterfaceId
type_scope p (payloads.Typed id name) = scope_if p.imported p.interface
type_scope p unit = None

abbrev pub payload_scope : PayloadInfo → Option InterfaceId
payload_scope p = type_scope p p.ty
