-- The streams and futures that occur in a function (component model, WIT: `stream`, `future`):
-- those of its parameters in order, then those of its result, each after the ones inside it. Types
-- that have a name are entered, handles are not, and one that occurs twice counts twice.
use Rattle.std.specs.Prelude.{ℕ, Bool, true, false, List, [], ◌∷◌, ◌++◌, Option, Some, None, option_map, if◌then◌else◌}
use Rattle.std.specs.List.{flat_map, slice_get}
use Rattle.std.specs.Option.{option_and_then}
use Rattle.wit_data.specs.Values.{Making, value}
use Rattle.wit_data.specs.declared.functions.Function.{Function}
use Rattle.wit_data.specs.declared.ids.TypeId.{TypeId}
use Rattle.wit_data.specs.declared.types.Type.{«Type» as Ty}
use Rattle.wit_data.specs.declared.types.TypeDef.{TypeDef}
use Rattle.wit_data.specs.declared.types.TypeDefKind.{TypeDefKind}
use Rattle.wit_data.specs.declared.types.TypeDefKind.TheVariants as kinds
use Rattle.comp_roles.specs.declared.imports.Import.{Import}
use Rattle.comp_roles.specs.declared.imports.Import.TheVariants as imports
use Rattle.comp_roles.specs.declared.payloads.PayloadInfo.{PayloadInfo}
use Rattle.comp_roles.specs.declared.payloads.PayloadType.{PayloadType}
use Rattle.comp_roles.specs.declared.payloads.PayloadType.TheVariants as types_of
use Rattle.record_values.specs.declared.names.Owner.{Owner}
use Rattle.record_values.specs.declared.roles.Payload.{Payload}
use Rattle.record_values.specs.declared.roles.Payload.TheVariants as payloads
use Rattle.record_values.specs.declared.roles.PayloadKind.{PayloadKind}
use Rattle.record_values.specs.declared.roles.PayloadKind.TheVariants as payload_kinds
use Rattle.record_values.specs.declared.roles.PayloadOperation.{PayloadOperation}
use Rattle.record_values.specs.declared.roles.PayloadOperation.TheVariants as operations
use Rattle.record_resolve.specs.declared.resolving.Resolved.{Resolved}
use Rattle.record_role_targets.specs.declared.sides.Side.{Side}
use Rattle.record_role_targets.specs.declared.sides.Side.TheVariants as sides
use Rattle.record_role_targets.specs.declared.positions.Position.{Position}
use Rattle.record_role_targets.specs.Positions.{position_of, function_at}

-- ---- the streams and futures in a function

-- the type of this number itself, if it is a stream or a future
abbrev pub itself : ℕ → TypeDefKind → List TypeId
itself n (kinds.Stream t) = record { index = n } ∷ []
itself n (kinds.Future t) = record { index = n } ∷ []
itself n kind = []

abbrev pub is_handle : TypeDefKind → Bool
is_handle (kinds.Own id) = true
is_handle (kinds.Borrow id) = true
is_handle kind = false

-- the streams and futures in a type, from those in its parts
abbrev pub met_of : ℕ → TypeDefKind → List (List TypeId) → List TypeId
met_of n kind found = if is_handle kind then [] else (flat_map (λ f. f) found ++ itself n kind)

abbrev pub meeting : Making (List TypeId)
meeting = record { absent = []; simple = λ p. []; made = met_of }

abbrev pub met_in : List TypeDef → Option Ty → List TypeId
met_in types part = value meeting types part

abbrev pub met_in_function : List TypeDef → Function → List TypeId
met_in_function types f = flat_map (λ p. met_in types (Some p.ty)) f.params ++ met_in types f.result

-- ---- the stream or future of a role

abbrev pub unit_type : PayloadKind → PayloadType
unit_type payload_kinds.Stream = types_of.UnitStream
unit_type payload_kinds.Future = types_of.UnitFuture

-- one without values, for an import of this field
abbrev pub unit_info : List ℕ → PayloadKind → PayloadInfo
unit_info field kind = record { name = field; ty = unit_type kind; key = None; interface = None; imported = false }

-- a type that occurs in a function of this name
abbrev pub typed_info : List ℕ → Bool → Position → List ℕ → TypeId → PayloadInfo
typed_info field imported position function id =
    record { name = field; ty = types_of.Typed id function; key = Some position.key; interface = position.interface; imported = imported }

abbrev pub side_of : Bool → Side
side_of imported = if imported then sides.Imported else sides.Exported

-- the stream or future with this number, from 0, in the function of this name at a position
abbrev pub type_met : Resolved → Side → Position → List ℕ → ℕ → Option TypeId
type_met r side position function n = option_and_then (λ f. slice_get (met_in_function r.resolve.types f) n) (function_at side r position function)

abbrev pub payload_met : Resolved → List ℕ → Bool → Owner → List ℕ → ℕ → Option PayloadInfo
payload_met r field imported owner function n =
    option_and_then (λ p. option_map (typed_info field imported p function) (type_met r (side_of imported) p function n)) (position_of (side_of imported) r owner function)

-- the payload of a role, for an import of this field
abbrev pub resolved_payload : Resolved → List ℕ → PayloadKind → Payload → Option PayloadInfo
resolved_payload r field kind payloads.Unit = Some (unit_info field kind)
resolved_payload r field kind (payloads.Met imported owner function n) = payload_met r field imported owner function n

-- ---- the built-in functions on streams and futures

abbrev pub stream_import : PayloadOperation → PayloadInfo → Bool → Import
stream_import operations.New info is_async = imports.StreamNew info
stream_import operations.Read info is_async = imports.StreamRead info is_async
stream_import operations.Write info is_async = imports.StreamWrite info is_async
stream_import operations.CancelRead info is_async = imports.StreamCancelRead info is_async
stream_import operations.CancelWrite info is_async = imports.StreamCancelWrite info is_async
stream_import operations.DropReadable info is_async = imports.StreamDropReadable info
stream_import operations.DropWritable info is_async = imports.StreamDropWritable info

abbrev pub future_import : PayloadOperation → PayloadInfo → Bool → Import
future_import operations.New info is_async = imports.FutureNew info
future_import operations.Read info is_async = imports.FutureRead info is_async
future_import operations.Write info is_async = imports.FutureWrite info is_async
future_import operations.CancelRead info is_async = imports.FutureCancelRead info is_async
future_import operations.CancelWrite info is_async = imports.FutureCancelWrite info is_async
future_import operations.DropReadable info is_async = imports.FutureDropReadable info
future_import operations.DropWritable info is_async = imports.FutureDropWritable info

abbrev pub payload_import : PayloadKind → PayloadOperation → Bool → PayloadInfo → Import
payload_import payload_kinds.Stream operation is_async info = stream_import operation info is_async
payload_import payload_kinds.Future operation is_async info = future_import operation info is_async
