-- What an import names exists in the resolve, where that is sound.
use Rattle.std.proofs.Common.{◌≡◌, ℕ, zero, suc, ◌+◌, ◌<◌, Bool, true, false, cond, List, [], ◌∷◌, ◌++◌, length, map, get_or, sym, subst, arith, Option, Some, None}
use Rattle.std.specs.Prelude.{slice_get, option_map}
use Rattle.std.specs.Option.{IfSome, unwrap_or, option_and_then}
use Rattle.std.specs.List.{AllByRecursion, flat_map}
use Rattle.std.specs.Str.{bytes_eq}
use Rattle.std.proofs.lemmas.List.{length-append}
use Rattle.wit_data.specs.Live.{named_types}
use Rattle.wit_data.specs.Parts.{parts}
use Rattle.wit_data.specs.Sound.{IsSound, HasAll, HasFunction, HasItem, HasType, HasTypeId}
use Rattle.wit_data.specs.Values.{part_value, next_value, values_from, values}
use Rattle.wit_data.specs.declared.functions.AbiVariant.{AbiVariant}
use Rattle.wit_data.specs.declared.functions.Function.{Function}
use Rattle.wit_data.specs.declared.functions.Param.{Param}
use Rattle.wit_data.specs.declared.ids.InterfaceId.{InterfaceId}
use Rattle.wit_data.specs.declared.ids.TypeId.{TypeId}
use Rattle.wit_data.specs.declared.resolve.Interface.{Interface}
use Rattle.wit_data.specs.declared.resolve.Resolve.{Resolve}
use Rattle.wit_data.specs.declared.types.Type.{«Type» as Ty}
use Rattle.wit_data.specs.declared.types.Type.TheVariants.{Primitive, Id}
use Rattle.wit_data.specs.declared.types.TypeDef.{TypeDef}
use Rattle.wit_data.specs.declared.types.TypeDefKind.{TypeDefKind}
use Rattle.wit_data.specs.declared.types.TypeDefKind.TheVariants as kinds
use Rattle.wit_data.specs.declared.worlds.WorldItem.{WorldItem}
use Rattle.wit_data.specs.declared.worlds.WorldItem.TheVariants as items
use Rattle.wit_data.specs.declared.worlds.WorldKey.{WorldKey}
use Rattle.world_values.specs.Mentions.{payload_type}
use Rattle.comp_roles.specs.declared.imports.Import.{Import}
use Rattle.comp_roles.specs.declared.offered.ExternType.{ExternType}
use Rattle.comp_roles.specs.declared.offered.ExternType.TheVariants as externs
use Rattle.comp_roles.specs.declared.payloads.PayloadInfo.{PayloadInfo}
use Rattle.record_values.specs.declared.roles.ImportRole.{ImportRole}
use Rattle.record_values.specs.declared.roles.ImportRole.TheVariants as roles
use Rattle.record_values.specs.declared.roles.Intrinsic.{Intrinsic}
use Rattle.record_values.specs.declared.roles.Intrinsic.TheVariants as intrinsics
use Rattle.record_values.specs.declared.roles.Payload.{Payload}
use Rattle.record_values.specs.declared.roles.Payload.TheVariants as payloads
use Rattle.record_values.specs.declared.roles.PayloadKind.{PayloadKind}
use Rattle.record_values.specs.declared.roles.PayloadKind.TheVariants as payload_kinds
use Rattle.record_values.specs.declared.roles.PayloadOperation.{PayloadOperation}
use Rattle.record_values.specs.declared.roles.PayloadOperation.TheVariants as operations
use Rattle.record_resolve.specs.declared.resolving.Resolved.{Resolved}
use Rattle.record_role_targets.specs.declared.sides.Side.{Side}
use Rattle.record_role_targets.specs.declared.sides.Side.TheVariants as sides
use Rattle.record_role_targets.specs.declared.positions.Position.{Position}
use Rattle.record_role_targets.specs.declared.positions.Resource.{Resource}
use Rattle.record_role_targets.specs.Sides.{item_at}
use Rattle.record_role_targets.specs.Positions.{position_of, function_at, function_position, type_in, type_at_key, type_at, resource, resource_of}
use Rattle.record_role_targets.specs.Payloads.{itself, is_handle, meeting, met_in, met_in_function, typed_info, side_of, type_met, resolved_payload, stream_import, future_import, payload_import}
use Rattle.record_role_targets.specs.Imports.{called_there, called, imported_drop, exported_drop, exported_rep, exported_new, task_return, intrinsic, resolved_import}
use Rattle.record_role_targets.specs.Named.{HasNamed}
use Rattle.record_role_targets.proofs.Existence.{IfThere, at_number, looked_up, item_exists, position_exists}

-- ---- types that are looked up

root_type : (r : Resolve) (o : Option WorldItem) → IfThere (HasItem r) o → IfThere (HasTypeId r) (option_and_then type_in o)
root_type r None h = tt
root_type r (Some (items.NamedType id)) h = h
root_type r (Some (items.Interface id)) h = tt
root_type r (Some (items.Function f)) h = tt

types_exist : (r : Resolve) (o : Option Interface) → IfThere (HasAll r) o → AllByRecursion (λ t. HasTypeId r t.1) (unwrap_or (option_map (λ i. i.types) o) [])
types_exist r None h = tt
types_exist r (Some i) h = h.types

type_exists : (r : Resolved) (side : Side) (key : WorldKey) (interface : Option InterfaceId) (name : List ℕ) → IsSound r.resolve → IfThere (HasTypeId r.resolve) (type_at_key side r key interface name)
type_exists r side key None name sound = root_type r.resolve (item_at side r key) (item_exists r side key sound)
type_exists r side key (Some id) name sound =
    looked_up (HasTypeId r.resolve) (bytes_eq name) (named_types r.resolve id) (types_exist r.resolve (slice_get r.resolve.interfaces id.index) (at_number (HasAll r.resolve) r.resolve.interfaces id.index sound.interfaces))

abbrev HasResource : Resolve → Resource → Type 0
HasResource r x = HasTypeId r x.id

with_position : (r : Resolve) (p : Position) (o : Option TypeId) → IfThere (HasTypeId r) o → IfThere (HasResource r) (option_map (resource p) o)
with_position r p None h = tt
with_position r p (Some id) h = h

resource_there : (r : Resolved) (side : Side) (name : List ℕ) (o : Option Position) → IsSound r.resolve → IfThere (HasResource r.resolve) (option_and_then (λ p. option_map (resource p) (type_at side r p name)) o)
resource_there r side name None sound = tt
resource_there r side name (Some p) sound = with_position r.resolve p (type_at side r p name) (type_exists r side p.key p.interface name sound)

-- ---- types that occur in a function

abbrev AreBelow : ℕ → List TypeId → Type 0
AreBelow n ids = AllByRecursion (λ i. i.index < n) ids

all_both : {X : Type 0} (P : X → Type 0) (xs ys : List X) → AllByRecursion P xs → AllByRecursion P ys → AllByRecursion P (xs ++ ys)
all_both P [] ys h more = more
all_both P (x ∷ xs) ys h more = (h.0, all_both P xs ys h.1 more)

all_together : (n : ℕ) (found : List (List TypeId)) → AllByRecursion (AreBelow n) found → AreBelow n (flat_map (λ f. f) found)
all_together n [] h = tt
all_together n (f ∷ fs) h = all_both (λ i. i.index < n) f (flat_map (λ g. g) fs) h.0 (all_together n fs h.1)

one_of : (n k : ℕ) (found : List (List TypeId)) → AllByRecursion (AreBelow n) found → AreBelow n (get_or found k [])
one_of n k [] h = tt
one_of n zero (f ∷ fs) h = h.0
one_of n (suc k) (f ∷ fs) h = one_of n k fs h.1

part_below : (n : ℕ) (done : List (List TypeId)) (p : Option Ty) → AllByRecursion (AreBelow n) done → AreBelow n (part_value meeting done p)
part_below n done None h = tt
part_below n done (Some (Primitive q)) h = tt
part_below n done (Some (Id id)) h = one_of n id.index done h

parts_below : (n : ℕ) (done : List (List TypeId)) (ps : List (Option Ty)) → AllByRecursion (AreBelow n) done → AllByRecursion (AreBelow n) (map (part_value meeting done) ps)
parts_below n done [] h = tt
parts_below n done (p ∷ ps) h = (part_below n done p h, parts_below n done ps h)

itself_below : (n k : ℕ) (kind : TypeDefKind) → k < n → AreBelow n (itself k kind)
itself_below n k (kinds.Stream t) l = (l, tt)
itself_below n k (kinds.Future t) l = (l, tt)
itself_below n k kind l = tt

unless_handle : (n : ℕ) (handle : Bool) (ids : List TypeId) → AreBelow n ids → AreBelow n (cond handle [] ids)
unless_handle n true ids h = tt
unless_handle n false ids h = h

next_below : (n : ℕ) (done : List (List TypeId)) (kind : TypeDefKind) → length done < n → AllByRecursion (AreBelow n) done → AreBelow n (next_value meeting done kind)
next_below n done kind l h =
    let found = map (part_value meeting done) (parts kind) in
    unless_handle n (is_handle kind) (flat_map (λ f. f) found ++ itself (length done) kind)
    (all_both (λ i. i.index < n) (flat_map (λ f. f) found) (itself (length done) kind) (all_together n found (parts_below n done (parts kind) h)) (itself_below n (length done) kind l))

all_below : (n : ℕ) (done : List (List TypeId)) (ts : List TypeDef) → length done + length ts ≡ n → AllByRecursion (AreBelow n) done → AllByRecursion (AreBelow n) (values_from meeting done ts)
unfolding values_from
all_below n done [] e h = h
all_below n done (t ∷ ts) e h =
    let v = next_value meeting done t.kind in
    all_below n (done ++ v ∷ []) ts (omega (arith, e, length-append done (v ∷ []))) (all_both (AreBelow n) done (v ∷ []) h (next_below n done t.kind (omega (arith, e)) h, tt))

met_below : (types : List TypeDef) (p : Option Ty) → AreBelow (length types) (met_in types p)
met_below types p = part_below (length types) (values meeting types) p (all_below (length types) [] types (omega arith) tt)

params_below : (types : List TypeDef) (ps : List Param) → AreBelow (length types) (flat_map (λ p. met_in types (Some p.ty)) ps)
params_below types [] = tt
params_below types (p ∷ ps) = all_both (λ i. i.index < length types) (met_in types (Some p.ty)) (flat_map (λ q. met_in types (Some q.ty)) ps) (met_below types (Some p.ty)) (params_below types ps)

function_below : (types : List TypeDef) (f : Function) → AreBelow (length types) (met_in_function types f)
function_below types f = all_both (λ i. i.index < length types) (flat_map (λ p. met_in types (Some p.ty)) f.params) (met_in types f.result) (params_below types f.params) (met_below types f.result)

met_there : (r : Resolve) (n : ℕ) (o : Option Function) → IfThere (HasTypeId r) (option_and_then (λ f. slice_get (met_in_function r.types f) n) o)
met_there r n None = tt
met_there r n (Some f) = at_number (HasTypeId r) (met_in_function r.types f) n (function_below r.types f)

-- ---- payloads

abbrev HasPayload : Resolve → PayloadInfo → Type 0
HasPayload r p = HasType r (payload_type p.ty)

with_info : (r : Resolve) (field : List ℕ) (imported : Bool) (p : Position) (function : List ℕ) (o : Option TypeId) → IfThere (HasTypeId r) o → IfThere (HasPayload r) (option_map (typed_info field imported p function) o)
with_info r field imported p function None h = tt
with_info r field imported p function (Some id) h = h

payload_there : (r : Resolved) (field : List ℕ) (imported : Bool) (function : List ℕ) (n : ℕ) (o : Option Position) → IfThere (HasPayload r.resolve) (option_and_then (λ p. option_map (typed_info field imported p function) (type_met r (side_of imported) p function n)) o)
payload_there r field imported function n None = tt
payload_there r field imported function n (Some p) = with_info r.resolve field imported p function (type_met r (side_of imported) p function n) (met_there r.resolve n (function_at (side_of imported) r p function))

payload_exists : (r : Resolved) (field : List ℕ) (kind : PayloadKind) (payload : Payload) → IfThere (HasPayload r.resolve) (resolved_payload r field kind payload)
payload_exists r field payload_kinds.Stream payloads.Unit = tt
payload_exists r field payload_kinds.Future payloads.Unit = tt
payload_exists r field kind (payloads.Met imported owner function n) = payload_there r field imported function n (position_of (side_of imported) r owner function)

if_imported : (r : Resolve) (imported : Bool) (ty : Option Ty) → HasType r ty → HasType r (cond imported ty None)
if_imported r true ty h = h
if_imported r false ty h = tt

stream_names : (r : Resolve) (operation : PayloadOperation) (p : PayloadInfo) (is_async : Bool) → HasPayload r p → HasNamed r (stream_import operation p is_async)
stream_names r operations.New p a h = record { used = if_imported r p.imported (payload_type p.ty) h; payload = h; returned = tt }
stream_names r operations.Read p a h = record { used = if_imported r p.imported (payload_type p.ty) h; payload = h; returned = tt }
stream_names r operations.Write p a h = record { used = if_imported r p.imported (payload_type p.ty) h; payload = h; returned = tt }
stream_names r operations.CancelRead p a h = record { used = if_imported r p.imported (payload_type p.ty) h; payload = h; returned = tt }
stream_names r operations.CancelWrite p a h = record { used = if_imported r p.imported (payload_type p.ty) h; payload = h; returned = tt }
stream_names r operations.DropReadable p a h = record { used = if_imported r p.imported (payload_type p.ty) h; payload = h; returned = tt }
stream_names r operations.DropWritable p a h = record { used = if_imported r p.imported (payload_type p.ty) h; payload = h; returned = tt }

future_names : (r : Resolve) (operation : PayloadOperation) (p : PayloadInfo) (is_async : Bool) → HasPayload r p → HasNamed r (future_import operation p is_async)
future_names r operations.New p a h = record { used = if_imported r p.imported (payload_type p.ty) h; payload = h; returned = tt }
future_names r operations.Read p a h = record { used = if_imported r p.imported (payload_type p.ty) h; payload = h; returned = tt }
future_names r operations.Write p a h = record { used = if_imported r p.imported (payload_type p.ty) h; payload = h; returned = tt }
future_names r operations.CancelRead p a h = record { used = if_imported r p.imported (payload_type p.ty) h; payload = h; returned = tt }
future_names r operations.CancelWrite p a h = record { used = if_imported r p.imported (payload_type p.ty) h; payload = h; returned = tt }
future_names r operations.DropReadable p a h = record { used = if_imported r p.imported (payload_type p.ty) h; payload = h; returned = tt }
future_names r operations.DropWritable p a h = record { used = if_imported r p.imported (payload_type p.ty) h; payload = h; returned = tt }

payload_names : (r : Resolve) (kind : PayloadKind) (operation : PayloadOperation) (is_async : Bool) (o : Option PayloadInfo) → IfThere (HasPayload r) o → IfSome (option_map (payload_import kind operation is_async) o) (HasNamed r)
payload_names r kind operation a None h = tt
payload_names r payload_kinds.Stream operation a (Some p) h = stream_names r operation p a h
payload_names r payload_kinds.Future operation a (Some p) h = future_names r operation p a h

-- ---- functions and resources

call_names : (r : Resolve) (key : WorldKey) (interface : Option InterfaceId) (name : List ℕ) (abi : AbiVariant) → HasNamed r (called_there key interface name abi)
call_names r key None name abi = record { used = tt; payload = tt; returned = tt }
call_names r key (Some id) name abi = record { used = tt; payload = tt; returned = tt }

calls_name : (r : Resolve) (name : List ℕ) (abi : AbiVariant) (o : Option Position) → IfSome (option_map (called name abi) o) (HasNamed r)
calls_name r name abi None = tt
calls_name r name abi (Some p) = call_names r p.key p.interface name abi

imported_names : (r : Resolve) (o : Option Resource) → IfThere (HasResource r) o → IfSome (option_map imported_drop o) (HasNamed r)
imported_names r None h = tt
imported_names r (Some x) h = record { used = h; payload = tt; returned = tt }

drop_names : (r : Resolve) (o : Option Resource) → IfSome (option_map exported_drop o) (HasNamed r)
drop_names r None = tt
drop_names r (Some x) = record { used = tt; payload = tt; returned = tt }

rep_names : (r : Resolve) (o : Option Resource) → IfSome (option_map exported_rep o) (HasNamed r)
rep_names r None = tt
rep_names r (Some x) = record { used = tt; payload = tt; returned = tt }

new_names : (r : Resolve) (o : Option Resource) → IfSome (option_map exported_new o) (HasNamed r)
new_names r None = tt
new_names r (Some x) = record { used = tt; payload = tt; returned = tt }

return_names : (r : Resolve) (p : Position) (o : Option Function) → IfThere (HasFunction r) o → IfSome (option_map (task_return p) o) (HasNamed r)
return_names r p None h = tt
return_names r p (Some f) h = record { used = tt; payload = tt; returned = h }

returns_name : (r : Resolved) (name : List ℕ) (o : Option Position) → IsSound r.resolve → IfSome (option_and_then (λ p. option_map (task_return p) (function_at sides.Exported r p name)) o) (HasNamed r.resolve)
returns_name r name None sound = tt
returns_name r name (Some p) sound = return_names r.resolve p (function_at sides.Exported r p name) (position_exists r sides.Exported p.key p.interface name sound)

-- ---- roles that name nothing in the world

intrinsic_names : (r : Resolve) (i : Intrinsic) → HasNamed r (intrinsic i)
intrinsic_names r intrinsics.TaskCancel = record { used = tt; payload = tt; returned = tt }
intrinsic_names r intrinsics.BackpressureInc = record { used = tt; payload = tt; returned = tt }
intrinsic_names r intrinsics.BackpressureDec = record { used = tt; payload = tt; returned = tt }
intrinsic_names r intrinsics.WaitableSetNew = record { used = tt; payload = tt; returned = tt }
intrinsic_names r intrinsics.WaitableSetWait = record { used = tt; payload = tt; returned = tt }
intrinsic_names r intrinsics.WaitableSetPoll = record { used = tt; payload = tt; returned = tt }
intrinsic_names r intrinsics.WaitableSetDrop = record { used = tt; payload = tt; returned = tt }
intrinsic_names r intrinsics.WaitableJoin = record { used = tt; payload = tt; returned = tt }
intrinsic_names r intrinsics.SubtaskDrop = record { used = tt; payload = tt; returned = tt }
intrinsic_names r intrinsics.ErrorContextDrop = record { used = tt; payload = tt; returned = tt }

memory_names : (r : Resolve) (ty : Option ExternType) (field : List ℕ) (x : Resolved) → IfSome (resolved_import x field roles.Memory ty) (HasNamed r)
memory_names r None field x = tt
memory_names r (Some (externs.Memory m)) field x = record { used = tt; payload = tt; returned = tt }
memory_names r (Some (externs.Func f)) field x = tt
memory_names r (Some (externs.Table t)) field x = tt
memory_names r (Some (externs.Global g)) field x = tt

adapter_names : (r : Resolve) (ty : Option ExternType) (field adapter name : List ℕ) (x : Resolved) → IfSome (resolved_import x field (roles.AdapterExport adapter name) ty) (HasNamed r)
adapter_names r None field adapter name x = tt
adapter_names r (Some (externs.Func f)) field adapter name x = record { used = tt; payload = tt; returned = tt }
adapter_names r (Some (externs.Memory m)) field adapter name x = tt
adapter_names r (Some (externs.Table t)) field adapter name x = tt
adapter_names r (Some (externs.Global g)) field adapter name x = tt

-- ---- all roles

role_names : (r : Resolved) (field : List ℕ) (role : ImportRole) (ty : Option ExternType) → IsSound r.resolve → IfSome (resolved_import r field role ty) (HasNamed r.resolve)
role_names r field (roles.Function owner name abi) ty sound = calls_name r.resolve name abi (function_position sides.Imported r owner name)
role_names r field (roles.ImportedDrop t) ty sound = imported_names r.resolve (resource_of sides.Imported r t) (resource_there r sides.Imported t.name (position_of sides.Imported r t.owner t.name) sound)
role_names r field (roles.ExportedDrop t) ty sound = drop_names r.resolve (resource_of sides.Exported r t)
role_names r field (roles.ExportedRep t) ty sound = rep_names r.resolve (resource_of sides.Exported r t)
role_names r field (roles.ExportedNew t) ty sound = new_names r.resolve (resource_of sides.Exported r t)
role_names r field (roles.TaskReturn owner name) ty sound = returns_name r name (position_of sides.Exported r owner name) sound
role_names r field (roles.Payload kind operation payload is_async) ty sound = payload_names r.resolve kind operation is_async (resolved_payload r field kind payload) (payload_exists r field kind payload)
role_names r field roles.Memory ty sound = memory_names r.resolve ty field r
role_names r field (roles.MainExport name kind) ty sound = record { used = tt; payload = tt; returned = tt }
role_names r field (roles.AdapterExport adapter name) ty sound = adapter_names r.resolve ty field adapter name r
role_names r field (roles.Intrinsic i) ty sound = intrinsic_names r.resolve i
role_names r field (roles.SubtaskCancel is_async) ty sound = record { used = tt; payload = tt; returned = tt }
role_names r field (roles.ErrorContextNew encoding) ty sound = record { used = tt; payload = tt; returned = tt }
role_names r field (roles.ErrorContextDebugMessage encoding) ty sound = record { used = tt; payload = tt; returned = tt }
role_names r field (roles.ContextGet word slot) ty sound = record { used = tt; payload = tt; returned = tt }
role_names r field (roles.ContextSet word slot) ty sound = record { used = tt; payload = tt; returned = tt }
role_names r field (roles.TlsGet word) ty sound = record { used = tt; payload = tt; returned = tt }
role_names r field (roles.TlsSet word) ty sound = record { used = tt; payload = tt; returned = tt }

pub target_names : (r : Resolved) (field : List ℕ) (role : ImportRole) (ty : Option ExternType) (answer : Option Import) → answer ≡ resolved_import r field role ty → IsSound r.resolve → IfSome answer (HasNamed r.resolve)
target_names r field role ty answer is sound = subst (λ o. IfSome o (HasNamed r.resolve)) (sym is) (role_names r field role ty sound)
