-- What holds of an import that was read: its steps passed, and the function of its role is the world's.
use Rattle.std.proofs.Common.{◌≡◌, ℕ, Bool, true, false, List, [], Option, Some, None, Result, Ok, Err, refl, sym, subst, ap, ◌∙◌, true≢false}
use Rattle.std.specs.Prelude.{⊤, ok_or, option_map, slice_get, IfSome, IsSome, if◌then◌else◌}
use Rattle.std.specs.Map.{lookup}
use Rattle.std.specs.Option.{option_and_then, option_map_or}
use Rattle.core_sections.specs.declared.core_module.CoreModule.{CoreModule}
use Rattle.core_sections.specs.declared.entries.CoreImport.{CoreImport}
use Rattle.core_sections.specs.declared.entries.EntityType.{EntityType}
use Rattle.core_sections.specs.declared.entries.FuncType.{FuncType}
use Rattle.wit_data.specs.Keys.{is_same_key}
use Rattle.wit_data.specs.Sound.{IsSound}
use Rattle.wit_data.specs.declared.functions.AbiVariant.{AbiVariant}
use Rattle.wit_data.specs.declared.functions.Function.{Function}
use Rattle.wit_data.specs.declared.ids.InterfaceId.{InterfaceId}
use Rattle.wit_data.specs.declared.resolve.Resolve.{Resolve}
use Rattle.wit_data.specs.declared.worlds.World.{World}
use Rattle.wit_data.specs.declared.worlds.WorldKey.{WorldKey}
use Rattle.wit_data.specs.declared.worlds.WorldKey.TheVariants as keys
use Rattle.comp_roles.specs.declared.imports.Import.{Import}
use Rattle.comp_roles.specs.declared.imports.Import.TheVariants as imports
use Rattle.comp_roles.specs.declared.libraries.Instance.{Instance}
use Rattle.comp_roles.specs.declared.libraries.Item.{Item}
use Rattle.comp_roles.specs.declared.offered.ExternType.{ExternType}
use Rattle.comp_roles.specs.declared.payloads.PayloadInfo.{PayloadInfo}
use Rattle.record_values.specs.declared.names.Owner.{Owner}
use Rattle.record_values.specs.declared.names.Owner.TheVariants as owners
use Rattle.record_values.specs.Names.{is_same_import}
use Rattle.record_values.specs.declared.record.ImportName.{ImportName}
use Rattle.record_values.specs.declared.roles.ImportRole.{ImportRole}
use Rattle.record_values.specs.declared.roles.ImportRole.TheVariants as roles
use Rattle.record_values.specs.declared.roles.Intrinsic.{Intrinsic}
use Rattle.record_values.specs.declared.roles.Intrinsic.TheVariants as intrinsics
use Rattle.record_values.specs.declared.roles.PayloadKind.{PayloadKind}
use Rattle.record_values.specs.declared.roles.PayloadKind.TheVariants as payload_kinds
use Rattle.record_values.specs.declared.roles.PayloadOperation.{PayloadOperation}
use Rattle.record_values.specs.declared.roles.PayloadOperation.TheVariants as operations
use Rattle.record_resolve.specs.declared.resolving.Resolved.{Resolved}
use Rattle.record_role_targets.specs.declared.sides.Side.TheVariants as sides
use Rattle.record_role_targets.specs.Sides.{interface_of, items_in}
use Rattle.record_role_targets.specs.Keys.{interface_key}
use Rattle.record_role_targets.specs.Positions.{at_root, in_interface, position_of, function_at_key, function_at, function_position, resource_of}
use Rattle.record_role_targets.specs.Payloads.{resolved_payload, payload_import}
use Rattle.record_role_targets.specs.Imports.{memory_type, function_type, called, imported_drop, exported_drop, exported_rep, exported_new, task_return, intrinsic, resolved_import}
use Rattle.record_role_targets.specs.Named.{HasNamed}
use Rattle.record_role_targets.specs.Targets.{WorldRoles, resolved_role}
use Rattle.record_role_targets.proofs.Existence.{IfThere, at_key}
use Rattle.record_role_targets.proofs.Reaching.{IsMet, payload_is_met}
use Rattle.world_values.specs.Items.{function_in, root_function_at}
use Rattle.world_values.specs.Mentions.{HasReturned, interface_in, payload_in}
use Rattle.record_core_types.specs.Asked.{called as called_as, imported_function, imported_interface, function_of}
use Rattle.record_core_types.specs.Fitting.{is_asked, function_type as type_of_function, fits_import}
use Rattle.record_core_types.specs.Offered.{extern_type}
use Rattle.record_core_types.specs.Guarantees.{exported_in, IsPayloadMet, IsMetIf, IsCalled}
use Rattle.record_faults.specs.declared.fault.Failure.{Failure}
use Rattle.record_faults.specs.Faults.{◌>>=◌, Gives}
use Rattle.record_faults.proofs.Chains.{bind_ok, got, passed}
use Rattle.record_imports.specs.declared.others.OtherModules.{OtherModules}
use Rattle.record_imports.specs.Others.{is_unknown}
use Rattle.record_imports.specs.Arguments.{Arguments, argument_for, item_of}
use Rattle.record_imports.specs.Meaning.{Roles, world_id, role_of, unless_unknown, known_role, target, no_role, unfit, meaningless, fitting, kept, by_record, by_argument, by_either, import_of}
use Rattle.record_imports.specs.Guarantees.{IsChecked}

-- ---- steps

-- the function of a `task.return` is one of the resolve
pub returned : (r : Resolve) (import : Import) → HasNamed r import → HasReturned r import
returned r import h = h.returned

-- a value, where its check passed
pub concluded : {A : Type 0} (step : Result ⊤ Failure) (value : A) (answer read : Result A Failure) → answer ≡ kept value step → Gives (λ u. value) step read → Gives (λ x. x) answer read
concluded (Ok u) value answer read is h = subst (λ a. Gives (λ x. x) a read) (sym is) h
concluded (Err e) value answer read is h = subst (λ a. Gives (λ x. x) a read) (sym is) h

-- an item exists apart from the resolve
pub item_named : (r : Resolve) (item : Item) → HasNamed r (imports.Item item)
item_named r item = record { used = tt; payload = tt; returned = tt }

-- ---- an import that was read

-- it has its role by the record
pub record PassesRecord (r : Resolved) (others : OtherModules) (table : Roles) (core : CoreModule) (i : CoreImport) (import : Import) (ty : ExternType) : Type 0 where
  pub role : ImportRole
  pub has : role_of table i ≡ Some role
  pub known : is_unknown others role ≡ false
  pub means : resolved_import r i.field role (Some ty) ≡ Some import
  pub fits : fits_import r.resolve world_id core import i.entity ≡ true

-- or by the argument for its module, which is this one
pub record PassesArgument (i : CoreImport) (import : Import) (ty : ExternType) (instance : Instance) : Type 0 where
  pub item : Item
  pub given : item_of instance i.field ty ≡ Some item
  pub is : import ≡ imports.Item item

abbrev pub PassesEither : Resolved → OtherModules → Roles → CoreModule → CoreImport → Import → ExternType → Option Instance → Type 0
PassesEither r others table core i import ty None = PassesRecord r others table core i import ty
PassesEither r others table core i import ty (Some instance) = PassesArgument i import ty instance

pub record Passes (r : Resolved) (others : OtherModules) (arguments : Arguments) (table : Roles) (core : CoreModule) (i : CoreImport) (import : Import) : Type 0 where
  pub ty : ExternType
  pub typed : extern_type core i.entity ≡ Some ty
  pub given : PassesEither r others table core i import ty (argument_for arguments i.«module»)

-- a role that is known
pub is_known : (others : OtherModules) (role : ImportRole) (o : Option ImportRole) → option_and_then (unless_unknown others) o ≡ Some role → (o ≡ Some role) × (is_unknown others role ≡ false)
is_known others role None e = absurd cc
is_known others role (Some other) e = by (is_unknown others other) refl e
  where
    by : (b : Bool) → is_unknown others other ≡ b → (if b then None else Some other) ≡ Some role → (Some other ≡ Some role) × (is_unknown others role ≡ false)
    by true is e = absurd cc
    by false is e = let same : other ≡ role = cc (e) in (e, ap (is_unknown others) (sym same) ∙ is)

-- what a look-up found that is known
pub was_known : (others : OtherModules) (role : ImportRole) (o : Option ImportRole) → Some role ≡ option_and_then (unless_unknown others) o → o ≡ Some role
was_known others role o e = (is_known others role o (sym e)).0

-- what an import of this name resolves to, by its role
pub targeted : (t : WorldRoles) (name : ImportName) (i : CoreImport) (role : ImportRole) (ty : ExternType) (found : Option Import) → name.field ≡ i.field → lookup (is_same_import name) t.table ≡ Some role → found ≡ resolved_role t name (Some ty)
    → target t.resolved i role ty ≡ found
targeted t name i role ty found field has is =
    sym (is ∙ (ap (λ o. option_and_then (λ r. resolved_import t.resolved name.field r (Some ty)) o) has ∙ ap (λ f. resolved_import t.resolved f role (Some ty)) field))

abbrev pub after_role : Resolved → CoreModule → CoreImport → ExternType → ImportRole → Result Import Failure
after_role r core i ty role = ok_or (target r i role ty) (meaningless i role) >>= λ import. fitting r core i import

abbrev pub after_type : Resolved → OtherModules → Arguments → Roles → CoreModule → CoreImport → ExternType → Result Import Failure
after_type r others arguments table core i ty = by_either r others table core i ty (argument_for arguments i.«module»)

record_passes : (r : Resolved) (others : OtherModules) (table : Roles) (core : CoreModule) (i : CoreImport) (import : Import) (ty : ExternType) → by_record r others table core i ty ≡ Ok import → PassesRecord r others table core i import ty
unfolding by_record
record_passes r others table core i import ty e =
    let b = bind_ok (ok_or (known_role others table i) (no_role i)) (after_role r core i ty) import e in
    let k = is_known others b.0 (role_of table i) (got (known_role others table i) (no_role i) b.0 b.1) in
    let c = bind_ok (ok_or (target r i b.0 ty) (meaningless i b.0)) (fitting r core i) import b.2 in
    let p = passed (fits_import r.resolve world_id core c.0 i.entity) c.0 import (unfit i) c.2 in
    record {
      role = b.0;
      has = k.0;
      known = k.1;
      means = got (target r i b.0 ty) (meaningless i b.0) c.0 c.1 ∙ ap Some p.1;
      fits = ap (λ (x : Import). fits_import r.resolve world_id core x i.entity) (sym p.1) ∙ p.0;
    }

argument_passes : (i : CoreImport) (import : Import) (ty : ExternType) (instance : Instance) → by_argument i ty instance ≡ Ok import → PassesArgument i import ty instance
argument_passes i import ty instance e = by (item_of instance i.field ty) refl (got (option_map imports.Item (item_of instance i.field ty)) (no_role i) import e)
  where
    by : (o : Option Item) → item_of instance i.field ty ≡ o → option_map imports.Item o ≡ Some import → PassesArgument i import ty instance
    by None is h = absurd cc
    by (Some item) is h = record { item = item; given = is; is = cc (h) }

either_passes : (r : Resolved) (others : OtherModules) (table : Roles) (core : CoreModule) (i : CoreImport) (import : Import) (ty : ExternType) (argument : Option Instance) → by_either r others table core i ty argument ≡ Ok import
    → PassesEither r others table core i import ty argument
either_passes r others table core i import ty None e = record_passes r others table core i import ty e
either_passes r others table core i import ty (Some instance) e = argument_passes i import ty instance e

pub import_passes : (r : Resolved) (others : OtherModules) (arguments : Arguments) (table : Roles) (core : CoreModule) (i : CoreImport) (import : Import) → import_of r others arguments table core i ≡ Ok import → Passes r others arguments table core i import
unfolding import_of
import_passes r others arguments table core i import e =
    let a = bind_ok (ok_or (extern_type core i.entity) (unfit i)) (after_type r others arguments table core i) import e in
    record {
      ty = a.0;
      typed = got (extern_type core i.entity) (unfit i) a.0 a.1;
      given = either_passes r others table core i import a.0 (argument_for arguments i.«module») a.2;
    }

-- ---- root functions have their own names, and interfaces their keys

-- the interface at a key, looked up as in this crate and as in the crate below
same_interface : (o : Option World) (key : WorldKey) → option_and_then (λ w. option_and_then interface_in (lookup (is_same_key key) w.imports)) o ≡ option_and_then interface_in (lookup (is_same_key key) (option_map_or (items_in sides.Imported) o []))
same_interface None key = refl
same_interface (Some w) key = refl

module _ (r : Resolved) where
  abbrev IsOwn : Import → Type 0
  IsOwn (imports.WorldFunc (keys.Name text) function abi) = function ≡ text
  IsOwn (imports.InterfaceFunc key id function abi) = imported_interface r.resolve world_id key ≡ Some id
  IsOwn import = IsMetIf r.resolve world_id (payload_in import)

  mapped : {A : Type 0} (f : A → Import) (o : Option A) → ((x : A) → IsOwn (f x)) → IfSome (option_map f o) IsOwn
  mapped f None h = tt
  mapped f (Some x) h = h x

  root_own : (name : List ℕ) (abi : AbiVariant) (o : Option Function) → IfSome (option_map (called name abi) (option_map (λ f. at_root name) o)) IsOwn
  root_own name abi None = tt
  root_own name abi (Some f) = refl

  key_own : (id : InterfaceId) (key : WorldKey) → interface_key sides.Imported r id ≡ Some key → imported_interface r.resolve world_id key ≡ Some id
  key_own id key e = let there = at_key r sides.Imported id key e in same_interface (slice_get r.resolve.worlds 0) key ∙ there.is

  interface_own : (name : List ℕ) (abi : AbiVariant) (id : InterfaceId) (key : Option WorldKey) → interface_key sides.Imported r id ≡ key
      → IfSome (option_map (called name abi) (option_and_then (λ p. option_map (λ f. p) (function_at sides.Imported r p name)) (option_map (in_interface id) key))) IsOwn
  interface_own name abi id None is = tt
  interface_own name abi id (Some key) is = by (function_at sides.Imported r (in_interface id key) name)
    where
      by : (o : Option Function) → IfSome (option_map (called name abi) (option_map (λ f. in_interface id key) o)) IsOwn
      by None = tt
      by (Some f) = key_own id key is

  named_own : (name : List ℕ) (abi : AbiVariant) (id : Option InterfaceId)
      → IfSome (option_map (called name abi) (option_and_then (λ p. option_map (λ f. p) (function_at sides.Imported r p name)) (option_and_then (λ x. option_map (in_interface x) (interface_key sides.Imported r x)) id))) IsOwn
  named_own name abi None = tt
  named_own name abi (Some id) = interface_own name abi id (interface_key sides.Imported r id) refl

  function_own : (owner : Owner) (name : List ℕ) (abi : AbiVariant) → IfSome (option_map (called name abi) (function_position sides.Imported r owner name)) IsOwn
  function_own owners.World name abi = root_own name abi (function_at sides.Imported r (at_root name) name)
  function_own (owners.Interface i) name abi = named_own name abi (interface_of sides.Imported r i)

  chained : {A B : Type 0} (f : A → B → Import) (of : A → Option B) (o : Option A) → ((x : A) (y : B) → IsOwn (f x y)) → IfSome (option_and_then (λ x. option_map (f x) (of x)) o) IsOwn
  chained f of None h = tt
  chained f of (Some x) h = mapped (f x) (of x) (h x)

  -- a function is looked up among the exports as in the crate below
  same_function : (key : WorldKey) (interface : Option InterfaceId) (name : List ℕ) → function_at_key sides.Exported r key interface name ≡ exported_in r.resolve world_id key interface name
  same_function key (Some id) name = refl
  same_function key None name = by (slice_get r.resolve.worlds 0)
    where
      by : (o : Option World) → option_and_then function_in (lookup (is_same_key key) (option_map_or (items_in sides.Exported) o [])) ≡ option_and_then (λ w. root_function_at w.exports key) o
      by None = refl
      by (Some w) = refl

  met_in_world : (p : PayloadInfo) → IsMet r p → IsPayloadMet r.resolve world_id p
  met_in_world p h = record { reached = λ key id name f unimported keyed typed there. h.reached key id name f unimported keyed typed (same_function key p.interface name ∙ there) }

  payload_own : (kind : PayloadKind) (operation : PayloadOperation) (is_async : Bool) (p : PayloadInfo) → IsPayloadMet r.resolve world_id p → IsOwn (payload_import kind operation is_async p)
  payload_own payload_kinds.Stream operations.New a p h = h
  payload_own payload_kinds.Stream operations.Read a p h = h
  payload_own payload_kinds.Stream operations.Write a p h = h
  payload_own payload_kinds.Stream operations.CancelRead a p h = h
  payload_own payload_kinds.Stream operations.CancelWrite a p h = h
  payload_own payload_kinds.Stream operations.DropReadable a p h = h
  payload_own payload_kinds.Stream operations.DropWritable a p h = h
  payload_own payload_kinds.Future operations.New a p h = h
  payload_own payload_kinds.Future operations.Read a p h = h
  payload_own payload_kinds.Future operations.Write a p h = h
  payload_own payload_kinds.Future operations.CancelRead a p h = h
  payload_own payload_kinds.Future operations.CancelWrite a p h = h
  payload_own payload_kinds.Future operations.DropReadable a p h = h
  payload_own payload_kinds.Future operations.DropWritable a p h = h

  payloads_own : (kind : PayloadKind) (operation : PayloadOperation) (is_async : Bool) (o : Option PayloadInfo) → IfThere (IsMet r) o → IfSome (option_map (payload_import kind operation is_async) o) IsOwn
  payloads_own kind operation is_async None h = tt
  payloads_own kind operation is_async (Some p) h = payload_own kind operation is_async p (met_in_world p h)

  intrinsic_own : (i : Intrinsic) → IsOwn (intrinsic i)
  intrinsic_own intrinsics.TaskCancel = tt
  intrinsic_own intrinsics.BackpressureInc = tt
  intrinsic_own intrinsics.BackpressureDec = tt
  intrinsic_own intrinsics.WaitableSetNew = tt
  intrinsic_own intrinsics.WaitableSetWait = tt
  intrinsic_own intrinsics.WaitableSetPoll = tt
  intrinsic_own intrinsics.WaitableSetDrop = tt
  intrinsic_own intrinsics.WaitableJoin = tt
  intrinsic_own intrinsics.SubtaskDrop = tt
  intrinsic_own intrinsics.ErrorContextDrop = tt

  role_own : IsSound r.resolve → (field : List ℕ) (role : ImportRole) (ty : Option ExternType) → IfSome (resolved_import r field role ty) IsOwn
  role_own sound field (roles.Function owner name abi) ty = function_own owner name abi
  role_own sound field (roles.ImportedDrop t) ty = mapped imported_drop (resource_of sides.Imported r t) (λ x. tt)
  role_own sound field (roles.ExportedDrop t) ty = mapped exported_drop (resource_of sides.Exported r t) (λ x. tt)
  role_own sound field (roles.ExportedRep t) ty = mapped exported_rep (resource_of sides.Exported r t) (λ x. tt)
  role_own sound field (roles.ExportedNew t) ty = mapped exported_new (resource_of sides.Exported r t) (λ x. tt)
  role_own sound field (roles.TaskReturn owner name) ty = chained task_return (λ p. function_at sides.Exported r p name) (position_of sides.Exported r owner name) (λ p f. tt)
  role_own sound field (roles.Payload kind operation payload is_async) ty = payloads_own kind operation is_async (resolved_payload r field kind payload) (payload_is_met r field kind payload sound)
  role_own sound field roles.Memory ty = mapped imports.MainModuleMemory (memory_type ty) (λ x. tt)
  role_own sound field (roles.MainExport name kind) ty = tt
  role_own sound field (roles.AdapterExport adapter name) ty = mapped (imports.AdapterExport adapter name) (function_type ty) (λ x. tt)
  role_own sound field (roles.Intrinsic i) ty = intrinsic_own i
  role_own sound field (roles.SubtaskCancel is_async) ty = tt
  role_own sound field (roles.ErrorContextNew encoding) ty = tt
  role_own sound field (roles.ErrorContextDebugMessage encoding) ty = tt
  role_own sound field (roles.ContextGet word slot) ty = tt
  role_own sound field (roles.ContextSet word slot) ty = tt
  role_own sound field (roles.TlsGet word) ty = tt
  role_own sound field (roles.TlsSet word) ty = tt

-- ---- functions are the world's

asked_there : (f : Function → FuncType) (o : Option Function) (ty : Option FuncType) → option_map_or (λ t. is_asked t (option_map f o)) ty false ≡ true → IsSome o
asked_there f None None e = absurd (true≢false (sym e))
asked_there f None (Some t) e = absurd (true≢false (sym e))
asked_there f (Some x) ty e = refl

is_called : (r : Resolved) (core : CoreModule) (import : Import) (entity : EntityType) → IsOwn r import → fits_import r.resolve world_id core import entity ≡ true → IsCalled r.resolve world_id import
is_called r core (imports.WorldFunc (keys.Name text) function abi) entity own fits =
    (own, asked_there (called_as r.resolve abi) (imported_function r.resolve world_id (keys.Name text)) (type_of_function core entity) fits)
is_called r core (imports.InterfaceFunc key id function abi) entity own fits =
    (own, asked_there (called_as r.resolve abi) (function_of r.resolve id function) (type_of_function core entity) fits)
is_called r core import entity own fits = own

either_called : (r : Resolved) → IsSound r.resolve → (others : OtherModules) (table : Roles) (core : CoreModule) (i : CoreImport) (import : Import) (ty : ExternType) (argument : Option Instance) → PassesEither r others table core i import ty argument
    → IsCalled r.resolve world_id import
either_called r sound others table core i import ty None p = is_called r core import i.entity (subst (λ o. IfSome o (IsOwn r)) p.means (role_own r sound i.field p.role (Some ty))) p.fits
either_called r sound others table core i import ty (Some instance) p = subst (IsCalled r.resolve world_id) (sym p.is) tt

-- an import that was read is checked
pub is_checked : (r : Resolved) (others : OtherModules) (arguments : Arguments) (table : Roles) (core : CoreModule) (i : CoreImport) (import : Import) → import_of r others arguments table core i ≡ Ok import → HasNamed r.resolve import → IsSound r.resolve
    → IsChecked r.resolve import
is_checked r others arguments table core i import e named sound =
    let p = import_passes r others arguments table core i import e in
    record {
      present = named.used;
      called = either_called r sound others table core i import p.ty (argument_for arguments i.«module») p.given;
    }
