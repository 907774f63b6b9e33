-- What the arguments of a user module's instantiation are, and what its imports find among them.
use Rattle.std.proofs.Common.{◌≡◌, ◌∙◌, inl, inr, ℕ, Bool, List, [], ◌∷◌, map, refl, sym, ap, subst, Option, Some, None, true, false, true≢false, is_some, IsSome, IsTrue, Contains}
use Rattle.standard_kinds.specs.declared.kinds.StringEncoding.{StringEncoding}
use Rattle.std.proofs.lemmas.Option.{same_Some, none-some}
use Rattle.std.specs.List.{AllZip, AllByRecursion}
use Rattle.std.specs.Option.{option_map, option_map_or, option_and_then}
use Rattle.comp_lists.specs.Found.{found}
use Rattle.comp_lists.proofs.Lists.{AllZip-weaker}
use Rattle.built_ins.proofs.Typed.{usable_too, plain_typed}
use Rattle.built_ins.specs.BuiltIns.{plain_intrinsic, plain_type, plain_import_type}
use Rattle.built_ins.specs.Payloads.{PayloadCall, named_call, payload_signature, is_access}
use Rattle.comp_bytes.specs.Spaces.{kind_space}
use Rattle.comp_bytes.specs.declared.canon.Intrinsic.{Intrinsic}
use Rattle.comp_bytes.specs.declared.canon.Intrinsic.TheVariants as intrinsics
use Rattle.core_types.specs.declared.types.FuncType.{FuncType}
use Rattle.core_types.specs.declared.types.ValType.{ValType}
use Rattle.core_runs.specs.Bodies.{tls_get, tls_set}
use Rattle.core_runs.specs.Cells.{getter_type, setter_type}
use Rattle.core_runs.specs.Store.{Generated, Opaque}
use Rattle.comp_bytes.specs.declared.space.Space.{Space}
use Rattle.comp_bytes.specs.declared.space.Space.TheVariants as spaces
use Rattle.standard_kinds.specs.declared.kinds.ExportKind.{ExportKind}
use Rattle.comp_bytes.specs.declared.def.CoreArgument.{CoreArgument}
use Rattle.comp_bytes.specs.declared.def.CoreInlineExport.{CoreInlineExport}
use Rattle.comp_bytes.specs.declared.def.Def.{Def}
use Rattle.wit_data.specs.declared.worlds.WorldKey.{WorldKey}
use Rattle.wit_data.specs.declared.worlds.WorldKey.TheVariants as keys
use Rattle.wit_data.specs.declared.types.Type.{«Type» as Ty}
use Rattle.wit_data.specs.declared.functions.AbiVariant.{AbiVariant}
use Rattle.wit_data.specs.declared.functions.AbiVariant.TheVariants.{GuestImport}
use Rattle.wit_data.specs.declared.functions.Function.{Function}
use Rattle.wit_data.specs.declared.ids.InterfaceId.{InterfaceId}
use Rattle.wit_data.specs.Signatures.{signature, returning}
use Rattle.comp_trees.specs.Trees.{Resource, ResourceAt, Tree}
use Rattle.world_values.specs.Items.{functions_of, root_function_at}
use Rattle.comp_roles.specs.CoreImports.{fields_of}
use Rattle.comp_roles.specs.CoreTypes.{called_type, core_type}
use Rattle.comp_roles.specs.Matching.{matches}
use Rattle.comp_worlds.proofs.Matched.{matched_function}
use Rattle.comp_options.specs.Options.{import_set}
use Rattle.comp_worlds.specs.Bases.{base_of_role}
use Rattle.comp_worlds.specs.Lowerings.{IsImportForm}
use Rattle.comp_worlds.specs.Typed.{drop_type, handle_type, wait_type, message_type, type_of_built_in, type_of_import, FitsRole, FitsInstance}
use Rattle.comp_worlds.specs.WorldContents.{function_exported, items_of}
use Rattle.comp_worlds.specs.Worlds.{IsWorld, IsImportRole, IsImportGroup}
use Rattle.comp_roles.specs.declared.imports.Import.{Import}
use Rattle.comp_roles.specs.declared.imports.Import.TheVariants as imports
use Rattle.comp_roles.specs.declared.payloads.PayloadFuncKind.{PayloadFuncKind}
use Rattle.comp_roles.specs.declared.payloads.PayloadFuncKind.TheVariants as ends
use Rattle.comp_roles.specs.declared.payloads.PayloadInfo.{PayloadInfo}
use Rattle.comp_roles.specs.declared.imports.ImportInstance.{ImportInstance}
use Rattle.comp_roles.specs.declared.imports.ImportInstance.TheVariants as instances
use Rattle.comp_roles.specs.declared.libraries.MainOrAdapter.{MainOrAdapter}
use Rattle.comp_worlds.specs.declared.world.ComponentWorld.{ComponentWorld}
use Rattle.comp_worlds.specs.declared.world.ValidatedModule.{ValidatedModule}
use Rattle.comp_runs.specs.Store.{Thing, Export, CoreItem, Lowering, IntrinsicOf, ExportedBy, Store}
use Rattle.comp_roles.specs.declared.offered.ExternType.{ExternType}
use Rattle.comp_roles.specs.declared.offered.ExternType.TheVariants as externs
use Rattle.comp_roles.specs.declared.offered.ImportType.{ImportType}
use Rattle.comp_links.specs.Targets.{UserModule, Main, Adapter, ExportRef, WorldFunction, TargetOption, Target, OfRoot, OfInterface, Lowered, BuiltIn, Operand, NoType, operand_if_any, payload_operand, operand_tree, ResourceFunction, New, Rep, Drop, ExportOf, Unlinked}
use Rattle.comp_links.specs.Modules.{WorldModule, user_modules, IsModule, function_imported}
use Rattle.comp_links.specs.Roles.{import_encoding}
use Rattle.comp_links.specs.Lists.{resource_of}
use Rattle.comp_links.specs.Links.{options_in, lower_realloc, lower_options, link_of_intrinsic, link_of_payload, link_of, link_in, link_at, module_of, task_return, set_wait, set_poll, error_new, error_message, stream_read, stream_write, future_read, future_write}
use Rattle.shim_plan.specs.declared.kinds.ShimKind.{ShimKind}
use Rattle.shim_plan.specs.declared.kinds.ShimKind.TheVariants as shim_kinds
use Rattle.shim_plan.specs.declared.shims.Shim.{Shim}
use Rattle.world_shims.specs.WorldShims.{type_of_shim}
use Rattle.comp_terms.specs.Generated.{interface_imported, export_key, returning_at, role_of_kind, export_of_kind, IsShimOf, Purpose, OfImport, OfExport, target_of, HasPurpose, access_role}
use Rattle.comp_terms.specs.Terms.{intrinsic_of}
use Rattle.comp_terms.specs.Shimmed.{has_shim, has_shim_in, has_shim_at}
use Rattle.comp_terms.specs.Planned.{type_of_function, IsItemFor, IsShimFor, IsOwnShim, IsGivenFor, IsEntryFor, IsArgumentFor}
use Rattle.comp_runs.specs.Machine.{Scope, Machine, address_at, all_some, export_named}
use Rattle.comp_runs.specs.Instances.{given_to, type_space}
use Rattle.comp_runs.specs.Signatures.{form_of, core_signature, intrinsic_signature, returned}
use Rattle.comp_runs.specs.Running.{core_argument}
use Rattle.link_laws.proofs.BuiltIns.{plain_signature, payload_core, may_have_shim, plain_has_none, payload_has_none}
use Rattle.link_laws.proofs.Zips.{all_some-zip, found-zip, mapped_some}
use Rattle.comp_worlds.proofs.Roles.{bound_some}
use Rattle.link_laws.proofs.BaseRoles.{IsAgreed, IsAgreedGroup, NeedsCell, getter_fits, setter_fits, cell_of_role, cell_needed, no_cell}
use Rattle.link_laws.proofs.Plain.{HasRole, IsGivenImport, lowered_type, function_type_in}
use Rattle.comp_links.proofs.Named.{one_module, named_found, listed_there}
use Rattle.link_laws.proofs.Given.{thing_there, item_there, shim_there, shim_typed, user_there, found_name, by_parts, IsOfType, exports_named, IsFunctionTyped}
use Rattle.link_laws.proofs.Forms.{form_asked, held_form, own_form, own_type}
use Rattle.link_laws.proofs.Offering.{named_matches, offered_matches, HasType, export_typed, main_memory_typed, AreTypesOf, finds_given}
use Rattle.link_laws.proofs.Stores.{IsOpaqueOf, IsLoweredFor, IsItemTyped, IsUserItem, IsUserExport, IsInstance, IsUserInstance, IsNamedEntry, IsInlineInstance, ShimsAt, IsFunctionOf, IsBuiltInAt, IsItemExported, IsServedAs, IsServedIn, resource_core, IsShimGiven, Serves, IsPlanned, HasGlobals, Agrees}

-- ---- the core types of what is given

-- a function of a resource's handles is opaque, and has its core type
resource_opaque : (s : Store) (address : ℕ) (function : ResourceFunction) (resource : Resource) (type : FuncType) → Some (externs.Func (resource_core function)) ≡ Some (externs.Func type) → IsFunctionOf s address function resource →
    (item : CoreItem) × IsOpaqueOf s address type item
resource_opaque s address function resource type fits h =
    let item : CoreItem = IntrinsicOf (intrinsic_of function 0) (Some (ResourceAt resource)) [] in
    (item, subst (λ t. IsOpaqueOf s address t item) (ap (function_type_in type) (same_Some (externs.Func (resource_core function)) (externs.Func type) fits)) h.is)

-- so is a built-in function without operands, where slot 1 can be used is given the same
intrinsic_opaque : (w : ComponentWorld) (s : Store) (address : ℕ) (i : Intrinsic) (usable : Option Intrinsic) (type : FuncType) → usable ≡ Some i → option_map externs.Func (option_and_then plain_type usable) ≡ Some (externs.Func type) →
    IsBuiltInAt w s address i None [] → (item : CoreItem) × IsOpaqueOf s address type item
intrinsic_opaque w s address i usable type same fits h =
    let asked : option_map externs.Func (plain_type i) ≡ Some (externs.Func type) = ap (λ o. option_map externs.Func (option_and_then plain_type o)) (sym same) ∙ fits in
    let x : (t : FuncType) × (plain_type i ≡ Some t) × (externs.Func t ≡ externs.Func type) = mapped_some externs.Func (plain_type i) (externs.Func type) asked in
    let typed : intrinsic_signature i None ≡ type = plain_signature i None x.0 x.1 ∙ ap (function_type_in type) x.2 in
    (IntrinsicOf i None h.held, subst (λ t. IsOpaqueOf s address t (IntrinsicOf i None h.held)) typed h.is)

-- where the role has one, and is none of a base
built_in_opaque : (w : ComponentWorld) (s : Store) (address : ℕ) (role : Import) (o usable : Option Intrinsic) (type : FuncType) → base_of_role role ≡ None → ((i : Intrinsic) → o ≡ Some i → usable ≡ Some i) →
    option_map externs.Func (option_and_then plain_type usable) ≡ Some (externs.Func type) → IsServedAs w s address (link_of_intrinsic role o) → (item : CoreItem) × IsOpaqueOf s address type item
built_in_opaque w s address role None usable type none same fits h = let no : IsServedAs w s address Unlinked = subst (IsServedAs w s address) (no_cell role none) h in absurd no
built_in_opaque w s address role (Some i) usable type none same fits h = intrinsic_opaque w s address i usable type (same i refl) fits h

-- so is a function of a stream or a future
payload_opaque : (w : ComponentWorld) (s : Store) (address : ℕ) (role : Import) (c : PayloadCall) → named_call role ≡ Some c → (type : FuncType) → (options : List TargetOption) → Some (externs.Func (payload_signature c.intrinsic)) ≡ Some (externs.Func type) →
    IsBuiltInAt w s address c.intrinsic (operand_tree (resource_of w) w.resolve.types (payload_operand c.info.ty)) options → (item : CoreItem) × IsOpaqueOf s address type item
payload_opaque w s address role c is type options fits h =
    let tree : Option Tree = operand_tree (resource_of w) w.resolve.types (payload_operand c.info.ty) in
    let typed : externs.Func (intrinsic_signature c.intrinsic tree) ≡ externs.Func type = ap externs.Func (payload_core tree role c is) ∙ same_Some (externs.Func (payload_signature c.intrinsic)) (externs.Func type) fits in
    (IntrinsicOf c.intrinsic tree h.held, subst (λ t. IsOpaqueOf s address t (IntrinsicOf c.intrinsic tree h.held)) (ap (function_type_in type) typed) h.is)

-- or another built-in function
typed_opaque : (w : ComponentWorld) (s : Store) (address : ℕ) (role : Import) (o : Option PayloadCall) → named_call role ≡ o → (type : FuncType) → base_of_role role ≡ None → type_of_built_in role o ≡ Some (externs.Func type) → IsServedAs w s address (link_of_payload w role o) →
    (item : CoreItem) × IsOpaqueOf s address type item
typed_opaque w s address role (Some c) is type none fits h = payload_opaque w s address role c is type [] fits h
typed_opaque w s address role None is type none fits h = built_in_opaque w s address role (plain_intrinsic w.can_use_context_slot_1 role) (plain_intrinsic true role) type none (usable_too w.can_use_context_slot_1 role) fits h

-- the core type of a built-in function
built_in_core : (role : Import) (o : Option PayloadCall) (type : ExternType) → type_of_built_in role o ≡ Some type → (t : FuncType) × (externs.Func t ≡ type)
built_in_core role (Some c) type fits = (payload_signature c.intrinsic, same_Some (externs.Func (payload_signature c.intrinsic)) type fits)
built_in_core role None type fits =
    let x : (t : FuncType) × (plain_import_type role ≡ Some t) × (externs.Func t ≡ type) = mapped_some externs.Func (plain_import_type role) type fits in (x.0, x.2)

-- neither it nor a function of the cell is a table, a memory or a global
no_table : (w : ComponentWorld) (s : Store) (address : ℕ) (role : Import) (o : Option Intrinsic) → IsServedIn w s spaces.CoreTable address (link_of_intrinsic role o) → ⊥
no_table w s address (imports.TlsBaseGet type) None h = h
no_table w s address (imports.TlsBaseSet type) None h = h
no_table w s address role None h = h
no_table w s address role (Some i) h = h

no_memory : (w : ComponentWorld) (s : Store) (address : ℕ) (role : Import) (o : Option Intrinsic) → IsServedIn w s spaces.CoreMemory address (link_of_intrinsic role o) → ⊥
no_memory w s address (imports.TlsBaseGet type) None h = h
no_memory w s address (imports.TlsBaseSet type) None h = h
no_memory w s address role None h = h
no_memory w s address role (Some i) h = h

no_global : (w : ComponentWorld) (s : Store) (address : ℕ) (role : Import) (o : Option Intrinsic) → IsServedIn w s spaces.CoreGlobal address (link_of_intrinsic role o) → ⊥
no_global w s address (imports.TlsBaseGet type) None h = h
no_global w s address (imports.TlsBaseSet type) None h = h
no_global w s address role None h = h
no_global w s address role (Some i) h = h

typed_no_table : (w : ComponentWorld) (s : Store) (address : ℕ) (role : Import) (o : Option PayloadCall) → IsServedIn w s spaces.CoreTable address (link_of_payload w role o) → ⊥
typed_no_table w s address role (Some c) h = h
typed_no_table w s address role None h = no_table w s address role (plain_intrinsic w.can_use_context_slot_1 role) h

typed_no_memory : (w : ComponentWorld) (s : Store) (address : ℕ) (role : Import) (o : Option PayloadCall) → IsServedIn w s spaces.CoreMemory address (link_of_payload w role o) → ⊥
typed_no_memory w s address role (Some c) h = h
typed_no_memory w s address role None h = no_memory w s address role (plain_intrinsic w.can_use_context_slot_1 role) h

typed_no_global : (w : ComponentWorld) (s : Store) (address : ℕ) (role : Import) (o : Option PayloadCall) → IsServedIn w s spaces.CoreGlobal address (link_of_payload w role o) → ⊥
typed_no_global w s address role (Some c) h = h
typed_no_global w s address role None h = no_global w s address role (plain_intrinsic w.can_use_context_slot_1 role) h

-- it is no lowering
not_lowered : (role : Import) (o : Option Intrinsic) (function : WorldFunction) (options : List TargetOption) → link_of_intrinsic role o ≡ Lowered function options → ⊥
not_lowered (imports.TlsBaseGet type) None function options is = cc
not_lowered (imports.TlsBaseSet type) None function options is = cc
not_lowered role None function options is = cc
not_lowered role (Some i) function options is = cc

typed_not_lowered : (w : ComponentWorld) (role : Import) (o : Option PayloadCall) (function : WorldFunction) (options : List TargetOption) → link_of_payload w role o ≡ Lowered function options → ⊥
typed_not_lowered w role (Some c) function options is = cc
typed_not_lowered w role None function options is = not_lowered role (plain_intrinsic w.can_use_context_slot_1 role) function options is

-- a lowering of a function that is called in a form is opaque, and has the core type of such calls
called_opaque : (w : ComponentWorld) (s : Store) (address : ℕ) (function : WorldFunction) (abi : AbiVariant) → IsImportForm abi → (type : FuncType) (realloc : Option ExportRef) (encoding : Option StringEncoding) →
    option_map (called_type w.resolve abi) (function_imported w function) ≡ Some (externs.Func type) →
    IsLoweredFor w s address function (options_in (option_map_or (import_set abi w.resolve.types) (function_imported w function) 0) realloc encoding) → (item : CoreItem) × IsOpaqueOf s address type item
called_opaque w s address function abi form type realloc encoding fits h =
    let asked : called_type w.resolve abi h.typed.wit ≡ externs.Func type =
    same_Some (called_type w.resolve abi h.typed.wit) (externs.Func type) (sym (ap (option_map (called_type w.resolve abi)) h.typed.imported) ∙ fits) in
    let same : form_of h.held ≡ abi =
    held_form w s h.held (options_in (option_map_or (import_set abi w.resolve.types) (function_imported w function) 0) realloc encoding) h.with_options
    ∙ own_form abi form w.resolve.types (function_imported w function) h.typed.wit h.typed.imported realloc encoding in
    let typed : externs.Func (core_signature h.type h.held) ≡ externs.Func type = lowered_type w h.type h.typed.wit h.held h.typed.typed ∙ (ap (λ (a : AbiVariant). called_type w.resolve a h.typed.wit) same ∙ asked) in
    (Lowering h.lowered.of h.held, subst (λ t. IsOpaqueOf s address t (Lowering h.lowered.of h.held)) (ap (function_type_in type) typed) h.lowered.is)

-- the core type of a return is that of a function of the result
returned_tree : (w : ComponentWorld) (f : Function) → returned (operand_tree (resource_of w) w.resolve.types (operand_if_any f.result)) ≡ type_of_function w (returning f)
returned_tree w f = by f.result refl
  where
    by : (o : Option Ty) → f.result ≡ o → returned (operand_tree (resource_of w) w.resolve.types (operand_if_any o)) ≡ type_of_function w (returning (record f { result = o }))
    by None is = refl
    by (Some ty) is = refl

returned_type : (w : ComponentWorld) (f : Function) → externs.Func (intrinsic_signature task_return (operand_tree (resource_of w) w.resolve.types (operand_if_any f.result))) ≡ called_type w.resolve GuestImport (returning f)
returned_type w f = lowered_type w (returned (operand_tree (resource_of w) w.resolve.types (operand_if_any f.result))) (returning f) [] (returned_tree w f)

return_opaque : (w : ComponentWorld) (s : Store) (address : ℕ) (f : Function) (options : List TargetOption) (type : FuncType) → Some (called_type w.resolve GuestImport (returning f)) ≡ Some (externs.Func type) →
    IsBuiltInAt w s address task_return (operand_tree (resource_of w) w.resolve.types (operand_if_any f.result)) options → (item : CoreItem) × IsOpaqueOf s address type item
return_opaque w s address f options type fits h =
    let tree : Option Tree = operand_tree (resource_of w) w.resolve.types (operand_if_any f.result) in
    let typed : externs.Func (intrinsic_signature task_return tree) ≡ externs.Func type = returned_type w f ∙ same_Some (called_type w.resolve GuestImport (returning f)) (externs.Func type) fits in
    (IntrinsicOf task_return tree h.held, subst (λ t. IsOpaqueOf s address t (IntrinsicOf task_return tree h.held)) (ap (function_type_in type) typed) h.is)

-- so is a built-in function of no type, with options
abbrev wait_core : FuncType
wait_core = intrinsic_signature set_wait None

abbrev message_core : FuncType
message_core = intrinsic_signature error_message None

memory_opaque : (w : ComponentWorld) (s : Store) (address : ℕ) (name : Intrinsic) (options : List TargetOption) (type : FuncType) → Some (externs.Func (intrinsic_signature name None)) ≡ Some (externs.Func type) → IsBuiltInAt w s address name None options →
    (item : CoreItem) × IsOpaqueOf s address type item
memory_opaque w s address name options type fits h =
    let typed : externs.Func (intrinsic_signature name None) ≡ externs.Func type = same_Some (externs.Func (intrinsic_signature name None)) (externs.Func type) fits in
    (IntrinsicOf name None h.held, subst (λ t. IsOpaqueOf s address t (IntrinsicOf name None h.held)) (ap (function_type_in type) typed) h.is)

-- ---- what a shim stands for as an import

-- the role of a call of a function of the world, or of a built-in function with options
abbrev IsThrough : Import → Type 0
IsThrough (imports.WorldFunc (keys.Name text) function abi) = Unit {0}
IsThrough (imports.InterfaceFunc key id function abi) = Unit {0}
IsThrough (imports.ExportedTaskReturn key interface f) = Unit {0}
IsThrough imports.WaitableSetWait = Unit {0}
IsThrough imports.WaitableSetPoll = Unit {0}
IsThrough (imports.ErrorContextNew encoding) = Unit {0}
IsThrough (imports.ErrorContextDebugMessage encoding) = Unit {0}
IsThrough (imports.StreamRead p is_async) = Unit {0}
IsThrough (imports.StreamWrite p is_async) = Unit {0}
IsThrough (imports.FutureRead p is_async) = Unit {0}
IsThrough (imports.FutureWrite p is_async) = Unit {0}
IsThrough role = ⊥

-- a read or a write has one
access_through : (p : PayloadInfo) (kind : PayloadFuncKind) (is_async : Bool) → IsThrough (access_role p kind is_async)
access_through p ends.FutureRead is_async = tt
access_through p ends.FutureWrite is_async = tt
access_through p ends.StreamRead is_async = tt
access_through p ends.StreamWrite is_async = tt

-- a shim stands for these alone, as an import
shim_through : (w : ComponentWorld) (shim : Shim) (from : UserModule) (other : Import) → IsShimOf w shim from other → IsThrough other
shim_through w shim from other h = by shim.kind h.of_kind
  where
    by : (kind : ShimKind) → role_of_kind w kind ≡ Some (from, other) → IsThrough other
    by (shim_kinds.IndirectLowering None f which encoding) k =
        subst IsThrough (ap (λ (x : UserModule × Import). x.1) (same_Some (module_of which, imports.WorldFunc (keys.Name f.name) f.name f.abi) (from, other) k)) tt
    by (shim_kinds.IndirectLowering (Some key) f which encoding) k = among (interface_imported w key) k
      where
        among : (o : Option InterfaceId) → option_map {U = UserModule × Import} (λ id. (module_of which, imports.InterfaceFunc key id f.name f.abi)) o ≡ Some (from, other) → IsThrough other
        among None k = absurd (none-some (from, other) k)
        among (Some id) k = subst IsThrough (ap (λ (x : UserModule × Import). x.1) (same_Some (module_of which, imports.InterfaceFunc key id f.name f.abi) (from, other) k)) tt
    by (shim_kinds.TaskReturn interface name result which encoding) k = keyed (export_key w interface name) k
      where
        held : (key : WorldKey) (o : Option Function) → option_map {U = UserModule × Import} (λ f. (module_of which, imports.ExportedTaskReturn key interface f)) o ≡ Some (from, other) → IsThrough other
        held key None k = absurd (none-some (from, other) k)
        held key (Some f) k = subst IsThrough (ap (λ (x : UserModule × Import). x.1) (same_Some (module_of which, imports.ExportedTaskReturn key interface f) (from, other) k)) tt

        keyed : (o : Option WorldKey) → option_and_then (returning_at w (module_of which) interface name) o ≡ Some (from, other) → IsThrough other
        keyed None k = absurd (none-some (from, other) k)
        keyed (Some key) k = held key (function_exported w key name) k
    by shim_kinds.WaitableSetWait k = subst IsThrough (ap (λ (x : UserModule × Import). x.1) (same_Some (Main, imports.WaitableSetWait) (from, other) k)) tt
    by shim_kinds.WaitableSetPoll k = subst IsThrough (ap (λ (x : UserModule × Import). x.1) (same_Some (Main, imports.WaitableSetPoll) (from, other) k)) tt
    by (shim_kinds.ErrorContextNew encoding) k = subst IsThrough (ap (λ (x : UserModule × Import). x.1) (same_Some (Main, imports.ErrorContextNew encoding) (from, other) k)) tt
    by (shim_kinds.ErrorContextDebugMessage which encoding) k = subst IsThrough (ap (λ (x : UserModule × Import). x.1) (same_Some (module_of which, imports.ErrorContextDebugMessage encoding) (from, other) k)) tt
    by (shim_kinds.PayloadFunc which p kind is_async) k = subst IsThrough (ap (λ (x : UserModule × Import). x.1) (same_Some (module_of which, access_role p kind is_async) (from, other) k)) (access_through p kind is_async)
    by kind k = absurd (none-some (from, other) k)

-- a call is lowered, and a function with options is the built-in function
through_target : (P : Target → Type 0) → ((function : WorldFunction) (options : List TargetOption) → P (Lowered function options)) → ((name : Intrinsic) → may_have_shim name ≡ true → (operand : Operand) (options : List TargetOption) → P (BuiltIn name operand options)) →
    (w : ComponentWorld) (from : UserModule) (other : Import) → IsThrough other → P (link_of w from other)
through_target P of_lowered of_built_in w from (imports.WorldFunc (keys.Name text) function abi) h = of_lowered (OfRoot text) (lower_options w from (imports.WorldFunc (keys.Name text) function abi))
through_target P of_lowered of_built_in w from (imports.InterfaceFunc key id function abi) h = of_lowered (OfInterface id function) (lower_options w from (imports.InterfaceFunc key id function abi))
through_target P of_lowered of_built_in w from (imports.ExportedTaskReturn key interface f) h = of_built_in task_return refl (operand_if_any f.result) (lower_options w from (imports.ExportedTaskReturn key interface f))
through_target P of_lowered of_built_in w from imports.WaitableSetWait h = of_built_in set_wait refl NoType (lower_options w from imports.WaitableSetWait)
through_target P of_lowered of_built_in w from imports.WaitableSetPoll h = of_built_in set_poll refl NoType (lower_options w from imports.WaitableSetPoll)
through_target P of_lowered of_built_in w from (imports.ErrorContextNew encoding) h = of_built_in error_new refl NoType (lower_options w from (imports.ErrorContextNew encoding))
through_target P of_lowered of_built_in w from (imports.ErrorContextDebugMessage encoding) h = of_built_in error_message refl NoType (lower_options w from (imports.ErrorContextDebugMessage encoding))
through_target P of_lowered of_built_in w from (imports.StreamRead p is_async) h = of_built_in stream_read refl (payload_operand p.ty) (lower_options w from (imports.StreamRead p is_async))
through_target P of_lowered of_built_in w from (imports.StreamWrite p is_async) h = of_built_in stream_write refl (payload_operand p.ty) (lower_options w from (imports.StreamWrite p is_async))
through_target P of_lowered of_built_in w from (imports.FutureRead p is_async) h = of_built_in future_read refl (payload_operand p.ty) (lower_options w from (imports.FutureRead p is_async))
through_target P of_lowered of_built_in w from (imports.FutureWrite p is_async) h = of_built_in future_write refl (payload_operand p.ty) (lower_options w from (imports.FutureWrite p is_async))
through_target P of_lowered of_built_in w from other h = absurd h

-- and has no base
through_no_base : (role : Import) → IsThrough role → base_of_role role ≡ None
through_no_base (imports.WorldFunc (keys.Name text) function abi) h = refl
through_no_base (imports.InterfaceFunc key id function abi) h = refl
through_no_base (imports.ExportedTaskReturn key interface f) h = refl
through_no_base imports.WaitableSetWait h = refl
through_no_base imports.WaitableSetPoll h = refl
through_no_base (imports.ErrorContextNew encoding) h = refl
through_no_base (imports.ErrorContextDebugMessage encoding) h = refl
through_no_base (imports.StreamRead p is_async) h = refl
through_no_base (imports.StreamWrite p is_async) h = refl
through_no_base (imports.FutureRead p is_async) h = refl
through_no_base (imports.FutureWrite p is_async) h = refl
through_no_base role h = absurd h

-- so a shim stands for a lowering, for a built-in function, or for an export
pub of_purpose : (P : Target → Type 0) → ((function : WorldFunction) (options : List TargetOption) → P (Lowered function options)) → ((name : Intrinsic) → may_have_shim name ≡ true → (operand : Operand) (options : List TargetOption) → P (BuiltIn name operand options)) → ((e : ExportRef) → P (ExportOf e)) →
    (w : ComponentWorld) (shim : Shim) (p : Purpose) → HasPurpose w shim p → P (target_of w p)
of_purpose P of_lowered of_built_in of_export w shim (OfImport of role) stands = through_target P of_lowered of_built_in w of role (shim_through w shim of role stands)
of_purpose P of_lowered of_built_in of_export w shim (OfExport e) stands = of_export e

-- which needs no cell
pub needs_none : (w : ComponentWorld) (shim : Shim) (p : Purpose) → HasPurpose w shim p → NeedsCell w (target_of w p)
needs_none w shim p stands = of_purpose (NeedsCell w) (λ function options. tt) (λ name with_options operand options. tt) (λ e. tt) w shim p stands

-- ---- what serves a role

module _ (w : ComponentWorld) (ok : IsWorld w) (s : Store) (of : UserModule) where
  -- what serves a role is opaque, where it is none of a base, and has the core type that the role requires
  pub served_opaque : (address : ℕ) (role : Import) (type : FuncType) → IsImportRole w role → base_of_role role ≡ None → type_of_import w.resolve (items_of w) role ≡ Some (externs.Func type) →
      IsServedAs w s address (link_of w of role) → (item : CoreItem) × IsOpaqueOf s address type item
  served_opaque address (imports.WorldFunc (keys.Name text) function abi) type right none fits h =
      called_opaque w s address (OfRoot text) abi right.2 type (lower_realloc w of) (import_encoding w of (imports.WorldFunc (keys.Name text) function abi)) fits h
  served_opaque address (imports.InterfaceFunc key id function abi) type right none fits h =
      called_opaque w s address (OfInterface id function) abi right.2 type (lower_realloc w of) (import_encoding w of (imports.InterfaceFunc key id function abi)) fits h
  served_opaque address (imports.ImportedResourceDrop key interface id) type right none fits h = resource_opaque s address Drop (resource_of w id) type fits h
  served_opaque address (imports.ExportedResourceDrop key id) type right none fits h = resource_opaque s address Drop (resource_of w id) type fits h
  served_opaque address (imports.ExportedResourceRep key id) type right none fits h = resource_opaque s address Rep (resource_of w id) type fits h
  served_opaque address (imports.ExportedResourceNew key id) type right none fits h = resource_opaque s address New (resource_of w id) type fits h
  served_opaque address (imports.ExportedTaskReturn key interface f) type right none fits h = return_opaque w s address f (lower_options w of (imports.ExportedTaskReturn key interface f)) type fits h
  served_opaque address imports.WaitableSetWait type right none fits h = memory_opaque w s address set_wait (lower_options w of imports.WaitableSetWait) type fits h
  served_opaque address imports.WaitableSetPoll type right none fits h = memory_opaque w s address set_poll (lower_options w of imports.WaitableSetPoll) type fits h
  served_opaque address (imports.ErrorContextNew encoding) type right none fits h = memory_opaque w s address error_new (lower_options w of (imports.ErrorContextNew encoding)) type fits h
  served_opaque address (imports.ErrorContextDebugMessage encoding) type right none fits h = memory_opaque w s address error_message (lower_options w of (imports.ErrorContextDebugMessage encoding)) type fits h
  served_opaque address (imports.StreamRead p is_async) type right none fits h =
      payload_opaque w s address (imports.StreamRead p is_async) (record { intrinsic = stream_read; info = p }) refl type (lower_options w of (imports.StreamRead p is_async)) fits h
  served_opaque address (imports.StreamWrite p is_async) type right none fits h =
      payload_opaque w s address (imports.StreamWrite p is_async) (record { intrinsic = stream_write; info = p }) refl type (lower_options w of (imports.StreamWrite p is_async)) fits h
  served_opaque address (imports.FutureRead p is_async) type right none fits h =
      payload_opaque w s address (imports.FutureRead p is_async) (record { intrinsic = future_read; info = p }) refl type (lower_options w of (imports.FutureRead p is_async)) fits h
  served_opaque address (imports.FutureWrite p is_async) type right none fits h =
      payload_opaque w s address (imports.FutureWrite p is_async) (record { intrinsic = future_write; info = p }) refl type (lower_options w of (imports.FutureWrite p is_async)) fits h
  served_opaque address (imports.MainModuleMemory memory) type right none fits h = absurd h
  served_opaque address (imports.MainModuleExport name kind) type right none fits h = absurd (none-some (externs.Func type) fits)
  served_opaque address (imports.Item item) type right none fits h = absurd (none-some (externs.Func type) fits)
  served_opaque address (imports.AdapterExport adapter name function) type right none fits h =
      let e : ExportRef = record { of = Adapter adapter; name = name } in
      let from : WorldModule = h.of.world_module in
      let matching : matches (externs.Func type) (externs.Func h.type) ≡ true =
      offered_matches w ok of (imports.AdapterExport adapter name function) e right refl from (listed_there (user_modules w) h.number from h.of.listed) h.of.same (externs.Func h.type) h.offered (externs.Func type) fits in
      let typed : externs.Func type ≡ externs.Func h.type = matched_function (externs.Func type) h.type matching in
      (ExportedBy h.user name, subst (λ t. IsOpaqueOf s address t (ExportedBy h.user name)) (ap (function_type_in type) (sym typed)) h.is)
  served_opaque address (imports.WorldFunc (keys.Interface other) function abi) type right none fits h = absurd (true≢false (sym right))
  served_opaque address role type right none fits h = typed_opaque w s address role (named_call role) refl type none fits h

-- what serves a role matches an import that fits the role
module _ (w : ComponentWorld) (ok : IsWorld w) (s : Store) (globals : List ValType) (typed : AllByRecursion (HasGlobals w globals) s.module_instances) (of : UserModule) where
  opaque_typed : (address : ℕ) (type : FuncType) → (item : CoreItem) × IsOpaqueOf s address type item → IsFunctionTyped s address type
  opaque_typed address type o = record { function = Opaque o.1.what type; present = o.1.present; typed = refl }

  -- so does a function that reads the base, or sets it
  getter_typed : (address : ℕ) (t : ValType) (type : FuncType) (o : Option Intrinsic) → plain_intrinsic w.can_use_context_slot_1 (imports.TlsBaseGet t) ≡ o → IsImportRole w (imports.TlsBaseGet t) → IsAgreed w (imports.TlsBaseGet t) →
      option_map externs.Func (plain_import_type (imports.TlsBaseGet t)) ≡ Some (externs.Func type) → IsServedAs w s address (link_of_intrinsic (imports.TlsBaseGet t) o) → IsFunctionTyped s address type
  getter_typed address t type (Some i) given right agreed fits h =
      opaque_typed address type (intrinsic_opaque w s address i (plain_intrinsic true (imports.TlsBaseGet t)) type (usable_too w.can_use_context_slot_1 (imports.TlsBaseGet t) i given) fits h)
  getter_typed address t type None given right agreed fits h =
      let same : h.type ≡ t = same_Some h.type t (sym h.named ∙ cell_of_role w (imports.TlsBaseGet t) t refl right agreed given) in
      let typed : externs.Func (getter_type t) ≡ externs.Func type = same_Some (externs.Func (getter_type t)) (externs.Func type) (sym (ap (option_map externs.Func) (getter_fits t right)) ∙ fits) in
      record { function = Generated h.is.frame (getter_type h.type) (tls_get h.is.local).locals (tls_get h.is.local).instructions; present = h.is.has; typed = ap getter_type same ∙ ap (function_type_in type) typed }

  setter_typed : (address : ℕ) (t : ValType) (type : FuncType) (o : Option Intrinsic) → plain_intrinsic w.can_use_context_slot_1 (imports.TlsBaseSet t) ≡ o → IsImportRole w (imports.TlsBaseSet t) → IsAgreed w (imports.TlsBaseSet t) →
      option_map externs.Func (plain_import_type (imports.TlsBaseSet t)) ≡ Some (externs.Func type) → IsServedAs w s address (link_of_intrinsic (imports.TlsBaseSet t) o) → IsFunctionTyped s address type
  setter_typed address t type (Some i) given right agreed fits h =
      opaque_typed address type (intrinsic_opaque w s address i (plain_intrinsic true (imports.TlsBaseSet t)) type (usable_too w.can_use_context_slot_1 (imports.TlsBaseSet t) i given) fits h)
  setter_typed address t type None given right agreed fits h =
      let same : h.type ≡ t = same_Some h.type t (sym h.named ∙ cell_of_role w (imports.TlsBaseSet t) t refl right agreed given) in
      let typed : externs.Func (setter_type t) ≡ externs.Func type = same_Some (externs.Func (setter_type t)) (externs.Func type) (sym (ap (option_map externs.Func) (setter_fits t right)) ∙ fits) in
      record { function = Generated h.is.frame (setter_type h.type) (tls_set h.is.local).locals (tls_set h.is.local).instructions; present = h.is.has; typed = ap setter_type same ∙ ap (function_type_in type) typed }

  served_typed : (address : ℕ) (role : Import) (type : FuncType) → IsImportRole w role → IsAgreed w role → type_of_import w.resolve (items_of w) role ≡ Some (externs.Func type) → IsServedAs w s address (link_of w of role) → IsFunctionTyped s address type
  served_typed address role type right agreed fits h = by role right agreed fits h
    where
      other : (role : Import) → IsImportRole w role → base_of_role role ≡ None → type_of_import w.resolve (items_of w) role ≡ Some (externs.Func type) → IsServedAs w s address (link_of w of role) → IsFunctionTyped s address type
      other role right none fits h = opaque_typed address type (served_opaque w ok s of address role type right none fits h)

      by : (role : Import) → IsImportRole w role → IsAgreed w role → type_of_import w.resolve (items_of w) role ≡ Some (externs.Func type) → IsServedAs w s address (link_of w of role) → IsFunctionTyped s address type
      by (imports.TlsBaseGet t) right agreed fits h = getter_typed address t type (plain_intrinsic w.can_use_context_slot_1 (imports.TlsBaseGet t)) refl right agreed fits h
      by (imports.TlsBaseSet t) right agreed fits h = setter_typed address t type (plain_intrinsic w.can_use_context_slot_1 (imports.TlsBaseSet t)) refl right agreed fits h
      by role right agreed fits h = other role right refl fits h

  -- what has a core type of functions is a function
  function_typed : (space : Space) (address : ℕ) (role : Import) (type : FuncType) → IsImportRole w role → IsAgreed w role → type_of_import w.resolve (items_of w) role ≡ Some (externs.Func type) → (IsServedIn w s spaces.CoreTable address (link_of w of role) → ⊥) →
      (IsServedIn w s spaces.CoreMemory address (link_of w of role) → ⊥) → (IsServedIn w s spaces.CoreGlobal address (link_of w of role) → ⊥) → IsServedIn w s space address (link_of w of role) → HasType s globals space address (externs.Func type)
  function_typed spaces.CoreFunc address role type right agreed fits no_table no_memory no_global h = served_typed address role type right agreed fits h
  function_typed spaces.CoreTable address role type right agreed fits no_table no_memory no_global h = absurd (no_table h)
  function_typed spaces.CoreMemory address role type right agreed fits no_table no_memory no_global h = absurd (no_memory h)
  function_typed spaces.CoreGlobal address role type right agreed fits no_table no_memory no_global h = absurd (no_global h)
  function_typed space address role type right agreed fits no_table no_memory no_global h = absurd h

  pub role_typed : (space : Space) (address : ℕ) (role : Import) (type : ExternType) → IsImportRole w role → IsAgreed w role → FitsRole w role type → IsServedIn w s space address (link_of w of role) → HasType s globals space address type
  role_typed space address (imports.WorldFunc (keys.Name text) function abi) type right agreed fits h =
      let x : (f : Function) × (root_function_at (items_of w).imports (keys.Name text) ≡ Some f) × (called_type w.resolve abi f ≡ type) =
      mapped_some (called_type w.resolve abi) (root_function_at (items_of w).imports (keys.Name text)) type fits in
      let core : FuncType = core_type (signature abi w.resolve.types x.0) in
      subst (HasType s globals space address) x.2 (function_typed space address (imports.WorldFunc (keys.Name text) function abi) core right agreed (fits ∙ ap (λ (t : ExternType). Some t) (sym x.2)) (λ no. no) (λ no. no) (λ no. no) h)
  role_typed space address (imports.InterfaceFunc key id function abi) type right agreed fits h =
      let x : (f : Function) × (found function (functions_of w.resolve id) ≡ Some f) × (called_type w.resolve abi f ≡ type) =
      mapped_some (called_type w.resolve abi) (found function (functions_of w.resolve id)) type fits in
      let core : FuncType = core_type (signature abi w.resolve.types x.0) in
      subst (HasType s globals space address) x.2 (function_typed space address (imports.InterfaceFunc key id function abi) core right agreed (fits ∙ ap (λ (t : ExternType). Some t) (sym x.2)) (λ no. no) (λ no. no) (λ no. no) h)
  role_typed space address (imports.ImportedResourceDrop key interface id) type right agreed fits h =
      subst (HasType s globals space address) (same_Some drop_type type fits) (function_typed space address (imports.ImportedResourceDrop key interface id) (resource_core Drop) right agreed refl (λ no. no) (λ no. no) (λ no. no) h)
  role_typed space address (imports.ExportedResourceDrop key id) type right agreed fits h =
      subst (HasType s globals space address) (same_Some drop_type type fits) (function_typed space address (imports.ExportedResourceDrop key id) (resource_core Drop) right agreed refl (λ no. no) (λ no. no) (λ no. no) h)
  role_typed space address (imports.ExportedResourceRep key id) type right agreed fits h =
      subst (HasType s globals space address) (same_Some handle_type type fits) (function_typed space address (imports.ExportedResourceRep key id) (resource_core Rep) right agreed refl (λ no. no) (λ no. no) (λ no. no) h)
  role_typed space address (imports.ExportedResourceNew key id) type right agreed fits h =
      subst (HasType s globals space address) (same_Some handle_type type fits) (function_typed space address (imports.ExportedResourceNew key id) (resource_core New) right agreed refl (λ no. no) (λ no. no) (λ no. no) h)
  role_typed space address (imports.ExportedTaskReturn key interface f) type right agreed fits h =
      subst (HasType s globals space address) (same_Some (called_type w.resolve GuestImport (returning f)) type fits) (function_typed space address (imports.ExportedTaskReturn key interface f) (core_type (signature GuestImport w.resolve.types (returning f))) right agreed refl (λ no. no) (λ no. no) (λ no. no) h)
  role_typed space address imports.WaitableSetWait type right agreed fits h =
      subst (HasType s globals space address) (same_Some wait_type type fits) (function_typed space address imports.WaitableSetWait wait_core right agreed refl (λ no. no) (λ no. no) (λ no. no) h)
  role_typed space address imports.WaitableSetPoll type right agreed fits h =
      subst (HasType s globals space address) (same_Some wait_type type fits) (function_typed space address imports.WaitableSetPoll wait_core right agreed refl (λ no. no) (λ no. no) (λ no. no) h)
  role_typed space address (imports.ErrorContextNew encoding) type right agreed fits h =
      subst (HasType s globals space address) (same_Some wait_type type fits) (function_typed space address (imports.ErrorContextNew encoding) wait_core right agreed refl (λ no. no) (λ no. no) (λ no. no) h)
  role_typed space address (imports.ErrorContextDebugMessage encoding) type right agreed fits h =
      subst (HasType s globals space address) (same_Some message_type type fits) (function_typed space address (imports.ErrorContextDebugMessage encoding) message_core right agreed refl (λ no. no) (λ no. no) (λ no. no) h)
  role_typed space address (imports.MainModuleMemory memory) type right agreed fits h =
      subst (HasType s globals space address) (same_Some (externs.Memory memory) type fits) (main_memory_typed w ok s globals typed space address memory right h)
  role_typed space address (imports.MainModuleExport name kind) type right agreed fits h =
      let e : ExportRef = record { of = Main; name = name } in
      export_typed w ok s globals typed space address e type (λ m listed same t offered. offered_matches w ok of (imports.MainModuleExport name kind) e right refl m listed same t offered type fits) h
  role_typed space address (imports.Item item) type right agreed fits h =
      let e : ExportRef = record { of = module_of item.which; name = item.name } in
      export_typed w ok s globals typed space address e type (λ m listed same t offered. offered_matches w ok of (imports.Item item) e right refl m listed same t offered type fits) h
  role_typed space address (imports.AdapterExport adapter name function) type right agreed fits h =
      let e : ExportRef = record { of = Adapter adapter; name = name } in
      export_typed w ok s globals typed space address e type (λ m listed same t offered. offered_matches w ok of (imports.AdapterExport adapter name function) e right refl m listed same t offered type fits) h
  role_typed space address (imports.WorldFunc (keys.Interface other) function abi) type right agreed fits h = absurd (true≢false (sym right))
  role_typed space address role type right agreed fits h =
      let core : (t : FuncType) × (externs.Func t ≡ type) = built_in_core role (named_call role) type fits in
      subst (HasType s globals space address) core.1
      (function_typed space address role core.0 right agreed (fits ∙ ap (λ (t : ExternType). Some t) (sym core.1)) (typed_no_table w s address role (named_call role)) (typed_no_memory w s address role (named_call role)) (typed_no_global w s address role (named_call role)) h)

-- what a shim hands on to is opaque, and has the shim's core type
pub purpose_opaque : (w : ComponentWorld) → IsWorld w → (s : Store) (address : ℕ) (shim : Shim) (p : Purpose) → HasPurpose w shim p → IsServedAs w s address (target_of w p) → (item : CoreItem) × IsOpaqueOf s address (type_of_shim shim) item
purpose_opaque w ok s address shim (OfImport of role) stands h = served_opaque w ok s of address role (type_of_shim shim) stands.right (through_no_base role (shim_through w shim of role stands)) stands.typed h
purpose_opaque w ok s address shim (OfExport e) stands h =
    let exporting : h.of.world_module ≡ stands.exporting = one_module w ok h.number h.of.world_module stands.exporting h.of.listed stands.listed (h.of.same ∙ sym stands.same) in
    let offered : found e.name stands.exporting.found.offered ≡ Some (externs.Func h.type) = subst (λ (o : WorldModule). found e.name o.found.offered ≡ Some (externs.Func h.type)) exporting h.offered in
    let typed : externs.Func h.type ≡ externs.Func (type_of_shim shim) = same_Some (externs.Func h.type) (externs.Func (type_of_shim shim)) (sym offered ∙ stands.typed) in
    (ExportedBy h.user e.name, subst (λ t. IsOpaqueOf s address t (ExportedBy h.user e.name)) (ap (function_type_in (type_of_shim shim)) typed) h.is)

-- no kind is that of an import and of an export
one_kind : (w : ComponentWorld) (kind : ShimKind) (x : UserModule × Import) (e : ExportRef) → role_of_kind w kind ≡ Some x → export_of_kind kind ≡ Some e → ⊥
one_kind w (shim_kinds.Adapter adapter name) x e h k = none-some x h
one_kind w (shim_kinds.ResourceDtor which name) x e h k = none-some x h
one_kind w (shim_kinds.Realloc which name) x e h k = none-some x h
one_kind w _ x e h k = none-some e k

-- a shim stands for one thing
pub one_purpose : (w : ComponentWorld) (shim : Shim) (p q : Purpose) → HasPurpose w shim p → HasPurpose w shim q → p ≡ q
one_purpose w shim (OfImport of role) (OfImport from other) h k = ap (λ (x : UserModule × Import). OfImport x.0 x.1) (same_Some (of, role) (from, other) (sym h.of_kind ∙ k.of_kind))
one_purpose w shim (OfImport of role) (OfExport e) h k = absurd (one_kind w shim.kind (of, role) e h.of_kind k.of_kind)
one_purpose w shim (OfExport e) (OfImport of role) h k = absurd (one_kind w shim.kind (of, role) e k.of_kind h.of_kind)
one_purpose w shim (OfExport e) (OfExport other) h k = ap OfExport (same_Some e other (sym h.of_kind ∙ k.of_kind))

-- ---- shims for what imports are given

-- what is given the same as a call is called too, and what is given the same as a built-in function with options is one
lowered_through : (w : ComponentWorld) (of : UserModule) (role : Import) → IsImportRole w role → (function : WorldFunction) (options : List TargetOption) → link_of w of role ≡ Lowered function options → IsThrough role
lowered_through w of (imports.WorldFunc (keys.Name text) function abi) right f options is = tt
lowered_through w of (imports.InterfaceFunc key id function abi) right f options is = tt
lowered_through w of (imports.ExportedTaskReturn key interface g) right f options is = tt
lowered_through w of imports.WaitableSetWait right f options is = tt
lowered_through w of imports.WaitableSetPoll right f options is = tt
lowered_through w of (imports.ErrorContextNew encoding) right f options is = tt
lowered_through w of (imports.ErrorContextDebugMessage encoding) right f options is = tt
lowered_through w of (imports.StreamRead p is_async) right f options is = tt
lowered_through w of (imports.StreamWrite p is_async) right f options is = tt
lowered_through w of (imports.FutureRead p is_async) right f options is = tt
lowered_through w of (imports.FutureWrite p is_async) right f options is = tt
lowered_through w of (imports.ImportedResourceDrop key interface id) right f options is = cc
lowered_through w of (imports.ExportedResourceDrop key id) right f options is = cc
lowered_through w of (imports.ExportedResourceRep key id) right f options is = cc
lowered_through w of (imports.ExportedResourceNew key id) right f options is = cc
lowered_through w of (imports.MainModuleMemory memory) right f options is = cc
lowered_through w of (imports.MainModuleExport name kind) right f options is = cc
lowered_through w of (imports.AdapterExport adapter name function) right f options is = cc
lowered_through w of (imports.Item item) right f options is = cc
lowered_through w of role right f options is = absurd (typed_not_lowered w role (named_call role) f options is)

-- no built-in function without operands has options
abbrev name_in : Target → Intrinsic
name_in (BuiltIn name operand options) = name
name_in target = intrinsics.TaskCancel

not_optional : (w : ComponentWorld) (role : Import) (o : Option Intrinsic) → plain_intrinsic w.can_use_context_slot_1 role ≡ o → (name : Intrinsic) → may_have_shim name ≡ true → (operand : Operand) (options : List TargetOption) → link_of_intrinsic role o ≡ BuiltIn name operand options → ⊥
not_optional w (imports.TlsBaseGet type) None e name with_options operand options is = cc
not_optional w (imports.TlsBaseSet type) None e name with_options operand options is = cc
not_optional w role None e name with_options operand options is = cc
not_optional w role (Some i) e name with_options operand options is =
    let typed : IsSome (plain_type i) = ap is_some (ap (option_and_then plain_type) (sym (usable_too w.can_use_context_slot_1 role i e))) ∙ plain_typed w.can_use_context_slot_1 role (ap is_some e) in
    true≢false (sym (ap (λ (t : Target). may_have_shim (name_in t)) is ∙ with_options) ∙ plain_has_none i typed)

-- nor has one of a stream or a future that neither reads nor writes
typed_not_optional : (w : ComponentWorld) (role : Import) → is_access role ≡ false → (o : Option PayloadCall) → named_call role ≡ o → (name : Intrinsic) → may_have_shim name ≡ true → (operand : Operand) (options : List TargetOption) → link_of_payload w role o ≡ BuiltIn name operand options → ⊥
typed_not_optional w role apart (Some c) e name with_options operand options is = true≢false (sym (ap (λ (t : Target). may_have_shim (name_in t)) is ∙ with_options) ∙ payload_has_none role c apart e)
typed_not_optional w role apart None e name with_options operand options is = not_optional w role (plain_intrinsic w.can_use_context_slot_1 role) refl name with_options operand options is

built_in_through : (w : ComponentWorld) (of : UserModule) (role : Import) → IsImportRole w role → (name : Intrinsic) → may_have_shim name ≡ true → (operand : Operand) (options : List TargetOption) → link_of w of role ≡ BuiltIn name operand options → IsThrough role
built_in_through w of (imports.WorldFunc (keys.Name text) function abi) right name with_options operand options is = tt
built_in_through w of (imports.InterfaceFunc key id function abi) right name with_options operand options is = tt
built_in_through w of (imports.ExportedTaskReturn key interface g) right name with_options operand options is = tt
built_in_through w of imports.WaitableSetWait right name with_options operand options is = tt
built_in_through w of imports.WaitableSetPoll right name with_options operand options is = tt
built_in_through w of (imports.ErrorContextNew encoding) right name with_options operand options is = tt
built_in_through w of (imports.ErrorContextDebugMessage encoding) right name with_options operand options is = tt
built_in_through w of (imports.StreamRead p is_async) right name with_options operand options is = tt
built_in_through w of (imports.StreamWrite p is_async) right name with_options operand options is = tt
built_in_through w of (imports.FutureRead p is_async) right name with_options operand options is = tt
built_in_through w of (imports.FutureWrite p is_async) right name with_options operand options is = tt
built_in_through w of (imports.ImportedResourceDrop key interface id) right name with_options operand options is = cc
built_in_through w of (imports.ExportedResourceDrop key id) right name with_options operand options is = cc
built_in_through w of (imports.ExportedResourceRep key id) right name with_options operand options is = cc
built_in_through w of (imports.ExportedResourceNew key id) right name with_options operand options is = cc
built_in_through w of (imports.MainModuleMemory memory) right name with_options operand options is = cc
built_in_through w of (imports.MainModuleExport field kind) right name with_options operand options is = cc
built_in_through w of (imports.AdapterExport adapter field function) right name with_options operand options is = cc
built_in_through w of (imports.Item item) right name with_options operand options is = cc
built_in_through w of role right name with_options operand options is = absurd (typed_not_optional w role refl (named_call role) refl name with_options operand options is)

-- the core type of what a target names
abbrev type_of_target : ComponentWorld → Target → Option ExternType
type_of_target w (Lowered function options) = option_map (called_type w.resolve (form_asked options)) (function_imported w function)
type_of_target w (BuiltIn name operand options) = Some (externs.Func (intrinsic_signature name (operand_tree (resource_of w) w.resolve.types operand)))
type_of_target w target = None

through_typed : (w : ComponentWorld) (of : UserModule) (role : Import) → IsImportRole w role → IsThrough role → type_of_import w.resolve (items_of w) role ≡ type_of_target w (link_of w of role)
through_typed w of (imports.WorldFunc (keys.Name text) function abi) right h =
    own_type w abi right.2 (function_imported w (OfRoot text)) (lower_realloc w of) (import_encoding w of (imports.WorldFunc (keys.Name text) function abi))
through_typed w of (imports.InterfaceFunc key id function abi) right h =
    own_type w abi right.2 (function_imported w (OfInterface id function)) (lower_realloc w of) (import_encoding w of (imports.InterfaceFunc key id function abi))
through_typed w of (imports.ExportedTaskReturn key interface f) right h = ap Some (sym (returned_type w f))
through_typed w of imports.WaitableSetWait right h = refl
through_typed w of imports.WaitableSetPoll right h = refl
through_typed w of (imports.ErrorContextNew encoding) right h = refl
through_typed w of (imports.ErrorContextDebugMessage encoding) right h = refl
through_typed w of (imports.StreamRead p is_async) right h = refl
through_typed w of (imports.StreamWrite p is_async) right h = refl
through_typed w of (imports.FutureRead p is_async) right h = refl
through_typed w of (imports.FutureWrite p is_async) right h = refl
through_typed w of role right h = absurd h

through_fits : (w : ComponentWorld) (role : Import) → IsThrough role → (type : ExternType) → FitsRole w role type → type_of_import w.resolve (items_of w) role ≡ Some type
through_fits w (imports.WorldFunc (keys.Name text) function abi) h type fits = fits
through_fits w (imports.InterfaceFunc key id function abi) h type fits = fits
through_fits w (imports.ExportedTaskReturn key interface f) h type fits = fits
through_fits w imports.WaitableSetWait h type fits = fits
through_fits w imports.WaitableSetPoll h type fits = fits
through_fits w (imports.ErrorContextNew encoding) h type fits = fits
through_fits w (imports.ErrorContextDebugMessage encoding) h type fits = fits
through_fits w (imports.StreamRead p is_async) h type fits = fits
through_fits w (imports.StreamWrite p is_async) h type fits = fits
through_fits w (imports.FutureRead p is_async) h type fits = fits
through_fits w (imports.FutureWrite p is_async) h type fits = fits
through_fits w role h type fits = absurd h

-- a shim for what an import of a role is to be given has the core type of each import that fits the role
shim_fits : (w : ComponentWorld) → IsWorld w → (shim : Shim) (p : Purpose) → HasPurpose w shim p → (of : UserModule) (role : Import) → IsImportRole w role → target_of w p ≡ link_of w of role → (type : ExternType) → FitsRole w role type →
    type ≡ externs.Func (type_of_shim shim)
shim_fits w ok shim (OfImport from other) stands of role right same type fits =
    let through : IsThrough other = shim_through w shim from other stands in
    let given : IsThrough role = through_target (λ t. link_of w of role ≡ t → IsThrough role) (lowered_through w of role right) (built_in_through w of role right) w from other through (sym same) in
    let shim_type : type_of_target w (link_of w from other) ≡ Some (externs.Func (type_of_shim shim)) = sym (through_typed w from other stands.right through) ∙ stands.typed in
    let own_type : type_of_target w (link_of w of role) ≡ Some type = sym (through_typed w of role right given) ∙ through_fits w role given type fits in
    same_Some type (externs.Func (type_of_shim shim)) (sym own_type ∙ (ap (type_of_target w) (sym same) ∙ shim_type))
shim_fits w ok shim (OfExport e) stands of role right same type fits =
    matched_function type (type_of_shim shim) (offered_matches w ok of role e right (sym same) stands.exporting stands.listed stands.same (externs.Func (type_of_shim shim)) stands.typed type fits)

-- ---- what an import is given

-- The item is what an import of this role, of this user module, is to be given, or a shim for that;
-- and it matches each import that fits the role.
pub record IsRoleServed (w : ComponentWorld) (shims : Option ShimsAt) (s : Store) (globals : List ValType) (of : UserModule) (space : Space) (address : ℕ) (role : Import) : Type 0 where
  pub serves : Serves w shims s space address (link_of w of role)
  pub direct : has_shim w role ≡ false → IsServedIn w s space address (link_of w of role)
  pub typed : (type : ExternType) → FitsRole w role type → HasType s globals space address type

-- the item of the export is so for this field of a user module's imports
pub record IsFieldExport (w : ComponentWorld) (shims : Option ShimsAt) (s : Store) (globals : List ValType) (of : UserModule) (e : Export) (field : List ℕ × Import) : Type 0 where
  pub named : e.name ≡ field.0
  pub is : IsRoleServed w shims s globals of e.space e.address field.1

-- these are all exports of an instance of this user module
pub record AreAllOf (w : ComponentWorld) (s : Store) (es : List Export) (which : MainOrAdapter) : Type 0 where
  pub number : ℕ
  pub of : IsModule w number (module_of which)
  pub user : ℕ
  pub instance : IsInstance s user number
  pub same : instance.instance.exports ≡ es
  pub each : AllZip (IsUserExport s user) es of.world_module.found.offered

-- exports satisfy the imports of a user module from one other: there is one for each field, or they
-- are all of an instance
abbrev pub SatisfyImports : ComponentWorld → Option ShimsAt → Store → List ValType → UserModule → List Export → ImportInstance → Type 0
SatisfyImports w shims s globals of es (instances.Names fields) = AllZip (IsFieldExport w shims s globals of) es fields
SatisfyImports w shims s globals of es (instances.Whole which) = AreAllOf w s es which

-- the argument has such exports for the imports from this module, as planned
pub record IsOffered (w : ComponentWorld) (shims : Option ShimsAt) (s : Store) (globals : List ValType) (of : UserModule) (a : List ℕ × List Export) (group : List ℕ × ImportInstance) : Type 0 where
  pub named : a.0 ≡ group.0
  pub satisfy : SatisfyImports w shims s globals of a.1 group.1

-- an import's own shim stands for what it is to be given, and the import is one that has a shim
own_is_shim : (w : ComponentWorld) (of : UserModule) (ds : List Def) (space : Space) (index : ℕ) (role : Import) → IsOwnShim w of ds space index role → IsShimFor w ds space index (link_of w of role) × IsTrue (has_shim w role)
own_is_shim w of ds space index (imports.AdapterExport adapter name type) h = (h.shim, refl)
own_is_shim w of ds space index role h = (h.shim, h.shimmed)

-- what a user module is given
module _ {w : ComponentWorld} {earlier : List Def} {c : Scope} {s : Store} {globals : List ValType} (a : Agrees w earlier c s globals) (ok : IsWorld w) (of : UserModule) where
  item_served : (kind : ExportKind) (index : ℕ) (role : Import) → IsImportRole w role → IsAgreed w role → IsItemFor w earlier (kind_space kind) index (link_of w of role) →
      (x : ℕ) × (address_at (kind_space kind) index c.items ≡ Some x) × IsRoleServed w a.shims s globals of (kind_space kind) x role
  item_served kind index role right agreed h =
      let x = item_there a kind index (link_of w of role) (cell_needed w of role right agreed) h in
      (x.0, x.1, record { serves = inl x.2; direct = λ none. x.2; typed = λ type fits. role_typed w ok s globals a.with_globals of (kind_space kind) x.0 role type right agreed fits x.2 })

  shim_served : (index : ℕ) (role : Import) → IsImportRole w role → IsTrue (has_shim w role) → IsShimFor w earlier spaces.CoreFunc index (link_of w of role) →
      (x : ℕ) × (address_at spaces.CoreFunc index c.items ≡ Some x) × IsRoleServed w a.shims s globals of spaces.CoreFunc x role
  shim_served index role right shimmed h =
      let x : (x : ℕ) × (address_at spaces.CoreFunc index c.items ≡ Some x) × IsShimGiven w a.shims x (link_of w of role) = shim_there a h in
      let y : (x : ℕ) × (address_at spaces.CoreFunc index c.items ≡ Some x) × IsFunctionTyped s x (type_of_shim h.stands.shim) = shim_typed a h.place h.stands.shim h.stands.listed h.is in
      let same : y.0 ≡ x.0 = same_Some y.0 x.0 (sym y.1 ∙ x.1) in
      let typed : IsFunctionTyped s x.0 (type_of_shim h.stands.shim) = subst (λ n. IsFunctionTyped s n (type_of_shim h.stands.shim)) same y.2 in (
        x.0,
        x.1,
        record {
          serves = inr (refl, x.2);
          direct = λ none. absurd (true≢false (sym shimmed ∙ none));
          typed = λ type fits. subst (HasType s globals spaces.CoreFunc x.0) (sym (shim_fits w ok h.stands.shim h.stands.purpose h.stands.stands_for of role right h.stands.same type fits)) typed;
        },
      )

  -- what is given for an import is the item that the link table names, or a shim
  role_there : (kind : ExportKind) (index : ℕ) (role : Import) → IsImportRole w role → IsAgreed w role → IsGivenFor w of earlier (kind_space kind) index role →
      (x : ℕ) × (address_at (kind_space kind) index c.items ≡ Some x) × IsRoleServed w a.shims s globals of (kind_space kind) x role
  role_there kind index role right agreed (inl h) = item_served kind index role right agreed h
  role_there kind index role right agreed (inr h) =
      let own : IsShimFor w earlier (kind_space kind) index (link_of w of role) × IsTrue (has_shim w role) = own_is_shim w of earlier (kind_space kind) index role h in
      let function : kind_space kind ≡ spaces.CoreFunc = own.0.in_space in
      let shim : IsShimFor w earlier spaces.CoreFunc index (link_of w of role) = subst (λ space. IsShimFor w earlier space index (link_of w of role)) function own.0 in
      subst (λ space. (x : ℕ) × (address_at space index c.items ≡ Some x) × IsRoleServed w a.shims s globals of space x role) (sym function) (shim_served index role right own.1 shim)

  -- the entries of an inline instance, as they were put into the store
  fields_there : (es : List CoreInlineExport) (xs : List Export) (fs : List (List ℕ × Import)) → AllByRecursion (λ f. IsImportRole w f.1) fs → AllByRecursion (λ f. IsAgreed w f.1) fs → AllZip (IsEntryFor w of earlier) es fs → AllZip (IsNamedEntry c.items) es xs →
      AllZip (IsFieldExport w a.shims s globals of) xs fs
  fields_there [] [] [] r agreed h n = tt
  fields_there (e ∷ es) (x ∷ xs) (f ∷ fs) r agreed h n =
      let i : (y : ℕ) × (address_at (kind_space e.kind) e.index c.items ≡ Some y) × IsRoleServed w a.shims s globals of (kind_space e.kind) y f.1 = role_there e.kind e.index f.1 r.0 agreed.0 h.0.serves in
      let same : i.0 ≡ x.address = same_Some i.0 x.address (sym i.1 ∙ n.0.at) in
      let served : IsRoleServed w a.shims s globals of (kind_space e.kind) x.address f.1 = subst (λ y. IsRoleServed w a.shims s globals of (kind_space e.kind) y f.1) same i.2 in
      (record { named = n.0.named ∙ h.0.named; is = subst (λ space. IsRoleServed w a.shims s globals of space x.address f.1) (sym n.0.space) served }, fields_there es xs fs r.1 agreed.1 h.1 n.1)
  fields_there [] (x ∷ xs) fs r agreed h n = absurd n
  fields_there (e ∷ es) [] fs r agreed h n = absurd n
  fields_there [] [] (f ∷ fs) r agreed h n = absurd h
  fields_there (e ∷ es) (x ∷ xs) [] r agreed h n = absurd h

  module _ (m : Machine) (items : m.scope.items ≡ c.items) (instances_same : m.store.core_instances ≡ s.core_instances) where
    abbrev pub OffersFor : CoreArgument → List ℕ × ImportInstance → Type 0
    OffersFor x g = (y : List ℕ × List Export) × (core_argument m x ≡ Some y) × IsOffered w a.shims s globals of y g

    argument_there : (x : CoreArgument) (g : List ℕ × ImportInstance) → IsImportGroup w g → IsAgreedGroup w g → IsArgumentFor w of earlier x g → OffersFor x g
    argument_there x (name, instances.Names fields) right agreed h =
        let b : (y : ℕ) × (address_at spaces.CoreInstance x.instance c.items ≡ Some y) × IsInlineInstance c.items s h.serves.entries y = thing_there a h.serves.made in
        ((x.name, b.2.exports), rw (items, b.1, instances_same, b.2.present) refl, record { named = h.named; satisfy = fields_there h.serves.entries b.2.exports fields right.1 agreed h.serves.each b.2.each })
    argument_there x (name, instances.Whole which) right agreed h =
        let listed = h.serves.of.listed in
        let u : (y : ℕ) × (address_at spaces.CoreInstance x.instance c.items ≡ Some y) × IsUserInstance s h.serves.number h.serves.of.world_module y = user_there a h.serves.of.world_module listed h.serves.is in (
          (x.name, u.2.exports),
          rw (items, u.1, instances_same, u.2.present) refl,
          record { named = h.named; satisfy = record { number = h.serves.number; of = h.serves.of; user = u.2.user; instance = u.2.is; same = u.2.same; each = u.2.each } },
        )

    abbrev IsArgument : CoreArgument → List ℕ × ImportInstance → Type 0
    IsArgument x g = IsImportGroup w g × IsAgreedGroup w g × IsArgumentFor w of earlier x g

    with_groups : (xs : List CoreArgument) (gs : List (List ℕ × ImportInstance)) → AllByRecursion (IsImportGroup w) gs → AllByRecursion (IsAgreedGroup w) gs → AllZip (IsArgumentFor w of earlier) xs gs → AllZip IsArgument xs gs
    with_groups [] [] r agreed h = tt
    with_groups (x ∷ xs) (g ∷ gs) r agreed h = ((r.0, agreed.0, h.0), with_groups xs gs r.1 agreed.1 h.1)
    with_groups [] (g ∷ gs) r agreed h = absurd h
    with_groups (x ∷ xs) [] r agreed h = absurd h

    -- the arguments of the module's instantiation
    pub arguments_there : (xs : List CoreArgument) (gs : List (List ℕ × ImportInstance)) → AllByRecursion (IsImportGroup w) gs → AllByRecursion (IsAgreedGroup w) gs → AllZip (IsArgumentFor w of earlier) xs gs →
        (ys : List (List ℕ × List Export)) × (all_some (map (core_argument m) xs) ≡ Some ys) × AllZip (IsOffered w a.shims s globals of) ys gs
    arguments_there xs gs r agreed h = all_some-zip (IsOffered w a.shims s globals of) (core_argument m) IsArgument (λ x g k. argument_there x g k.0 k.1 k.2) xs gs (with_groups xs gs r agreed h)

-- ---- what the imports of a user module find

-- an import that has a role is to be given what the link table says of the role
linked_in : (w : ComponentWorld) (of : UserModule) (instance : ImportInstance) (field : List ℕ) (role : Import) → found field (fields_of instance) ≡ Some role → link_in w of field instance ≡ Some (link_of w of role)
linked_in w of (instances.Names fields) field role e = ap (option_map (link_of w of)) e
linked_in w of (instances.Whole which) field role e = absurd (none-some role e)

-- whether it has a shim, its role says too
shimmed_in : (w : ComponentWorld) (instance : ImportInstance) (field : List ℕ) (role : Import) → found field (fields_of instance) ≡ Some role → has_shim_in w field instance ≡ has_shim w role
shimmed_in w (instances.Names fields) field role e = ap (λ o. option_map_or (has_shim w) o false) e
shimmed_in w (instances.Whole which) field role e = absurd (none-some role e)

-- an item of an instance of a user module is what the link table names
served_of : (w : ComponentWorld) (s : Store) (es : List Export) (which : MainOrAdapter) (all : AreAllOf w s es which) (name : List ℕ) (e : Export) (type : ExternType) → export_named name es ≡ Some e → e.name ≡ name → found name all.of.world_module.found.offered ≡ Some type →
    e.space ≡ type_space type → IsUserItem s all.user e type → IsServedIn w s e.space e.address (ExportOf (record { of = module_of which; name = name }))
served_of w s es which all name e type there named offered space item = by type space item offered
  where
    ref : ExportRef
    ref = record { of = module_of which; name = name }

    exported : (space : Space) → e.space ≡ space → export_named name all.instance.instance.exports ≡ Some (record { space = space; name = name; address = e.address })
    exported space same = ap (export_named name) all.same ∙ (there ∙ ap (λ (x : Export). Some x) (by_parts e space name same named))

    other : (type : ExternType) → found name all.of.world_module.found.offered ≡ Some type → e.space ≡ type_space type → IsItemTyped s e.address type → IsItemExported w s (type_space type) e.address ref
    other type offered same item =
        record { number = all.number; of = all.of; user = all.user; instance = all.instance; exported = exported (type_space type) same; type = type; in_space = refl; is = item; offered = offered }

    by : (type : ExternType) → e.space ≡ type_space type → IsUserItem s all.user e type → found name all.of.world_module.found.offered ≡ Some type → IsServedIn w s e.space e.address (ExportOf ref)
    by (externs.Func t) same item offered =
        subst (λ space. IsServedIn w s space e.address (ExportOf ref)) (sym same)
        (record { number = all.number; of = all.of; user = all.user; instance = all.instance; type = t; is = subst (λ n. IsOpaqueOf s e.address t (ExportedBy all.user n)) named item; offered = offered })
    by (externs.Table t) same item offered = subst (λ space. IsServedIn w s space e.address (ExportOf ref)) (sym same) (other (externs.Table t) offered same item)
    by (externs.Memory t) same item offered = subst (λ space. IsServedIn w s space e.address (ExportOf ref)) (sym same) (other (externs.Memory t) offered same item)
    by (externs.Global t) same item offered = subst (λ space. IsServedIn w s space e.address (ExportOf ref)) (sym same) (other (externs.Global t) offered same item)

module _ (w : ComponentWorld) (ok : IsWorld w) (shims : Option ShimsAt) (of : WorldModule) (m : Machine) (globals : List ValType) (typed : AllByRecursion (HasGlobals w globals) m.store.module_instances) (types : AreTypesOf globals m.now) where
  -- an export serves the role of a field; the exports of an argument satisfy a module's imports
  abbrev IsFor : Export → Import → Type 0
  IsFor e role = IsRoleServed w shims m.store globals of.of e.space e.address role

  abbrev AreFor : List Export → ImportInstance → Type 0
  AreFor es instance = SatisfyImports w shims m.store globals of.of es instance

  fields_named : (es : List Export) (fs : List (List ℕ × Import)) → AllZip (IsFieldExport w shims m.store globals of.of) es fs →
      AllZip (λ (x : List ℕ × Export) (z : List ℕ × Import). (x.0 ≡ z.0) × IsFor x.1 z.1) (map (λ (e : Export). (e.name, e)) es) fs
  fields_named [] [] h = tt
  fields_named (e ∷ es) (f ∷ fs) h = ((h.0.named, h.0.is), fields_named es fs h.1)
  fields_named [] (f ∷ fs) h = absurd h
  fields_named (e ∷ es) [] h = absurd h

  groups_named : (arguments : List (List ℕ × List Export)) (gs : List (List ℕ × ImportInstance)) → AllZip (IsOffered w shims m.store globals of.of) arguments gs →
      AllZip (λ (x : List ℕ × List Export) (z : List ℕ × ImportInstance). (x.0 ≡ z.0) × AreFor x.1 z.1) arguments gs
  groups_named arguments gs h = AllZip-weaker (λ a g o. (o.named, o.satisfy)) arguments gs h

  -- the exports of an argument have one that serves a role
  field_found : (es : List Export) (instance : ImportInstance) (field : List ℕ) (role : Import) → AreFor es instance → found field (fields_of instance) ≡ Some role → (e : Export) × (export_named field es ≡ Some e) × IsFor e role
  field_found es (instances.Names fields) field role h there = found-zip IsFor field (map (λ (e : Export). (e.name, e)) es) fields role (fields_named es fields h) there
  field_found es (instances.Whole which) field role h there = absurd (none-some role there)

  abbrev GivenThere : List (List ℕ × List Export) → ImportType → Type 0
  GivenThere arguments i = (t : Thing) × (given_to m arguments i ≡ Some t) × IsPlanned w shims m.store of t i

  -- an import that has a role finds what was planned for it
  role_given : (arguments : List (List ℕ × List Export)) → AllZip (IsOffered w shims m.store globals of.of) arguments of.found.imports.modules → (i : ImportType) → HasRole w of.found i → GivenThere arguments i
  role_given arguments h i p =
      let roles : List (List ℕ × ImportInstance) = of.found.imports.modules in
      let g = bound_some (λ (o : ImportInstance). found i.field (fields_of o)) (found i.module_name roles) p.role p.has_role in
      let a = found-zip AreFor i.module_name arguments roles g.0 (groups_named arguments roles h) g.1 in
      let e = field_found a.0 g.0 i.field p.role a.2 g.2 in
      let x : Export = e.0 in
      let t : Thing = record { space = x.space; address = x.address } in
      let said : link_at w of i.module_name i.field ≡ Some (link_of w of.of p.role) = ap (option_and_then (link_in w of.of i.field)) g.1 ∙ linked_in w of.of g.0 i.field p.role g.2 in
      let shimmed : has_shim_at w of i.module_name i.field ≡ has_shim w p.role = ap (λ o. option_map_or (has_shim_in w i.field) o false) g.1 ∙ shimmed_in w g.0 i.field p.role g.2 in
      (t, rw (a.1, e.1) (finds_given m globals types x i.ty (e.2.typed i.ty p.fits)), record { target = link_of w of.of p.role; said = said; serves = e.2.serves; direct = λ none. e.2.direct (sym shimmed ∙ none) })

  -- so does one for which a whole instance is given
  whole_given : (arguments : List (List ℕ × List Export)) → AllZip (IsOffered w shims m.store globals of.of) arguments of.found.imports.modules → (i : ImportType) → FitsInstance w of.found i → GivenThere arguments i
  whole_given arguments h i p =
      let roles : List (List ℕ × ImportInstance) = of.found.imports.modules in
      let a = found-zip AreFor i.module_name arguments roles (instances.Whole p.which) (groups_named arguments roles h) p.whole in
      let all : AreAllOf w m.store a.0 p.which = a.2 in
      let from : WorldModule = all.of.world_module in
      let listed : Contains (user_modules w) from = listed_there (user_modules w) all.number from all.of.listed in
      let at : from.found ≡ p.offered.of = named_found w ok from listed p.which all.of.same p.offered.of p.offered.named in
      let type : ExternType = p.offered.matches.type in
      let offered : found i.field from.found.offered ≡ Some type = ap (λ (o : ValidatedModule). found i.field o.offered) at ∙ p.offered.matches.offered in
      let e = found-zip (IsOfType m.store all.user) i.field (map (λ (y : Export). (y.name, y)) a.0) from.found.offered type (exports_named m.store all.user a.0 from.found.offered all.each) offered in
      let x : Export = e.0 in
      let t : Thing = record { space = x.space; address = x.address } in
      let ref : ExportRef = record { of = module_of p.which; name = i.field } in
      let served : IsServedIn w m.store x.space x.address (ExportOf ref) = served_of w m.store a.0 p.which all i.field x type e.1 (found_name i.field a.0 x e.1) offered e.2.0 e.2.1 in
      let has : HasType m.store globals x.space x.address i.ty =
      export_typed w ok m.store globals typed x.space x.address ref i.ty (λ other listed_other same t there. named_matches w ok p.which i.field i.ty p.offered other listed_other same t there) served in
      (t, rw (a.1, e.1) (finds_given m globals types x i.ty has), record { target = ExportOf ref; said = ap (option_and_then (link_in w of.of i.field)) p.whole; serves = inl served; direct = λ none. served })

  -- each import of the module finds what was planned for it
  pub given_there : (arguments : List (List ℕ × List Export)) → AllZip (IsOffered w shims m.store globals of.of) arguments of.found.imports.modules → (i : ImportType) → IsGivenImport w of.found i → GivenThere arguments i
  given_there arguments h i (inl p) = role_given arguments h i p
  given_there arguments h i (inr p) = whole_given arguments h i p
