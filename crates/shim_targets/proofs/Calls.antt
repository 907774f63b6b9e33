-- The functions that core imports call: how they are lowered, and the kinds of shims for them.
use Rattle.std.proofs.Common.{◌≡◌, ◌∙◌, ℕ, true, false, List, [], ◌∷◌, map, Contains, inl, inr, is_some, Option, Some, None, refl, sym, ap, subst, rules, true≢false}
use Rattle.std.specs.Cmp.{IsEquivalence}
use Rattle.std.specs.Cmp.Rules.{comparing}
use Rattle.std.specs.List.{AllByRecursion, flat_map}
use Rattle.std.specs.Map.{lookup}
use Rattle.std.specs.Option.{option_map, option_map_or, option_and_then}
use Rattle.std.specs.Str.{bytes_eq}
use Rattle.std.proofs.lemmas.Map.Views.{lookup-from_Contains, IsSome-lookup_from_Contains}
use Rattle.std.proofs.lemmas.Option.{none-some, same_Some}
use Rattle.standard_kinds.specs.declared.kinds.StringEncoding.{StringEncoding}
use Rattle.comp_lists.specs.Found.{found}
use Rattle.comp_lists.proofs.Lists.{AllByRecursion-contains, Contains-map}
use Rattle.comp_lists.proofs.Lookups.{some_of}
use Rattle.wit_data.specs.Keys.{is_same_key}
use Rattle.wit_data.specs.declared.functions.AbiVariant.{AbiVariant}
use Rattle.wit_data.specs.declared.functions.Function.{Function}
use Rattle.wit_data.specs.declared.ids.InterfaceId.{InterfaceId}
use Rattle.wit_data.specs.declared.resolve.Resolve.{Resolve}
use Rattle.wit_data.specs.declared.worlds.WorldItem.{WorldItem}
use Rattle.wit_data.specs.declared.worlds.WorldItem.TheVariants as items
use Rattle.wit_data.specs.declared.worlds.WorldKey.{WorldKey}
use Rattle.wit_data.specs.declared.worlds.WorldKey.TheVariants as keys
use Rattle.comp_roles.specs.CoreImports.{CoreImport}
use Rattle.comp_roles.specs.CoreTypes.{called_type}
use Rattle.comp_roles.specs.Functions.{of_function}
use Rattle.comp_roles.specs.declared.imports.Import.{Import}
use Rattle.comp_roles.specs.declared.imports.Import.TheVariants as imports
use Rattle.comp_roles.specs.declared.payloads.PayloadFuncKind.TheVariants as ends
use Rattle.comp_options.specs.Options.{import_set}
use Rattle.world_values.specs.Items.{function_in, functions_of, root_function_at}
use Rattle.comp_worlds.specs.Encodable.{IsEncodable}
use Rattle.comp_worlds.specs.Imported.{Lowerings, lowering_of, root_lowerings, interface_lowerings, is_same_import_key, root_entry, interface_entry}
use Rattle.comp_worlds.specs.Lowerings.{IsImportForm, is_same_lowering}
use Rattle.comp_worlds.specs.Typed.{type_of_import}
use Rattle.comp_worlds.specs.Uses.{Used, used_by, all_imports, call_at, calls_in, is_called}
use Rattle.comp_worlds.specs.WorldContents.{items_of, imported_functions, root_function}
use Rattle.comp_worlds.specs.Worlds.{IsNamedFunction, IsImportItem, IsImportRole}
use Rattle.comp_worlds.specs.declared.calls.Call.{Call}
use Rattle.comp_worlds.specs.declared.lowerings.ImportedInterface.{ImportedInterface}
use Rattle.comp_worlds.specs.declared.world.ComponentWorld.{ComponentWorld}
use Rattle.comp_worlds.specs.declared.world.ValidatedModule.{ValidatedModule}
use Rattle.shim_plan.specs.Needed.{lowering_of_call}
use Rattle.shim_plan.specs.declared.kinds.ShimKind.{ShimKind}
use Rattle.shim_plan.specs.declared.kinds.ShimKind.TheVariants as kinds
use Rattle.comp_links.specs.Links.{lower_needs, module_of}
use Rattle.comp_links.specs.Modules.{UserImport, user_imports}
use Rattle.comp_links.specs.Roles.{encoding_in}
use Rattle.comp_links.specs.Targets.{UserModule}
use Rattle.comp_terms.specs.Generated.{interface_in, role_of_kind}
use Rattle.comp_terms.specs.Shimmed.{shim_owner}
use Rattle.comp_worlds.specs.Offered.{shared_memory}
use Rattle.shim_targets.specs.ShimTargets.{which_of, kind_of_import}
use Rattle.shim_targets.proofs.Keys.{key_laws, call_laws, one_import_key, one_lowering}
use Rattle.shim_targets.proofs.Lists.{contains_none, contains_cons, contains_first, contains_flat, IsInOne, flat_contains}
use Rattle.shim_targets.proofs.ExportKeys.{return_back}
use Rattle.shim_targets.proofs.Lowered.{is_call_of, root_found, interface_found, entry_found}
use Rattle.shim_targets.proofs.Tables.{made_finds}
use Rattle.shim_targets.proofs.Users.{back, among_all}

-- A role that calls a function of the world: the function, how it is lowered, and the kind of a
-- shim for it. The interface is the key of the function's, or none at the root.
pub record IsLowered (w : ComponentWorld) (role : Import) (interface : Option WorldKey) (key : WorldKey) (name : List ℕ) (abi : AbiVariant) : Type 0 where
  pub function : Function
  pub lowered : lowering_of_call w (record { interface = interface; key = key; function = record { name = name; abi = abi } }) ≡ Some (lowering_of (is_some (shared_memory w)) abi w.resolve.types function)
  pub needs : lower_needs w role ≡ import_set abi w.resolve.types function
  pub typed : type_of_import w.resolve (items_of w) role ≡ Some (called_type w.resolve abi function)
  pub encoding : (m : ValidatedModule) → encoding_in role m ≡ of_function key name m.metadata.import_encodings
  pub kind : (of : UserModule) (encoding : StringEncoding) → kind_of_import of role encoding ≡ Some (kinds.IndirectLowering interface (record { name = name; abi = abi }) (which_of of) encoding)

-- what core imports use
abbrev used_of : ComponentWorld → Used
used_of w = used_by (all_imports w.main w.adapters) (is_some (shared_memory w))

-- a call that is the role of a core import is used
is_used : (w : ComponentWorld) (i : UserImport) (c : Call) → Contains (user_imports w) i → calls_in i.core.role ≡ (c, tt) ∷ [] → is_called (all_imports w.main w.adapters) c ≡ true
is_used w i c there is =
    let all : List CoreImport = all_imports w.main w.adapters in
    let calls : List (Call × Unit {0}) = flat_map (λ i. calls_in i.role) all in
    let called : Contains calls (c, tt) = contains_flat (λ (i : CoreImport). calls_in i.role) all i.core (c, tt) (among_all w i there) (subst (λ cs. Contains cs (c, tt)) (sym is) (contains_first (c, tt) [])) in
    IsSome-lookup_from_Contains call_laws c calls (Contains-map (λ (e : Call × Unit {0}). e.0) calls (c, tt) called)

-- ---- at the root

-- a function at the root, by its key
record IsRootFunction (w : ComponentWorld) (text : List ℕ) : Type 0 where
  function : Function
  there : lookup (is_same_key (keys.Name text)) (items_of w).imports ≡ Some (items.Function function)

root_entry_is : (text : List ℕ) (e : WorldKey × WorldItem) → Contains (root_function e) text → (f : Function) × ((keys.Name text, items.Function f) ≡ e)
root_entry_is text (keys.Name t, items.Function f) c = elim (contains_cons t [] text c) [
  | inl same ↦ (f, ap (λ n. (keys.Name n, items.Function f)) (sym same))
  | inr later ↦ contains_none text later
]
root_entry_is text e c = contains_none text c

root_there : (w : ComponentWorld) → IsEncodable w → (text : List ℕ) → Contains (imported_functions w) text → IsRootFunction w text
root_there w ok text c =
    let es : List (WorldKey × WorldItem) = (items_of w).imports in
    let entry : IsInOne root_function es text = flat_contains root_function es text c in
    let is = root_entry_is text entry.x entry.there in
    record {
      function = is.0;
      there = lookup-from_Contains key_laws (keys.Name text) (items.Function is.0) es ok.valid.import_keys_apart (subst (λ e. Contains es e) (sym is.1) entry.one);
    }

root_lowered : (abi : AbiVariant) → IsImportForm abi → (w : ComponentWorld) → IsEncodable w → (i : UserImport) (text : List ℕ) → Contains (user_imports w) i → i.core.role ≡ imports.WorldFunc (keys.Name text) text abi → Contains (imported_functions w) text →
    IsLowered w (imports.WorldFunc (keys.Name text) text abi) None (keys.Name text) text abi
root_lowered abi form w ok i text there is c =
    let es : List (WorldKey × WorldItem) = (items_of w).imports in
    let used : Used = used_of w in
    let root : IsRootFunction w text = root_there w ok text c in
    let f : Function = root.function in
    let at : root_function_at es (keys.Name text) ≡ Some f = ap (option_and_then function_in) root.there in
    let called : used.called (call_at (keys.Name text) text abi) ≡ true = is_used w i (call_at (keys.Name text) text abi) there (ap calls_in is) in
    let entries : Lowerings = flat_map (root_lowerings used w.resolve.types) es in
    let found_there : lookup (is_call_of text abi) entries ≡ Some (lowering_of used.shares abi w.resolve.types f) = root_found abi form used w.resolve text f es ok.valid.imports root.there called in
    record {
      function = f;
      lowered =
          ap (λ table. option_and_then (λ (x : ImportedInterface). lookup (is_call_of text abi) x.lowerings) (lookup (is_same_import_key None) table)) ok.tables.import_map
          ∙ ap (option_and_then (λ (x : ImportedInterface). lookup (is_call_of text abi) x.lowerings)) (made_finds is_same_import_key one_import_key None (root_entry used w.resolve es ∷ flat_map (interface_entry used w.resolve) es))
          ∙ made_finds is_same_lowering one_lowering (record { name = text; abi = abi }) entries
          ∙ found_there;
      needs = ap (λ o. option_map_or (import_set abi w.resolve.types) o 0) at;
      typed = ap (option_map (called_type w.resolve abi)) at;
      encoding = λ m. refl;
      kind = λ of encoding. refl;
    }

-- ---- in an interface

bytes_laws : IsEquivalence bytes_eq
bytes_laws = search (comparing, rules)

functions_named : (r : Resolve) (key : WorldKey) (id : InterfaceId) → IsImportItem r (key, items.Interface id) → AllByRecursion IsNamedFunction (functions_of r id)
functions_named r (keys.Name text) id h = h
functions_named r (keys.Interface other) id h = h

-- an interface that is imported under a key is found under it
interface_there : (w : ComponentWorld) → IsEncodable w → (key : WorldKey) (id : InterfaceId) → Contains (items_of w).imports (key, items.Interface id) → lookup (is_same_key key) (items_of w).imports ≡ Some (items.Interface id)
interface_there w ok key id c = lookup-from_Contains key_laws key (items.Interface id) (items_of w).imports ok.valid.import_keys_apart c

interface_lowered : (abi : AbiVariant) → IsImportForm abi → (w : ComponentWorld) → IsEncodable w → (i : UserImport) (key : WorldKey) (id : InterfaceId) (text : List ℕ) → Contains (user_imports w) i → i.core.role ≡ imports.InterfaceFunc key id text abi →
    Contains (items_of w).imports (key, items.Interface id) → Contains (map (λ e. e.0) (functions_of w.resolve id)) text →
    IsLowered w (imports.InterfaceFunc key id text abi) (Some key) key text abi
interface_lowered abi form w ok i key id text there is c d =
    let es : List (WorldKey × WorldItem) = (items_of w).imports in
    let used : Used = used_of w in
    let function = some_of (found text (functions_of w.resolve id)) (IsSome-lookup_from_Contains bytes_laws text (functions_of w.resolve id) d) in
    let f : Function = function.0 in
    let named = functions_named w.resolve key id (AllByRecursion-contains (IsImportItem w.resolve) es (key, items.Interface id) ok.valid.imports c) in
    let called : used.called (call_at key text abi) ≡ true = is_used w i (call_at key text abi) there (ap calls_in is) in
    let found_there : lookup (is_call_of text abi) (interface_lowerings used w.resolve key id) ≡ Some (lowering_of used.shares abi w.resolve.types f) = interface_found abi form used w.resolve key id text f named function.1 called in
    let entry = entry_found used w.resolve key id es (interface_there w ok key id c) in
    record {
      function = f;
      lowered =
          ap (λ table. option_and_then (λ (x : ImportedInterface). lookup (is_call_of text abi) x.lowerings) (lookup (is_same_import_key (Some key)) table)) ok.tables.import_map
          ∙ ap (option_and_then (λ (x : ImportedInterface). lookup (is_call_of text abi) x.lowerings)) (made_finds is_same_import_key one_import_key (Some key) (root_entry used w.resolve es ∷ flat_map (interface_entry used w.resolve) es) ∙ entry)
          ∙ made_finds is_same_lowering one_lowering (record { name = text; abi = abi }) (interface_lowerings used w.resolve key id)
          ∙ found_there;
      needs = ap (λ o. option_map_or (import_set abi w.resolve.types) o 0) function.1;
      typed = ap (option_map (called_type w.resolve abi)) function.1;
      encoding = λ m. refl;
      kind = λ of encoding. refl;
    }

-- ---- by the role

-- a role of a function at the root, and of one in an interface
pub world_call : (w : ComponentWorld) → IsEncodable w → (i : UserImport) → Contains (user_imports w) i → (text function : List ℕ) (abi : AbiVariant) → i.core.role ≡ imports.WorldFunc (keys.Name text) function abi →
    IsImportRole w (imports.WorldFunc (keys.Name text) function abi) → IsLowered w (imports.WorldFunc (keys.Name text) function abi) None (keys.Name text) function abi
world_call w ok i there text function abi is h =
    subst (λ f. IsLowered w (imports.WorldFunc (keys.Name text) f abi) None (keys.Name text) f abi) (sym h.1)
    (root_lowered abi h.2 w ok i text there (is ∙ ap (λ f. imports.WorldFunc (keys.Name text) f abi) h.1) h.0)

pub interface_call : (w : ComponentWorld) → IsEncodable w → (i : UserImport) → Contains (user_imports w) i → (key : WorldKey) (id : InterfaceId) (function : List ℕ) (abi : AbiVariant) → i.core.role ≡ imports.InterfaceFunc key id function abi →
    IsImportRole w (imports.InterfaceFunc key id function abi) → IsLowered w (imports.InterfaceFunc key id function abi) (Some key) key function abi
interface_call w ok i there key id function abi is h = interface_lowered abi h.2 w ok i key id function there is h.0 h.1

-- the module and the role are found back from the kind: main, where the shim is for all modules
pub role_back : (w : ComponentWorld) → IsEncodable w → (of : UserModule) (role : Import) → IsImportRole w role → (encoding : StringEncoding) (kind : ShimKind) → kind_of_import of role encoding ≡ Some kind → role_of_kind w kind ≡ Some (shim_owner of role, role)
role_back w ok of (imports.WorldFunc (keys.Name text) function abi) h encoding kind e =
    subst (λ k. role_of_kind w k ≡ Some (of, imports.WorldFunc (keys.Name text) function abi)) (same_Some (kinds.IndirectLowering None (record { name = function; abi = abi }) (which_of of) encoding) kind e)
    (ap (λ (u : UserModule). Some (u, imports.WorldFunc (keys.Name function) function abi)) (back of) ∙ ap (λ (t : List ℕ). Some (of, imports.WorldFunc (keys.Name t) function abi)) h.1)
role_back w ok of (imports.InterfaceFunc key id function abi) h encoding kind e =
    subst (λ k. role_of_kind w k ≡ Some (of, imports.InterfaceFunc key id function abi)) (same_Some (kinds.IndirectLowering (Some key) (record { name = function; abi = abi }) (which_of of) encoding) kind e)
    (ap (λ o. option_map (λ other. (module_of (which_of of), imports.InterfaceFunc key other function abi)) (option_and_then interface_in o)) (interface_there w ok key id h.0)
    ∙ ap (λ (u : UserModule). Some (u, imports.InterfaceFunc key id function abi)) (back of))
role_back w ok of (imports.ImportedResourceDrop key interface id) h encoding kind e = absurd (none-some kind e)
role_back w ok of (imports.ExportedResourceDrop key id) h encoding kind e = absurd (none-some kind e)
role_back w ok of (imports.ExportedResourceRep key id) h encoding kind e = absurd (none-some kind e)
role_back w ok of (imports.ExportedResourceNew key id) h encoding kind e = absurd (none-some kind e)
role_back w ok of (imports.MainModuleMemory type) h encoding kind e = absurd (none-some kind e)
role_back w ok of (imports.MainModuleExport name export) h encoding kind e = absurd (none-some kind e)
role_back w ok of (imports.AdapterExport adapter name type) h encoding kind e = absurd (none-some kind e)
role_back w ok of (imports.Item item) h encoding kind e = absurd (none-some kind e)
role_back w ok of (imports.ExportedTaskReturn key interface f) h encoding kind e =
    subst (λ k. role_of_kind w k ≡ Some (of, imports.ExportedTaskReturn key interface f)) (same_Some (kinds.TaskReturn interface f.name f.result (which_of of) encoding) kind e) (return_back w ok of key interface f h)
role_back w ok of imports.WaitableSetWait h encoding kind e = ap (role_of_kind w) (sym (same_Some kinds.WaitableSetWait kind e))
role_back w ok of imports.WaitableSetPoll h encoding kind e = ap (role_of_kind w) (sym (same_Some kinds.WaitableSetPoll kind e))
role_back w ok of (imports.ErrorContextNew own) h encoding kind e = ap (role_of_kind w) (sym (same_Some (kinds.ErrorContextNew own) kind e))
role_back w ok of (imports.ErrorContextDebugMessage own) h encoding kind e =
    ap (role_of_kind w) (sym (same_Some (kinds.ErrorContextDebugMessage (which_of of) own) kind e)) ∙ ap (λ (u : UserModule). Some (u, imports.ErrorContextDebugMessage own)) (back of)
role_back w ok of (imports.StreamRead p is_async) h encoding kind e =
    ap (role_of_kind w) (sym (same_Some (kinds.PayloadFunc (which_of of) p ends.StreamRead is_async) kind e)) ∙ ap (λ (u : UserModule). Some (u, imports.StreamRead p is_async)) (back of)
role_back w ok of (imports.StreamWrite p is_async) h encoding kind e =
    ap (role_of_kind w) (sym (same_Some (kinds.PayloadFunc (which_of of) p ends.StreamWrite is_async) kind e)) ∙ ap (λ (u : UserModule). Some (u, imports.StreamWrite p is_async)) (back of)
role_back w ok of (imports.FutureRead p is_async) h encoding kind e =
    ap (role_of_kind w) (sym (same_Some (kinds.PayloadFunc (which_of of) p ends.FutureRead is_async) kind e)) ∙ ap (λ (u : UserModule). Some (u, imports.FutureRead p is_async)) (back of)
role_back w ok of (imports.FutureWrite p is_async) h encoding kind e =
    ap (role_of_kind w) (sym (same_Some (kinds.PayloadFunc (which_of of) p ends.FutureWrite is_async) kind e)) ∙ ap (λ (u : UserModule). Some (u, imports.FutureWrite p is_async)) (back of)
role_back w ok of (imports.WorldFunc (keys.Interface other) function abi) h encoding kind e = absurd (true≢false (sym h))
role_back w ok of role h encoding kind e = absurd (none-some kind e)
