-- An import that needs a memory has its shim, and the options of one that has none name nothing that a module exports.
use Rattle.std.proofs.Common.{◌≡◌, ◌∙◌, ◌⊎◌, inl, inr, ℕ, suc, Bool, true, false, true≢false, List, [], ◌∷◌, ◌++◌, map, Contains, if◌then◌else◌, is_some, Some, None, refl, sym, ap, subst}
use Rattle.std.specs.Prelude.{IsTrue, IsSome, not}
use Rattle.std.specs.List.{flat_map, list_any}
use Rattle.std.specs.Option.{option_and_then}
use Rattle.std.proofs.lemmas.List.Elements.{Contains-append_left}
use Rattle.std.proofs.lemmas.Option.{none-some, same_Some}
use Rattle.standard_kinds.specs.declared.kinds.StringEncoding.{StringEncoding}
use Rattle.wit_data.specs.declared.worlds.WorldKey.TheVariants as keys
use Rattle.comp_roles.specs.CoreImports.{CoreImport}
use Rattle.comp_roles.specs.declared.imports.Import.{Import}
use Rattle.comp_roles.specs.declared.imports.Import.TheVariants as imports
use Rattle.comp_roles.specs.declared.payloads.PayloadFuncKind.{PayloadFuncKind}
use Rattle.comp_roles.specs.declared.payloads.PayloadFuncKind.TheVariants as ends
use Rattle.comp_roles.specs.declared.payloads.PayloadInfo.{PayloadInfo}
use Rattle.comp_terms.specs.Generated.{access_role}
use Rattle.comp_roles.specs.declared.libraries.MainOrAdapter.{MainOrAdapter}
use Rattle.comp_options.specs.Options.{needs}
use Rattle.comp_worlds.specs.Encodable.{IsEncodable}
use Rattle.comp_worlds.specs.Uses.{imports_of}
use Rattle.comp_worlds.specs.Worlds.{IsImportRole}
use Rattle.comp_worlds.specs.declared.world.ComponentWorld.{ComponentWorld}
use Rattle.comp_worlds.specs.declared.world.ValidatedModule.{ValidatedModule}
use Rattle.shim_plan.proofs.Appending.{known as known_by_kinds}
use Rattle.shim_plan.proofs.EqualKinds.{are_one}
use Rattle.shim_plan.specs.Needed.{realloc_shim, import_realloc, import_needs, export_needs, needs_of, needed, Accessed, access_kind, access_shim, access_to, accesses_through}
use Rattle.comp_worlds.specs.Offered.{shared_memory}
use Rattle.shim_plan.specs.Plans.{same_kind, kinds_of, shim_of, numbered, lacking}
use Rattle.shim_plan.specs.declared.kinds.ShimKind.{ShimKind}
use Rattle.shim_plan.specs.declared.kinds.ShimKind.TheVariants as kinds
use Rattle.shim_plan.specs.declared.memory_functions.MemoryFunction.{MemoryFunction}
use Rattle.shim_plan.specs.declared.memory_functions.MemoryFunction.TheVariants as functions
use Rattle.shim_plan.specs.declared.needs.NeededShim.{NeededShim}
use Rattle.shim_plan.specs.declared.reallocs.ReallocSite.TheVariants as sites
use Rattle.world_shims.specs.WorldShims.{modules_in, shims_of}
use Rattle.comp_links.specs.Links.{lower_needs, is_always_shimmed}
use Rattle.comp_links.specs.Modules.{UserImport, module_found, user_imports}
use Rattle.comp_links.specs.Roles.{encoding_in, import_encoding}
use Rattle.comp_links.specs.Targets.{UserModule}
use Rattle.shim_targets.specs.CallOptions.{NamesNoExport}
use Rattle.shim_targets.specs.ShimTargets.{which_of, kind_of_import}
use Rattle.shim_targets.proofs.AccessNeeds.{access_import, access_needed, through_unshared}
use Rattle.shim_targets.proofs.CallNeeds.{realloc_needed, shim_with, call_needed, kind_of_shim}
use Rattle.shim_targets.proofs.Calls.{world_call, interface_call}
use Rattle.shim_targets.proofs.Lists.{contains_none, contains_cons, contains_first, contains_later, contains_flat, passes_any, any_push}
use Rattle.shim_targets.proofs.NoOptions.{role_without}
use Rattle.shim_targets.proofs.ReallocShims.{Pair}
use Rattle.shim_targets.proofs.Roles.{import_role}
use Rattle.comp_links.proofs.Named.{listed_found}
use Rattle.comp_options.proofs.ImportSets.{no_realloc_returned}
use Rattle.shim_plan.specs.Needed.{Returned, return_shim, realloc_needs, function_options, function_shim, through_needs}
use Rattle.shim_targets.proofs.ReturnNeeds.{return_needed}
use Rattle.shim_targets.proofs.Users.{IsImportOf, import_of, of_module, needed_in}

-- ---- each kind that is needed has a shim

abbrev kinds_needed : List NeededShim → List ShimKind
kinds_needed ns = map (λ n. n.kind) ns

kinds_numbered : (place : ℕ) (ns : List NeededShim) → kinds_of (numbered place ns) ≡ kinds_needed ns
kinds_numbered place [] = refl
kinds_numbered place (n ∷ ns) = ap (λ ks. n.kind ∷ ks) (kinds_numbered (suc place) ns)

-- a kind that is needed is among those that are lacking, unless it is known
kept : (known : List ShimKind) (ns : List NeededShim) (n : NeededShim) → Contains ns n → (list_any (same_kind n.kind) known ≡ true) ⊎ Contains (kinds_needed (lacking known ns)) n.kind
kept known [] n c = contains_none n c
kept known (m ∷ ns) n c = by (list_any (same_kind m.kind) known) refl (contains_cons m ns n c) (kept known ns n) (kept (known ++ m.kind ∷ []) ns n)
  where
    now : List NeededShim
    now = lacking known ns

    next : List NeededShim
    next = lacking (known ++ m.kind ∷ []) ns

    after : (list_any (same_kind n.kind) (known ++ m.kind ∷ []) ≡ true) ⊎ Contains (kinds_needed next) n.kind → (list_any (same_kind n.kind) known ≡ true) ⊎ Contains (m.kind ∷ kinds_needed next) n.kind
    after (inr later) = inr (contains_later m.kind (kinds_needed next) n.kind later)
    after (inl any) = elim (any_push (same_kind n.kind) known m.kind any) [
      | inl before ↦ inl before
      | inr same ↦ inr (subst (λ k. Contains (m.kind ∷ kinds_needed next) k) (sym ((are_one n.kind m.kind).0 same)) (contains_first m.kind (kinds_needed next)))
    ]

    by : (b : Bool) → list_any (same_kind m.kind) known ≡ b → (m ≡ n) ⊎ Contains ns n →
        (Contains ns n → (list_any (same_kind n.kind) known ≡ true) ⊎ Contains (kinds_needed now) n.kind) →
        (Contains ns n → (list_any (same_kind n.kind) (known ++ m.kind ∷ []) ≡ true) ⊎ Contains (kinds_needed next) n.kind) →
        (list_any (same_kind n.kind) known ≡ true) ⊎ Contains (kinds_needed (if b then now else m ∷ next)) n.kind
    by true e (inl same) here there = inl (ap (λ (x : NeededShim). list_any (same_kind x.kind) known) (sym same) ∙ e)
    by true e (inr later) here there = here later
    by false e (inl same) here there = inr (subst (λ (x : NeededShim). Contains (m.kind ∷ kinds_needed next) x.kind) same (contains_first m.kind (kinds_needed next)))
    by false e (inr later) here there = after (there later)

pub has_shim : (w : ComponentWorld) (n : NeededShim) → Contains (flat_map (needed w) (modules_in w)) n → IsSome (shim_of n.kind (shims_of w))
has_shim w n c =
    let all : List NeededShim = flat_map (needed w) (modules_in w) in
    let lacks : List NeededShim = lacking [] all in
    let among : Contains (kinds_needed lacks) n.kind = elim (kept [] all n c) [
      | inl none ↦ absurd (true≢false (sym none))
      | inr there ↦ there
    ] in
    let listed : Contains (kinds_of (shims_of w)) n.kind = subst (λ ks. Contains ks n.kind) (sym (kinds_numbered 0 lacks)) among in
    known_by_kinds n.kind (shims_of w) ∙ passes_any (same_kind n.kind) (kinds_of (shims_of w)) n.kind listed ((are_one n.kind n.kind).1 refl)

-- ---- imports that need a memory, where main imports none

-- a function that works on a memory has its shim, and one that may have it has it where main imports none
through_needed : (w : ComponentWorld) (of : UserModule) (m : ValidatedModule) (function : MemoryFunction) → Contains (through_needs w (which_of of) m function) (function_shim (which_of of) function)
through_needed w of m function = contains_first (function_shim (which_of of) function) (realloc_needs w (which_of of) m sites.AfterInstantiation (function_options function))

unshared_needed : (w : ComponentWorld) (of : UserModule) (m : ValidatedModule) (function : MemoryFunction) → shared_memory w ≡ None →
    Contains (if not (is_some (shared_memory w)) then through_needs w (which_of of) m function else []) (function_shim (which_of of) function)
unshared_needed w of m function unshared =
    subst (λ o. Contains (if not (is_some o) then through_needs w (which_of of) m function else []) (function_shim (which_of of) function)) (sym unshared) (through_needed w of m function)

-- what is needed of an import has one of this kind
record IsKindNeeded (w : ComponentWorld) (of : UserModule) (m : ValidatedModule) (i : CoreImport) (kind : ShimKind) : Type 0 where
  shim : NeededShim
  there : Contains (import_needs w (which_of of) m i) shim
  same : shim.kind ≡ kind

import_needed : (w : ComponentWorld) → IsEncodable w → shared_memory w ≡ None → (of : UserModule) (m : ValidatedModule) (name field : List ℕ) (role : Import) → Contains (user_imports w) (record { of = of; core = record { module_name = name; field = field; role = role } }) → IsImportRole w role →
    (encoding : StringEncoding) → encoding_in role m ≡ Some encoding → IsTrue (needs (lower_needs w role) 1) → (kind : ShimKind) → kind_of_import of role encoding ≡ Some kind → IsKindNeeded w of m (record { module_name = name; field = field; role = role }) kind
import_needed w ok unshared of m name field (imports.WorldFunc (keys.Name text) function abi) there h encoding encoded memory kind is =
    let i : CoreImport = record { module_name = name; field = field; role = imports.WorldFunc (keys.Name text) function abi } in
    let lowered = world_call w ok (record { of = of; core = i }) there text function abi refl h in
    record { shim = shim_with w of m i None (keys.Name text) function abi lowered encoding; there = call_needed w of m i None (keys.Name text) function abi lowered unshared memory encoding encoded; same = kind_of_shim w of m i None (keys.Name text) function abi lowered encoding kind is }
import_needed w ok unshared of m name field (imports.InterfaceFunc key id function abi) there h encoding encoded memory kind is =
    let i : CoreImport = record { module_name = name; field = field; role = imports.InterfaceFunc key id function abi } in
    let lowered = interface_call w ok (record { of = of; core = i }) there key id function abi refl h in
    record { shim = shim_with w of m i (Some key) key function abi lowered encoding; there = call_needed w of m i (Some key) key function abi lowered unshared memory encoding encoded; same = kind_of_shim w of m i (Some key) key function abi lowered encoding kind is }
import_needed w ok unshared of m name field (imports.ImportedResourceDrop key interface id) there h encoding encoded memory kind is = absurd (none-some kind is)
import_needed w ok unshared of m name field (imports.ExportedResourceDrop key id) there h encoding encoded memory kind is = absurd (none-some kind is)
import_needed w ok unshared of m name field (imports.ExportedResourceRep key id) there h encoding encoded memory kind is = absurd (none-some kind is)
import_needed w ok unshared of m name field (imports.ExportedResourceNew key id) there h encoding encoded memory kind is = absurd (none-some kind is)
import_needed w ok unshared of m name field (imports.MainModuleMemory type) there h encoding encoded memory kind is = absurd (none-some kind is)
import_needed w ok unshared of m name field (imports.MainModuleExport export sort) there h encoding encoded memory kind is = absurd (none-some kind is)
import_needed w ok unshared of m name field (imports.AdapterExport adapter function type) there h encoding encoded memory kind is = absurd (none-some kind is)
import_needed w ok unshared of m name field (imports.Item item) there h encoding encoded memory kind is = absurd (none-some kind is)
import_needed w ok unshared of m name field (imports.ExportedTaskReturn key interface f) there h encoding encoded memory kind is =
    let r : Returned = record { key = key; interface = interface; function = f } in
    record { shim = return_shim w (which_of of) r encoding; there = return_needed w of m r unshared memory encoding encoded; same = same_Some (return_shim w (which_of of) r encoding).kind kind is }
import_needed w ok unshared of m name field imports.WaitableSetWait there h encoding encoded memory kind is =
    record { shim = function_shim (which_of of) functions.Wait; there = unshared_needed w of m functions.Wait unshared; same = same_Some kinds.WaitableSetWait kind is }
import_needed w ok unshared of m name field imports.WaitableSetPoll there h encoding encoded memory kind is =
    record { shim = function_shim (which_of of) functions.Poll; there = unshared_needed w of m functions.Poll unshared; same = same_Some kinds.WaitableSetPoll kind is }
import_needed w ok unshared of m name field (imports.ErrorContextNew own) there h encoding encoded memory kind is =
    record { shim = function_shim (which_of of) (functions.NewError own); there = unshared_needed w of m (functions.NewError own) unshared; same = same_Some (kinds.ErrorContextNew own) kind is }
import_needed w ok unshared of m name field (imports.ErrorContextDebugMessage own) there h encoding encoded memory kind is =
    record { shim = function_shim (which_of of) (functions.ErrorMessage own); there = through_needed w of m (functions.ErrorMessage own); same = same_Some (kinds.ErrorContextDebugMessage (which_of of) own) kind is }
import_needed w ok unshared of m name field (imports.StreamRead p is_async) there h encoding encoded memory kind is =
    let i : CoreImport = record { module_name = name; field = field; role = imports.StreamRead p is_async } in
    let a : Accessed = access_to p ends.StreamRead is_async in
    record { shim = access_shim w (which_of of) i a; there = access_needed w of m i a (through_unshared w a unshared); same = same_Some (access_kind (which_of of) a) kind is }
import_needed w ok unshared of m name field (imports.StreamWrite p is_async) there h encoding encoded memory kind is =
    let i : CoreImport = record { module_name = name; field = field; role = imports.StreamWrite p is_async } in
    let a : Accessed = access_to p ends.StreamWrite is_async in
    record { shim = access_shim w (which_of of) i a; there = access_needed w of m i a (through_unshared w a unshared); same = same_Some (access_kind (which_of of) a) kind is }
import_needed w ok unshared of m name field (imports.FutureRead p is_async) there h encoding encoded memory kind is =
    let i : CoreImport = record { module_name = name; field = field; role = imports.FutureRead p is_async } in
    let a : Accessed = access_to p ends.FutureRead is_async in
    record { shim = access_shim w (which_of of) i a; there = access_needed w of m i a (through_unshared w a unshared); same = same_Some (access_kind (which_of of) a) kind is }
import_needed w ok unshared of m name field (imports.FutureWrite p is_async) there h encoding encoded memory kind is =
    let i : CoreImport = record { module_name = name; field = field; role = imports.FutureWrite p is_async } in
    let a : Accessed = access_to p ends.FutureWrite is_async in
    record { shim = access_shim w (which_of of) i a; there = access_needed w of m i a (through_unshared w a unshared); same = same_Some (access_kind (which_of of) a) kind is }
import_needed w ok unshared of m name field (imports.WorldFunc (keys.Interface other) function abi) there h encoding encoded memory kind is = absurd (true≢false (sym h))
import_needed w ok unshared of m name field role there h encoding encoded memory kind is = absurd (none-some kind is)

-- so has one that needs a realloc, where main imports its memory
realloc_needed_by : (w : ComponentWorld) → IsEncodable w → is_some (shared_memory w) ≡ true → (of : UserModule) (m : ValidatedModule) (name field : List ℕ) (role : Import) → Contains (user_imports w) (record { of = of; core = record { module_name = name; field = field; role = role } }) →
    IsImportRole w role → is_always_shimmed w role ≡ false → IsTrue (needs (lower_needs w role) 2) → (r : Pair) → import_realloc w (which_of of) m ≡ Some r → IsKindNeeded w of m (record { module_name = name; field = field; role = role }) (realloc_shim r).kind
realloc_needed_by w ok shared of m name field (imports.WorldFunc (keys.Name text) function abi) there h apart realloc r found =
    let i : CoreImport = record { module_name = name; field = field; role = imports.WorldFunc (keys.Name text) function abi } in
    let lowered = world_call w ok (record { of = of; core = i }) there text function abi refl h in
    record { shim = realloc_shim r; there = realloc_needed w of m i None (keys.Name text) function abi lowered shared realloc r found; same = refl }
realloc_needed_by w ok shared of m name field (imports.InterfaceFunc key id function abi) there h apart realloc r found =
    let i : CoreImport = record { module_name = name; field = field; role = imports.InterfaceFunc key id function abi } in
    let lowered = interface_call w ok (record { of = of; core = i }) there key id function abi refl h in
    record { shim = realloc_shim r; there = realloc_needed w of m i (Some key) key function abi lowered shared realloc r found; same = refl }
realloc_needed_by w ok shared of m name field (imports.ImportedResourceDrop key interface id) there h apart realloc r found = absurd (true≢false (sym realloc))
realloc_needed_by w ok shared of m name field (imports.ExportedResourceDrop key id) there h apart realloc r found = absurd (true≢false (sym realloc))
realloc_needed_by w ok shared of m name field (imports.ExportedResourceRep key id) there h apart realloc r found = absurd (true≢false (sym realloc))
realloc_needed_by w ok shared of m name field (imports.ExportedResourceNew key id) there h apart realloc r found = absurd (true≢false (sym realloc))
realloc_needed_by w ok shared of m name field (imports.MainModuleMemory type) there h apart realloc r found = absurd (true≢false (sym realloc))
realloc_needed_by w ok shared of m name field (imports.MainModuleExport export sort) there h apart realloc r found = absurd (true≢false (sym realloc))
realloc_needed_by w ok shared of m name field (imports.AdapterExport adapter function type) there h apart realloc r found = absurd (true≢false (sym realloc))
realloc_needed_by w ok shared of m name field (imports.Item item) there h apart realloc r found = absurd (true≢false (sym realloc))
realloc_needed_by w ok shared of m name field (imports.ExportedTaskReturn key interface f) there h apart realloc r found = absurd (true≢false (sym realloc ∙ no_realloc_returned w.resolve.types f))
realloc_needed_by w ok shared of m name field (imports.ErrorContextDebugMessage encoding) there h apart realloc r found = absurd (true≢false apart)
realloc_needed_by w ok shared of m name field (imports.StreamRead p is_async) there h apart realloc r found = absurd (true≢false (sym realloc ∙ apart))
realloc_needed_by w ok shared of m name field (imports.StreamWrite p is_async) there h apart realloc r found = absurd (true≢false (sym realloc ∙ apart))
realloc_needed_by w ok shared of m name field (imports.FutureRead p is_async) there h apart realloc r found = absurd (true≢false (sym realloc ∙ apart))
realloc_needed_by w ok shared of m name field (imports.FutureWrite p is_async) there h apart realloc r found = absurd (true≢false (sym realloc ∙ apart))
realloc_needed_by w ok shared of m name field (imports.WorldFunc (keys.Interface other) function abi) there h apart realloc r found = absurd (true≢false (sym h))
realloc_needed_by w ok shared of m name field role there h apart realloc r found = absurd (true≢false (sym realloc))

-- a kind that is needed of an import of a module has a shim
needed_there : (w : ComponentWorld) (of : UserModule) (m : ValidatedModule) → module_found w of ≡ Some m → (i : CoreImport) → Contains (imports_of m) i → (kind : ShimKind) → IsKindNeeded w of m i kind → IsSome (shim_of kind (shims_of w))
needed_there w of m found i c kind n =
    let which : MainOrAdapter = which_of of in
    let of_import : Contains (flat_map (import_needs w which m) (imports_of m)) n.shim = contains_flat (import_needs w which m) (imports_of m) i n.shim c n.there in
    let among : Contains (needs_of w which (Some m)) n.shim = Contains-append_left (flat_map (import_needs w which m) (imports_of m)) (flat_map (export_needs w which) m.exports.exports) n.shim of_import in
    subst (λ k. IsSome (shim_of k (shims_of w))) n.same (has_shim w n.shim (needed_in w of m found n.shim among))

-- an import of a module that is found
found_there : (w : ComponentWorld) → IsEncodable w → shared_memory w ≡ None → (of : UserModule) (m : ValidatedModule) → module_found w of ≡ Some m → (i : CoreImport) → Contains (imports_of m) i → (encoding : StringEncoding) → encoding_in i.role m ≡ Some encoding →
    IsTrue (needs (lower_needs w i.role) 1) → (kind : ShimKind) → kind_of_import of i.role encoding ≡ Some kind → IsSome (shim_of kind (shims_of w))
found_there w ok unshared of m found i c encoding encoded memory kind is =
    let there : Contains (user_imports w) (record { of = of; core = i }) = of_module w of m i found c in
    needed_there w of m found i c kind (import_needed w ok unshared of m i.module_name i.field i.role there (import_role w ok (record { of = of; core = i }) there) encoding encoded memory kind is)

pub shim_there : (w : ComponentWorld) → IsEncodable w → shared_memory w ≡ None → (i : UserImport) → Contains (user_imports w) i → (encoding : StringEncoding) → import_encoding w i.of i.core.role ≡ Some encoding → IsTrue (needs (lower_needs w i.core.role) 1) → (kind : ShimKind) →
    kind_of_import i.of i.core.role encoding ≡ Some kind → IsSome (shim_of kind (shims_of w))
shim_there w ok unshared i there encoding encoded memory kind is =
    let o : IsImportOf w i = import_of w i there in
    let m : ValidatedModule = o.world_module.found in
    let found : module_found w i.of ≡ Some m = ap (module_found w) (sym o.same) ∙ listed_found w ok.valid o.world_module o.listed in
    found_there w ok unshared i.of m found i.core o.there encoding (sym (ap (option_and_then (encoding_in i.core.role)) found) ∙ encoded) memory kind is

-- a function that reads the debug message of an error context has one, wherever main's memory is
pub message_there : (w : ComponentWorld) (of : UserModule) (m : ValidatedModule) → module_found w of ≡ Some m → (i : CoreImport) → Contains (imports_of m) i → (encoding : StringEncoding) → i.role ≡ imports.ErrorContextDebugMessage encoding →
    IsSome (shim_of (kinds.ErrorContextDebugMessage (which_of of) encoding) (shims_of w))
message_there w of m found i c encoding is =
    let shim : NeededShim = function_shim (which_of of) (functions.ErrorMessage encoding) in
    let there : Contains (import_needs w (which_of of) m i) shim =
    subst (λ (role : Import). Contains (import_needs w (which_of of) m (record { module_name = i.module_name; field = i.field; role = role })) shim) (sym is) (through_needed w of m (functions.ErrorMessage encoding)) in
    needed_there w of m found i c (kinds.ErrorContextDebugMessage (which_of of) encoding) (record { shim = shim; there = there; same = refl })

-- so has a read or a write that needs a realloc
pub access_there : (w : ComponentWorld) (of : UserModule) (m : ValidatedModule) → module_found w of ≡ Some m → (i : CoreImport) → Contains (imports_of m) i → (p : PayloadInfo) (kind : PayloadFuncKind) (is_async : Bool) → i.role ≡ access_role p kind is_async →
    accesses_through w (access_to p kind is_async) ≡ true → IsSome (shim_of (kinds.PayloadFunc (which_of of) p kind is_async) (shims_of w))
access_there w of m found i c p kind is_async is through =
    let a : Accessed = access_to p kind is_async in
    let own : CoreImport = record { module_name = i.module_name; field = i.field; role = access_role p kind is_async } in
    let shim : NeededShim = access_shim w (which_of of) own a in
    let needed : Contains (import_needs w (which_of of) m own) shim = subst (λ ns. Contains ns shim) (sym (access_import w of m i.module_name i.field p kind is_async)) (access_needed w of m own a through) in
    let there : Contains (import_needs w (which_of of) m i) shim =
    subst (λ (role : Import). Contains (import_needs w (which_of of) m (record { module_name = i.module_name; field = i.field; role = role })) shim) (sym is) needed in
    needed_there w of m found i c (kinds.PayloadFunc (which_of of) p kind is_async) (record { shim = shim; there = there; same = refl })

-- the realloc of calls of an import has a shim, where main imports its memory
pub realloc_there : (w : ComponentWorld) → IsEncodable w → is_some (shared_memory w) ≡ true → (of : UserModule) (m : ValidatedModule) → module_found w of ≡ Some m → (i : CoreImport) → Contains (imports_of m) i → is_always_shimmed w i.role ≡ false → IsTrue (needs (lower_needs w i.role) 2) →
    (r : Pair) → import_realloc w (which_of of) m ≡ Some r → IsSome (shim_of (realloc_shim r).kind (shims_of w))
realloc_there w ok shared of m found i c apart realloc r is =
    let there : Contains (user_imports w) (record { of = of; core = i }) = of_module w of m i found c in
    needed_there w of m found i c (realloc_shim r).kind (realloc_needed_by w ok shared of m i.module_name i.field i.role there (import_role w ok (record { of = of; core = i }) there) apart realloc r is)

-- ---- imports that have no shim

pub direct : (w : ComponentWorld) → IsEncodable w → shared_memory w ≡ None → (i : UserImport) → Contains (user_imports w) i → (encoding : StringEncoding) → import_encoding w i.of i.core.role ≡ Some encoding → (kind : ShimKind) → kind_of_import i.of i.core.role encoding ≡ Some kind →
    shim_of kind (shims_of w) ≡ None → NamesNoExport (lower_needs w i.core.role)
direct w ok unshared i there encoding encoded kind is none = by (needs (lower_needs w i.core.role) 1) refl
  where
    by : (b : Bool) → needs (lower_needs w i.core.role) 1 ≡ b → NamesNoExport (lower_needs w i.core.role)
    by true e = absurd (true≢false (sym (shim_there w ok unshared i there encoding encoded e kind is) ∙ ap is_some none))
    by false e = role_without w i.core.role e
