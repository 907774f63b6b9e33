-- Imports whose shims are for all modules, those of reads and writes, and those that always have one.
use Rattle.std.proofs.Common.{◌≡◌, ◌∙◌, ◌||◌, ℕ, Bool, true, false, true≢false, not, is_some, List, Option, Some, None, Contains, IsTrue, IsSome, refl, sym, ap, subst}
use Rattle.std.proofs.lemmas.Option.{none-some, same_Some}
use Rattle.std.specs.Option.{option_and_then}
use Rattle.comp_links.proofs.Named.{listed_found}
use Rattle.comp_links.specs.Links.{error_new, link_of, lower_needs, options_in, task_return, is_always_shimmed, payload_realloc, role_realloc}
use Rattle.comp_links.specs.Modules.{UserImport, module_found, user_imports}
use Rattle.comp_links.specs.Roles.{encoding_in, import_encoding, is_main_memory, payload_encoding}
use Rattle.comp_links.specs.Targets.{UserModule, NoType, BuiltIn, Lowered, Operand, TargetOption, WorldFunction}
use Rattle.comp_options.specs.Options.{needs, error_new_set}
use Rattle.comp_roles.specs.declared.imports.Import.{Import}
use Rattle.comp_roles.specs.declared.imports.Import.TheVariants as imports
use Rattle.comp_roles.specs.declared.payloads.PayloadFuncKind.TheVariants as ends
use Rattle.comp_roles.specs.declared.payloads.PayloadInfo.{PayloadInfo}
use Rattle.comp_terms.specs.Generated.{access_role}
use Rattle.comp_terms.specs.Shimmed.{shim_owner}
use Rattle.comp_worlds.specs.Encodable.{IsEncodable}
use Rattle.comp_worlds.specs.Offered.{shared_memory}
use Rattle.comp_worlds.specs.Payloads.{IsPayload}
use Rattle.comp_worlds.specs.Worlds.{IsImportRole}
use Rattle.comp_worlds.specs.declared.world.ComponentWorld.{ComponentWorld}
use Rattle.comp_worlds.specs.declared.world.ValidatedModule.{ValidatedModule}
use Rattle.shim_plan.specs.Needed.{Accessed, access_kind, access_options, access_to, accessed_of, accesses_through, memory_function, function_encoding, function_kind, function_options}
use Rattle.shim_plan.specs.Plans.{shim_of}
use Rattle.shim_plan.specs.declared.kinds.ShimKind.{ShimKind}
use Rattle.shim_plan.specs.declared.kinds.ShimKind.TheVariants as kinds
use Rattle.shim_plan.specs.declared.memory_functions.MemoryFunction.{MemoryFunction}
use Rattle.shim_plan.specs.declared.memory_functions.MemoryFunction.TheVariants as functions
use Rattle.shim_targets.proofs.NeededShims.{access_there, message_there, shim_there}
use Rattle.shim_targets.proofs.Users.{IsImportOf, import_of}
use Rattle.shim_targets.specs.ShimTargets.{which_of, kind_of_import}
use Rattle.standard_kinds.specs.declared.kinds.StringEncoding.{StringEncoding}
use Rattle.world_shims.specs.WorldShims.{shims_of}
use Rattle.world_values.specs.Mentions.{payload_in}

-- ---- modules

-- the module that has an import is found
pub import_found : (w : ComponentWorld) → IsEncodable w → (i : UserImport) (c : Contains (user_imports w) i) → module_found w i.of ≡ Some (import_of w i c).world_module.found
import_found w ok i c =
    let o : IsImportOf w i = import_of w i c in
    ap (module_found w) (sym o.same) ∙ listed_found w ok.valid o.world_module o.listed

-- its encoding is what its role has in each module
pub role_encoded : (w : ComponentWorld) → IsEncodable w → (i : UserImport) → Contains (user_imports w) i → (encoding : StringEncoding) → ((m : ValidatedModule) → encoding_in i.core.role m ≡ Some encoding) → import_encoding w i.of i.core.role ≡ Some encoding
role_encoded w ok i c encoding own = ap (option_and_then (encoding_in i.core.role)) (import_found w ok i c) ∙ own (import_of w i c).world_module.found

-- ---- the link table

-- what it says of an import whose shim is for all modules is the same in each
pub owner_linked : (w : ComponentWorld) (of : UserModule) (m : ValidatedModule) → module_found w of ≡ Some m → (role : Import) → link_of w (shim_owner of role) role ≡ link_of w of role
owner_linked w of m found imports.WaitableSetWait = refl
owner_linked w of m found imports.WaitableSetPoll = refl
owner_linked w of m found (imports.ErrorContextNew encoding) =
    ap (λ (o : Option StringEncoding). BuiltIn error_new NoType (options_in error_new_set None o)) (sym (ap (option_and_then (encoding_in (imports.ErrorContextNew encoding))) found))
owner_linked w of m found role = refl

pub import_linked : (w : ComponentWorld) → IsEncodable w → (i : UserImport) → Contains (user_imports w) i → link_of w (shim_owner i.of i.core.role) i.core.role ≡ link_of w i.of i.core.role
import_linked w ok i c = owner_linked w i.of (import_of w i c).world_module.found (import_found w ok i c) i.core.role

-- the shim of a call, and of a return, is for its module
pub owner_of_lowered : (w : ComponentWorld) (of : UserModule) (role : Import) (function : WorldFunction) (options : List TargetOption) → link_of w of role ≡ Lowered function options → shim_owner of role ≡ of
owner_of_lowered w of imports.WaitableSetWait function options is = cc
owner_of_lowered w of imports.WaitableSetPoll function options is = cc
owner_of_lowered w of (imports.ErrorContextNew encoding) function options is = cc
owner_of_lowered w of role function options is = refl

pub owner_of_return : (w : ComponentWorld) (of : UserModule) (role : Import) (operand : Operand) (options : List TargetOption) → link_of w of role ≡ BuiltIn task_return operand options → shim_owner of role ≡ of
owner_of_return w of imports.WaitableSetWait operand options is = cc
owner_of_return w of imports.WaitableSetPoll operand options is = cc
owner_of_return w of (imports.ErrorContextNew encoding) operand options is = cc
owner_of_return w of role operand options is = refl

-- so is that of a function that has a realloc
pub owner_by_realloc : (w : ComponentWorld) (of : UserModule) (role : Import) → IsTrue (needs (lower_needs w role) 2) → shim_owner of role ≡ of
owner_by_realloc w of imports.WaitableSetWait h = absurd (true≢false (sym h))
owner_by_realloc w of imports.WaitableSetPoll h = absurd (true≢false (sym h))
owner_by_realloc w of (imports.ErrorContextNew encoding) h = absurd (true≢false (sym h))
owner_by_realloc w of role h = refl

-- ---- waits, and functions of error contexts

-- an import that is given such a function and always has a shim reads the debug message of an error context
message_of : (w : ComponentWorld) (role : Import) (function : MemoryFunction) → memory_function role ≡ Some function → is_always_shimmed w role ≡ true → (encoding : StringEncoding) × (role ≡ imports.ErrorContextDebugMessage encoding)
message_of w (imports.ErrorContextDebugMessage encoding) function is h = (encoding, refl)
message_of w (imports.StreamRead p is_async) function is h = absurd (none-some function is)
message_of w (imports.StreamWrite p is_async) function is h = absurd (none-some function is)
message_of w (imports.FutureRead p is_async) function is h = absurd (none-some function is)
message_of w (imports.FutureWrite p is_async) function is h = absurd (none-some function is)
message_of w role function is h = absurd (true≢false (sym h))

-- an import that is given such a function: its encoding, the kind of its shim, and what it needs
pub record FunctionImport (w : ComponentWorld) (of : UserModule) (role : Import) (function : MemoryFunction) : Type 0 where
  pub encoded : (m : ValidatedModule) → encoding_in role m ≡ Some (function_encoding function)
  pub kind : kind_of_import of role (function_encoding function) ≡ Some (function_kind (which_of of) function)
  pub needed : lower_needs w role ≡ (function_options function).0
  pub memory : IsTrue (needs (lower_needs w role) 1)
  pub other : is_main_memory role ≡ false

pub function_import : (w : ComponentWorld) (of : UserModule) (role : Import) (function : MemoryFunction) → memory_function role ≡ Some function → FunctionImport w of role function
function_import w of imports.WaitableSetWait function h =
    subst (FunctionImport w of imports.WaitableSetWait) (same_Some functions.Wait function h) (record { encoded = λ m. refl; kind = refl; needed = refl; memory = refl; other = refl })
function_import w of imports.WaitableSetPoll function h =
    subst (FunctionImport w of imports.WaitableSetPoll) (same_Some functions.Poll function h) (record { encoded = λ m. refl; kind = refl; needed = refl; memory = refl; other = refl })
function_import w of (imports.ErrorContextNew encoding) function h =
    subst (FunctionImport w of (imports.ErrorContextNew encoding)) (same_Some (functions.NewError encoding) function h) (record { encoded = λ m. refl; kind = refl; needed = refl; memory = refl; other = refl })
function_import w of (imports.ErrorContextDebugMessage encoding) function h =
    subst (FunctionImport w of (imports.ErrorContextDebugMessage encoding)) (same_Some (functions.ErrorMessage encoding) function h) (record { encoded = λ m. refl; kind = refl; needed = refl; memory = refl; other = refl })
function_import w of role function h = absurd (none-some function h)

-- it has its shim, where main imports no memory, or always
pub function_there : (w : ComponentWorld) → IsEncodable w → (i : UserImport) → Contains (user_imports w) i → (function : MemoryFunction) → memory_function i.core.role ≡ Some function → (is_always_shimmed w i.core.role ≡ false → shared_memory w ≡ None) →
    IsSome (shim_of (function_kind (which_of i.of) function) (shims_of w))
function_there w ok i c function is unshared = by (is_always_shimmed w i.core.role) refl
  where
    p : FunctionImport w i.of i.core.role function
    p = function_import w i.of i.core.role function is

    there : (encoding : StringEncoding) → i.core.role ≡ imports.ErrorContextDebugMessage encoding → IsSome (shim_of (function_kind (which_of i.of) function) (shims_of w))
    there encoding same =
        let named : functions.ErrorMessage encoding ≡ function = same_Some (functions.ErrorMessage encoding) function (ap memory_function (sym same) ∙ is) in
        subst (λ (f : MemoryFunction). IsSome (shim_of (function_kind (which_of i.of) f) (shims_of w))) named
        (message_there w i.of (import_of w i c).world_module.found (import_found w ok i c) i.core (import_of w i c).there encoding same)

    by : (b : Bool) → is_always_shimmed w i.core.role ≡ b → IsSome (shim_of (function_kind (which_of i.of) function) (shims_of w))
    by true always = let m = message_of w i.core.role function is always in there m.0 m.1
    by false apart = shim_there w ok (unshared apart) i c (function_encoding function) (role_encoded w ok i c (function_encoding function) p.encoded) p.memory (function_kind (which_of i.of) function) p.kind

-- ---- reads and writes

-- an import that is one: the kind of its shim, and what it needs
pub record AccessImport (w : ComponentWorld) (of : UserModule) (role : Import) (a : Accessed) : Type 0 where
  pub same : role ≡ access_role a.info a.kind a.is_async
  pub payload : payload_in role ≡ Some a.info
  pub encoded : (m : ValidatedModule) → encoding_in role m ≡ Some (payload_encoding a.info a.info.ty m)
  pub kind : (encoding : StringEncoding) → kind_of_import of role encoding ≡ Some (access_kind (which_of of) a)
  pub needed : lower_needs w role ≡ (access_options w a).0
  pub always : is_always_shimmed w role ≡ needs (access_options w a).0 2
  pub reallocated : role_realloc w of role ≡ payload_realloc w of a.info
  pub own : shim_owner of role ≡ of
  pub right : IsImportRole w role → IsPayload w a.info
  pub other : is_main_memory role ≡ false

access_by_stream_read : (w : ComponentWorld) (of : UserModule) (p : PayloadInfo) (is_async : Bool) → AccessImport w of (imports.StreamRead p is_async) (access_to p ends.StreamRead is_async)
access_by_stream_read w of p is_async = record { same = refl; payload = refl; encoded = λ m. refl; kind = λ encoding. refl; needed = refl; always = refl; reallocated = refl; own = refl; right = λ h. h; other = refl }

access_by_stream_write : (w : ComponentWorld) (of : UserModule) (p : PayloadInfo) (is_async : Bool) → AccessImport w of (imports.StreamWrite p is_async) (access_to p ends.StreamWrite is_async)
access_by_stream_write w of p is_async = record { same = refl; payload = refl; encoded = λ m. refl; kind = λ encoding. refl; needed = refl; always = refl; reallocated = refl; own = refl; right = λ h. h; other = refl }

access_by_future_read : (w : ComponentWorld) (of : UserModule) (p : PayloadInfo) (is_async : Bool) → AccessImport w of (imports.FutureRead p is_async) (access_to p ends.FutureRead is_async)
access_by_future_read w of p is_async = record { same = refl; payload = refl; encoded = λ m. refl; kind = λ encoding. refl; needed = refl; always = refl; reallocated = refl; own = refl; right = λ h. h; other = refl }

access_by_future_write : (w : ComponentWorld) (of : UserModule) (p : PayloadInfo) (is_async : Bool) → AccessImport w of (imports.FutureWrite p is_async) (access_to p ends.FutureWrite is_async)
access_by_future_write w of p is_async = record { same = refl; payload = refl; encoded = λ m. refl; kind = λ encoding. refl; needed = refl; always = refl; reallocated = refl; own = refl; right = λ h. h; other = refl }

pub access_import_of : (w : ComponentWorld) (of : UserModule) (role : Import) (a : Accessed) → accessed_of role ≡ Some a → AccessImport w of role a
access_import_of w of (imports.StreamRead p is_async) a h = subst (AccessImport w of (imports.StreamRead p is_async)) (same_Some (access_to p ends.StreamRead is_async) a h) (access_by_stream_read w of p is_async)
access_import_of w of (imports.StreamWrite p is_async) a h = subst (AccessImport w of (imports.StreamWrite p is_async)) (same_Some (access_to p ends.StreamWrite is_async) a h) (access_by_stream_write w of p is_async)
access_import_of w of (imports.FutureRead p is_async) a h = subst (AccessImport w of (imports.FutureRead p is_async)) (same_Some (access_to p ends.FutureRead is_async) a h) (access_by_future_read w of p is_async)
access_import_of w of (imports.FutureWrite p is_async) a h = subst (AccessImport w of (imports.FutureWrite p is_async)) (same_Some (access_to p ends.FutureWrite is_async) a h) (access_by_future_write w of p is_async)
access_import_of w of role a h = absurd (none-some a h)

-- it has its shim, where main imports no memory, or where it has a realloc
pub access_shim_there : (w : ComponentWorld) → IsEncodable w → (i : UserImport) → Contains (user_imports w) i → (a : Accessed) → accessed_of i.core.role ≡ Some a → accesses_through w a ≡ true → IsSome (shim_of (access_kind (which_of i.of) a) (shims_of w))
access_shim_there w ok i c a is through =
    let own : AccessImport w i.of i.core.role a = access_import_of w i.of i.core.role a is in
    access_there w i.of (import_of w i c).world_module.found (import_found w ok i c) i.core (import_of w i c).there a.info a.kind a.is_async own.same through

-- ---- imports that always have a shim

pub record AlwaysShimmed (w : ComponentWorld) (i : UserImport) : Type 0 where
  pub encoding : StringEncoding
  pub encoded : import_encoding w i.of i.core.role ≡ Some encoding
  pub kind : ShimKind
  pub is : kind_of_import i.of i.core.role encoding ≡ Some kind
  pub there : IsSome (shim_of kind (shims_of w))

-- a read or a write that has a realloc
or_first : (a b : Bool) → a ≡ true → (a || b) ≡ true
or_first a b h = ap (λ (x : Bool). x || b) h

always_accessed : (w : ComponentWorld) → IsEncodable w → (i : UserImport) → Contains (user_imports w) i → (a : Accessed) → accessed_of i.core.role ≡ Some a → is_always_shimmed w i.core.role ≡ true → AlwaysShimmed w i
always_accessed w ok i c a is always =
    let own : AccessImport w i.of i.core.role a = access_import_of w i.of i.core.role a is in
    let found : ValidatedModule = (import_of w i c).world_module.found in
    let through : accesses_through w a ≡ true = or_first (needs (access_options w a).0 2) (not (is_some (shared_memory w))) (sym own.always ∙ always) in
    let encoding : StringEncoding = payload_encoding a.info a.info.ty found in
    record {
      encoding = encoding;
      encoded = ap (option_and_then (encoding_in i.core.role)) (import_found w ok i c) ∙ own.encoded found;
      kind = access_kind (which_of i.of) a;
      is = own.kind encoding;
      there = access_shim_there w ok i c a is through;
    }

pub always_shimmed : (w : ComponentWorld) → IsEncodable w → (of : UserModule) (name field : List ℕ) (role : Import) → Contains (user_imports w) (record { of = of; core = record { module_name = name; field = field; role = role } }) → is_always_shimmed w role ≡ true →
    AlwaysShimmed w (record { of = of; core = record { module_name = name; field = field; role = role } })
always_shimmed w ok of name field (imports.ErrorContextDebugMessage encoding) c always =
    let i : UserImport = record { of = of; core = record { module_name = name; field = field; role = imports.ErrorContextDebugMessage encoding } } in
    record {
      encoding = encoding;
      encoded = role_encoded w ok i c encoding (λ m. refl);
      kind = kinds.ErrorContextDebugMessage (which_of of) encoding;
      is = refl;
      there = message_there w of (import_of w i c).world_module.found (import_found w ok i c) i.core (import_of w i c).there encoding refl;
    }
always_shimmed w ok of name field (imports.StreamRead p is_async) c always =
    always_accessed w ok (record { of = of; core = record { module_name = name; field = field; role = imports.StreamRead p is_async } }) c (access_to p ends.StreamRead is_async) refl always
always_shimmed w ok of name field (imports.StreamWrite p is_async) c always =
    always_accessed w ok (record { of = of; core = record { module_name = name; field = field; role = imports.StreamWrite p is_async } }) c (access_to p ends.StreamWrite is_async) refl always
always_shimmed w ok of name field (imports.FutureRead p is_async) c always =
    always_accessed w ok (record { of = of; core = record { module_name = name; field = field; role = imports.FutureRead p is_async } }) c (access_to p ends.FutureRead is_async) refl always
always_shimmed w ok of name field (imports.FutureWrite p is_async) c always =
    always_accessed w ok (record { of = of; core = record { module_name = name; field = field; role = imports.FutureWrite p is_async } }) c (access_to p ends.FutureWrite is_async) refl always
always_shimmed w ok of name field role c always = absurd (true≢false (sym always))
