-- What a shim stands for, by its kind.
use Rattle.std.proofs.Common.{◌≡◌, ◌∙◌, ℕ, Bool, true, false, true≢false, List, Option, Some, None, refl, sym, ap, ap₂, subst}
use Rattle.std.specs.Option.{option_map, option_and_then}
use Rattle.std.proofs.lemmas.Option.{none-some, same_Some}
use Rattle.standard_kinds.specs.declared.kinds.StringEncoding.{StringEncoding}
use Rattle.standard_kinds.specs.declared.kinds.StringEncoding.TheVariants as encodings
use Rattle.comp_bytes.specs.Spaces.{kind_space}
use Rattle.comp_bytes.specs.declared.def.Def.{Def}
use Rattle.wit_data.specs.declared.functions.Function.{Function}
use Rattle.wit_data.specs.declared.ids.InterfaceId.{InterfaceId}
use Rattle.wit_data.specs.declared.types.Type.{«Type» as Ty}
use Rattle.wit_data.specs.declared.worlds.WorldKey.{WorldKey}
use Rattle.wit_data.specs.declared.worlds.WorldKey.TheVariants as keys
use Rattle.comp_roles.specs.declared.imports.Import.{Import}
use Rattle.comp_roles.specs.declared.imports.Import.TheVariants as imports
use Rattle.comp_roles.specs.declared.libraries.MainOrAdapter.{MainOrAdapter}
use Rattle.comp_roles.specs.declared.libraries.MainOrAdapter.TheVariants as users
use Rattle.comp_roles.specs.declared.payloads.PayloadFuncKind.{PayloadFuncKind}
use Rattle.comp_roles.specs.declared.payloads.PayloadFuncKind.TheVariants as ends
use Rattle.comp_roles.specs.declared.payloads.PayloadInfo.{PayloadInfo}
use Rattle.comp_worlds.specs.Payloads.{IsPayload, payload_scope}
use Rattle.comp_worlds.specs.Encodable.{IsEncodable}
use Rattle.comp_worlds.specs.ExportOrder.{AreExportsInOrder}
use Rattle.comp_worlds.specs.WorldContents.{imported_name}
use Rattle.comp_worlds.specs.Worlds.{IsImportRole, IsOwnFunction}
use Rattle.comp_worlds.specs.declared.lowerings.LoweringKey.{LoweringKey}
use Rattle.comp_worlds.specs.declared.world.ComponentWorld.{ComponentWorld}
use Rattle.comp_links.specs.Links.{error_message, link_of, lower_needs, lower_options, lower_realloc, module_of, payload_realloc, role_realloc, options_in, task_return}
use Rattle.comp_links.specs.Modules.{UserImport, module_found}
use Rattle.comp_links.specs.Roles.{import_encoding, payload_encoding}
use Rattle.comp_links.specs.Roles.{encoding_in as encoding_of_role}
use Rattle.comp_links.specs.Targets.{UserModule as User, Main, Adapter, ExportRef, WorldFunction, OfRoot, OfInterface, Lowered, BuiltIn, NoType, Target, operand_if_any, payload_operand}
use Rattle.comp_terms.specs.Generated.{access_role, interface_imported, role_of_kind, export_of_kind, OfExport}
use Rattle.comp_terms.specs.Shimmed.{shim_owner}
use Rattle.comp_terms.specs.Terms as terms
use Rattle.core_options.specs.MainOptions.{access_name, IsAliasOf, HasLowerOptions, function_name, function_wanted}
use Rattle.comp_options.specs.Options.{needs, error_message_set}
use Rattle.comp_worlds.specs.declared.world.ValidatedModule.{ValidatedModule}
use Rattle.shim_plan.specs.Needed.{access_to, accessed_of, function_kind, function_options}
use Rattle.shim_plan.specs.declared.memory_functions.MemoryFunction.{MemoryFunction}
use Rattle.shim_plan.specs.declared.memory_functions.MemoryFunction.TheVariants as functions
use Rattle.shim_plan.specs.declared.kinds.ShimKind.{ShimKind}
use Rattle.shim_plan.specs.declared.kinds.ShimKind.TheVariants as kinds
use Rattle.shim_plan.specs.declared.shims.Shim.{Shim}
use Rattle.shim_targets.specs.ShimTargets.{StandsFor, StandsForExport, StandsForOne, kind_of_import, which_of}
use Rattle.interface_needs.proofs.PayloadNeeds.{payload_for}
use Rattle.interface_needs.specs.RootNeeds.{IsPayloadFor}
use Rattle.shim_targets.proofs.Owners.{AccessImport, access_import_of}
use Rattle.shim_targets.proofs.Users.{among_all}
use Rattle.core_options.proofs.PayloadFunctions.{access_linked}
use Rattle.root_imports.proofs.Supplying.{payload_supplied, return_result, return_supplied}
use Rattle.root_imports.specs.Imports.{IsResult}
use Rattle.root_imports.specs.Met.{AreExportsMet, IsSuppliedFor}
use Rattle.root_imports.specs.declared.met_types.MetTypes.{MetTypes}
use Rattle.shim_targets.proofs.ByKind.{of_export, for_import, for_lowering, for_return, for_export}
use Rattle.main_fixup.specs.Filling.{HasShimOptions, IsAccessBehind, IsUserNamed, OffersExport, IsUsed, IsUsedAt, IsFunctionAt, IsBehind, IsReturnBehind, IsFunctionBehind, ServesShim, function_at}
use Rattle.main_fixup.proofs.Named.{import_named, shim_offered}
use Rattle.main_fixup.proofs.Uses.{used_by_import, used_of_import}

-- whether a kind is that of a lowering, and then its string encoding
abbrev is_lowering : ShimKind → Bool
is_lowering (kinds.IndirectLowering interface function which encoding) = true
is_lowering kind = false

abbrev encoding_in : ShimKind → StringEncoding
encoding_in (kinds.IndirectLowering interface function which encoding) = encoding
encoding_in kind = encodings.UTF8

-- the import that a shim of this kind stands for
record Called (w : ComponentWorld) (i : UserImport) (interface : Option WorldKey) (function : LoweringKey) (which : MainOrAdapter) (encoding : StringEncoding) : Type 0 where
  called : WorldFunction
  at : function_at w interface function.name ≡ Some called
  used : IsUsed w called
  of : i.of ≡ module_of which
  linked : link_of w i.of i.core.role ≡ Lowered called (lower_options w i.of i.core.role)
  encoded : import_encoding w i.of i.core.role ≡ Some encoding
  reallocated : role_realloc w i.of i.core.role ≡ lower_realloc w i.of

-- an encoding of a role with the kind of a lowering is that of the kind
same_encoding : (of : User) (role : Import) (e : StringEncoding) (kind : ShimKind) → kind_of_import of role e ≡ Some kind → is_lowering kind ≡ true → encoding_in kind ≡ e
same_encoding of (imports.WorldFunc key name abi) e kind h lowered = ap encoding_in (sym (same_Some _ kind h))
same_encoding of (imports.InterfaceFunc key id name abi) e kind h lowered = ap encoding_in (sym (same_Some _ kind h))
same_encoding of (imports.ExportedTaskReturn key interface f) e kind h lowered = absurd (true≢false (sym lowered ∙ sym (ap is_lowering (same_Some _ kind h))))
same_encoding of imports.WaitableSetWait e kind h lowered = absurd (true≢false (sym lowered ∙ sym (ap is_lowering (same_Some kinds.WaitableSetWait kind h))))
same_encoding of imports.WaitableSetPoll e kind h lowered = absurd (true≢false (sym lowered ∙ sym (ap is_lowering (same_Some kinds.WaitableSetPoll kind h))))
same_encoding of (imports.ErrorContextNew own) e kind h lowered = absurd (true≢false (sym lowered ∙ sym (ap is_lowering (same_Some (kinds.ErrorContextNew own) kind h))))
same_encoding of (imports.ErrorContextDebugMessage own) e kind h lowered = absurd (true≢false (sym lowered ∙ sym (ap is_lowering (same_Some (kinds.ErrorContextDebugMessage (which_of of) own) kind h))))
same_encoding of (imports.StreamRead p is_async) e kind h lowered = absurd (true≢false (sym lowered ∙ sym (ap is_lowering (same_Some (kinds.PayloadFunc (which_of of) p ends.StreamRead is_async) kind h))))
same_encoding of (imports.StreamWrite p is_async) e kind h lowered = absurd (true≢false (sym lowered ∙ sym (ap is_lowering (same_Some (kinds.PayloadFunc (which_of of) p ends.StreamWrite is_async) kind h))))
same_encoding of (imports.FutureRead p is_async) e kind h lowered = absurd (true≢false (sym lowered ∙ sym (ap is_lowering (same_Some (kinds.PayloadFunc (which_of of) p ends.FutureRead is_async) kind h))))
same_encoding of (imports.FutureWrite p is_async) e kind h lowered = absurd (true≢false (sym lowered ∙ sym (ap is_lowering (same_Some (kinds.PayloadFunc (which_of of) p ends.FutureWrite is_async) kind h))))
same_encoding of role e kind h lowered = absurd (none-some kind h)

root_linked : (w : ComponentWorld) (of : User) (role : Import) (function : LoweringKey) → role ≡ imports.WorldFunc (keys.Name function.name) function.name function.abi → link_of w of role ≡ Lowered (OfRoot function.name) (lower_options w of role)
root_linked w of role function is = subst (λ (r : Import). link_of w of r ≡ Lowered (OfRoot function.name) (lower_options w of r)) (sym is) refl

interface_linked : (w : ComponentWorld) (of : User) (role : Import) (key : WorldKey) (id : InterfaceId) (function : LoweringKey) → role ≡ imports.InterfaceFunc key id function.name function.abi →
    link_of w of role ≡ Lowered (OfInterface id function.name) (lower_options w of role)
interface_linked w of role key id function is = subst (λ (r : Import). link_of w of r ≡ Lowered (OfInterface id function.name) (lower_options w of r)) (sym is) refl

-- a module, and the role of one of its imports
abbrev Caller : Type 0
Caller = User × Import

abbrev caller : User → Import → Caller
caller of role = (of, role)

called_by : (w : ComponentWorld) (s : Shim) (i : UserImport) → StandsFor w s i → (interface : Option WorldKey) (function : LoweringKey) (which : MainOrAdapter) (encoding : StringEncoding) →
    s.kind ≡ kinds.IndirectLowering interface function which encoding → Called w i interface function which encoding
called_by w s i h None function which encoding is =
    let both : caller (shim_owner i.of i.core.role) i.core.role ≡ caller (module_of which) (imports.WorldFunc (keys.Name function.name) function.name function.abi) =
    same_Some (caller (shim_owner i.of i.core.role) i.core.role) (caller (module_of which) (imports.WorldFunc (keys.Name function.name) function.name function.abi)) (sym h.is.of_kind ∙ ap (role_of_kind w) is) in
    let role : i.core.role ≡ imports.WorldFunc (keys.Name function.name) function.name function.abi = ap (λ (p : Caller). p.1) both in
    record {
      called = OfRoot function.name;
      at = refl;
      used = used_by_import w i function.name (ap imported_name role) h.present;
      of = sym (ap (shim_owner i.of) role) ∙ ap (λ (p : Caller). p.0) both;
      linked = root_linked w i.of i.core.role function role;
      encoded = h.encoded ∙ ap Some (sym (same_encoding i.of i.core.role h.encoding s.kind h.kind (ap is_lowering is)) ∙ ap encoding_in is);
      reallocated = ap (role_realloc w i.of) role;
    }
called_by w s i h (Some key) function which encoding is = by (interface_imported w key) refl (ap (role_of_kind w) (sym is) ∙ h.is.of_kind)
  where
    by : (o : Option InterfaceId) → interface_imported w key ≡ o → option_map (λ (id : InterfaceId). caller (module_of which) (imports.InterfaceFunc key id function.name function.abi)) o ≡ Some (caller (shim_owner i.of i.core.role) i.core.role) → Called w i (Some key) function which encoding
    by None at e = absurd (none-some (caller (shim_owner i.of i.core.role) i.core.role) e)
    by (Some id) at e =
        let both : caller (module_of which) (imports.InterfaceFunc key id function.name function.abi) ≡ caller (shim_owner i.of i.core.role) i.core.role =
        same_Some (caller (module_of which) (imports.InterfaceFunc key id function.name function.abi)) (caller (shim_owner i.of i.core.role) i.core.role) e in
        let role : i.core.role ≡ imports.InterfaceFunc key id function.name function.abi = sym (ap (λ (p : Caller). p.1) both) in
        record {
          called = OfInterface id function.name;
          at = ap (option_map (λ id. OfInterface id function.name)) at;
          used = used_of_import w i key id function.name function.abi role h.is.right h.present;
          of = sym (ap (shim_owner i.of) role) ∙ sym (ap (λ (p : Caller). p.0) both);
          linked = interface_linked w i.of i.core.role key id function role;
          encoded = h.encoded ∙ ap Some (sym (same_encoding i.of i.core.role h.encoding s.kind h.kind (ap is_lowering is)) ∙ ap encoding_in is);
          reallocated = ap (role_realloc w i.of) role;
        }

module _ (w : ComponentWorld) (s : Shim) (h : StandsForOne w s) (interface : Option WorldKey) (function : LoweringKey) (which : MainOrAdapter) (encoding : StringEncoding) (is : s.kind ≡ kinds.IndirectLowering interface function which encoding) where
  -- the function is used
  pub called_used : IsUsedAt w interface function.name
  called_used =
      let i = for_lowering w s interface function which encoding is h in
      let c = called_by w s i.0 i.1 interface function which encoding is in
      record { function = c.called; at = c.at; used = c.used }

  -- the module whose import it is
  pub calling_named : IsUserNamed w (module_of which)
  calling_named =
      let i = for_lowering w s interface function which encoding is h in
      let c = called_by w s i.0 i.1 interface function which encoding is in
      subst (IsUserNamed w) c.of (import_named w i.0 i.1.present)

  -- the function that is found is the one behind the shim
  pub found_behind : (ds : List Def) (realloc : Option ExportRef) (index : ℕ) → realloc ≡ lower_realloc w (module_of which) → IsFunctionAt w ds interface function.name index → IsBehind w ds s encoding realloc index
  found_behind ds realloc index own found =
      let i = for_lowering w s interface function which encoding is h in
      let c = called_by w s i.0 i.1 interface function which encoding is in
      record { given = i.0; stands = i.1; encoded = c.encoded; reallocated = own ∙ (ap (lower_realloc w) (sym c.of) ∙ sym c.reallocated); function = c.called; linked = c.linked; is = found c.called c.at }

-- ---- returns

-- the kind of a return
record ReturnKind : Type 0 where
  interface : Option InterfaceId
  result : Option Ty
  which : MainOrAdapter
  encoding : StringEncoding

abbrev return_in : ShimKind → Option ReturnKind
return_in (kinds.TaskReturn interface name result which encoding) = Some (record { interface = interface; result = result; which = which; encoding = encoding })
return_in kind = None

named_back : (of : User) → module_of (which_of of) ≡ of
named_back Main = refl
named_back (Adapter name) = refl

-- an import with this kind returns from a function
record Returning (of : User) (role : Import) (e : StringEncoding) (k : ReturnKind) : Type 0 where
  key : WorldKey
  function : Function
  is : role ≡ imports.ExportedTaskReturn key k.interface function
  returns : function.result ≡ k.result
  from : of ≡ module_of k.which
  encoded : e ≡ k.encoding

returning : (of : User) (role : Import) (e : StringEncoding) (kind : ShimKind) → kind_of_import of role e ≡ Some kind → (k : ReturnKind) → return_in kind ≡ Some k → Returning of role e k
returning of (imports.ExportedTaskReturn key interface f) e kind h k is =
    let same : return_in kind ≡ Some (record { interface = interface; result = f.result; which = which_of of; encoding = e }) = ap return_in (sym (same_Some _ kind h)) in
    let one : record { interface = interface; result = f.result; which = which_of of; encoding = e } ≡ k = same_Some (record { interface = interface; result = f.result; which = which_of of; encoding = e }) k (sym same ∙ is) in
    record {
      key = key;
      function = f;
      is = ap (λ (x : ReturnKind). imports.ExportedTaskReturn key x.interface f) one;
      returns = ap (λ (x : ReturnKind). x.result) one;
      from = sym (named_back of) ∙ ap (λ (x : ReturnKind). module_of x.which) one;
      encoded = ap (λ (x : ReturnKind). x.encoding) one;
    }
returning of (imports.WorldFunc key name abi) e kind h k is = absurd (none-some k (ap return_in (same_Some _ kind h) ∙ is))
returning of (imports.InterfaceFunc key id name abi) e kind h k is = absurd (none-some k (ap return_in (same_Some _ kind h) ∙ is))
returning of imports.WaitableSetWait e kind h k is = absurd (none-some k (ap return_in (same_Some kinds.WaitableSetWait kind h) ∙ is))
returning of imports.WaitableSetPoll e kind h k is = absurd (none-some k (ap return_in (same_Some kinds.WaitableSetPoll kind h) ∙ is))
returning of (imports.ErrorContextNew own) e kind h k is = absurd (none-some k (ap return_in (same_Some (kinds.ErrorContextNew own) kind h) ∙ is))
returning of (imports.ErrorContextDebugMessage own) e kind h k is = absurd (none-some k (ap return_in (same_Some (kinds.ErrorContextDebugMessage (which_of of) own) kind h) ∙ is))
returning of (imports.StreamRead p is_async) e kind h k is = absurd (none-some k (ap return_in (same_Some (kinds.PayloadFunc (which_of of) p ends.StreamRead is_async) kind h) ∙ is))
returning of (imports.StreamWrite p is_async) e kind h k is = absurd (none-some k (ap return_in (same_Some (kinds.PayloadFunc (which_of of) p ends.StreamWrite is_async) kind h) ∙ is))
returning of (imports.FutureRead p is_async) e kind h k is = absurd (none-some k (ap return_in (same_Some (kinds.PayloadFunc (which_of of) p ends.FutureRead is_async) kind h) ∙ is))
returning of (imports.FutureWrite p is_async) e kind h k is = absurd (none-some k (ap return_in (same_Some (kinds.PayloadFunc (which_of of) p ends.FutureWrite is_async) kind h) ∙ is))
returning of role e kind h k is = absurd (none-some kind h)

module _ (w : ComponentWorld) (ok : IsEncodable w) (s : Shim) (h : StandsForOne w s) (interface : Option InterfaceId) (name : List ℕ) (result : Option Ty) (which : MainOrAdapter) (encoding : StringEncoding) (is : s.kind ≡ kinds.TaskReturn interface name result which encoding) where
  given_return : (i : UserImport) × StandsFor w s i
  given_return = for_return w s interface name result which encoding is h

  parts : Returning given_return.0.of given_return.0.core.role given_return.1.encoding (record { interface = interface; result = result; which = which; encoding = encoding })
  parts = returning given_return.0.of given_return.0.core.role given_return.1.encoding s.kind given_return.1.kind (record { interface = interface; result = result; which = which; encoding = encoding }) (ap return_in is)

  own_return : IsOwnFunction w parts.key interface parts.function
  own_return = subst (λ (role : Import). IsImportRole w role) parts.is given_return.1.is.right

  -- the module whose import it is
  pub returning_named : IsUserNamed w (module_of which)
  returning_named = subst (IsUserNamed w) parts.from (import_named w given_return.0 given_return.1.present)

  -- the function's result, and what that is made of
  pub returning_supplied : (met : MetTypes) → AreExportsMet w met → AreExportsInOrder w → IsSuppliedFor w met interface
  returning_supplied met exports ordered = return_supplied w ok met exports ordered parts.key interface parts.function own_return

  pub return_found : (realloc : Option ExportRef) → realloc ≡ lower_realloc w (module_of which) → IsReturnBehind w s encoding realloc interface result
  return_found realloc own =
      let i = given_return.0 in
      let options = lower_options w i.of in
      record {
        given = i;
        stands = given_return.1;
        encoded = given_return.1.encoded ∙ ap Some parts.encoded;
        reallocated = own ∙ (ap (lower_realloc w) (sym parts.from) ∙ sym (ap (role_realloc w i.of) parts.is));
        linked = subst (λ (role : Import). link_of w i.of role ≡ BuiltIn task_return (operand_if_any result) (options role)) (sym parts.is) (ap (λ r. BuiltIn task_return (operand_if_any r) (options (imports.ExportedTaskReturn parts.key interface parts.function))) parts.returns);
        is = subst (λ r. IsResult w interface r) parts.returns (return_result w ok parts.key interface parts.function own_return);
      }

-- ---- waits, and functions of error contexts

module _ (w : ComponentWorld) (s : Shim) (h : StandsForOne w s) where
  -- a shim of such a kind stands for an import, whose role is that of the kind
  stands_as : (of : User) (role : Import) → of_export s.kind ≡ false → role_of_kind w s.kind ≡ Some (caller of role) → (i : UserImport) × StandsFor w s i × (caller of role ≡ caller (shim_owner i.of i.core.role) i.core.role)
  stands_as of role other is =
      let i = for_import w s other h in
      (i.0, i.1, same_Some (caller of role) (caller (shim_owner i.0.of i.0.core.role) i.0.core.role) (sym is ∙ i.1.is.of_kind))

  -- what is behind one of a kind that all modules have in common
  function_of_all : (function : MemoryFunction) (role : Import) → s.kind ≡ function_kind users.Main function → of_export (function_kind users.Main function) ≡ false → role_of_kind w (function_kind users.Main function) ≡ Some (caller Main role) → lower_needs w role ≡ (function_options function).0 →
      needs (function_options function).0 2 ≡ false → link_of w Main role ≡ BuiltIn (function_name function) NoType (function_wanted function None) → IsFunctionBehind w s function None
  function_of_all function role is other of_kind needed plain linked =
      let i = stands_as Main role (ap of_export is ∙ other) (ap (role_of_kind w) is ∙ of_kind) in
      record {
        given = i.0;
        stands = i.1;
        needed = subst (λ (p : Caller). lower_needs w p.1 ≡ (function_options function).0) i.2 needed;
        reallocated = λ n. absurd (true≢false (sym n ∙ plain));
        linked = subst (λ (p : Caller). link_of w p.0 p.1 ≡ BuiltIn (function_name function) NoType (function_wanted function None)) i.2 linked;
      }

  pub function_found : (function : MemoryFunction) → s.kind ≡ function_kind users.Main function → needs (function_options function).0 2 ≡ false → IsFunctionBehind w s function None
  function_found functions.Wait is plain = function_of_all functions.Wait imports.WaitableSetWait is refl refl refl plain refl
  function_found functions.Poll is plain = function_of_all functions.Poll imports.WaitableSetPoll is refl refl refl plain refl
  function_found (functions.NewError encoding) is plain = function_of_all (functions.NewError encoding) (imports.ErrorContextNew encoding) is refl refl refl plain refl
  function_found (functions.ErrorMessage encoding) is plain = absurd (true≢false plain)

  module _ (which : MainOrAdapter) (encoding : StringEncoding) (is : s.kind ≡ kinds.ErrorContextDebugMessage which encoding) where
    message_stands : (i : UserImport) × StandsFor w s i × (caller (module_of which) (imports.ErrorContextDebugMessage encoding) ≡ caller (shim_owner i.of i.core.role) i.core.role)
    message_stands = stands_as (module_of which) (imports.ErrorContextDebugMessage encoding) (ap of_export is) (ap (role_of_kind w) is)

    message_role : imports.ErrorContextDebugMessage encoding ≡ message_stands.0.core.role
    message_role = ap (λ (p : Caller). p.1) message_stands.2

    message_of : module_of which ≡ message_stands.0.of
    message_of = ap (λ (p : Caller). p.0) message_stands.2 ∙ ap (shim_owner message_stands.0.of) (sym message_role)

    -- the module whose import it is
    pub message_named : IsUserNamed w (module_of which)
    message_named = subst (IsUserNamed w) (sym message_of) (import_named w message_stands.0 message_stands.1.present)

    -- the encoding is the role's own in each module
    message_encoded : import_encoding w (module_of which) (imports.ErrorContextDebugMessage encoding) ≡ Some encoding
    message_encoded = by (module_found w (module_of which)) (subst (λ (p : Caller). import_encoding w p.0 p.1 ≡ Some message_stands.1.encoding) (sym both) message_stands.1.encoded)
      where
        both : caller (module_of which) (imports.ErrorContextDebugMessage encoding) ≡ caller message_stands.0.of message_stands.0.core.role
        both = ap₂ caller message_of message_role

        by : (o : Option ValidatedModule) → option_and_then (encoding_of_role (imports.ErrorContextDebugMessage encoding)) o ≡ Some message_stands.1.encoding → option_and_then (encoding_of_role (imports.ErrorContextDebugMessage encoding)) o ≡ Some encoding
        by (Some m) e = refl
        by None e = absurd (none-some message_stands.1.encoding e)

    pub message_found : (realloc : Option ExportRef) → realloc ≡ lower_realloc w (module_of which) → IsFunctionBehind w s (functions.ErrorMessage encoding) realloc
    message_found realloc own =
        let wanted : Option ExportRef → Option StringEncoding → Target = λ r e. BuiltIn error_message NoType (options_in error_message_set r e) in
        let linked : link_of w (module_of which) (imports.ErrorContextDebugMessage encoding) ≡ wanted realloc (Some encoding) = ap₂ wanted (sym own) message_encoded in
        record {
          given = message_stands.0;
          stands = message_stands.1;
          needed = ap (lower_needs w) (sym message_role);
          reallocated = λ n. own ∙ (ap (lower_realloc w) message_of ∙ ap (role_realloc w message_stands.0.of) message_role);
          linked = subst (λ (p : Caller). link_of w p.0 p.1 ≡ wanted realloc (Some encoding)) message_stands.2 linked;
        }

-- ---- reads and writes

-- the role of one
accessed_back : (p : PayloadInfo) (kind : PayloadFuncKind) (is_async : Bool) → accessed_of (access_role p kind is_async) ≡ Some (access_to p kind is_async)
accessed_back p ends.FutureRead is_async = refl
accessed_back p ends.FutureWrite is_async = refl
accessed_back p ends.StreamRead is_async = refl
accessed_back p ends.StreamWrite is_async = refl

module _ (w : ComponentWorld) (ok : IsEncodable w) (s : Shim) (h : StandsForOne w s) (which : MainOrAdapter) (p : PayloadInfo) (kind : PayloadFuncKind) (is_async : Bool) (is : s.kind ≡ kinds.PayloadFunc which p kind is_async) where
  access_stands : (i : UserImport) × StandsFor w s i × (caller (module_of which) (access_role p kind is_async) ≡ caller (shim_owner i.of i.core.role) i.core.role)
  access_stands = stands_as w s h (module_of which) (access_role p kind is_async) (ap of_export is) (ap (role_of_kind w) is)

  abbrev access_given : UserImport
  access_given = access_stands.0

  same_role : access_role p kind is_async ≡ access_given.core.role
  same_role = ap (λ (x : Caller). x.1) access_stands.2

  own_access : AccessImport w access_given.of access_given.core.role (access_to p kind is_async)
  own_access = access_import_of w access_given.of access_given.core.role (access_to p kind is_async) (ap accessed_of (sym same_role) ∙ accessed_back p kind is_async)

  access_of : module_of which ≡ access_given.of
  access_of = ap (λ (x : Caller). x.0) access_stands.2 ∙ own_access.own

  -- the module whose import it is
  pub access_named : IsUserNamed w (module_of which)
  access_named = subst (IsUserNamed w) (sym access_of) (import_named w access_given access_stands.1.present)

  -- the stream or the future is one of the world
  access_payload : IsPayload w p
  access_payload = own_access.right access_stands.1.is.right

  pub access_types : IsPayloadFor w (payload_scope p) p.ty
  access_types = payload_for w ok access_given.core (among_all w access_given access_stands.1.present) p own_access.payload access_payload

  pub access_supplied : (met : MetTypes) → AreExportsMet w met → AreExportsInOrder w → IsSuppliedFor w met (payload_scope p)
  access_supplied met exports ordered = payload_supplied w ok met exports ordered p access_payload

  pub access_found : (m : ValidatedModule) → module_found w (module_of which) ≡ Some m → (realloc : Option ExportRef) → realloc ≡ payload_realloc w (module_of which) p → IsAccessBehind w s p kind (payload_encoding p p.ty m) realloc
  access_found m found realloc own = record {
    given = access_given;
    stands = access_stands.1;
    encoded = ap (option_and_then (encoding_of_role access_given.core.role)) (ap (module_found w) (sym access_of) ∙ found) ∙ own_access.encoded m;
    reallocated = own ∙ (ap (λ (of : User). payload_realloc w of p) access_of ∙ sym own_access.reallocated);
    own = own_access.own;
    linked = subst (λ (role : Import). link_of w access_given.of role ≡ BuiltIn (access_name kind) (payload_operand p.ty) (lower_options w access_given.of role)) same_role (access_linked w access_given.of p kind is_async);
  }

-- ---- exports

module _ (w : ComponentWorld) (s : Shim) (h : StandsForOne w s) (e : ExportRef) (is : export_of_kind s.kind ≡ Some e) where
  own : StandsForExport w s e
  own = for_export w s e is h

  -- the module has it
  pub export_offered : OffersExport w e
  export_offered = shim_offered w s e own.is

  -- an alias of it is what the shim stands for
  pub export_serves : (ds : List Def) (index : ℕ) → IsAliasOf w ds index e → ServesShim w ds s index
  export_serves ds index a = record {
    purpose = OfExport e;
    stands_for = own.is;
    serves = record { term = terms.Exported a.exported; is = (ap kind_space (sym a.function), a.is); asked = a.named };
  }

  -- and no import
  pub export_options : HasShimOptions w s
  export_options i stands = other s.kind e is (caller (shim_owner i.of i.core.role) i.core.role) stands.is.of_kind
    where
      other : (kind : ShimKind) (e : ExportRef) → export_of_kind kind ≡ Some e → (p : Caller) → role_of_kind w kind ≡ Some p → HasLowerOptions w i
      other (kinds.IndirectLowering interface function which encoding) e is p r = absurd (none-some e is)
      other (kinds.Adapter adapter name) e is p r = absurd (none-some p r)
      other (kinds.ResourceDtor which name) e is p r = absurd (none-some p r)
      other (kinds.Realloc which name) e is p r = absurd (none-some p r)
      other kind e is p r = absurd (none-some e is)
