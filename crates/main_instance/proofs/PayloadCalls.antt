-- Functions of streams and futures that imports of a module are given: each is what the link table names, and needs nothing else.
use Rattle.std.proofs.Common.{◌≡◌, ◌∙◌, ℕ, List, [], Option, Some, None, refl, sym, ap, subst, inl, false, true≢false, Contains}
use Rattle.std.specs.Prelude.{option_map}
use Rattle.std.proofs.lemmas.Option.{none-some}
use Rattle.built_ins.specs.Payloads.{PayloadCall, named_call, called_payload, is_access}
use Rattle.comp_bytes.specs.declared.def.Def.{Def}
use Rattle.comp_bytes.specs.declared.space.Space.TheVariants as spaces
use Rattle.comp_links.specs.Links.{link_of, link_of_payload, lower_needs}
use Rattle.comp_links.specs.Modules.{UserImport}
use Rattle.comp_links.specs.Roles.{needs_encoding, is_main_memory}
use Rattle.comp_links.specs.Supplied.{IsSuppliedImport}
use Rattle.comp_links.specs.Targets.{UserModule as User, payload_operand, BuiltIn}
use Rattle.comp_options.specs.Options.{needs}
use Rattle.comp_roles.specs.CoreImports.{CoreImport}
use Rattle.comp_roles.specs.declared.imports.Import.{Import}
use Rattle.comp_roles.specs.declared.imports.Import.TheVariants as imports
use Rattle.comp_roles.specs.declared.payloads.PayloadFuncKind.TheVariants as ends
use Rattle.comp_roles.specs.declared.payloads.PayloadInfo.{PayloadInfo}
use Rattle.comp_terms.specs.Planned.{IsItemFor, IsGivenFor}
use Rattle.comp_worlds.proofs.PayloadRoles.{called_in, called_right}
use Rattle.comp_worlds.specs.Encodable.{IsEncodable}
use Rattle.comp_worlds.specs.Payloads.{IsPayload, payload_scope}
use Rattle.comp_worlds.specs.Uses.{imports_of}
use Rattle.comp_worlds.specs.declared.world.ComponentWorld.{ComponentWorld}
use Rattle.core_options.specs.MainOptions.{IsPayloadFunction, IsUser, user_of}
use Rattle.core_options.specs.declared.modules.UserModule.{UserModule}
use Rattle.interface_needs.proofs.PayloadNeeds.{payload_for}
use Rattle.interface_needs.specs.RootNeeds.{IsPayloadFor}
use Rattle.main_instance.proofs.Serving.{import_role, user_import}
use Rattle.shim_plan.specs.Needed.{access_to, accessed_of}
use Rattle.shim_targets.proofs.Users.{among_all}
use Rattle.wit_data.specs.declared.worlds.WorldKey.TheVariants as keys

-- what the link table names for such a role
payload_linked : (w : ComponentWorld) (of : User) (role : Import) (c : PayloadCall) → is_access role ≡ false → named_call role ≡ Some c → link_of w of role ≡ BuiltIn c.intrinsic (payload_operand c.info.ty) []
payload_linked w of (imports.WorldFunc (keys.Name text) function abi) c apart h = absurd (none-some c h)
payload_linked w of (imports.InterfaceFunc key id function abi) c apart h = absurd (none-some c h)
payload_linked w of (imports.ImportedResourceDrop key interface id) c apart h = absurd (none-some c h)
payload_linked w of (imports.ExportedResourceDrop key id) c apart h = absurd (none-some c h)
payload_linked w of (imports.ExportedResourceRep key id) c apart h = absurd (none-some c h)
payload_linked w of (imports.ExportedResourceNew key id) c apart h = absurd (none-some c h)
payload_linked w of (imports.MainModuleMemory type) c apart h = absurd (none-some c h)
payload_linked w of (imports.MainModuleExport name kind) c apart h = absurd (none-some c h)
payload_linked w of (imports.AdapterExport adapter name type) c apart h = absurd (none-some c h)
payload_linked w of (imports.Item item) c apart h = absurd (none-some c h)
payload_linked w of (imports.ExportedTaskReturn key interface function) c apart h = absurd (none-some c h)
payload_linked w of imports.WaitableSetWait c apart h = absurd (none-some c h)
payload_linked w of imports.WaitableSetPoll c apart h = absurd (none-some c h)
payload_linked w of (imports.ErrorContextNew own) c apart h = absurd (none-some c h)
payload_linked w of (imports.ErrorContextDebugMessage own) c apart h = absurd (none-some c h)
payload_linked w of (imports.StreamRead p is_async) c apart h = absurd (true≢false apart)
payload_linked w of (imports.StreamWrite p is_async) c apart h = absurd (true≢false apart)
payload_linked w of (imports.FutureRead p is_async) c apart h = absurd (true≢false apart)
payload_linked w of (imports.FutureWrite p is_async) c apart h = absurd (true≢false apart)
payload_linked w of role c apart h = ap (link_of_payload w role) h

-- a role that is given no read and no write
pub apart_from : (role : Import) → accessed_of role ≡ None → is_access role ≡ false
apart_from (imports.StreamRead p is_async) h = absurd (none-some (access_to p ends.StreamRead is_async) (sym h))
apart_from (imports.StreamWrite p is_async) h = absurd (none-some (access_to p ends.StreamWrite is_async) (sym h))
apart_from (imports.FutureRead p is_async) h = absurd (none-some (access_to p ends.FutureRead is_async) (sym h))
apart_from (imports.FutureWrite p is_async) h = absurd (none-some (access_to p ends.FutureWrite is_async) (sym h))
apart_from role h = refl

-- it is no call, so that it needs nothing else
record NeedsNothing (w : ComponentWorld) (role : Import) : Type 0 where
  encoding : needs_encoding role ≡ false
  memory : is_main_memory role ≡ false
  options : lower_needs w role ≡ 0

needs_nothing : (w : ComponentWorld) (role : Import) (p : PayloadInfo) → is_access role ≡ false → called_payload role ≡ Some p → NeedsNothing w role
needs_nothing w (imports.WorldFunc key function abi) p apart h = absurd (none-some p h)
needs_nothing w (imports.InterfaceFunc key id function abi) p apart h = absurd (none-some p h)
needs_nothing w (imports.ExportedTaskReturn key interface function) p apart h = absurd (none-some p h)
needs_nothing w (imports.MainModuleMemory type) p apart h = absurd (none-some p h)
needs_nothing w imports.WaitableSetWait p apart h = absurd (none-some p h)
needs_nothing w imports.WaitableSetPoll p apart h = absurd (none-some p h)
needs_nothing w (imports.ErrorContextNew own) p apart h = absurd (none-some p h)
needs_nothing w (imports.ErrorContextDebugMessage own) p apart h = absurd (none-some p h)
needs_nothing w (imports.StreamRead q is_async) p apart h = absurd (true≢false apart)
needs_nothing w (imports.StreamWrite q is_async) p apart h = absurd (true≢false apart)
needs_nothing w (imports.FutureRead q is_async) p apart h = absurd (true≢false apart)
needs_nothing w (imports.FutureWrite q is_async) p apart h = absurd (true≢false apart)
needs_nothing w role p apart h = record { encoding = refl; memory = refl; options = refl }

module _ (w : ComponentWorld) (ok : IsEncodable w) (u : UserModule) (user : IsUser w u) (i : CoreImport) (present : Contains (imports_of u.found.now) i) (p : PayloadInfo) (is : called_payload i.role ≡ Some p) where
  -- the stream or the future is one of the world
  pub payload_right : IsPayload w p
  payload_right = called_right w i.role p is (import_role w (user_of u.which) u.found.now user.named ok i present)

  -- all that its type is made of is at hand
  pub payload_types : IsPayloadFor w (payload_scope p) p.ty
  payload_types =
      let given : UserImport = record { of = user_of u.which; core = i } in
      payload_for w ok i (among_all w given (user_import w (user_of u.which) u.found.now user.named i present)) p (called_in i.role p is) payload_right

  -- the function of one that neither reads nor writes is what the import is given
  pub payload_given : is_access i.role ≡ false → (ds : List Def) (index : ℕ) → ((c : PayloadCall) → named_call i.role ≡ Some c → IsPayloadFunction w ds c index) → IsGivenFor w (user_of u.which) ds spaces.CoreFunc index i.role
  payload_given apart ds index made = by (named_call i.role) refl is
    where
      by : (o : Option PayloadCall) → named_call i.role ≡ o → option_map (λ (c : PayloadCall). c.info) o ≡ Some p → IsGivenFor w (user_of u.which) ds spaces.CoreFunc index i.role
      by (Some c) named called = inl (subst (IsItemFor w ds spaces.CoreFunc index) (sym (payload_linked w (user_of u.which) i.role c apart named)) (made c named))
      by None named called = absurd (none-some p called)

  -- and the import has what it needs
  pub payload_has_all : is_access i.role ≡ false → IsSuppliedImport w (user_of u.which) i.role
  payload_has_all apart =
      let n = needs_nothing w i.role p apart is in
      record {
        encoding = λ needed. absurd (true≢false (sym needed ∙ n.encoding));
        memory = λ needed. absurd (true≢false (sym needed ∙ n.memory));
        realloc = λ shared always needed. absurd (true≢false (sym needed ∙ ap (λ set. needs set 2) n.options));
      }
