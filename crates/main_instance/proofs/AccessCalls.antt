-- Reads and writes that imports of a module are given: each is its shim, or what the link table names, and has what it needs.
use Rattle.std.proofs.Common.{◌≡◌, ◌∙◌, ◌&&◌, ◌||◌, ℕ, Bool, List, Option, Some, None, is_some, not, refl, sym, ap, subst, inl, true, false, true≢false, Contains, IsTrue, IsSome}
use Rattle.comp_bytes.specs.declared.canon.CanonicalOption.{CanonicalOption}
use Rattle.comp_bytes.specs.declared.def.Def.{Def}
use Rattle.comp_bytes.specs.declared.space.Space.TheVariants as spaces
use Rattle.comp_links.specs.Links.{link_of, lower_needs, lower_options, options_in, role_realloc}
use Rattle.comp_links.specs.Modules.{UserImport, user_imports}
use Rattle.comp_links.specs.Roles.{is_main_memory, payload_encoding}
use Rattle.comp_links.specs.Supplied.{IsSuppliedImport}
use Rattle.comp_links.specs.Targets.{UserModule as User, ExportRef, BuiltIn, payload_operand}
use Rattle.comp_options.specs.OptionLists.{options_of, lacks_memory, lacks_realloc}
use Rattle.comp_options.specs.Options.{needs, memory_bit, realloc_bit}
use Rattle.comp_options.specs.Known.{HasPayload}
use Rattle.comp_roles.specs.CoreImports.{CoreImport}
use Rattle.comp_roles.specs.declared.imports.Import.{Import}
use Rattle.comp_terms.specs.Planned.{IsGivenFor, IsItemFor, main_memory}
use Rattle.comp_worlds.specs.Encodable.{IsEncodable}
use Rattle.comp_worlds.specs.Offered.{shared_memory}
use Rattle.comp_worlds.specs.Payloads.{IsPayload, payload_scope}
use Rattle.comp_worlds.specs.Uses.{imports_of}
use Rattle.comp_worlds.specs.declared.world.ComponentWorld.{ComponentWorld}
use Rattle.core_options.proofs.OptionTerms.{AreListed, named_for}
use Rattle.core_options.proofs.PayloadFunctions.{access_linked}
use Rattle.core_options.specs.MainOptions.{IsAccess, IsMemoryIf, IsUser, NameOptions, access_name, user_of}
use Rattle.core_options.specs.declared.modules.UserModule.{UserModule}
use Rattle.core_types.specs.declared.types.MemoryType.{MemoryType}
use Rattle.interface_needs.proofs.PayloadNeeds.{payload_for}
use Rattle.interface_needs.specs.RootNeeds.{IsPayloadFor}
use Rattle.main_instance.proofs.GivenCalls.{call_encoded, call_given, direct_supplied, shim_supplied}
use Rattle.main_instance.proofs.ReturnCalls.{memory_there, none_shared}
use Rattle.main_instance.proofs.Serving.{import_role, user_import}
use Rattle.main_instance.specs.Sources.{IsMemoryBefore, IsShimAlias}
use Rattle.shim_plan.specs.Needed.{Accessed, access_kind, access_options, accessed_of, accesses_through}
use Rattle.shim_plan.specs.Plans.{shim_of}
use Rattle.shim_plan.specs.declared.kinds.ShimKind.{ShimKind}
use Rattle.shim_targets.proofs.Owners.{AccessImport, access_import_of, access_shim_there}
use Rattle.shim_targets.proofs.Returned.{payload_there}
use Rattle.shim_targets.proofs.Users.{among_all}
use Rattle.shim_targets.specs.ShimTargets.{which_of}
use Rattle.standard_kinds.specs.declared.kinds.StringEncoding.{StringEncoding}
use Rattle.world_shims.specs.WorldShims.{shims_of}

-- one without a shim has no realloc, and main imports its memory
direct_parts : (realloc : Bool) (shared : Option MemoryType) → (realloc || not (is_some shared)) ≡ false → (realloc ≡ false) × (is_some shared ≡ true)
direct_parts true shared h = absurd (true≢false h)
direct_parts false (Some type) h = (refl, refl)
direct_parts false None h = absurd (true≢false h)

-- a memory that is there doesn't lack
lacks_none : (needed : Bool) (memory : Option ℕ) → IsSome memory → (needed && not (is_some memory)) ≡ false
lacks_none true (Some index) there = refl
lacks_none false (Some index) there = refl
lacks_none needed None there = absurd (true≢false (sym there))

module _ (w : ComponentWorld) (ok : IsEncodable w) (u : UserModule) (user : IsUser w u) (i : CoreImport) (present : Contains (imports_of u.found.now) i) (a : Accessed) (is : accessed_of i.role ≡ Some a) where
  abbrev of : User
  of = user_of u.which

  own : AccessImport w of i.role a
  own = access_import_of w of i.role a is

  among : Contains (user_imports w) (record { of = of; core = i })
  among = user_import w of u.found.now user.named i present

  -- the stream or the future is one of the world
  pub access_right : IsPayload w a.info
  access_right = own.right (import_role w of u.found.now user.named ok i present)

  pub access_sound : HasPayload w.resolve a.info.ty
  access_sound = payload_there w a.info a.info.ty access_right

  -- all that its type is made of is at hand
  pub access_types : IsPayloadFor w (payload_scope a.info) a.info.ty
  access_types = payload_for w ok i (among_all w (record { of = of; core = i }) among) a.info own.payload access_right

  abbrev encoding : StringEncoding
  encoding = payload_encoding a.info a.info.ty u.found.now

  abbrev kind : ShimKind
  kind = access_kind (which_of of) a

  no_main_memory : IsTrue (is_main_memory i.role) → ⊥
  no_main_memory h = true≢false (sym h ∙ own.other)

  -- its shim is there, where it has one
  pub access_planned : accesses_through w a ≡ true → IsSome (shim_of kind (shims_of w))
  access_planned through = access_shim_there w ok (record { of = of; core = i }) among a is through

  -- that is what it is given
  pub access_given : (ds : List Def) (index : ℕ) → IsShimAlias w ds kind (Some index) → IsGivenFor w of ds spaces.CoreFunc index i.role
  access_given ds index h = call_given w ok u user i present i.role refl encoding (own.encoded u.found.now) kind (own.kind encoding) ds index h

  pub access_supplied : (ds : List Def) (index : ℕ) → IsShimAlias w ds kind (Some index) → IsSuppliedImport w of i.role
  access_supplied ds index h = shim_supplied w ok u user i present i.role refl encoding (own.encoded u.found.now) kind (own.kind encoding) no_main_memory ds index h

  -- one without a shim
  module _ (through : accesses_through w a ≡ false) where
    abbrev set : ℕ
    set = (access_options w a).0

    pub direct_plain : needs set realloc_bit ≡ false
    direct_plain = (direct_parts (needs set realloc_bit) (shared_memory w) through).0

    -- has a memory
    direct_there : (ds : List Def) (memory : Option ℕ) → IsMemoryBefore w ds of memory → IsSome memory
    direct_there ds (Some index) before = refl
    direct_there ds None before = absurd (true≢false (sym (direct_parts (needs set realloc_bit) (shared_memory w) through).1 ∙ ap is_some (none_shared w ds of before)))

    pub direct_lacks : (ds : List Def) (memory : Option ℕ) → IsMemoryBefore w ds of memory → lacks_memory set memory ≡ false
    direct_lacks ds memory before = lacks_none (needs set memory_bit) memory (direct_there ds memory before)

    memory_is : (ds : List Def) (memory : Option ℕ) → IsMemoryBefore w ds of memory → IsMemoryIf ds (main_memory w) memory
    memory_is ds memory before = by memory (direct_there ds memory before) before
      where
        by : (memory : Option ℕ) → IsSome memory → IsMemoryBefore w ds of memory → IsMemoryIf ds (main_memory w) memory
        by (Some index) there h = memory_there w ds of index h
        by None there h = absurd (true≢false (sym there))

    -- its options are those of the link table
    pub direct_named : (ds : List Def) (memory : Option ℕ) (written : List CanonicalOption) → IsMemoryBefore w ds of memory → written ≡ options_of set encoding memory None → lacks_memory set memory ≡ false → lacks_realloc set None ≡ false → NameOptions w ds written (lower_options w of i.role)
    direct_named ds memory written before same no_m no_r =
        let realloc : Option ExportRef = role_realloc w of i.role in
        let listed : AreListed w ds set memory None realloc = record { memory_is = λ needed. memory_is ds memory before; realloc_is = λ needed. absurd (true≢false (sym needed ∙ direct_plain)) } in
        let all : NameOptions w ds written (options_in set realloc (Some encoding)) = named_for w ds set memory None realloc encoding written listed same no_m no_r in
        let of_set : NameOptions w ds written (options_in (lower_needs w i.role) realloc (Some encoding)) = subst (λ n. NameOptions w ds written (options_in n realloc (Some encoding))) (sym own.needed) all in
        subst (λ o. NameOptions w ds written (options_in (lower_needs w i.role) realloc o)) (sym (call_encoded w ok u user i present i.role refl encoding (own.encoded u.found.now) kind (own.kind encoding))) of_set

    -- with these it is what the import is given
    pub direct_is : (ds : List Def) (index : ℕ) → IsAccess w ds a.kind a.info.ty (lower_options w of i.role) index → IsGivenFor w of ds spaces.CoreFunc index i.role
    direct_is ds index h =
        let linked : link_of w of i.role ≡ BuiltIn (access_name a.kind) (payload_operand a.info.ty) (lower_options w of i.role) =
        subst (λ (role : Import). link_of w of role ≡ BuiltIn (access_name a.kind) (payload_operand a.info.ty) (lower_options w of role)) (sym own.same) (access_linked w of a.info a.kind a.is_async) in
        inl (subst (λ t. IsItemFor w ds spaces.CoreFunc index t) (sym linked) h)

    -- and it has what it needs
    pub direct_has_all : IsSuppliedImport w of i.role
    direct_has_all =
        direct_supplied w ok u user i present i.role refl encoding (own.encoded u.found.now) kind (own.kind encoding) no_main_memory
        (λ needed. absurd (true≢false (sym needed ∙ (ap (λ n. needs n realloc_bit) own.needed ∙ direct_plain))))
