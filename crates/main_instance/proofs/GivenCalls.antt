-- Calls of functions of the world by imports of a module: each is given its shim, or a lowering, and has what it needs.
use Rattle.std.proofs.Common.{◌≡◌, ◌∙◌, ℕ, List, Some, None, is_some, sym, ap, subst, inl, true≢false, IsSome, IsTrue, Contains}
use Rattle.standard_kinds.specs.declared.kinds.StringEncoding.{StringEncoding}
use Rattle.comp_bytes.specs.declared.def.Def.{Def}
use Rattle.comp_bytes.specs.declared.space.Space.TheVariants as spaces
use Rattle.comp_options.specs.Options.{needs}
use Rattle.comp_roles.specs.CoreImports.{CoreImport}
use Rattle.comp_roles.specs.declared.imports.Import.{Import}
use Rattle.comp_worlds.specs.Encodable.{IsEncodable}
use Rattle.comp_worlds.specs.Offered.{shared_memory}
use Rattle.comp_worlds.specs.Uses.{imports_of}
use Rattle.comp_worlds.specs.declared.world.ComponentWorld.{ComponentWorld}
use Rattle.comp_links.specs.Links.{link_of, lower_needs, lower_options, role_realloc}
use Rattle.comp_links.specs.Modules.{user_imports}
use Rattle.comp_links.specs.Roles.{encoding_in, import_encoding, is_main_memory}
use Rattle.comp_links.specs.Supplied.{IsSuppliedImport}
use Rattle.comp_links.specs.Targets.{WorldFunction, Lowered}
use Rattle.comp_terms.specs.Planned.{IsItemFor, IsGivenFor}
use Rattle.core_options.specs.MainOptions.{IsUser, user_of}
use Rattle.core_options.specs.declared.modules.UserModule.{UserModule}
use Rattle.shim_plan.specs.declared.kinds.ShimKind.{ShimKind}
use Rattle.shim_targets.specs.CallOptions.{NamesNoExport}
use Rattle.shim_targets.specs.ShimTargets.{kind_of_import}
use Rattle.main_instance.specs.Sources.{IsShimAlias}
use Rattle.main_instance.proofs.Giving.{given_by_shim, unshared_by_shim, plain_without}
use Rattle.main_instance.proofs.Serving.{user_import, encoding_found, has_encoding}

module _ (w : ComponentWorld) (ok : IsEncodable w) (u : UserModule) (user : IsUser w u) (i : CoreImport) (present : Contains (imports_of u.found.now) i) (role : Import) (is : i.role ≡ role) (encoding : StringEncoding) (encoded : encoding_in role u.found.now ≡ Some encoding)
    (kind : ShimKind) (of_kind : kind_of_import (user_of u.which) role encoding ≡ Some kind) where
  among : Contains (user_imports w) (record { of = user_of u.which; core = i })
  among = user_import w (user_of u.which) u.found.now user.named i present

  own_encoding : encoding_in i.role u.found.now ≡ Some encoding
  own_encoding = ap (λ r. encoding_in r u.found.now) is ∙ encoded

  own_kind : kind_of_import (user_of u.which) i.role encoding ≡ Some kind
  own_kind = ap (λ r. kind_of_import (user_of u.which) r encoding) is ∙ of_kind

  pub call_encoded : import_encoding w (user_of u.which) i.role ≡ Some encoding
  call_encoded = encoding_found w (user_of u.which) u.found.now user.named i.role (Some encoding) own_encoding

  -- its shim is what it is given
  pub call_given : (ds : List Def) (index : ℕ) → IsShimAlias w ds kind (Some index) → IsGivenFor w (user_of u.which) ds spaces.CoreFunc index i.role
  call_given ds index h = given_by_shim w ok (record { of = user_of u.which; core = i }) among encoding call_encoded kind own_kind ds index h

  -- without one its options name nothing that a module exports, unless main imports its memory
  pub call_plain : (ds : List Def) → IsShimAlias w ds kind None → shared_memory w ≡ None → NamesNoExport (lower_needs w i.role)
  call_plain ds h unshared = plain_without w ok (record { of = user_of u.which; core = i }) among encoding call_encoded kind own_kind ds 0 h unshared

  -- a call whose realloc is there, where main imports its memory, has what it needs
  pub direct_supplied : (IsTrue (is_main_memory role) → ⊥) → (IsTrue (needs (lower_needs w i.role) 2) → IsSome (role_realloc w (user_of u.which) i.role)) → IsSuppliedImport w (user_of u.which) i.role
  direct_supplied other realloc =
      has_encoding w (user_of u.which) u.found.now user.named i.role encoding own_encoding (λ memory. other (subst (λ r. IsTrue (is_main_memory r)) is memory)) (λ shared apart needed. realloc needed)

  -- so does a call with a shim of its own, where main doesn't
  pub shim_supplied : (IsTrue (is_main_memory role) → ⊥) → (ds : List Def) (index : ℕ) → IsShimAlias w ds kind (Some index) → IsSuppliedImport w (user_of u.which) i.role
  shim_supplied other ds index h =
      has_encoding w (user_of u.which) u.found.now user.named i.role encoding own_encoding (λ memory. other (subst (λ r. IsTrue (is_main_memory r)) is memory))
      (λ shared apart needed. absurd (true≢false (sym shared ∙ ap is_some (unshared_by_shim w ok (record { of = user_of u.which; core = i }) among encoding call_encoded kind own_kind ds index apart h))))

  -- a lowering of the function that it calls is what it is given
  pub direct_given : (ds : List Def) (index : ℕ) (called : WorldFunction) → link_of w (user_of u.which) role ≡ Lowered called (lower_options w (user_of u.which) role) → IsItemFor w ds spaces.CoreFunc index (Lowered called (lower_options w (user_of u.which) i.role)) →
      IsGivenFor w (user_of u.which) ds spaces.CoreFunc index i.role
  direct_given ds index called links h =
      inl (subst (λ t. IsItemFor w ds spaces.CoreFunc index t) (ap (λ r. Lowered called (lower_options w (user_of u.which) r)) is ∙ (sym links ∙ sym (ap (link_of w (user_of u.which)) is))) h)
