-- What a core import is given: its shim, or what the link table names.
use Rattle.std.proofs.Common.{◌≡◌, ◌∙◌, ℕ, false, List, [], Some, None, is_some, refl, sym, ap, subst, inl, inr, true≢false}
use Rattle.std.proofs.lemmas.Option.{none-some, slice_get_within}
use Rattle.standard_kinds.specs.declared.kinds.StringEncoding.{StringEncoding}
use Rattle.standard_kinds.specs.declared.kinds.ExportKind.TheVariants as kinds
use Rattle.comp_bytes.specs.declared.types.Alias.TheVariants as aliases
use Rattle.comp_bytes.specs.declared.def.Item.TheVariants as items
use Rattle.comp_bytes.specs.declared.def.Def.{Def}
use Rattle.comp_bytes.specs.declared.def.Def.TheVariants as defs
use Rattle.comp_bytes.specs.declared.space.Space.{Space}
use Rattle.comp_bytes.specs.declared.space.Space.TheVariants as spaces
use Rattle.comp_roles.specs.declared.imports.Import.{Import}
use Rattle.comp_roles.specs.declared.imports.Import.TheVariants as imports
use Rattle.comp_worlds.specs.Encodable.{IsEncodable}
use Rattle.comp_worlds.specs.Offered.{shared_memory}
use Rattle.comp_worlds.specs.declared.world.ComponentWorld.{ComponentWorld}
use Rattle.comp_links.specs.Links.{lower_needs, is_always_shimmed}
use Rattle.comp_links.specs.Modules.{UserImport, user_imports}
use Rattle.comp_links.specs.Roles.{import_encoding}
use Rattle.comp_links.specs.Targets.{UserModule, Adapter, ExportOf}
use Rattle.comp_terms.specs.Generated.{shims_number, OfImport, OfExport}
use Rattle.comp_terms.specs.Shimmed.{shim_owner}
use Rattle.comp_terms.specs.Planned.{IsShimOfKind, IsCallShim, IsOwnShim, IsGivenFor}
use Rattle.comp_items.specs.Items.{MayAdd}
use Rattle.comp_terms.specs.Rules.{Grows}
use Rattle.comp_terms.specs.Terms.{IsInstanceOf, IsExported}
use Rattle.root_imports.specs.Growing.{Grows-may}
use Rattle.shim_plan.specs.Plans.{shim_of}
use Rattle.shim_plan.specs.declared.kinds.ShimKind.{ShimKind}
use Rattle.shim_plan.specs.declared.shims.Shim.{Shim}
use Rattle.world_shims.specs.WorldShims.{shims_of}
use Rattle.std.specs.Prelude.{Contains, IsSome}
use Rattle.shim_targets.specs.CallOptions.{NamesNoExport}
use Rattle.shim_targets.specs.ShimTargets.{kind_of_import}
use Rattle.shim_targets.proofs.FoundShims.{found_shim}
use Rattle.shim_targets.proofs.GivenShims.{given_shim, given_unshared, given_shimmed}
use Rattle.shim_targets.proofs.NeededShims.{direct}
use Rattle.shim_targets.proofs.Owners.{import_linked}
use Rattle.main_instance.specs.Sources.{IsShimAlias, adapter_kind}
use Rattle.shim_targets.proofs.AdapterShims.{given_adapter}

-- an alias of a shim keeps its rule
pub shim_alias_grows : (w : ComponentWorld) → IsEncodable w → (old new : List Def) (kind : ShimKind) (shim : Shim) (instance : ℕ) → shim_of kind (shims_of w) ≡ Some shim → IsInstanceOf old instance (shims_number w) →
    MayAdd old new (defs.Item (items.Alias (aliases.CoreExport kinds.Func instance shim.name))) → Grows w old new []
shim_alias_grows w ok old new kind shim instance there made adds =
    let f = found_shim w ok kind shim there in
    Grows-may (defs.Item (items.Alias (aliases.CoreExport kinds.Func instance shim.name))) refl adds (inr (inl (record { place = f.0; is = made; listed = slice_get_within (shims_of w) f.0 shim f.1; named = f.3; function = refl })))

-- the shim of a call's kind is the import's own
own_shim_of_call : (w : ComponentWorld) (of : UserModule) (ds : List Def) (space : Space) (index : ℕ) (role : Import) (encoding : StringEncoding) (kind : ShimKind) → kind_of_import of role encoding ≡ Some kind → IsCallShim w of ds space index role →
    IsOwnShim w of ds space index role
own_shim_of_call w of ds space index (imports.AdapterExport adapter name type) encoding kind e h = absurd (none-some kind e)
own_shim_of_call w of ds space index role encoding kind e h = h

module _ (w : ComponentWorld) (ok : IsEncodable w) (i : UserImport) (present : Contains (user_imports w) i) (encoding : StringEncoding) (encoded : import_encoding w i.of i.core.role ≡ Some encoding) (kind : ShimKind) (of_kind : kind_of_import i.of i.core.role encoding ≡ Some kind) (ds : List Def) (index : ℕ) where
  -- the shim of its kind stands for it
  pub given_by_shim : IsShimAlias w ds kind (Some index) → IsGivenFor w i.of ds spaces.CoreFunc index i.core.role
  given_by_shim h =
      let f = found_shim w ok kind h.0 h.1 in
      let stands_for = given_shim w ok i present encoding encoded kind of_kind h.0 h.1 in
      inr (own_shim_of_call w i.of ds spaces.CoreFunc index i.core.role encoding kind of_kind (record {
        shim = record {
          place = f.0;
          stands = record { shim = h.0; purpose = OfImport (shim_owner i.of i.core.role) i.core.role; listed = f.1; stands_for = stands_for; same = import_linked w ok i present };
          in_space = refl;
          is = subst (λ n. IsExported ds index (record { of = shims_number w; kind = kinds.Func; name = n })) f.3 h.2;
        };
        of_kind = stands_for.of_kind;
        shimmed = given_shimmed w ok i present encoding encoded kind of_kind h.0 h.1;
      }))

  -- then main imports no memory, unless such an import has a shim always
  pub unshared_by_shim : is_always_shimmed w i.core.role ≡ false → IsShimAlias w ds kind (Some index) → shared_memory w ≡ None
  unshared_by_shim apart h = given_unshared w ok i.of i.core.role encoding kind of_kind apart h.0 h.1

  -- without one, its options name nothing that a module exports, unless main imports its memory
  pub plain_without : IsShimAlias w ds kind None → shared_memory w ≡ None → NamesNoExport (lower_needs w i.core.role)
  plain_without h unshared = direct w ok unshared i present encoding encoded kind of_kind h

-- the shim of an adapter's export stands for it
pub adapter_given : (w : ComponentWorld) → IsEncodable w → (adapter function : List ℕ) (ds : List Def) (index : ℕ) → IsShimAlias w ds (adapter_kind adapter function) (Some index) →
    IsShimOfKind w ds spaces.CoreFunc index (ExportOf (record { of = Adapter adapter; name = function })) (adapter_kind adapter function)
adapter_given w ok adapter function ds index h =
    let f = found_shim w ok (adapter_kind adapter function) h.0 h.1 in
    record {
      shim = record {
        place = f.0;
        stands = record { shim = h.0; purpose = OfExport (record { of = Adapter adapter; name = function }); listed = f.1; stands_for = given_adapter w ok adapter function h.0 h.1; same = refl };
        in_space = refl;
        is = subst (λ n. IsExported ds index (record { of = shims_number w; kind = kinds.Func; name = n })) f.3 h.2;
      };
      of_kind = f.2;
    }

-- a shim that is found is there
pub shim_not_missing : (w : ComponentWorld) (ds : List Def) (kind : ShimKind) → IsSome (shim_of kind (shims_of w)) → IsShimAlias w ds kind None → ⊥
shim_not_missing w ds kind there none = true≢false (sym there ∙ ap is_some none)
