-- The shim that is found by the kind of an import stands for the role of that import.
use Rattle.std.proofs.Common.{◌≡◌, ◌∙◌, ◌&&◌, ◌||◌, Bool, true, false, true≢false, Contains, Option, Some, None, sym, ap, subst, refl, is_some, IsTrue}
use Rattle.std.specs.Prelude.{not}
use Rattle.std.proofs.lemmas.Option.{none-some, same_Some}
use Rattle.standard_kinds.specs.declared.kinds.StringEncoding.{StringEncoding}
use Rattle.comp_options.specs.Options.{needs}
use Rattle.comp_options.specs.Payloads.{payload_set}
use Rattle.comp_roles.specs.declared.imports.Import.{Import}
use Rattle.comp_roles.specs.declared.imports.Import.TheVariants as imports
use Rattle.comp_roles.specs.declared.payloads.PayloadFuncKind.TheVariants as ends
use Rattle.core_types.specs.declared.types.MemoryType.{MemoryType}
use Rattle.comp_worlds.specs.Encodable.{IsEncodable}
use Rattle.comp_worlds.specs.Offered.{shared_memory}
use Rattle.comp_worlds.specs.declared.world.ComponentWorld.{ComponentWorld}
use Rattle.shim_plan.specs.Plans.{shim_of}
use Rattle.shim_plan.specs.declared.kinds.ShimKind.{ShimKind}
use Rattle.shim_plan.specs.declared.kinds.ShimKind.TheVariants as kinds
use Rattle.shim_plan.specs.declared.shims.Shim.{Shim}
use Rattle.world_shims.specs.WorldShims.{shims_of}
use Rattle.comp_links.specs.Links.{lower_needs, is_always_shimmed}
use Rattle.comp_links.specs.Modules.{UserImport, user_imports}
use Rattle.comp_links.specs.Roles.{import_encoding}
use Rattle.comp_links.specs.Targets.{UserModule}
use Rattle.comp_terms.specs.Generated.{role_of_kind, IsShimOf}
use Rattle.comp_terms.specs.Shimmed.{has_shim, shim_owner}
use Rattle.shim_targets.specs.ShimTargets.{kind_of_import, which_of, StandsFor, StandsForOne}
use Rattle.shim_targets.proofs.ByKind.{for_role}
use Rattle.shim_targets.proofs.Calls.{role_back}
use Rattle.shim_targets.proofs.EachShim.{each_stands}
use Rattle.shim_targets.proofs.FoundShims.{found_shim}
use Rattle.shim_targets.proofs.Lists.{all_at}
use Rattle.shim_targets.proofs.Roles.{import_role}

-- whether an import has a shim always, its kind says too
abbrev is_always : ComponentWorld → ShimKind → Bool
is_always w (kinds.ErrorContextDebugMessage which encoding) = true
is_always w (kinds.PayloadFunc which p kind is_async) = needs (payload_set w.resolve.types p.ty kind is_async) 2
is_always w kind = false

always_kind : (w : ComponentWorld) (of : UserModule) (role : Import) (encoding : StringEncoding) (kind : ShimKind) → kind_of_import of role encoding ≡ Some kind → is_always_shimmed w role ≡ is_always w kind
always_kind w of (imports.WorldFunc key name abi) encoding kind e = ap (is_always w) (same_Some _ kind e)
always_kind w of (imports.InterfaceFunc key id name abi) encoding kind e = ap (is_always w) (same_Some _ kind e)
always_kind w of (imports.ExportedTaskReturn key interface f) encoding kind e = ap (is_always w) (same_Some _ kind e)
always_kind w of imports.WaitableSetWait encoding kind e = ap (is_always w) (same_Some kinds.WaitableSetWait kind e)
always_kind w of imports.WaitableSetPoll encoding kind e = ap (is_always w) (same_Some kinds.WaitableSetPoll kind e)
always_kind w of (imports.ErrorContextNew own) encoding kind e = ap (is_always w) (same_Some (kinds.ErrorContextNew own) kind e)
always_kind w of (imports.ErrorContextDebugMessage own) encoding kind e = ap (is_always w) (same_Some _ kind e)
always_kind w of (imports.StreamRead p is_async) encoding kind e = ap (is_always w) (same_Some (kinds.PayloadFunc (which_of of) p ends.StreamRead is_async) kind e)
always_kind w of (imports.StreamWrite p is_async) encoding kind e = ap (is_always w) (same_Some (kinds.PayloadFunc (which_of of) p ends.StreamWrite is_async) kind e)
always_kind w of (imports.FutureRead p is_async) encoding kind e = ap (is_always w) (same_Some (kinds.PayloadFunc (which_of of) p ends.FutureRead is_async) kind e)
always_kind w of (imports.FutureWrite p is_async) encoding kind e = ap (is_always w) (same_Some (kinds.PayloadFunc (which_of of) p ends.FutureWrite is_async) kind e)
always_kind w of role encoding kind e = absurd (none-some kind e)

-- where a shim of an import's kind is found, which may have one, main imports no memory
pub given_unshared : (w : ComponentWorld) → IsEncodable w → (of : UserModule) (role : Import) (encoding : StringEncoding) (kind : ShimKind) → kind_of_import of role encoding ≡ Some kind → is_always_shimmed w role ≡ false → (s : Shim) → shim_of kind (shims_of w) ≡ Some s →
    shared_memory w ≡ None
given_unshared w ok of role encoding kind is apart s e =
    let at = found_shim w ok kind s e in
    let own : kind_of_import of role encoding ≡ Some s.kind = is ∙ ap Some (sym at.2) in
    let j : (j : UserImport) × StandsFor w s j = for_role w s of role encoding own (all_at (StandsForOne w) (shims_of w) at.0 s (each_stands w ok) at.1) in
    j.1.unshared (always_kind w j.0.of j.0.core.role j.1.encoding s.kind j.1.kind ∙ (sym (always_kind w of role encoding s.kind own) ∙ apart))

-- an import whose call needs a memory that main doesn't import has a shim, and one that always has it
through_has : (memory always : Bool) (shared : Option MemoryType) → memory ≡ true → (always ≡ false → shared ≡ None) → (memory && (always || not (is_some shared))) ≡ true
through_has true true shared needed unshared = refl
through_has true false shared needed unshared = ap (λ o. not (is_some o)) (unshared refl)
through_has false always shared needed unshared = absurd (true≢false (sym needed))

has_shim_for : (w : ComponentWorld) (role : Import) → IsTrue (needs (lower_needs w role) 1) → (is_always_shimmed w role ≡ false → shared_memory w ≡ None) → IsTrue (has_shim w role)
has_shim_for w (imports.AdapterExport adapter name type) memory unshared = refl
has_shim_for w (imports.ErrorContextDebugMessage encoding) memory unshared = refl
has_shim_for w role memory unshared = through_has (needs (lower_needs w role) 1) (is_always_shimmed w role) (shared_memory w) memory unshared

pub given_shim : (w : ComponentWorld) → IsEncodable w → (i : UserImport) → Contains (user_imports w) i → (encoding : StringEncoding) → import_encoding w i.of i.core.role ≡ Some encoding → (kind : ShimKind) → kind_of_import i.of i.core.role encoding ≡ Some kind → (s : Shim) →
    shim_of kind (shims_of w) ≡ Some s → IsShimOf w s (shim_owner i.of i.core.role) i.core.role
given_shim w ok i there encoding encoded kind is s e =
    let at = found_shim w ok kind s e in
    let own : kind_of_import i.of i.core.role encoding ≡ Some s.kind = is ∙ ap Some (sym at.2) in
    let other : (j : UserImport) × StandsFor w s j = for_role w s i.of i.core.role encoding own (all_at (StandsForOne w) (shims_of w) at.0 s (each_stands w ok) at.1) in
    let role : role_of_kind w s.kind ≡ Some (shim_owner i.of i.core.role, i.core.role) = ap (role_of_kind w) at.2 ∙ role_back w ok i.of i.core.role (import_role w ok i there) encoding kind is in
    let same : (shim_owner other.0.of other.0.core.role, other.0.core.role) ≡ (shim_owner i.of i.core.role, i.core.role) =
    same_Some (shim_owner other.0.of other.0.core.role, other.0.core.role) (shim_owner i.of i.core.role, i.core.role) (sym other.1.is.of_kind ∙ role) in
    subst (λ (p : UserModule × Import). IsShimOf w s p.0 p.1) same other.1.is

-- and the import is one that has a shim
pub given_shimmed : (w : ComponentWorld) → IsEncodable w → (i : UserImport) → Contains (user_imports w) i → (encoding : StringEncoding) → import_encoding w i.of i.core.role ≡ Some encoding → (kind : ShimKind) → kind_of_import i.of i.core.role encoding ≡ Some kind → (s : Shim) →
    shim_of kind (shims_of w) ≡ Some s → IsTrue (has_shim w i.core.role)
given_shimmed w ok i there encoding encoded kind is s e =
    let at = found_shim w ok kind s e in
    let own : kind_of_import i.of i.core.role encoding ≡ Some s.kind = is ∙ ap Some (sym at.2) in
    let other : (j : UserImport) × StandsFor w s j = for_role w s i.of i.core.role encoding own (all_at (StandsForOne w) (shims_of w) at.0 s (each_stands w ok) at.1) in
    let role : role_of_kind w s.kind ≡ Some (shim_owner i.of i.core.role, i.core.role) = ap (role_of_kind w) at.2 ∙ role_back w ok i.of i.core.role (import_role w ok i there) encoding kind is in
    let same : (shim_owner other.0.of other.0.core.role, other.0.core.role) ≡ (shim_owner i.of i.core.role, i.core.role) =
    same_Some (shim_owner other.0.of other.0.core.role, other.0.core.role) (shim_owner i.of i.core.role, i.core.role) (sym other.1.is.of_kind ∙ role) in
    has_shim_for w i.core.role (subst (λ (p : UserModule × Import). IsTrue (needs (lower_needs w p.1) 1)) same other.1.memory) (λ apart. other.1.unshared (ap (λ (p : UserModule × Import). is_always_shimmed w p.1) same ∙ apart))
