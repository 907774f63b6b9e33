-- There is what the calls of imports need, where there is what their shims need.
use Rattle.std.proofs.Common.{◌≡◌, ◌∙◌, Bool, true, false, ℕ, zero, suc, slice_get, is_some, List, [], ◌∷◌, Option, Some, None, IsSome, IsTrue, Contains, refl, sym, ap, subst, true≢false}
use Rattle.std.proofs.lemmas.Option.{same_Some}
use Rattle.std.specs.List.{AllByRecursion}
use Rattle.std.specs.Option.{option_and_then, option_map, option_or}
use Rattle.core_types.specs.declared.types.MemoryType.{MemoryType}
use Rattle.standard_kinds.specs.declared.kinds.StringEncoding.{StringEncoding}
use Rattle.standard_kinds.specs.declared.kinds.StringEncoding.TheVariants.{UTF8}
use Rattle.comp_lists.proofs.Lists.{AllByRecursion-contains}
use Rattle.interface_needs.proofs.Lists.{all_of_each}
use Rattle.comp_options.specs.Options.{needs}
use Rattle.comp_roles.specs.Lookups.{first_memory}
use Rattle.comp_roles.specs.declared.imports.Import.{Import}
use Rattle.comp_roles.specs.declared.imports.Import.TheVariants as imports
use Rattle.comp_roles.specs.declared.payloads.PayloadFuncKind.TheVariants as ends
use Rattle.comp_worlds.specs.Encodable.{IsEncodable}
use Rattle.comp_worlds.specs.Offered.{shared_memory}
use Rattle.comp_worlds.specs.declared.world.ComponentWorld.{ComponentWorld}
use Rattle.comp_worlds.specs.declared.world.ValidatedModule.{ValidatedModule}
use Rattle.comp_links.specs.Links.{lower_needs, role_realloc, is_always_shimmed}
use Rattle.comp_links.specs.Modules.{UserImport, user_imports}
use Rattle.comp_links.specs.Targets.{UserModule}
use Rattle.comp_links.specs.Roles.{encoding_in, import_encoding, payload_encoding}
use Rattle.comp_links.specs.Supplied.{IsSuppliedImport}
use Rattle.shim_plan.specs.Needed.{Accessed, access_kind, access_to, accessed_of}
use Rattle.shim_plan.specs.Plans.{shim_of}
use Rattle.shim_plan.specs.declared.kinds.ShimKind.{ShimKind}
use Rattle.shim_plan.specs.declared.kinds.ShimKind.TheVariants as kinds
use Rattle.comp_terms.specs.Shimmed.{shim_owner}
use Rattle.shim_targets.specs.ShimTargets.{which_of, kind_of_import, StandsFor, StandsForOne}
use Rattle.shim_targets.proofs.ByKind.{for_role}
use Rattle.shim_targets.proofs.EachShim.{each_stands}
use Rattle.shim_targets.proofs.FoundShims.{found_shim}
use Rattle.shim_targets.proofs.GivenShims.{given_shim}
use Rattle.shim_targets.proofs.NeededShims.{shim_there}
use Rattle.shim_targets.proofs.Owners.{AccessImport, AlwaysShimmed, access_import_of, always_shimmed, import_found, owner_by_realloc, role_encoded}
use Rattle.shim_targets.proofs.Users.{import_of}
use Rattle.shim_targets.proofs.NoOptions.{role_without}
use Rattle.world_shims.specs.WorldShims.{shims_of}
use Rattle.core_options.specs.MainOptions.{HasLowerOptions}
use Rattle.main_fixup.specs.Filling.{HasShimOptions}

all_at : {X : Type 0} (P : X → Type 0) (xs : List X) (n : ℕ) (x : X) → AllByRecursion P xs → slice_get xs n ≡ Some x → P x
all_at P [] n x h e = absurd (true≢false (sym (ap is_some e)))
all_at P (y ∷ ys) zero x h e = subst P (same_Some y x e) h.0
all_at P (y ∷ ys) (suc n) x h e = all_at P ys n x h.1 e

known : {X : Type 0} (o : Option X) → IsSome o → (x : X) × (o ≡ Some x)
known (Some x) h = (x, refl)
known None h = absurd (true≢false (sym h))

module _ (w : ComponentWorld) (ok : IsEncodable w) (has : AllByRecursion (HasShimOptions w) (shims_of w)) where
  -- options that name nothing that a module exports
  without : (i : UserImport) → needs (lower_needs w i.core.role) 1 ≡ false → HasLowerOptions w i
  without i e =
      let none = role_without w i.core.role e in
      record { memory = λ h. absurd (true≢false (sym h ∙ e)); realloc = λ h. absurd (true≢false (sym h ∙ none.realloc)) }

  -- those of a shim
  by_shim : (i : UserImport) → Contains (user_imports w) i → (encoding : StringEncoding) → import_encoding w i.of i.core.role ≡ Some encoding → (kind : ShimKind) → kind_of_import i.of i.core.role encoding ≡ Some kind → IsSome (shim_of kind (shims_of w)) → HasLowerOptions w i
  by_shim i there encoding encoded kind is has_one =
      let s = known (shim_of kind (shims_of w)) has_one in
      let at = found_shim w ok kind s.0 s.1 in
      let own : kind_of_import i.of i.core.role encoding ≡ Some s.0.kind = is ∙ ap Some (sym at.2) in
      let j : (j : UserImport) × StandsFor w s.0 j = for_role w s.0 i.of i.core.role encoding own (all_at (StandsForOne w) (shims_of w) at.0 s.0 (each_stands w ok) at.1) in
      let given = given_shim w ok i there encoding encoded kind is s.0 s.1 in
      let same : (shim_owner j.0.of j.0.core.role, j.0.core.role) ≡ (shim_owner i.of i.core.role, i.core.role) =
      same_Some (shim_owner j.0.of j.0.core.role, j.0.core.role) (shim_owner i.of i.core.role, i.core.role) (sym j.1.is.of_kind ∙ given.of_kind) in
      let offered : HasLowerOptions w j.0 = all_at (HasShimOptions w) (shims_of w) at.0 s.0 has at.1 j.0 j.1 in
      record {
        memory = λ h. offered.memory (subst (λ (p : UserModule × Import). IsTrue (needs (lower_needs w p.1) 1)) (sym same) h);
        realloc = λ h.
            let asked : IsTrue (needs (lower_needs w j.0.core.role) 2) = subst (λ (p : UserModule × Import). IsTrue (needs (lower_needs w p.1) 2)) (sym same) h in
            let of : j.0.of ≡ i.of = sym (owner_by_realloc w j.0.of j.0.core.role asked) ∙ (ap (λ (p : UserModule × Import). p.0) same ∙ owner_by_realloc w i.of i.core.role h) in
            let role : j.0.core.role ≡ i.core.role = ap (λ (p : UserModule × Import). p.1) same in
            subst (λ (r : Import). IsSome (role_realloc w i.of r)) role (subst (λ (m : UserModule). IsSome (role_realloc w m j.0.core.role)) of (offered.realloc asked));
      }

  through : shared_memory w ≡ None → (i : UserImport) → Contains (user_imports w) i → needs (lower_needs w i.core.role) 1 ≡ true → (encoding : StringEncoding) → import_encoding w i.of i.core.role ≡ Some encoding → (kind : ShimKind) → kind_of_import i.of i.core.role encoding ≡ Some kind → HasLowerOptions w i
  through unshared i there e encoding encoded kind is = by_shim i there encoding encoded kind is (shim_there w ok unshared i there encoding encoded e kind is)

  -- those of a function that always has one
  always_one : (of : UserModule) (name field : List ℕ) (role : Import) → Contains (user_imports w) (record { of = of; core = record { module_name = name; field = field; role = role } }) → is_always_shimmed w role ≡ true →
      HasLowerOptions w (record { of = of; core = record { module_name = name; field = field; role = role } })
  always_one of name field role there always =
      let i : UserImport = record { of = of; core = record { module_name = name; field = field; role = role } } in
      let a : AlwaysShimmed w i = always_shimmed w ok of name field role there always in
      by_shim i there a.encoding a.encoded a.kind a.is a.there

  -- those of a read or a write, where main imports no memory
  access_one : shared_memory w ≡ None → (i : UserImport) → Contains (user_imports w) i → (a : Accessed) → accessed_of i.core.role ≡ Some a → needs (lower_needs w i.core.role) 1 ≡ true → HasLowerOptions w i
  access_one unshared i there a is e =
      let own : AccessImport w i.of i.core.role a = access_import_of w i.of i.core.role a is in
      let m : ValidatedModule = (import_of w i there).world_module.found in
      let encoding : StringEncoding = payload_encoding a.info a.info.ty m in
      let encoded : import_encoding w i.of i.core.role ≡ Some encoding = ap (option_and_then (encoding_in i.core.role)) (import_found w ok i there) ∙ own.encoded m in
      through unshared i there e encoding encoded (access_kind (which_of i.of) a) (own.kind encoding)

  -- where main imports no memory
  unshared_one : shared_memory w ≡ None → (of : UserModule) (name field : List ℕ) (role : Import) → Contains (user_imports w) (record { of = of; core = record { module_name = name; field = field; role = role } }) → IsSuppliedImport w of role → (b : Bool) →
      needs (lower_needs w role) 1 ≡ b → HasLowerOptions w (record { of = of; core = record { module_name = name; field = field; role = role } })
  unshared_one unshared of name field role there encoded false e = without (record { of = of; core = record { module_name = name; field = field; role = role } }) e
  unshared_one unshared of name field (imports.WorldFunc key function abi) there encoded true e =
      let i : UserImport = record { of = of; core = record { module_name = name; field = field; role = imports.WorldFunc key function abi } } in
      let n = known (import_encoding w of i.core.role) (encoded.encoding refl) in
      through unshared i there e n.0 n.1 _ refl
  unshared_one unshared of name field (imports.InterfaceFunc key id function abi) there encoded true e =
      let i : UserImport = record { of = of; core = record { module_name = name; field = field; role = imports.InterfaceFunc key id function abi } } in
      let n = known (import_encoding w of i.core.role) (encoded.encoding refl) in
      through unshared i there e n.0 n.1 _ refl
  unshared_one unshared of name field (imports.ExportedTaskReturn key interface f) there encoded true e =
      let i : UserImport = record { of = of; core = record { module_name = name; field = field; role = imports.ExportedTaskReturn key interface f } } in
      let n = known (import_encoding w of i.core.role) (encoded.encoding refl) in
      through unshared i there e n.0 n.1 _ refl
  unshared_one unshared of name field imports.WaitableSetWait there encoded true e =
      let i : UserImport = record { of = of; core = record { module_name = name; field = field; role = imports.WaitableSetWait } } in
      through unshared i there e UTF8 (role_encoded w ok i there UTF8 (λ m. refl)) _ refl
  unshared_one unshared of name field imports.WaitableSetPoll there encoded true e =
      let i : UserImport = record { of = of; core = record { module_name = name; field = field; role = imports.WaitableSetPoll } } in
      through unshared i there e UTF8 (role_encoded w ok i there UTF8 (λ m. refl)) _ refl
  unshared_one unshared of name field (imports.ErrorContextNew own) there encoded true e =
      let i : UserImport = record { of = of; core = record { module_name = name; field = field; role = imports.ErrorContextNew own } } in
      through unshared i there e own (role_encoded w ok i there own (λ m. refl)) _ refl
  unshared_one unshared of name field (imports.ErrorContextDebugMessage own) there encoded true e =
      always_one of name field (imports.ErrorContextDebugMessage own) there refl
  unshared_one unshared of name field (imports.StreamRead p is_async) there encoded true e =
      access_one unshared (record { of = of; core = record { module_name = name; field = field; role = imports.StreamRead p is_async } }) there (access_to p ends.StreamRead is_async) refl e
  unshared_one unshared of name field (imports.StreamWrite p is_async) there encoded true e =
      access_one unshared (record { of = of; core = record { module_name = name; field = field; role = imports.StreamWrite p is_async } }) there (access_to p ends.StreamWrite is_async) refl e
  unshared_one unshared of name field (imports.FutureRead p is_async) there encoded true e =
      access_one unshared (record { of = of; core = record { module_name = name; field = field; role = imports.FutureRead p is_async } }) there (access_to p ends.FutureRead is_async) refl e
  unshared_one unshared of name field (imports.FutureWrite p is_async) there encoded true e =
      access_one unshared (record { of = of; core = record { module_name = name; field = field; role = imports.FutureWrite p is_async } }) there (access_to p ends.FutureWrite is_async) refl e
  unshared_one unshared of name field role there encoded true e = absurd (true≢false (sym e))

  -- where main imports its memory, that is there, and so is the realloc with which the function was lowered
  one : (i : UserImport) → Contains (user_imports w) i → IsSuppliedImport w i.of i.core.role → HasLowerOptions w i
  one i there supplied = by (shared_memory w) refl
    where
      asked : IsSome (shared_memory w) → (b : Bool) → is_always_shimmed w i.core.role ≡ b → IsTrue (needs (lower_needs w i.core.role) 2) → IsSome (role_realloc w i.of i.core.role)
      asked shared true is h = (always_one i.of i.core.module_name i.core.field i.core.role there is).realloc h
      asked shared false apart h = supplied.realloc shared apart h

      by : (o : Option MemoryType) → shared_memory w ≡ o → HasLowerOptions w i
      by None e = unshared_one e i.of i.core.module_name i.core.field i.core.role there supplied (needs (lower_needs w i.core.role) 1) refl
      by (Some type) e = record {
        memory = λ h. ap is_some (ap (λ o. option_or o (option_map (λ m. m.1) (first_memory w.main.exports.exports))) e);
        realloc = asked (ap is_some e) (is_always_shimmed w i.core.role) refl;
      }

pub all_lowered : (w : ComponentWorld) → IsEncodable w → AllByRecursion (HasShimOptions w) (shims_of w) → AllByRecursion (λ (i : UserImport). IsSuppliedImport w i.of i.core.role) (user_imports w) → AllByRecursion (HasLowerOptions w) (user_imports w)
all_lowered w ok has encoded =
    all_of_each (HasLowerOptions w) (user_imports w)
    (λ i there. one w ok has i there (AllByRecursion-contains (λ (i : UserImport). IsSuppliedImport w i.of i.core.role) (user_imports w) i encoded there))
