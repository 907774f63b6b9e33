-- The functions of the world that core imports name are used.
use Rattle.std.proofs.Common.{inl, inr, Bool, true, Some, None, ◌≡◌, ◌∙◌, ℕ, List, [], ◌∷◌, refl, sym, ap, subst, map, if◌then◌else◌, IsTrue, Contains}
use Rattle.std.specs.List.{list_any}
use Rattle.std.proofs.lemmas.Bool.Decides.{Decides-eqb}
use Rattle.std.proofs.lemmas.Bool.{or_left, or_right}
use Rattle.std.proofs.lemmas.Slice.Eq.{bytes_eq-Decides}
use Rattle.wit_data.specs.declared.functions.AbiVariant.{AbiVariant}
use Rattle.wit_data.specs.declared.ids.InterfaceId.{InterfaceId}
use Rattle.wit_data.specs.declared.worlds.WorldKey.{WorldKey}
use Rattle.comp_roles.specs.CoreImports.{CoreImport, imports_from, fields_of}
use Rattle.comp_roles.specs.declared.imports.Import.{Import}
use Rattle.comp_roles.specs.declared.imports.Import.TheVariants as imports
use Rattle.comp_roles.specs.declared.imports.ImportInstance.{ImportInstance}
use Rattle.comp_roles.specs.declared.imports.ImportInstance.TheVariants as instances
use Rattle.comp_worlds.specs.Worlds.{IsImportRole}
use Rattle.comp_worlds.specs.WorldContents.{imported_name}
use Rattle.comp_worlds.specs.declared.world.ComponentWorld.{ComponentWorld}
use Rattle.comp_links.specs.Modules.{WorldModule, UserImport, import_groups, user_imports, user_modules}
use Rattle.comp_links.specs.Roles.{interface_function, is_named, is_used}
use Rattle.interface_needs.proofs.Lists.{contains_none, contains_cons, contains_flat, IsInOne, flat_contains, passes_any}
use Rattle.shim_targets.proofs.Users.{IsImportOf, import_of}
use Rattle.main_fixup.specs.Filling.{IsUsedOfInterface}

-- what holds of the role of an import of a user module holds of one of the fields of all imports
import_any : (w : ComponentWorld) (test : Import → Bool) (i : UserImport) → test i.core.role ≡ true → Contains (user_imports w) i → list_any (λ g. list_any (λ f. test f.1) (fields_of g.1)) (import_groups w) ≡ true
import_any w test the passes present =
    let m : IsImportOf w the = import_of w the present in
    let g : IsInOne imports_from m.world_module.found.imports.modules the.core = flat_contains imports_from m.world_module.found.imports.modules the.core m.there in
    passes_any (λ g. list_any (λ f. test f.1) (fields_of g.1)) (import_groups w) g.x (contains_flat (λ (x : WorldModule). x.found.imports.modules) (user_modules w) m.world_module g.x m.listed g.one) (in_group g.x g.there)
  where
    in_fields : (n : List ℕ) (fs : List (List ℕ × Import)) → Contains (map (λ f. record { module_name = n; field = f.0; role = f.1 }) fs) the.core → list_any (λ f. test f.1) fs ≡ true
    in_fields n [] c = contains_none the.core c
    in_fields n (f ∷ fs) c = elim (contains_cons (record { module_name = n; field = f.0; role = f.1 }) (map (λ f. record { module_name = n; field = f.0; role = f.1 }) fs) the.core c) [
      | inl same ↦ or_left (test f.1) (list_any (λ f. test f.1) fs) (subst (λ (i : CoreImport). test i.role ≡ true) (sym same) passes)
      | inr later ↦ or_right (test f.1) (list_any (λ f. test f.1) fs) (in_fields n fs later)
    ]

    in_group : (g : List ℕ × ImportInstance) → Contains (imports_from g) the.core → list_any (λ f. test f.1) (fields_of g.1) ≡ true
    in_group (n, instances.Names fs) c = in_fields n fs c
    in_group (n, instances.Whole which) c = contains_none the.core c

-- the root function of an import of a user module is used
pub used_by_import : (w : ComponentWorld) (i : UserImport) (text : List ℕ) → imported_name i.core.role ≡ Some text → Contains (user_imports w) i → IsTrue (is_used w text)
used_by_import w i text named present = import_any w (λ r. is_named text (imported_name r)) i (ap (is_named text) named ∙ (bytes_eq-Decides text text).1 refl) present

-- the function of an interface that the role of a core import has
own_function : (id : InterfaceId) (key : WorldKey) (text : List ℕ) (abi : AbiVariant) → interface_function id (imports.InterfaceFunc key id text abi) ≡ Some text
own_function id key text abi = ap (λ b. if b then Some text else None) ((Decides-eqb id.index id.index).1 refl)

-- the function of an interface that an import of a user module names is used
pub used_of_import : (w : ComponentWorld) (i : UserImport) (key : WorldKey) (id : InterfaceId) (text : List ℕ) (abi : AbiVariant) → i.core.role ≡ imports.InterfaceFunc key id text abi → IsImportRole w i.core.role → Contains (user_imports w) i →
    IsUsedOfInterface w id text
used_of_import w i key id text abi is right present =
    let r : IsImportRole w (imports.InterfaceFunc key id text abi) = subst (IsImportRole w) is right in
    let same : is_named text (interface_function id i.core.role) ≡ true = ap (is_named text) (ap (interface_function id) is ∙ own_function id key text abi) ∙ (bytes_eq-Decides text text).1 refl in
    record { key = key; listed = r.0; named = r.1; used = import_any w (λ r. is_named text (interface_function id r)) i same present }
