-- The types of the functions that core imports use are among those of which the component needs definitions.
use Rattle.std.proofs.Common.{◌≡◌, ◌∙◌, ◌==◌, ℕ, Bool, true, false, true≢false, List, ◌++◌, Contains, refl, sym, ap, subst, Some, None, if◌then◌else◌}
use Rattle.std.specs.List.{flat_map, list_any}
use Rattle.std.proofs.lemmas.List.Elements.{Contains-append_left}
use Rattle.std.proofs.lemmas.Slice.Eq.{bytes_eq-Decides}
use Rattle.comp_lists.specs.Found.{found}
use Rattle.comp_lists.proofs.Lists.{Contains-map}
use Rattle.wit_data.specs.declared.functions.AbiVariant.{AbiVariant}
use Rattle.wit_data.specs.declared.functions.Function.{Function}
use Rattle.wit_data.specs.declared.ids.InterfaceId.{InterfaceId}
use Rattle.wit_data.specs.declared.types.Type.{«Type» as Ty}
use Rattle.wit_data.specs.declared.worlds.WorldKey.{WorldKey}
use Rattle.wit_data.specs.declared.worlds.WorldKey.TheVariants as keys
use Rattle.comp_roles.specs.CoreImports.{CoreImport, fields_of, imports_from}
use Rattle.comp_roles.specs.declared.imports.Import.{Import}
use Rattle.comp_roles.specs.declared.imports.Import.TheVariants as imports
use Rattle.comp_roles.specs.declared.imports.ImportInstance.{ImportInstance}
use Rattle.world_values.specs.Items.{functions_of, root_function_at}
use Rattle.world_values.specs.Mentions.{role_types, types_of_function, function_types, import_types, export_types}
use Rattle.comp_worlds.specs.Uses.{all_imports}
use Rattle.comp_worlds.specs.WorldContents.{items_of, imported_name}
use Rattle.comp_worlds.specs.declared.world.ComponentWorld.{ComponentWorld}
use Rattle.comp_links.specs.Modules.{import_groups}
use Rattle.comp_links.proofs.Groups.{grouped_imports}
use Rattle.comp_links.specs.Roles.{is_named, is_used, interface_function, is_used_of}
use Rattle.interface_needs.proofs.Lists.{Passes, any_passes, contains_flat}
use Rattle.interface_needs.proofs.Owners.{same_id}
use Rattle.interface_needs.proofs.Needed.{used_in}

-- what the role of a core import names is used
pub role_used : (w : ComponentWorld) (i : CoreImport) (t : Ty) → Contains (all_imports w.main w.adapters) i → Contains (role_types w.resolve (items_of w).imports i.role) t → Contains (used_in w) t
role_used w i t c d =
    let world = items_of w in
    let all : List CoreImport = all_imports w.main w.adapters in
    let roles : CoreImport → List Ty = λ i. role_types w.resolve world.imports i.role in
    Contains-append_left (flat_map roles all) (flat_map (λ e. import_types e.1) world.imports ++ flat_map (λ e. export_types w.resolve e.1) world.exports) t (contains_flat roles all i t c d)

-- a core import with this role
pub record HasCoreImport (w : ComponentWorld) (role : Import) : Type 0 where
  pub core_import : CoreImport
  pub there : Contains (all_imports w.main w.adapters) core_import
  pub is : core_import.role ≡ role

-- a role that some import of some module has
some_role : (w : ComponentWorld) (test : Import → Bool) → list_any (λ (g : List ℕ × ImportInstance). list_any (λ (f : List ℕ × Import). test f.1) (fields_of g.1)) (import_groups w) ≡ true →
    (role : Import) × (test role ≡ true) × HasCoreImport w role
some_role w test h =
    let group : Passes (λ (g : List ℕ × ImportInstance). list_any (λ (f : List ℕ × Import). test f.1) (fields_of g.1)) (import_groups w) = any_passes (λ g. list_any (λ f. test f.1) (fields_of g.1)) (import_groups w) h in
    let g = group.x in
    let field : Passes (λ (f : List ℕ × Import). test f.1) (fields_of g.1) = any_passes (λ f. test f.1) (fields_of g.1) group.passes in
    let f = field.x in
    let import_of : List ℕ × Import → CoreImport = λ f. record { module_name = g.0; field = f.0; role = f.1 } in (
      f.1,
      field.passes,
      record {
        core_import = import_of f;
        there = subst (λ (l : List CoreImport). Contains l (import_of f)) (grouped_imports w) (contains_flat imports_from (import_groups w) g (import_of f) group.there (Contains-map import_of (fields_of g.1) f field.there));
        is = refl;
      },
    )

-- ---- functions of interfaces

-- the role of a function of an interface
pub record IsInterfaceRole (id : InterfaceId) (text : List ℕ) (role : Import) : Type 0 where
  pub key : WorldKey
  pub abi : AbiVariant
  pub is : role ≡ imports.InterfaceFunc key id text abi

interface_role : (id : InterfaceId) (text : List ℕ) (role : Import) → is_named text (interface_function id role) ≡ true → IsInterfaceRole id text role
interface_role id text (imports.InterfaceFunc key other name abi) h = by (id.index == other.index) refl h
  where
    by : (b : Bool) → (id.index == other.index) ≡ b → is_named text (if b then Some name else None) ≡ true → IsInterfaceRole id text (imports.InterfaceFunc key other name abi)
    by true same h = record {
      key = key;
      abi = abi;
      is = ap (λ i. imports.InterfaceFunc key i name abi) (sym (same_id id other same)) ∙ ap (λ n. imports.InterfaceFunc key id n abi) (sym ((bytes_eq-Decides text name).0 h));
    }
    by false apart h = absurd (true≢false (sym h))
interface_role id text role h = absurd (true≢false (sym h))

pub interface_function_used : (w : ComponentWorld) (id : InterfaceId) (name : List ℕ) (f : Function) → is_used_of w id name ≡ true → found name (functions_of w.resolve id) ≡ Some f → (t : Ty) → Contains (function_types f) t → Contains (used_in w) t
interface_function_used w id name f used at t c =
    let some = some_role w (λ role. is_named name (interface_function id role)) used in
    let role : IsInterfaceRole id name some.0 = interface_role id name some.0 some.1 in
    let i : HasCoreImport w some.0 = some.2 in
    let is : i.core_import.role ≡ imports.InterfaceFunc role.key id name role.abi = i.is ∙ role.is in
    role_used w i.core_import t i.there (subst (λ r. Contains (role_types w.resolve (items_of w).imports r) t) (sym is) (subst (λ o. Contains (types_of_function o) t) (sym at) c))

-- ---- functions at the root

pub record IsRootRole (text : List ℕ) (role : Import) : Type 0 where
  pub function : List ℕ
  pub abi : AbiVariant
  pub is : role ≡ imports.WorldFunc (keys.Name text) function abi

root_role : (text : List ℕ) (role : Import) → is_named text (imported_name role) ≡ true → IsRootRole text role
root_role text (imports.WorldFunc (keys.Name name) function abi) h = record { function = function; abi = abi; is = ap (λ n. imports.WorldFunc (keys.Name n) function abi) (sym ((bytes_eq-Decides text name).0 h)) }
root_role text role h = absurd (true≢false (sym h))

pub root_function_used : (w : ComponentWorld) (name : List ℕ) (f : Function) → is_used w name ≡ true → root_function_at (items_of w).imports (keys.Name name) ≡ Some f → (t : Ty) → Contains (function_types f) t → Contains (used_in w) t
root_function_used w name f used at t c =
    let some = some_role w (λ role. is_named name (imported_name role)) used in
    let role : IsRootRole name some.0 = root_role name some.0 some.1 in
    let i : HasCoreImport w some.0 = some.2 in
    let is : i.core_import.role ≡ imports.WorldFunc (keys.Name name) role.function role.abi = i.is ∙ role.is in
    role_used w i.core_import t i.there (subst (λ r. Contains (role_types w.resolve (items_of w).imports r) t) (sym is) (subst (λ o. Contains (types_of_function o) t) (sym at) c))
