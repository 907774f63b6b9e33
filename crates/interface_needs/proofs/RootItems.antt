-- The functions and the types at the root of a world, and the resources whose handles are dropped.
use Rattle.std.proofs.Common.{arith, ◌≡◌, ◌<◌, ◌≤◌, ℕ, Bool, true, false, List, [], ◌++◌, length, Contains, refl, sym, ap, subst, Option, Some, None}
use Rattle.std.specs.Prelude.{IsSome}
use Rattle.std.specs.List.{AllByRecursion, flat_map}
use Rattle.std.specs.Map.{lookup}
use Rattle.std.specs.Option.{option_and_then}
use Rattle.std.proofs.lemmas.List.Elements.{Contains-append_left, Contains-append_right}
use Rattle.std.specs.Str.{bytes_eq}
use Rattle.std.proofs.lemmas.Option.{none-some, same_Some}
use Rattle.comp_lists.proofs.Lists.{AllByRecursion-contains}
use Rattle.comp_lists.proofs.Lookups.{some_of}
use Rattle.comp_lists.specs.Found.{found}
use Rattle.wit_data.specs.declared.functions.Function.{Function}
use Rattle.wit_data.specs.declared.ids.InterfaceId.{InterfaceId}
use Rattle.wit_data.specs.declared.ids.TypeId.{TypeId}
use Rattle.wit_data.specs.declared.resolve.Resolve.{Resolve}
use Rattle.wit_data.specs.declared.types.Type.{«Type» as Ty}
use Rattle.wit_data.specs.declared.types.Type.TheVariants.{Id}
use Rattle.wit_data.specs.declared.worlds.WorldItem.{WorldItem}
use Rattle.wit_data.specs.declared.worlds.WorldItem.TheVariants as items
use Rattle.wit_data.specs.declared.worlds.WorldKey.{WorldKey}
use Rattle.wit_data.specs.declared.worlds.WorldKey.TheVariants as keys
use Rattle.wit_data.specs.Keys.{is_same_key}
use Rattle.wit_data.specs.Sound.{HasFunction}
use Rattle.wit_data.specs.Values.{kind_at}
use Rattle.wit_types.specs.Allowing.{is_allowed, is_resource, IsDefinedHere, allows_function}
use Rattle.wit_types.specs.Settings.{Setting}
use Rattle.comp_roles.specs.CoreImports.{CoreImport, fields_of, imports_from}
use Rattle.comp_roles.specs.declared.imports.Import.{Import}
use Rattle.comp_roles.specs.declared.imports.Import.TheVariants as imports
use Rattle.comp_roles.specs.declared.imports.ImportInstance.{ImportInstance}
use Rattle.comp_roles.specs.declared.imports.ImportInstance.TheVariants as instances
use Rattle.world_values.specs.Items.{function_in, functions_of, function_of_item}
use Rattle.world_values.specs.Mentions.{function_types, import_types, export_types, role_types}
use Rattle.comp_worlds.specs.Encodable.{IsEncodable, IsTypePlaced, IsFunctionPlaced, IsItemPlaced, IsExportPlaced, IsRolePlaced, place}
use Rattle.comp_worlds.specs.Uses.{all_imports}
use Rattle.comp_worlds.specs.Uses.{all_imports}
use Rattle.comp_worlds.specs.WorldContents.{items_of, exported_item, interface_at, name_at}
use Rattle.comp_links.specs.Modules.{import_groups}
use Rattle.comp_links.proofs.Groups.{grouped_imports, groups_right}
use Rattle.comp_worlds.specs.Worlds.{IsImportGroup, IsImportRole, IsResource}
use Rattle.comp_worlds.specs.declared.world.ComponentWorld.{ComponentWorld}
use Rattle.interface_needs.specs.Needs.{IsImported}
use Rattle.interface_needs.specs.RootNeeds.{IsRootScope, HasWorldTypes, IsUsedFunction, interface_of_item, IsExportedFunction, IsUsedType, IsWorldType, IsDropKnown}
use Rattle.interface_needs.proofs.Lists.{IsInOne, IsImage, flat_contains, map_contains, contains_flat, contains_first}
use Rattle.interface_needs.proofs.Live.{live_given}
use Rattle.interface_needs.proofs.Needed.{used_in, is_needed}
use Rattle.interface_needs.proofs.Near.{IsNear, near_function}
use Rattle.interface_needs.proofs.Places.{before_imported, place_named, place_owned}
use Rattle.interface_needs.proofs.RootTypes.{type_defined, near_allowed, function_allowed}
use Rattle.interface_needs.proofs.Sound.{function_sound, import_sound, export_sound}
use Rattle.interface_needs.proofs.Tables.{lookup_contains}
use Rattle.interface_needs.proofs.Uses.{role_used, root_function_used}

-- a function that is found by its key is an item
function_is : (item : WorldItem) (f : Function) → function_in item ≡ Some f → item ≡ items.Function f
function_is (items.Function g) f h = ap items.Function (same_Some g f h)
function_is item f h = absurd (none-some f h)

pub record IsRootFunction (entries : List (WorldKey × WorldItem)) (f : Function) : Type 0 where
  pub key : WorldKey
  pub there : Contains entries (key, items.Function f)

function_there : (entries : List (WorldKey × WorldItem)) (f : Function) (o : Option WorldItem) → (test : WorldKey → Bool) → lookup test entries ≡ o → option_and_then function_in o ≡ Some f → IsRootFunction entries f
function_there entries f None test found h = absurd (none-some f h)
function_there entries f (Some item) test found h =
    let there = lookup_contains test entries item found in record { key = there.0; there = subst (λ i. Contains entries (there.0, i)) (function_is item f h) there.1 }

-- an item of the world's exports, and one of its imports, uses its types
pub export_used : (w : ComponentWorld) (e : WorldKey × WorldItem) (t : Ty) → Contains (items_of w).exports e → Contains (export_types w.resolve e.1) t → Contains (used_in w) t
export_used w e t c d =
    let world = items_of w in
    let roles : List Ty = flat_map (λ i. role_types w.resolve world.imports i.role) (all_imports w.main w.adapters) in
    let imported : List Ty = flat_map (λ e. import_types e.1) world.imports in
    let exported : List Ty = flat_map (λ e. export_types w.resolve e.1) world.exports in
    Contains-append_right roles (imported ++ exported) t (Contains-append_right imported exported t (contains_flat (λ (e : WorldKey × WorldItem). export_types w.resolve e.1) world.exports e t c d))

import_used : (w : ComponentWorld) (e : WorldKey × WorldItem) (t : Ty) → Contains (items_of w).imports e → Contains (import_types e.1) t → Contains (used_in w) t
import_used w e t c d =
    let world = items_of w in
    let roles : List Ty = flat_map (λ i. role_types w.resolve world.imports i.role) (all_imports w.main w.adapters) in
    let imported : List Ty = flat_map (λ e. import_types e.1) world.imports in
    let exported : List Ty = flat_map (λ e. export_types w.resolve e.1) world.exports in
    Contains-append_right roles (imported ++ exported) t (Contains-append_left imported exported t (contains_flat (λ (e : WorldKey × WorldItem). import_types e.1) world.imports e t c d))

-- the role of a core import is one that a module may have
fields_right : (w : ComponentWorld) (g : List ℕ × ImportInstance) → IsImportGroup w g → AllByRecursion (λ (f : List ℕ × Import). IsImportRole w f.1) (fields_of g.1)
fields_right w (name, instances.Names fields) h = h.1
fields_right w (name, instances.Whole which) h = tt

-- ---- functions that are exported

-- a function of an item of the world's exports: of this interface, or, where it is none, the item itself
pub record IsOfExport (w : ComponentWorld) (interface : Option InterfaceId) (f : Function) : Type 0 where
  pub key : WorldKey
  pub item : WorldItem
  pub name : List ℕ
  pub there : Contains (items_of w).exports (key, item)
  pub of : function_of_item w.resolve name (Some item) ≡ Some f
  pub in_interface : interface_of_item (Some item) ≡ interface

pub exported_there : (w : ComponentWorld) {interface : Option InterfaceId} {f : Function} → IsExportedFunction w interface f → IsOfExport w interface f
exported_there w {interface} {f} h = by (exported_item w h.key) refl h.exported h.of
  where
    by : (o : Option WorldItem) → exported_item w h.key ≡ o → function_of_item w.resolve h.name o ≡ Some f → interface_of_item o ≡ interface → IsOfExport w interface f
    by None e k i = absurd (none-some f k)
    by (Some item) e k i = let there = lookup_contains (is_same_key h.key) (items_of w).exports item e in record { key = there.0; item = item; name = h.name; there = there.1; of = k; in_interface = i }

function_found : (r : Resolve) (id : InterfaceId) (name : List ℕ) (f : Function) → found name (functions_of r id) ≡ Some f → (n : List ℕ) × Contains (functions_of r id) (n, f)
function_found r id name f h = lookup_contains (bytes_eq name) (functions_of r id) f h

module _ (w : ComponentWorld) (ok : IsEncodable w) (f : Function) where
  -- its types are in the resolve
  pub exported_sound : {interface : Option InterfaceId} → IsOfExport w interface f → HasFunction w.resolve f
  exported_sound {interface} e = by e.item e.there e.of
    where
      by : (item : WorldItem) → Contains (items_of w).exports (e.key, item) → function_of_item w.resolve e.name (Some item) ≡ Some f → HasFunction w.resolve f
      by (items.Function g) c k = subst (HasFunction w.resolve) (same_Some g f k) (export_sound w ok (e.key, items.Function g) c).1
      by (items.Interface id) c k = let at = function_found w.resolve id e.name f k in function_sound w ok id at.0 f at.1
      by (items.NamedType t) c k = absurd (none-some f k)

  -- those of one at the root are in place
  pub exported_placed : IsOfExport w None f → IsFunctionPlaced w.resolve (items_of w).imports (length (items_of w).imports) f
  exported_placed e = by e.item (AllByRecursion-contains (λ e. IsExportPlaced w.resolve (items_of w) e.1) (items_of w).exports (e.key, e.item) ok.exports e.there) e.of e.in_interface
    where
      es : List (WorldKey × WorldItem)
      es = (items_of w).imports

      by : (item : WorldItem) → IsExportPlaced w.resolve (items_of w) item → function_of_item w.resolve e.name (Some item) ≡ Some f → interface_of_item (Some item) ≡ None → IsFunctionPlaced w.resolve es (length es) f
      by (items.Function g) h k i = subst (IsFunctionPlaced w.resolve es (length es)) (same_Some g f k) h
      by (items.Interface id) h k i = absurd (none-some id (sym i))
      by (items.NamedType t) h k i = absurd (none-some f k)

  -- and they are types of the item
  pub exported_types : (e : IsOfExport w None f) (t : Ty) → Contains (function_types f) t → Contains (export_types w.resolve e.item) t
  exported_types e t c = by e.item e.of e.in_interface
    where
      by : (item : WorldItem) → function_of_item w.resolve e.name (Some item) ≡ Some f → interface_of_item (Some item) ≡ None → Contains (export_types w.resolve item) t
      by (items.Function g) k i = subst (λ (x : Function). Contains (function_types x) t) (sym (same_Some g f k)) c
      by (items.Interface id) k i = absurd (none-some id (sym i))
      by (items.NamedType t) k i = absurd (none-some f k)

module _ (w : ComponentWorld) (ok : IsEncodable w) where
  role_right : (i : CoreImport) → Contains (all_imports w.main w.adapters) i → IsImportRole w i.role
  role_right i c =
      let one : IsInOne imports_from (import_groups w) i = flat_contains imports_from (import_groups w) i (subst (λ (l : List CoreImport). Contains l i) (sym (grouped_imports w)) c) in
      let g = one.x in
      let import_of : List ℕ × Import → CoreImport = λ f. record { module_name = g.0; field = f.0; role = f.1 } in
      let field : IsImage import_of (fields_of g.1) i = map_contains import_of (fields_of g.1) i one.there in
      let fields = fields_right w g (AllByRecursion-contains (IsImportGroup w) (import_groups w) g (groups_right w ok.valid) one.one) in
      subst (λ (i : CoreImport). IsImportRole w i.role) field.same (AllByRecursion-contains (λ (f : List ℕ × Import). IsImportRole w f.1) (fields_of g.1) field.x fields field.there)

  -- a resource whose handles a core import drops
  pub drop_known : (i : CoreImport) (key : WorldKey) (interface : Option InterfaceId) (t : TypeId) → Contains (all_imports w.main w.adapters) i → i.role ≡ imports.ImportedResourceDrop key interface t → IsDropKnown w t
  drop_known i key interface t c is =
      let es = (items_of w).imports in
      let types = w.resolve.types in
      let resource : IsResource types t.index = subst (IsImportRole w) is (role_right i c) in
      let placed : place types es (Some (Id t)) ≤ length es = subst (IsRolePlaced w.resolve es) is (AllByRecursion-contains (λ (i : CoreImport). IsRolePlaced w.resolve es i.role) (all_imports w.main w.adapters) i ok.roles c) in
      let used : Contains (used_in w) (Id t) = role_used w i (Id t) c (subst (λ r. Contains (role_types w.resolve es r) (Id t)) (sym is) (contains_first (Id t) [])) in
      let at : IsTypePlaced w.resolve es t.index = ok.types t.index resource.present in
      record {
        resource = resource;
        named = at.named resource.kind;
        needed = λ other own.
            let first = before_imported es other (subst (λ k. k ≤ length es) (place_owned types es ok.sound.back t.index other resource.present own) placed) in
            let imported : IsImported w other = record { key = first.0; there = first.1 } in
            is_needed w ok other t.index imported own (live_given types ok.sound.back (used_in w) t resource.present used);
        at_root = ok.resources.each t.index resource;
      }

  -- a type that no interface owns and that has a name has the place of the root
  pub root_placed : (id : TypeId) → id.index < length w.resolve.types → interface_at w.resolve.types id.index ≡ None → IsSome (name_at w.resolve.types id.index) → place w.resolve.types (items_of w).imports (Some (Id id)) ≤ length (items_of w).imports
  root_placed id l own named =
      let name = some_of (name_at w.resolve.types id.index) named in
      let at = place_named w.resolve.types (items_of w).imports ok.sound.back id.index name.0 l own name.1 in
      omega (arith, at)

  module _ (s : Setting) (root : IsRootScope w s) where
    -- the functions that core imports use
    pub used_allowed : HasWorldTypes w s (length w.resolve.types) → (name : List ℕ) (f : Function) → IsUsedFunction w name f → allows_function s f ≡ true
    used_allowed world name f h =
        let es = (items_of w).imports in
        let item : IsRootFunction es f = function_there es f (lookup (is_same_key (keys.Name name)) es) (is_same_key (keys.Name name)) refl h.imported in
        let sound : HasFunction w.resolve f = (import_sound w ok (item.key, items.Function f) item.there).1 in
        let placed : IsFunctionPlaced w.resolve es (length es) f = AllByRecursion-contains (λ e. IsItemPlaced w.resolve es e.1) es (item.key, items.Function f) ok.imports item.there in
        function_allowed w ok s root world f (near_function w ok (length es) f sound placed (root_function_used w name f h.used h.imported))

    -- those that are exported there
    pub exported_allowed : HasWorldTypes w s (length w.resolve.types) → (f : Function) → IsExportedFunction w None f → allows_function s f ≡ true
    exported_allowed world f h =
        let e = exported_there w h in
        function_allowed w ok s root world f (near_function w ok (length (items_of w).imports) f (exported_sound w ok f e) (exported_placed w ok f e) (λ t c. export_used w (e.key, e.item) t e.there (exported_types w ok f e t c)))

    -- the types that a component uses
    pub used_type_allowed : HasWorldTypes w s (length w.resolve.types) → (t : TypeId) → t.index < length w.resolve.types → IsUsedType w t → is_allowed s (Some (Id t)) ≡ true
    used_type_allowed world t within h =
        let near : IsNear w (length (items_of w).imports) t.index = record { live = h.live; placed = h.placed } in near_allowed w ok s root world t.index within near

    -- the types that the world imports
    pub world_type_defined : (id : TypeId) → HasWorldTypes w s id.index → IsWorldType w id → is_resource (kind_at w.resolve.types id.index) ≡ false → IsDefinedHere s (kind_at w.resolve.types id.index)
    world_type_defined id world h values =
        let within : id.index < length w.resolve.types = (import_sound w ok (h.key, items.NamedType id) h.there).1 in
        let used : Contains (used_in w) (Id id) = import_used w (h.key, items.NamedType id) (Id id) h.there (contains_first (Id id) []) in
        let near : IsNear w (length (items_of w).imports) id.index = record { live = live_given w.resolve.types ok.sound.back (used_in w) id within used; placed = h.placed } in
        type_defined w ok s root id.index within world near values
