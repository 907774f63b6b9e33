-- The types that an exported interface lists: where they are, and that the root may forget them;
-- and that no type of which one may be made is a primitive type.
use Rattle.std.proofs.Common.{◌≡◌, ◌∙◌, ℕ, Bool, true, false, true≢false, cond, List, [], ◌∷◌, map, Option, Some, None, IsSome, Contains, refl, sym, subst}
use Rattle.std.specs.List.{AllByRecursion}
use Rattle.std.specs.Map.{lookup}
use Rattle.std.specs.Str.{bytes_eq}
use Rattle.std.proofs.lemmas.Slice.Eq.{bytes_eq-Decides}
use Rattle.comp_lists.specs.Found.{found}
use Rattle.std.proofs.lemmas.Bool.Decides.{Decides-eqb}
use Rattle.std.proofs.lemmas.Map.Views.{Contains-from_any}
use Rattle.std.proofs.lemmas.Option.{none-some, same_Some}
use Rattle.comp_lists.proofs.Lists.{AllByRecursion-contains, Contains-map}
use Rattle.wit_data.specs.Keys.{is_same_key}
use Rattle.wit_data.specs.Live.{named_types}
use Rattle.wit_data.specs.Sound.{HasEntry, HasInterface, HasWorld}
use Rattle.wit_data.specs.declared.ids.InterfaceId.{InterfaceId}
use Rattle.wit_data.specs.declared.ids.TypeId.{TypeId}
use Rattle.wit_data.specs.declared.worlds.WorldItem.{WorldItem}
use Rattle.wit_data.specs.declared.worlds.WorldItem.TheVariants as items
use Rattle.wit_data.specs.declared.worlds.WorldKey.{WorldKey}
use Rattle.wit_data.proofs.Values.{all_at}
use Rattle.wit_types.specs.Maps.{IsUnnamed}
use Rattle.world_values.specs.Items.{no_items}
use Rattle.comp_worlds.specs.Encodable.{IsEncodable, IsExportPlaced, IsExportedPlaced, IsListedType, IsOwnType}
use Rattle.comp_worlds.specs.WorldContents.{imported_types, interface_at, items_of, name_at}
use Rattle.comp_worlds.specs.declared.world.ComponentWorld.{ComponentWorld}
use Rattle.interface_needs.specs.RootNeeds.{IsExportedInterface, IsUsableType}
use Rattle.interface_needs.proofs.ExportedInterfaces.{listed_not_imported, usable_listed}
use Rattle.interface_needs.proofs.Lists.{all_of_each, contains_first, contains_later}
use Rattle.root_imports.specs.Forgetting.{IsForgettable}
use Rattle.root_imports.specs.Interfaces.{ExportsListed, IsInterfaceExport}
use Rattle.root_imports.specs.Met.{is_imported_type, is_named_of, Leaves}
use Rattle.root_imports.specs.RootScopes.{root_setting}
use Rattle.root_imports.specs.declared.met_types.MetTypes.{MetTypes}
use Rattle.root_imports.proofs.Meeting.{named_parts, none_of_left}
use Rattle.comp_bytes.specs.declared.def.Def.{Def}
use Rattle.nested_terms.specs.Nested.{type_named}
use Rattle.comp_links.specs.Lists.{type_of_world}
use Rattle.root_imports.proofs.ExportedTypes.{named_within, same_name}

abbrev Entries : Type 0
Entries = List (WorldKey × WorldItem)

-- what is found by its key is an entry
found_listed : (test : WorldKey → Bool) (es : Entries) (item : WorldItem) → lookup test es ≡ Some item → (key : WorldKey) × Contains es (key, item)
found_listed test [] item e = absurd (none-some item e)
found_listed test (x ∷ xs) item e = by (test x.0) e (found_listed test xs item)
  where
    by : (b : Bool) → cond b (Some x.1) (lookup test xs) ≡ Some item → (lookup test xs ≡ Some item → (key : WorldKey) × Contains xs (key, item)) → (key : WorldKey) × Contains (x ∷ xs) (key, item)
    by true e later = (x.0, subst (λ i. Contains (x ∷ xs) (x.0, i)) (same_Some x.1 item e) (contains_first x xs))
    by false e later = let l = later e in (l.0, contains_later x xs (l.0, item) l.1)

-- what is found by its name is an entry
pub found_contains : {X : Type 0} (name : List ℕ) (x : X) (es : List (List ℕ × X)) → found name es ≡ Some x → Contains es (name, x)
found_contains name x [] e = absurd (none-some x e)
found_contains name x (y ∷ ys) e = by (bytes_eq name y.0) refl e (found_contains name x ys)
  where
    by : (b : Bool) → bytes_eq name y.0 ≡ b → cond b (Some y.1) (found name ys) ≡ Some x → (found name ys ≡ Some x → Contains ys (name, x)) → Contains (y ∷ ys) (name, x)
    by true same e later = subst (λ n. Contains (y ∷ ys) (n, x)) (sym ((bytes_eq-Decides name y.0).0 same)) (subst (λ v. Contains (y ∷ ys) (y.0, v)) (same_Some y.1 x e) (contains_first y ys))
    by false apart e later = contains_later y ys (name, x) (later e)

module _ (w : ComponentWorld) (ok : IsEncodable w) (id : InterfaceId) where
  pub export_there : IsExportedInterface w id → HasInterface w.resolve id
  export_there h =
      let c = found_listed (is_same_key h.key) (items_of w).exports (items.Interface id) h.of in
      let world : HasWorld w.resolve (items_of w) = all_at (HasWorld w.resolve) w.resolve.worlds w.world.index no_items ok.sound.worlds ok.valid.present in
      (AllByRecursion-contains (HasEntry w.resolve) (items_of w).exports (c.0, items.Interface id) world.exports c.1).1

  -- a type that it lists
  abbrev IsListed : TypeId → Type 0
  IsListed t = Contains (map (λ (e : List ℕ × TypeId). e.1) (named_types w.resolve id)) t

  -- the world imports none of them
  not_imported : IsExportedInterface w id → (t : TypeId) → IsListed t → is_imported_type w t ≡ false
  not_imported h t listed = by (is_imported_type w t) refl
    where
      by : (b : Bool) → is_imported_type w t ≡ b → b ≡ false
      by false e = refl
      by true e = absurd (listed_not_imported w ok id h t listed (Contains-from_any (λ x y h. (Decides-eqb x y).0 h) t.index (map (λ t. t.1.index) (imported_types w)) e))

  -- a type that it lists belongs to it
  listed_own : IsExportedInterface w id → (e : List ℕ × TypeId) → Contains (named_types w.resolve id) e → interface_at w.resolve.types e.1.index ≡ Some id
  listed_own h e c =
      let found = found_listed (is_same_key h.key) (items_of w).exports (items.Interface id) h.of in
      let placed : IsExportedPlaced w.resolve (items_of w) id = AllByRecursion-contains (λ x. IsExportPlaced w.resolve (items_of w) x.1) (items_of w).exports (found.0, items.Interface id) ok.exports found.1 in
      (AllByRecursion-contains (IsOwnType w.resolve.types id) (named_types w.resolve id) e placed.own c).own

  -- where the interface was left, the root may forget them
  pub export_forgettable : (old new : MetTypes) → IsExportedInterface w id → Leaves id old new → AllByRecursion (λ e. IsForgettable w new e.1) (named_types w.resolve id)
  export_forgettable old new h left = all_of_each (λ e. IsForgettable w new e.1) (named_types w.resolve id) each
    where
      each : (e : List ℕ × TypeId) → Contains (named_types w.resolve id) e → IsForgettable w new e.1
      each e c =
          let listed : IsListed e.1 = Contains-map (λ e. e.1) (named_types w.resolve id) e c in
          let usable : IsUsableType w id e.1 = usable_listed w ok id h e.1 listed in
          record { present = usable.within; other = none_of_left w id old new e.1 left (listed_own h e c) (not_imported h e.1 listed) }

  -- what an instance exports of the types that are listed, it exports of each named type
  pub exports_each : (ds : List Def) (index : ℕ) → ExportsListed w ds id index → IsInterfaceExport w ds id index
  exports_each ds index h = record { exported = h.exported; nested = h.nested; types = each }
    where
      each : (t : TypeId) (name : List ℕ) → is_named_of w.resolve.types id t.index ≡ true → name_at w.resolve.types t.index ≡ Some name → type_named name h.exported ≡ Some (type_of_world w t)
      each t name named is =
          let parts = named_parts w.resolve.types id t.index named in
          let own = parts.1 in
          let l : IsListedType w.resolve id t.index = (ok.types t.index (named_within w.resolve.types t.index parts.0)).listed id own in
          let same : l.name ≡ name = same_Some l.name name (sym l.named ∙ is) in
          subst (λ x. type_named x h.exported ≡ Some (type_of_world w t)) same (AllByRecursion-contains (λ x. type_named x.0 h.exported ≡ Some (type_of_world w x.1)) (named_types w.resolve id) (l.name, t) h.types (found_contains l.name t (named_types w.resolve id) l.listed))

-- a type of which an exported interface may be made has a name, so that its value is no primitive type
pub has_name : (w : ComponentWorld) (id : InterfaceId) (met : MetTypes) (t : TypeId) → IsUsableType w id t → IsUnnamed (root_setting w (Some id) met) t → ⊥
has_name w id met t h unnamed =
    let none : name_at w.resolve.types t.index ≡ None = sym (same_name w.resolve.types t.index) ∙ unnamed.no_name in
    let found : IsSome {T = List ℕ} None = subst (λ (o : Option (List ℕ)). IsSome o) none h.named in
    true≢false (sym found)
