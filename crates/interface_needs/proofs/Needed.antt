-- The types that an imported interface needs are the live ones of those that it lists, and a live
-- type of it is one of them.
use Rattle.std.proofs.Common.{◌≡◌, ◌∙◌, ◌==◌, ℕ, Bool, true, List, [], ◌∷◌, map, filter, Contains, refl, sym, ap, subst, Some}
use Rattle.std.specs.List.{flat_map}
use Rattle.std.specs.Map.{lookup}
use Rattle.std.specs.Option.{unwrap_or}
use Rattle.std.proofs.lemmas.Map.Views.{Contains-from_lookup}
use Rattle.std.proofs.lemmas.Slice.Eq.{bytes_eq-Decides}
use Rattle.comp_lists.proofs.Lists.{AllByRecursion-contains, Contains-map}
use Rattle.wit_data.specs.declared.ids.InterfaceId.{InterfaceId}
use Rattle.wit_data.specs.declared.ids.TypeId.{TypeId}
use Rattle.wit_data.specs.declared.types.Type.{«Type» as Ty}
use Rattle.wit_data.specs.declared.worlds.WorldItem.TheVariants as items
use Rattle.wit_data.specs.Live.{named_types, is_live, live_types}
use Rattle.world_values.specs.Mentions.{same_interface, live_entry, used_types}
use Rattle.world_values.specs.Tables.{with_all}
use Rattle.comp_worlds.specs.Encodable.{Entries, IsEncodable, IsInterfacePlaced, IsItemPlaced, IsListedType, IsOwnType}
use Rattle.comp_worlds.specs.Uses.{all_imports}
use Rattle.comp_worlds.specs.WorldContents.{items_of, interface_at, name_at}
use Rattle.comp_worlds.specs.declared.world.ComponentWorld.{ComponentWorld}
use Rattle.comp_links.specs.Lists.{needed_types}
use Rattle.interface_needs.specs.Needs.{IsImported, IsNeeded}
use Rattle.interface_needs.proofs.Lists.{filter_keeps, filter_has, map_contains, one_of}
use Rattle.interface_needs.proofs.Owners.{owned_within}
use Rattle.interface_needs.proofs.Entered.{entered, entered_found}

-- all types for which the component of a world needs definitions
abbrev pub used_in : ComponentWorld → List Ty
used_in w = used_types (all_imports w.main w.adapters) w.resolve (items_of w)

module _ (w : ComponentWorld) (live : ℕ → Bool) where
  -- the live types that an interface lists
  abbrev live_of : InterfaceId → List TypeId
  live_of i = filter (λ t. live t.index) (map (λ e. e.1) (named_types w.resolve i))

  same_entries : (es : Entries) → flat_map (λ e. live_entry live w.resolve e.1) es ≡ flat_map (λ e. entered (λ (i : InterfaceId). filter (λ t. live t.index) (map (λ e. e.1) (named_types w.resolve i))) e.1) es
  same_entries [] = refl
  same_entries ((key, items.Interface id) ∷ es) = ap (λ rest. (id, live_of id) ∷ rest) (same_entries es)
  same_entries ((key, items.Function f) ∷ es) = same_entries es
  same_entries ((key, items.NamedType t) ∷ es) = same_entries es

-- a type that an interface needs
pub record IsNeededType (w : ComponentWorld) (id : InterfaceId) (t : TypeId) : Type 0 where
  pub live : is_live w.resolve.types (used_in w) t.index ≡ true
  pub own : interface_at w.resolve.types t.index ≡ Some id
  pub name : List ℕ
  pub named : name_at w.resolve.types t.index ≡ Some name

module _ (w : ComponentWorld) (ok : IsEncodable w) where
  pub interface_placed : (id : InterfaceId) → IsImported w id → IsInterfacePlaced w.resolve (items_of w).imports id
  interface_placed id h = AllByRecursion-contains (λ e. IsItemPlaced w.resolve (items_of w).imports e.1) (items_of w).imports (h.key, items.Interface id) ok.imports h.there

  pub needed_are : (id : InterfaceId) → IsImported w id → needed_types w id ≡ live_types w.resolve.types (used_in w) (named_types w.resolve id)
  needed_are id h =
      let live : ℕ → Bool = is_live w.resolve.types (used_in w) in
      let test : InterfaceId → Bool = λ other. id.index == other.index in
      let value : InterfaceId → List TypeId = λ i. live_types w.resolve.types (used_in w) (named_types w.resolve i) in
      ap (λ table. unwrap_or (lookup test table) []) ok.tables.live_type_imports
      ∙ (ap (λ entries. unwrap_or (lookup test (with_all same_interface [] entries)) []) (same_entries w live (items_of w).imports)
      ∙ ap (λ o. unwrap_or o []) (entered_found value id h.key (items_of w).imports h.there))

  pub needed_has : (id : InterfaceId) → IsImported w id → (t : TypeId) → Contains (needed_types w id) t → IsNeededType w id t
  needed_has id h t c =
      let named = named_types w.resolve id in
      let f = filter_has (λ (t : TypeId). is_live w.resolve.types (used_in w) t.index) (map (λ e. e.1) named) t (subst (λ ts. Contains ts t) (needed_are id h) c) in
      let e = map_contains (λ (e : List ℕ × TypeId). e.1) named t f.0 in
      let own : IsOwnType w.resolve.types id e.x = AllByRecursion-contains (IsOwnType w.resolve.types id) named e.x (interface_placed id h).own e.there in
      record {
        live = f.1;
        own = ap (λ (t : TypeId). interface_at w.resolve.types t.index) (sym e.same) ∙ own.own;
        name = e.x.0;
        named = ap (λ (t : TypeId). name_at w.resolve.types t.index) (sym e.same) ∙ own.named;
      }

  -- a live type of an imported interface is needed
  pub is_needed : (i : InterfaceId) (n : ℕ) → IsImported w i → interface_at w.resolve.types n ≡ Some i → is_live w.resolve.types (used_in w) n ≡ true → IsNeeded w i (record { index = n })
  is_needed i n imported own live =
      let t : TypeId = record { index = n } in
      let listed : IsListedType w.resolve i n = (ok.types n (owned_within w.resolve.types n i own)).listed i own in
      let named = named_types w.resolve i in
      let entry : Contains named (listed.name, t) = Contains-from_lookup (λ x y e. (bytes_eq-Decides x y).0 e) listed.name t named listed.listed in
      let there : Contains (map (λ (e : List ℕ × TypeId). e.1) named) t = Contains-map (λ (e : List ℕ × TypeId). e.1) named (listed.name, t) entry in
      let kept = filter_keeps (λ (t : TypeId). is_live w.resolve.types (used_in w) t.index) (map (λ e. e.1) named) t there live in
      let one : Contains (needed_types w i) t = subst (λ ts. Contains ts t) (sym (needed_are i imported)) kept in
      record { imported = imported; needed = one_of (needed_types w i) t one; listed = one }
