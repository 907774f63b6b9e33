-- Which types and functions of a world may be defined at the root of its component: all that they
-- are made of is in the tables, or is exported by an instance of an interface, or belongs to the
-- exported interface whose types are defined.
use Rattle.std.proofs.Common.{◌≡◌, ◌<◌, ◌||◌, arith, ℕ, suc, true, false, List, [], ◌∷◌, length, map, refl, Option, Some, None, Contains, inl, inr, subst}
use Rattle.std.specs.List.{AllByRecursion}
use Rattle.std.specs.Prelude.{nat_lt}
use Rattle.std.proofs.lemmas.Bool.{lt-ltb}
use Rattle.std.proofs.lemmas.Cmp.{nat_eq_equiv}
use Rattle.std.proofs.lemmas.Map.Views.{list_any-from_Contains}
use Rattle.wit_data.specs.declared.functions.Function.{Function}
use Rattle.wit_data.specs.declared.ids.InterfaceId.{InterfaceId}
use Rattle.wit_data.specs.declared.ids.TypeId.{TypeId}
use Rattle.wit_data.specs.declared.types.Type.TheVariants.{Id}
use Rattle.wit_data.specs.declared.types.TypeDef.{TypeDef}
use Rattle.wit_data.specs.Values.{kind_at}
use Rattle.comp_worlds.specs.Encodable.{IsEncodable}
use Rattle.comp_worlds.specs.WorldContents.{imported_types, interface_at, name_at}
use Rattle.comp_worlds.specs.Worlds.{IsResource}
use Rattle.comp_worlds.specs.declared.world.ComponentWorld.{ComponentWorld}
use Rattle.wit_types.specs.Settings.{Setting}
use Rattle.wit_types.specs.Allowing.{is_allowed, is_resource, IsDefinedHere, allows_function}
use Rattle.interface_needs.specs.RootNeeds.{HasWorldTypes, IsInterfaceScope, IsRootScope, IsTypeFor, IsUsableType, IsWorldType}
use Rattle.interface_needs.proofs.ExportedInterfaces.{interface_function_allowed, interface_home_allowed, interface_type_allowed}
use Rattle.interface_needs.proofs.RootItems.{exported_allowed, used_allowed, used_type_allowed, world_type_defined}
use Rattle.interface_needs.proofs.Lists.{contains_none, contains_cons}
use Rattle.root_imports.specs.Imports.{IsNeededFunction, IsNextId}
use Rattle.comp_links.specs.Lists.{needed_types}
use Rattle.type_scopes.specs.Titles.{is_one_of}
use Rattle.interface_needs.specs.Needs.{IsNeeded}
use Rattle.root_imports.specs.Met.{next_of, has_instance, has_types, is_at_hand, is_imported_type, is_exported_type, is_met, is_named_of, IsSupplied, IsSuppliedFor}
use Rattle.root_imports.specs.RootScopes.{root_setting, ArePassed}
use Rattle.root_imports.specs.declared.met_types.MetTypes.{MetTypes}
use Rattle.comp_worlds.specs.ExportOrder.{used_exports}
use Rattle.comp_lists.proofs.Lists.{AllByRecursion-contains}
use Rattle.root_imports.proofs.Meeting.{all_types_met, and_both, either_of, imported_is_met, named_whole, or_left, or_right, some_is}

-- where all types are below a number, so is each of them
pub below_next : (ts : List (List ℕ × TypeId)) (next n : ℕ) → AllByRecursion (λ t. t.1.index < next) ts → Contains (map (λ t. t.1.index) ts) n → n < next
below_next [] next n h c = contains_none n c
below_next (t ∷ ts) next n h c = elim (contains_cons t.1.index (map (λ t. t.1.index) ts) n c) [
  | inl same ↦ subst (λ k. k < next) same h.0
  | inr later ↦ below_next ts next n h.1 later
]

module _ (w : ComponentWorld) (ok : IsEncodable w) (met : MetTypes) where
  abbrev s : Setting
  s = root_setting w None met

  abbrev types : List TypeDef
  types = w.resolve.types

  -- a type that the world imports is in the tables, where it is not behind the last one
  met_below : (n : ℕ) → n < next_of met.last → Contains (map (λ t. t.1.index) (imported_types w)) n → s.met (record { index = n }) ≡ true
  met_below n l c =
      imported_is_met w met (record { index = n })
      (and_both (nat_lt n (next_of met.last)) (is_imported_type w (record { index = n })) (lt-ltb n (next_of met.last) l) (list_any-from_Contains nat_eq_equiv n (map (λ t. t.1.index) (imported_types w)) c))

  -- a resource at the root is
  pub met_resource : ArePassed w met → (n : ℕ) → IsResource types n → interface_at types n ≡ None → s.met (record { index = n }) ≡ true
  met_resource passed n r own = let c = ok.resources.each n r own in met_below n (below_next (imported_types w) (next_of met.last) n passed c) c

  -- a type that an imported interface needs may be imported
  may_import : (other : InterfaceId) (t : TypeId) → IsNeeded w other t → (is_one_of (needed_types w other) t.index || is_exported_type w met other t) ≡ true
  may_import other t h = or_left (is_one_of (needed_types w other) t.index) (is_exported_type w met other t) h.needed

  root : IsRootScope w s
  root = record { types = refl; interface = refl; own = λ n. refl; imports = λ other t h. may_import other t h }

  -- a named type of an exported interface that this one uses is in the tables, or may be imported
  of_used : (id other : InterfaceId) (t : TypeId) (bound : ℕ) → IsSupplied w met id bound → Contains (used_exports w id) other → is_named_of types other t.index ≡ true →
      (is_met w met t || (is_one_of (needed_types w other) t.index || is_exported_type w met other t)) ≡ true
  of_used id other t bound supplied used named = elim (either_of (has_types met other) (has_instance met other) (AllByRecursion-contains (λ o. is_at_hand met o ≡ true) (used_exports w id) other supplied.uses used)) [
    | inl has ↦ or_left (is_met w met t) (is_one_of (needed_types w other) t.index || is_exported_type w met other t) (all_types_met w met t other has named)
    | inr has ↦ or_right (is_met w met t) (is_one_of (needed_types w other) t.index || is_exported_type w met other t)
        (or_right (is_one_of (needed_types w other) t.index) (is_exported_type w met other t) (and_both (has_instance met other) (is_named_of types other t.index) has named))
  ]

  of_interface : (id : InterfaceId) (bound : ℕ) → IsSupplied w met id bound → IsInterfaceScope w id (root_setting w (Some id) met) bound
  of_interface id bound supplied = record {
    types = refl;
    interface = refl;
    own = λ n. refl;
    imports = λ other t h. may_import other t h;
    uses = λ other t used own named. of_used id other t bound supplied used (named_whole types other t.index (some_is (name_at types t.index) named) own);
    resources = supplied.resources;
  }

  all_world_types : ArePassed w met → HasWorldTypes w s (length types)
  all_world_types passed = record { each = λ n l c. met_below n (below_next (imported_types w) (next_of met.last) n passed c) c }

  earlier_types : (id : TypeId) → IsNextId w (next_of met.last) id → HasWorldTypes w s id.index
  earlier_types id order = record { each = λ n l c. met_below n (order.earlier n l c) c }

  -- each function may be encoded that core imports use, or that is exported, after the types of the world
  pub root_allows : ArePassed w met → (interface : Option InterfaceId) (f : Function) → IsSuppliedFor w met interface → IsNeededFunction w interface f → allows_function (root_setting w interface met) f ≡ true
  root_allows passed None f supplied (inl (name, used)) = used_allowed w ok s root (all_world_types passed) name f used
  root_allows passed None f supplied (inr exported) = exported_allowed w ok s root (all_world_types passed) f exported
  root_allows passed (Some id) f supplied exported = interface_function_allowed w ok id (root_setting w (Some id) met) (of_interface id (length types) supplied) f exported

  -- each type may be of which an exported interface may be made
  pub interface_allows : (id : InterfaceId) (t : TypeId) → IsSupplied w met id (suc t.index) → IsUsableType w id t → is_allowed (root_setting w (Some id) met) (Some (Id t)) ≡ true
  interface_allows id t supplied usable = interface_type_allowed w ok id (root_setting w (Some id) met) (suc t.index) (of_interface id (suc t.index) supplied) t usable (inl (omega arith))

  -- a type may be for the root, or for an exported interface
  pub type_allows : ArePassed w met → (interface : Option InterfaceId) (t : TypeId) → t.index < length types → IsSuppliedFor w met interface → IsTypeFor w interface t → is_allowed (root_setting w interface met) (Some (Id t)) ≡ true
  type_allows passed None t within supplied h = used_type_allowed w ok s root (all_world_types passed) t within h
  type_allows passed (Some id) t within supplied h = interface_home_allowed w ok id (root_setting w (Some id) met) (of_interface id (length types) supplied) t h

  -- the next type of values is made of what is there
  pub root_defines : (id : TypeId) → is_resource (kind_at types id.index) ≡ false → IsNextId w (next_of met.last) id → IsWorldType w id → IsDefinedHere s (kind_at types id.index)
  root_defines id values order listed = world_type_defined w ok s root id (earlier_types id order) listed values
