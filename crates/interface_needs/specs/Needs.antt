-- What the instance type of an imported interface needs, and has at hand, in a world that can be
-- encoded (component model, WIT: interfaces, `use`, resources; explainer: instance types).
use Rattle.std.specs.Prelude.{◌≡◌, ◌<◌, ◌&&◌, ℕ, true, List, is_some, Contains}
use Rattle.std.specs.List.{AllByRecursion, IsDistinct, list_any}
use Rattle.std.specs.Map.{keys_of}
use Rattle.std.specs.Str.{bytes_eq}
use Rattle.comp_lists.specs.Found.{found}
use Rattle.comp_trees.specs.DefinedTrees.{TypeTree}
use Rattle.comp_inventories.specs.Inventories.{surroundings_of}
use Rattle.wit_data.specs.declared.functions.Function.{Function}
use Rattle.wit_data.specs.declared.ids.InterfaceId.{InterfaceId}
use Rattle.wit_data.specs.declared.ids.TypeId.{TypeId}
use Rattle.wit_data.specs.declared.worlds.WorldItem.TheVariants as items
use Rattle.wit_data.specs.declared.worlds.WorldKey.{WorldKey}
use Rattle.type_scopes.specs.Foreign.{met_in_all}
use Rattle.type_scopes.specs.Needs.{AreNeedsMet}
use Rattle.type_scopes.specs.Offers.{Offer, IsOfferedType}
use Rattle.type_scopes.specs.Titles.{HasTitle, AreTitlesApart, AscendFrom, IsKnownByName, is_one_of}
use Rattle.type_scopes.specs.declared.outer_type.OuterType.{OuterType}
use Rattle.world_values.specs.Items.{functions_of}
use Rattle.comp_worlds.specs.Encodable.{place_in}
use Rattle.comp_worlds.specs.WorldContents.{items_of}
use Rattle.comp_worlds.specs.declared.world.ComponentWorld.{ComponentWorld}
use Rattle.comp_links.specs.Lists.{needed_types, number_of_interface, import_entries, resource_of}
use Rattle.comp_links.specs.Roles.{is_used_of}

-- the world imports the interface
pub record IsImported (w : ComponentWorld) (id : InterfaceId) : Type 0 where
  pub key : WorldKey
  pub there : Contains (items_of w).imports (key, items.Interface id)

-- the type is one that an imported interface needs
pub record IsNeeded (w : ComponentWorld) (id : InterfaceId) (t : TypeId) : Type 0 where
  pub imported : IsImported w id
  pub needed : is_one_of (needed_types w id) t.index ≡ true
  pub listed : Contains (needed_types w id) t

-- so is a type that is met in another interface, and it is imported before that one
pub record IsMetEarlier (w : ComponentWorld) (id : InterfaceId) (t : OuterType) : Type 0 where
  pub needed : IsNeeded w t.interface t.id
  pub earlier : place_in (items_of w).imports t.interface < place_in (items_of w).imports id

-- a table has the names of those functions of an interface that core imports use, and no others
pub record AreUsedNames (w : ComponentWorld) (id : InterfaceId) (used : List (List ℕ × Unit {0})) : Type 0 where
  pub each : (text : List ℕ) → is_some (found text used) ≡ list_any (λ f. bytes_eq text f.0 && is_used_of w id f.0) (functions_of w.resolve id)

-- no function of an interface has the name of another (what `Keyed::iter` says of a resolve's table)
pub record AreFunctionsApart (w : ComponentWorld) (id : InterfaceId) : Type 0 where
  pub apart : IsDistinct bytes_eq (keys_of (functions_of w.resolve id))

-- what the types are that an imported interface needs
pub record AreTypesKnown (w : ComponentWorld) (id : InterfaceId) : Type 0 where
  pub titled : AllByRecursion (HasTitle w.resolve.types id) (needed_types w id)
  pub apart : AreTitlesApart w.resolve.types id (needed_types w id)
  pub ascend : AscendFrom 0 (needed_types w id)
  pub known : (outer : List TypeTree) → AllByRecursion (IsKnownByName (surroundings_of (number_of_interface id (import_entries w)) outer) (resource_of w) w.resolve.types) (needed_types w id)

-- What its types and these of its functions are made of: the types of other interfaces that are met
-- in them are needed by interfaces that are imported earlier, and where these types are offered,
-- nothing is missing.
pub record AreNeedsAtHand (w : ComponentWorld) (id : InterfaceId) (fs : List Function) : Type 0 where
  pub met : AllByRecursion (IsMetEarlier w id) (met_in_all w.resolve.types id (needed_types w id) fs)
  pub needs : (o : Offer) → o.types ≡ w.resolve.types → AllByRecursion (IsOfferedType o) (met_in_all w.resolve.types id (needed_types w id) fs) → AreNeedsMet o id (needed_types w id) fs
