-- The order in which exported interfaces are exported: one that uses types of another exported
-- interface comes after it (WIT: `use`; component model, explainer: a definition refers to earlier
-- ones alone).
use Rattle.std.specs.Prelude.{◌≡◌, ℕ, true, false, List, [], ◌∷◌, Option, Some, Contains, slice_get, take, unwrap_or}
use Rattle.std.specs.List.{AllByRecursion, flat_map, list_any}
use Rattle.std.specs.Map.{lookup}
use Rattle.wit_data.specs.declared.ids.InterfaceId.{InterfaceId}
use Rattle.wit_data.specs.declared.worlds.WorldItem.{WorldItem}
use Rattle.wit_data.specs.declared.worlds.WorldItem.TheVariants as items
use Rattle.wit_data.specs.declared.worlds.WorldKey.{WorldKey}
use Rattle.world_values.specs.Mentions.{same_interface}
use Rattle.comp_worlds.specs.WorldContents.{exported_item, keys_required}
use Rattle.comp_worlds.specs.declared.world.ComponentWorld.{ComponentWorld}

-- the exported interfaces that an exported one uses
abbrev pub used_exports : ComponentWorld → InterfaceId → List InterfaceId
used_exports w id = unwrap_or (lookup (same_interface id) w.exports_used) []

-- the interface that an item is, if it is one
abbrev pub interface_among : Option WorldItem → List InterfaceId
interface_among (Some (items.Interface id)) = id ∷ []
interface_among item = []

-- the interfaces among the keys that user modules have to export, and among the first of them
abbrev pub required_interfaces : ComponentWorld → List InterfaceId
required_interfaces w = flat_map (λ key. interface_among (exported_item w key)) (keys_required w)

abbrev pub exported_before : ComponentWorld → ℕ → List InterfaceId
exported_before w number = flat_map (λ key. interface_among (exported_item w key)) (take number (keys_required w))

-- a user module has to export this interface at the key of this number
pub record IsExportedAt (w : ComponentWorld) (number : ℕ) (id : InterfaceId) : Type 0 where
  pub key : WorldKey
  pub required : slice_get (keys_required w) number ≡ Some key
  pub item : exported_item w key ≡ Some (items.Interface id)

-- an interface that has to be exported uses types of another exported one, which isn't exported before it
pub record IsLaterExport (w : ComponentWorld) (interface used : InterfaceId) : Type 0 where
  pub number : ℕ
  pub exported : IsExportedAt w number interface
  pub uses : Contains (used_exports w interface) used
  pub later : list_any (same_interface used) (exported_before w number) ≡ false

-- no interface does
pub record AreExportsInOrder (w : ComponentWorld) : Type 0 where
  pub each : (number : ℕ) (id : InterfaceId) → IsExportedAt w number id → AllByRecursion (λ used. list_any (same_interface used) (exported_before w number) ≡ true) (used_exports w id)
