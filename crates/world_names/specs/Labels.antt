-- The interfaces that labels in names stand for: by the name under which the world has the
-- interface, or by its id. In the older form an import may also have the id of a compatible
-- version; in the standard form an id has the part of its version that compatible versions share
-- (component model, build targets; explainer: `canonversion`).
use Rattle.std.specs.Prelude.{ℕ, List, Option, Some, None}
use Rattle.std.specs.Map.{lookup}
use Rattle.std.specs.Str.{bytes_eq}
use Rattle.record_values.specs.declared.names.InterfaceName.{InterfaceName}
use Rattle.record_values.specs.declared.names.InterfaceName.TheVariants as names
use Rattle.record_values.specs.declared.world.Item.{Item}
use Rattle.record_values.specs.declared.world.Item.TheVariants as items
use Rattle.record_values.specs.declared.world.ItemKey.{ItemKey}
use Rattle.record_values.specs.declared.world.ItemKey.TheVariants as keys
use Rattle.record_values.specs.Names.{is_same_item}
use Rattle.record_versions.specs.declared.compatible.Compatible.{Compatible}
use Rattle.record_versions.specs.declared.groups.Candidate.{Candidate}
use Rattle.record_versions.specs.Compatible.{compatible}
use Rattle.world_names.specs.declared.labels.Side.{Side}
use Rattle.world_names.specs.declared.labels.Side.TheVariants as sides
use Rattle.name_parts.specs.declared.reading.Reading.{Reading}
use Rattle.name_parts.specs.declared.reading.Reading.TheVariants as readings
use Rattle.world_names.specs.declared.tables.WorldNames.{WorldNames}
use Rattle.name_parts.specs.Readings.{◌⊕◌, otherwise}

abbrev pub items_of : WorldNames → Side → List (ItemKey × Item)
items_of n sides.Imported = n.wit.imports
items_of n sides.Exported = n.wit.exports

abbrev pub as_interface : Option Item → Reading InterfaceName
as_interface None = readings.Nothing
as_interface (Some (items.Interface name)) = readings.Means name
as_interface (Some (items.Function f)) = readings.Nothing
as_interface (Some (items.Type ns)) = readings.Nothing

-- the interface that a side of the world has under this key
abbrev pub interface_at : WorldNames → Side → ItemKey → Reading InterfaceName
interface_at n side key = as_interface (lookup (is_same_item key) (items_of n side))

-- the label is its name in the world, or its id
abbrev pub labelled : WorldNames → Side → List ℕ → Reading InterfaceName
labelled n side label = interface_at n side (keys.Name label) ⊕ interface_at n side (keys.Interface label)

-- ---- compatible versions of imported interfaces

abbrev pub candidate_name : Option Candidate → Reading InterfaceName
candidate_name None = readings.Nothing
candidate_name (Some c) = readings.Means c.name

-- the imported interface of greatest version with this canonical id
abbrev pub newest : WorldNames → List ℕ → Reading InterfaceName
newest n canonical = candidate_name (lookup (bytes_eq canonical) n.imported_versions)

abbrev pub newest_compatible : WorldNames → Option Compatible → Reading InterfaceName
newest_compatible n None = readings.Nothing
newest_compatible n (Some c) = newest n c.canonical

-- an imported interface in the older form: by its label, or the one of greatest version that is
-- compatible with the label
unfoldable pub imported_label : WorldNames → List ℕ → Reading InterfaceName
imported_label n label = otherwise (labelled n sides.Imported label) (newest_compatible n (compatible (names.Id label)))

-- ---- labels with canonical ids

abbrev pub whole_id : WorldNames → Side → List ℕ → Option Compatible → Reading InterfaceName
whole_id n side label None = interface_at n side (keys.Interface label)
whole_id n side label (Some c) = readings.Nothing

abbrev pub as_reading : Option (Reading InterfaceName) → Reading InterfaceName
as_reading None = readings.Nothing
as_reading (Some r) = r

-- an interface with this canonical id, where that is not the whole id
abbrev pub of_canonical : WorldNames → Side → List ℕ → Reading InterfaceName
of_canonical n sides.Imported label = newest n label
of_canonical n sides.Exported label = as_reading (lookup (bytes_eq label) n.exported_versions)

-- an interface in the standard form: by its name in the world, or by its canonical id
unfoldable pub canonical_label : WorldNames → Side → List ℕ → Reading InterfaceName
canonical_label n side label =
    interface_at n side (keys.Name label) ⊕ whole_id n side label (compatible (names.Id label)) ⊕ of_canonical n side label
