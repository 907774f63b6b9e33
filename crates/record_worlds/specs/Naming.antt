-- Names of the interfaces of a record: the id, or else the name under which the world imports the interface, or else
-- the name under which it exports it.
use Rattle.std.specs.Prelude.{ℕ, suc, ◌%◌, List, [], ◌∷◌, map, Option, Some, None}
use Rattle.comp_lists.specs.Tables.{with_first}
use Rattle.record_types.specs.declared.known.ReadInterface.{ReadInterface}
use Rattle.record_values.specs.declared.names.InterfaceName.{InterfaceName}
use Rattle.record_values.specs.declared.names.InterfaceName.TheVariants as names
use Rattle.record_values.specs.declared.world.ItemKey.{ItemKey}
use Rattle.record_values.specs.declared.world.ItemKey.TheVariants as keys
use Rattle.record_values.specs.declared.world.Item.{Item}
use Rattle.record_values.specs.declared.world.Item.TheVariants as items
use Rattle.record_values.specs.Names.{is_same_interface}
use Rattle.record_values.specs.Renaming.{Renames, renamed_item}
use Rattle.record_sides.specs.declared.sides.Side.{Side}
use Rattle.record_sides.specs.declared.sides.Side.TheVariants as sides
use Rattle.record_worlds.specs.declared.items.ReadItem.{ReadItem}
use Rattle.record_worlds.specs.declared.items.WorldItems.{WorldItems}
use Rattle.record_worlds.specs.declared.naming.Entry.{Entry}

-- an interface by its index in the record, which is a number of 32 bits
abbrev pub index_name : ℕ → InterfaceName
index_name i = names.Unused (i % 4294967296)

abbrev pub given_name : Side → List ℕ → InterfaceName
given_name sides.Import name = names.Imported name
given_name sides.Export name = names.Exported name

abbrev pub with_id : Renames → ℕ → Option (List ℕ) → Renames
with_id ns i None = ns
with_id ns i (Some id) = with_first is_same_interface ns (index_name i) (names.Id id)

-- the names of those that have an id; the first interface is at this index
abbrev pub ids_from : Renames → ℕ → List ReadInterface → Renames
ids_from ns i [] = ns
ids_from ns i (x ∷ xs) = ids_from (with_id ns i x.id) (suc i) xs

abbrev pub with_key : Side → Renames → InterfaceName → ItemKey → Renames
with_key side ns name (keys.Name text) = with_first is_same_interface ns name (given_name side text)
with_key side ns name (keys.Interface id) = ns

-- an interface without id gets the name of its item, unless it has a name already
abbrev pub with_given : Side → Renames → ItemKey → Item → Renames
with_given side ns key (items.Interface name) = with_key side ns name key
with_given side ns key (items.Function f) = ns
with_given side ns key (items.Type nodes) = ns

abbrev pub with_all_given : Side → Renames → List ReadItem → Renames
with_all_given side ns [] = ns
with_all_given side ns (x ∷ xs) = with_all_given side (with_given side ns x.key x.item) xs

-- names of imports take precedence over names of exports
abbrev pub names_of : WorldItems → Renames
names_of w = with_all_given sides.Export (with_all_given sides.Import (ids_from [] 0 w.interfaces) w.imports) w.exports

abbrev pub renamed_entry : Renames → ReadItem → Entry
renamed_entry ns x = record { key = x.key; item = renamed_item ns x.item }

abbrev pub renamed_entries : Renames → List ReadItem → List Entry
renamed_entries ns xs = map (renamed_entry ns) xs
