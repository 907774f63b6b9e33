-- A world without the interfaces that became others, in which all references name those that they became.
use Rattle.std.specs.Prelude.{Bool, false, List, [], ◌∷◌, is_some, if◌then◌else◌}
use Rattle.std.specs.Map.{lookup}
use Rattle.comp_lists.specs.Tables.{with_first}
use Rattle.record_values.specs.declared.names.InterfaceName.{InterfaceName}
use Rattle.record_values.specs.declared.types.Interface.{Interface}
use Rattle.record_values.specs.declared.world.Item.{Item}
use Rattle.record_values.specs.declared.world.Item.TheVariants as items
use Rattle.record_values.specs.declared.world.ItemKey.{ItemKey}
use Rattle.record_values.specs.declared.world.Wit.{Wit}
use Rattle.record_values.specs.Names.{is_same_interface, is_same_item}
use Rattle.record_values.specs.Renaming.{Renames, renamed_interface, renamed_item}

abbrev pub is_removed : Renames → InterfaceName → Bool
is_removed rs name = is_some (lookup (is_same_interface name) rs)

abbrev pub item_is_removed : Renames → Item → Bool
item_is_removed rs (items.Interface name) = is_removed rs name
item_is_removed rs (items.Function f) = false
item_is_removed rs (items.Type nodes) = false

-- interfaces, after these
abbrev pub interfaces_left : Renames → List (InterfaceName × Interface) → List (InterfaceName × Interface) → List (InterfaceName × Interface)
interfaces_left rs table [] = table
interfaces_left rs table (e ∷ es) =
    interfaces_left rs (if is_removed rs e.0 then table else with_first is_same_interface table e.0 (renamed_interface rs e.1)) es

-- items, after these
abbrev pub items_left : Renames → List (ItemKey × Item) → List (ItemKey × Item) → List (ItemKey × Item)
items_left rs table [] = table
items_left rs table (e ∷ es) =
    items_left rs (if item_is_removed rs e.1 then table else with_first is_same_item table e.0 (renamed_item rs e.1)) es

-- an interface that is removed is exported nowhere
unfoldable pub renamed_wit : Renames → Wit → Wit
renamed_wit rs w = record {
  interfaces = interfaces_left rs [] w.interfaces;
  imports = items_left rs [] w.imports;
  exports = items_left rs [] w.exports;
}
