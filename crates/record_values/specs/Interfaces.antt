-- The interfaces among the items of a world's side.
use Rattle.std.specs.Prelude.{⊤, Bool, List, [], ◌∷◌, is_some}
use Rattle.std.specs.Map.{lookup}
use Rattle.comp_lists.specs.Tables.{with_first}
use Rattle.record_values.specs.declared.names.InterfaceName.{InterfaceName}
use Rattle.record_values.specs.declared.world.Item.{Item}
use Rattle.record_values.specs.declared.world.Item.TheVariants as items
use Rattle.record_values.specs.declared.world.ItemKey.{ItemKey}
use Rattle.record_values.specs.Names.{is_same_interface}

-- interfaces, each once
abbrev pub Interfaces : Type 0
Interfaces = List (InterfaceName × ⊤)

abbrev pub is_among : Interfaces → InterfaceName → Bool
is_among is name = is_some (lookup (is_same_interface name) is)

abbrev pub with_item : Interfaces → Item → Interfaces
with_item is (items.Interface name) = with_first is_same_interface is name tt
with_item is (items.Function f) = is
with_item is (items.Type nodes) = is

-- these, and those among the items after them, in order
abbrev pub interfaces_after : Interfaces → List (ItemKey × Item) → Interfaces
interfaces_after is [] = is
interfaces_after is (e ∷ es) = interfaces_after (with_item is e.1) es
