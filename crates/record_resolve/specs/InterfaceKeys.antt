-- The first key of each interface on a side of a world.
use Rattle.std.specs.Prelude.{List, [], ◌∷◌}
use Rattle.comp_lists.specs.Tables.{with_first}
use Rattle.wit_data.specs.declared.ids.InterfaceId.{InterfaceId}
use Rattle.wit_data.specs.contracts.ids.InterfaceIdPartialEq.TheImpl as same_id
use Rattle.wit_data.specs.declared.worlds.WorldItem.{WorldItem}
use Rattle.wit_data.specs.declared.worlds.WorldItem.TheVariants as made_items
use Rattle.wit_data.specs.declared.worlds.WorldKey.{WorldKey}
use Rattle.record_resolve.specs.Worlds.{Items}

-- keys by interface
abbrev pub InterfaceKeys : Type 0
InterfaceKeys = List (InterfaceId × WorldKey)

-- with the key of an item, where that is an interface that has no key yet
abbrev pub with_key : InterfaceKeys → WorldKey → WorldItem → InterfaceKeys
with_key ks key (made_items.Interface id) = with_first same_id.eq-value.it ks id key
with_key ks key (made_items.Function f) = ks
with_key ks key (made_items.NamedType t) = ks

-- with the keys of these items, in order
abbrev pub keys_after : InterfaceKeys → Items → InterfaceKeys
keys_after ks [] = ks
keys_after ks (e ∷ es) = keys_after (with_key ks e.0 e.1) es
