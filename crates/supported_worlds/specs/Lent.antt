-- The interfaces whose types exported interfaces may use: those that a world imports or exports
-- (component model, WIT: worlds, `use`).
use Rattle.std.specs.Prelude.{◌≡◌, ◌||◌, Bool, List, is_some}
use Rattle.std.specs.List.{list_any}
use Rattle.std.specs.Map.{lookup}
use Rattle.wit_data.specs.declared.ids.InterfaceId.{InterfaceId}
use Rattle.wit_data.specs.declared.worlds.World.{World}
use Rattle.world_values.specs.Mentions.{same_interface, interfaces_of}
use Rattle.comp_worlds.specs.Encodable.{Entries, is_lent}
use Rattle.supported_worlds.specs.declared.lent.Lent.{Lent}

abbrev pub InterfaceSet : Type 0
InterfaceSet = List (InterfaceId × Unit {0})

abbrev pub has : InterfaceSet → InterfaceId → Bool
has set id = is_some (lookup (same_interface id) set)

-- the set has the interfaces among these items, and no others
pub record HasInterfaces (es : Entries) (set : InterfaceSet) : Type 0 where
  pub each : (id : InterfaceId) → has set id ≡ list_any (same_interface id) (interfaces_of es)

-- whether the types of an interface may be used, by the sets of the interfaces that are imported
-- and of those that are exported
abbrev pub lends : Lent → InterfaceId → Bool
lends l id = has l.imported id || has l.exported id

-- these are the sets of a world
pub record AreLent (w : World) (l : Lent) : Type 0 where
  pub each : (id : InterfaceId) → lends l id ≡ is_lent w id
