-- Sets of interfaces that are made from lists. (This project's own.)
use Rattle.std.specs.Prelude.{◌≡◌, true, false, List, Option, Some, None}
use Rattle.std.specs.Map.{keys_of}
use Rattle.wit_data.specs.declared.ids.InterfaceId.{InterfaceId}
use Rattle.world_values.specs.Mentions.{same_interface}
use Rattle.supported_worlds.specs.Distinct.{are_apart}
use Rattle.supported_worlds.specs.Lent.{InterfaceSet}

-- the interfaces of a list are apart, and the set has them in their order
pub record IsSetOf (ids : List InterfaceId) (set : InterfaceSet) : Type 0 where
  pub apart : are_apart same_interface ids ≡ true
  pub keys : keys_of set ≡ ids

-- there is no set where an interface occurs twice
abbrev pub IsApartSet : List InterfaceId → Option InterfaceSet → Type 0
IsApartSet ids None = are_apart same_interface ids ≡ false
IsApartSet ids (Some set) = IsSetOf ids set
