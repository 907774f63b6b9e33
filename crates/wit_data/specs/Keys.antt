-- The keys of a world's imports and exports (component model: names of imports and exports).
use Rattle.std.specs.Prelude.{ℕ, suc, nat_eq, ◌-◌, Bool, List, []}
use Rattle.std.specs.Ordering.{on, eq_of_both}
use Rattle.std.specs.Str.{bytes_eq}
use Rattle.wit_data.specs.declared.worlds.WorldKey.{WorldKey}
use Rattle.wit_data.specs.declared.worlds.WorldKey.TheVariants as keys

-- the plain name of a key; an interface has none
abbrev pub name_of_key : WorldKey → List ℕ
name_of_key (keys.Name text) = text
name_of_key (keys.Interface id) = []

-- the interface of a key, counted from 1; a plain name has none
abbrev pub interface_count : WorldKey → ℕ
interface_count (keys.Name text) = 0
interface_count (keys.Interface id) = suc id.index

-- the number of a key's interface
abbrev pub interface_index : WorldKey → ℕ
interface_index key = interface_count key - 1

-- keys of one name, or of one interface, are one key
abbrev pub is_same_key : WorldKey → WorldKey → Bool
is_same_key = eq_of_both (on name_of_key bytes_eq) (on interface_count nat_eq)
