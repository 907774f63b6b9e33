-- Interfaces and items of a world by name: interfaces of one id are equal, and no key and no
-- interface occurs twice on a side.
use Rattle.std.specs.Prelude.{⊤, ℕ, suc, Bool, false, List, [], ◌∷◌, ◌++◌, codes, Option, Some, None, is_some, Result, Ok, Err, if◌then◌else◌}
use Rattle.std.specs.Map.{lookup}
use Rattle.std.specs.Fmt.{decimal}
use Rattle.comp_lists.specs.Tables.{with_first}
use Rattle.json_paths.specs.declared.fault.Failure.{Failure}
use Rattle.json_paths.specs.declared.fault.Failure.TheVariants as failures
use Rattle.json_paths.specs.declared.fault.Refusal.TheVariants as refusals
use Rattle.json_paths.specs.Faults.{◌>>=◌}
use Rattle.json_paths.specs.Reading.{under, under_failure, here}
use Rattle.record_types.specs.declared.known.ReadInterface.{ReadInterface}
use Rattle.record_values.specs.declared.names.InterfaceName.{InterfaceName}
use Rattle.record_values.specs.declared.names.InterfaceName.TheVariants as names
use Rattle.record_values.specs.declared.types.Interface.{Interface}
use Rattle.record_values.specs.declared.world.Item.{Item}
use Rattle.record_values.specs.declared.world.Item.TheVariants as items
use Rattle.record_values.specs.Names.{is_same_interface, is_same_item}
use Rattle.record_values.specs.Renaming.{Renames, renamed, renamed_interface}
use Rattle.record_sides.specs.declared.sides.Side.{Side}
use Rattle.record_sides.specs.declared.sides.Side.TheVariants as sides
use Rattle.record_worlds.specs.declared.naming.Entry.{Entry}
use Rattle.record_worlds.specs.declared.tables.SideTable.{SideTable}
use Rattle.record_worlds.specs.Naming.{index_name}

-- interfaces by name
abbrev pub Interfaces : Type 0
Interfaces = List (InterfaceName × Interface)

-- names of interfaces
abbrev pub InterfaceSet : Type 0
InterfaceSet = List (InterfaceName × ⊤)

-- a test of equality of interfaces
abbrev pub Test : Type 0
Test = Interface → Interface → Bool

abbrev pub content : ReadInterface → Interface
content x = record { types = x.types; functions = x.functions }

abbrev pub renamed_content : Renames → ReadInterface → Interface
renamed_content ns x = renamed_interface ns (content x)

abbrev pub unless_other : Test → Interfaces → List ℕ → Interface → Option Interface → Result Interfaces Failure
unless_other same table id x None = Ok (table ++ (names.Id id, x) ∷ [])
unless_other same table id x (Some y) = if same y x then Ok table else Err (failures.Refused (refusals.MergeConflict id))

-- an interface that has an id occurs once: another of the same id must be equal
abbrev pub with_same : Test → Interfaces → List ℕ → Interface → Result Interfaces Failure
with_same same table id x = unless_other same table id x (lookup (is_same_interface (names.Id id)) table)

-- an interface without id that is not in the world is left out
abbrev pub with_interface : Test → Interfaces → InterfaceName → Interface → Result Interfaces Failure
with_interface same table (names.Id id) x = with_same same table id x
with_interface same table (names.Imported name) x = Ok (with_first is_same_interface table (names.Imported name) x)
with_interface same table (names.Exported name) x = Ok (with_first is_same_interface table (names.Exported name) x)
with_interface same table (names.Unused i) x = Ok table

-- interfaces in their order, after these; the first is at this index
abbrev pub interfaces_from : Test → Renames → ℕ → Interfaces → List ReadInterface → Result Interfaces Failure
interfaces_from same ns i table [] = Ok table
interfaces_from same ns i table (x ∷ xs) = do
  t ← with_interface same table (renamed ns (index_name i)) (renamed_content ns x)
  interfaces_from same ns (suc i) t xs

abbrev pub is_seen : InterfaceSet → Item → Bool
is_seen seen (items.Interface name) = is_some (lookup (is_same_interface name) seen)
is_seen seen (items.Function f) = false
is_seen seen (items.Type nodes) = false

abbrev pub with_seen : InterfaceSet → Item → InterfaceSet
with_seen seen (items.Interface name) = with_first is_same_interface seen name tt
with_seen seen (items.Function f) = seen
with_seen seen (items.Type nodes) = seen

-- items by key with one more, at this index, whose key and whose interface have to be new
abbrev pub with_item : ℕ → SideTable → Entry → Result SideTable Failure
with_item i t e =
    if is_some (lookup (is_same_item e.key) t.items) then Err (under_failure (decimal i) here)
    else if is_seen t.interfaces e.item then Err (under_failure (decimal i) here)
    else Ok (record { items = t.items ++ (e.key, e.item) ∷ []; interfaces = with_seen t.interfaces e.item })

-- items by key, after these; the first is at this index
abbrev pub side_from : ℕ → SideTable → List Entry → Result SideTable Failure
side_from i t [] = Ok t
side_from i t (e ∷ es) = do
  more ← with_item i t e
  side_from (suc i) more es

abbrev pub side_at : Side → List Entry → Result SideTable Failure
side_at sides.Import es = under (codes "imports") (side_from 0 (record { items = []; interfaces = [] }) es)
side_at sides.Export es = under (codes "exports") (side_from 0 (record { items = []; interfaces = [] }) es)
