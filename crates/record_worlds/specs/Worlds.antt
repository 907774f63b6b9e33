-- What a record says of the world.
use Rattle.std.specs.Prelude.{⊤, List, [], Result, Ok, Err}
use Rattle.serde_json.specs.Data.{Data}
use Rattle.json_paths.specs.declared.fault.Failure.{Failure}
use Rattle.json_paths.specs.Faults.{◌>>=◌}
use Rattle.record_types.specs.declared.known.ReadInterface.{ReadInterface}
use Rattle.record_values.specs.Renaming.{Renames}
use Rattle.record_sides.specs.declared.sides.Side.TheVariants as sides
use Rattle.record_worlds.specs.declared.items.WorldItems.{WorldItems}
use Rattle.record_worlds.specs.declared.naming.Entry.{Entry}
use Rattle.record_sides.specs.declared.indexed.RecordWorld.{RecordWorld}
use Rattle.record_worlds.specs.declared.world.Sides.{Sides}
use Rattle.record_worlds.specs.Items.{world_items_of}
use Rattle.record_worlds.specs.Naming.{names_of, renamed_entries}
use Rattle.record_worlds.specs.Tables.{Interfaces, Test, interfaces_from, side_at}
use Rattle.record_worlds.specs.Rules.{rules_hold}
use Rattle.record_worlds.specs.Indexing.{indexed_from}

unfoldable pub sides_of : List Entry → List Entry → Result Sides Failure
sides_of ims exs = do
  is ← side_at sides.Import ims
  es ← side_at sides.Export exs
  Ok (record { imports = is; exports = es })

-- a value, if a check found no fault
abbrev pub once_checked : {A : Type 0} → Result ⊤ Failure → A → Result A Failure
once_checked (Ok x) value = Ok value
once_checked (Err e) value = Err e

-- the items of both sides, of which each names only what it may
unfoldable pub checked_sides : Interfaces → List Entry → List Entry → Result Sides Failure
checked_sides table ims exs = do
  s ← sides_of ims exs
  once_checked (rules_hold table s.imports.interfaces s.exports.interfaces ims exs) s

-- the world, from the items of its sides
abbrev pub built_world : Renames → List ReadInterface → Interfaces → Result Sides Failure → Result RecordWorld Failure
built_world ns xs table (Err e) = Err e
built_world ns xs table (Ok s) = Ok (record {
  wit = record { interfaces = table; imports = s.imports.items; exports = s.exports.items };
  interfaces = indexed_from ns s.imports.interfaces s.exports.interfaces 0 xs;
})

-- the world of these items, in which interfaces have these names
unfoldable pub named_world_of : Test → Renames → WorldItems → Result RecordWorld Failure
named_world_of same ns w = do
  table ← interfaces_from same ns 0 [] w.interfaces
  built_world ns w.interfaces table (checked_sides table (renamed_entries ns w.imports) (renamed_entries ns w.exports))

-- the world of a record, where interfaces are compared by this test
unfoldable pub world_of : Test → Data → Result RecordWorld Failure
world_of same d = do
  w ← world_items_of d
  named_world_of same (names_of w) w
