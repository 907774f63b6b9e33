-- Which imported interface becomes which: of those of one canonical id each becomes the one of
-- greatest version. One that is also exported is kept.
use Rattle.std.specs.Prelude.{ℕ, Bool, true, ◌||◌, List, [], ◌∷◌, ◌++◌, Option, Some, None, if◌then◌else◌}
use Rattle.std.specs.Map.{lookup}
use Rattle.std.specs.Str.{bytes_eq}
use Rattle.indexmap.specs.IndexMap.{insert_entry}
use Rattle.comp_lists.specs.Tables.{with_first}
use Rattle.record_values.specs.declared.names.InterfaceName.{InterfaceName}
use Rattle.record_values.specs.declared.world.Item.{Item}
use Rattle.record_values.specs.declared.world.Item.TheVariants as items
use Rattle.record_values.specs.declared.world.ItemKey.{ItemKey}
use Rattle.record_values.specs.declared.world.Wit.{Wit}
use Rattle.record_values.specs.Names.{is_same_interface}
use Rattle.record_values.specs.Interfaces.{Interfaces, is_among, interfaces_after}
use Rattle.record_values.specs.Renaming.{Renames}
use Rattle.record_versions.specs.declared.compatible.Compatible.{Compatible}
use Rattle.record_versions.specs.declared.groups.Candidate.{Candidate}
use Rattle.record_versions.specs.Compatible.{compatible, is_newer}

abbrev pub candidate_by : InterfaceName → Option Compatible → List Candidate
candidate_by name None = []
candidate_by name (Some c) = record { name = name; compatible = c } ∷ []

abbrev pub candidate : Item → List Candidate
candidate (items.Interface name) = candidate_by name (compatible name)
candidate (items.Function f) = []
candidate (items.Type nodes) = []

-- the imported interfaces that have a canonical id, in order
abbrev pub candidates : List (ItemKey × Item) → List Candidate
candidates [] = []
candidates (e ∷ es) = candidate e.1 ++ candidates es

-- the interface of greatest version by canonical id
abbrev pub Greatest : Type 0
Greatest = List (List ℕ × Candidate)

abbrev pub is_newest : Option Candidate → Candidate → Bool
is_newest None c = true
is_newest (Some g) c = is_newer c.compatible g.compatible

abbrev pub with_candidate : Greatest → Candidate → Greatest
with_candidate table c =
    if is_newest (lookup (bytes_eq c.compatible.canonical) table) c
    then insert_entry bytes_eq table c.compatible.canonical c
    else table

abbrev pub greatest_after : Greatest → List Candidate → Greatest
greatest_after table [] = table
greatest_after table (c ∷ cs) = greatest_after (with_candidate table c) cs

-- an interface with the one that it becomes, unless it is kept
abbrev pub with_rename : Interfaces → Renames → InterfaceName → Option Candidate → Renames
with_rename exported renames name None = renames
with_rename exported renames name (Some g) =
    if is_same_interface name g.name || is_among exported name
    then renames
    else with_first is_same_interface renames name g.name

abbrev pub renames_after : Interfaces → Greatest → Renames → List Candidate → Renames
renames_after exported table renames [] = renames
renames_after exported table renames (c ∷ cs) =
    renames_after exported table (with_rename exported renames c.name (lookup (bytes_eq c.compatible.canonical) table)) cs

abbrev pub renames_of : Interfaces → List Candidate → Renames
renames_of exported cs = renames_after exported (greatest_after [] cs) [] cs

-- the imported interfaces that become others, in their order, with those that they become
unfoldable pub renames : Wit → Renames
renames w = renames_of (interfaces_after [] w.exports) (candidates w.imports)
