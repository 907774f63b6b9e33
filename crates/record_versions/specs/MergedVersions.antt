-- A world in which compatible versions of imported interfaces are merged, where merging is requested.
use Rattle.std.specs.Prelude.{Bool, [], Result, Ok, if◌then◌else◌}
use Rattle.json_paths.specs.declared.fault.Failure.{Failure}
use Rattle.json_paths.specs.Faults.{◌>>=◌}
use Rattle.record_values.specs.declared.world.Wit.{Wit}
use Rattle.record_values.specs.Renaming.{Renames}
use Rattle.record_versions.specs.declared.versions.MergedVersions.{MergedVersions}
use Rattle.record_versions.specs.Groups.{renames}
use Rattle.record_versions.specs.Containment.{renames_are_valid}
use Rattle.record_versions.specs.Renamed.{renamed_wit}
use Rattle.record_versions.specs.Order.{in_order, first_lesser}
use Rattle.record_versions.specs.Reach.{no_reach}

abbrev pub renames_where : Bool → Wit → Renames
renames_where merging w = if merging then renames w else []

-- each interface that becomes another is contained in it, the imports are in an order in which each
-- uses only those before it, and no exported interface reaches an exported one through one that is
-- only imported
unfoldable pub merged_by : Renames → Wit → Result Wit Failure
merged_by rs w = do
  _ ← renames_are_valid rs w.interfaces rs
  v ← in_order (first_lesser rs) (renamed_wit rs w)
  _ ← no_reach v
  Ok v

unfoldable pub merged_versions : Bool → Wit → Result MergedVersions Failure
merged_versions merging w = do
  v ← merged_by (renames_where merging w) w
  Ok (record { wit = v; renames = renames_where merging w })
