-- The string encodings of functions (Canonical ABI: `string-encoding`), where the interfaces that
-- have them have numbers. A name of a function that does not exist is left out; where two names
-- resolve to one function, the first is kept.
use Rattle.std.specs.Prelude.{ℕ, List, [], ◌∷◌, Option, Some, None}
use Rattle.comp_lists.specs.Tables.{with_first}
use Rattle.comp_roles.specs.Functions.{is_same_function}
use Rattle.standard_kinds.specs.declared.kinds.StringEncoding.{StringEncoding}
use Rattle.comp_roles.specs.declared.metadata.FunctionKey.{FunctionKey}
use Rattle.comp_roles.specs.declared.metadata.ModuleMetadata.{ModuleMetadata}
use Rattle.wit_data.specs.declared.worlds.WorldKey.{WorldKey}
use Rattle.record_merge.specs.declared.bindgen.FunctionOf.{FunctionOf}
use Rattle.record_merge.specs.declared.bindgen.Roles.{Roles}
use Rattle.record_resolve.specs.declared.resolving.Resolved.{Resolved}
use Rattle.record_role_targets.specs.declared.sides.Side.{Side}
use Rattle.record_role_targets.specs.declared.sides.Side.TheVariants as sides
use Rattle.record_role_targets.specs.Keys.{resolved_key}

-- functions with their encodings
abbrev pub Encodings : Type 0
Encodings = List (FunctionKey × StringEncoding)

-- one function more, if its key resolves
abbrev pub with_encoding : Encodings → Option WorldKey → List ℕ → StringEncoding → Encodings
with_encoding all None function encoding = all
with_encoding all (Some key) function encoding = with_first is_same_function all (record { key = key; function = function }) encoding

abbrev pub encodings_after : Side → Resolved → Encodings → List (FunctionOf × StringEncoding) → Encodings
encodings_after side r all [] = all
encodings_after side r all (e ∷ es) = encodings_after side r (with_encoding all (resolved_key side r e.0.key) e.0.function e.1) es

-- the encodings of the functions that a module imports and exports
abbrev pub resolved_metadata : Resolved → Roles → ModuleMetadata
resolved_metadata r roles = record {
  import_encodings = encodings_after sides.Imported r [] roles.import_encodings;
  export_encodings = encodings_after sides.Exported r [] roles.export_encodings;
}
