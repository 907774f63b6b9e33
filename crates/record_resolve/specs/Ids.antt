-- The parts of an interface's id (component model, explainer: `interfacename`): a namespace, a package, a name, and a
-- version after an at sign, if any.
use Rattle.std.specs.Prelude.{ℕ, List, Option, None, Some, ok_or, Result, Ok, Err}
use Rattle.semver.specs.Parse.{Parts, version_parts}
use Rattle.semver.specs.declared.error.Error.{Error}
use Rattle.wit_data.specs.declared.names.IdName.{IdName}
use Rattle.json_paths.specs.declared.fault.Failure.{Failure}
use Rattle.json_paths.specs.Faults.{◌>>=◌}
use Rattle.record_values.specs.declared.names.InterfaceName.{InterfaceName}
use Rattle.record_values.specs.declared.names.InterfaceName.TheVariants as names
use Rattle.record_resolve.specs.Steps.{nowhere}
use Rattle.comp_lists.specs.Splits.{split_once}

abbrev pub version_by : Result Parts Error → Result Parts Failure
version_by (Ok p) = Ok p
version_by (Err e) = Err nowhere

abbrev pub some_version : List ℕ → Result (Option Parts) Failure
some_version text = do
  p ← version_by (version_parts text)
  Ok (Some p)

-- the names before the version, and the version
abbrev pub path_of : List ℕ → Option (List ℕ × List ℕ) → Result (List ℕ × Option Parts) Failure
path_of text None = Ok (text, None)
path_of text (Some p) = some_version p.1 >>= λ version. Ok (p.0, version)

abbrev pub id_name : List ℕ → List ℕ → List ℕ → Option Parts → IdName
id_name space name interface version = record { namespace = space; «package» = name; interface = interface; version = version }

unfoldable pub id_parts : List ℕ → Result IdName Failure
id_parts text = do
  path ← path_of text (split_once 64 text)
  colon ← ok_or (split_once 58 path.0) nowhere
  slash ← ok_or (split_once 47 colon.1) nowhere
  Ok (id_name colon.0 slash.0 slash.1 path.1)

-- an interface's id, where it has one
abbrev pub some_id : List ℕ → Result (Option IdName) Failure
some_id text = do
  id ← id_parts text
  Ok (Some id)

abbrev pub id_of : InterfaceName → Result (Option IdName) Failure
id_of (names.Id text) = some_id text
id_of (names.Imported text) = Ok None
id_of (names.Exported text) = Ok None
id_of (names.Unused index) = Ok None
