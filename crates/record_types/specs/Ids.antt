-- Ids of interfaces: three texts with a colon and a slash between them, and after an at sign a
-- version, if any (component model, explainer: `interfacename`).
use Rattle.std.specs.Prelude.{ℕ, ◌==◌, ◌&&◌, ◌||◌, not, length, List, Bool, false, Option, Some, None, is_some, is_ok, Result, Ok, Err, if◌then◌else◌}
use Rattle.std.specs.List.{list_any}
use Rattle.comp_lists.specs.Splits.{split_once}
use Rattle.semver.specs.Parse.{version_parts}
use Rattle.serde_json.specs.Data.{Data}
use Rattle.serde_json.specs.Find.{as_null}
use Rattle.json_paths.specs.declared.fault.Failure.{Failure}
use Rattle.json_paths.specs.Faults.{◌>>=◌}
use Rattle.json_paths.specs.Reading.{here, text_of}

-- a colon, a slash or an at sign
abbrev pub is_mark : ℕ → Bool
is_mark b = (b == 58) || (b == 47) || (b == 64)

abbrev pub is_name : List ℕ → Bool
is_name text = not (length text == 0) && not (list_any is_mark text)

abbrev pub names_by_slash : List ℕ → Option (List ℕ × List ℕ) → Bool
names_by_slash namespace None = false
names_by_slash namespace (Some p) = is_name namespace && is_name p.0 && is_name p.1

abbrev pub names_by_colon : Option (List ℕ × List ℕ) → Bool
names_by_colon None = false
names_by_colon (Some p) = names_by_slash p.0 (split_once 47 p.1)

-- a namespace, a package and a name
unfoldable pub is_unversioned : List ℕ → Bool
is_unversioned text = names_by_colon (split_once 58 text)

abbrev pub is_version : List ℕ → Bool
is_version text = is_ok (version_parts text)

abbrev pub is_id_by : List ℕ → Option (List ℕ × List ℕ) → Bool
is_id_by text None = is_unversioned text
is_id_by text (Some p) = is_unversioned p.0 && is_version p.1

unfoldable pub is_id : List ℕ → Bool
is_id text = is_id_by text (split_once 64 text)

unfoldable pub some_id : Data → Result (Option (List ℕ)) Failure
some_id d = do
  text ← text_of d
  if is_id text then Ok (Some text) else Err here

-- an id, or null
abbrev pub id_of : Data → Result (Option (List ℕ)) Failure
id_of d = if is_some (as_null d) then Ok None else some_id d
