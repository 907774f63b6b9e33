-- The names of interfaces (component model, explainer: `interfacename`).
use Rattle.std.specs.Prelude.{ℕ, List, [], ◌∷◌, ◌++◌, Option, Some, None, option_map, option_and_then, slice_get}
use Rattle.semver.specs.Identifiers.{parts_text}
use Rattle.wit_data.specs.declared.names.IdName.{IdName}
use Rattle.wit_data.specs.declared.ids.InterfaceId.{InterfaceId}
use Rattle.wit_data.specs.declared.worlds.WorldKey.{WorldKey}
use Rattle.wit_data.specs.declared.worlds.WorldKey.TheVariants as keys
use Rattle.wit_data.specs.declared.resolve.Resolve.{Resolve}
use Rattle.wit_data.specs.Versions.{canonical_version}

-- namespace:package/interface
abbrev pub path_text : IdName → List ℕ
path_text id = id.namespace ++ 58 ∷ id.package ++ 47 ∷ id.interface

abbrev pub version_part : Option (List ℕ) → List ℕ
version_part None = []
version_part (Some version) = 64 ∷ version

-- with the whole version
abbrev pub id_text : IdName → List ℕ
id_text id = path_text id ++ version_part (option_map parts_text id.version)

-- with the part of the version that compatible versions share
abbrev pub canonical_id_text : IdName → List ℕ
canonical_id_text id = path_text id ++ version_part (option_map (λ v. (canonical_version v).version) id.version)

-- the rest of the version
abbrev pub version_suffix : IdName → Option (List ℕ)
version_suffix id = option_and_then (λ v. (canonical_version v).suffix) id.version

abbrev pub id_name_of : Resolve → InterfaceId → Option IdName
id_name_of r id = option_and_then (λ i. i.id) (slice_get r.interfaces id.index)

abbrev pub text_of : Option (List ℕ) → List ℕ
text_of None = []
text_of (Some text) = text

-- the name of a world's import or export; of an interface without a name, nothing
abbrev pub key_text : Resolve → WorldKey → List ℕ
key_text r (keys.Name text) = text
key_text r (keys.Interface id) = text_of (option_map id_text (id_name_of r id))

abbrev pub canonical_key_text : Resolve → WorldKey → List ℕ
canonical_key_text r (keys.Name text) = text
canonical_key_text r (keys.Interface id) = text_of (option_map canonical_id_text (id_name_of r id))
