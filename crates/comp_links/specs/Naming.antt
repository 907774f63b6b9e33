-- The names under which interfaces are imported and exported (component model, explainer:
-- `interfacename`, `canonversion`; binary format: `versionsuffix`).
use Rattle.std.specs.Prelude.{ℕ, Bool, false, List, Option, Some, None, if◌then◌else◌}
use Rattle.comp_bytes.specs.declared.types.ExternName.{ExternName}
use Rattle.wit_data.specs.declared.resolve.Resolve.{Resolve}
use Rattle.wit_data.specs.declared.worlds.WorldKey.{WorldKey}
use Rattle.wit_data.specs.declared.worlds.WorldKey.TheVariants as keys
use Rattle.wit_data.specs.Names.{key_text, canonical_key_text, version_suffix, id_name_of}
use Rattle.std.specs.Option.{option_and_then}

-- How the parts of a component are named: whether names of interfaces have the canonical part of
-- their version, with the rest as a suffix; other names for imported interfaces; and whether core
-- modules have names for debuggers.
pub record Naming : Type 0 where
  pub canonical : Bool
  pub renamed : List ℕ → Option (List ℕ)
  pub debug_names : Bool

-- a name without a version suffix
abbrev pub plain_name : List ℕ → ExternName
plain_name text = record { name = text; version_suffix = None }

abbrev pub suffix_of : Resolve → WorldKey → Option (List ℕ)
suffix_of r (keys.Name text) = None
suffix_of r (keys.Interface id) = option_and_then version_suffix (id_name_of r id)

-- names with their whole version, none of them given another one, and no names for debuggers
abbrev pub own_names : Naming
own_names = record { canonical = false; renamed = λ text. None; debug_names = false }

-- the name of a key
abbrev pub name_of : Naming → Resolve → WorldKey → ExternName
name_of n r key = if n.canonical then record { name = canonical_key_text r key; version_suffix = suffix_of r key } else plain_name (key_text r key)

-- the name under which the interface of a key is imported: another one that is given for its name
-- with the whole version, or that of the key
abbrev pub import_name : Naming → Resolve → WorldKey → ExternName
import_name n r key = elim (n.renamed (key_text r key)) [ None ↦ name_of n r key | Some text ↦ plain_name text ]
