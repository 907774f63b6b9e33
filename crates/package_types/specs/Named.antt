-- Types that get a name: `(eq i)` of an import or an export. Component model, binary format: `externdesc`, `typebound`.
use Rattle.std.specs.Prelude.{ℕ, List, [], ◌∷◌, true, false, Option, Some, None, Ok, Err}
use Rattle.comp_bytes.specs.declared.types.ExternName.{ExternName}
use Rattle.record_values.specs.declared.names.TypeName.{TypeName}
use Rattle.record_values.specs.declared.types.Node.{Node}
use Rattle.record_values.specs.declared.types.Node.TheVariants as nodes
use Rattle.package_types.specs.declared.fault.Cause.TheVariants as causes
use Rattle.package_types.specs.declared.scopes.Facts.{Facts}
use Rattle.package_types.specs.declared.scopes.Entry.{Entry}
use Rattle.package_types.specs.declared.scopes.Entry.TheVariants as entries
use Rattle.package_types.specs.declared.named.Meaning.{Meaning}
use Rattle.package_types.specs.Sizes.{simple, above}
use Rattle.package_types.specs.Types.{Checked, ◌>>>◌}

abbrev pub meaning : List Node → Facts → Meaning
meaning ns facts = record { nodes = ns; facts = facts }

-- another name for a named type; it is a node and a level of its own
abbrev pub other_name : TypeName → Facts → Checked Meaning
other_name name facts = above facts.size >>> λ size. Ok (meaning (nodes.Named name ∷ []) (record { size = size; is_resource = facts.is_resource }))

-- the type of a name, by the entry that it equals: another name for one, or a definition
abbrev pub meaning_by : Option Entry → Checked Meaning
meaning_by (Some (entries.Name name facts)) = other_name name facts
meaning_by (Some (entries.Type ns size)) = Ok (meaning ns (record { size = size; is_resource = false }))
meaning_by e = Err causes.Index

-- a new resource
abbrev pub resource : Meaning
resource = meaning (nodes.«Resource» ∷ []) (record { size = simple; is_resource = true })

-- a name in one part
abbrev pub plain_by : List ℕ → Option (List ℕ) → Checked (List ℕ)
plain_by name None = Ok name
plain_by name (Some suffix) = Err causes.VersionSuffix

abbrev pub plain_name : ExternName → Checked (List ℕ)
plain_name n = plain_by n.name n.version_suffix
