-- Named types: objects with a name and its type, which is an unnamed type, another name for a type, or a new resource.
use Rattle.std.specs.Prelude.{ℕ, List, [], ◌∷◌, codes, Bool, true, false, Option, Some, None, is_some, ok_or, Result, Ok, Err, if◌then◌else◌}
use Rattle.std.specs.Map.{lookup}
use Rattle.std.specs.Str.{bytes_eq}
use Rattle.serde_json.specs.Data.{Data}
use Rattle.serde_json.specs.Find.{as_str, as_bool}
use Rattle.json_paths.specs.declared.fault.Failure.{Failure}
use Rattle.json_paths.specs.Faults.{◌>>=◌}
use Rattle.json_paths.specs.Reading.{under, here, required, text_of, only, single}
use Rattle.record_values.specs.declared.types.Node.{Node}
use Rattle.record_values.specs.declared.types.Node.TheVariants as nodes
use Rattle.record_values.specs.declared.types.Typed.{Typed}
use Rattle.record_types.specs.declared.known.Size.{Size}
use Rattle.record_types.specs.declared.known.TypeFacts.{TypeFacts}
use Rattle.record_types.specs.Scopes.{Table, Names}
use Rattle.record_types.specs.Sizes.{simple, above}
use Rattle.record_types.specs.References.{reference_of}
use Rattle.record_types.specs.Primitives.{primitive_of}
use Rattle.record_types.specs.Types.{type_of}

-- nodes, and what is known of the name of the type that they make
abbrev pub Meaning : Type 0
Meaning = List Node × TypeFacts

-- neither a resource nor a name for one
abbrev pub value_facts : Size → TypeFacts
value_facts size = record { size = size; is_resource = false; ends_at_resource = false }

-- another name for a primitive type; it is a node and a level of its own
unfoldable pub primitive_name : List ℕ → Result Meaning Failure
primitive_name s = do
  p ← ok_or (primitive_of s) here
  size ← above simple
  Ok (nodes.Primitive p ∷ [], value_facts size)

-- another name for a named type; it is a node and a level of its own
unfoldable pub other_name : Names → Data → Result Meaning Failure
other_name k d = do
  r ← reference_of k d
  size ← above r.1.size
  Ok (nodes.Named r.0 ∷ [], record { size = size; is_resource = false; ends_at_resource = r.1.ends_at_resource })

-- a new resource is written as true
abbrev pub resource_by : Option Bool → Result Meaning Failure
resource_by (Some true) = Ok (nodes.Resource ∷ [], record { size = simple; is_resource = true; ends_at_resource = true })
resource_by (Some false) = Err here
resource_by None = Err here

-- a type that isn't another name for one
unfoldable pub new_type : Names → Data → Result Meaning Failure
new_type k d = do
  t ← type_of 100 k d []
  Ok (t.1, value_facts t.0)

abbrev pub meaning_by_key : Names → Data → List ℕ → Data → Result Meaning Failure
meaning_by_key k d key v =
    if bytes_eq key (codes "resource") then under key (resource_by (as_bool v))
    else if bytes_eq key (codes "ref") then under key (other_name k v)
    else new_type k d

abbrev pub meaning_by_member : Names → Data → Option (List ℕ × Data) → Result Meaning Failure
meaning_by_member k d None = Err here
meaning_by_member k d (Some m) = meaning_by_key k d m.0 m.1

abbrev pub meaning_by : Names → Data → Option (List ℕ) → Result Meaning Failure
meaning_by k d (Some s) = primitive_name s
meaning_by k d None = meaning_by_member k d (single d)

-- the type of a name
unfoldable pub meaning_of : Names → Data → Result Meaning Failure
meaning_of k d = meaning_by k d (as_str d)

-- a name that the table lacks
unfoldable pub new_name : Table → Data → Result (List ℕ) Failure
new_name table d = do
  name ← text_of d
  if is_some (lookup (bytes_eq name) table) then Err here else Ok name

abbrev pub typed : List ℕ → List Node → Typed
typed name ns = record { name = name; nodes = ns }

-- a named type, and what is known of it
unfoldable pub named_type_of : Names → Data → Result (Typed × TypeFacts) Failure
named_type_of k d = do
  _ ← only (codes "name" ∷ codes "type" ∷ []) d
  n ← required (codes "name") d
  t ← required (codes "type") d
  name ← under (codes "name") (new_name k.current n)
  meaning ← under (codes "type") (meaning_of k t)
  Ok (typed name meaning.0, meaning.1)
