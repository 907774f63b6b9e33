-- The kind of type that a node makes of the types that are its parts (component model, WIT: `ty`).
use Rattle.std.specs.Prelude.{ℕ, ◌+◌, length, List, [], ◌∷◌, ◌++◌, Bool, true, false, Option, None, Some, ok_or, Result, Ok, Err, if◌then◌else◌}
use Rattle.json_paths.specs.declared.fault.Failure.{Failure}
use Rattle.json_paths.specs.Faults.{◌>>=◌}
use Rattle.wit_data.specs.declared.types.Type.{«Type» as Ty}
use Rattle.wit_data.specs.declared.types.Type.TheVariants as types
use Rattle.wit_data.specs.declared.ids.TypeId.{TypeId}
use Rattle.wit_data.specs.declared.types.Field.{Field}
use Rattle.wit_data.specs.declared.types.Case.{Case as MadeCase}
use Rattle.wit_data.specs.declared.types.TypeDefKind.{TypeDefKind}
use Rattle.wit_data.specs.declared.types.TypeDefKind.TheVariants as kinds
use Rattle.record_values.specs.declared.types.Case.{Case}
use Rattle.record_values.specs.declared.types.Node.{Node}
use Rattle.record_values.specs.declared.types.Node.TheVariants as nodes
use Rattle.record_resolve.specs.declared.making.Making.{Making}
use Rattle.record_resolve.specs.declared.making.Side.{Side}
use Rattle.record_resolve.specs.Steps.{nowhere}
use Rattle.record_resolve.specs.Names.{found}

abbrev pub count : Bool → ℕ
count b = if b then 1 else 0

abbrev pub typed_count : List Case → ℕ
typed_count [] = 0
typed_count (c ∷ cs) = count c.has_type + typed_count cs

-- how many parts a node has
abbrev pub arity : Node → ℕ
arity (nodes.Primitive p) = 0
arity nodes.«List» = 1
arity nodes.«Option» = 1
arity (nodes.«Result» has_ok has_err) = count has_ok + count has_err
arity (nodes.Tuple n) = n
arity (nodes.Record names) = length names
arity (nodes.Variant cs) = typed_count cs
arity (nodes.Enum names) = 0
arity (nodes.Flags names) = 0
arity (nodes.Own t) = 0
arity (nodes.Borrow t) = 0
arity (nodes.Stream has_item) = count has_item
arity (nodes.Future has_item) = count has_item
arity (nodes.Named t) = 0
arity nodes.Resource = 0

-- the next part, where there is one, and those after it
abbrev pub next : Bool → List Ty → Option Ty × List Ty
next true [] = (None, [])
next true (t ∷ ts) = (Some t, ts)
next false ts = (None, ts)

abbrev pub field : List ℕ → Ty → Field
field name t = record { name = name; ty = t }

-- fields after these, one for each name
abbrev pub fields_from : List Field → List (List ℕ) → List Ty → Result (List Field) Failure
fields_from done [] ts = Ok done
fields_from done (name ∷ names) ts = do
  t ← ok_or (next true ts).0 nowhere
  fields_from (done ++ field name t ∷ []) names (next true ts).1

abbrev pub record_of : List (List ℕ) → List Ty → Result TypeDefKind Failure
record_of names ts = do
  fields ← fields_from [] names ts
  Ok (kinds.Record fields)

abbrev pub made_case : Case → List Ty → MadeCase
made_case c ts = record { name = c.name; ty = (next c.has_type ts).0 }

-- cases; those that have a type take the next part
abbrev pub made_cases : List Case → List Ty → List MadeCase
made_cases [] ts = []
made_cases (c ∷ cs) ts = made_case c ts ∷ made_cases cs (next c.has_type ts).1

abbrev pub holding : (Ty → TypeDefKind) → Option Ty → Result TypeDefKind Failure
holding make None = Err nowhere
holding make (Some t) = Ok (make t)

abbrev pub result_of : Bool → Bool → List Ty → TypeDefKind
result_of has_ok has_err ts = kinds.«Result» (record { ok = (next has_ok ts).0; err = (next has_err (next has_ok ts).1).0 })

abbrev pub naming : (TypeId → TypeDefKind) → Result TypeId Failure → Result TypeDefKind Failure
naming make name = do
  id ← name
  Ok (make id)

-- the kind that a node makes of its parts. A primitive type or a named one, as the whole of a type,
-- is another name for it
abbrev pub kind : Making → Side → Node → List Ty → Result TypeDefKind Failure
kind m side (nodes.Primitive p) ts = Ok (kinds.Alias (types.Primitive p))
kind m side nodes.«List» ts = holding kinds.«List» (next true ts).0
kind m side nodes.«Option» ts = holding kinds.«Option» (next true ts).0
kind m side (nodes.«Result» has_ok has_err) ts = Ok (result_of has_ok has_err ts)
kind m side (nodes.Tuple n) ts = Ok (kinds.Tuple ts)
kind m side (nodes.Record names) ts = record_of names ts
kind m side (nodes.Variant cs) ts = Ok (kinds.Variant (made_cases cs ts))
kind m side (nodes.Enum names) ts = Ok (kinds.Enum names)
kind m side (nodes.Flags names) ts = Ok (kinds.Flags names)
kind m side (nodes.Own t) ts = naming kinds.Own (found m side t)
kind m side (nodes.Borrow t) ts = naming kinds.Borrow (found m side t)
kind m side (nodes.Stream has_item) ts = Ok (kinds.Stream (next has_item ts).0)
kind m side (nodes.Future has_item) ts = Ok (kinds.Future (next has_item ts).0)
kind m side (nodes.Named t) ts = naming (λ id. kinds.Alias (types.Id id)) (found m side t)
kind m side nodes.Resource ts = Ok kinds.Resource
