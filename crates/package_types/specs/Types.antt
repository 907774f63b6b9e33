-- What types of values mean in a scope. Component model, binary format: `valtype`, `defvaltype`.
--
-- A scope is a list of entries. A reference to a name is the name; a reference to a definition is
-- the definition itself. So a type is a list of nodes, each after its parts.
use Rattle.std.specs.Prelude.{◌≡◌, ℕ, ◌==◌, nat_lt, List, [], ◌∷◌, ◌++◌, length, map, slice_get, Option, Some, None, is_some, Result, Ok, Err, if◌then◌else◌}
use Rattle.comp_bytes.specs.declared.types.ComponentValType.{ComponentValType}
use Rattle.comp_bytes.specs.declared.types.ComponentValType.TheVariants as values
use Rattle.comp_bytes.specs.declared.types.Field.{Field}
use Rattle.comp_bytes.specs.declared.types.Case.{Case as TypedCase}
use Rattle.comp_bytes.specs.declared.types.DefinedType.{DefinedType}
use Rattle.comp_bytes.specs.declared.types.DefinedType.TheVariants as defined
use Rattle.record_values.specs.declared.names.TypeName.{TypeName}
use Rattle.record_values.specs.declared.types.Node.{Node}
use Rattle.record_values.specs.declared.types.Node.TheVariants as nodes
use Rattle.record_values.specs.declared.types.Case.{Case}
use Rattle.package_types.specs.declared.fault.Cause.{Cause}
use Rattle.package_types.specs.declared.fault.Cause.TheVariants as causes
use Rattle.package_types.specs.declared.fault.TypeFault.{TypeFault}
use Rattle.package_types.specs.declared.fault.TypeFault.TheVariants as faults
use Rattle.package_types.specs.declared.scopes.Size.{Size}
use Rattle.package_types.specs.declared.scopes.Entry.{Entry}
use Rattle.package_types.specs.declared.scopes.Entry.TheVariants as entries
use Rattle.package_types.specs.Sizes.{nothing, absent, simple, combined, above}

-- a value, or why there is none
abbrev pub Checked : Type 0 → Type 0
Checked A = Result A Cause

infixl 10 ◌>>>◌
abbrev pub ◌>>>◌ : {A B : Type 0} → Checked A → (A → Checked B) → Checked B
(Ok x) >>> f = f x
(Err e) >>> f = Err e

-- The result of a function, as a view, is that of the definition, unless it is out of memory.
abbrev pub Fails : {Y : Type 0} → TypeFault → Checked Y → Type 0
Fails faults.Memory read = Unit {0}
Fails (faults.Refused c) read = read ≡ Err c

abbrev pub Gives : {X Y : Type 0} → (X → Y) → Result X TypeFault → Checked Y → Type 0
Gives view (Ok x) read = read ≡ Ok (view x)
Gives view (Err e) read = Fails e read

-- ---- sizes

-- a named type in use has the size that it has
abbrev pub entry_size : Entry → Checked Size
entry_size (entries.Name name facts) = Ok facts.size
entry_size (entries.Type ns size) = Ok size
entry_size (entries.Function s) = Err causes.Index
entry_size (entries.Instance c) = Err causes.Index

abbrev pub size_by : Option Entry → Checked Size
size_by None = Err causes.Index
size_by (Some e) = entry_size e

abbrev pub value_size : List Entry → ComponentValType → Checked Size
value_size scope (values.Primitive p) = Ok simple
value_size scope (values.Defined index) = size_by (slice_get scope index)

abbrev pub optional_size : List Entry → Option ComponentValType → Checked Size
optional_size scope None = Ok absent
optional_size scope (Some t) = value_size scope t

-- of these together with what has this size
abbrev pub types_size : List Entry → List ComponentValType → Size → Checked Size
types_size scope [] size = Ok size
types_size scope (t ∷ ts) size = value_size scope t >>> λ part. types_size scope ts (combined size part)

abbrev pub fields_size : List Entry → List Field → Size → Checked Size
fields_size scope [] size = Ok size
fields_size scope (f ∷ fs) size = value_size scope f.ty >>> λ part. fields_size scope fs (combined size part)

abbrev pub cases_size : List Entry → List TypedCase → Size → Checked Size
cases_size scope [] size = Ok size
cases_size scope (c ∷ cs) size = optional_size scope c.ty >>> λ part. cases_size scope cs (combined size part)

-- a resource, which is a name
abbrev pub resource_entry_size : Entry → Checked Size
resource_entry_size (entries.Name name facts) = if facts.is_resource then Ok facts.size else Err causes.Handle
resource_entry_size (entries.Type ns size) = Err causes.Handle
resource_entry_size (entries.Function s) = Err causes.Handle
resource_entry_size (entries.Instance c) = Err causes.Handle

abbrev pub resource_size_by : Option Entry → Checked Size
resource_size_by None = Err causes.Index
resource_size_by (Some e) = resource_entry_size e

-- of a type with parts of this size together, of which there are so many
abbrev pub above_some : ℕ → Checked Size → Checked Size
above_some count parts = if count == 0 then Err causes.Empty else (parts >>> λ size. above size)

abbrev pub labels_size : ℕ → Checked Size
labels_size count = if count == 0 then Err causes.Empty else Ok simple

-- flags have at most 32 labels
abbrev pub flags_size : ℕ → Checked Size
flags_size count = if nat_lt 32 count then Err causes.Flags else labels_size count

unfoldable pub result_size : List Entry → Option ComponentValType → Option ComponentValType → Checked Size
result_size scope ok err =
    optional_size scope ok >>> λ a.
    optional_size scope err >>> λ b.
    above (combined a b)

-- the none of an option is a part too
abbrev pub defined_size : List Entry → DefinedType → Checked Size
defined_size scope (defined.Primitive p) = Ok simple
defined_size scope (defined.Record fs) = above_some (length fs) (fields_size scope fs nothing)
defined_size scope (defined.Variant cs) = above_some (length cs) (cases_size scope cs nothing)
defined_size scope (defined.List t) = value_size scope t >>> λ size. above size
defined_size scope (defined.Tuple ts) = above_some (length ts) (types_size scope ts nothing)
defined_size scope (defined.Flags names) = flags_size (length names)
defined_size scope (defined.Enum names) = labels_size (length names)
defined_size scope (defined.Option t) = value_size scope t >>> λ size. above (combined absent size)
defined_size scope (defined.Result ok err) = result_size scope ok err
defined_size scope (defined.Own index) = resource_size_by (slice_get scope index) >>> λ size. above size
defined_size scope (defined.Borrow index) = resource_size_by (slice_get scope index) >>> λ size. above size
defined_size scope (defined.Stream t) = optional_size scope t >>> λ size. above size
defined_size scope (defined.Future t) = optional_size scope t >>> λ size. above size

-- ---- nodes. What has no size has none.

abbrev pub entry_nodes : Entry → List Node
entry_nodes (entries.Name name facts) = nodes.Named name ∷ []
entry_nodes (entries.Type ns size) = ns
entry_nodes (entries.Function s) = []
entry_nodes (entries.Instance c) = []

abbrev pub nodes_by : Option Entry → List Node
nodes_by None = []
nodes_by (Some e) = entry_nodes e

abbrev pub value_nodes : List Entry → ComponentValType → List Node
value_nodes scope (values.Primitive p) = nodes.Primitive p ∷ []
value_nodes scope (values.Defined index) = nodes_by (slice_get scope index)

abbrev pub optional_nodes : List Entry → Option ComponentValType → List Node
optional_nodes scope None = []
optional_nodes scope (Some t) = value_nodes scope t

-- those of parts, after these
abbrev pub types_after : List Entry → List ComponentValType → List Node → List Node
types_after scope [] ns = ns
types_after scope (t ∷ ts) ns = types_after scope ts (ns ++ value_nodes scope t)

abbrev pub fields_after : List Entry → List Field → List Node → List Node
fields_after scope [] ns = ns
fields_after scope (f ∷ fs) ns = fields_after scope fs (ns ++ value_nodes scope f.ty)

abbrev pub cases_after : List Entry → List TypedCase → List Node → List Node
cases_after scope [] ns = ns
cases_after scope (c ∷ cs) ns = cases_after scope cs (ns ++ optional_nodes scope c.ty)

abbrev pub named_nodes : (TypeName → Node) → Option Entry → List Node
named_nodes make (Some (entries.Name name facts)) = make name ∷ []
named_nodes make e = []

abbrev pub case_of : TypedCase → Case
case_of c = record { name = c.name; has_type = is_some c.ty }

abbrev pub defined_nodes : List Entry → DefinedType → List Node
defined_nodes scope (defined.Primitive p) = nodes.Primitive p ∷ []
defined_nodes scope (defined.Record fs) = fields_after scope fs [] ++ nodes.Record (map (λ f. f.name) fs) ∷ []
defined_nodes scope (defined.Variant cs) = cases_after scope cs [] ++ nodes.Variant (map case_of cs) ∷ []
defined_nodes scope (defined.List t) = value_nodes scope t ++ nodes.«List» ∷ []
defined_nodes scope (defined.Tuple ts) = types_after scope ts [] ++ nodes.Tuple (length ts) ∷ []
defined_nodes scope (defined.Flags names) = nodes.Flags names ∷ []
defined_nodes scope (defined.Enum names) = nodes.Enum names ∷ []
defined_nodes scope (defined.Option t) = value_nodes scope t ++ nodes.«Option» ∷ []
defined_nodes scope (defined.Result ok err) = (optional_nodes scope ok ++ optional_nodes scope err) ++ nodes.Result (is_some ok) (is_some err) ∷ []
defined_nodes scope (defined.Own index) = named_nodes (λ n. nodes.Own n) (slice_get scope index)
defined_nodes scope (defined.Borrow index) = named_nodes (λ n. nodes.Borrow n) (slice_get scope index)
defined_nodes scope (defined.Stream t) = optional_nodes scope t ++ nodes.Stream (is_some t) ∷ []
defined_nodes scope (defined.Future t) = optional_nodes scope t ++ nodes.Future (is_some t) ∷ []
