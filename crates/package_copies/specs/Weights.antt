-- Weights of types: how many nodes, and how many bytes of text in them, a use of a type copies,
-- where a use of a named type copies its name, and a use of another type all that it is made of.
-- (No standard speaks of this.)
use Rattle.std.specs.Prelude.{◌+◌, ℕ, min, List, [], ◌∷◌, length, slice_get, Option, Some, None}
use Rattle.comp_bytes.specs.declared.types.ComponentValType.{ComponentValType}
use Rattle.comp_bytes.specs.declared.types.ComponentValType.TheVariants as values
use Rattle.comp_bytes.specs.declared.types.Field.{Field}
use Rattle.comp_bytes.specs.declared.types.Case.{Case}
use Rattle.comp_bytes.specs.declared.types.DefinedType.{DefinedType}
use Rattle.comp_bytes.specs.declared.types.DefinedType.TheVariants as defined
use Rattle.comp_bytes.specs.declared.types.FuncTypeDef.{FuncTypeDef}
use Rattle.comp_bytes.specs.declared.types.TypeDef.{TypeDef}
use Rattle.comp_bytes.specs.declared.types.TypeDef.TheVariants as types

-- sums are counted up to this
abbrev pub sum : ℕ → ℕ → ℕ
sum a b = min (a + b) 10000000000

-- a node with a text
abbrev pub text_weight : List ℕ → ℕ
text_weight text = sum 1 (length text)

abbrev pub entry_weight : Option ℕ → ℕ
entry_weight None = 0
entry_weight (Some weight) = weight

abbrev pub value_weight : List ℕ → ComponentValType → ℕ
value_weight scope (values.Primitive p) = 1
value_weight scope (values.Defined index) = entry_weight (slice_get scope index)

abbrev pub optional_weight : List ℕ → Option ComponentValType → ℕ
optional_weight scope None = 0
optional_weight scope (Some t) = value_weight scope t

-- these together with what has this weight
abbrev pub types_weight : List ℕ → List ComponentValType → ℕ → ℕ
types_weight scope [] weight = weight
types_weight scope (t ∷ ts) weight = types_weight scope ts (sum weight (value_weight scope t))

abbrev pub fields_weight : List ℕ → List Field → ℕ → ℕ
fields_weight scope [] weight = weight
fields_weight scope (f ∷ fs) weight = fields_weight scope fs (sum weight (sum (text_weight f.name) (value_weight scope f.ty)))

abbrev pub cases_weight : List ℕ → List Case → ℕ → ℕ
cases_weight scope [] weight = weight
cases_weight scope (c ∷ cs) weight = cases_weight scope cs (sum weight (sum (text_weight c.name) (optional_weight scope c.ty)))

abbrev pub labels_weight : List (List ℕ) → ℕ → ℕ
labels_weight [] weight = weight
labels_weight (label ∷ labels) weight = labels_weight labels (sum weight (text_weight label))

abbrev pub defined_weight : List ℕ → DefinedType → ℕ
defined_weight scope (defined.Primitive p) = 1
defined_weight scope (defined.Record fs) = fields_weight scope fs 1
defined_weight scope (defined.Variant cs) = cases_weight scope cs 1
defined_weight scope (defined.List t) = sum 1 (value_weight scope t)
defined_weight scope (defined.Tuple ts) = types_weight scope ts 1
defined_weight scope (defined.Flags labels) = labels_weight labels 1
defined_weight scope (defined.Enum labels) = labels_weight labels 1
defined_weight scope (defined.Option t) = sum 1 (value_weight scope t)
defined_weight scope (defined.Result ok err) = sum 1 (sum (optional_weight scope ok) (optional_weight scope err))
defined_weight scope (defined.Own index) = sum 1 (entry_weight (slice_get scope index))
defined_weight scope (defined.Borrow index) = sum 1 (entry_weight (slice_get scope index))
defined_weight scope (defined.Stream t) = sum 1 (optional_weight scope t)
defined_weight scope (defined.Future t) = sum 1 (optional_weight scope t)

abbrev pub function_weight : List ℕ → FuncTypeDef → ℕ
function_weight scope f = sum (fields_weight scope f.params 1) (optional_weight scope f.result)

-- a declared type; that of a resource is refused elsewhere
abbrev pub type_weight : List ℕ → TypeDef → ℕ
type_weight scope (types.Func f) = function_weight scope f
type_weight scope (types.Resource destructor) = 0
type_weight scope (types.Defined t) = defined_weight scope t
