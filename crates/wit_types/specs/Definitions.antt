-- The definition of a type of a kind, from the value types of its parts, which are given in their
-- order, none where there is no type (component model, explainer: `defvaltype`).
use Rattle.std.specs.Prelude.{List, [], ◌∷◌, Option, Some, None, option_map}
use Rattle.std.specs.List.{AllZip}
use Rattle.wit_data.specs.declared.types.Type.{«Type» as Ty}
use Rattle.wit_data.specs.declared.types.Field.{Field as WitField}
use Rattle.wit_data.specs.declared.types.Case.{Case as WitCase}
use Rattle.wit_data.specs.declared.types.TypeDefKind.{TypeDefKind}
use Rattle.wit_data.specs.declared.types.TypeDefKind.TheVariants as kinds
use Rattle.wit_data.specs.Parts.{parts}
use Rattle.comp_bytes.specs.declared.types.ComponentValType.{ComponentValType}
use Rattle.comp_bytes.specs.declared.types.Field.{Field}
use Rattle.comp_bytes.specs.declared.types.Case.{Case}
use Rattle.comp_bytes.specs.declared.types.DefinedType.{DefinedType}
use Rattle.comp_bytes.specs.declared.types.DefinedType.TheVariants as defined
use Rattle.comp_trees.specs.DefinedTrees.{TypeTree}
use Rattle.wit_types.specs.Settings.{Setting, tree_in}
use Rattle.wit_types.specs.Denoting.{ValueDenotes}

-- a part's value type, where it has a type, is that type
abbrev pub PartDenotes : Setting → List TypeTree → Option ComponentValType → Option Ty → Type 0
PartDenotes s scope None None = Unit {0}
PartDenotes s scope (Some v) (Some t) = ValueDenotes scope v (tree_in s (Some t))
PartDenotes s scope _ _ = ⊥

-- so it is for each part of a kind
pub record PartsDenote (s : Setting) (scope : List TypeTree) (given : List (Option ComponentValType)) (kind : TypeDefKind) : Type 0 where
  pub each : AllZip (PartDenotes s scope) given (parts kind)

abbrev pub fields_of : List WitField → List (Option ComponentValType) → List Field
fields_of (f ∷ fs) (Some v ∷ vs) = record { name = f.name; ty = v } ∷ fields_of fs vs
fields_of fs vs = []

abbrev pub cases_of : List WitCase → List (Option ComponentValType) → List Case
cases_of (c ∷ cs) (v ∷ vs) = record { name = c.name; ty = v } ∷ cases_of cs vs
cases_of cs vs = []

abbrev pub members_of : List (Option ComponentValType) → List ComponentValType
members_of (Some v ∷ vs) = v ∷ members_of vs
members_of vs = []

abbrev pub first : List (Option ComponentValType) → Option ComponentValType
first [] = None
first (v ∷ vs) = v

abbrev pub second : List (Option ComponentValType) → Option ComponentValType
second [] = None
second (v ∷ vs) = first vs

-- the definition of a type of this kind; a handle names its resource by an index, another name for
-- a type has that type's value, and a resource is no type of values
abbrev pub definition : TypeDefKind → List (Option ComponentValType) → Option DefinedType
definition (kinds.Record fields) vs = Some (defined.Record (fields_of fields vs))
definition (kinds.Variant cases) vs = Some (defined.Variant (cases_of cases vs))
definition (kinds.Enum names) vs = Some (defined.Enum names)
definition (kinds.Flags names) vs = Some (defined.Flags names)
definition (kinds.Tuple types) vs = Some (defined.Tuple (members_of vs))
definition (kinds.«Option» t) vs = option_map defined.Option (second vs)
definition (kinds.«Result» r) vs = Some (defined.Result (first vs) (second vs))
definition (kinds.«List» t) vs = option_map defined.List (first vs)
definition (kinds.Own id) vs = None
definition (kinds.Borrow id) vs = None
definition kinds.Resource vs = None
definition (kinds.Stream t) vs = Some (defined.Stream (first vs))
definition (kinds.Future t) vs = Some (defined.Future (first vs))
definition (kinds.Alias t) vs = None

-- the kinds that have a definition of their own
abbrev pub IsDefined : TypeDefKind → Type 0
IsDefined (kinds.Own id) = ⊥
IsDefined (kinds.Borrow id) = ⊥
IsDefined kinds.Resource = ⊥
IsDefined (kinds.Alias t) = ⊥
IsDefined kind = Unit {0}

-- the one part of a kind, of this type, is this
pub record OnlyPart (s : Setting) (scope : List TypeTree) (given : List (Option ComponentValType)) (t : Ty) : Type 0 where
  pub each : AllZip (PartDenotes s scope) given (Some t ∷ [])
