-- What a type contains that is in memory (Canonical ABI: `store`, `load`; texts are read and written
-- with an encoding). Handles, streams and futures are numbers: what they refer to is not in the value.
use Rattle.std.specs.Prelude.{ℕ, ◌+◌, Bool, true, false, ◌||◌, List, Option, None, if◌then◌else◌}
use Rattle.std.specs.List.{list_any}
use Rattle.wit_data.specs.declared.types.Type.{«Type» as Ty}
use Rattle.standard_kinds.specs.declared.kinds.Primitive.{Primitive as Prim}
use Rattle.standard_kinds.specs.declared.kinds.Primitive.TheVariants as prims
use Rattle.wit_data.specs.declared.types.TypeDefKind.{TypeDefKind}
use Rattle.wit_data.specs.declared.types.TypeDefKind.TheVariants as kinds
use Rattle.wit_data.specs.declared.types.TypeDef.{TypeDef}
use Rattle.wit_data.specs.Values.{Making, value}

-- whether the types that a kind names are in its values
abbrev pub is_entered : TypeDefKind → Bool
is_entered (kinds.Own id) = false
is_entered (kinds.Borrow id) = false
is_entered (kinds.Stream t) = false
is_entered (kinds.Future t) = false
is_entered kind = true

abbrev pub in_parts : TypeDefKind → List Bool → Bool
in_parts kind found = if is_entered kind then list_any (λ b. b) found else false

abbrev pub is_text : Prim → Bool
is_text prims.«String» = true
is_text _ = false

abbrev pub finding_texts : Making Bool
finding_texts = record { absent = false; simple = is_text; made = λ n kind found. in_parts kind found }

abbrev pub is_list : TypeDefKind → Bool
is_list (kinds.«List» t) = true
is_list kind = false

abbrev pub finding_lists : Making Bool
finding_lists = record { absent = false; simple = λ p. false; made = λ n kind found. is_list kind || in_parts kind found }

-- whether there is a text in it, and whether there is a list
abbrev pub has_text : List TypeDef → Option Ty → Bool
has_text types part = value finding_texts types part

abbrev pub has_list : List TypeDef → Option Ty → Bool
has_list types part = value finding_lists types part

-- as bits: 1 for a text, 2 for a list
abbrev pub contents_bits : List TypeDef → Option Ty → ℕ
contents_bits types part = (if has_text types part then 1 else 0) + (if has_list types part then 2 else 0)

-- what a stream or a future carries
abbrev pub carried_by : TypeDefKind → Option Ty
carried_by (kinds.Stream t) = t
carried_by (kinds.Future t) = t
carried_by kind = None
