-- Types of functions, each once, by index. Core standard, structure: types are equal where they are written alike; type
-- indices.
use Rattle.std.specs.Prelude.{ℕ, ◌≡◌, ◌≤◌, ◌^◌, Bool, List, [], ◌∷◌, ◌++◌, length, if◌then◌else◌}
use Rattle.std.specs.List.{list_any, position_or_len}
use Rattle.core_types.specs.declared.types.FuncType.{FuncType}
use Rattle.core_types.specs.contracts.types.FuncTypePartialEq.TheImpl as same
use Rattle.byte_encoding.specs.declared.fault.BuildFault.{BuildFault}
use Rattle.byte_encoding.specs.declared.fault.BuildFault.TheVariants.{Memory, TooMany}

-- two types are equal
abbrev pub is_type : FuncType → FuncType → Bool
is_type = same.eq-value.it

-- the types after one was interned: they stay if it is among them, and else it is the last
abbrev pub interned : List FuncType → FuncType → List FuncType
interned types type = if list_any (is_type type) types then types else types ++ type ∷ []

-- the index that it then has
abbrev pub type_index : List FuncType → FuncType → ℕ
type_index types type = position_or_len (is_type type) types

-- Why a type can't be interned: out of memory, or it would be a new one, of an index space that is full.
abbrev pub IsFull : List FuncType → FuncType → BuildFault → Type 0
IsFull types type Memory = Unit {0}
IsFull types type (TooMany n) = (n ≡ length (interned types type)) × (2 ^ 32 ≤ n)
