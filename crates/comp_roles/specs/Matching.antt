-- Which items may be given where an item of a type is imported (core standard, validation: import matching).
use Rattle.std.specs.Prelude.{ℕ, nat_le, Bool, true, false, ◌&&◌, Option, Some, None}
use Rattle.std.specs.List.{list_all}
use Rattle.core_types.specs.contracts.types.FuncTypePartialEq.TheImpl as same_function
use Rattle.core_types.specs.contracts.types.GlobalTypePartialEq.TheImpl as same_global
use Rattle.core_types.specs.contracts.types.RefTypePartialEq.TheImpl as same_reference
use Rattle.core_types.specs.declared.types.FuncType.{FuncType}
use Rattle.core_types.specs.declared.types.ValType.{ValType}
use Rattle.core_types.specs.declared.types.ValType.TheVariants.{Ref}
use Rattle.standard_kinds.specs.declared.kinds.ExportKind.{ExportKind}
use Rattle.standard_kinds.specs.declared.kinds.ExportKind.TheVariants as kinds
use Rattle.comp_roles.specs.declared.offered.ExternType.{ExternType}
use Rattle.comp_roles.specs.declared.offered.ExternType.TheVariants as externs

-- the kind of an item of a type
abbrev pub kind_of : ExternType → ExportKind
kind_of (externs.Func type) = kinds.Func
kind_of (externs.Table type) = kinds.Table
kind_of (externs.Memory type) = kinds.Memory
kind_of (externs.Global type) = kinds.Global

-- a size that is required to be at most some number
abbrev pub at_most : Option ℕ → ℕ → Bool
at_most None n = true
at_most (Some m) n = nat_le n m

-- where a largest size is required, what is offered has one, and it is no larger
abbrev pub bounded_by : Option ℕ → Option ℕ → Bool
bounded_by None offered = true
bounded_by (Some m) None = false
bounded_by (Some m) (Some n) = nat_le n m

-- Limits that are required, and limits that are offered: at least the required minimum, and no
-- larger than the required maximum. (An offered minimum is no larger than the offered maximum, so
-- that it is at most the required one too; limits of a module that isn't valid may break that.)
abbrev pub limits_match : ℕ → Option ℕ → ℕ → Option ℕ → Bool
limits_match least most minimum maximum = nat_le least minimum && (bounded_by most maximum && at_most most minimum)

-- an item of the second type may be given where one of the first is imported
abbrev pub matches : ExternType → ExternType → Bool
matches (externs.Func f) (externs.Func g) = same_function.eq-value.it f g
matches (externs.Table t) (externs.Table u) = same_reference.eq-value.it t.element_type u.element_type && limits_match t.minimum t.maximum u.minimum u.maximum
matches (externs.Memory m) (externs.Memory n) = limits_match m.minimum m.maximum n.minimum n.maximum
matches (externs.Global g) (externs.Global h) = same_global.eq-value.it g h
matches required offered = false

-- ---- numbers

-- one of the four number types
abbrev pub is_number : ValType → Bool
is_number (Ref ref) = false
is_number type = true

-- a function that takes and returns numbers alone
abbrev pub has_numbers : FuncType → Bool
has_numbers f = list_all is_number f.params && list_all is_number f.results
