-- The names of the primitive types (component model, WIT: `ty`).
use Rattle.std.specs.Prelude.{ℕ, List, codes, Option, Some, None, if◌then◌else◌}
use Rattle.std.specs.Str.{bytes_eq}
use Rattle.standard_kinds.specs.declared.kinds.Primitive.{Primitive}
use Rattle.standard_kinds.specs.declared.kinds.Primitive.TheVariants as primitives

abbrev pub primitive_of : List ℕ → Option Primitive
primitive_of s =
    if bytes_eq s (codes "bool") then Some primitives.«Bool»
    else if bytes_eq s (codes "s8") then Some primitives.S8
    else if bytes_eq s (codes "u8") then Some primitives.U8
    else if bytes_eq s (codes "s16") then Some primitives.S16
    else if bytes_eq s (codes "u16") then Some primitives.U16
    else if bytes_eq s (codes "s32") then Some primitives.S32
    else if bytes_eq s (codes "u32") then Some primitives.U32
    else if bytes_eq s (codes "s64") then Some primitives.S64
    else if bytes_eq s (codes "u64") then Some primitives.U64
    else if bytes_eq s (codes "f32") then Some primitives.F32
    else if bytes_eq s (codes "f64") then Some primitives.F64
    else if bytes_eq s (codes "char") then Some primitives.Char
    else if bytes_eq s (codes "string") then Some primitives.«String»
    else if bytes_eq s (codes "error-context") then Some primitives.ErrorContext
    else None
