-- Values of core functions, and whether they are of types. Core standard, execution: values,
-- results; validation: matching of types. Types are compared as they are written: where two modules
-- number their types differently, a concrete reference is distinguished by its number (this
-- project's own).
use Rattle.std.specs.Prelude.{ℕ, ◌^◌, Bool, true, false, ◌&&◌, nat_lt, eqb, List, [], ◌∷◌, ◌++◌, replicate}
use Rattle.core_types.specs.declared.types.ValType.{ValType}
use Rattle.core_types.specs.declared.types.ValType.TheVariants.{I32, I64, F32, F64, Ref}
use Rattle.core_types.specs.declared.types.RefType.{RefType}
use Rattle.core_types.specs.declared.types.RefType.TheVariants.{FuncRef, Concrete}
use Rattle.core_types.specs.declared.types.FuncType.{FuncType}
use Rattle.core_bytes.specs.declared.code.LocalRun.{LocalRun}

-- val: a number, a float by its bits, or a function by its address in the store. No instruction of generated code makes
-- a null reference.
pub data Value : Type 0 where
  I32Value : ℕ → Value
  I64Value : ℕ → Value
  F32Value : ℕ → Value
  F64Value : ℕ → Value
  Function : ℕ → Value

-- The value has the type: a number is below its width, and a function reference holds a function.
abbrev pub fits : ValType → Value → Bool
fits I32 (I32Value n) = nat_lt n (2 ^ 32)
fits I64 (I64Value n) = nat_lt n (2 ^ 64)
fits F32 (F32Value n) = nat_lt n (2 ^ 32)
fits F64 (F64Value n) = nat_lt n (2 ^ 64)
fits (Ref r) (Function f) = true
fits t v = false

-- as many values as types, each of its type
abbrev pub fit : List ValType → List Value → Bool
fit [] [] = true
fit (t ∷ ts) (v ∷ vs) = fits t v && fit ts vs
fit [] (v ∷ vs) = false
fit (t ∷ ts) [] = false

-- the initial value of a local variable; no generated body has one of a reference type, which would be null
abbrev pub zero_of : ValType → Value
zero_of I32 = I32Value 0
zero_of I64 = I64Value 0
zero_of F32 = F32Value 0
zero_of F64 = F64Value 0
zero_of (Ref r) = Function 0

-- the initial values of all local variables
abbrev pub zeros : List LocalRun → List Value
zeros [] = []
zeros (r ∷ rs) = replicate r.count (zero_of r.val_type) ++ zeros rs

-- the same type
abbrev pub same_reference : RefType → RefType → Bool
same_reference FuncRef FuncRef = true
same_reference (Concrete s) (Concrete t) = eqb s t
same_reference s t = false

abbrev pub same_value_type : ValType → ValType → Bool
same_value_type I32 I32 = true
same_value_type I64 I64 = true
same_value_type F32 F32 = true
same_value_type F64 F64 = true
same_value_type (Ref s) (Ref t) = same_reference s t
same_value_type s t = false

abbrev pub same_value_types : List ValType → List ValType → Bool
same_value_types [] [] = true
same_value_types (s ∷ ss) (t ∷ ts) = same_value_type s t && same_value_types ss ts
same_value_types [] (t ∷ ts) = false
same_value_types (s ∷ ss) [] = false

abbrev pub same_signature : FuncType → FuncType → Bool
same_signature s t = same_value_types s.params t.params && same_value_types s.results t.results
