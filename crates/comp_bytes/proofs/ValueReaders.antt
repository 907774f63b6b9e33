-- Readers of sorts, of value types, and of names and descriptions.
use Rattle.std.proofs.Common.{◌≡◌, ℕ, ◌+◌, ◌/◌, ◌%◌, List, [], ◌∷◌, ◌++◌, Bool, true, false, Option, Some, None, refl, ap, ◌∙◌, arith}
use Rattle.std.specs.Prelude.{nat_lt, nat_eq, if◌then◌else◌}
use Rattle.std.proofs.lemmas.Bool.Decides.{nat_tests}
use Rattle.byte_encoding.specs.Encoding.{octet, groups_of_seven, leb128, signed_leb}
use Rattle.standard_kinds.specs.Bytes.{kind_byte}
use Rattle.comp_bytes.specs.Grammar.{export_byte, sort_bytes, primitive_byte, value_type, field, case_of, function_result, extern_name, description_bytes}
use Rattle.standard_kinds.specs.declared.kinds.ExportKind.{ExportKind}
use Rattle.standard_kinds.specs.declared.kinds.ExportKind.TheVariants as kinds
use Rattle.comp_bytes.specs.declared.space.ComponentExportKind.{ComponentExportKind}
use Rattle.comp_bytes.specs.declared.space.ComponentExportKind.TheVariants as exports
use Rattle.comp_bytes.specs.declared.space.Sort.{Sort}
use Rattle.comp_bytes.specs.declared.space.Sort.TheVariants as sorts
use Rattle.standard_kinds.specs.declared.kinds.Primitive.{Primitive}
use Rattle.standard_kinds.specs.declared.kinds.Primitive.TheVariants as primitives
use Rattle.comp_bytes.specs.declared.types.ComponentValType.{ComponentValType}
use Rattle.comp_bytes.specs.declared.types.ComponentValType.TheVariants as values
use Rattle.comp_bytes.specs.declared.types.Field.{Field}
use Rattle.comp_bytes.specs.declared.types.Case.{Case}
use Rattle.comp_bytes.specs.declared.types.ExternName.{ExternName}
use Rattle.comp_bytes.specs.declared.types.Description.{Description}
use Rattle.comp_bytes.specs.declared.types.Description.TheVariants as descriptions
use Rattle.byte_encoding.proofs.Readers.{Reader, Reads, made_from, made, pair_from, pair_reads, as_reads, followed_from, followed_reads, tagged, passed, number_from, number_reads, index_from, index_reads, name_from, name_reads, option_from, option_reads}

-- ---- sorts

abbrev kind_after : ℕ → Reader ExportKind
kind_after b bs =
    if nat_eq b 0x00 then Some (kinds.Func, bs)
    else if nat_eq b 0x01 then Some (kinds.Table, bs)
    else if nat_eq b 0x02 then Some (kinds.Memory, bs)
    else if nat_eq b 0x03 then Some (kinds.Global, bs)
    else None

unfoldable pub kind_from : Reader ExportKind
kind_from bs = tagged kind_after bs

kind_again : (k : ExportKind) (rest : List ℕ) → tagged kind_after (kind_byte k ∷ rest) ≡ Some (k, rest)
kind_again kinds.Func rest = refl
kind_again kinds.Table rest = refl
kind_again kinds.Memory rest = refl
kind_again kinds.Global rest = refl

pub kind_reads : Reads (λ k. octet (kind_byte k)) kind_from
unfolding kind_from
kind_reads = record { again = kind_again }

abbrev export_after : ℕ → Reader ComponentExportKind
export_after b bs =
    if nat_eq b 0x01 then Some (exports.Func, bs)
    else if nat_eq b 0x03 then Some (exports.Type, bs)
    else if nat_eq b 0x04 then Some (exports.Component, bs)
    else if nat_eq b 0x05 then Some (exports.Instance, bs)
    else None

unfoldable pub export_from : Reader ComponentExportKind
export_from bs = tagged export_after bs

export_again : (k : ComponentExportKind) (rest : List ℕ) → tagged export_after (export_byte k ∷ rest) ≡ Some (k, rest)
export_again exports.Func rest = refl
export_again exports.Type rest = refl
export_again exports.Component rest = refl
export_again exports.Instance rest = refl

pub export_reads : Reads (λ k. octet (export_byte k)) export_from
unfolding export_from
export_reads = record { again = export_again }

abbrev sort_after : ℕ → Reader Sort
sort_after b bs =
    if nat_eq b 0x00 then made_from (λ k. sorts.Core k) kind_from bs
    else if nat_eq b 0x01 then Some (sorts.Func, bs)
    else if nat_eq b 0x03 then Some (sorts.Type, bs)
    else if nat_eq b 0x04 then Some (sorts.Component, bs)
    else if nat_eq b 0x05 then Some (sorts.Instance, bs)
    else None

unfoldable pub sort_from : Reader Sort
sort_from bs = tagged sort_after bs

sort_again : (s : Sort) (rest : List ℕ) → tagged sort_after ((sort_bytes s).bytes ++ rest) ≡ Some (s, rest)
sort_again (sorts.Core kind) rest = made kind_reads (λ k. sorts.Core k) kind rest
sort_again sorts.Func rest = refl
sort_again sorts.Type rest = refl
sort_again sorts.Component rest = refl
sort_again sorts.Instance rest = refl

pub sort_reads : Reads sort_bytes sort_from
unfolding sort_from
sort_reads = record { again = sort_again }

-- ---- value types

abbrev primitive_after : ℕ → Reader Primitive
primitive_after b bs =
    if nat_eq b 0x7f then Some (primitives.Bool, bs)
    else if nat_eq b 0x7e then Some (primitives.S8, bs)
    else if nat_eq b 0x7d then Some (primitives.U8, bs)
    else if nat_eq b 0x7c then Some (primitives.S16, bs)
    else if nat_eq b 0x7b then Some (primitives.U16, bs)
    else if nat_eq b 0x7a then Some (primitives.S32, bs)
    else if nat_eq b 0x79 then Some (primitives.U32, bs)
    else if nat_eq b 0x78 then Some (primitives.S64, bs)
    else if nat_eq b 0x77 then Some (primitives.U64, bs)
    else if nat_eq b 0x76 then Some (primitives.F32, bs)
    else if nat_eq b 0x75 then Some (primitives.F64, bs)
    else if nat_eq b 0x74 then Some (primitives.Char, bs)
    else if nat_eq b 0x73 then Some (primitives.String, bs)
    else if nat_eq b 0x64 then Some (primitives.ErrorContext, bs)
    else None

unfoldable pub primitive_from : Reader Primitive
primitive_from bs = tagged primitive_after bs

primitive_again : (p : Primitive) (rest : List ℕ) → tagged primitive_after (primitive_byte p ∷ rest) ≡ Some (p, rest)
primitive_again primitives.Bool rest = refl
primitive_again primitives.S8 rest = refl
primitive_again primitives.U8 rest = refl
primitive_again primitives.S16 rest = refl
primitive_again primitives.U16 rest = refl
primitive_again primitives.S32 rest = refl
primitive_again primitives.U32 rest = refl
primitive_again primitives.S64 rest = refl
primitive_again primitives.U64 rest = refl
primitive_again primitives.F32 rest = refl
primitive_again primitives.F64 rest = refl
primitive_again primitives.Char rest = refl
primitive_again primitives.String rest = refl
primitive_again primitives.ErrorContext rest = refl

pub primitive_reads : Reads (λ p. octet (primitive_byte p)) primitive_from
unfolding primitive_from
primitive_reads = record { again = primitive_again }

-- a primitive type's byte lies from 64 to 127
abbrev is_primitive : ℕ → Bool
is_primitive b = if nat_lt b 64 then false else nat_lt b 128

primitive_is : (p : Primitive) → is_primitive (primitive_byte p) ≡ true
primitive_is primitives.Bool = refl
primitive_is primitives.S8 = refl
primitive_is primitives.U8 = refl
primitive_is primitives.S16 = refl
primitive_is primitives.U16 = refl
primitive_is primitives.S32 = refl
primitive_is primitives.U32 = refl
primitive_is primitives.S64 = refl
primitive_is primitives.U64 = refl
primitive_is primitives.F32 = refl
primitive_is primitives.F64 = refl
primitive_is primitives.Char = refl
primitive_is primitives.String = refl
primitive_is primitives.ErrorContext = refl

abbrev value_after : ℕ → Reader ComponentValType
value_after b bs =
    if is_primitive b then made_from (λ p. values.Primitive p) primitive_from (b ∷ bs)
    else made_from (λ n. values.Defined n) index_from (b ∷ bs)

unfoldable pub value_from : Reader ComponentValType
value_from bs = tagged value_after bs

-- a type index begins with no primitive type's byte
index_case : (n : ℕ) (more rest : List ℕ) (t : Bool) → nat_lt n 64 ≡ t → (let bs = if t then n ∷ [] else (128 + n % 128) ∷ more in tagged value_after (bs ++ rest) ≡ made_from (λ n. values.Defined n) index_from (bs ++ rest))
index_case n more rest true e =
    ap (λ b. if (if b then false else nat_lt n 128) then made_from (λ p. values.Primitive p) primitive_from (n ∷ rest) else made_from (λ n. values.Defined n) index_from (n ∷ rest)) e
index_case n more rest false e =
    let bs = (128 + n % 128) ∷ (more ++ rest) in
    let no_index : is_primitive (128 + n % 128) ≡ false = grind (arith, nat_tests) in
    ap (λ b. if b then made_from (λ p. values.Primitive p) primitive_from bs else made_from (λ n. values.Defined n) index_from bs) no_index

index_starts : (n : ℕ) (rest : List ℕ) → tagged value_after (signed_leb n ++ rest) ≡ made_from (λ n. values.Defined n) index_from (signed_leb n ++ rest)
unfolding leb128
index_starts n rest = index_case n (groups_of_seven 64 3 (n / 128)) rest (nat_lt n 64) refl

value_again : (t : ComponentValType) (rest : List ℕ) → tagged value_after ((value_type t).bytes ++ rest) ≡ Some (t, rest)
value_again (values.Primitive p) rest =
    ap (λ b. if b then made_from (λ p. values.Primitive p) primitive_from (primitive_byte p ∷ rest) else made_from (λ n. values.Defined n) index_from (primitive_byte p ∷ rest)) (primitive_is p)
    ∙ made primitive_reads (λ p. values.Primitive p) p rest
value_again (values.Defined index) rest = index_starts index rest ∙ made index_reads (λ n. values.Defined n) index rest

pub value_reads : Reads value_type value_from
unfolding value_from
value_reads = record { again = value_again }

-- ---- fields, cases, results

unfoldable pub field_from : Reader Field
field_from bs = made_from (λ p. record { name = p.0; ty = p.1 }) (pair_from name_from value_from) bs

pub field_reads : Reads field field_from
unfolding field_from
field_reads = as_reads (pair_reads name_reads value_reads) (λ (f : Field). (f.name, f.ty)) (λ p. record { name = p.0; ty = p.1 }) (λ f. refl)

unfoldable pub case_from : Reader Case
case_from bs = made_from (λ p. record { name = p.0; ty = p.1 }) (followed_from (pair_from name_from (option_from value_from))) bs

pub case_reads : Reads case_of case_from
unfolding case_from
case_reads = as_reads (followed_reads (pair_reads name_reads (option_reads value_reads)) 0) (λ (c : Case). (c.name, c.ty)) (λ p. record { name = p.0; ty = p.1 }) (λ c. refl)

abbrev result_after : ℕ → Reader (Option ComponentValType)
result_after b bs = if nat_eq b 0 then made_from (λ t. Some t) value_from bs else passed None bs

unfoldable pub result_from : Reader (Option ComponentValType)
result_from bs = tagged result_after bs

result_again : (t : Option ComponentValType) (rest : List ℕ) → tagged result_after ((function_result t).bytes ++ rest) ≡ Some (t, rest)
result_again None rest = refl
result_again (Some t) rest = made value_reads (λ t. Some t) t rest

pub result_reads : Reads function_result result_from
unfolding result_from
result_reads = record { again = result_again }

-- ---- names and descriptions

abbrev extern_after : ℕ → Reader ExternName
extern_after b bs =
    if nat_eq b 0 then made_from (λ n. record { name = n; version_suffix = None }) name_from bs
    else made_from (λ p. record { name = p.0; version_suffix = Some p.1 }) (pair_from name_from name_from) bs

unfoldable pub extern_from : Reader ExternName
extern_from bs = tagged extern_after bs

extern_again : (name : List ℕ) (suffix : Option (List ℕ)) (rest : List ℕ) → tagged extern_after ((extern_name (record { name = name; version_suffix = suffix })).bytes ++ rest) ≡ Some (record { name = name; version_suffix = suffix }, rest)
extern_again name None rest = made name_reads (λ n. record { name = n; version_suffix = None }) name rest
extern_again name (Some suffix) rest = made (pair_reads name_reads name_reads) (λ p. record { name = p.0; version_suffix = Some p.1 }) (name, suffix) rest

pub extern_reads : Reads extern_name extern_from
unfolding extern_from
extern_reads = record { again = λ n rest. extern_again n.name n.version_suffix rest }

abbrev equal_after : ℕ → Reader Description
equal_after b bs = if nat_eq b 0 then made_from (λ n. descriptions.TypeEqual n) number_from bs else Some (descriptions.SubResource, bs)

abbrev description_after : ℕ → Reader Description
description_after b bs =
    if nat_eq b 0x01 then made_from (λ n. descriptions.Func n) number_from bs
    else if nat_eq b 0x03 then tagged equal_after bs
    else made_from (λ n. descriptions.Instance n) number_from bs

unfoldable pub description_from : Reader Description
description_from bs = tagged description_after bs

description_again : (d : Description) (rest : List ℕ) → tagged description_after ((description_bytes d).bytes ++ rest) ≡ Some (d, rest)
description_again (descriptions.Func index) rest = made number_reads (λ n. descriptions.Func n) index rest
description_again (descriptions.TypeEqual index) rest = made number_reads (λ n. descriptions.TypeEqual n) index rest
description_again descriptions.SubResource rest = refl
description_again (descriptions.Instance index) rest = made number_reads (λ n. descriptions.Instance n) index rest

pub description_reads : Reads description_bytes description_from
unfolding description_from
description_reads = record { again = description_again }
