-- Sorts, value types, names, descriptions and aliases are read exactly.
use Rattle.std.proofs.Common.{◌≡◌, ℕ, ◌+◌, ◌/◌, ◌%◌, ◌<◌, ◌≤◌, true, false, cond, ltb, eqb, List, [], ◌∷◌, ◌++◌, Option, Some, None, refl, sym, ap, subst, ◌∙◌, arith, inl, inr, ◌⊎◌}
use Rattle.std.specs.Str.{IsUtf8}
use Rattle.std.proofs.lemmas.Bool.{cases_lt, lt-ltb, le-ltb, eqb-true}
use Rattle.byte_encoding.specs.Encoding.{Encoding, Fits, ◌⊕◌, octet, groups_of_seven, leb128, signed_leb, number, named}
use Rattle.standard_kinds.specs.Bytes.{kind_byte}
use Rattle.comp_bytes.specs.Grammar.{export_byte, sort_bytes, primitive_byte, value_type, field, case_of, function_result, extern_name, description_bytes, alias_bytes}
use Rattle.standard_kinds.specs.declared.kinds.ExportKind.{ExportKind}
use Rattle.standard_kinds.specs.declared.kinds.ExportKind.TheVariants as kinds
use Rattle.comp_bytes.specs.declared.space.ComponentExportKind.{ComponentExportKind}
use Rattle.comp_bytes.specs.declared.space.ComponentExportKind.TheVariants as exports
use Rattle.comp_bytes.specs.declared.space.Sort.{Sort}
use Rattle.comp_bytes.specs.declared.space.Sort.TheVariants as sorts
use Rattle.standard_kinds.specs.declared.kinds.Primitive.{Primitive}
use Rattle.standard_kinds.specs.declared.kinds.Primitive.TheVariants as primitives
use Rattle.comp_bytes.specs.declared.types.ComponentValType.{ComponentValType}
use Rattle.comp_bytes.specs.declared.types.ComponentValType.TheVariants as values
use Rattle.comp_bytes.specs.declared.types.Field.{Field}
use Rattle.comp_bytes.specs.declared.types.Case.{Case}
use Rattle.comp_bytes.specs.declared.types.ExternName.{ExternName}
use Rattle.comp_bytes.specs.declared.types.Description.{Description}
use Rattle.comp_bytes.specs.declared.types.Description.TheVariants as descriptions
use Rattle.comp_bytes.specs.declared.types.Alias.{Alias}
use Rattle.comp_bytes.specs.declared.types.Alias.TheVariants as aliases
use Rattle.part_readers.specs.Reading.{Read, then_at, after_byte, before_byte, tagged, expect, number_at, type_index_at, name_at}
use Rattle.part_readers.specs.PartReaders.{kind_at, sort_at, primitive_of, primitive_after, primitive_or, value_type_at, field_at, case_at, result_at, extern_name_at, type_bound_at, description_at, core_alias_at, export_alias_at, outer_alias_at, type_alias_at, alias_at}
use Rattle.part_readers.specs.Writable.{IsIndex, Optionally, Always, IsValueType, IsField, IsCase, IsExternName, IsDescription, IsAlias}
use Rattle.part_readers.proofs.Exact.{IsExact, Took, took_then, bind_some, some_is, chosen, made_takes, made_again, made_fine, fine_case, fine_lone, made_exact, then_exact, expect_step, expect_again, before_exact, case, lone, other, tag_case, took_byte, after_takes, just_took, number_exact, type_index_exact, name_exact, option_exact}

-- ---- sorts

kind_takes : (bytes : List ℕ) (x : ExportKind) (rest : List ℕ) → kind_at bytes ≡ Some (x, rest) → Took (octet (kind_byte x)) bytes rest
unfolding kind_at
kind_takes [] x rest e = absurd cc
kind_takes (b ∷ bytes) x rest e =
    let f : ExportKind → Encoding = λ k. octet (kind_byte k) in
    lone f kinds.Func b 0x00 bytes _ x rest refl e (λ e.
    lone f kinds.Table b 0x01 bytes _ x rest refl e (λ e.
    lone f kinds.Memory b 0x02 bytes _ x rest refl e (λ e.
    lone f kinds.Global b 0x03 bytes _ x rest refl e (λ e.
    absurd cc))))

kind_again : (x : ExportKind) (rest : List ℕ) → kind_at (kind_byte x ∷ rest) ≡ Some (x, rest)
unfolding kind_at
kind_again kinds.Func rest = refl
kind_again kinds.Table rest = refl
kind_again kinds.Memory rest = refl
kind_again kinds.Global rest = refl

pub kind_exact : IsExact (λ k. octet (kind_byte k)) Always kind_at
kind_exact = record { takes = kind_takes; fine = λ bytes x rest e. tt; again = λ x rest w fits. kind_again x rest }

sort_takes : (bytes : List ℕ) (x : Sort) (rest : List ℕ) → sort_at bytes ≡ Some (x, rest) → Took (sort_bytes x) bytes rest
unfolding sort_at
sort_takes [] x rest e = absurd cc
sort_takes (b ∷ bytes) x rest e =
    case kind_exact sort_bytes (λ k. sorts.Core k) b 0x00 bytes _ x rest (λ a. refl) e (λ e.
    lone sort_bytes sorts.Func b 0x01 bytes _ x rest refl e (λ e.
    lone sort_bytes sorts.Type b 0x03 bytes _ x rest refl e (λ e.
    lone sort_bytes sorts.Component b 0x04 bytes _ x rest refl e (λ e.
    lone sort_bytes sorts.Instance b 0x05 bytes _ x rest refl e (λ e.
    absurd cc)))))

sort_again : (x : Sort) (rest : List ℕ) → sort_at ((sort_bytes x).bytes ++ rest) ≡ Some (x, rest)
unfolding sort_at
sort_again (sorts.Core k) rest = made_again kind_exact (λ k. sorts.Core k) k rest tt tt
sort_again sorts.Func rest = refl
sort_again sorts.Type rest = refl
sort_again sorts.Component rest = refl
sort_again sorts.Instance rest = refl

pub sort_exact : IsExact sort_bytes Always sort_at
sort_exact = record { takes = sort_takes; fine = λ bytes x rest e. tt; again = λ x rest w fits. sort_again x rest }

-- ---- value types

-- a byte of a table
found : (b t : ℕ) (c : Primitive) (others : Option Primitive) (p : Primitive) → primitive_byte c ≡ t → cond (eqb b t) (Some c) others ≡ Some p → (others ≡ Some p → b ≡ primitive_byte p) → b ≡ primitive_byte p
found b t c others p is e there =
    elim (chosen (eqb b t) (Some c) others (Some p) e) [
      | inl w ↦ eqb-true _ _ w.0 ∙ sym is ∙ ap primitive_byte (some_is c p w.1)
      | inr w ↦ there w.1
    ]

pub primitive_is : (b : ℕ) (p : Primitive) → primitive_of b ≡ Some p → b ≡ primitive_byte p
primitive_is b p e =
    found b 0x7f primitives.Bool _ p refl e (λ e.
    found b 0x7e primitives.S8 _ p refl e (λ e.
    found b 0x7d primitives.U8 _ p refl e (λ e.
    found b 0x7c primitives.S16 _ p refl e (λ e.
    found b 0x7b primitives.U16 _ p refl e (λ e.
    found b 0x7a primitives.S32 _ p refl e (λ e.
    found b 0x79 primitives.U32 _ p refl e (λ e.
    found b 0x78 primitives.S64 _ p refl e (λ e.
    found b 0x77 primitives.U64 _ p refl e (λ e.
    found b 0x76 primitives.F32 _ p refl e (λ e.
    found b 0x75 primitives.F64 _ p refl e (λ e.
    found b 0x74 primitives.Char _ p refl e (λ e.
    found b 0x73 primitives.String _ p refl e (λ e.
    found b 0x64 primitives.ErrorContext _ p refl e (λ e.
    absurd cc))))))))))))))

pub primitive_again : (p : Primitive) → primitive_of (primitive_byte p) ≡ Some p
primitive_again primitives.Bool = refl
primitive_again primitives.S8 = refl
primitive_again primitives.U8 = refl
primitive_again primitives.S16 = refl
primitive_again primitives.U16 = refl
primitive_again primitives.S32 = refl
primitive_again primitives.U32 = refl
primitive_again primitives.S64 = refl
primitive_again primitives.U64 = refl
primitive_again primitives.F32 = refl
primitive_again primitives.F64 = refl
primitive_again primitives.Char = refl
primitive_again primitives.String = refl
primitive_again primitives.ErrorContext = refl

-- the byte of a primitive type is that of a negative number
negative : (p : Primitive) → (64 ≤ primitive_byte p) × (primitive_byte p < 128)
negative primitives.Bool = (omega arith, omega arith)
negative primitives.S8 = (omega arith, omega arith)
negative primitives.U8 = (omega arith, omega arith)
negative primitives.S16 = (omega arith, omega arith)
negative primitives.U16 = (omega arith, omega arith)
negative primitives.S32 = (omega arith, omega arith)
negative primitives.U32 = (omega arith, omega arith)
negative primitives.S64 = (omega arith, omega arith)
negative primitives.U64 = (omega arith, omega arith)
negative primitives.F32 = (omega arith, omega arith)
negative primitives.F64 = (omega arith, omega arith)
negative primitives.Char = (omega arith, omega arith)
negative primitives.String = (omega arith, omega arith)
negative primitives.ErrorContext = (omega arith, omega arith)

primitive_takes : (bytes : List ℕ) (p : Primitive) (rest : List ℕ) → tagged primitive_after bytes ≡ Some (p, rest) → Took (octet (primitive_byte p)) bytes rest
unfolding primitive_after
primitive_takes [] p rest e = absurd cc
primitive_takes (b ∷ bytes) p rest e =
    let q = bind_some (primitive_of b) (λ p. let r : Read Primitive = Some (p, bytes) in r) (p, rest) e in
    let byte : b ≡ primitive_byte q.0 = primitive_is b q.0 q.1 in
    let whole : Took (octet (primitive_byte q.0)) (b ∷ bytes) bytes = record { parts = ap (λ (n : ℕ). n ∷ bytes) byte; fits = tt } in
    subst (λ (y : Primitive × List ℕ). Took (octet (primitive_byte y.0)) (b ∷ bytes) y.1) (some_is (q.0, bytes) (p, rest) q.2) whole

pub primitive_exact : IsExact (λ p. octet (primitive_byte p)) Always (tagged primitive_after)
unfolding primitive_after
primitive_exact = record { takes = primitive_takes; fine = λ bytes x rest e. tt; again = λ p rest w fits. rw (primitive_again p) refl }

-- the first byte of a type index
record Positive (bytes : List ℕ) : Type 0 where
  byte : ℕ
  rest : List ℕ
  parts : bytes ≡ byte ∷ rest
  out : (byte < 64) ⊎ (128 ≤ byte)

positive : (n : ℕ) (rest : List ℕ) → Positive (signed_leb n ++ rest)
unfolding leb128
positive n rest =
    elim (cases_lt n 64) [
      | inl l ↦ let t : ltb n 64 ≡ true = lt-ltb _ _ l in record { byte = n; rest = rest; parts = rw t refl; out = inl l }
      | inr l ↦
          let t : ltb n 64 ≡ false = le-ltb _ _ l in
          record { byte = 128 + n % 128; rest = groups_of_seven 64 3 (n / 128) ++ rest; parts = rw t refl; out = inr (omega arith) }
    ]

not_primitive : (b : ℕ) → (b < 64) ⊎ (128 ≤ b) → (r : Option Primitive) → primitive_of b ≡ r → r ≡ None
not_primitive b out None e = refl
not_primitive b (inl l) (Some p) e = let n = negative p in absurd (omega (arith, primitive_is b p e, n.0, l))
not_primitive b (inr l) (Some p) e = let n = negative p in absurd (omega (arith, primitive_is b p e, n.1, l))

value_or : (bytes : List ℕ) (r : Read Primitive) (x : ComponentValType) (rest : List ℕ) → ((p : Primitive) (more : List ℕ) → r ≡ Some (p, more) → Took (octet (primitive_byte p)) bytes more) → primitive_or r (type_index_at bytes) ≡ Some (x, rest) → Took (value_type x) bytes rest
value_or bytes (Some p) x rest h e =
    let made : ComponentValType × List ℕ = (values.Primitive p.0, p.1) in
    subst (λ (y : ComponentValType × List ℕ). Took (value_type y.0) bytes y.1) (some_is made (x, rest) e) (h p.0 p.1 refl)
value_or bytes None x rest h e =
    made_takes type_index_exact value_type (λ n. values.Defined n) (λ a. refl) bytes x rest e

value_takes : (bytes : List ℕ) (x : ComponentValType) (rest : List ℕ) → value_type_at bytes ≡ Some (x, rest) → Took (value_type x) bytes rest
unfolding value_type_at
value_takes [] x rest e = absurd cc
value_takes (b ∷ bytes) x rest e = value_or (b ∷ bytes) (primitive_after b bytes) x rest (λ p more h. primitive_takes (b ∷ bytes) p more h) e

value_again : (x : ComponentValType) (rest : List ℕ) → IsValueType x → value_type_at ((value_type x).bytes ++ rest) ≡ Some (x, rest)
unfolding value_type_at primitive_after
value_again (values.Primitive p) rest w = rw (primitive_again p) refl
value_again (values.Defined n) rest w =
    let h = positive n rest in
    let none : primitive_of h.byte ≡ None = not_primitive h.byte h.out (primitive_of h.byte) refl in
    let index : type_index_at (h.byte ∷ h.rest) ≡ Some (n, rest) = ap type_index_at (sym h.parts) ∙ type_index_exact.again n rest w tt in
    ap value_type_at h.parts ∙ rw (none, index) refl

value_or_fine : (bytes : List ℕ) (r : Read Primitive) (x : ComponentValType) (rest : List ℕ) → primitive_or r (type_index_at bytes) ≡ Some (x, rest) → IsValueType x
value_or_fine bytes (Some p) x rest e =
    let made : ComponentValType × List ℕ = (values.Primitive p.0, p.1) in
    subst (λ (y : ComponentValType × List ℕ). IsValueType y.0) (some_is made (x, rest) e) tt
value_or_fine bytes None x rest e = made_fine type_index_exact IsValueType (λ n. values.Defined n) (λ a w. w) bytes x rest e

value_fine : (bytes : List ℕ) (x : ComponentValType) (rest : List ℕ) → value_type_at bytes ≡ Some (x, rest) → IsValueType x
unfolding value_type_at
value_fine [] x rest e = absurd cc
value_fine (b ∷ bytes) x rest e = value_or_fine (b ∷ bytes) (primitive_after b bytes) x rest e

pub value_type_exact : IsExact value_type IsValueType value_type_at
value_type_exact = record { takes = value_takes; fine = value_fine; again = λ x rest w fits. value_again x rest w }

pub field_exact : IsExact field IsField field_at
unfolding field_at
field_exact =
    let make : List ℕ × ComponentValType → Field = λ p. record { name = p.0; ty = p.1 } in
    made_exact (then_exact name_exact value_type_exact) make (λ f. (f.name, f.ty)) (λ f. refl) (λ p. refl)

pub case_exact : IsExact case_of IsCase case_at
unfolding case_at
case_exact =
    let make : List ℕ × Option ComponentValType → Case = λ p. record { name = p.0; ty = p.1 } in
    made_exact (before_exact (then_exact name_exact (option_exact value_type_exact)) 0x00) make (λ c. (c.name, c.ty)) (λ c. refl) (λ p. refl)

result_takes : (bytes : List ℕ) (x : Option ComponentValType) (rest : List ℕ) → result_at bytes ≡ Some (x, rest) → Took (function_result x) bytes rest
unfolding result_at
result_takes [] x rest e = absurd cc
result_takes (b ∷ bytes) x rest e =
    case value_type_exact function_result (λ t. Some t) b 0x00 bytes _ x rest (λ a. refl) e (λ e.
    other function_result b 0x01 bytes _ _ x rest e (λ b-is e.
    let z = expect_step 0x00 bytes _ _ e in
    let none : Option ComponentValType × List ℕ = (None, z.0) in
    let first : Took (octet 0x01) (b ∷ bytes) bytes = record { parts = ap (λ (n : ℕ). n ∷ bytes) b-is; fits = tt } in
    subst (λ (y : Option ComponentValType × List ℕ). Took (function_result y.0) (b ∷ bytes) y.1) (some_is none (x, rest) z.2) (took_then first z.1)) (λ e.
    absurd cc))

result_again : (x : Option ComponentValType) (rest : List ℕ) → Optionally IsValueType x → Fits (function_result x).counts → result_at ((function_result x).bytes ++ rest) ≡ Some (x, rest)
unfolding result_at
result_again (Some t) rest w fits = made_again value_type_exact (λ t. Some t) t rest w fits
result_again None rest w fits = rw (expect_again 0x00 rest) refl

result_fine : (bytes : List ℕ) (x : Option ComponentValType) (rest : List ℕ) → result_at bytes ≡ Some (x, rest) → Optionally IsValueType x
unfolding result_at
result_fine [] x rest e = absurd cc
result_fine (b ∷ bytes) x rest e =
    fine_case value_type_exact (Optionally IsValueType) (λ t. Some t) b 0x00 bytes _ x rest (λ a w. w) e (λ e.
    tag_case b 0x01 _ _ (x, rest) e (λ b-is e.
    let z = expect_step 0x00 bytes _ _ e in
    let none : Option ComponentValType × List ℕ = (None, z.0) in
    subst (λ (y : Option ComponentValType × List ℕ). Optionally IsValueType y.0) (some_is none (x, rest) z.2) tt) (λ e.
    absurd cc))

pub result_exact : IsExact function_result (Optionally IsValueType) result_at
result_exact = record { takes = result_takes; fine = result_fine; again = result_again }

-- ---- names and descriptions

name_takes : (bytes : List ℕ) (x : ExternName) (rest : List ℕ) → extern_name_at bytes ≡ Some (x, rest) → Took (extern_name x) bytes rest
unfolding extern_name_at
name_takes [] x rest e = absurd cc
name_takes (b ∷ bytes) x rest e =
    case name_exact extern_name (λ name. record { name = name; version_suffix = None }) b 0x00 bytes _ x rest (λ a. refl) e (λ e.
    case (then_exact name_exact name_exact) extern_name (λ p. record { name = p.0; version_suffix = Some p.1 }) b 0x01 bytes _ x rest (λ a. refl) e (λ e.
    absurd cc))

-- an external name by its parts
of_parts : List ℕ → Option (List ℕ) → ExternName
of_parts name suffix = record { name = name; version_suffix = suffix }

name_again : (name : List ℕ) (suffix : Option (List ℕ)) (rest : List ℕ) → IsExternName (of_parts name suffix) → Fits (extern_name (of_parts name suffix)).counts → extern_name_at ((extern_name (of_parts name suffix)).bytes ++ rest) ≡ Some (of_parts name suffix, rest)
unfolding extern_name_at of_parts
name_again name None rest w fits = made_again name_exact (λ n. of_parts n None) name rest w.0 fits
name_again name (Some suffix) rest w fits = made_again (then_exact name_exact name_exact) (λ p. of_parts p.0 (Some p.1)) (name, suffix) rest w fits

name_fine : (bytes : List ℕ) (x : ExternName) (rest : List ℕ) → extern_name_at bytes ≡ Some (x, rest) → IsExternName x
unfolding extern_name_at
name_fine [] x rest e = absurd cc
name_fine (b ∷ bytes) x rest e =
    fine_case name_exact IsExternName (λ name. record { name = name; version_suffix = None }) b 0x00 bytes _ x rest (λ a w. (w, tt)) e (λ e.
    fine_case (then_exact name_exact name_exact) IsExternName (λ p. record { name = p.0; version_suffix = Some p.1 }) b 0x01 bytes _ x rest (λ a w. w) e (λ e.
    absurd cc))

pub extern_name_exact : IsExact extern_name IsExternName extern_name_at
unfolding of_parts
extern_name_exact = record { takes = name_takes; fine = name_fine; again = λ x rest w fits. name_again x.name x.version_suffix rest w fits }

bound_takes : (all bytes : List ℕ) (x : Description) (rest : List ℕ) → Took (octet 0x03) all bytes → type_bound_at bytes ≡ Some (x, rest) → Took (description_bytes x) all rest
unfolding type_bound_at
bound_takes all [] x rest t e = absurd cc
bound_takes all (b ∷ bytes) x rest t e =
    tag_case b 0x00 _ _ (x, rest) e (λ is made. after_takes number_exact description_bytes (λ n. descriptions.TypeEqual n) (octet 0x03 ⊕ octet 0x00) all bytes (took_then t (took_byte b 0x00 bytes is)) (λ a. refl) x rest made) (λ e.
    tag_case b 0x01 _ _ (x, rest) e (λ is made. just_took description_bytes descriptions.SubResource (octet 0x03 ⊕ octet 0x01) all bytes (took_then t (took_byte b 0x01 bytes is)) refl x rest made) (λ e.
    absurd cc))

description_takes : (bytes : List ℕ) (x : Description) (rest : List ℕ) → description_at bytes ≡ Some (x, rest) → Took (description_bytes x) bytes rest
unfolding description_at
description_takes [] x rest e = absurd cc
description_takes (b ∷ bytes) x rest e =
    case number_exact description_bytes (λ n. descriptions.Func n) b 0x01 bytes _ x rest (λ a. refl) e (λ e.
    tag_case b 0x03 _ _ (x, rest) e (λ is made. bound_takes (b ∷ bytes) bytes x rest (took_byte b 0x03 bytes is) made) (λ e.
    case number_exact description_bytes (λ n. descriptions.Instance n) b 0x05 bytes _ x rest (λ a. refl) e (λ e.
    absurd cc)))

description_again : (x : Description) (rest : List ℕ) → IsDescription x → description_at ((description_bytes x).bytes ++ rest) ≡ Some (x, rest)
unfolding description_at type_bound_at
description_again (descriptions.Func n) rest w = made_again number_exact (λ n. descriptions.Func n) n rest w tt
description_again (descriptions.TypeEqual n) rest w = made_again number_exact (λ n. descriptions.TypeEqual n) n rest w tt
description_again descriptions.SubResource rest w = refl
description_again (descriptions.Instance n) rest w = made_again number_exact (λ n. descriptions.Instance n) n rest w tt

bound_fine : (bytes : List ℕ) (x : Description) (rest : List ℕ) → type_bound_at bytes ≡ Some (x, rest) → IsDescription x
unfolding type_bound_at
bound_fine [] x rest e = absurd cc
bound_fine (b ∷ bytes) x rest e =
    fine_case number_exact IsDescription (λ n. descriptions.TypeEqual n) b 0x00 bytes _ x rest (λ a w. w) e (λ e.
    fine_lone IsDescription descriptions.SubResource b 0x01 bytes _ x rest tt e (λ e.
    absurd cc))

description_fine : (bytes : List ℕ) (x : Description) (rest : List ℕ) → description_at bytes ≡ Some (x, rest) → IsDescription x
unfolding description_at
description_fine [] x rest e = absurd cc
description_fine (b ∷ bytes) x rest e =
    fine_case number_exact IsDescription (λ n. descriptions.Func n) b 0x01 bytes _ x rest (λ a w. w) e (λ e.
    tag_case b 0x03 _ _ (x, rest) e (λ is made. bound_fine bytes x rest made) (λ e.
    fine_case number_exact IsDescription (λ n. descriptions.Instance n) b 0x05 bytes _ x rest (λ a w. w) e (λ e.
    absurd cc)))

pub description_exact : IsExact description_bytes IsDescription description_at
description_exact = record { takes = description_takes; fine = description_fine; again = λ x rest w fits. description_again x rest w }

-- ---- aliases

export_alias_takes : (kind : ComponentExportKind) (all bytes : List ℕ) (x : Alias) (rest : List ℕ) → Took (octet (export_byte kind) ⊕ octet 0x00) all bytes → export_alias_at kind bytes ≡ Some (x, rest) → Took (alias_bytes x) all rest
unfolding export_alias_at
export_alias_takes kind all bytes x rest t e =
    after_takes (then_exact number_exact name_exact) alias_bytes (λ p. aliases.Export kind p.0 p.1) (octet (export_byte kind) ⊕ octet 0x00) all bytes t (λ a. refl) x rest e

after_kind : (kind : ComponentExportKind) (b : ℕ) (bytes : List ℕ) (x : Alias) (rest : List ℕ) → b ≡ export_byte kind → after_byte 0x00 (export_alias_at kind) bytes ≡ Some (x, rest) → Took (alias_bytes x) (b ∷ bytes) rest
after_kind kind b bytes x rest is e =
    let z = expect_step 0x00 bytes (export_alias_at kind) (x, rest) e in
    export_alias_takes kind (b ∷ bytes) z.0 x rest (took_then (took_byte b (export_byte kind) bytes is) z.1) z.2

type_alias_takes : (all bytes : List ℕ) (x : Alias) (rest : List ℕ) → Took (octet 0x03) all bytes → type_alias_at bytes ≡ Some (x, rest) → Took (alias_bytes x) all rest
unfolding type_alias_at outer_alias_at
type_alias_takes all [] x rest t e = absurd cc
type_alias_takes all (b ∷ bytes) x rest t e =
    tag_case b 0x00 _ _ (x, rest) e (λ is made. export_alias_takes exports.Type all bytes x rest (took_then t (took_byte b 0x00 bytes is)) made) (λ e.
    tag_case b 0x02 _ _ (x, rest) e (λ is made. after_takes (then_exact number_exact number_exact) alias_bytes (λ p. aliases.Outer p.0 p.1) (octet 0x03 ⊕ octet 0x02) all bytes (took_then t (took_byte b 0x02 bytes is)) (λ a. refl) x rest made) (λ e.
    absurd cc))

core_parts : IsExact (λ (p : (ExportKind × ℕ) × List ℕ). (octet (kind_byte p.0.0) ⊕ octet 0x01 ⊕ number p.0.1) ⊕ named p.1) (λ p. (Unit {0} × IsIndex p.0.1) × IsUtf8 p.1) (then_at (then_at (before_byte kind_at 0x01) number_at) name_at)
core_parts = then_exact (then_exact (before_exact kind_exact 0x01) number_exact) name_exact

alias_takes : (bytes : List ℕ) (x : Alias) (rest : List ℕ) → alias_at bytes ≡ Some (x, rest) → Took (alias_bytes x) bytes rest
unfolding alias_at core_alias_at
alias_takes [] x rest e = absurd cc
alias_takes (b ∷ bytes) x rest e =
    case core_parts alias_bytes (λ p. aliases.CoreExport p.0.0 p.0.1 p.1) b 0x00 bytes _ x rest (λ a. refl) e (λ e.
    tag_case b 0x01 _ _ (x, rest) e (after_kind exports.Func b bytes x rest) (λ e.
    tag_case b 0x03 _ _ (x, rest) e (λ is made. type_alias_takes (b ∷ bytes) bytes x rest (took_byte b 0x03 bytes is) made) (λ e.
    tag_case b 0x04 _ _ (x, rest) e (after_kind exports.Component b bytes x rest) (λ e.
    tag_case b 0x05 _ _ (x, rest) e (after_kind exports.Instance b bytes x rest) (λ e.
    absurd cc)))))

alias_again : (x : Alias) (rest : List ℕ) → IsAlias x → Fits (alias_bytes x).counts → alias_at ((alias_bytes x).bytes ++ rest) ≡ Some (x, rest)
unfolding alias_at core_alias_at export_alias_at outer_alias_at type_alias_at expect
alias_again (aliases.Export exports.Func instance name) rest w fits = made_again (then_exact number_exact name_exact) (λ p. aliases.Export exports.Func p.0 p.1) (instance, name) rest w fits
alias_again (aliases.Export exports.Type instance name) rest w fits = made_again (then_exact number_exact name_exact) (λ p. aliases.Export exports.Type p.0 p.1) (instance, name) rest w fits
alias_again (aliases.Export exports.Component instance name) rest w fits = made_again (then_exact number_exact name_exact) (λ p. aliases.Export exports.Component p.0 p.1) (instance, name) rest w fits
alias_again (aliases.Export exports.Instance instance name) rest w fits = made_again (then_exact number_exact name_exact) (λ p. aliases.Export exports.Instance p.0 p.1) (instance, name) rest w fits
alias_again (aliases.CoreExport kind instance name) rest w fits = made_again core_parts (λ p. aliases.CoreExport p.0.0 p.0.1 p.1) ((kind, instance), name) rest ((tt, w.0), w.1) fits
alias_again (aliases.Outer count index) rest w fits = made_again (then_exact number_exact number_exact) (λ p. aliases.Outer p.0 p.1) (count, index) rest w fits

export_alias_fine : (kind : ComponentExportKind) (bytes : List ℕ) (x : Alias) (rest : List ℕ) → export_alias_at kind bytes ≡ Some (x, rest) → IsAlias x
unfolding export_alias_at
export_alias_fine kind bytes x rest e = made_fine (then_exact number_exact name_exact) IsAlias (λ p. aliases.Export kind p.0 p.1) (λ a w. w) bytes x rest e

after_byte_fine : (kind : ComponentExportKind) (bytes : List ℕ) (x : Alias) (rest : List ℕ) → after_byte 0x00 (export_alias_at kind) bytes ≡ Some (x, rest) → IsAlias x
after_byte_fine kind bytes x rest e =
    let z = expect_step 0x00 bytes (export_alias_at kind) (x, rest) e in
    export_alias_fine kind z.0 x rest z.2

type_alias_fine : (bytes : List ℕ) (x : Alias) (rest : List ℕ) → type_alias_at bytes ≡ Some (x, rest) → IsAlias x
unfolding type_alias_at outer_alias_at
type_alias_fine [] x rest e = absurd cc
type_alias_fine (b ∷ bytes) x rest e =
    tag_case b 0x00 _ _ (x, rest) e (λ is made. export_alias_fine exports.Type bytes x rest made) (λ e.
    fine_case (then_exact number_exact number_exact) IsAlias (λ p. aliases.Outer p.0 p.1) b 0x02 bytes _ x rest (λ a w. w) e (λ e.
    absurd cc))

alias_fine : (bytes : List ℕ) (x : Alias) (rest : List ℕ) → alias_at bytes ≡ Some (x, rest) → IsAlias x
unfolding alias_at core_alias_at
alias_fine [] x rest e = absurd cc
alias_fine (b ∷ bytes) x rest e =
    fine_case core_parts IsAlias (λ p. aliases.CoreExport p.0.0 p.0.1 p.1) b 0x00 bytes _ x rest (λ a w. (w.0.1, w.1)) e (λ e.
    tag_case b 0x01 _ _ (x, rest) e (λ is made. after_byte_fine exports.Func bytes x rest made) (λ e.
    tag_case b 0x03 _ _ (x, rest) e (λ is made. type_alias_fine bytes x rest made) (λ e.
    tag_case b 0x04 _ _ (x, rest) e (λ is made. after_byte_fine exports.Component bytes x rest made) (λ e.
    tag_case b 0x05 _ _ (x, rest) e (λ is made. after_byte_fine exports.Instance bytes x rest made) (λ e.
    absurd cc)))))

pub alias_exact : IsExact alias_bytes IsAlias alias_at
alias_exact = record { takes = alias_takes; fine = alias_fine; again = alias_again }
