-- Types are read exactly.
use Rattle.std.proofs.Common.{◌≡◌, ℕ, Bool, true, false, eqb, List, [], ◌∷◌, ◌++◌, Option, Some, None, refl, ap, subst, ◌∙◌}
use Rattle.std.specs.Prelude.{if◌then◌else◌}
use Rattle.std.specs.List.{AllByRecursion}
use Rattle.byte_encoding.specs.Encoding.{Encoding, Fits, ◌⊕◌, octet, listed, optional}
use Rattle.comp_bytes.specs.Grammar.{primitive_byte, value_type, field, defined_type, function_result, function_type, type_def, member}
use Rattle.standard_kinds.specs.declared.kinds.Primitive.{Primitive}
use Rattle.standard_kinds.specs.declared.kinds.Primitive.TheVariants as primitives
use Rattle.comp_bytes.specs.declared.types.ComponentValType.{ComponentValType}
use Rattle.comp_bytes.specs.declared.types.Field.{Field}
use Rattle.comp_bytes.specs.declared.types.DefinedType.{DefinedType}
use Rattle.comp_bytes.specs.declared.types.DefinedType.TheVariants as defined
use Rattle.comp_bytes.specs.declared.types.FuncTypeDef.{FuncTypeDef}
use Rattle.comp_bytes.specs.declared.types.TypeDef.{TypeDef}
use Rattle.comp_bytes.specs.declared.types.TypeDef.TheVariants as types
use Rattle.comp_bytes.specs.declared.types.Member.{Member}
use Rattle.comp_bytes.specs.declared.types.Member.TheVariants as members
use Rattle.comp_bytes.specs.declared.types.InstanceType.{InstanceType}
use Rattle.part_readers.specs.Reading.{◌>>=◌, Read, Reader, made_at, then_at, after_byte, tagged, expect, number_at, option_at}
use Rattle.part_readers.specs.PartReaders.{primitive_after, value_type_at, result_type_at, small_type_after, defined_after, func_type_at, type_def_after, member_at, instance_type_at}
use Rattle.part_readers.specs.Writable.{Optionally, IsValueType, IsField, IsDefinedType, IsFuncType, IsTypeDef, IsMember, IsInstanceType}
use Rattle.part_readers.proofs.Exact.{IsExact, Took, took_then, some_is, made_takes, made_again, bind_fine, made_fine, fine_case, made_exact, then_exact, expect_step, case, tag_case, took_byte, after_takes, first_of_tagged, other_byte, number_exact, name_exact, list_exact, option_exact}
use Rattle.part_readers.proofs.ValueLaws.{primitive_exact, value_type_exact, field_exact, case_exact, result_exact, extern_name_exact, description_exact, alias_exact}

-- ---- types of values

two_options : IsExact (λ (p : Option ComponentValType × Option ComponentValType). optional value_type p.0 ⊕ optional value_type p.1) (λ p. Optionally IsValueType p.0 × Optionally IsValueType p.1) (then_at (option_at value_type_at) (option_at value_type_at))
two_options = then_exact (option_exact value_type_exact) (option_exact value_type_exact)

small_takes : (b : ℕ) (bytes : List ℕ) (x : DefinedType) (rest : List ℕ) → small_type_after b bytes ≡ Some (x, rest) → Took (defined_type x) (b ∷ bytes) rest
unfolding small_type_after result_type_at
small_takes b bytes x rest e =
    case value_type_exact defined_type (λ t. defined.List t) b 0x70 bytes _ x rest (λ a. refl) e (λ e.
    case value_type_exact defined_type (λ t. defined.Option t) b 0x6b bytes _ x rest (λ a. refl) e (λ e.
    case two_options defined_type (λ p. defined.Result p.0 p.1) b 0x6a bytes _ x rest (λ a. refl) e (λ e.
    case number_exact defined_type (λ n. defined.Own n) b 0x69 bytes _ x rest (λ a. refl) e (λ e.
    case number_exact defined_type (λ n. defined.Borrow n) b 0x68 bytes _ x rest (λ a. refl) e (λ e.
    case (option_exact value_type_exact) defined_type (λ t. defined.Stream t) b 0x66 bytes _ x rest (λ a. refl) e (λ e.
    case (option_exact value_type_exact) defined_type (λ t. defined.Future t) b 0x65 bytes _ x rest (λ a. refl) e (λ e.
    made_takes primitive_exact defined_type (λ p. defined.Primitive p) (λ a. refl) (b ∷ bytes) x rest e)))))))

pub defined_takes : (b : ℕ) (bytes : List ℕ) (x : DefinedType) (rest : List ℕ) → defined_after b bytes ≡ Some (x, rest) → Took (defined_type x) (b ∷ bytes) rest
unfolding defined_after
defined_takes b bytes x rest e =
    case (list_exact field_exact) defined_type (λ l. defined.Record l) b 0x72 bytes _ x rest (λ a. refl) e (λ e.
    case (list_exact case_exact) defined_type (λ l. defined.Variant l) b 0x71 bytes _ x rest (λ a. refl) e (λ e.
    case (list_exact value_type_exact) defined_type (λ l. defined.Tuple l) b 0x6f bytes _ x rest (λ a. refl) e (λ e.
    case (list_exact name_exact) defined_type (λ l. defined.Flags l) b 0x6e bytes _ x rest (λ a. refl) e (λ e.
    case (list_exact name_exact) defined_type (λ l. defined.Enum l) b 0x6d bytes _ x rest (λ a. refl) e (λ e.
    small_takes b bytes x rest e)))))

small_fine : (b : ℕ) (bytes : List ℕ) (x : DefinedType) (rest : List ℕ) → small_type_after b bytes ≡ Some (x, rest) → IsDefinedType x
unfolding small_type_after result_type_at
small_fine b bytes x rest e =
    fine_case value_type_exact IsDefinedType (λ t. defined.List t) b 0x70 bytes _ x rest (λ a w. w) e (λ e.
    fine_case value_type_exact IsDefinedType (λ t. defined.Option t) b 0x6b bytes _ x rest (λ a w. w) e (λ e.
    fine_case two_options IsDefinedType (λ p. defined.Result p.0 p.1) b 0x6a bytes _ x rest (λ a w. w) e (λ e.
    fine_case number_exact IsDefinedType (λ n. defined.Own n) b 0x69 bytes _ x rest (λ a w. w) e (λ e.
    fine_case number_exact IsDefinedType (λ n. defined.Borrow n) b 0x68 bytes _ x rest (λ a w. w) e (λ e.
    fine_case (option_exact value_type_exact) IsDefinedType (λ t. defined.Stream t) b 0x66 bytes _ x rest (λ a w. w) e (λ e.
    fine_case (option_exact value_type_exact) IsDefinedType (λ t. defined.Future t) b 0x65 bytes _ x rest (λ a w. w) e (λ e.
    made_fine primitive_exact IsDefinedType (λ p. defined.Primitive p) (λ a w. w) (b ∷ bytes) x rest e)))))))

defined_fine : (b : ℕ) (bytes : List ℕ) (x : DefinedType) (rest : List ℕ) → defined_after b bytes ≡ Some (x, rest) → IsDefinedType x
unfolding defined_after
defined_fine b bytes x rest e =
    fine_case (list_exact field_exact) IsDefinedType (λ l. defined.Record l) b 0x72 bytes _ x rest (λ a w. w) e (λ e.
    fine_case (list_exact case_exact) IsDefinedType (λ l. defined.Variant l) b 0x71 bytes _ x rest (λ a w. w) e (λ e.
    fine_case (list_exact value_type_exact) IsDefinedType (λ l. defined.Tuple l) b 0x6f bytes _ x rest (λ a w. w) e (λ e.
    fine_case (list_exact name_exact) IsDefinedType (λ l. defined.Flags l) b 0x6e bytes _ x rest (λ a w. w) e (λ e.
    fine_case (list_exact name_exact) IsDefinedType (λ l. defined.Enum l) b 0x6d bytes _ x rest (λ a w. w) e (λ e.
    small_fine b bytes x rest e)))))

primitive_defined : (p : Primitive) (rest : List ℕ) → defined_after (primitive_byte p) rest ≡ Some (defined.Primitive p, rest)
unfolding defined_after small_type_after primitive_after
primitive_defined primitives.Bool rest = refl
primitive_defined primitives.S8 rest = refl
primitive_defined primitives.U8 rest = refl
primitive_defined primitives.S16 rest = refl
primitive_defined primitives.U16 rest = refl
primitive_defined primitives.S32 rest = refl
primitive_defined primitives.U32 rest = refl
primitive_defined primitives.S64 rest = refl
primitive_defined primitives.U64 rest = refl
primitive_defined primitives.F32 rest = refl
primitive_defined primitives.F64 rest = refl
primitive_defined primitives.Char rest = refl
primitive_defined primitives.String rest = refl
primitive_defined primitives.ErrorContext rest = refl

defined_again : (x : DefinedType) (rest : List ℕ) → IsDefinedType x → Fits (defined_type x).counts → tagged defined_after ((defined_type x).bytes ++ rest) ≡ Some (x, rest)
unfolding defined_after small_type_after result_type_at
defined_again (defined.Primitive p) rest w fits = primitive_defined p rest
defined_again (defined.Record l) rest w fits = made_again (list_exact field_exact) (λ l. defined.Record l) l rest w fits
defined_again (defined.Variant l) rest w fits = made_again (list_exact case_exact) (λ l. defined.Variant l) l rest w fits
defined_again (defined.List t) rest w fits = made_again value_type_exact (λ t. defined.List t) t rest w fits
defined_again (defined.Tuple l) rest w fits = made_again (list_exact value_type_exact) (λ l. defined.Tuple l) l rest w fits
defined_again (defined.Flags l) rest w fits = made_again (list_exact name_exact) (λ l. defined.Flags l) l rest w fits
defined_again (defined.Enum l) rest w fits = made_again (list_exact name_exact) (λ l. defined.Enum l) l rest w fits
defined_again (defined.Option t) rest w fits = made_again value_type_exact (λ t. defined.Option t) t rest w fits
defined_again (defined.Result ok err) rest w fits = made_again two_options (λ p. defined.Result p.0 p.1) (ok, err) rest w fits
defined_again (defined.Own n) rest w fits = made_again number_exact (λ n. defined.Own n) n rest w fits
defined_again (defined.Borrow n) rest w fits = made_again number_exact (λ n. defined.Borrow n) n rest w fits
defined_again (defined.Stream t) rest w fits = made_again (option_exact value_type_exact) (λ t. defined.Stream t) t rest w fits
defined_again (defined.Future t) rest w fits = made_again (option_exact value_type_exact) (λ t. defined.Future t) t rest w fits

-- ---- types

abbrev func_text : FuncTypeDef → Encoding
func_text f = listed field f.params ⊕ function_result f.result

func_takes : (is_async : Bool) (bytes : List ℕ) (f : FuncTypeDef) (rest : List ℕ) → func_type_at is_async bytes ≡ Some (f, rest) → (all : List ℕ) (t : ℕ) → t ≡ (if is_async then 0x43 else 0x40) → Took (octet t) all bytes → Took (function_type f) all rest
unfolding func_type_at
func_takes is_async bytes f rest e all t is front =
    let make : List Field × Option ComponentValType → FuncTypeDef = λ p. record { async_ = is_async; params = p.0; result = p.1 } in
    after_takes (then_exact (list_exact field_exact) result_exact) function_type make (octet (if is_async then 0x43 else 0x40)) all bytes (subst (λ (n : ℕ). Took (octet n) all bytes) is front) (λ a. refl) f rest e

func_again : (is_async : Bool) (params : List Field) (result : Option ComponentValType) (rest : List ℕ) → AllByRecursion IsField params → Optionally IsValueType result → Fits ((listed field params).counts ++ (function_result result).counts) → func_type_at is_async (((listed field params).bytes ++ (function_result result).bytes) ++ rest) ≡ Some (record { async_ = is_async; params = params; result = result }, rest)
unfolding func_type_at
func_again is_async params result rest v w fits =
    let make : List Field × Option ComponentValType → FuncTypeDef = λ p. record { async_ = is_async; params = p.0; result = p.1 } in
    made_again (then_exact (list_exact field_exact) result_exact) make (params, result) rest (v, w) fits

from_func : (is_async : Bool) (b t : ℕ) (bytes : List ℕ) (x : TypeDef) (rest : List ℕ) → t ≡ (if is_async then 0x43 else 0x40) → b ≡ t → (r : Read FuncTypeDef) → func_type_at is_async bytes ≡ r → ◌>>=◌ {B = TypeDef × List ℕ} r (λ f. Some (types.Func f.0, f.1)) ≡ Some (x, rest) → Took (type_def x) (b ∷ bytes) rest
from_func is_async b t bytes x rest is b-is None h e = absurd cc
from_func is_async b t bytes x rest is b-is (Some f) h e =
    let made : TypeDef × List ℕ = (types.Func f.0, f.1) in
    subst (λ (y : TypeDef × List ℕ). Took (type_def y.0) (b ∷ bytes) y.1) (some_is made (x, rest) e) (func_takes is_async bytes f.0 f.1 h (b ∷ bytes) t is (took_byte b t bytes b-is))

-- a function type after its byte
func_case : (is_async : Bool) (b t : ℕ) (bytes : List ℕ) (x : TypeDef) (rest : List ℕ) → t ≡ (if is_async then 0x43 else 0x40) → b ≡ t → made_at (λ f. types.Func f) (func_type_at is_async) bytes ≡ Some (x, rest) → Took (type_def x) (b ∷ bytes) rest
func_case is_async b t bytes x rest is b-is e =
    from_func is_async b t bytes x rest is b-is (func_type_at is_async bytes) refl e

resource_case : (b : ℕ) (bytes : List ℕ) (x : TypeDef) (rest : List ℕ) → b ≡ 0x3f → after_byte 0x7f (made_at (λ destructor. types.Resource destructor) (option_at number_at)) bytes ≡ Some (x, rest) → Took (type_def x) (b ∷ bytes) rest
resource_case b bytes x rest is e =
    let at : Reader TypeDef = made_at (λ destructor. types.Resource destructor) (option_at number_at) in
    let z = expect_step 0x7f bytes at (x, rest) e in
    after_takes (option_exact number_exact) type_def (λ d. types.Resource d) (octet 0x3f ⊕ octet 0x7f) (b ∷ bytes) z.0 (took_then (took_byte b 0x3f bytes is) z.1) (λ a. refl) x rest z.2

from_defined : (b : ℕ) (bytes : List ℕ) (x : TypeDef) (rest : List ℕ) (r : Read DefinedType) → defined_after b bytes ≡ r → ◌>>=◌ {B = TypeDef × List ℕ} r (λ t. Some (types.Defined t.0, t.1)) ≡ Some (x, rest) → Took (type_def x) (b ∷ bytes) rest
from_defined b bytes x rest None h e = absurd cc
from_defined b bytes x rest (Some t) h e =
    let made : TypeDef × List ℕ = (types.Defined t.0, t.1) in
    subst (λ (y : TypeDef × List ℕ). Took (type_def y.0) (b ∷ bytes) y.1) (some_is made (x, rest) e) (defined_takes b bytes t.0 t.1 h)

defined_case : (b : ℕ) (bytes : List ℕ) (x : TypeDef) (rest : List ℕ) → made_at (λ t. types.Defined t) (defined_after b) bytes ≡ Some (x, rest) → Took (type_def x) (b ∷ bytes) rest
defined_case b bytes x rest e = from_defined b bytes x rest (defined_after b bytes) refl e

pub type_takes : (bytes : List ℕ) (x : TypeDef) (rest : List ℕ) → tagged type_def_after bytes ≡ Some (x, rest) → Took (type_def x) bytes rest
unfolding type_def_after
type_takes [] x rest e = absurd cc
type_takes (b ∷ bytes) x rest e =
    tag_case b 0x40 _ _ (x, rest) e (func_case false b 0x40 bytes x rest refl) (λ e.
    tag_case b 0x43 _ _ (x, rest) e (func_case true b 0x43 bytes x rest refl) (λ e.
    tag_case b 0x3f _ _ (x, rest) e (resource_case b bytes x rest) (λ e.
    defined_case b bytes x rest e)))

func_by : (is_async : Bool) (params : List Field) (result : Option ComponentValType) (rest : List ℕ) → AllByRecursion IsField params → Optionally IsValueType result → Fits ((listed field params).counts ++ (function_result result).counts)
    → tagged type_def_after ((function_type (record { async_ = is_async; params = params; result = result })).bytes ++ rest) ≡ Some (types.Func (record { async_ = is_async; params = params; result = result }), rest)
unfolding type_def_after
func_by true params result rest v w fits = rw (func_again true params result rest v w fits) refl
func_by false params result rest v w fits = rw (func_again false params result rest v w fits) refl

type_again : (x : TypeDef) (rest : List ℕ) → IsTypeDef x → Fits (type_def x).counts → tagged type_def_after ((type_def x).bytes ++ rest) ≡ Some (x, rest)
unfolding type_def_after expect defined_after small_type_after primitive_after
type_again (types.Func f) rest w fits = func_by f.async_ f.params f.result rest w.0 w.1 fits
type_again (types.Resource destructor) rest w fits = made_again (option_exact number_exact) (λ d. types.Resource d) destructor rest w fits
type_again (types.Defined t) rest w fits =
    let h = first_of_tagged defined_after ((defined_type t).bytes ++ rest) (t, rest) (defined_again t rest w fits) in
    let a : eqb h.byte 0x40 ≡ false = other_byte defined_after h.byte 0x40 h.rest (t, rest) h.read refl in
    let b : eqb h.byte 0x43 ≡ false = other_byte defined_after h.byte 0x43 h.rest (t, rest) h.read refl in
    let c : eqb h.byte 0x3f ≡ false = other_byte defined_after h.byte 0x3f h.rest (t, rest) h.read refl in
    ap (tagged type_def_after) h.parts ∙ rw (a, b, c, h.read) refl

func_fine : (is_async : Bool) (bytes : List ℕ) (f : FuncTypeDef) (rest : List ℕ) → func_type_at is_async bytes ≡ Some (f, rest) → IsFuncType f
unfolding func_type_at
func_fine is_async bytes f rest e =
    let make : List Field × Option ComponentValType → FuncTypeDef = λ p. record { async_ = is_async; params = p.0; result = p.1 } in
    made_fine (then_exact (list_exact field_exact) result_exact) IsFuncType make (λ a w. w) bytes f rest e

type_fine : (bytes : List ℕ) (x : TypeDef) (rest : List ℕ) → tagged type_def_after bytes ≡ Some (x, rest) → IsTypeDef x
unfolding type_def_after
type_fine [] x rest e = absurd cc
type_fine (b ∷ bytes) x rest e =
    let resource : Reader TypeDef = made_at (λ destructor. types.Resource destructor) (option_at number_at) in
    tag_case b 0x40 _ _ (x, rest) e (λ is made. bind_fine IsFuncType IsTypeDef (λ f. types.Func f) (func_fine false) (λ a w. w) bytes x rest made) (λ e.
    tag_case b 0x43 _ _ (x, rest) e (λ is made. bind_fine IsFuncType IsTypeDef (λ f. types.Func f) (func_fine true) (λ a w. w) bytes x rest made) (λ e.
    tag_case b 0x3f _ _ (x, rest) e (λ is made.
    let z = expect_step 0x7f bytes resource (x, rest) made in
    made_fine (option_exact number_exact) IsTypeDef (λ d. types.Resource d) (λ a w. w) z.0 x rest z.2) (λ e.
    bind_fine IsDefinedType IsTypeDef (λ t. types.Defined t) (defined_fine b) (λ a w. w) bytes x rest e)))

pub type_exact : IsExact type_def IsTypeDef (tagged type_def_after)
type_exact = record { takes = type_takes; fine = type_fine; again = type_again }

-- ---- instance types

member_takes : (bytes : List ℕ) (x : Member) (rest : List ℕ) → member_at bytes ≡ Some (x, rest) → Took (member x) bytes rest
unfolding member_at
member_takes [] x rest e = absurd cc
member_takes (b ∷ bytes) x rest e =
    case type_exact member (λ t. members.Type t) b 0x01 bytes _ x rest (λ a. refl) e (λ e.
    case alias_exact member (λ t. members.Alias t) b 0x02 bytes _ x rest (λ a. refl) e (λ e.
    case (then_exact extern_name_exact description_exact) member (λ p. members.Export p.0 p.1) b 0x04 bytes _ x rest (λ a. refl) e (λ e.
    absurd cc)))

member_again : (x : Member) (rest : List ℕ) → IsMember x → Fits (member x).counts → member_at ((member x).bytes ++ rest) ≡ Some (x, rest)
unfolding member_at
member_again (members.Type t) rest w fits = made_again type_exact (λ t. members.Type t) t rest w fits
member_again (members.Alias a) rest w fits = made_again alias_exact (λ a. members.Alias a) a rest w fits
member_again (members.Export name description) rest w fits = made_again (then_exact extern_name_exact description_exact) (λ p. members.Export p.0 p.1) (name, description) rest w fits

member_fine : (bytes : List ℕ) (x : Member) (rest : List ℕ) → member_at bytes ≡ Some (x, rest) → IsMember x
unfolding member_at
member_fine [] x rest e = absurd cc
member_fine (b ∷ bytes) x rest e =
    fine_case type_exact IsMember (λ t. members.Type t) b 0x01 bytes _ x rest (λ a w. w) e (λ e.
    fine_case alias_exact IsMember (λ t. members.Alias t) b 0x02 bytes _ x rest (λ a w. w) e (λ e.
    fine_case (then_exact extern_name_exact description_exact) IsMember (λ p. members.Export p.0 p.1) b 0x04 bytes _ x rest (λ a w. w) e (λ e.
    absurd cc)))

pub member_exact : IsExact member IsMember member_at
member_exact = record { takes = member_takes; fine = member_fine; again = member_again }

-- an instance type, after its byte
pub instance_type_exact : IsExact (λ (t : InstanceType). listed member t.members) IsInstanceType instance_type_at
unfolding instance_type_at
instance_type_exact =
    let make : List Member → InstanceType = λ m. record { members = m } in
    made_exact (list_exact member_exact) make (λ t. t.members) (λ t. refl) (λ m. refl)
