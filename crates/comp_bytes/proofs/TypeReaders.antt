-- Readers of type definitions, of aliases and of instance types.
use Rattle.std.proofs.Common.{◌≡◌, ℕ, List, [], ◌∷◌, ◌++◌, Bool, true, false, Option, Some, None, refl, ap, ◌∙◌}
use Rattle.std.specs.Prelude.{nat_eq, if◌then◌else◌}
use Rattle.byte_encoding.specs.Encoding.{◌⊕◌, octet, number, listed, named}
use Rattle.standard_kinds.specs.Bytes.{kind_byte}
use Rattle.comp_bytes.specs.Grammar.{export_byte, primitive_byte, defined_type, type_def, alias_bytes, member}
use Rattle.standard_kinds.specs.declared.kinds.ExportKind.{ExportKind}
use Rattle.comp_bytes.specs.declared.space.ComponentExportKind.{ComponentExportKind}
use Rattle.comp_bytes.specs.declared.space.ComponentExportKind.TheVariants as exports
use Rattle.comp_bytes.specs.declared.types.ComponentValType.{ComponentValType}
use Rattle.comp_bytes.specs.declared.types.Field.{Field}
use Rattle.comp_bytes.specs.declared.types.DefinedType.{DefinedType}
use Rattle.comp_bytes.specs.declared.types.DefinedType.TheVariants as defined
use Rattle.comp_bytes.specs.declared.types.TypeDef.{TypeDef}
use Rattle.comp_bytes.specs.declared.types.TypeDef.TheVariants as types
use Rattle.comp_bytes.specs.declared.types.Alias.{Alias}
use Rattle.comp_bytes.specs.declared.types.Alias.TheVariants as aliases
use Rattle.comp_bytes.specs.declared.types.Member.{Member}
use Rattle.comp_bytes.specs.declared.types.Member.TheVariants as members
use Rattle.comp_bytes.specs.declared.types.InstanceType.{InstanceType}
use Rattle.byte_encoding.proofs.Readers.{Reader, read_then, or_else, Reads, made_from, made, pair_from, pair_reads, as_reads, tagged, skipped, number_from, number_reads, list_from, list_reads, name_from, name_reads, option_from, option_reads}
use Rattle.comp_bytes.proofs.ValueReaders.{kind_from, kind_reads, export_from, export_reads, primitive_from, primitive_reads, value_from, value_reads, field_from, field_reads, case_from, case_reads, result_from, result_reads, extern_from, extern_reads, description_from, description_reads}

-- ---- types of values

abbrev defined_after : ℕ → Reader DefinedType
defined_after b bs =
    if nat_eq b 0x72 then made_from (λ fields. defined.Record fields) (list_from field_from) bs
    else if nat_eq b 0x71 then made_from (λ cases. defined.Variant cases) (list_from case_from) bs
    else if nat_eq b 0x70 then made_from (λ t. defined.List t) value_from bs
    else if nat_eq b 0x6f then made_from (λ ts. defined.Tuple ts) (list_from value_from) bs
    else if nat_eq b 0x6e then made_from (λ names. defined.Flags names) (list_from name_from) bs
    else if nat_eq b 0x6d then made_from (λ names. defined.Enum names) (list_from name_from) bs
    else if nat_eq b 0x6b then made_from (λ t. defined.Option t) value_from bs
    else if nat_eq b 0x6a then made_from (λ p. defined.Result p.0 p.1) (pair_from (option_from value_from) (option_from value_from)) bs
    else if nat_eq b 0x69 then made_from (λ n. defined.Own n) number_from bs
    else if nat_eq b 0x68 then made_from (λ n. defined.Borrow n) number_from bs
    else if nat_eq b 0x66 then made_from (λ t. defined.Stream t) (option_from value_from) bs
    else if nat_eq b 0x65 then made_from (λ t. defined.Future t) (option_from value_from) bs
    else None

-- a primitive type, or one that is made of others
unfoldable pub defined_from : Reader DefinedType
defined_from bs = or_else (made_from (λ p. defined.Primitive p) primitive_from bs) (tagged defined_after bs)

defined_again : (t : DefinedType) (rest : List ℕ) → defined_from ((defined_type t).bytes ++ rest) ≡ Some (t, rest)
unfolding defined_from primitive_from
defined_again (defined.Primitive p) rest = ap (λ o. or_else o (tagged defined_after (primitive_byte p ∷ rest))) (made primitive_reads (λ p. defined.Primitive p) p rest)
defined_again (defined.Record fields) rest = made (list_reads field_reads) (λ fields. defined.Record fields) fields rest
defined_again (defined.Variant cases) rest = made (list_reads case_reads) (λ cases. defined.Variant cases) cases rest
defined_again (defined.List t) rest = made value_reads (λ t. defined.List t) t rest
defined_again (defined.Tuple ts) rest = made (list_reads value_reads) (λ ts. defined.Tuple ts) ts rest
defined_again (defined.Flags names) rest = made (list_reads name_reads) (λ names. defined.Flags names) names rest
defined_again (defined.Enum names) rest = made (list_reads name_reads) (λ names. defined.Enum names) names rest
defined_again (defined.Option t) rest = made value_reads (λ t. defined.Option t) t rest
defined_again (defined.Result ok err) rest = made (pair_reads (option_reads value_reads) (option_reads value_reads)) (λ p. defined.Result p.0 p.1) (ok, err) rest
defined_again (defined.Own index) rest = made number_reads (λ n. defined.Own n) index rest
defined_again (defined.Borrow index) rest = made number_reads (λ n. defined.Borrow n) index rest
defined_again (defined.Stream t) rest = made (option_reads value_reads) (λ t. defined.Stream t) t rest
defined_again (defined.Future t) rest = made (option_reads value_reads) (λ t. defined.Future t) t rest

pub defined_reads : Reads defined_type defined_from
defined_reads = record { again = defined_again }

-- ---- type definitions

abbrev function_parts : Reader (List Field × Option ComponentValType)
function_parts = pair_from (list_from field_from) result_from

abbrev type_after : ℕ → Reader TypeDef
type_after b bs =
    if nat_eq b 0x40 then made_from (λ p. types.Func (record { async_ = false; params = p.0; result = p.1 })) function_parts bs
    else if nat_eq b 0x43 then made_from (λ p. types.Func (record { async_ = true; params = p.0; result = p.1 })) function_parts bs
    else if nat_eq b 0x3f then skipped (made_from (λ d. types.Resource d) (option_from number_from)) bs
    else None

-- a type of values, or another type
unfoldable pub type_from : Reader TypeDef
type_from bs = or_else (made_from (λ t. types.Defined t) defined_from bs) (tagged type_after bs)

function_again : (asynchronous : Bool) (params : List Field) (result : Option ComponentValType) (rest : List ℕ) → (let t = types.Func (record { async_ = asynchronous; params = params; result = result }) in type_from ((type_def t).bytes ++ rest) ≡ Some (t, rest))
unfolding type_from defined_from primitive_from
function_again false params result rest = made (pair_reads (list_reads field_reads) result_reads) (λ p. types.Func (record { async_ = false; params = p.0; result = p.1 })) (params, result) rest
function_again true params result rest = made (pair_reads (list_reads field_reads) result_reads) (λ p. types.Func (record { async_ = true; params = p.0; result = p.1 })) (params, result) rest

resource_again : (destructor : Option ℕ) (rest : List ℕ) → type_from ((type_def (types.Resource destructor)).bytes ++ rest) ≡ Some (types.Resource destructor, rest)
unfolding type_from defined_from primitive_from
resource_again destructor rest = made (option_reads number_reads) (λ d. types.Resource d) destructor rest

defined_type_again : (t : DefinedType) (rest : List ℕ) → type_from ((defined_type t).bytes ++ rest) ≡ Some (types.Defined t, rest)
unfolding type_from
defined_type_again t rest = ap (λ o. or_else o (tagged type_after ((defined_type t).bytes ++ rest))) (made defined_reads (λ t. types.Defined t) t rest)

type_again : (t : TypeDef) (rest : List ℕ) → type_from ((type_def t).bytes ++ rest) ≡ Some (t, rest)
type_again (types.Func f) rest = function_again f.async_ f.params f.result rest
type_again (types.Resource destructor) rest = resource_again destructor rest
type_again (types.Defined t) rest = defined_type_again t rest

pub type_reads : Reads type_def type_from
type_reads = record { again = type_again }

-- ---- aliases

-- after the first byte of an alias of an export, or of a type further out
abbrev export_alias_after : ℕ → ℕ → Reader Alias
export_alias_after b c bs =
    if nat_eq c 0x02 then made_from (λ p. aliases.Outer p.0 p.1) (pair_from number_from number_from) bs
    else read_then (export_from (b ∷ [])) (λ kind none. made_from (λ p. aliases.Export kind p.0 p.1) (pair_from number_from name_from) bs)

abbrev core_alias_from : Reader Alias
core_alias_from bs = read_then (kind_from bs) (λ kind rest. skipped (made_from (λ p. aliases.CoreExport kind p.0 p.1) (pair_from number_from name_from)) rest)

abbrev alias_after : ℕ → Reader Alias
alias_after b bs = if nat_eq b 0x00 then core_alias_from bs else tagged (export_alias_after b) bs

unfoldable pub alias_from : Reader Alias
alias_from bs = tagged alias_after bs

core_alias_again : (kind : ExportKind) (instance : ℕ) (name rest : List ℕ) → core_alias_from ((octet (kind_byte kind) ⊕ octet 0x01 ⊕ number instance ⊕ named name).bytes ++ rest) ≡ Some (aliases.CoreExport kind instance name, rest)
core_alias_again kind instance name rest =
    let bs = (number instance ⊕ named name).bytes ++ rest in
    ap (λ o. read_then o (λ kind rest. skipped (made_from (λ p. aliases.CoreExport kind p.0 p.1) (pair_from number_from name_from)) rest)) (kind_reads.again kind (0x01 ∷ bs))
    ∙ made (pair_reads number_reads name_reads) (λ p. aliases.CoreExport kind p.0 p.1) (instance, name) rest

export_alias_again : (kind : ComponentExportKind) (instance : ℕ) (name rest : List ℕ) → export_alias_after (export_byte kind) 0x00 ((number instance ⊕ named name).bytes ++ rest) ≡ Some (aliases.Export kind instance name, rest)
export_alias_again kind instance name rest =
    let bs = (number instance ⊕ named name).bytes ++ rest in
    ap (λ o. read_then o (λ kind none. made_from (λ p. aliases.Export kind p.0 p.1) (pair_from number_from name_from) bs)) (export_reads.again kind [])
    ∙ made (pair_reads number_reads name_reads) (λ p. aliases.Export kind p.0 p.1) (instance, name) rest

no_core : (kind : ComponentExportKind) → nat_eq (export_byte kind) 0x00 ≡ false
no_core exports.Func = refl
no_core exports.Type = refl
no_core exports.Component = refl
no_core exports.Instance = refl

alias_again : (a : Alias) (rest : List ℕ) → tagged alias_after ((alias_bytes a).bytes ++ rest) ≡ Some (a, rest)
alias_again (aliases.Export kind instance name) rest =
    let bs = (number instance ⊕ named name).bytes ++ rest in
    ap (λ b. if b then core_alias_from (0x00 ∷ bs) else export_alias_after (export_byte kind) 0x00 bs) (no_core kind)
    ∙ export_alias_again kind instance name rest
alias_again (aliases.CoreExport kind instance name) rest = core_alias_again kind instance name rest
alias_again (aliases.Outer count index) rest = made (pair_reads number_reads number_reads) (λ p. aliases.Outer p.0 p.1) (count, index) rest

pub alias_reads : Reads alias_bytes alias_from
unfolding alias_from
alias_reads = record { again = alias_again }

-- ---- instance types

abbrev member_after : ℕ → Reader Member
member_after b bs =
    if nat_eq b 0x01 then made_from (λ t. members.Type t) type_from bs
    else if nat_eq b 0x02 then made_from (λ a. members.Alias a) alias_from bs
    else made_from (λ p. members.Export p.0 p.1) (pair_from extern_from description_from) bs

unfoldable pub member_from : Reader Member
member_from bs = tagged member_after bs

member_again : (m : Member) (rest : List ℕ) → tagged member_after ((member m).bytes ++ rest) ≡ Some (m, rest)
member_again (members.Type t) rest = made type_reads (λ t. members.Type t) t rest
member_again (members.Alias a) rest = made alias_reads (λ a. members.Alias a) a rest
member_again (members.Export name description) rest = made (pair_reads extern_reads description_reads) (λ p. members.Export p.0 p.1) (name, description) rest

pub member_reads : Reads member member_from
unfolding member_from
member_reads = record { again = member_again }

-- after the first byte of an instance type
unfoldable pub instance_type_from : Reader InstanceType
instance_type_from bs = made_from (λ ms. record { members = ms }) (list_from member_from) bs

pub instance_type_reads : Reads (λ t. listed member t.members) instance_type_from
unfolding instance_type_from
instance_type_reads = as_reads (list_reads member_reads) (λ (t : InstanceType). t.members) (λ ms. record { members = ms }) (λ t. refl)
