-- The types of core items that are encoded are read again, whatever follows.
use Rattle.std.proofs.Common.{◌≡◌, ℕ, List, ◌++◌, Bool, true, false, Option, Some, None, refl, ap}
use Rattle.std.specs.Prelude.{nat_eq, if◌then◌else◌}
use Rattle.byte_encoding.specs.Encoding.{flag}
use Rattle.byte_encoding.proofs.Readers.{Reader, Reads, read_then, made_from, made, pair_from, pair_reads, as_reads, tagged, skipped, number_from, number_reads, index_from, index_reads, list_from, list_reads}
use Rattle.core_types.specs.Grammar.{reference_type, value_type, function_type, limits, table_type, memory_type, global_type}
use Rattle.core_bytes.specs.Grammar.{entity_type}
use Rattle.core_types.specs.declared.types.RefType.{RefType}
use Rattle.core_types.specs.declared.types.RefType.TheVariants as references
use Rattle.core_types.specs.declared.types.ValType.{ValType}
use Rattle.core_types.specs.declared.types.ValType.TheVariants as values
use Rattle.core_types.specs.declared.types.FuncType.{FuncType}
use Rattle.core_types.specs.declared.types.GlobalType.{GlobalType}
use Rattle.core_types.specs.declared.types.TableType.{TableType}
use Rattle.core_types.specs.declared.types.MemoryType.{MemoryType}
use Rattle.core_bytes.specs.declared.entity.EntityType.{EntityType}
use Rattle.core_bytes.specs.declared.entity.EntityType.TheVariants as entities

-- ---- value types

abbrev reference_after : ℕ → Reader RefType
reference_after b bs =
    if nat_eq b 0x70 then Some (references.FuncRef, bs)
    else if nat_eq b 0x64 then made_from (λ index. references.Concrete index) index_from bs
    else None

unfoldable pub reference_from : Reader RefType
reference_from bs = tagged reference_after bs

reference_again : (t : RefType) (rest : List ℕ) → reference_from ((reference_type t).bytes ++ rest) ≡ Some (t, rest)
unfolding reference_from
reference_again references.FuncRef rest = refl
reference_again (references.Concrete index) rest = made index_reads (λ index. references.Concrete index) index rest

pub reference_reads : Reads reference_type reference_from
reference_reads = record { again = reference_again }

abbrev value_after : ℕ → Reader ValType
value_after b bs =
    if nat_eq b 0x7f then Some (values.I32, bs)
    else if nat_eq b 0x7e then Some (values.I64, bs)
    else if nat_eq b 0x7d then Some (values.F32, bs)
    else if nat_eq b 0x7c then Some (values.F64, bs)
    else made_from (λ t. values.Ref t) (reference_after b) bs

unfoldable pub value_from : Reader ValType
value_from bs = tagged value_after bs

value_again : (t : ValType) (rest : List ℕ) → value_from ((value_type t).bytes ++ rest) ≡ Some (t, rest)
unfolding value_from
value_again values.I32 rest = refl
value_again values.I64 rest = refl
value_again values.F32 rest = refl
value_again values.F64 rest = refl
value_again (values.Ref references.FuncRef) rest = refl
value_again (values.Ref (references.Concrete index)) rest =
    ap (λ o. read_then o (λ t more. Some (values.Ref t, more))) (made index_reads (λ index. references.Concrete index) index rest)

pub value_reads : Reads value_type value_from
value_reads = record { again = value_again }

-- ---- types of functions

abbrev signature : FuncType → List ValType × List ValType
signature f = (f.params, f.results)

abbrev function_of : List ValType × List ValType → FuncType
function_of p = record { params = p.0; results = p.1 }

unfoldable pub function_from : Reader FuncType
function_from bs = skipped (made_from function_of (pair_from (list_from value_from) (list_from value_from))) bs

function_again : (f : FuncType) (rest : List ℕ) → function_from ((function_type f).bytes ++ rest) ≡ Some (f, rest)
unfolding function_from
function_again f rest = made (pair_reads (list_reads value_reads) (list_reads value_reads)) function_of (signature f) rest

pub function_reads : Reads function_type function_from
function_reads = record { again = function_again }

-- ---- tables, memories and globals

abbrev Sizes : Type 0
Sizes = ℕ × Option ℕ

abbrev from_least : ℕ → Sizes
from_least n = (n, None)

abbrev within : ℕ × ℕ → Sizes
within p = (p.0, Some p.1)

abbrev limits_after : ℕ → Reader Sizes
limits_after b bs =
    if nat_eq b 0 then made_from from_least number_from bs
    else if nat_eq b 1 then made_from within (pair_from number_from number_from) bs
    else None

unfoldable pub limits_from : Reader Sizes
limits_from bs = tagged limits_after bs

limits_again : (minimum : ℕ) (maximum : Option ℕ) (rest : List ℕ) → limits_from ((limits minimum maximum).bytes ++ rest) ≡ Some ((minimum, maximum), rest)
unfolding limits_from
limits_again minimum None rest = made number_reads from_least minimum rest
limits_again minimum (Some maximum) rest = made (pair_reads number_reads number_reads) within (minimum, maximum) rest

pub limits_reads : Reads (λ (s : Sizes). limits s.0 s.1) limits_from
limits_reads = record { again = λ s rest. limits_again s.0 s.1 rest }

abbrev table_of : RefType × Sizes → TableType
table_of p = record { element_type = p.0; minimum = p.1.0; maximum = p.1.1 }

unfoldable pub table_from : Reader TableType
table_from bs = made_from table_of (pair_from reference_from limits_from) bs

pub table_reads : Reads table_type table_from
unfolding table_from
table_reads = as_reads (pair_reads reference_reads limits_reads) (λ (t : TableType). (t.element_type, (t.minimum, t.maximum))) table_of (λ t. refl)

abbrev memory_of : Sizes → MemoryType
memory_of s = record { minimum = s.0; maximum = s.1 }

unfoldable pub memory_from : Reader MemoryType
memory_from bs = made_from memory_of limits_from bs

pub memory_reads : Reads memory_type memory_from
unfolding memory_from
memory_reads = as_reads limits_reads (λ (m : MemoryType). (m.minimum, m.maximum)) memory_of (λ m. refl)

abbrev flag_after : ℕ → Reader Bool
flag_after b bs = if nat_eq b 0 then Some (false, bs) else if nat_eq b 1 then Some (true, bs) else None

unfoldable pub flag_from : Reader Bool
flag_from bs = tagged flag_after bs

flag_again : (b : Bool) (rest : List ℕ) → flag_from ((flag b).bytes ++ rest) ≡ Some (b, rest)
unfolding flag_from
flag_again false rest = refl
flag_again true rest = refl

flag_reads : Reads flag flag_from
flag_reads = record { again = flag_again }

abbrev global_of : ValType × Bool → GlobalType
global_of p = record { val_type = p.0; mutable = p.1 }

unfoldable pub global_type_from : Reader GlobalType
global_type_from bs = made_from global_of (pair_from value_from flag_from) bs

pub global_type_reads : Reads global_type global_type_from
unfolding global_type_from
global_type_reads = as_reads (pair_reads value_reads flag_reads) (λ (g : GlobalType). (g.val_type, g.mutable)) global_of (λ g. refl)

-- ---- what an import is

abbrev entity_after : ℕ → Reader EntityType
entity_after b bs =
    if nat_eq b 0 then made_from (λ i. entities.Function i) number_from bs
    else if nat_eq b 1 then made_from (λ t. entities.Table t) table_from bs
    else if nat_eq b 2 then made_from (λ m. entities.Memory m) memory_from bs
    else if nat_eq b 3 then made_from (λ g. entities.Global g) global_type_from bs
    else None

unfoldable pub entity_from : Reader EntityType
entity_from bs = tagged entity_after bs

entity_again : (e : EntityType) (rest : List ℕ) → entity_from ((entity_type e).bytes ++ rest) ≡ Some (e, rest)
unfolding entity_from
entity_again (entities.Function index) rest = made number_reads (λ i. entities.Function i) index rest
entity_again (entities.Table t) rest = made table_reads (λ t. entities.Table t) t rest
entity_again (entities.Memory m) rest = made memory_reads (λ m. entities.Memory m) m rest
entity_again (entities.Global g) rest = made global_type_reads (λ g. entities.Global g) g rest

pub entity_reads : Reads entity_type entity_from
entity_reads = record { again = entity_again }
