-- Entries of sections that are encoded are read again, whatever follows.
use Rattle.std.proofs.Common.{◌≡◌, ℕ, ℤ, List, ◌++◌, Some, None, refl}
use Rattle.std.specs.Prelude.{nat_eq, if◌then◌else◌}
use Rattle.byte_encoding.proofs.Readers.{Reader, Reads, made_from, made, pair_from, pair_reads, as_reads, followed_from, followed_reads, tagged, skipped, number_from, number_reads, list_from, list_reads, name_from, name_reads}
use Rattle.comp_bytes.proofs.ValueReaders.{kind_from, kind_reads}
use Rattle.standard_kinds.specs.declared.kinds.ExportKind.{ExportKind}
use Rattle.core_bytes.specs.Grammar.{import_entry, defined_global, export_entry, element_segment, data_segment, code_entry, naming}
use Rattle.core_types.specs.declared.types.GlobalType.{GlobalType}
use Rattle.core_bytes.specs.declared.entity.EntityType.{EntityType}
use Rattle.core_bytes.specs.declared.entity.ConstExpr.{ConstExpr}
use Rattle.core_bytes.specs.declared.code.Body.{Body}
use Rattle.core_bytes.specs.declared.entry.Import.{Import}
use Rattle.core_bytes.specs.declared.entry.DefinedGlobal.{DefinedGlobal}
use Rattle.core_bytes.specs.declared.entry.Export.{Export}
use Rattle.core_bytes.specs.declared.entry.ElementSegment.{ElementSegment}
use Rattle.core_bytes.specs.declared.entry.ElementSegment.TheVariants as segments
use Rattle.core_bytes.specs.declared.entry.DataSegment.{DataSegment}
use Rattle.core_bytes.specs.declared.entry.Naming.{Naming}
use Rattle.core_bytes.proofs.TypeReaders.{entity_from, entity_reads, global_type_from, global_type_reads}
use Rattle.core_bytes.proofs.CodeReaders.{constant_from, constant_reads, offset_from, offset_reads, body_from, body_reads}
use Rattle.core_bytes.proofs.WholeReaders.{whole_from, whole, sized_from, sized_reads}

-- ---- imports, globals and exports

abbrev import_of : (List ℕ × List ℕ) × EntityType → Import
import_of p = record { module_name = p.0.0; field = p.0.1; entity = p.1 }

unfoldable pub import_from : Reader Import
import_from bs = made_from import_of (pair_from (pair_from name_from name_from) entity_from) bs

pub import_reads : Reads import_entry import_from
unfolding import_from
import_reads = as_reads (pair_reads (pair_reads name_reads name_reads) entity_reads) (λ (i : Import). ((i.module_name, i.field), i.entity)) import_of (λ i. refl)

abbrev global_of : GlobalType × ConstExpr → DefinedGlobal
global_of p = record { global_type = p.0; init = p.1 }

unfoldable pub global_from : Reader DefinedGlobal
global_from bs = made_from global_of (pair_from global_type_from constant_from) bs

pub global_reads : Reads defined_global global_from
unfolding global_from
global_reads = as_reads (pair_reads global_type_reads constant_reads) (λ (g : DefinedGlobal). (g.global_type, g.init)) global_of (λ g. refl)

abbrev export_of : (List ℕ × ExportKind) × ℕ → Export
export_of p = record { name = p.0.0; kind = p.0.1; index = p.1 }

unfoldable pub export_from : Reader Export
export_from bs = made_from export_of (pair_from (pair_from name_from kind_from) number_from) bs

pub export_reads : Reads export_entry export_from
unfolding export_from
export_reads = as_reads (pair_reads (pair_reads name_reads kind_reads) number_reads) (λ (e : Export). ((e.name, e.kind), e.index)) export_of (λ e. refl)

-- ---- segments

abbrev on_first : ℤ × List ℕ → ElementSegment
on_first p = segments.Active None p.0 p.1

abbrev on_table : (ℕ × ℤ) × List ℕ → ElementSegment
on_table p = segments.Active (Some p.0.0) p.0.1 p.1

abbrev element_after : ℕ → Reader ElementSegment
element_after b bs =
    if nat_eq b 0 then made_from on_first (pair_from offset_from (list_from number_from)) bs
    else if nat_eq b 2 then made_from on_table (pair_from (followed_from (pair_from number_from offset_from)) (list_from number_from)) bs
    else if nat_eq b 3 then skipped (made_from (λ fs. segments.Declared fs) (list_from number_from)) bs
    else None

unfoldable pub element_from : Reader ElementSegment
element_from bs = tagged element_after bs

element_again : (e : ElementSegment) (rest : List ℕ) → element_from ((element_segment e).bytes ++ rest) ≡ Some (e, rest)
unfolding element_from
element_again (segments.Active None offset functions) rest = made (pair_reads offset_reads (list_reads number_reads)) on_first (offset, functions) rest
element_again (segments.Active (Some table) offset functions) rest =
    made (pair_reads (followed_reads (pair_reads number_reads offset_reads) 0x00) (list_reads number_reads)) on_table ((table, offset), functions) rest
element_again (segments.Declared functions) rest = made (list_reads number_reads) (λ fs. segments.Declared fs) functions rest

pub element_reads : Reads element_segment element_from
element_reads = record { again = element_again }

abbrev data_of : ℤ × List ℕ → DataSegment
data_of p = record { offset = p.0; bytes = p.1 }

unfoldable pub data_from : Reader DataSegment
data_from bs = skipped (made_from data_of (pair_from offset_from name_from)) bs

data_again : (d : DataSegment) (rest : List ℕ) → data_from ((data_segment d).bytes ++ rest) ≡ Some (d, rest)
unfolding data_from
data_again d rest = made (pair_reads offset_reads name_reads) data_of (d.offset, d.bytes) rest

pub data_reads : Reads data_segment data_from
data_reads = record { again = data_again }

-- ---- bodies after their size, and names

unfoldable pub entry_from : Reader Body
entry_from bs = sized_from (whole_from (λ b. b) body_from) bs

pub entry_reads : Reads code_entry entry_from
unfolding entry_from
entry_reads = sized_reads (whole_from (λ b. b) body_from) (λ b. whole body_reads (λ b. b) b)

abbrev naming_of : ℕ × List ℕ → Naming
naming_of p = record { index = p.0; name = p.1 }

unfoldable pub naming_from : Reader Naming
naming_from bs = made_from naming_of (pair_from number_from name_from) bs

pub naming_reads : Reads naming naming_from
unfolding naming_from
naming_reads = as_reads (pair_reads number_reads name_reads) (λ (n : Naming). (n.index, n.name)) naming_of (λ n. refl)
