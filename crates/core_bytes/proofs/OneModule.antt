-- Bytes encode at most one list of sections.
use Rattle.std.proofs.Common.{◌≡◌, ℕ, List, [], ◌∷◌, ◌++◌, Option, Some, refl, ap, ap₂, sym, ◌∙◌}
use Rattle.std.specs.Prelude.{nat_eq, if◌then◌else◌}
use Rattle.std.specs.List.{flat_map}
use Rattle.byte_encoding.proofs.Unique.{one_name}
use Rattle.byte_encoding.proofs.Readers.{number_from, number_reads, list_from, list_reads}
use Rattle.core_bytes.specs.Modules.{id_of, contents, section}
use Rattle.core_bytes.specs.Laws.{OneModule}
use Rattle.core_bytes.specs.declared.section.Section.{Section}
use Rattle.core_bytes.specs.declared.section.Section.TheVariants as sections
use Rattle.core_bytes.proofs.TypeReaders.{function_from, function_reads, table_from, table_reads, memory_from, memory_reads}
use Rattle.core_bytes.proofs.EntryReaders.{import_from, import_reads, global_from, global_reads, export_from, export_reads, element_from, element_reads, data_from, data_reads, entry_from, entry_reads}
use Rattle.core_bytes.proofs.NameReaders.{names_from, names_again}
use Rattle.core_bytes.proofs.WholeReaders.{ended, whole_from, whole}

-- a section, by its id and all that it holds
abbrev section_from : ℕ → List ℕ → Option Section
section_from id bs =
    if nat_eq id 0x01 then whole_from (λ xs. sections.Types xs) (list_from function_from) bs
    else if nat_eq id 0x02 then whole_from (λ xs. sections.Imports xs) (list_from import_from) bs
    else if nat_eq id 0x03 then whole_from (λ xs. sections.Functions xs) (list_from number_from) bs
    else if nat_eq id 0x04 then whole_from (λ xs. sections.Tables xs) (list_from table_from) bs
    else if nat_eq id 0x05 then whole_from (λ xs. sections.Memories xs) (list_from memory_from) bs
    else if nat_eq id 0x06 then whole_from (λ xs. sections.Globals xs) (list_from global_from) bs
    else if nat_eq id 0x07 then whole_from (λ xs. sections.Exports xs) (list_from export_from) bs
    else if nat_eq id 0x08 then whole_from (λ f. sections.Start f) number_from bs
    else if nat_eq id 0x09 then whole_from (λ xs. sections.Elements xs) (list_from element_from) bs
    else if nat_eq id 0x0a then whole_from (λ xs. sections.Code xs) (list_from entry_from) bs
    else if nat_eq id 0x0b then whole_from (λ xs. sections.Data xs) (list_from data_from) bs
    else ended (λ n. sections.Names n) (names_from bs)

section_again : (s : Section) → section_from (id_of s) (contents s).bytes ≡ Some s
section_again (sections.Types xs) = whole (list_reads function_reads) (λ xs. sections.Types xs) xs
section_again (sections.Imports xs) = whole (list_reads import_reads) (λ xs. sections.Imports xs) xs
section_again (sections.Functions xs) = whole (list_reads number_reads) (λ xs. sections.Functions xs) xs
section_again (sections.Tables xs) = whole (list_reads table_reads) (λ xs. sections.Tables xs) xs
section_again (sections.Memories xs) = whole (list_reads memory_reads) (λ xs. sections.Memories xs) xs
section_again (sections.Globals xs) = whole (list_reads global_reads) (λ xs. sections.Globals xs) xs
section_again (sections.Exports xs) = whole (list_reads export_reads) (λ xs. sections.Exports xs) xs
section_again (sections.Start f) = whole number_reads (λ f. sections.Start f) f
section_again (sections.Elements xs) = whole (list_reads element_reads) (λ xs. sections.Elements xs) xs
section_again (sections.Code xs) = whole (list_reads entry_reads) (λ xs. sections.Code xs) xs
section_again (sections.Data xs) = whole (list_reads data_reads) (λ xs. sections.Data xs) xs
section_again (sections.Names n) = ap (λ o. ended (λ n. sections.Names n) o) (names_again n)

head : (a b : ℕ) (x y : List ℕ) → a ∷ x ≡ b ∷ y → a ≡ b
head a b x y e = cc

tail : (a b : ℕ) (x y : List ℕ) → a ∷ x ≡ b ∷ y → x ≡ y
tail a b x y e = cc

section_one : (s t : Section) (u v : List ℕ) → (section s).bytes ++ u ≡ (section t).bytes ++ v → (s ≡ t) × (u ≡ v)
section_one s t u v e =
    let id : id_of s ≡ id_of t = head _ _ _ _ e in
    let held = one_name (contents s).bytes (contents t).bytes u v (tail _ _ _ _ e) in
    let same : ◌≡◌ {A = Option Section} (Some s) (Some t) = sym (section_again s) ∙ ap₂ section_from id held.0 ∙ section_again t in
    (cc, held.1)

sections_one : (a b : List Section) → flat_map (λ s. (section s).bytes) a ≡ flat_map (λ s. (section s).bytes) b → a ≡ b
sections_one [] [] e = refl
sections_one [] (t ∷ b) e = cc
sections_one (s ∷ a) [] e = cc
sections_one (s ∷ a) (t ∷ b) e =
    let r = section_one s t (flat_map (λ s. (section s).bytes) a) (flat_map (λ s. (section s).bytes) b) e in
    ap₂ (λ x xs. x ∷ xs) r.0 (sections_one a b r.1)

preamble_tail : (a b c d e f g h : ℕ) (x y : List ℕ) → a ∷ b ∷ c ∷ d ∷ e ∷ f ∷ g ∷ h ∷ x ≡ a ∷ b ∷ c ∷ d ∷ e ∷ f ∷ g ∷ h ∷ y → x ≡ y
preamble_tail a b c d e f g h x y p = cc

pub one_module : OneModule
one_module bytes a b p q = sections_one a b (preamble_tail _ _ _ _ _ _ _ _ _ _ (sym p.1 ∙ q.1))
