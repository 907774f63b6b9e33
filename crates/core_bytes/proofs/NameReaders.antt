-- The names in a section that is encoded are read again, to the section's end.
use Rattle.std.proofs.Common.{◌≡◌, ℕ, List, [], ◌∷◌, ◌++◌, Option, Some, None, refl, ap, sym, ◌∙◌, append_assoc}
use Rattle.std.specs.Prelude.{nat_eq, if◌then◌else◌}
use Rattle.std.proofs.lemmas.List.{append-nil}
use Rattle.byte_encoding.specs.Encoding.{◌⊕◌, listed, named, sized}
use Rattle.byte_encoding.proofs.Readers.{Reader, Reads, read_then, made_from, made, pair_from, pair_reads, skipped, list_from, list_reads, name_from, name_reads}
use Rattle.core_bytes.specs.Grammar.{naming}
use Rattle.core_bytes.specs.Modules.{name_section, with_id, name_map, module_names}
use Rattle.core_bytes.specs.declared.entry.Naming.{Naming}
use Rattle.core_bytes.specs.declared.section.ModuleNames.{ModuleNames}
use Rattle.core_bytes.proofs.EntryReaders.{naming_from, naming_reads}
use Rattle.core_bytes.proofs.WholeReaders.{whole_from, whole, sized_from, sized_reads}

abbrev Namings : Type 0
Namings = List Naming

abbrev namings_from : Reader Namings
namings_from = sized_from (whole_from (λ ns. ns) (list_from naming_from))

namings_reads : Reads (λ (ns : Namings). sized (listed naming ns)) namings_from
namings_reads = sized_reads (whole_from (λ ns. ns) (list_from naming_from)) (λ ns. whole (list_reads naming_reads) (λ ns. ns) ns)

abbrev given : Namings → Option Namings
given ns = Some ns

-- a map of names of this id, where one comes next
abbrev map_from : ℕ → Reader (Option Namings)
map_from id [] = Some (None, [])
map_from id (b ∷ bs) = if nat_eq b id then made_from given namings_from bs else Some (None, b ∷ bs)

functions_again : (f g : Option Namings) → map_from 1 ((name_map 1 f).bytes ++ (name_map 7 g).bytes) ≡ Some (f, (name_map 7 g).bytes)
functions_again None None = refl
functions_again None (Some g) = refl
functions_again (Some f) g = made namings_reads given f (name_map 7 g).bytes

globals_again : (g : Option Namings) → map_from 7 (name_map 7 g).bytes ≡ Some (g, [])
globals_again None = refl
globals_again (Some g) = ap (λ l. map_from 7 l) (sym (append-nil (name_map 7 (Some g)).bytes)) ∙ made namings_reads given g []

-- the name of the section, and that of the module
abbrev own_from : Reader (List ℕ × List ℕ)
own_from = pair_from name_from (skipped (sized_from (whole_from (λ t. t) name_from)))

own_name : Reads (λ (t : List ℕ). sized (named t)) (sized_from (whole_from (λ t. t) name_from))
own_name = sized_reads (whole_from (λ t. t) name_from) (λ t. whole name_reads (λ t. t) t)

own_module : Reads (λ (t : List ℕ). with_id 0x00 (named t)) (skipped (sized_from (whole_from (λ t. t) name_from)))
own_module = record { again = λ t rest. own_name.again t rest }

own_reads : Reads (λ (p : List ℕ × List ℕ). named p.0 ⊕ with_id 0x00 (named p.1)) own_from
own_reads = pair_reads name_reads own_module

abbrev names_of : List ℕ → Option Namings → Option Namings → ModuleNames
names_of name f g = record { module_name = name; functions = f; globals = g }

abbrev maps_from : List ℕ → Reader ModuleNames
maps_from name bs = read_then (map_from 1 bs) (λ f more. read_then (map_from 7 more) (λ g left. Some (names_of name f g, left)))

unfoldable pub names_from : Reader ModuleNames
names_from bs = read_then (own_from bs) (λ p more. maps_from p.1 more)

pub names_again : (n : ModuleNames) → names_from (module_names n).bytes ≡ Some (n, [])
unfolding names_from
names_again n =
    let own = (named name_section ⊕ with_id 0x00 (named n.module_name)).bytes in
    let maps = (name_map 1 n.functions).bytes ++ (name_map 7 n.globals).bytes in
    ap (λ l. read_then (own_from l) (λ p more. maps_from p.1 more)) (append_assoc own (name_map 1 n.functions).bytes (name_map 7 n.globals).bytes)
    ∙ ap (λ o. read_then o (λ p more. maps_from p.1 more)) (own_reads.again (name_section, n.module_name) maps)
    ∙ ap (λ o. read_then o (λ f more. read_then (map_from 7 more) (λ g left. Some (names_of n.module_name f g, left)))) (functions_again n.functions n.globals)
    ∙ ap (λ o. read_then o (λ g left. Some (names_of n.module_name n.functions g, left))) (globals_again n.globals)
