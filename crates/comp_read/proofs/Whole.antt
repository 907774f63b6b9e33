-- The result of the reader.
use Rattle.std.proofs.Common.{ℕ, List, sym, ◌∙◌}
use Rattle.std.specs.Prelude.{Result, Ok, Err, IfOk, IfErr}
use Rattle.comp_bytes.specs.Grammar.{Encodes}
use Rattle.comp_bytes.specs.declared.def.Def.{Def}
use Rattle.comp_read.specs.Causes.{IsRefusal}
use Rattle.comp_read.specs.declared.fault.ReadFault.{ReadFault}
use Rattle.comp_read.specs.declared.fault.ReadFault.TheVariants as reads
use Rattle.comp_read.specs.SectionReaders.{GivesAt, component_at, definition_contents_at}
use Rattle.comp_read.proofs.SectionLoop.{err_ok}
use Rattle.comp_read.proofs.SectionLaws.{encoded}
use Rattle.comp_read.proofs.Again.{again}
use Rattle.comp_read.proofs.Stopping.{fault_offset_is}

pub found : (bytes : List ℕ) (r : Result (List Def) ReadFault) → GivesAt (λ x. x) r (component_at definition_contents_at 0 0 bytes) → IfOk r (λ defs. Encodes bytes defs)
found bytes (Ok defs) h = encoded bytes defs h
found bytes (Err e) h = tt

pub refused : (bytes : List ℕ) (r : Result (List Def) ReadFault) → GivesAt (λ x. x) r (component_at definition_contents_at 0 0 bytes) → IfErr r (λ e. IsRefusal bytes e)
refused bytes (Ok defs) h = tt
refused bytes (Err reads.Memory) h = tt
refused bytes (Err (reads.Grammar offset)) h = (λ ds w s. err_ok offset ds (sym h ∙ again bytes ds w s), fault_offset_is bytes offset h)
