-- The result of the reader.
use Rattle.std.proofs.Common.{ℕ, List, sym, ◌∙◌}
use Rattle.std.specs.Prelude.{Result, Ok, Err, IfOk, IfErr}
use Rattle.package_syntax.specs.declared.fault.SyntaxFault.{SyntaxFault}
use Rattle.package_syntax.specs.declared.fault.SyntaxFault.TheVariants as faults
use Rattle.package_syntax.specs.declared.syntax.Section.{Section}
use Rattle.package_syntax.specs.Syntax.{Spells}
use Rattle.package_syntax.specs.Sections.{GivesAt, package_at}
use Rattle.package_syntax.specs.Causes.{IsRefusal}
use Rattle.package_syntax.proofs.SectionLoop.{err_ok}
use Rattle.package_syntax.proofs.Again.{read_again, spelled}

pub found : (bytes : List ℕ) (r : Result (List Section) SyntaxFault) → GivesAt (λ x. x) r (package_at bytes) → IfOk r (λ ss. Spells bytes ss)
found bytes (Ok ss) h = spelled bytes ss h
found bytes (Err e) h = tt

pub refused : (bytes : List ℕ) (r : Result (List Section) SyntaxFault) → GivesAt (λ x. x) r (package_at bytes) → IfErr r (λ e. IsRefusal bytes e)
refused bytes (Ok ss) h = tt
refused bytes (Err faults.Memory) h = tt
refused bytes (Err (faults.Refused f)) h = (λ ss w s. err_ok f ss (sym h ∙ read_again bytes ss w s), h)
