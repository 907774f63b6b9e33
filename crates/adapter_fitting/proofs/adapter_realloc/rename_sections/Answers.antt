use Rattle.std.specs.Global.{Vec}
use Rattle.std.proofs.Common.{ℕ, Ok, Some, map, refl}
use Rattle.core_sections.specs.Sections.{view, pieces_of}
use Rattle.adapter_fitting.specs.Places.{placed}
use Rattle.adapter_fitting.specs.AdapterRealloc.{importing, renamed_if, new_name}
use Rattle.module_edits.specs.Renaming.{with_import_name}
use Rattle.adapter_fitting.proofs.Chains.{fit_exits, fit_written, fit_refused}
use Rattle.adapter_fitting.proofs.Steps.{stopped, nothing, something}
use Rattle.adapter_fitting.proofs.adapter_realloc.rename_sections.Goals as goal

pub returns-in_err-importing : goal.returns-in_err-importing
returns-in_err-importing c =
    fit_exits (λ (v : Vec ℕ). v.items) _ _ _ c.from_residual.ensures.1
    (stopped (λ o. o) (λ (v : Vec ℕ). v.items) _ (importing c.args.bytes.now) renamed_if (pieces_of c.args.bytes.now) (map view c.args.sections.now) (placed 8 (map view c.args.sections.now)) c.requires refl c.in_err-importing.ensures)

pub returns-in-None : goal.returns-in-None
returns-in-None c =
    nothing (λ (v : Vec ℕ). v.items) (importing c.args.bytes.now) renamed_if (pieces_of c.args.bytes.now) (map view c.args.sections.now) (placed 8 (map view c.args.sections.now)) c.requires refl
    (rw c.in-None.is at c.in_ok-importing.ensures) refl

pub returns-in_ok-out-in-Some : goal.returns-in_ok-out-in-Some
returns-in_ok-out-in-Some c =
    let ps = map view c.args.sections.now in
    something (λ (v : Vec ℕ). v.items) (Ok (Some c.in_ok-out-in-Some.out)) (importing c.args.bytes.now) renamed_if (pieces_of c.args.bytes.now) ps (placed 8 ps) c.in-Some.field-0 c.requires refl
    (rw c.in-Some.is at c.in_ok-importing.ensures)
    (fit_written (λ (v : Vec ℕ). v.items) c.in_ok-out-in-Some.out (with_import_name new_name ps) (Ok (Some (with_import_name new_name ps))) refl c.in_ok-out-in-Some.ensures.0 c.in_ok-out-in-Some.ensures.1)
