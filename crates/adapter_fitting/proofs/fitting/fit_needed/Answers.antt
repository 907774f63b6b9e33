use Rattle.std.specs.Global.{Vec}
use Rattle.std.proofs.Common.{◌≡◌, ℕ, List, ◌++◌, map, subst}
use Rattle.byte_encoding.specs.Encoding.{Fits}
use Rattle.byte_encoding.specs.Written.{Refused}
use Rattle.core_parts.specs.declared.exports.ExportedIndex.{ExportedIndex}
use Rattle.core_sections.specs.Sections.{view}
use Rattle.adapter_fitting.specs.Places.{placed_view, placed}
use Rattle.adapter_fitting.specs.Fitting.{stacked}
use Rattle.adapter_fitting.proofs.Chains.{fit_exits}
use Rattle.adapter_fitting.proofs.Steps.{no_exports, not_written, all_written}
use Rattle.adapter_fitting.proofs.fitting.fit_needed.Goals as goal

pub returns-in_err-exports : goal.returns-in_err-exports
returns-in_err-exports c =
    fit_exits (λ (v : Vec ℕ). v.items) _ _ _ c.from_residual.ensures.1
    (no_exports (λ (v : Vec ExportedIndex). v.items) (λ (v : Vec ℕ). v.items) _ c.args.end c.args.needed.indices (λ es. stacked es c.args.needed (map view c.args.sections.now)) (map placed_view c.args.located.now) (placed 8 (map view c.args.sections.now)) c.requires c.in_err-exports.ensures)

pub returns-in_err-put_stacked : goal.returns-in_err-put_stacked
returns-in_err-put_stacked c =
    fit_exits (λ (v : Vec ℕ). v.items) _ _ _ c.from_residual-in_err-put_stacked.ensures.1
    (not_written (λ (v : Vec ℕ). v.items) _ c.args.end c.args.needed.indices (λ es. stacked es c.args.needed (map view c.args.sections.now)) (map placed_view c.args.located.now) (placed 8 (map view c.args.sections.now)) c.in_ok-exports.exports.items c.requires c.in_ok-exports.ensures
    (subst (λ (es : List ExportedIndex). Refused (stacked es c.args.needed (map view c.args.sections.now)).counts c.in_err-put_stacked.field-0.0) c.deref.ensures.value c.in_err-put_stacked.ensures))

pub returns : goal.returns
returns c =
    all_written (λ (v : Vec ℕ). v.items) c.put_stacked.new.out c.new-out.result.items c.args.end c.args.needed.indices (λ es. stacked es c.args.needed (map view c.args.sections.now)) (map placed_view c.args.located.now) (placed 8 (map view c.args.sections.now)) c.in_ok-exports.exports.items c.requires c.in_ok-exports.ensures
    c.new-out.ensures.items (subst (λ (es : List ExportedIndex). (c.put_stacked.new.out.items ≡ c.new-out.result.items ++ (stacked es c.args.needed (map view c.args.sections.now)).bytes) × Fits (stacked es c.args.needed (map view c.args.sections.now)).counts)
    c.deref.ensures.value c.in_ok-put_stacked.ensures)
