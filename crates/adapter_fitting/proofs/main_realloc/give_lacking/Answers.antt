use Rattle.std.specs.Global.{Vec}
use Rattle.std.proofs.Common.{ℕ, map}
use Rattle.core_parts.specs.declared.exports.ExportedIndex.{ExportedIndex}
use Rattle.core_sections.specs.Sections.{view}
use Rattle.adapter_fitting.specs.Places.{placed_view, placed}
use Rattle.adapter_fitting.specs.MainRealloc.{with_realloc}
use Rattle.adapter_fitting.proofs.Chains.{fit_exits}
use Rattle.adapter_fitting.proofs.Steps.{no_exports, not_written, all_written}
use Rattle.adapter_fitting.proofs.main_realloc.give_lacking.Goals as goal

pub returns-in_err-exports_of : goal.returns-in_err-exports_of
returns-in_err-exports_of c =
    fit_exits (λ (v : Vec ℕ). v.items) _ _ _ c.from_residual.ensures.1
    (no_exports (λ (v : Vec ExportedIndex). v.items) (λ (v : Vec ℕ). v.items) _ c.args.end c.args.indices (λ es. with_realloc c.args.indices (map view c.args.sections.now)) (map placed_view c.args.located.now) (placed 8 (map view c.args.sections.now)) c.requires c.in_err-exports_of.ensures)

pub returns-in_err-put_with_realloc : goal.returns-in_err-put_with_realloc
returns-in_err-put_with_realloc c =
    fit_exits (λ (v : Vec ℕ). v.items) _ _ _ c.from_residual-in_err-put_with_realloc.ensures.1
    (not_written (λ (v : Vec ℕ). v.items) _ c.args.end c.args.indices (λ es. with_realloc c.args.indices (map view c.args.sections.now)) (map placed_view c.args.located.now) (placed 8 (map view c.args.sections.now)) _ c.requires c.in_ok-exports_of.ensures
    c.in_err-put_with_realloc.ensures)

pub returns : goal.returns
returns c =
    all_written (λ (v : Vec ℕ). v.items) c.put_with_realloc.new.out c.new-out.result.items c.args.end c.args.indices (λ es. with_realloc c.args.indices (map view c.args.sections.now)) (map placed_view c.args.located.now) (placed 8 (map view c.args.sections.now)) _ c.requires c.in_ok-exports_of.ensures
    c.new-out.ensures.items c.in_ok-put_with_realloc.ensures
