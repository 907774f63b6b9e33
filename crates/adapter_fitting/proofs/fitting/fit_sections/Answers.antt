use Rattle.std.specs.Global.{Vec}
use Rattle.std.proofs.Common.{ℕ, map, length, refl, ◌∙◌, ap}
use Rattle.core_sections.specs.Sections.{view, pieces_of}
use Rattle.adapter_fitting.specs.Places.{placed_view}
use Rattle.adapter_fitting.specs.Fitting.{needed_in, fit_needed}
use Rattle.adapter_fitting.proofs.Chains.{fit_exits}
use Rattle.adapter_fitting.proofs.Steps.{stopped, nothing, something}
use Rattle.adapter_fitting.proofs.fitting.fit_sections.Goals as goal

pub returns-in_err-needed_in : goal.returns-in_err-needed_in
returns-in_err-needed_in c =
    fit_exits (λ (v : Vec ℕ). v.items) _ _ _ c.from_residual-in_err-needed_in.ensures.1
    (stopped (λ o. o) (λ (v : Vec ℕ). v.items) _ (needed_in c.args.bytes.now) (fit_needed (length c.args.bytes.now)) (pieces_of c.args.bytes.now) (map view c.args.sections.now) (map placed_view c.in_ok-placed.placed.items) c.requires c.in_ok-placed.ensures
    (rw c.deref.ensures.value at c.in_err-needed_in.ensures))

pub returns-in-None : goal.returns-in-None
returns-in-None c =
    nothing (λ (v : Vec ℕ). v.items) (needed_in c.args.bytes.now) (fit_needed (length c.args.bytes.now)) (pieces_of c.args.bytes.now) (map view c.args.sections.now) (map placed_view c.in_ok-placed.placed.items) c.requires c.in_ok-placed.ensures
    (rw (c.deref.ensures.value, c.in-None.is) at c.in_ok-needed_in.ensures) refl

pub returns : goal.returns
returns c =
    something (λ (v : Vec ℕ). v.items) _ (needed_in c.args.bytes.now) (fit_needed (length c.args.bytes.now)) (pieces_of c.args.bytes.now) (map view c.args.sections.now) (map placed_view c.in_ok-placed.placed.items) c.in-Some.needed c.requires c.in_ok-placed.ensures
    (rw (c.deref.ensures.value, c.in-Some.is) at c.in_ok-needed_in.ensures) c.fit_needed.ensures
