use Rattle.std.proofs.Common.{map}
use Rattle.core_sections.specs.Sections.{view, pieces_of}
use Rattle.adapter_fitting.specs.Places.{placed_view}
use Rattle.adapter_fitting.proofs.Chains.{told_exits}
use Rattle.adapter_fitting.proofs.Active.{active_stopped, active_told}
use Rattle.adapter_fitting.proofs.data.active_in.Goals as goal

pub returns-in_err-found : goal.returns-in_err-found
returns-in_err-found c =
    told_exits _ _ _ c.from_residual-in_err-found.ensures.1
    (active_stopped (λ b. b) _ (pieces_of c.args.bytes.now) (map view c.args.sections.now) (map placed_view c.in_ok-placed.placed.items) c.requires c.in_ok-placed.ensures (rw c.deref.ensures.value at c.in_err-found.ensures))

pub returns : goal.returns
returns c =
    active_told _ (pieces_of c.args.bytes.now) (map view c.args.sections.now) (map placed_view c.in_ok-placed.placed.items) c.requires c.in_ok-placed.ensures (rw c.deref.ensures.value at c.in_ok-found.ensures)
