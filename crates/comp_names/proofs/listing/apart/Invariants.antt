use Rattle.comp_names.proofs.Meeting.{AreMet}
use Rattle.comp_names.proofs.listing.apart.Given as goal

abbrev pub invariant-loop-entry : goal.invariant-loop-entry
invariant-loop-entry g l = AreMet g.L.Listing.listed l.entries l.entry-index l.met
