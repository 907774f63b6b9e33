use Rattle.std.proofs.Common.{◌≡◌, ◌+◌, ◌*◌, Some}
use Rattle.wit_data.specs.Parts.{height}
use Rattle.wit_data.specs.Values.{kind_at}
use Rattle.wit_data.specs.declared.types.Type.TheVariants.{Id}
use Rattle.wit_types.specs.Settings.{tree_in}
use Rattle.wit_types.specs.Order.{AddsParts}
use Rattle.wit_types.specs.Denoting.{Longer}
use Rattle.wit_types.specs.Maps.{Faithful}
use Rattle.wit_types.specs.Allowing.{IsDefinedHere}
use Rattle.wit_types.proofs.Parting.{PartsSoFar}
use Rattle.wit_types.proofs.encoding.+encoding.Given as goal

abbrev pub decreases-encode_type : goal.decreases-encode_type
decreases-encode_type g l = 4 * height (Some l.ty)

abbrev pub decreases-encode_id : goal.decreases-encode_id
decreases-encode_id g l = 4 * l.id.index + 3

abbrev pub decreases-encode_parts : goal.decreases-encode_parts
decreases-encode_parts g l = 4 * l.id.index + 2

abbrev pub decreases-encode_part : goal.decreases-encode_part
decreases-encode_part g l = 4 * l.id.index + 1

abbrev pub invariant-encode_parts-loop-n : goal.invariant-encode_parts-loop-n
invariant-encode_parts-loop-n g l =
    record {
      parts : PartsSoFar (g.E.ValtypeEncoder.setting l.fn.encoder) (g.E.ValtypeEncoder.scope l.encoder) l.given.items (kind_at l.types l.id.index) l.n;
      same : (g.E.ValtypeEncoder.setting l.encoder).types ≡ l.types;
      defined : IsDefinedHere (g.E.ValtypeEncoder.setting l.encoder) (kind_at l.types l.id.index);
      grows : Longer (g.E.ValtypeEncoder.scope l.fn.encoder) (g.E.ValtypeEncoder.scope l.encoder);
      adds : AddsParts (g.E.ValtypeEncoder.scope l.fn.encoder) (g.E.ValtypeEncoder.scope l.encoder) (tree_in (g.E.ValtypeEncoder.setting l.fn.encoder) (Some (Id l.id)));
      setting : g.E.ValtypeEncoder.setting l.encoder ≡ g.E.ValtypeEncoder.setting l.fn.encoder;
      faithful : Faithful (g.E.ValtypeEncoder.setting l.encoder) (g.E.ValtypeEncoder.scope l.encoder) (g.E.ValtypeEncoder.names l.encoder) (g.E.ValtypeEncoder.offers l.encoder) (g.E.ValtypeEncoder.maps l.encoder);
      follows : g.E.ValtypeEncoder.follows l.fn.encoder l.encoder;
    }
