use Rattle.std.proofs.Common.{◌≡◌, Some}
use Rattle.std.specs.List.{AllByRecursion}
use Rattle.wit_types.specs.Denoting.{Longer}
use Rattle.wit_types.specs.Maps.{Faithful}
use Rattle.wit_types.specs.Allowing.{MayEncode}
use Rattle.wit_types.proofs.Calling.{FieldsSoFar}
use Rattle.wit_types.proofs.Ordering.{EncodedSoFar}
use Rattle.wit_types.proofs.functions.encode_params.Given as goal

abbrev pub invariant-loop-n : goal.invariant-loop-n
invariant-loop-n g l =
    record {
      fields : FieldsSoFar (g.E.ValtypeEncoder.setting l.fn.encoder) (g.E.ValtypeEncoder.scope l.encoder) l.fields l.params l.n;
      encoded : EncodedSoFar (g.E.ValtypeEncoder.setting l.fn.encoder) (g.E.ValtypeEncoder.scope l.fn.encoder) (g.E.ValtypeEncoder.scope l.encoder) l.params l.n;
      same : (g.E.ValtypeEncoder.setting l.encoder).types ≡ l.types;
      params : AllByRecursion (λ p. MayEncode (g.E.ValtypeEncoder.setting l.encoder) l.types (Some p.ty)) l.params;
      grows : Longer (g.E.ValtypeEncoder.scope l.fn.encoder) (g.E.ValtypeEncoder.scope l.encoder);
      setting : g.E.ValtypeEncoder.setting l.encoder ≡ g.E.ValtypeEncoder.setting l.fn.encoder;
      faithful : Faithful (g.E.ValtypeEncoder.setting l.encoder) (g.E.ValtypeEncoder.scope l.encoder) (g.E.ValtypeEncoder.names l.encoder) (g.E.ValtypeEncoder.offers l.encoder) (g.E.ValtypeEncoder.maps l.encoder);
      follows : g.E.ValtypeEncoder.follows l.fn.encoder l.encoder;
    }
