use Rattle.name_parts.proofs.reading.any_of_three.Goals as goal

pub returns : goal.returns
returns g c x y z f s t = c.either-2.ensures _ z (c.either.ensures x y f s) t
