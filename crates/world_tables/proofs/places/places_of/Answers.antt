use Rattle.std.proofs.Common.{arith, ◌∙◌, ◌==◌, ◌≤◌, ap, refl, length}
use Rattle.world_tables.specs.Placing.{passes_at, is_place}
use Rattle.world_tables.proofs.Placing.{placed_more}
use Rattle.world_tables.proofs.Walking.{whole}
use Rattle.world_tables.proofs.places.places_of.Goals as goal

pub loop-place-preserved : goal.loop-place-preserved
loop-place-preserved c = λ n q.
    placed_more c.args.ids.now c.loop-place.place n q _ _ (is_place c.loop-place.places n q) (is_place c.add_place.new.places n q) c.loop-place-test.true refl
    (c.loop-place.invariant n q) (c.in_ok-add_place.ensures n q)

pub returns : goal.returns
returns c =
    let past : length c.args.ids.now ≤ c.loop-place.place = omega (arith, c.loop-place-test.false) in
    record { each = λ n q. c.loop-place.invariant n q ∙ ap (λ ids. passes_at (λ id. n == id.index) ids q) (whole c.args.ids.now c.loop-place.place past) }
