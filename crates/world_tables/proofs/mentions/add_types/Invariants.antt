use Rattle.std.proofs.Common.{◌≡◌, ◌++◌, map}
use Rattle.wit_data.specs.declared.types.Type.TheVariants.{Id}
use Rattle.world_tables.proofs.mentions.add_types.Given as goal

abbrev pub invariant-loop-id : goal.invariant-loop-id
invariant-loop-id l =
    goal.iterator-loop-id.can_next l.id-iterator ×
    goal.iterator-loop-id.is_finite l.id-iterator ×
    (l.list.items ++ map (λ t. Id t.1) l.id-iterator ≡ l.fn.list.items ++ map (λ t. Id t.1) l.types)
