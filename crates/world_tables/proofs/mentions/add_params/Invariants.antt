use Rattle.std.proofs.Common.{◌≡◌, ◌++◌, map, drop}
use Rattle.world_tables.proofs.mentions.add_params.Given as goal

abbrev pub invariant-loop-param : goal.invariant-loop-param
invariant-loop-param l = l.list.items ++ map (λ p. p.ty) (drop l.param-index l.params) ≡ l.fn.list.items ++ map (λ p. p.ty) l.params
