use Rattle.std.proofs.Common.{◌≡◌, ◌++◌, drop}
use Rattle.std.specs.List.{flat_map}
use Rattle.record_import_roles.specs.Payloads.{met_in}
use Rattle.record_import_roles.proofs.payloads.met_in_params.Given as goal

abbrev pub invariant-loop-param : goal.invariant-loop-param
invariant-loop-param l = l.out ++ flat_map (λ p. met_in l.met p.nodes) (drop l.param-index l.params) ≡ flat_map (λ p. met_in l.met p.nodes) l.params
