use Rattle.std.proofs.Common.{◌≡◌, map, drop}
use Rattle.std.specs.Prelude.{is_some}
use Rattle.std.specs.List.{list_all}
use Rattle.core_parts.specs.Functions.{instructions_of}
use Rattle.adapter_fitting.proofs.checks.have_code.Given as goal

abbrev pub invariant-loop-body : goal.invariant-loop-body
invariant-loop-body l = list_all (λ b. is_some (instructions_of b)) (map (λ b. b.now) (drop l.body-index l.bodies)) ≡ list_all (λ b. is_some (instructions_of b)) (map (λ b. b.now) l.bodies)
