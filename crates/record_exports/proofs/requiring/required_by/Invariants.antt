use Rattle.std.proofs.Common.{◌≡◌, [], drop}
use Rattle.record_exports.specs.Functions.{known_by}
use Rattle.record_exports.specs.Requiring.{required_after}
use Rattle.record_exports.proofs.requiring.required_by.Given as goal

abbrev pub invariant-loop-key : goal.invariant-loop-key
invariant-loop-key l =
    required_after l.resolved (known_by l.functions) l.keys (drop l.key-index l.required) ≡ required_after l.resolved (known_by l.functions) [] l.required
