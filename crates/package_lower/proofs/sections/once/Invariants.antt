use Rattle.std.proofs.Common.{◌≡◌, [], map, drop}
use Rattle.package_lower.specs.Sections.{once_after}
use Rattle.package_lower.proofs.sections.once.Given as goal

abbrev pub invariant-loop-text : goal.invariant-loop-text
invariant-loop-text l = once_after l.table (map (λ x. x.now) (drop l.text-index l.texts)) ≡ once_after [] (map (λ x. x.now) l.texts)
