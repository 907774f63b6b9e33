use Rattle.std.proofs.Common.{◌≡◌, map, drop}
use Rattle.std.specs.List.{list_any}
use Rattle.package_lower.specs.Reading.{is_binary}
use Rattle.package_lower.proofs.decoding.is_any_binary.Given as goal

abbrev pub invariant-loop-text : goal.invariant-loop-text
invariant-loop-text l = list_any is_binary (map (λ x. x.now) (drop l.text-index l.texts)) ≡ list_any is_binary (map (λ x. x.now) l.texts)
