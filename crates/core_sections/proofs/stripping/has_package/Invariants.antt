use Rattle.std.proofs.Common.{◌≡◌, map, drop}
use Rattle.std.specs.List.{list_any}
use Rattle.core_sections.specs.Stripping.{is_package}
use Rattle.core_sections.proofs.stripping.has_package.Given as goal

abbrev pub invariant-loop-record : goal.invariant-loop-record
invariant-loop-record l = list_any is_package (map (λ x. x.now) (drop l.record-index l.records)) ≡ list_any is_package (map (λ x. x.now) l.records)
