use Rattle.std.proofs.Common.{◌≡◌, ◌++◌, map, drop}
use Rattle.core_sections.proofs.core_module.entities_of.Given as goal

abbrev pub invariant-loop-import : goal.invariant-loop-import
invariant-loop-import l = l.entities.items ++ map (λ i. i.entity) (drop l.import-index l.imports) ≡ map (λ i. i.entity) l.imports
