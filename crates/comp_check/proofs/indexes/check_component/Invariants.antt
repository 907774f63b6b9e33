use Rattle.std.specs.Prelude.{[], ◌∷◌}
use Rattle.comp_bytes.specs.Spaces.{item_space}
use Rattle.comp_bytes.specs.Scopes.{ItemScoped}
use Rattle.comp_check.specs.Lacking.{counted}
use Rattle.comp_check.proofs.CheckedPrefix.{CheckedPrefix}
use Rattle.comp_check.proofs.indexes.check_component.Given as goal

abbrev pub invariant-loop-item_index : goal.invariant-loop-item_index
invariant-loop-item_index l = CheckedPrefix item_space (ItemScoped (counted l.top ∷ [])) l.own l.inner l.item_index
