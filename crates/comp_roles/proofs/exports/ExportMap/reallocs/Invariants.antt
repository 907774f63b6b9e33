use Rattle.std.proofs.Common.{◌≡◌, ◌++◌, map}
use Rattle.comp_roles.specs.Reallocs.{realloc_names}
use Rattle.comp_roles.proofs.exports.ExportMap.reallocs.Given as goal

abbrev pub invariant-loop-name : goal.invariant-loop-name
invariant-loop-name l =
    goal.iterator-loop-name.can_next l.name-iterator ×
    goal.iterator-loop-name.is_finite l.name-iterator ×
    (map (λ n. n.now) l.names.items ++ realloc_names l.name-iterator ≡ realloc_names l.self.exports)
