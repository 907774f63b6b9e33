use Rattle.std.proofs.Common.{◌≡◌}
use Rattle.std.specs.List.{IsDistinct}
use Rattle.std.specs.Map.{keys_of}
use Rattle.std.specs.Str.{bytes_eq}
use Rattle.comp_roles.specs.Lookups.{first_some}
use Rattle.supported_worlds.specs.LeftOut.{import_left_out}
use Rattle.supported_worlds.proofs.roles.fields_left_out.Given as goal

abbrev pub invariant-loop-role : goal.invariant-loop-role
invariant-loop-role l =
    goal.iterator-loop-role.can_next l.role-iterator ×
    goal.iterator-loop-role.is_finite l.role-iterator ×
    (first_some (λ f. import_left_out l.types l.places.types l.places.interfaces.root f.1) l.role-iterator ≡ first_some (λ f. import_left_out l.types l.places.types l.places.interfaces.root f.1) l.fields) ×
    IsDistinct bytes_eq (keys_of l.fields)
