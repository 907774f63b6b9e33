-- A function as a role names it: when two names are the same.
use Rattle.std.specs.Prelude.{nat_eq, Bool}
use Rattle.std.specs.Bool.{beq}
use Rattle.std.specs.Option.{option_eq}
use Rattle.std.specs.Ordering.{on, eq_of_both}
use Rattle.std.specs.Str.{bytes_eq}
use Rattle.record_import_roles.specs.declared.met_world.FunctionName.{FunctionName}

abbrev pub is_same_function : FunctionName → FunctionName → Bool
is_same_function = eq_of_both (on (λ f. f.imported) beq) (eq_of_both (on (λ f. f.owner_index) (option_eq nat_eq)) (on (λ f. f.name) bytes_eq))
