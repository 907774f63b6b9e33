-- Functions as a module names them: by the key of a world's item and the name of a function there
-- (component model: names of imports and exports).
use Rattle.std.specs.Prelude.{ℕ, Bool, List, Option}
use Rattle.std.specs.Map.{lookup}
use Rattle.std.specs.Ordering.{on, eq_of_both}
use Rattle.std.specs.Str.{bytes_eq}
use Rattle.wit_data.specs.Keys.{is_same_key}
use Rattle.wit_data.specs.declared.worlds.WorldKey.{WorldKey}
use Rattle.comp_roles.specs.declared.metadata.FunctionKey.{FunctionKey}

abbrev pub is_same_function : FunctionKey → FunctionKey → Bool
is_same_function = eq_of_both (on (λ f. f.key) is_same_key) (on (λ f. f.function) bytes_eq)

-- the value that a table has for a function
abbrev pub of_function : {X : Type 0} → WorldKey → List ℕ → List (FunctionKey × X) → Option X
of_function key function table = lookup (is_same_function (record { key = key; function = function })) table
