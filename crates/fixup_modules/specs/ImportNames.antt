-- When the names of two imports are the same: where both parts are. Core standard, structure: imports.
use Rattle.std.specs.Prelude.{Bool}
use Rattle.std.specs.Ordering.{on, eq_of_both}
use Rattle.std.specs.Str.{bytes_eq}
use Rattle.fixup_modules.specs.declared.import_name.ImportName.{ImportName}

abbrev pub is_same_name : ImportName → ImportName → Bool
is_same_name = eq_of_both (on (λ n. n.instance) bytes_eq) (on (λ n. n.field) bytes_eq)
