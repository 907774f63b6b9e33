-- What is said of a world and of a module's core imports and exports, and the values where nothing is said.
use Rattle.std.specs.Prelude.{Bool, false, []}
use Rattle.std.specs.Ordering.{on, eq_of_both}
use Rattle.std.specs.Str.{bytes_eq}
use Rattle.record_values.specs.declared.world.Wit.{Wit}
use Rattle.record_values.specs.Names.{is_same_item}
use Rattle.record_merge.specs.declared.bindgen.FunctionOf.{FunctionOf}
use Rattle.record_merge.specs.declared.bindgen.Roles.{Roles}
use Rattle.record_merge.specs.declared.bindgen.Bindgen.{Bindgen}

-- functions are the same if they have one name and are of one import or export
abbrev pub is_same_function : FunctionOf → FunctionOf → Bool
is_same_function = eq_of_both (on (λ f. f.key) is_same_item) (on (λ f. f.function) bytes_eq)

abbrev pub no_wit : Wit
no_wit = record { interfaces = []; imports = []; exports = [] }

abbrev pub no_roles : Roles
no_roles = record { import_roles = []; export_roles = []; import_encodings = []; export_encodings = []; context_slot_1 = false }

abbrev pub nothing_said : Bindgen
nothing_said = record { wit = no_wit; roles = no_roles }
