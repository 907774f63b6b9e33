-- Lists of the streams and futures of functions, by the names that roles have for these.
use Rattle.std.specs.Prelude.{◌≡◌, ℕ, Bool, false, List, [], Option}
use Rattle.std.specs.Option.{option_map_or}
use Rattle.std.specs.List.{AllByRecursion, slice_get}
use Rattle.record_values.specs.declared.roles.PayloadKind.{PayloadKind}
use Rattle.record_sides.specs.Sides.{function_at}
use Rattle.record_sides.specs.declared.indexed.RecordWorld.{RecordWorld}
use Rattle.record_import_roles.specs.declared.met_world.FunctionName.{FunctionName}
use Rattle.record_import_roles.specs.ImportRoles.{side_of, is_kind}
use Rattle.record_import_roles.specs.Payloads.{Met, met_in_function}

-- a world, and what occurs in its named types
pub record WorldMet : Type 0 where
  pub world : RecordWorld
  pub types : Met

-- what occurs in a function, if the world has it
abbrev pub kinds_of : RecordWorld → Met → FunctionName → List PayloadKind
kinds_of w met f = option_map_or (met_in_function met) (function_at w (side_of f.imported) f.owner_index f.name) []

-- what a list, where there is one, has at this index is of this kind
abbrev pub is_among : PayloadKind → Option (List PayloadKind) → ℕ → Bool
is_among kind list index = option_map_or (λ ks. option_map_or (is_kind kind) (slice_get ks index) false) list false

-- each list is that of its function
abbrev pub AreListed : RecordWorld → Met → List (FunctionName × List PayloadKind) → Type 0
AreListed w met lists = AllByRecursion (λ e. e.1 ≡ kinds_of w met e.0) lists
