-- Tables of the streams and futures that roles name, by function and number.
use Rattle.std.specs.Prelude.{◌≡◌, ℕ, nat_eq, List, [], ◌∷◌, Option}
use Rattle.std.specs.List.{AllByRecursion, slice_get}
use Rattle.std.specs.Map.{lookup}
use Rattle.std.specs.Option.{option_and_then, option_map_or}
use Rattle.wit_data.specs.declared.functions.Function.{Function}
use Rattle.wit_data.specs.declared.ids.TypeId.{TypeId}
use Rattle.record_values.specs.declared.record.ImportName.{ImportName}
use Rattle.record_values.specs.declared.roles.ImportRole.{ImportRole}
use Rattle.record_values.specs.declared.roles.ImportRole.TheVariants as roles
use Rattle.record_values.specs.declared.roles.Payload.{Payload}
use Rattle.record_values.specs.declared.roles.Payload.TheVariants as payloads
use Rattle.record_resolve.specs.declared.resolving.Resolved.{Resolved}
use Rattle.record_role_targets.specs.Payloads.{met_in_function, side_of}
use Rattle.record_role_targets.specs.Positions.{position_of, function_at}
use Rattle.record_role_targets.specs.Walks.{FindsNumbers}
use Rattle.record_role_targets.specs.Wanted.{NamedFunction, named_function, is_same_function, Functions}

-- the function of this name in the resolved world
abbrev pub function_named : Resolved → NamedFunction → Option Function
function_named r f = option_and_then (λ p. function_at (side_of f.imported) r p f.name) (position_of (side_of f.imported) r f.owner f.name)

-- the streams and futures that occur in it
abbrev pub types_met : Resolved → NamedFunction → List TypeId
types_met r f = option_map_or (met_in_function r.resolve.types) (function_named r f) []

-- functions, each with some of its streams and futures by their numbers
abbrev pub Tables : Type 0
Tables = List (NamedFunction × List (ℕ × TypeId))

-- a table for each function, with all that is wanted of it
abbrev pub AreTables : Resolved → Functions → Tables → Type 0
AreTables r [] [] = Unit {0}
AreTables r (f ∷ fs) (t ∷ ts) = (t.0 ≡ f.0) × FindsNumbers (types_met r f.0) f.1 t.1 × AreTables r fs ts
AreTables r fs ts = ⊥

-- what the tables have under a function and a number
abbrev pub type_known : Tables → NamedFunction → ℕ → Option TypeId
type_known ts f n = option_and_then (lookup (nat_eq n)) (lookup (is_same_function f) ts)

-- the tables have the stream or future of a role as the world has it
abbrev pub IsPayloadKnown : Resolved → Tables → Payload → Type 0
IsPayloadKnown r ts payloads.Unit = Unit {0}
IsPayloadKnown r ts (payloads.Met imported owner function n) =
    type_known ts (named_function imported owner function) n ≡ slice_get (types_met r (named_function imported owner function)) n

abbrev pub IsKnown : Resolved → Tables → ImportRole → Type 0
IsKnown r ts (roles.Payload kind operation payload is_async) = IsPayloadKnown r ts payload
IsKnown r ts role = Unit {0}

abbrev pub AreKnown : Resolved → Tables → List (ImportName × ImportRole) → Type 0
AreKnown r ts table = AllByRecursion (λ e. IsKnown r ts e.1) table
