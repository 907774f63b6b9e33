-- The streams and futures that roles name: of each function, those of some numbers.
use Rattle.std.specs.Prelude.{◌≡◌, ℕ, ◌≤◌, nat_eq, Bool, true, List, [], ◌∷◌, Option, Some, None, is_some}
use Rattle.std.specs.Bool.{beq}
use Rattle.std.specs.List.{AllByRecursion}
use Rattle.std.specs.Map.{lookup}
use Rattle.std.specs.Ordering.{on, eq_of_both}
use Rattle.std.specs.Str.{bytes_eq}
use Rattle.record_values.specs.Names.{owner_kind, owner_text}
use Rattle.record_values.specs.declared.names.Owner.{Owner}
use Rattle.record_values.specs.declared.record.ImportName.{ImportName}
use Rattle.record_values.specs.declared.roles.ImportRole.{ImportRole}
use Rattle.record_values.specs.declared.roles.ImportRole.TheVariants as roles
use Rattle.record_values.specs.declared.roles.Payload.{Payload}
use Rattle.record_values.specs.declared.roles.Payload.TheVariants as payloads
use Rattle.record_role_targets.specs.declared.wanted.Wanted.{Wanted}

-- ---- functions

-- a function as a role names it: of the world's imports or of its exports, by its owner and its name
pub record NamedFunction : Type 0 where
  pub imported : Bool
  pub owner : Owner
  pub name : List ℕ

abbrev pub is_same_function : NamedFunction → NamedFunction → Bool
is_same_function = eq_of_both (eq_of_both (on (λ f. f.imported) beq) (eq_of_both (on (λ f. owner_kind f.owner) nat_eq) (on (λ f. owner_text f.owner) bytes_eq))) (on (λ f. f.name) bytes_eq)

abbrev pub named_function : Bool → Owner → List ℕ → NamedFunction
named_function imported owner name = record { imported = imported; owner = owner; name = name }

-- functions, each with what is wanted of it
abbrev pub Functions : Type 0
Functions = List (NamedFunction × Wanted)

-- ---- the numbers that are wanted

abbrev pub has_number : Wanted → ℕ → Bool
has_number w n = is_some (lookup (nat_eq n) w.numbers)

pub record IsNumber (w : Wanted) (n : ℕ) : Type 0 where
  pub below : n ≤ w.last
  pub listed : has_number w n ≡ true

-- one number more
pub record AddsNumber (old new : Wanted) (n : ℕ) : Type 0 where
  pub added : IsNumber new n
  pub kept : (m : ℕ) → IsNumber old m → IsNumber new m

-- what is wanted of a function of which nothing is known
abbrev pub nothing : Wanted
nothing = record { last = 0; numbers = [] }

abbrev pub wanted_if : Option Wanted → Wanted
wanted_if None = nothing
wanted_if (Some w) = w

-- the stream or future of this number in this function is wanted
pub record HasNumber (functions : Functions) (f : NamedFunction) (n : ℕ) : Type 0 where
  pub wanted : Wanted
  pub named : lookup (is_same_function f) functions ≡ Some wanted
  pub number : IsNumber wanted n

pub record Keeps (old new : Functions) : Type 0 where
  pub kept : (f : NamedFunction) (n : ℕ) → HasNumber old f n → HasNumber new f n

-- ---- roles

abbrev pub IsPayloadWanted : Functions → Payload → Type 0
IsPayloadWanted functions payloads.Unit = Unit {0}
IsPayloadWanted functions (payloads.Met imported owner function n) = HasNumber functions (named_function imported owner function) n

abbrev pub IsWanted : Functions → ImportRole → Type 0
IsWanted functions (roles.Payload kind operation payload is_async) = IsPayloadWanted functions payload
IsWanted functions role = Unit {0}

-- the streams and futures of all of these roles are wanted
abbrev pub AreWanted : Functions → List (ImportName × ImportRole) → Type 0
AreWanted functions table = AllByRecursion (λ e. IsWanted functions e.1) table
