-- What a main module and its adapters are before they are encoded: an adapter that has a stack is
-- fitted, and main has the realloc that this takes. (This project's own.)
use Rattle.std.specs.Prelude.{◌≡◌, ◌≤◌, ◌^◌, ⊤, ℕ, Bool, true, false, ◌&&◌, ◌||◌, List, [], ◌∷◌, ◌++◌, Option, Some, None, Result, Ok, Err, if◌then◌else◌}
use Rattle.byte_encoding.specs.Encoding.{Encoding}
use Rattle.adapter_fitting.specs.Fitting.{fit}
use Rattle.adapter_fitting.specs.MainRealloc.{main_with_realloc}
use Rattle.adapter_fitting.specs.AdapterRealloc.{names_adapter_realloc, with_adapter_realloc}
use Rattle.adapter_fitting.specs.declared.fault.Refusal.{Refusal}
use Rattle.adapter_fitting.specs.declared.fault.Refusal.TheVariants as refusals
use Rattle.adapter_fitting.specs.declared.fault.FitFault.{FitFault}
use Rattle.adapter_fitting.specs.declared.fault.FitFault.TheVariants as fits
use Rattle.fitted_modules.specs.declared.changes.Outcome.{Outcome}
use Rattle.fitted_modules.specs.declared.fault.ModulesFault.{ModulesFault}
use Rattle.fitted_modules.specs.declared.fault.ModulesFault.TheVariants as faults
use Rattle.fitted_modules.specs.declared.modules.Modules.{Modules}
use Rattle.fitted_modules.specs.declared.modules.NamedModule.{NamedModule}

infixl 10 ◌>>=◌
abbrev pub ◌>>=◌ : {A B E : Type 0} → Result A E → (A → Result B E) → Result B E
(Ok x) >>= f = f x
(Err e) >>= f = Err e

-- ---- a module

-- What can't be read is left as it is: who reads all of it refuses it.
abbrev pub is_left : Refusal → Bool
is_left refusals.NotModule = true
is_left (refusals.Section place) = true
is_left r = false

-- a module after an edit, and whether that changed it
abbrev pub outcome_of : List ℕ → Result (Option Encoding) Refusal → Result Outcome Refusal
outcome_of bytes (Ok None) = Ok (record { bytes = bytes; is_new = false })
outcome_of bytes (Ok (Some e)) = Ok (record { bytes = e.bytes; is_new = true })
outcome_of bytes (Err r) = if is_left r then Ok (record { bytes = bytes; is_new = false }) else Err r

abbrev pub renamed : Bool → Outcome → Result Outcome Refusal
renamed renames o = if renames && o.is_new then outcome_of o.bytes (with_adapter_realloc o.bytes) else Ok o

-- an adapter with its stack, which imports main's realloc as `cabi_realloc_adapter` where `renames`
abbrev pub adapter_of : Bool → List ℕ → Result Outcome Refusal
adapter_of renames bytes = outcome_of bytes (fit bytes) >>= renamed renames

-- main with a realloc, where a stack takes one
abbrev pub main_of : Bool → List ℕ → Result Outcome Refusal
main_of wanted bytes = if wanted then outcome_of bytes (main_with_realloc bytes) else Ok (record { bytes = bytes; is_new = false })

-- whether the name of main's realloc is that for adapters; a main module that can't be read has none
abbrev pub told : Result Bool Refusal → Bool
told (Ok b) = b
told (Err r) = false

abbrev pub renames_for : List ℕ → Bool
renames_for main = told (names_adapter_realloc main)

-- ---- all of them

abbrev pub refused_adapter : List ℕ → Result Outcome Refusal → Result Outcome ModulesFault
refused_adapter name (Ok o) = Ok o
refused_adapter name (Err r) = Err (faults.Adapter name r)

abbrev pub refused_main : Result Outcome Refusal → Result (List ℕ) ModulesFault
refused_main (Ok o) = Ok o.bytes
refused_main (Err r) = Err (faults.Main r)

-- adapters in their order, and whether one of them has a stack
pub record Fitted : Type 0 where
  pub adapters : List NamedModule
  pub wanted : Bool

abbrev pub adapters_of : Bool → List NamedModule → Result Fitted ModulesFault
adapters_of renames [] = Ok (record { adapters = []; wanted = false })
adapters_of renames (a ∷ rest) =
    refused_adapter a.name (adapter_of renames a.bytes) >>= λ o.
    adapters_of renames rest >>= λ more.
    Ok (record { adapters = record { name = a.name; bytes = o.bytes } ∷ more.adapters; wanted = o.is_new || more.wanted })

abbrev pub with_main : List NamedModule → Result (List ℕ) ModulesFault → Result Modules ModulesFault
with_main adapters main = main >>= λ m. Ok (record { main = m; adapters = adapters })

-- A main module and its adapters: the first of these that is refused, or else main, is the fault.
abbrev pub fitted_modules : List ℕ → List NamedModule → Result Modules ModulesFault
fitted_modules main adapters = adapters_of (renames_for main) adapters >>= λ f. with_main f.adapters (refused_main (main_of f.wanted main))

-- ---- results of calls

abbrev pub main_fault : FitFault → ModulesFault
main_fault fits.Memory = faults.Memory
main_fault (fits.TooMany n) = faults.TooMany n
main_fault (fits.Refused r) = faults.Main r

abbrev pub adapter_fault : List ℕ → FitFault → ModulesFault
adapter_fault name fits.Memory = faults.Memory
adapter_fault name (fits.TooMany n) = faults.TooMany n
adapter_fault name (fits.Refused r) = faults.Adapter name r

-- What a call returned, seen by view, unless memory ran out or a count, a size or an index passes 32 bits.
abbrev pub Gives : {X Y : Type 0} → (X → Y) → Result X FitFault → Result Y Refusal → Type 0
Gives view (Ok x) read = read ≡ Ok (view x)
Gives view (Err fits.Memory) read = ⊤
Gives view (Err (fits.TooMany n)) read = 2 ^ 32 ≤ n
Gives view (Err (fits.Refused r)) read = read ≡ Err r

abbrev pub GivesAll : {X Y : Type 0} → (X → Y) → Result X ModulesFault → Result Y ModulesFault → Type 0
GivesAll view (Ok x) read = read ≡ Ok (view x)
GivesAll view (Err faults.Memory) read = ⊤
GivesAll view (Err (faults.TooMany n)) read = 2 ^ 32 ≤ n
GivesAll view (Err (faults.Main r)) read = read ≡ Err (faults.Main r)
GivesAll view (Err (faults.Adapter name r)) read = read ≡ Err (faults.Adapter name r)

abbrev pub fitted_view : List NamedModule × Bool → Fitted
fitted_view p = record { adapters = p.0; wanted = p.1 }

-- An adapter was added behind others; the result is whether it has a stack.
abbrev pub AddsFitted : List NamedModule → List NamedModule → Bool → NamedModule → Result Bool ModulesFault → Type 0
AddsFitted old new renames a (Ok is_new) =
    (o : Outcome) × (refused_adapter a.name (adapter_of renames a.bytes) ≡ Ok o) × (new ≡ old ++ record { name = a.name; bytes = o.bytes } ∷ []) × (is_new ≡ o.is_new)
AddsFitted old new renames a (Err f) = GivesAll {X = Outcome} (λ o. o) (Err f) (refused_adapter a.name (adapter_of renames a.bytes))
