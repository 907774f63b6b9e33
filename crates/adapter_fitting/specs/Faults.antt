-- Why a module isn't fitted, and what a call that reads it returns. (This project's own.)
use Rattle.std.specs.Prelude.{◌≡◌, ◌≤◌, ◌^◌, ⊤, List, ℕ, Bool, Contains, Option, Some, None, Result, Ok, Err}
use Rattle.byte_encoding.specs.Encoding.{Encoding, Fits}
use Rattle.byte_encoding.specs.declared.fault.BuildFault.{BuildFault}
use Rattle.byte_encoding.specs.declared.fault.BuildFault.TheVariants as builds
use Rattle.core_sections.specs.declared.fault.SectionFault.{SectionFault}
use Rattle.core_sections.specs.declared.fault.SectionFault.TheVariants as sections
use Rattle.adapter_fitting.specs.declared.fault.Refusal.{Refusal}
use Rattle.adapter_fitting.specs.declared.fault.Refusal.TheVariants as refusals
use Rattle.adapter_fitting.specs.declared.fault.Stop.{Stop}
use Rattle.adapter_fitting.specs.declared.fault.Stop.TheVariants as stops
use Rattle.adapter_fitting.specs.declared.fault.FitFault.{FitFault}
use Rattle.adapter_fitting.specs.declared.fault.FitFault.TheVariants as faults

infixl 10 ◌>>=◌
abbrev pub ◌>>=◌ : {A B : Type 0} → Result A Refusal → (A → Result B Refusal) → Result B Refusal
(Ok x) >>= f = f x
(Err e) >>= f = Err e

-- what was read, or this refusal
abbrev pub or_refused : {A : Type 0} → Refusal → Option A → Result A Refusal
or_refused r None = Err r
or_refused r (Some x) = Ok x

-- What a call returned, seen by view, is what reading gives, unless memory ran out.
abbrev pub Gives : {X Y : Type 0} → (X → Y) → Result X Stop → Result Y Refusal → Type 0
Gives view (Ok x) read = read ≡ Ok (view x)
Gives view (Err stops.Memory) read = ⊤
Gives view (Err (stops.Refused r)) read = read ≡ Err r

abbrev pub of_section : SectionFault → Stop
of_section sections.Memory = stops.Memory
of_section sections.NotModule = stops.Refused refusals.NotModule
of_section (sections.Section place) = stops.Refused (refusals.Section place)
of_section sections.PackageBinary = stops.Refused refusals.NotModule

-- the result of reading sections
abbrev pub of_sections : {A : Type 0} → Result A SectionFault → Result A Refusal
of_sections (Ok x) = Ok x
of_sections (Err (sections.Section place)) = Err (refusals.Section place)
of_sections (Err sections.Memory) = Err refusals.NotModule
of_sections (Err sections.NotModule) = Err refusals.NotModule
of_sections (Err sections.PackageBinary) = Err refusals.NotModule

abbrev pub of_stop : Stop → FitFault
of_stop stops.Memory = faults.Memory
of_stop (stops.Refused r) = faults.Refused r

abbrev pub of_build : BuildFault → FitFault
of_build builds.Memory = faults.Memory
of_build (builds.TooMany n) = faults.TooMany n

-- A call that writes returned the bytes of this encoding, or nothing where there is nothing to
-- write; or it was refused for what reading refuses, or for a count, a size or an index of more
-- than 32 bits.
abbrev pub Fitted : {X : Type 0} → (X → List ℕ) → Result (Option X) FitFault → Result (Option Encoding) Refusal → Type 0
Fitted view (Ok None) read = read ≡ Ok None
Fitted view (Ok (Some x)) read = (e : Encoding) × (read ≡ Ok (Some e)) × (view x ≡ e.bytes) × Fits e.counts
Fitted view (Err faults.Memory) read = ⊤
Fitted view (Err (faults.TooMany n)) read = (e : Encoding) × (read ≡ Ok (Some e)) × (2 ^ 32 ≤ n) × Contains e.counts n
Fitted view (Err (faults.Refused r)) read = read ≡ Err r

-- What a call that answers a truth returned is what reading gives, unless memory ran out.
abbrev pub Told : Result Bool FitFault → Result Bool Refusal → Type 0
Told (Ok b) read = read ≡ Ok b
Told (Err faults.Memory) read = ⊤
Told (Err (faults.TooMany n)) read = ⊥
Told (Err (faults.Refused r)) read = read ≡ Err r
