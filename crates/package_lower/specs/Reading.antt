-- What the sections that describe a component say. One that is binary is a WIT package; another one
-- is a record. A package says a world, and how its functions encode texts; the roles of core
-- imports and exports are in their names.
use Rattle.std.specs.Prelude.{⊤, ℕ, ◌==◌, ◌||◌, List, [], ◌∷◌, ◌++◌, length, codes, Bool, false, Option, Some, None, Result, Ok, Err, if◌then◌else◌}
use Rattle.package_syntax.specs.declared.fault.Reason.{Reason}
use Rattle.package_syntax.specs.declared.fault.Reason.TheVariants as reasons
use Rattle.record_faults.specs.declared.fault.Refusal.TheVariants as plain_refusals
use Rattle.record_values.specs.declared.record.Record.{Record}
use Rattle.records.specs.Records.{record_in}
use Rattle.wit_packages.specs.declared.fault.PackageFault.{PackageFault}
use Rattle.wit_packages.specs.declared.fault.PackageFault.TheVariants as package_faults
use Rattle.wit_packages.specs.declared.packages.Package.{Package}
use Rattle.wit_packages.specs.Packages.{package_of}
use Rattle.wit_packages.specs.Worlds.{Read}
use Rattle.package_lower.specs.declared.fault.Failure.{Failure}
use Rattle.package_lower.specs.declared.fault.Failure.TheVariants as failures
use Rattle.package_lower.specs.declared.fault.Refusal.TheVariants as refusals
use Rattle.package_lower.specs.Faults.{◌>>=◌, read}

-- a module or a component begins with 0, and a package of the form before components with 3
abbrev pub is_begin : ℕ → Bool
is_begin byte = byte == 0 || byte == 3

abbrev pub is_binary : List ℕ → Bool
is_binary [] = false
is_binary (byte ∷ bytes) = is_begin byte

-- the forms that are left out, by name
abbrev pub reason_left_out : Reason → Option (List ℕ)
reason_left_out reasons.OldForm = Some (codes "package-before-components")
reason_left_out reasons.FixedLengthList = Some (codes "fixed-length-list")
reason_left_out reasons.Map = Some (codes "map")
reason_left_out reason = None

abbrev pub left_out : PackageFault → Option (List ℕ)
left_out (package_faults.Syntax r) = reason_left_out r.reason
left_out fault = None

abbrev pub refusal_by : ℕ → PackageFault → Option (List ℕ) → Failure
refusal_by n fault (Some what) = failures.Refused (refusals.Plain (plain_refusals.LeftOut what))
refusal_by n fault None = failures.Refused (refusals.Package n fault)

abbrev pub refusal_of : ℕ → PackageFault → Failure
refusal_of n fault = refusal_by n fault (left_out fault)

abbrev pub record_of : Package → Record
record_of p = record { wit = p.wit; encoding = p.encoding; context_slot_1 = false; import_roles = []; export_roles = [] }

abbrev pub by_package : ℕ → Read Package → Result Record Failure
by_package n (Ok p) = Ok (record_of p)
by_package n (Err fault) = Err (refusal_of n fault)

abbrev pub of_package : ℕ → List ℕ → Result Record Failure
of_package n text = by_package n (package_of text)

abbrev pub of_text : ℕ → List ℕ → Result Record Failure
of_text n text = if is_binary text then of_package n text else read (record_in text)

-- what the sections so far say, and a further one
abbrev pub text_step : List Record → List ℕ → Result (List Record) Failure
text_step rs text = of_text (length rs) text >>= λ r. Ok (rs ++ r ∷ [])

abbrev pub records_after : List Record → List (List ℕ × ⊤) → Result (List Record) Failure
records_after rs [] = Ok rs
records_after rs (t ∷ ts) = text_step rs t.0 >>= λ us. records_after us ts
