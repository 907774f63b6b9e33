-- A module whose component is described by a record in one custom section. (Core standard, binary
-- format: custom section. The section's name is that of the component model's tools.)
use Rattle.std.specs.Prelude.{◌≡◌, ◌≤◌, ◌^◌, ℕ, Bool, false, List, ◌++◌, codes}
use Rattle.byte_encoding.specs.declared.fault.BuildFault.{BuildFault}
use Rattle.byte_encoding.specs.declared.fault.BuildFault.TheVariants as build_faults
use Rattle.byte_encoding.specs.Encoding.{Encoding, ◌⊕◌, raw, octet, named, sized}
use Rattle.record_merge.specs.declared.bindgen.Bindgen.{Bindgen}
use Rattle.package_lower.specs.Causes.{DecodeCause}
use Rattle.package_lower.specs.Layer.{decoded}
use Rattle.record_texts.specs.Records.{IsTextOf, record_data, encoding_of, encodings_of, has_one_encoding}
use Rattle.recorded_modules.specs.declared.fault.RecordingFault.{RecordingFault}
use Rattle.recorded_modules.specs.declared.fault.RecordingFault.TheVariants as faults

-- the fault of a section that can't be written
abbrev pub build_fault : BuildFault → RecordingFault
build_fault build_faults.Memory = faults.Memory
build_fault (build_faults.TooMany n) = faults.TooMany n

-- a custom section of this name and these contents
abbrev pub custom_section : List ℕ → List ℕ → Encoding
custom_section name contents = octet 0 ⊕ sized (named name ⊕ raw contents)

-- a module of what is left and the record of what was said
pub record IsRecordedFrom (left : List ℕ) (said : Bindgen) (recorded : List ℕ) : Type 0 where
  pub text : List ℕ
  pub is_text : IsTextOf text (record_data said (encoding_of (encodings_of said.roles)))
  pub bytes : recorded ≡ left ++ (custom_section (codes "component-type") text).bytes

-- A module has its record behind what is left without the sections that describe its component. By
-- `rejects_older`, names of the older form have no role.
abbrev pub IsRecorded : Bool → List ℕ → List ℕ → Type 0
IsRecorded rejects_older given recorded = IsRecordedFrom (decoded rejects_older given).0 (decoded rejects_older given).1 recorded

-- why a record is not written: no memory, several string encodings, or a size that passes 32 bits
abbrev pub IsSizeFault : RecordingFault → Type 0
IsSizeFault faults.Memory = Unit {0}
IsSizeFault (faults.TooMany n) = 2 ^ 32 ≤ n
IsSizeFault f = ⊥

abbrev pub IsRecordFault : Bindgen → RecordingFault → Type 0
IsRecordFault said faults.SeveralEncodings = has_one_encoding said.roles ≡ false
IsRecordFault said f = IsSizeFault f

-- Why there is no such module: what describes its component can't be read, or its record is not
-- written.
abbrev pub RecordingCause : Bool → List ℕ → RecordingFault → Type 0
RecordingCause rejects_older given (faults.Decode f) = DecodeCause rejects_older given f
RecordingCause rejects_older given f = IsRecordFault (decoded rejects_older given).1 f
