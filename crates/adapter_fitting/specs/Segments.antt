-- Whether a module has active data segments (WebAssembly core specification, binary format, "Data section").
use Rattle.std.specs.Prelude.{ℕ, Bool, true, false, List, [], ◌∷◌, Result, Ok, Err, if◌then◌else◌}
use Rattle.core_sections.specs.Sections.{pieces_of}
use Rattle.core_parts.specs.Segments.{is_active}
use Rattle.adapter_fitting.specs.declared.fault.Refusal.{Refusal}
use Rattle.adapter_fitting.specs.declared.fault.Refusal.TheVariants as refusals
use Rattle.adapter_fitting.specs.Faults.{◌>>=◌, or_refused, of_sections}
use Rattle.adapter_fitting.specs.Places.{Placed, placed, bytes_in, has_id}

-- whether a section has one: only one of data can
abbrev pub has_active : Placed → Result Bool Refusal
has_active s = if has_id 11 s.piece.body then or_refused (refusals.Data s.place) (is_active (bytes_in s.piece.body)) else Ok false

-- whether one of these sections has one: those after it are not read
abbrev pub one_has_active : List Placed → Result Bool Refusal
one_has_active [] = Ok false
one_has_active (s ∷ ss) = has_active s >>= λ here. if here then Ok true else one_has_active ss

-- none of them has one
abbrev pub no_data : List Placed → Result Unit Refusal
no_data ss = one_has_active ss >>= λ found. if found then Err refusals.ActiveData else Ok tt

-- Whether a module has one.
abbrev pub active_data : List ℕ → Result Bool Refusal
active_data bytes = of_sections (pieces_of bytes) >>= λ ps. one_has_active (placed 8 ps)
