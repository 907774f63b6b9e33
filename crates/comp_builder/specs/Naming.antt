-- The custom section with the debug names, after the definitions of a component that is being built.
-- Component model, binary format: name section.
use Rattle.std.specs.Prelude.{◌≡◌, ◌==◌, [], ◌∷◌, ◌++◌, Result, Ok, Err, codes, length, if◌then◌else◌}
use Rattle.byte_encoding.specs.Encoding.{Fits}
use Rattle.comp_bytes.specs.DebugNames.{names_text}
use Rattle.byte_encoding.specs.Written.{Refused}
use Rattle.comp_bytes.specs.declared.def.Item.TheVariants as items
use Rattle.comp_bytes.specs.declared.def.Def.{Def}
use Rattle.comp_bytes.specs.declared.def.Def.TheVariants as defs
use Rattle.byte_encoding.specs.declared.fault.BuildFault.{BuildFault}
use Rattle.comp_builder.specs.Built.{Built}

abbrev pub names_section : Built → Def
names_section b = defs.Item (items.Custom (codes "component-name") (names_text b.names).bytes)

-- without any name no section is added
abbrev pub with_names : Built → Built
with_names b = if length b.names == 0 then b else record { defs = b.defs ++ names_section b ∷ []; names = b.names }

-- The result of the call that appends the section. An error changes nothing.
abbrev pub AddsNames : Built → Built → Result Unit BuildFault → Type 0
AddsNames old new (Ok u) = (new ≡ with_names old) × Fits (names_text old.names).counts
AddsNames old new (Err e) = (new ≡ old) × Refused (names_text old.names).counts e
