use Rattle.std.proofs.Common.{List, Result, Ok, map, sym, ap, ◌∙◌}
use Rattle.core_sections.specs.declared.fault.SectionFault.{SectionFault}
use Rattle.core_sections.specs.declared.sections.Section.{Section}
use Rattle.core_sections.specs.Sections.{Piece, view}
use Rattle.core_sections.proofs.Modules.{module_takes}
use Rattle.package_lower.proofs.sections.divide.Goals as goal

-- the sections that were read
abbrev read : List Section → Result (List Piece) SectionFault
read sections = Ok (map view sections)

pub split_at_text-prefix-requires : goal.split_at_text-prefix-requires
split_at_text-prefix-requires c = (module_takes c.args.bytes.now (map view c.deref-2.result.now) (c.in_ok-sections.ensures ∙ ap read (sym c.deref-2.ensures.value))).encoded
