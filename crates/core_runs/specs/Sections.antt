-- What the sections of a module hold, list by list.
-- Core standard, binary format: modules (the vectors of sections that come in order).
use Rattle.std.specs.Prelude.{List, [], ◌∷◌, ◌++◌, map, Some, None}
use Rattle.core_bytes.specs.declared.entry.Import.{Import}
use Rattle.core_bytes.specs.declared.section.Section.{Section}
use Rattle.core_bytes.specs.declared.section.Section.TheVariants as sections
use Rattle.core_runs.specs.Instances.{Parts}

abbrev pub no_parts : Parts
no_parts = record { types = []; imports = []; functions = []; tables = []; memories = []; globals = []; start = None; elements = []; bodies = []; segments = [] }

-- one more section in front
abbrev pub with_section : Section → Parts → Parts
with_section (sections.Types entries) m = record m { types = entries ++ m.types }
with_section (sections.Imports entries) m = record m { imports = map (λ (i : Import). i.entity) entries ++ m.imports }
with_section (sections.Functions entries) m = record m { functions = entries ++ m.functions }
with_section (sections.Tables entries) m = record m { tables = entries ++ m.tables }
with_section (sections.Memories entries) m = record m { memories = entries ++ m.memories }
with_section (sections.Globals entries) m = record m { globals = entries ++ m.globals }
with_section (sections.Exports entries) m = m
with_section (sections.Start function) m = record m { start = Some function }
with_section (sections.Elements entries) m = record m { elements = entries ++ m.elements }
with_section (sections.Code entries) m = record m { bodies = entries ++ m.bodies }
with_section (sections.Data entries) m = record m { segments = entries ++ m.segments }
with_section (sections.Names names) m = m

abbrev pub parts_of : List Section → Parts
parts_of [] = no_parts
parts_of (s ∷ ss) = with_section s (parts_of ss)
