-- The names under which a program imports interfaces: whether they are canonical, and a table of
-- other names (component model, explainer: `interfacename`, `canonversion`; binary format:
-- `versionsuffix`); and whether core modules have names for debuggers.
use Rattle.std.specs.Prelude.{ℕ, Bool, List}
use Rattle.comp_lists.specs.Found.{found}
use Rattle.comp_links.specs.Naming.{Naming}
use Rattle.comp_imports.specs.declared.import_names.ImportNames.{ImportNames}

-- names as two flags and a table say them
abbrev pub naming_by : Bool → List (List ℕ × List ℕ) → Bool → Naming
naming_by canonical renamed debug_names = record { canonical = canonical; renamed = λ text. found text renamed; debug_names = debug_names }

abbrev pub naming_of : ImportNames → Naming
naming_of names = naming_by names.canonical names.renamed.now names.debug_names
