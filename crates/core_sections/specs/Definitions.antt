-- The encoding of the functions, tables, memories and globals that a core module defines (WebAssembly core
-- specification, binary format, "Function section" to "Global section").
use Rattle.std.specs.Prelude.{ℕ, ◌==◌, List, Option, Some, None, if◌then◌else◌}
use Rattle.core_sections.specs.Reading.{◌>>=◌}
use Rattle.core_sections.specs.Contents.{byte_at, table_at, global_at}
use Rattle.core_sections.specs.Constants.{after_constant}
use Rattle.core_sections.specs.declared.entries.EntityType.{EntityType}

-- an item, and then a constant expression
abbrev pub initialised : Option (EntityType × List ℕ) → Option (EntityType × List ℕ)
initialised read = do
  e ← read
  rest ← after_constant e.1
  Some (e.0, rest)

-- a table with an initial value for its elements, after the first of its two bytes
abbrev pub filled_table_at : List ℕ → Option (EntityType × List ℕ)
filled_table_at bytes = do
  b ← byte_at bytes
  if b.0 == 0 then initialised (table_at b.1) else None

unfoldable pub table_definition_at : List ℕ → Option (EntityType × List ℕ)
table_definition_at bytes = do
  b ← byte_at bytes
  if b.0 == 0x40 then filled_table_at b.1 else table_at bytes

abbrev pub global_definition_at : List ℕ → Option (EntityType × List ℕ)
global_definition_at bytes = initialised (global_at bytes)
