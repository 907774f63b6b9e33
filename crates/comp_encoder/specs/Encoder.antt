-- What an encoder holds. The rules are this project's own: the component model's standard
-- defines components, and not how they are made.
use Rattle.std.specs.Prelude.{ℕ, List, [], Option, Some, None}
use Rattle.comp_imports.specs.Names.{naming_by}
use Rattle.comp_links.specs.Naming.{Naming}
use Rattle.world_values.specs.declared.gathered.Gathered.{Gathered}
use Rattle.world_values.specs.declared.gathered.Part.{Part}

-- the lower layer, what was gathered, and other names for imported interfaces by their names with the whole version
pub record Encoder (L B : Type 0) : Type 0 where
  pub lower : L
  pub gathered : Gathered B
  pub renamed : List (List ℕ × List ℕ)

-- how the names of imports and exports are made, and whether core modules have names for debuggers
abbrev pub naming : {L B : Type 0} → Encoder L B → Naming
naming e = naming_by e.gathered.options.emit_canonical_names e.renamed e.gathered.options.debug_names

-- the bytes of the main module, none where there is no module
abbrev pub main_bytes : {B : Type 0} → Option (Part B) → List ℕ
main_bytes None = []
main_bytes (Some part) = part.bytes
