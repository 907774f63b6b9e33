-- Imports and exports of a core module as look-ups borrow them. (No standard defines it.)
use Rattle.std.specs.Prelude.{ℕ, List, map, Option, option_map}
use denote.Ref.{Bor}
use Rattle.comp_roles.specs.CoreImports.{CoreImport}
use Rattle.comp_roles.specs.declared.imports.Import.{Import}
use Rattle.comp_roles.specs.declared.imports.NamedImport.{NamedImport}

-- an import as a look-up borrows it
abbrev pub core_import : NamedImport → CoreImport
core_import entry = record { module_name = entry.from.now; field = entry.field.now; role = entry.role.now }

-- the imports of these fields of a module
abbrev pub field_imports : List ℕ → List (List ℕ × Import) → List CoreImport
field_imports from fields = map (λ f. record { module_name = from; field = f.0; role = f.1 }) fields

-- a name with its value, as a look-up borrows it
abbrev pub lent_pair : {A X : Type 0} → Option (Bor A × X) → Option (A × X)
lent_pair answer = option_map (λ p. (p.0.now, p.1)) answer
