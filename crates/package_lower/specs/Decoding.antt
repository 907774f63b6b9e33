-- What a module says of its component. Its sections that describe one are records and packages,
-- whose worlds are merged. Where a package is among them, or where there are none, the names of
-- core imports and core exports give roles, by the merged world.
use Rattle.std.specs.Prelude.{◌≡◌, ⊤, ℕ, Bool, true, false, ◌||◌, List, [], ◌∷◌, Result, Ok, if◌then◌else◌}
use Rattle.std.specs.List.{list_any}
use Rattle.core_sections.specs.declared.core_module.CoreModule.{CoreModule}
use Rattle.core_sections.specs.Entries.{module_of}
use Rattle.gathered_worlds.specs.Equalities.{tests, role_tests}
use Rattle.record_merge.specs.declared.bindgen.Bindgen.{Bindgen}
use Rattle.record_merge.specs.declared.bindgen.Roles.{Roles}
use Rattle.record_merge.specs.ModuleRecords.{bindgen_of}
use Rattle.world_names.specs.declared.tables.WorldNames.{WorldNames}
use Rattle.world_names.specs.WorldNames.{names_of}
use Rattle.package_lower.specs.declared.fault.Failure.{Failure}
use Rattle.package_lower.specs.Faults.{◌>>=◌, lifted, read}
use Rattle.package_lower.specs.Sections.{divided, once_after}
use Rattle.package_lower.specs.Reading.{is_binary, records_after}
use Rattle.package_lower.specs.Roles.{imports_after, exports_after}

-- what texts say together
unfoldable pub said_in : List (List ℕ × ⊤) → Result Bindgen Failure
said_in texts = records_after [] texts >>= λ rs. read (bindgen_of tests role_tests rs)

abbrev pub is_empty : List (List ℕ) → Bool
is_empty [] = true
is_empty (t ∷ ts) = false

-- whether names give roles
abbrev pub names_count : List (List ℕ) → Bool
names_count texts = is_empty texts || list_any is_binary texts

unfoldable pub with_named : WorldNames → Bool → CoreModule → Roles → Result Roles Failure
with_named n rejects_older core roles =
    imports_after n rejects_older roles.import_roles core.imports >>= λ imports.
    exports_after n rejects_older roles.export_roles core.exports >>= λ exports.
    Ok (record {
      import_roles = imports;
      export_roles = exports;
      import_encodings = roles.import_encodings;
      export_encodings = roles.export_encodings;
      context_slot_1 = roles.context_slot_1;
    })

abbrev pub named : Bool → CoreModule → Bindgen → Result Bindgen Failure
named rejects_older core said = with_named (names_of said.wit) rejects_older core said.roles >>= λ roles. Ok (record { wit = said.wit; roles = roles })

unfoldable pub with_names : Bool → List ℕ → Bindgen → Result Bindgen Failure
with_names rejects_older bytes said = lifted (module_of bytes) >>= λ core. named rejects_older core said

-- what a module says whose sections hold these texts; equal ones count once
unfoldable pub said_of : Bool → List ℕ → List (List ℕ) → Result Bindgen Failure
said_of rejects_older bytes texts =
    said_in (once_after [] texts) >>= λ said.
    if names_count texts then with_names rejects_older bytes said else Ok said

-- a module without the sections that describe its component, and what it says of that
unfoldable pub decoding : Bool → List ℕ → Result (List ℕ × Bindgen) Failure
decoding rejects_older bytes = divided bytes >>= λ d. said_of rejects_older bytes d.1 >>= λ said. Ok (d.0, said)
