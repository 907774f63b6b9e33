-- Groups of core imports by module, and the position of the group of each module (core standard: an
-- import has a module's name and a field's).
use Rattle.std.specs.Prelude.{ℕ, ◌+◌, List, [], ◌∷◌, ◌++◌, map, is_some, Result, Ok, Err, if◌then◌else◌}
use Rattle.std.specs.Str.{bytes_eq}
use Rattle.comp_lists.specs.Found.{found}
use Rattle.core_sections.specs.declared.core_module.CoreModule.{CoreModule}
use Rattle.core_sections.specs.declared.entries.CoreImport.{CoreImport}
use Rattle.comp_roles.specs.declared.imports.Import.{Import}
use Rattle.comp_roles.specs.declared.imports.ImportInstance.{ImportInstance}
use Rattle.record_resolve.specs.declared.resolving.Resolved.{Resolved}
use Rattle.record_faults.specs.declared.fault.Failure.{Failure}
use Rattle.record_faults.specs.declared.fault.Failure.TheVariants as failures
use Rattle.record_faults.specs.declared.fault.Refusal.TheVariants as refusals
use Rattle.record_faults.specs.Faults.{◌>>=◌}
use Rattle.record_imports.specs.declared.grouping.Group.{Group}
use Rattle.record_imports.specs.declared.others.OtherModules.{OtherModules}
use Rattle.record_imports.specs.Arguments.{Arguments, argument_for, instance_given}
use Rattle.record_imports.specs.Meaning.{Roles, import_of}

-- each module's name with the number of its group, the first of which is i
abbrev pub positions_of : ℕ → List Group → List (List ℕ × ℕ)
positions_of i [] = []
positions_of i (g ∷ gs) = (g.name, i) ∷ positions_of (i + 1) gs

-- the fields of a module so far
abbrev pub fields_in : List Group → List ℕ → List (List ℕ × Import)
fields_in [] m = []
fields_in (g ∷ gs) m = if bytes_eq m g.name then g.fields else fields_in gs m

-- one field more: it is the last of its module's group, and a new module's group comes last
abbrev pub with_field : List Group → List ℕ → List ℕ → Import → List Group
with_field [] m f import = record { name = m; fields = (f, import) ∷ [] } ∷ []
with_field (g ∷ gs) m f import =
    if bytes_eq m g.name then record { name = g.name; fields = g.fields ++ (f, import) ∷ [] } ∷ gs else g ∷ with_field gs m f import

abbrev pub imported_twice : CoreImport → Failure
imported_twice i = failures.Refused (refusals.ImportTwice i.«module» i.field)

-- the groups with one core import more, which is new
unfoldable pub group_after : Resolved → OtherModules → Arguments → Roles → CoreModule → List Group → CoreImport → Result (List Group) Failure
group_after r others arguments table core groups i =
    if is_some (found i.field (fields_in groups i.«module»)) then Err (imported_twice i)
    else (import_of r others arguments table core i >>= λ import. Ok (with_field groups i.«module» i.field import))

-- the groups with all of these more
abbrev pub groups_after : Resolved → OtherModules → Arguments → Roles → CoreModule → List Group → List CoreImport → Result (List Group) Failure
groups_after r others arguments table core groups [] = Ok groups
groups_after r others arguments table core groups (i ∷ is) = group_after r others arguments table core groups i >>= λ gs. groups_after r others arguments table core gs is

abbrev pub names_of : List Group → List (List ℕ)
names_of gs = map (λ g. g.name) gs

-- the imports from each module, by the argument for it, if there is one
abbrev pub instances_of : Arguments → List Group → List (List ℕ × ImportInstance)
instances_of arguments gs = map (λ g. (g.name, instance_given (argument_for arguments g.name) g.fields)) gs
