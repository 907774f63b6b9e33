-- When merging is refused: two of the merged things say different things of a name.
use Rattle.std.specs.Prelude.{◌≡◌, ◌≢◌, ℕ, Bool, true, List, [], ◌∷◌, ◌++◌, Some, is_some}
use Rattle.std.specs.List.{flat_map}
use Rattle.std.specs.Map.{lookup}
use Rattle.std.specs.Str.{bytes_eq}
use Rattle.comp_lists.specs.Tables.{with_first}
use Rattle.json_paths.specs.declared.fault.Failure.{Failure}
use Rattle.json_paths.specs.declared.fault.Failure.TheVariants as failures
use Rattle.record_values.specs.declared.record.Assigned.{Assigned}
use Rattle.record_values.specs.declared.record.ImportName.{ImportName}
use Rattle.record_values.specs.declared.record.Record.{Record}
use Rattle.record_values.specs.declared.roles.ImportRole.{ImportRole}
use Rattle.record_values.specs.declared.roles.ExportRole.{ExportRole}
use Rattle.record_values.specs.declared.world.Wit.{Wit}
use Rattle.record_values.specs.Names.{is_same_interface, is_same_item, is_same_import, name_text, key_text}
use Rattle.record_merge.specs.Tables.{conflict}
use Rattle.record_merge.specs.ModuleRecords.{without_abi}

-- a key of this text is in both tables, with different values
pub record Differs {K X : Type 0} (eq : K → K → Bool) (text : K → List ℕ) (a b : List (K × X)) (name : List ℕ) : Type 0 where
  pub key : K
  pub one : X
  pub other : X
  pub first : lookup (eq key) a ≡ Some one
  pub second : lookup (eq key) b ≡ Some other
  pub unequal : one ≢ other
  pub reported : text key ≡ name

-- a key of this text is in both tables
pub record IsInBoth {K X : Type 0} (eq : K → K → Bool) (text : K → List ℕ) (a b : List (K × X)) (name : List ℕ) : Type 0 where
  pub key : K
  pub first : is_some (lookup (eq key) a) ≡ true
  pub second : is_some (lookup (eq key) b) ≡ true
  pub reported : text key ≡ name

-- why two worlds can't be merged
pub data WorldConflict (a b : Wit) (name : List ℕ) : Type 0 where
  -- both have an interface of this name, and they differ
  interface_differs : Differs is_same_interface name_text a.interfaces b.interfaces name → WorldConflict a b name
  -- both have an import of this key, and they differ
  import_differs : Differs is_same_item key_text a.imports b.imports name → WorldConflict a b name
  -- both have an export of this key
  exported_twice : IsInBoth is_same_item key_text a.exports b.exports name → WorldConflict a b name

-- the failure names what is in conflict
pub record Named (cause : List ℕ → Type 0) (failure : Failure) : Type 0 where
  pub name : List ℕ
  pub is : failure ≡ conflict name
  pub why : cause name

-- the causes of a step that can also run out of memory
pub data Unless (cause : Failure → Type 0) (failure : Failure) : Type 0 where
  memory : failure ≡ failures.Memory → Unless cause failure
  caused : cause failure → Unless cause failure

-- the worlds of two of these records can't be merged
pub record TwoWorlds (records : List Record) (name : List ℕ) : Type 0 where
  pub before : List Record
  pub first : Record
  pub between : List Record
  pub second : Record
  pub after : List Record
  pub is : records ≡ before ++ first ∷ between ++ second ∷ after
  pub clash : WorldConflict first.wit second.wit name

-- two of these are of one core import or field, with two roles; this is the field of the later one
pub record TwoRoles {K R : Type 0} (eq : K → K → Bool) (field : K → List ℕ) (all : List (Assigned K R)) (name : List ℕ) : Type 0 where
  pub before : List (Assigned K R)
  pub first : Assigned K R
  pub between : List (Assigned K R)
  pub second : Assigned K R
  pub after : List (Assigned K R)
  pub is : all ≡ before ++ first ∷ between ++ second ∷ after
  pub same_key : eq second.key first.key ≡ true
  pub differ : first.role ≢ second.role
  pub reported : field second.key ≡ name

abbrev pub with_first_roles : List (List ℕ × ExportRole) → List (Assigned (List ℕ) ExportRole) → List (List ℕ × ExportRole)
with_first_roles table [] = table
with_first_roles table (a ∷ more) = with_first_roles (with_first bytes_eq table a.key a.role) more

-- the fields in the order in which they first occur, each with its first role
abbrev pub first_roles : List (Assigned (List ℕ) ExportRole) → List (List ℕ × ExportRole)
first_roles all = with_first_roles [] all

-- two of these fields have the same role, except for the form of calls; this is the later one
pub record TwoFields (fields : List (List ℕ × ExportRole)) (name : List ℕ) : Type 0 where
  pub before : List (List ℕ × ExportRole)
  pub first : List ℕ × ExportRole
  pub between : List (List ℕ × ExportRole)
  pub second : List ℕ × ExportRole
  pub after : List (List ℕ × ExportRole)
  pub is : fields ≡ before ++ first ∷ between ++ second ∷ after
  pub same_role : without_abi first.1 ≡ without_abi second.1
  pub reported : second.0 ≡ name

abbrev pub all_import_roles : List Record → List (Assigned ImportName ImportRole)
all_import_roles records = flat_map (λ r. r.import_roles) records

abbrev pub all_export_roles : List Record → List (Assigned (List ℕ) ExportRole)
all_export_roles records = flat_map (λ r. r.export_roles) records

-- why the records of one module contradict each other
pub data RecordsConflict (records : List Record) (name : List ℕ) : Type 0 where
  worlds : TwoWorlds records name → RecordsConflict records name
  -- a core import, or a field, has two roles
  import_roles : TwoRoles is_same_import (λ n. n.field) (all_import_roles records) name → RecordsConflict records name
  export_roles : TwoRoles bytes_eq (λ f. f) (all_export_roles records) name → RecordsConflict records name
  -- two fields have one role
  two_fields : TwoFields (first_roles (all_export_roles records)) name → RecordsConflict records name
