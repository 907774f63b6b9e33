-- The names of core exports and their roles (component model, build targets; Canonical ABI), in a world.
--
-- In the older form, where NAME is f for a function of the world and LABEL#f for one of an interface:
--   memory                                                           a memory
--   cabi_realloc, cabi_import_realloc, cabi_export_realloc, cabi_realloc_adapter
--   _initialize
--   NAME, [async-lift]NAME, [async-lift-stackful]NAME                the function
--   cabi_post_NAME                                                   its post-return
--   [callback][async-lift]NAME                                       its callback
--   LABEL#[dtor]r                                                    the destructor of the resource r
-- In the standard form, where the label of the world itself is empty:
--   cm32p2_memory                                                    a memory
--   cm32p2_realloc, cm32p2_initialize
--   cm32p2|LABEL|f, cm32p2|LABEL|f_post, cm32p2|LABEL|r_dtor
use Rattle.std.specs.Prelude.{ℕ, ◌==◌, List, length, codes, Bool, true, false, not, ◌&&◌, ◌||◌, Option, Some, None, is_some, if◌then◌else◌}
use Rattle.std.specs.Str.{bytes_eq}
use Rattle.comp_lists.specs.Splits.{split_once}
use Rattle.standard_kinds.specs.declared.kinds.ExportKind.{ExportKind}
use Rattle.standard_kinds.specs.declared.kinds.ExportKind.TheVariants as export_kinds
use Rattle.wit_data.specs.declared.functions.AbiVariant.TheVariants as abis
use Rattle.record_values.specs.declared.names.InterfaceName.{InterfaceName}
use Rattle.record_values.specs.declared.names.TypeName.{TypeName}
use Rattle.record_values.specs.declared.roles.ExportRole.{ExportRole}
use Rattle.record_values.specs.declared.roles.ExportRole.TheVariants as roles
use Rattle.record_values.specs.declared.roles.PlainExport.{PlainExport}
use Rattle.record_values.specs.declared.roles.PlainExport.TheVariants as plains
use Rattle.core_export_names.specs.declared.exports.Use.{Use}
use Rattle.core_export_names.specs.declared.exports.Use.TheVariants as uses
use Rattle.world_names.specs.declared.labels.Side.TheVariants as sides
use Rattle.name_parts.specs.declared.reading.Reading.{Reading}
use Rattle.name_parts.specs.declared.reading.Reading.TheVariants as readings
use Rattle.name_parts.specs.declared.reading.Refusal.TheVariants as refusals
use Rattle.world_names.specs.declared.scopes.Scope.{Scope}
use Rattle.world_names.specs.declared.tables.WorldNames.{WorldNames}
use Rattle.world_names.specs.Labels.{labelled, canonical_label}
use Rattle.name_parts.specs.Readings.{◌⊕◌}
use Rattle.world_names.specs.Scopes.{root, of_interface, has_function, is_own_resource}
use Rattle.name_parts.specs.Texts.{after, before}
use Rattle.world_names.specs.WorldNames.{owned}

-- ---- functions and resources of a scope of exports

abbrev pub use_role : Use → TypeName → ExportRole
use_role (uses.Called abi) t = roles.Function t.owner t.name abi
use_role uses.PostReturn t = roles.PostReturn t.owner t.name
use_role uses.Callback t = roles.Callback t.owner t.name
use_role uses.Destructor t = roles.Destructor t

-- whether a scope has what this is a use of, a function or a resource
abbrev pub is_used : WorldNames → Scope → Use → List ℕ → Bool
is_used n s (uses.Called abi) name = has_function n s name
is_used n s uses.PostReturn name = has_function n s name
is_used n s uses.Callback name = has_function n s name
is_used n s uses.Destructor name = is_own_resource n s name

abbrev pub used : WorldNames → Scope → Use → List ℕ → Reading ExportRole
used n s u name = if is_used n s u name then readings.Means (use_role u (owned s.owner name)) else readings.Nothing

abbrev pub used_if : WorldNames → Scope → Use → Option (List ℕ) → Reading ExportRole
used_if n s u None = readings.Nothing
used_if n s u (Some name) = used n s u name

abbrev pub as_plain : Option PlainExport → Reading ExportRole
as_plain None = readings.Nothing
as_plain (Some plain) = readings.Means (roles.Plain plain)

-- ---- the older form

abbrev pub older_plain : List ℕ → Option PlainExport
older_plain name =
    if bytes_eq name (codes "cabi_realloc") then Some plains.Realloc
    else if bytes_eq name (codes "cabi_import_realloc") then Some plains.ImportRealloc
    else if bytes_eq name (codes "cabi_export_realloc") then Some plains.ExportRealloc
    else if bytes_eq name (codes "cabi_realloc_adapter") then Some plains.AdapterRealloc
    else if bytes_eq name (codes "_initialize") then Some plains.Initialize
    else None

abbrev pub used_of : WorldNames → Use → Reading InterfaceName → List ℕ → Reading ExportRole
used_of n u readings.Nothing name = readings.Nothing
used_of n u (readings.Means i) name = used n (of_interface sides.Exported i) u name
used_of n u (readings.Refused r) name = readings.Refused r

abbrev pub used_split : WorldNames → Use → Option (List ℕ × List ℕ) → Reading ExportRole
used_split n u None = readings.Nothing
used_split n u (Some p) = used_of n u (labelled n sides.Exported p.0) p.1

-- f, or LABEL#f
unfoldable pub used_name : WorldNames → Use → List ℕ → Reading ExportRole
used_name n u name = used n (root sides.Exported) u name ⊕ used_split n u (split_once 35 name)

abbrev pub used_name_if : WorldNames → Use → Option (List ℕ) → Reading ExportRole
used_name_if n u None = readings.Nothing
used_name_if n u (Some name) = used_name n u name

-- LABEL#[dtor]r
abbrev pub destructor_of : WorldNames → List ℕ → Option (List ℕ) → Reading ExportRole
destructor_of n label None = readings.Nothing
destructor_of n label (Some r) = used_of n uses.Destructor (labelled n sides.Exported label) r

abbrev pub destructor : WorldNames → Option (List ℕ × List ℕ) → Reading ExportRole
destructor n None = readings.Nothing
destructor n (Some p) = destructor_of n p.0 (after (codes "[dtor]") p.1)

abbrev pub called_name : WorldNames → List ℕ → Reading ExportRole
called_name n name =
    used_name n (uses.Called abis.GuestExport) name
    ⊕ used_name_if n (uses.Called abis.GuestExportAsync) (after (codes "[async-lift]") name)
    ⊕ used_name_if n (uses.Called abis.GuestExportAsyncStackful) (after (codes "[async-lift-stackful]") name)

abbrev pub helper_name : WorldNames → List ℕ → Reading ExportRole
helper_name n name =
    used_name_if n uses.PostReturn (after (codes "cabi_post_") name)
    ⊕ used_name_if n uses.Callback (after (codes "[callback][async-lift]") name)
    ⊕ destructor n (split_once 35 name)

unfoldable pub older_function : WorldNames → List ℕ → Reading ExportRole
older_function n name = as_plain (older_plain name) ⊕ called_name n name ⊕ helper_name n name

-- ---- the standard form

abbrev pub standard_plain : List ℕ → Option PlainExport
standard_plain name =
    if bytes_eq name (codes "cm32p2_realloc") then Some plains.Realloc
    else if bytes_eq name (codes "cm32p2_initialize") then Some plains.Initialize
    else None

unfoldable pub standard_in : WorldNames → Scope → List ℕ → Reading ExportRole
standard_in n s name =
    used n s (uses.Called abis.GuestExport) name
    ⊕ used_if n s uses.PostReturn (before (codes "_post") name)
    ⊕ used_if n s uses.Destructor (before (codes "_dtor") name)

abbrev pub standard_of : WorldNames → Reading InterfaceName → List ℕ → Reading ExportRole
standard_of n readings.Nothing name = readings.Nothing
standard_of n (readings.Means i) name = standard_in n (of_interface sides.Exported i) name
standard_of n (readings.Refused r) name = readings.Refused r

abbrev pub standard_labelled : WorldNames → List ℕ → List ℕ → Reading ExportRole
standard_labelled n label name =
    if length label == 0 then standard_in n (root sides.Exported) name else standard_of n (canonical_label n sides.Exported label) name

abbrev pub standard_split : WorldNames → Option (List ℕ × List ℕ) → Reading ExportRole
standard_split n None = readings.Nothing
standard_split n (Some p) = standard_labelled n p.0 p.1

abbrev pub standard_if : WorldNames → Option (List ℕ) → Reading ExportRole
standard_if n None = readings.Nothing
standard_if n (Some text) = standard_split n (split_once 124 text)

abbrev pub standard_item : WorldNames → List ℕ → Reading ExportRole
standard_item n name = standard_if n (after (codes "cm32p2|") name)

unfoldable pub standard_function : WorldNames → List ℕ → Reading ExportRole
standard_function n name = as_plain (standard_plain name) ⊕ standard_item n name

-- ---- all of it

abbrev pub older_if : WorldNames → Bool → List ℕ → Reading ExportRole
older_if n true name = readings.Nothing
older_if n false name = older_function n name

abbrev pub memory_named : Bool → List ℕ → Reading ExportRole
memory_named rejects_older name = if bytes_eq name (codes "cm32p2_memory") || (not rejects_older && bytes_eq name (codes "memory"))
    then readings.Means (roles.Plain plains.Memory) else readings.Nothing

abbrev pub function_export : WorldNames → Bool → List ℕ → Reading ExportRole
function_export n rejects_older name = standard_function n name ⊕ older_if n rejects_older name

-- only functions and memories have roles
abbrev pub export_of_kind : WorldNames → Bool → ExportKind → List ℕ → Reading ExportRole
export_of_kind n rejects_older export_kinds.Func name = function_export n rejects_older name
export_of_kind n rejects_older export_kinds.Memory name = memory_named rejects_older name
export_of_kind n rejects_older export_kinds.Table name = readings.Nothing
export_of_kind n rejects_older export_kinds.Global name = readings.Nothing

-- the standard form for memories of 64 bits
unfoldable pub is_wide : List ℕ → Bool
is_wide name = is_some (after (codes "cm64p2|") name) || is_some (after (codes "cm64p2_") name)

unfoldable pub export_role : WorldNames → Bool → ExportKind → List ℕ → Reading ExportRole
export_role n rejects_older kind name = if is_wide name then readings.Refused refusals.WideMemory else export_of_kind n rejects_older kind name
