-- The kinds of roles of core exports, by their names.
use Rattle.std.specs.Prelude.{ℕ, List, codes, Option, Some, None, option_map, if◌then◌else◌}
use Rattle.std.specs.Str.{bytes_eq}
use Rattle.record_values.specs.declared.roles.PlainExport.{PlainExport}
use Rattle.record_values.specs.declared.roles.PlainExport.TheVariants as plain
use Rattle.record_export_roles.specs.declared.kinds.ExportRoleKind.{ExportRoleKind}
use Rattle.record_export_roles.specs.declared.kinds.ExportRoleKind.TheVariants as export_kinds

-- exports with a role of their own
abbrev pub plain_from : List ℕ → Option PlainExport
plain_from name =
    if bytes_eq name (codes "memory") then Some plain.Memory
    else if bytes_eq name (codes "realloc") then Some plain.Realloc
    else if bytes_eq name (codes "import-realloc") then Some plain.ImportRealloc
    else if bytes_eq name (codes "export-realloc") then Some plain.ExportRealloc
    else if bytes_eq name (codes "adapter-realloc") then Some plain.AdapterRealloc
    else if bytes_eq name (codes "initialize") then Some plain.Initialize
    else if bytes_eq name (codes "task-hook") then Some plain.TaskHook
    else None

-- all exports
unfoldable pub export_from : List ℕ → Option ExportRoleKind
export_from name =
    if bytes_eq name (codes "world-func") then Some export_kinds.WorldFunc
    else if bytes_eq name (codes "interface-func") then Some export_kinds.InterfaceFunc
    else if bytes_eq name (codes "world-post-return") then Some export_kinds.WorldPostReturn
    else if bytes_eq name (codes "world-callback") then Some export_kinds.WorldCallback
    else if bytes_eq name (codes "interface-post-return") then Some export_kinds.InterfacePostReturn
    else if bytes_eq name (codes "interface-callback") then Some export_kinds.InterfaceCallback
    else if bytes_eq name (codes "dtor") then Some export_kinds.Destructor
    else option_map export_kinds.Plain (plain_from name)
