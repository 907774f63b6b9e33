-- Index spaces, and which definition makes an item of which.
-- Component model, binary format: index spaces.
use Rattle.std.specs.Prelude.{ℕ, ◌==◌, Bool, false, List, Option, Some, None, count_by}
use Rattle.standard_kinds.specs.declared.kinds.ExportKind.{ExportKind}
use Rattle.standard_kinds.specs.declared.kinds.ExportKind.TheVariants as kinds
use Rattle.comp_bytes.specs.declared.space.ComponentExportKind.{ComponentExportKind}
use Rattle.comp_bytes.specs.declared.space.ComponentExportKind.TheVariants as exports
use Rattle.comp_bytes.specs.declared.space.Sort.{Sort}
use Rattle.comp_bytes.specs.declared.space.Sort.TheVariants as sorts
use Rattle.comp_bytes.specs.declared.types.Description.{Description}
use Rattle.comp_bytes.specs.declared.types.Description.TheVariants as descriptions
use Rattle.comp_bytes.specs.declared.types.Alias.{Alias}
use Rattle.comp_bytes.specs.declared.types.Alias.TheVariants as aliases
use Rattle.comp_bytes.specs.declared.types.Member.{Member}
use Rattle.comp_bytes.specs.declared.types.Member.TheVariants as members
use Rattle.comp_bytes.specs.declared.def.Item.{Item}
use Rattle.comp_bytes.specs.declared.def.Item.TheVariants as items
use Rattle.comp_bytes.specs.declared.def.Def.{Def}
use Rattle.comp_bytes.specs.declared.def.Def.TheVariants as defs
use Rattle.comp_bytes.specs.declared.space.Space.{Space}
use Rattle.comp_bytes.specs.declared.space.Space.TheVariants as spaces

-- the space of a kind of core item
abbrev pub kind_space : ExportKind → Space
kind_space kinds.Func = spaces.CoreFunc
kind_space kinds.Table = spaces.CoreTable
kind_space kinds.Memory = spaces.CoreMemory
kind_space kinds.Global = spaces.CoreGlobal

-- the space of a kind of item that an instance exports
abbrev pub export_space : ComponentExportKind → Space
export_space exports.Func = spaces.Func
export_space exports.Type = spaces.Type
export_space exports.Component = spaces.Component
export_space exports.Instance = spaces.Instance

abbrev pub sort_space : Sort → Space
sort_space (sorts.Core kind) = kind_space kind
sort_space sorts.Func = spaces.Func
sort_space sorts.Type = spaces.Type
sort_space sorts.Component = spaces.Component
sort_space sorts.Instance = spaces.Instance

-- the space of what an import or an export is said to be
abbrev pub description_space : Description → Space
description_space (descriptions.Func index) = spaces.Func
description_space (descriptions.TypeEqual index) = spaces.Type
description_space descriptions.SubResource = spaces.Type
description_space (descriptions.Instance index) = spaces.Instance

abbrev pub alias_space : Alias → Space
alias_space (aliases.Export kind instance name) = export_space kind
alias_space (aliases.CoreExport kind instance name) = kind_space kind
alias_space (aliases.Outer count index) = spaces.Type

-- the space in which a member of an instance type makes an item, in the scope of that type
abbrev pub member_space : Member → Option Space
member_space (members.Type t) = Some spaces.Type
member_space (members.Alias a) = Some (alias_space a)
member_space (members.Export name description) = Some (description_space description)

-- the space in which an item is made; a custom section makes none
abbrev pub item_space : Item → Option Space
item_space (items.CoreModule bytes) = Some spaces.CoreModule
item_space (items.CoreInstantiate made args) = Some spaces.CoreInstance
item_space (items.CoreExports entries) = Some spaces.CoreInstance
item_space (items.Instantiate made args) = Some spaces.Instance
item_space (items.Alias a) = Some (alias_space a)
item_space (items.Type t) = Some spaces.Type
item_space (items.InstanceType t) = Some spaces.Type
item_space (items.Lift func options ty) = Some spaces.Func
item_space (items.Lower func options) = Some spaces.CoreFunc
item_space (items.Intrinsic i) = Some spaces.CoreFunc
item_space (items.Import name description) = Some (description_space description)
item_space (items.Export name sort index description) = Some (sort_space sort)
item_space (items.Custom name contents) = None

-- the space in which a definition makes an item
abbrev pub space_of : Def → Option Space
space_of (defs.Item i) = item_space i
space_of (defs.Component inner) = Some spaces.Component

-- the ordinal of a space in the order of the bytes of their sorts
abbrev pub ordinal : Space → ℕ
ordinal spaces.CoreFunc = 0
ordinal spaces.CoreTable = 1
ordinal spaces.CoreMemory = 2
ordinal spaces.CoreGlobal = 3
ordinal spaces.CoreModule = 4
ordinal spaces.CoreInstance = 5
ordinal spaces.Func = 6
ordinal spaces.Type = 7
ordinal spaces.Component = 8
ordinal spaces.Instance = 9

-- whether an item is made in this space
abbrev pub is_space : Space → Option Space → Bool
is_space s None = false
is_space s (Some t) = ordinal t == ordinal s

-- how many items of a space the definitions make
abbrev pub items_in : Space → List Def → ℕ
items_in s ds = count_by (λ d. is_space s (space_of d)) ds
