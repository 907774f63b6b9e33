-- The links of a component: which item each import of each instance of a core module is given, and
-- what each export is. They are read from the list of definitions. (Component model, explainer:
-- instance definitions, import and export definitions. That a shim is filled by the arguments
-- `shim` and `actual` of one instantiation is this encoder's way.)
use Rattle.std.specs.Prelude.{ℕ, List, [], ◌∷◌, ◌++◌, map, codes, Option, Some, None, if◌then◌else◌}
use Rattle.std.specs.List.{flat_map}
use Rattle.std.specs.Fmt.{decimal}
use Rattle.std.specs.Str.{bytes_eq}
use Rattle.comp_bytes.specs.Spaces.{kind_space, sort_space}
use Rattle.comp_bytes.specs.declared.space.Space.{Space}
use Rattle.comp_bytes.specs.declared.space.Space.TheVariants as spaces
use Rattle.comp_bytes.specs.declared.space.Sort.{Sort}
use Rattle.comp_bytes.specs.declared.space.Sort.TheVariants as sorts
use Rattle.comp_bytes.specs.declared.def.Argument.{Argument}
use Rattle.comp_bytes.specs.declared.def.CoreArgument.{CoreArgument}
use Rattle.comp_bytes.specs.declared.def.CoreInlineExport.{CoreInlineExport}
use Rattle.comp_bytes.specs.declared.def.Item.{Item}
use Rattle.comp_bytes.specs.declared.def.Item.TheVariants as items
use Rattle.comp_bytes.specs.declared.def.Def.{Def}
use Rattle.comp_bytes.specs.declared.def.Def.TheVariants as defs
use Rattle.comp_lines.specs.Texts.{quoted}
use Rattle.found_links.specs.Items.{Found, found_in, item}
use Rattle.found_links.specs.Ends.{numbered, core_instance, exported, instance, core_source, core_how, func_source, func_how}
use Rattle.found_links.specs.declared.link.Link.{Link}

-- ---- what a core module is given

abbrev pub core_link : Found → List ℕ → List ℕ → Space → ℕ → Link
core_link f user name space index = record { user = user; name = name; source = core_source f space index; how = core_how f space index }

abbrev pub module_text : ℕ → List ℕ
module_text index = codes "module " ++ decimal index

abbrev pub named : List ℕ → List ℕ
named name = codes " " ++ quoted name

-- An entry of an argument: the import of this argument's and this entry's name; or, where the
-- instantiation fills the shims of an instance, what is behind the shim of this name.
abbrev pub entry_link : Found → Option ℕ → ℕ → List ℕ → CoreInlineExport → Link
entry_link f None user argument entry = core_link f (module_text user) (named argument ++ named entry.name) (kind_space entry.kind) entry.index
entry_link f (Some shims) user argument entry = core_link f (exported f shims entry.name) [] (kind_space entry.kind) entry.index

-- an argument that is an instance as a whole
abbrev pub whole_link : Found → ℕ → CoreArgument → Link
whole_link f user a = record { user = module_text user; name = named a.name; source = core_instance f a.instance; how = [] }

abbrev pub of_argument : Found → Option ℕ → ℕ → CoreArgument → Option Item → List Link
of_argument f shims user a (Some (items.CoreExports entries)) = map (entry_link f shims user a.name) entries
of_argument f shims user a _ = whole_link f user a ∷ []

-- the instance that is given under a name
abbrev pub given_as : List ℕ → List CoreArgument → Option ℕ
given_as name [] = None
given_as name (a ∷ rest) = if bytes_eq a.name name then Some a.instance else given_as name rest

-- the instance whose shims an argument fills
abbrev pub filled : Option ℕ → CoreArgument → Option ℕ
filled shims a = if bytes_eq a.name (codes "actual") then shims else None

-- the links of an argument of an instantiation that is given this instance of shims
abbrev pub argument_links : Found → Option ℕ → ℕ → CoreArgument → List Link
argument_links f shims user a = of_argument f (filled shims a) user a (item f spaces.CoreInstance a.instance)

-- ---- what is exported

abbrev pub exports_text : List ℕ
exports_text = codes "exports"

abbrev pub func_link : Found → List ℕ → ℕ → Link
func_link f name index = record { user = exports_text; name = name; source = func_source f index; how = func_how f index }

abbrev pub of_nested : Found → List ℕ → Argument → Sort → List Link
of_nested f name a sorts.Func = func_link f (named name ++ named a.name) a.index ∷ []
of_nested f name a _ = []

-- an export that is no function
abbrev pub other_link : List ℕ → List ℕ → Link
other_link name source = record { user = exports_text; name = named name; source = source; how = [] }

-- an argument of the nested component whose instance is exported; types are no links
abbrev pub nested_links : Found → List ℕ → Argument → List Link
nested_links f name a = of_nested f name a a.sort

abbrev pub of_exported_instance : Found → List ℕ → ℕ → Option Item → List Link
of_exported_instance f name index (Some (items.Instantiate made args)) = flat_map (nested_links f name) args
of_exported_instance f name index _ = other_link name (instance f index) ∷ []

abbrev pub export_links : Found → List ℕ → Sort → ℕ → List Link
export_links f name sorts.Func index = func_link f (named name) index ∷ []
export_links f name sorts.Instance index = of_exported_instance f name index (item f spaces.Instance index)
export_links f name sort index = other_link name (numbered (sort_space sort) index) ∷ []

-- ---- all of them

abbrev pub item_links : Found → Item → List Link
item_links f (items.CoreInstantiate made args) = flat_map (argument_links f (given_as (codes "shim") args) made) args
item_links f (items.Export name sort index description) = export_links f name.name sort index
item_links f _ = []

abbrev pub definition_links : Found → Def → List Link
definition_links f (defs.Item i) = item_links f i
definition_links f (defs.Component inner) = []

-- The links of a component, in the order of its definitions.
abbrev pub links : List Def → List Link
links ds = flat_map (definition_links (found_in ds)) ds
