-- What satisfies the imports of a library from a module that stands in its arguments (component
-- model, explainer: core instances; the names are this project's own).
use Rattle.std.specs.Prelude.{ℕ, List, [], ◌∷◌, Option, Some, None, if◌then◌else◌}
use Rattle.std.specs.Str.{bytes_eq}
use Rattle.comp_roles.specs.Matching.{kind_of}
use Rattle.comp_roles.specs.declared.imports.ImportInstance.{ImportInstance}
use Rattle.comp_roles.specs.declared.imports.ImportInstance.TheVariants as instances
use Rattle.comp_roles.specs.declared.imports.Import.{Import}
use Rattle.comp_roles.specs.declared.libraries.Instance.{Instance}
use Rattle.comp_roles.specs.declared.libraries.Instance.TheVariants as arguments
use Rattle.comp_roles.specs.declared.libraries.Item.{Item}
use Rattle.comp_roles.specs.declared.libraries.LibraryArgument.{LibraryArgument}
use Rattle.comp_roles.specs.declared.offered.ExternType.{ExternType}

abbrev pub Arguments : Type 0
Arguments = List LibraryArgument

-- the first argument for a module
abbrev pub argument_for : Arguments → List ℕ → Option Instance
argument_for [] name = None
argument_for (a ∷ others) name = if bytes_eq name a.name then Some a.instance else argument_for others name

-- the first item under an alias
abbrev pub item_under : List Item → List ℕ → Option Item
item_under [] alias = None
item_under (i ∷ is) alias = if bytes_eq alias i.alias then Some i else item_under is alias

-- the item that an import of this field and type is given: a whole instance has each export under its own name
abbrev pub item_of : Instance → List ℕ → ExternType → Option Item
item_of (arguments.MainOrAdapter which) field type = Some (record { alias = field; kind = kind_of type; which = which; name = field })
item_of (arguments.Items items) field type = item_under items field

-- all imports from a module are satisfied by a whole instance, or each has a role
abbrev pub instance_given : Option Instance → List (List ℕ × Import) → ImportInstance
instance_given (Some (arguments.MainOrAdapter which)) fields = instances.Whole which
instance_given argument fields = instances.Names fields
