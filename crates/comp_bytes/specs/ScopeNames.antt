-- The lists of names of a component in each of which names must be distinct.
-- Component model, explainer: names of imports and of exports are distinct in their scope, and so are
-- those of the arguments of an instantiation and of the entries of an instance made of inline exports.
use Rattle.std.specs.Prelude.{ℕ, List, [], ◌∷◌, map}
use Rattle.std.specs.List.{flat_map, AllByRecursion, IsDistinct}
use Rattle.std.specs.Str.{bytes_eq}
use Rattle.comp_bytes.specs.declared.types.Member.{Member}
use Rattle.comp_bytes.specs.declared.types.Member.TheVariants as members
use Rattle.comp_bytes.specs.declared.def.Item.{Item}
use Rattle.comp_bytes.specs.declared.def.Item.TheVariants as items
use Rattle.comp_bytes.specs.declared.def.Def.{Def}
use Rattle.comp_bytes.specs.declared.def.Def.TheVariants as defs

-- the texts of names, as lists of bytes
abbrev pub Names : Type 0
Names = List (List ℕ)

abbrev pub member_export : Member → Names
member_export (members.Export name description) = name.name ∷ []
member_export _ = []

abbrev pub item_import : Item → Names
item_import (items.Import name description) = name.name ∷ []
item_import _ = []

abbrev pub item_export : Item → Names
item_export (items.Export name sort index description) = name.name ∷ []
item_export _ = []

-- the list of names that a single item has, where it has one
abbrev pub item_names : Item → List Names
item_names (items.CoreInstantiate made args) = map (λ a. a.name) args ∷ []
item_names (items.CoreExports entries) = map (λ e. e.name) entries ∷ []
item_names (items.Instantiate made args) = map (λ a. a.name) args ∷ []
item_names (items.InstanceType t) = flat_map member_export t.members ∷ []
item_names _ = []

-- the lists of a nested component: its imports, its exports, and those of its items
abbrev pub inner_names : List Item → List Names
inner_names inner = flat_map item_import inner ∷ flat_map item_export inner ∷ flat_map item_names inner

abbrev pub def_import : Def → Names
def_import (defs.Item i) = item_import i
def_import (defs.Component inner) = []

abbrev pub def_export : Def → Names
def_export (defs.Item i) = item_export i
def_export (defs.Component inner) = []

abbrev pub def_names : Def → List Names
def_names (defs.Item i) = item_names i
def_names (defs.Component inner) = inner_names inner

-- the lists of a component: its imports, its exports, and those of its definitions in turn
abbrev pub names : List Def → List Names
names definitions = flat_map def_import definitions ∷ flat_map def_export definitions ∷ flat_map def_names definitions

-- No name occurs twice in its list.
abbrev pub NamesApart : List Def → Type 0
NamesApart definitions = AllByRecursion (IsDistinct bytes_eq) (names definitions)
