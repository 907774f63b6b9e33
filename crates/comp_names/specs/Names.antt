-- Which names of a component are right, and the cause of each fault.
-- Component model, explainer: names of imports, of exports, of arguments and of entries are distinct in
-- their list (`ScopeNames` of `comp_bytes`), and those of imports and exports are well formed.
use Rattle.std.specs.Prelude.{ℕ, ◌≡◌, List, [], ◌∷◌, ◌++◌, Contains, ⊤}
use Rattle.std.specs.List.{flat_map, AllByRecursion}
use Rattle.comp_bytes.specs.ScopeNames.{Names, NamesApart, names, member_export}
use Rattle.comp_bytes.specs.declared.def.Item.{Item}
use Rattle.comp_bytes.specs.declared.def.Item.TheVariants as items
use Rattle.comp_bytes.specs.declared.def.Def.{Def}
use Rattle.comp_bytes.specs.declared.def.Def.TheVariants as defs
use Rattle.comp_names.specs.declared.fault.NameFault.{NameFault}
use Rattle.comp_names.specs.declared.fault.NameFault.TheVariants as faults
use Rattle.comp_names.specs.NameForm.{IsFormed}

-- the names of imports and exports that an item has
abbrev pub item_extern_names : Item → Names
item_extern_names (items.Import name description) = name.name ∷ []
item_extern_names (items.Export name sort index description) = name.name ∷ []
item_extern_names (items.InstanceType t) = flat_map member_export t.members
item_extern_names _ = []

abbrev pub def_extern_names : Def → Names
def_extern_names (defs.Item i) = item_extern_names i
def_extern_names (defs.Component inner) = flat_map item_extern_names inner

-- the names of all imports and exports, of nested components and of instance types too
abbrev pub extern_names : List Def → Names
extern_names definitions = flat_map def_extern_names definitions

-- No name occurs twice in its list, and those of imports and exports are well formed.
abbrev pub NamesOk : List Def → Type 0
NamesOk definitions = NamesApart definitions × AllByRecursion IsFormed (extern_names definitions)

-- ---- faults

pub record OccursTwice (name : List ℕ) (list : Names) : Type 0 where
  pub before : Names
  pub between : Names
  pub after : Names
  pub parts : list ≡ before ++ name ∷ between ++ name ∷ after

-- the cause of a fault, in these lists of names and these names that have to be well formed
abbrev pub IsFaultOf : List Names → Names → NameFault → Type 0
IsFaultOf lists externs faults.Memory = ⊤
IsFaultOf lists externs (faults.Twice name) = (list : Names) × Contains lists list × OccursTwice name list
IsFaultOf lists externs (faults.Form name) = Contains externs name × (IsFormed name → ⊥)

abbrev pub IsNameFault : List Def → NameFault → Type 0
IsNameFault definitions fault = IsFaultOf (names definitions) (extern_names definitions) fault
