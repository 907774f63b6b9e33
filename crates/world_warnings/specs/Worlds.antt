-- Warnings of a world: of its interfaces, its imports and its exports. The path of a place is that in a record, with names in the
-- place of indices. (Component model, explainer: import and export definitions.)
use Rattle.std.specs.Prelude.{ℕ, List, [], ◌∷◌, ◌++◌, map, codes}
use Rattle.std.specs.List.{flat_map}
use Rattle.name_warnings.specs.Forms.{label_warnings, plain_name_warnings, interface_name_warnings, world_name_warnings}
use Rattle.name_warnings.specs.Repeats.{repeats}
use Rattle.name_warnings.specs.declared.warning.Warning.{Warning}
use Rattle.record_values.specs.declared.names.InterfaceName.{InterfaceName}
use Rattle.record_values.specs.declared.names.InterfaceName.TheVariants as names
use Rattle.record_values.specs.declared.names.Owner.{Owner}
use Rattle.record_values.specs.declared.names.Owner.TheVariants as owners
use Rattle.record_values.specs.declared.types.Func.{Func}
use Rattle.record_values.specs.declared.types.Interface.{Interface}
use Rattle.record_values.specs.declared.types.Node.{Node}
use Rattle.record_values.specs.declared.types.Typed.{Typed}
use Rattle.record_values.specs.declared.world.Item.{Item}
use Rattle.record_values.specs.declared.world.Item.TheVariants as items
use Rattle.record_values.specs.declared.world.ItemKey.{ItemKey}
use Rattle.record_values.specs.declared.world.Wit.{Wit}
use Rattle.record_values.specs.Names.{name_text, key_text}
use Rattle.world_names.specs.WorldNames.{Resources}
use Rattle.world_warnings.specs.Facts.{facts_of}
use Rattle.world_warnings.specs.Functions.{function_warnings}
use Rattle.world_warnings.specs.Types.{definition_warnings}
use Rattle.world_warnings.specs.declared.facts.Facts.{Facts}

-- ---- types and functions with their names

abbrev pub typed_warnings : Resources → List (List ℕ) → Typed → List Warning
typed_warnings resources path t = label_warnings path t.name ++ definition_warnings resources (path ++ t.name ∷ []) t.nodes

abbrev pub named_function_warnings : Facts → Owner → List (List ℕ) → Func → List Warning
named_function_warnings facts owner path f = plain_name_warnings path f.name ++ function_warnings facts owner f (path ++ f.name ∷ [])

-- ---- interfaces

abbrev pub types_warnings : Resources → List Typed → List (List ℕ) → List Warning
types_warnings resources ts path = flat_map (typed_warnings resources path) ts

abbrev pub functions_warnings : Facts → Owner → List Func → List (List ℕ) → List Warning
functions_warnings facts owner fs path = flat_map (named_function_warnings facts owner path) fs

-- the form of an interface's id, or of its name in the world
abbrev pub form_warnings : List (List ℕ) → InterfaceName → List Warning
form_warnings path (names.Id text) = interface_name_warnings path text
form_warnings path (names.Imported text) = label_warnings path text
form_warnings path (names.Exported text) = label_warnings path text
form_warnings path (names.Unused index) = []

-- the names that an instance of the interface exports
abbrev pub member_names : Interface → List (List ℕ)
member_names i = map (λ t. t.name) i.types ++ map (λ f. f.name) i.functions

-- what an interface has
abbrev pub interface_at : Facts → Owner → Interface → List (List ℕ) → List Warning
interface_at facts owner i path =
    repeats path (member_names i)
    ++ (types_warnings facts.resources i.types (path ++ codes "types" ∷ [])
    ++ functions_warnings facts owner i.functions (path ++ codes "functions" ∷ []))

abbrev pub interface_warnings : Facts → List (List ℕ) → InterfaceName × Interface → List Warning
interface_warnings facts path e = form_warnings path e.0 ++ interface_at facts (owners.Interface e.0) e.1 (path ++ name_text e.0 ∷ [])

abbrev pub interfaces_warnings : Facts → List (List ℕ) → List (InterfaceName × Interface) → List Warning
interfaces_warnings facts path is = flat_map (interface_warnings facts (path ++ codes "interfaces" ∷ [])) is

-- ---- the world's own items

abbrev pub world_function_warnings : Facts → List (List ℕ) → Func → List Warning
world_function_warnings facts path f = world_name_warnings path f.name ++ function_warnings facts owners.World f (path ++ f.name ∷ [])

abbrev pub world_type_warnings : Resources → List (List ℕ) → List ℕ → List Node → List Warning
world_type_warnings resources path name ns = world_name_warnings path name ++ definition_warnings resources (path ++ name ∷ []) ns

abbrev pub item_at : Facts → List (List ℕ) → List ℕ → Item → List Warning
item_at facts path name (items.Interface i) = []
item_at facts path name (items.Function f) = world_function_warnings facts path f
item_at facts path name (items.Type ns) = world_type_warnings facts.resources path name ns

abbrev pub item_warnings : Facts → List (List ℕ) → ItemKey × Item → List Warning
item_warnings facts path e = item_at facts path (key_text e.0) e.1

-- a side of the world
abbrev pub side_warnings : Facts → List (ItemKey × Item) → List (List ℕ) → List Warning
side_warnings facts es path = repeats path (map (λ e. key_text e.0) es) ++ flat_map (item_warnings facts path) es

abbrev pub all_warnings : Facts → List (List ℕ) → Wit → List Warning
all_warnings facts path wit =
    interfaces_warnings facts path wit.interfaces
    ++ (side_warnings facts wit.imports (path ++ codes "imports" ∷ [])
    ++ side_warnings facts wit.exports (path ++ codes "exports" ∷ []))

-- the warnings of a world, behind this path
abbrev pub warnings_of : List (List ℕ) → Wit → List Warning
warnings_of path wit = all_warnings (facts_of wit) path wit
