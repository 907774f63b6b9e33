-- What is known of the named types of a world: which are resources, and which hold borrowed handles.
-- (Component model, explainer: handle types.)
use Rattle.std.specs.Prelude.{⊤, Bool, true, false, List, [], ◌∷◌, is_some, if◌then◌else◌}
use Rattle.std.specs.List.{list_any}
use Rattle.std.specs.Map.{lookup}
use Rattle.comp_lists.specs.Tables.{with_first}
use Rattle.record_values.specs.declared.names.InterfaceName.{InterfaceName}
use Rattle.record_values.specs.declared.names.Owner.TheVariants as owners
use Rattle.record_values.specs.declared.names.TypeName.{TypeName}
use Rattle.record_values.specs.declared.types.Interface.{Interface}
use Rattle.record_values.specs.declared.types.Node.{Node}
use Rattle.record_values.specs.declared.types.Node.TheVariants as nodes
use Rattle.record_values.specs.declared.types.Typed.{Typed}
use Rattle.record_values.specs.declared.world.Item.{Item}
use Rattle.record_values.specs.declared.world.Item.TheVariants as items
use Rattle.record_values.specs.declared.world.ItemKey.{ItemKey}
use Rattle.record_values.specs.declared.world.Wit.{Wit}
use Rattle.record_values.specs.Names.{is_same_type, key_text}
use Rattle.world_names.specs.WorldNames.{owned, resources_of}
use Rattle.world_warnings.specs.declared.facts.Facts.{Facts}

abbrev pub Borrowing : Type 0
Borrowing = List (TypeName × ⊤)

-- a borrowed handle, or the name of a type that holds one
abbrev pub node_borrows : Borrowing → Node → Bool
node_borrows table (nodes.Borrow t) = true
node_borrows table (nodes.Named t) = is_some (lookup (is_same_type t) table)
node_borrows table node = false

abbrev pub borrows : Borrowing → List Node → Bool
borrows table ns = list_any (node_borrows table) ns

-- a type's name, where the type holds one; types name earlier ones
abbrev pub with_type : Borrowing → TypeName → List Node → Borrowing
with_type table name ns = if borrows table ns then with_first is_same_type table name tt else table

abbrev pub with_types : Borrowing → InterfaceName → List Typed → Borrowing
with_types table name [] = table
with_types table name (t ∷ ts) = with_types (with_type table (owned (owners.Interface name) t.name) t.nodes) name ts

abbrev pub of_interfaces : Borrowing → List (InterfaceName × Interface) → Borrowing
of_interfaces table [] = table
of_interfaces table (e ∷ es) = of_interfaces (with_types table e.0 e.1.types) es

abbrev pub with_item : Borrowing → ItemKey → Item → Borrowing
with_item table key (items.Type ns) = with_type table (owned owners.World (key_text key)) ns
with_item table key (items.Interface name) = table
with_item table key (items.Function f) = table

abbrev pub of_items : Borrowing → List (ItemKey × Item) → Borrowing
of_items table [] = table
of_items table (e ∷ es) = of_items (with_item table e.0 e.1) es

-- of the interfaces of a world, and among the types that it imports
abbrev pub borrowing_of : Wit → Borrowing
borrowing_of wit = of_items (of_interfaces [] wit.interfaces) wit.imports

abbrev pub facts_of : Wit → Facts
facts_of wit = record { resources = resources_of wit; borrowing = borrowing_of wit }
