-- The string encodings of functions: those of the first record that names them.
use Rattle.std.specs.Prelude.{List, [], ◌∷◌, Option, None, Some}
use Rattle.std.specs.Map.{lookup}
use Rattle.comp_lists.specs.Tables.{with_first}
use Rattle.standard_kinds.specs.declared.kinds.StringEncoding.{StringEncoding}
use Rattle.record_values.specs.declared.names.InterfaceName.{InterfaceName}
use Rattle.record_values.specs.declared.types.Func.{Func}
use Rattle.record_values.specs.declared.types.Interface.{Interface}
use Rattle.record_values.specs.declared.world.Item.{Item}
use Rattle.record_values.specs.declared.world.Item.TheVariants as items
use Rattle.record_values.specs.declared.world.ItemKey.{ItemKey}
use Rattle.record_values.specs.declared.world.Wit.{Wit}
use Rattle.record_values.specs.declared.record.Record.{Record}
use Rattle.record_values.specs.Names.{is_same_interface}
use Rattle.record_merge.specs.declared.bindgen.FunctionOf.{FunctionOf}
use Rattle.record_merge.specs.Said.{is_same_function}

-- functions with their encodings
abbrev pub Encodings : Type 0
Encodings = List (FunctionOf × StringEncoding)

-- a table with functions of an import or export that it does not have
abbrev pub with_functions : StringEncoding → ItemKey → Encodings → List Func → Encodings
with_functions encoding key table [] = table
with_functions encoding key table (f ∷ fs) =
    with_functions encoding key (with_first is_same_function table (record { key = key; function = f.name }) encoding) fs

abbrev pub with_functions_of : StringEncoding → ItemKey → Encodings → Option Interface → Encodings
with_functions_of encoding key table None = table
with_functions_of encoding key table (Some i) = with_functions encoding key table i.functions

-- the functions of an import or export: itself where it is a function, and those of its interface
abbrev pub with_item : List (InterfaceName × Interface) → StringEncoding → Encodings → ItemKey → Item → Encodings
with_item interfaces encoding table key (items.Interface name) = with_functions_of encoding key table (lookup (is_same_interface name) interfaces)
with_item interfaces encoding table key (items.Function f) = with_functions encoding key table (f ∷ [])
with_item interfaces encoding table key (items.Type nodes) = table

abbrev pub with_items : List (InterfaceName × Interface) → StringEncoding → Encodings → List (ItemKey × Item) → Encodings
with_items interfaces encoding table [] = table
with_items interfaces encoding table (e ∷ es) = with_items interfaces encoding (with_item interfaces encoding table e.0 e.1) es

-- the functions of a side of the records' worlds
abbrev pub encodings_after : (Wit → List (ItemKey × Item)) → Encodings → List Record → Encodings
encodings_after side table [] = table
encodings_after side table (r ∷ rs) = encodings_after side (with_items r.wit.interfaces r.encoding table (side r.wit)) rs
