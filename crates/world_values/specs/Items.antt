-- What the items of a world are: its functions, at its root and in its interfaces (component model, WIT: `world`,
-- `interface`).
use Rattle.std.specs.Prelude.{ℕ, List, [], ◌∷◌, map, Option, Some, None, unwrap_or, option_map, slice_get}
use Rattle.std.specs.Map.{lookup}
use Rattle.std.specs.Option.{option_and_then}
use Rattle.comp_lists.specs.Found.{found}
use Rattle.wit_data.specs.Keys.{is_same_key}
use Rattle.wit_data.specs.declared.functions.Function.{Function}
use Rattle.wit_data.specs.declared.ids.InterfaceId.{InterfaceId}
use Rattle.wit_data.specs.declared.resolve.Resolve.{Resolve}
use Rattle.wit_data.specs.declared.worlds.World.{World}
use Rattle.wit_data.specs.declared.worlds.WorldItem.{WorldItem}
use Rattle.wit_data.specs.declared.worlds.WorldItem.TheVariants as items
use Rattle.wit_data.specs.declared.worlds.WorldKey.{WorldKey}

-- a world that imports and exports nothing
abbrev pub no_items : World
no_items = record { imports = []; exports = [] }

-- the functions of an interface by name, in its order
abbrev pub functions_of : Resolve → InterfaceId → List (List ℕ × Function)
functions_of r id = unwrap_or (option_map (λ i. i.functions) (slice_get r.interfaces id.index)) []

abbrev pub function_in : WorldItem → Option Function
function_in (items.Function f) = Some f
function_in item = None

-- the function that the world imports, or exports, at its root at a key
abbrev pub root_function_at : List (WorldKey × WorldItem) → WorldKey → Option Function
root_function_at entries key = option_and_then function_in (lookup (is_same_key key) entries)

-- ---- the functions of an item

-- the names of the functions of an item: its own, or those of an interface
abbrev pub functions_in : Resolve → Option WorldItem → List (List ℕ)
functions_in r (Some (items.Function f)) = f.name ∷ []
functions_in r (Some (items.Interface id)) = map (λ e. e.0) (functions_of r id)
functions_in r item = []

-- the function of this name of an item: the item itself, or one of an interface
abbrev pub function_of_item : Resolve → List ℕ → Option WorldItem → Option Function
function_of_item r name (Some (items.Function f)) = Some f
function_of_item r name (Some (items.Interface id)) = found name (functions_of r id)
function_of_item r name item = None
