-- The imported interfaces in a new order: each time the first, in the old order, whose used
-- interfaces are itself or taken. The other imports follow in their order.
use Rattle.std.specs.Prelude.{Bool, true, not, ◌&&◌, ◌||◌, List, [], ◌∷◌, ◌++◌, Option, Some, None, is_some, Result, Ok, Err, if◌then◌else◌}
use Rattle.std.specs.Option.{option_map_or}
use Rattle.std.specs.Map.{lookup}
use Rattle.comp_lists.specs.Tables.{with_first}
use Rattle.json_paths.specs.declared.fault.Failure.{Failure}
use Rattle.record_values.specs.declared.names.InterfaceName.{InterfaceName}
use Rattle.record_values.specs.declared.types.Interface.{Interface}
use Rattle.record_values.specs.declared.world.Item.{Item}
use Rattle.record_values.specs.declared.world.Item.TheVariants as items
use Rattle.record_values.specs.declared.world.ItemKey.{ItemKey}
use Rattle.record_values.specs.declared.world.Wit.{Wit}
use Rattle.record_values.specs.Names.{is_same_interface, is_same_item, name_text}
use Rattle.record_values.specs.Renaming.{Renames}
use Rattle.record_versions.specs.declared.order.Waiting.{Waiting}
use Rattle.record_versions.specs.Containment.{conflict}
use Rattle.record_versions.specs.Uses.{uses}

abbrev pub waiting_item : List (InterfaceName × Interface) → ItemKey → Item → List Waiting
waiting_item is key (items.Interface name) = record { key = key; name = name; uses = uses is name } ∷ []
waiting_item is key (items.Function f) = []
waiting_item is key (items.Type nodes) = []

-- the imported interfaces, in the old order
abbrev pub waiting : List (InterfaceName × Interface) → List (ItemKey × Item) → List Waiting
waiting is [] = []
waiting is (e ∷ es) = waiting_item is e.0 e.1 ++ waiting is es

-- interfaces that are taken, with their keys
abbrev pub Taken : Type 0
Taken = List (InterfaceName × ItemKey)

abbrev pub is_taken : Taken → InterfaceName → Bool
is_taken taken name = is_some (lookup (is_same_interface name) taken)

abbrev pub all_taken : Taken → InterfaceName → List InterfaceName → Bool
all_taken taken own [] = true
all_taken taken own (n ∷ ns) = (is_same_interface n own || is_taken taken n) && all_taken taken own ns

-- an interface may be taken once, and when all that it uses are
abbrev pub is_ready : Taken → Waiting → Bool
is_ready taken w = not (is_taken taken w.name) && all_taken taken w.name w.uses

abbrev pub first_ready : Taken → List Waiting → Option Waiting
first_ready taken [] = None
first_ready taken (w ∷ ws) = if is_ready taken w then Some w else first_ready taken ws

abbrev pub with_taken : Taken → Waiting → Taken
with_taken taken w = with_first is_same_interface taken w.name w.key

-- at most as many more as the list has, each time the first that may be taken
abbrev pub taken_anew : List Waiting → Taken → List Waiting → Option Taken
taken_anew [] taken all = Some taken
taken_anew (_ ∷ more) taken all = option_map_or (λ w. taken_anew more (with_taken taken w) all) (first_ready taken all) None

abbrev pub interfaces_taken : List (ItemKey × Item) → Taken → List (ItemKey × Item)
interfaces_taken table [] = table
interfaces_taken table (t ∷ ts) = interfaces_taken (with_first is_same_item table t.1 (items.Interface t.0)) ts

abbrev pub with_other : List (ItemKey × Item) → ItemKey → Item → List (ItemKey × Item)
with_other table key (items.Interface name) = table
with_other table key (items.Function f) = with_first is_same_item table key (items.Function f)
with_other table key (items.Type nodes) = with_first is_same_item table key (items.Type nodes)

abbrev pub others_after : List (ItemKey × Item) → List (ItemKey × Item) → List (ItemKey × Item)
others_after table [] = table
others_after table (e ∷ es) = others_after (with_other table e.0 e.1) es

abbrev pub ordered_by : List (ItemKey × Item) → Option Taken → Option (List (ItemKey × Item))
ordered_by imports None = None
ordered_by imports (Some taken) = Some (others_after (interfaces_taken [] taken) imports)

abbrev pub ordered_among : List Waiting → List (ItemKey × Item) → Option (List (ItemKey × Item))
ordered_among ws imports = ordered_by imports (taken_anew ws [] ws)

-- imports in the new order, where there is one
unfoldable pub ordered : List (InterfaceName × Interface) → List (ItemKey × Item) → Option (List (ItemKey × Item))
ordered is imports = ordered_among (waiting is imports) imports

abbrev pub in_order_by : InterfaceName → Wit → Option (List (ItemKey × Item)) → Result Wit Failure
in_order_by lesser w None = Err (conflict (name_text lesser))
in_order_by lesser w (Some imports) = Ok (record { interfaces = w.interfaces; imports = imports; exports = w.exports })

abbrev pub first_lesser : Renames → Option InterfaceName
first_lesser [] = None
first_lesser (r ∷ rs) = Some r.0

-- a world whose imports are in the new order where an interface became another; this is the first that did
abbrev pub in_order : Option InterfaceName → Wit → Result Wit Failure
in_order None w = Ok w
in_order (Some lesser) w = in_order_by lesser w (ordered w.interfaces w.imports)
