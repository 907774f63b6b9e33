-- No exported interface may reach an exported one through one that is only imported.
use Rattle.std.specs.Prelude.{⊤, Bool, false, not, ◌&&◌, ◌||◌, List, [], ◌∷◌, Result, Ok, Err, if◌then◌else◌}
use Rattle.comp_lists.specs.Tables.{with_first}
use Rattle.json_paths.specs.declared.fault.Failure.{Failure}
use Rattle.json_paths.specs.Faults.{◌>>=◌}
use Rattle.record_values.specs.declared.names.InterfaceName.{InterfaceName}
use Rattle.record_values.specs.declared.types.Interface.{Interface}
use Rattle.record_values.specs.declared.world.Item.{Item}
use Rattle.record_values.specs.declared.world.Item.TheVariants as items
use Rattle.record_values.specs.declared.world.ItemKey.{ItemKey}
use Rattle.record_values.specs.declared.world.Wit.{Wit}
use Rattle.record_values.specs.Names.{is_same_interface, name_text}
use Rattle.record_values.specs.Interfaces.{Interfaces, is_among, interfaces_after}
use Rattle.record_versions.specs.Containment.{conflict}
use Rattle.record_versions.specs.Uses.{uses}

abbrev pub leads_any : Interfaces → Interfaces → List InterfaceName → Bool
leads_any exported leading [] = false
leads_any exported leading (n ∷ ns) = (is_among exported n || is_among leading n) || leads_any exported leading ns

abbrev pub with_named : List (InterfaceName × Interface) → Interfaces → Interfaces → InterfaceName → Interfaces
with_named is exported leading name =
    if leads_any exported leading (uses is name) then with_first is_same_interface leading name tt else leading

abbrev pub with_leading : List (InterfaceName × Interface) → Interfaces → Interfaces → Item → Interfaces
with_leading is exported leading (items.Interface name) = with_named is exported leading name
with_leading is exported leading (items.Function f) = leading
with_leading is exported leading (items.Type nodes) = leading

-- the imported interfaces that lead to an exported one: those that name one, or an imported one before them that does
abbrev pub leading_after : List (InterfaceName × Interface) → Interfaces → Interfaces → List (ItemKey × Item) → Interfaces
leading_after is exported leading [] = leading
leading_after is exported leading (e ∷ es) = leading_after is exported (with_leading is exported leading e.1) es

abbrev pub none_leads : Interfaces → Interfaces → List InterfaceName → Result ⊤ Failure
none_leads exported leading [] = Ok tt
none_leads exported leading (n ∷ ns) =
    if not (is_among exported n) && is_among leading n then Err (conflict (name_text n)) else none_leads exported leading ns

abbrev pub item_leads_not : List (InterfaceName × Interface) → Interfaces → Interfaces → Item → Result ⊤ Failure
item_leads_not is exported leading (items.Interface name) = none_leads exported leading (uses is name)
item_leads_not is exported leading (items.Function f) = Ok tt
item_leads_not is exported leading (items.Type nodes) = Ok tt

-- no exported interface names one that is only imported and leads to an exported one
abbrev pub items_lead_not : List (InterfaceName × Interface) → Interfaces → Interfaces → List (ItemKey × Item) → Result ⊤ Failure
items_lead_not is exported leading [] = Ok tt
items_lead_not is exported leading (e ∷ es) = item_leads_not is exported leading e.1 >>= λ _. items_lead_not is exported leading es

abbrev pub no_reach_to : Interfaces → Wit → Result ⊤ Failure
no_reach_to exported w = items_lead_not w.interfaces exported (leading_after w.interfaces exported [] w.imports) w.exports

unfoldable pub no_reach : Wit → Result ⊤ Failure
no_reach w = no_reach_to (interfaces_after [] w.exports) w
