-- The streams and futures that occur in a function: those of its parameters in order, then those of
-- its result, each after the ones inside it. Types that have a name are entered, handles are not.
use Rattle.std.specs.Prelude.{List, [], ◌∷◌, ◌++◌}
use Rattle.std.specs.Option.{option_map_or, unwrap_or}
use Rattle.std.specs.List.{flat_map}
use Rattle.std.specs.Map.{lookup}
use Rattle.record_values.specs.declared.names.InterfaceName.{InterfaceName}
use Rattle.record_values.specs.declared.names.Owner.TheVariants as owners
use Rattle.record_values.specs.declared.names.TypeName.{TypeName}
use Rattle.record_values.specs.declared.roles.PayloadKind.{PayloadKind}
use Rattle.record_values.specs.declared.roles.PayloadKind.TheVariants as payload_kinds
use Rattle.record_values.specs.declared.types.Func.{Func}
use Rattle.record_values.specs.declared.types.Interface.{Interface}
use Rattle.record_values.specs.declared.types.Node.{Node}
use Rattle.record_values.specs.declared.types.Node.TheVariants as nodes
use Rattle.record_values.specs.declared.types.Typed.{Typed}
use Rattle.record_values.specs.declared.world.Item.{Item}
use Rattle.record_values.specs.declared.world.Item.TheVariants as items
use Rattle.record_values.specs.declared.world.ItemKey.{ItemKey}
use Rattle.record_values.specs.declared.world.Wit.{Wit}
use Rattle.record_values.specs.Names.{is_same_type, key_text}
use Rattle.comp_lists.specs.Tables.{with_first}

-- what occurs in each named type
abbrev pub Met : Type 0
Met = List (TypeName × List PayloadKind)

abbrev pub met_at : Met → Node → List PayloadKind
met_at met (nodes.Stream has_item) = payload_kinds.Stream ∷ []
met_at met (nodes.Future has_item) = payload_kinds.Future ∷ []
met_at met (nodes.Named t) = unwrap_or (lookup (is_same_type t) met) []
met_at met node = []

abbrev pub met_in : Met → List Node → List PayloadKind
met_in met ns = flat_map (met_at met) ns

abbrev pub met_in_function : Met → Func → List PayloadKind
met_in_function met f = flat_map (λ p. met_in met p.nodes) f.params ++ option_map_or (met_in met) f.result []

-- one named type more, which names only earlier ones
abbrev pub with_type : Met → TypeName → List Node → Met
with_type met name ns = with_first is_same_type met name (met_in met ns)

abbrev pub with_types : Met → InterfaceName → List Typed → Met
with_types met name [] = met
with_types met name (t ∷ ts) = with_types (with_type met (record { owner = owners.Interface name; name = t.name }) t.nodes) name ts

abbrev pub with_interfaces : Met → List (InterfaceName × Interface) → Met
with_interfaces met [] = met
with_interfaces met (i ∷ is) = with_interfaces (with_types met i.0 i.1.types) is

abbrev pub with_item : Met → ItemKey → Item → Met
with_item met key (items.Type ns) = with_type met (record { owner = owners.World; name = key_text key }) ns
with_item met key (items.Interface name) = met
with_item met key (items.Function f) = met

abbrev pub with_items : Met → List (ItemKey × Item) → Met
with_items met [] = met
with_items met (e ∷ es) = with_items (with_item met e.0 e.1) es

-- all named types: those of the interfaces, and then the world's own
unfoldable pub all_met : Wit → Met
all_met wit = with_items (with_interfaces [] wit.interfaces) wit.imports
