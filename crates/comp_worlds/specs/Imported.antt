-- How what a world imports is lowered for core modules (Canonical ABI: `canon lower`, `resource.drop`).
use Rattle.std.specs.Prelude.{ℕ, Bool, if◌then◌else◌, List, [], ◌∷◌, ◌++◌, codes, Option, Some, None}
use Rattle.std.specs.Option.{option_eq}
use Rattle.std.specs.List.{flat_map}
use Rattle.world_values.specs.Tables.{with_all}
use Rattle.world_values.specs.Items.{functions_of}
use Rattle.wit_data.specs.Keys.{is_same_key, name_of_key}
use Rattle.wit_data.specs.Live.{named_types}
use Rattle.wit_data.specs.Signatures.{signature}
use Rattle.wit_data.specs.declared.functions.AbiVariant.{AbiVariant}
use Rattle.wit_data.specs.declared.functions.AbiVariant.TheVariants.{GuestImport, GuestExport, GuestImportAsync}
use Rattle.wit_data.specs.declared.functions.Function.{Function}
use Rattle.wit_data.specs.declared.ids.InterfaceId.{InterfaceId}
use Rattle.wit_data.specs.declared.ids.TypeId.{TypeId}
use Rattle.wit_data.specs.declared.resolve.Resolve.{Resolve}
use Rattle.wit_data.specs.declared.types.TypeDef.{TypeDef}
use Rattle.wit_data.specs.declared.worlds.WorldItem.{WorldItem}
use Rattle.wit_data.specs.declared.worlds.WorldItem.TheVariants as items
use Rattle.wit_data.specs.declared.worlds.WorldKey.{WorldKey}
use Rattle.comp_worlds.specs.Lowerings.{is_same_lowering}
use Rattle.comp_options.specs.Options.{needs, import_set, memory_bit}
use Rattle.comp_worlds.specs.Uses.{Used, call_at}
use Rattle.comp_worlds.specs.declared.lowerings.ImportedInterface.{ImportedInterface}
use Rattle.comp_worlds.specs.declared.lowerings.Lowering.{Lowering}
use Rattle.comp_worlds.specs.declared.lowerings.Lowering.TheVariants.{Direct, Indirect, ResourceDrop}
use Rattle.comp_worlds.specs.declared.lowerings.LoweringKey.{LoweringKey}

-- lowerings by name and form
abbrev pub Lowerings : Type 0
Lowerings = List (LoweringKey × Lowering)

-- a function is lowered directly where its options need no memory, or where main imports its memory, so that
-- it exists before main is instantiated; else it is called through a table
abbrev pub lowering_of : Bool → AbiVariant → List TypeDef → Function → Lowering
lowering_of shares abi types f =
    if shares then Direct (record { 0 = import_set abi types f })
    else (if needs (import_set abi types f) memory_bit then Indirect (signature abi types f) (record { 0 = import_set abi types f }) else Direct (record { 0 = import_set abi types f }))

-- a function in one form, if the role of some core import is this call
abbrev pub called_as : Used → List TypeDef → WorldKey → Function → AbiVariant → Lowerings
called_as used types key f abi =
    if used.called (call_at key f.name abi) then (record { name = f.name; abi = abi }, lowering_of used.shares abi types f) ∷ [] else []

-- in both forms in which imported functions are called
abbrev pub function_lowerings : Used → List TypeDef → WorldKey → Function → Lowerings
function_lowerings used types key f =
    called_as used types key f GuestImport ++ called_as used types key f GuestImportAsync

-- the drop of a resource, if some core import drops it; no imported function is called in the form of this key
abbrev pub drop_lowerings : Used → List ℕ → TypeId → Lowerings
drop_lowerings used name id =
    if used.dropped id.index then (record { name = name ++ codes "_drop"; abi = GuestExport }, ResourceDrop id) ∷ [] else []

-- an import at the root of the world
abbrev pub root_lowerings : Used → List TypeDef → WorldKey × WorldItem → Lowerings
root_lowerings used types (key, items.Function f) = function_lowerings used types key f
root_lowerings used types (key, items.NamedType id) = drop_lowerings used (name_of_key key) id
root_lowerings used types (key, items.Interface id) = []

-- an imported interface: its types, then its functions
abbrev pub interface_lowerings : Used → Resolve → WorldKey → InterfaceId → Lowerings
interface_lowerings used r key id =
    flat_map (λ t. drop_lowerings used t.0 t.1) (named_types r id) ++ flat_map (λ f. function_lowerings used r.types key f.1) (functions_of r id)

-- the root, and each imported interface, by the key under which it is imported
abbrev pub Imported : Type 0
Imported = List (Option WorldKey × ImportedInterface)

abbrev pub is_same_import_key : Option WorldKey → Option WorldKey → Bool
is_same_import_key = option_eq is_same_key

abbrev pub root_entry : Used → Resolve → List (WorldKey × WorldItem) → Option WorldKey × ImportedInterface
root_entry used r entries =
    (None, record { lowerings = with_all is_same_lowering [] (flat_map (root_lowerings used r.types) entries); interface = None })

abbrev pub interface_entry : Used → Resolve → WorldKey × WorldItem → Imported
interface_entry used r (key, items.Interface id) =
    (Some key, record { lowerings = with_all is_same_lowering [] (interface_lowerings used r key id); interface = Some id }) ∷ []
interface_entry used r entry = []

-- what is lowered of what the world imports: of its root, and of each interface in the world's order
abbrev pub imported : Used → Resolve → List (WorldKey × WorldItem) → Imported
imported used r entries =
    with_all is_same_import_key [] (root_entry used r entries ∷ flat_map (interface_entry used r) entries)
