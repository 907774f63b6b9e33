-- What a world's declarations say, one after the other. Component model, binary format:
-- `componenttype`, `componentdecl`, `importdecl`, `exportdecl`.
--
-- A world has two index spaces: its types, a list of entries, and its instances, each an interface
-- by its name. An imported type is from then on its name, and so is an alias of a type of an
-- instance.
use Rattle.std.specs.Prelude.{◌≡◌, ⊤, ℕ, suc, nat_eq, List, [], ◌∷◌, ◌++◌, slice_get, Bool, Option, Some, None, is_some, Result, Ok, Err, if◌then◌else◌}
use Rattle.std.specs.List.{list_any}
use Rattle.std.specs.Map.{lookup}
use Rattle.std.specs.Str.{bytes_eq}
use Rattle.comp_bytes.specs.declared.space.ComponentExportKind.{ComponentExportKind}
use Rattle.comp_bytes.specs.declared.space.ComponentExportKind.TheVariants as kinds
use Rattle.comp_bytes.specs.declared.types.Alias.{Alias}
use Rattle.comp_bytes.specs.declared.types.Alias.TheVariants as aliases
use Rattle.comp_bytes.specs.declared.types.ExternName.{ExternName}
use Rattle.comp_bytes.specs.declared.types.Description.{Description}
use Rattle.comp_bytes.specs.declared.types.Description.TheVariants as descriptions
use Rattle.comp_bytes.specs.declared.types.TypeDef.{TypeDef}
use Rattle.comp_bytes.specs.declared.types.InstanceType.{InstanceType}
use Rattle.record_values.specs.declared.names.InterfaceName.{InterfaceName}
use Rattle.record_values.specs.declared.names.InterfaceName.TheVariants as names
use Rattle.record_values.specs.declared.names.Owner.TheVariants as owners
use Rattle.record_values.specs.declared.names.TypeName.{TypeName}
use Rattle.record_values.specs.declared.types.Interface.{Interface}
use Rattle.record_values.specs.contracts.types.InterfacePartialEq.TheImpl as equality
use Rattle.record_values.specs.declared.world.Item.{Item}
use Rattle.record_values.specs.declared.world.Item.TheVariants as items
use Rattle.record_values.specs.declared.world.ItemKey.{ItemKey}
use Rattle.record_values.specs.declared.world.ItemKey.TheVariants as keys
use Rattle.record_values.specs.Names.{is_same_interface, is_same_item}
use Rattle.record_values.specs.Renaming.{renamed_interface}
use Rattle.package_syntax.specs.declared.syntax.Declaration.{Declaration}
use Rattle.package_syntax.specs.declared.syntax.Declaration.TheVariants as declarations
use Rattle.package_types.specs.declared.fault.Cause.{Cause}
use Rattle.package_types.specs.declared.fault.Cause.TheVariants as causes
use Rattle.package_types.specs.declared.scopes.Facts.{Facts}
use Rattle.package_types.specs.declared.scopes.Content.{Content}
use Rattle.package_types.specs.declared.scopes.Entry.{Entry}
use Rattle.package_types.specs.declared.scopes.Entry.TheVariants as entries
use Rattle.package_types.specs.declared.named.Meaning.{Meaning}
use Rattle.package_types.specs.Types.{Checked, ◌>>>◌}
use Rattle.package_types.specs.Functions.{entry_of, function_by}
use Rattle.package_types.specs.Named.{meaning_by, resource, plain_name}
use Rattle.package_types.specs.Instances.{type_name, Positioned, content_of}
use Rattle.wit_packages.specs.declared.fault.Wrong.{Wrong}
use Rattle.wit_packages.specs.declared.fault.Wrong.TheVariants as wrongs
use Rattle.wit_packages.specs.declared.fault.StepFault.{StepFault}
use Rattle.wit_packages.specs.declared.fault.StepFault.TheVariants as faults
use Rattle.wit_packages.specs.declared.state.Side.{Side}
use Rattle.wit_packages.specs.declared.state.Side.TheVariants as sides
use Rattle.wit_packages.specs.declared.state.Instance.{Instance}
use Rattle.wit_packages.specs.declared.state.State.{State}

abbrev pub Step : Type 0 → Type 0
Step A = Result A Wrong

infixl 10 ◌>=>◌
abbrev pub ◌>=>◌ : {A B : Type 0} → Step A → (A → Step B) → Step B
(Ok x) >=> f = f x
(Err e) >=> f = Err e

-- The result of a function, as a view, is that of the definition, unless it is out of memory.
abbrev pub Fails : {Y : Type 0} → StepFault → Step Y → Type 0
Fails faults.Memory read = Unit {0}
Fails (faults.Refused w) read = read ≡ Err w

abbrev pub Gives : {X Y : Type 0} → (X → Y) → Result X StepFault → Step Y → Type 0
Gives view (Ok x) read = read ≡ Ok (view x)
Gives view (Err e) read = Fails e read

-- what is wrong with the declaration itself
abbrev pub own : {A : Type 0} → Checked A → Step A
own (Ok x) = Ok x
own (Err c) = Err (wrongs.Cause c)

-- what is wrong with a declaration of an instance type
abbrev pub within : {A : Type 0} → Positioned A → Step A
within (Ok x) = Ok x
within (Err p) = Err (wrongs.Member p.0 p.1)

-- ---- types

abbrev pub with_entry : State → Entry → State
with_entry s e = record { scope = s.scope ++ e ∷ []; instances = s.instances; interfaces = s.interfaces; imports = s.imports; exports = s.exports }

abbrev pub type_step : State → TypeDef → Step State
type_step s t = own (entry_of s.scope t) >=> λ e. Ok (with_entry s e)

-- The name of an interface that has none yet: that of an instance type, until it is imported or exported.
abbrev pub unnamed : InterfaceName
unnamed = names.Unused 0

abbrev pub instance_type_step : State → InstanceType → Step State
instance_type_step s t = within (content_of s.scope unnamed t.members) >=> λ c. Ok (with_entry s (entries.Instance c))

-- ---- aliases

abbrev pub known_entry : InterfaceName → List ℕ → Option Facts → Checked Entry
known_entry interface name None = Err causes.Index
known_entry interface name (Some facts) = Ok (entries.Name (type_name interface name) facts)

abbrev pub exported_entry : InterfaceName → List ℕ → Option Entry → Checked Entry
exported_entry interface name (Some (entries.Instance c)) = known_entry interface name (lookup (bytes_eq name) c.known)
exported_entry interface name e = Err causes.Index

abbrev pub instance_entry : List Entry → List ℕ → Option Instance → Checked Entry
instance_entry scope name None = Err causes.Index
instance_entry scope name (Some i) = exported_entry i.name name (slice_get scope i.ty)

abbrev pub exported_type : State → ComponentExportKind → ℕ → List ℕ → Checked Entry
exported_type s kinds.Type index name = instance_entry s.scope name (slice_get s.instances index)
exported_type s kinds.Func index name = Err causes.Alias
exported_type s kinds.Component index name = Err causes.Alias
exported_type s kinds.Instance index name = Err causes.Alias

-- an alias of a type of an instance is the name of that type
abbrev pub alias_entry : State → Alias → Checked Entry
alias_entry s (aliases.Export kind index name) = exported_type s kind index name
alias_entry s (aliases.CoreExport kind index name) = Err causes.Alias
alias_entry s (aliases.Outer count index) = Err causes.Alias

abbrev pub alias_step : State → Alias → Step State
alias_step s a = own (alias_entry s a) >=> λ e. Ok (with_entry s e)

-- ---- items

abbrev pub is_key_of : List (ItemKey × Item) → ItemKey → Bool
is_key_of table key = is_some (lookup (is_same_item key) table)

abbrev pub with_import : State → ItemKey → Item → State
with_import s key item = record { scope = s.scope; instances = s.instances; interfaces = s.interfaces; imports = s.imports ++ (key, item) ∷ []; exports = s.exports }

abbrev pub with_export : State → ItemKey → Item → State
with_export s key item = record { scope = s.scope; instances = s.instances; interfaces = s.interfaces; imports = s.imports; exports = s.exports ++ (key, item) ∷ [] }

-- an item of a side, whose key has to be new there
abbrev pub item_step : Side → State → ItemKey → Item → Step State
item_step sides.Import s key item = if is_key_of s.imports key then Err (wrongs.Cause causes.NameTwice) else Ok (with_import s key item)
item_step sides.Export s key item = if is_key_of s.exports key then Err (wrongs.Cause causes.NameTwice) else Ok (with_export s key item)

abbrev pub function_item : List ℕ → Option Entry → Checked Item
function_item name e = function_by name e >>> λ f. Ok (items.Function f)

unfoldable pub function_step : Side → State → ExternName → ℕ → Step State
function_step side s n index =
    own (plain_name n) >=> λ name.
    own (function_item name (slice_get s.scope index)) >=> λ item.
    item_step side s (keys.Name name) item

-- a type of the world; from now on, the next index means its name
abbrev pub world_name : List ℕ → TypeName
world_name name = record { owner = owners.World; name = name }

abbrev pub named_step : State → List ℕ → Meaning → Step State
named_step s name m =
    item_step sides.Import s (keys.Name name) (items.Type m.nodes) >=> λ t.
    Ok (with_entry t (entries.Name (world_name name) m.facts))

unfoldable pub equal_step : State → ExternName → ℕ → Step State
equal_step s n index =
    own (plain_name n) >=> λ name.
    own (meaning_by (slice_get s.scope index)) >=> λ m.
    named_step s name m

unfoldable pub resource_step : State → ExternName → Step State
resource_step s n = own (plain_name n) >=> λ name. named_step s name resource

-- ---- interfaces

-- a name with a colon is an id
abbrev pub has_colon : List ℕ → Bool
has_colon name = list_any (nat_eq 58) name

-- an interface without an id has the name under which it is imported or exported
abbrev pub interface_name : Side → List ℕ → InterfaceName
interface_name sides.Import name = if has_colon name then names.Id name else names.Imported name
interface_name sides.Export name = if has_colon name then names.Id name else names.Exported name

abbrev pub interface_key : List ℕ → ItemKey
interface_key name = if has_colon name then keys.Interface name else keys.Name name

-- an interface, in which its own types have its name
abbrev pub named_interface : InterfaceName → Interface → Interface
named_interface name i = renamed_interface ((unnamed, name) ∷ []) i

abbrev pub with_interface : State → InterfaceName → ℕ → Interface → State
with_interface s name index i = record {
  scope = s.scope;
  instances = s.instances ++ record { name = name; ty = index } ∷ [];
  interfaces = s.interfaces ++ (name, i) ∷ [];
  imports = s.imports;
  exports = s.exports;
}

abbrev pub with_instance : State → InterfaceName → ℕ → State
with_instance s name index = record { scope = s.scope; instances = s.instances ++ record { name = name; ty = index } ∷ []; interfaces = s.interfaces; imports = s.imports; exports = s.exports }

abbrev pub same_interface : Interface → Interface → Bool
same_interface = equality.eq-value.it

-- one that is there already, since it is imported and exported, has to be equal
abbrev pub interface_by : State → InterfaceName → ℕ → Interface → Option Interface → Step State
interface_by s name index i None = Ok (with_interface s name index i)
interface_by s name index i (Some other) = if same_interface other i then Ok (with_instance s name index) else Err wrongs.Different

unfoldable pub interface_step : State → InterfaceName → ℕ → Interface → Step State
interface_step s name index i = interface_by s name index i (lookup (is_same_interface name) s.interfaces)

-- the interface of an instance type, of this name
abbrev pub interface_at : InterfaceName → Option Entry → Checked Interface
interface_at name (Some (entries.Instance c)) = Ok (named_interface name c.interface)
interface_at name e = Err causes.Index

unfoldable pub place_interface : Side → State → ItemKey → InterfaceName → ℕ → Interface → Step State
place_interface side s key name index i =
    interface_step s name index i >=> λ t.
    item_step side t key (items.Interface name)

unfoldable pub instance_step : Side → State → ExternName → ℕ → Step State
instance_step side s n index =
    own (plain_name n) >=> λ name.
    own (interface_at (interface_name side name) (slice_get s.scope index)) >=> λ i.
    place_interface side s (interface_key name) (interface_name side name) index i

-- ---- declarations

abbrev pub import_step : State → ExternName → Description → Step State
import_step s n (descriptions.Func index) = function_step sides.Import s n index
import_step s n (descriptions.TypeEqual index) = equal_step s n index
import_step s n descriptions.SubResource = resource_step s n
import_step s n (descriptions.Instance index) = instance_step sides.Import s n index

abbrev pub export_step : State → ExternName → Description → Step State
export_step s n (descriptions.Func index) = function_step sides.Export s n index
export_step s n (descriptions.TypeEqual index) = Err wrongs.ExportedType
export_step s n descriptions.SubResource = Err wrongs.ExportedType
export_step s n (descriptions.Instance index) = instance_step sides.Export s n index

-- what is said after a declaration
abbrev pub declaration_step : State → Declaration → Step State
declaration_step s (declarations.Type t) = type_step s t
declaration_step s (declarations.InstanceType t) = instance_type_step s t
declaration_step s (declarations.Alias a) = alias_step s a
declaration_step s (declarations.Import n d) = import_step s n d
declaration_step s (declarations.Export n d) = export_step s n d
