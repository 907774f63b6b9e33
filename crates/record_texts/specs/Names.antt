-- Names in a record: an interface is its index in the record's list, and null is the world.
use Rattle.std.specs.Prelude.{ℕ, List, [], ◌∷◌, Option, Some, None}
use Rattle.std.specs.Map.{lookup}
use Rattle.serde_json.specs.Data.{Data, null, number, unsigned, string, array, object, item, no_items, member, no_members}
use Rattle.record_values.specs.declared.names.InterfaceName.{InterfaceName}
use Rattle.record_values.specs.declared.names.Owner.{Owner}
use Rattle.record_values.specs.declared.names.Owner.TheVariants as owners
use Rattle.record_values.specs.declared.names.TypeName.{TypeName}
use Rattle.record_values.specs.Names.{is_same_interface}

-- interfaces with their indices
abbrev pub Indices : Type 0
Indices = List (InterfaceName × ℕ)

abbrev pub index_data : Option ℕ → Data
index_data None = null
index_data (Some index) = number (unsigned index)

abbrev pub interface_index : Indices → InterfaceName → Data
interface_index is name = index_data (lookup (is_same_interface name) is)

abbrev pub owner_data : Indices → Owner → Data
owner_data is owners.World = null
owner_data is (owners.Interface name) = interface_index is name

-- arrays of two, three and four values, and an object with one member
abbrev pub pair : Data → Data → Data
pair a b = array (item a (item b no_items))

abbrev pub triple : Data → Data → Data → Data
triple a b c = array (item a (item b (item c no_items)))

abbrev pub quadruple : Data → Data → Data → Data → Data
quadruple a b c d = array (item a (item b (item c (item d no_items))))

abbrev pub only : List ℕ → Data → Data
only key d = object (member key d no_members)

-- [interface or null, name]
abbrev pub type_name_data : Indices → TypeName → Data
type_name_data is t = pair (owner_data is t.owner) (string t.name)
