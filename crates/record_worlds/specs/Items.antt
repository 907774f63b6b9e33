-- The items of a world in a record: `imports` and `exports`, lists of {"func": F}, of {"type":
-- {"name", "type"}} (imports only), of {"interface": i} for an interface with an id, and of
-- {"name", "interface": i} for one without, where i is an index in the record's `interfaces`.
use Rattle.std.specs.Prelude.{ℕ, suc, nat_eq, Bool, true, List, [], ◌∷◌, ◌++◌, codes, Option, Some, None, is_some, ok_or, option_and_then, Result, Ok, Err, if◌then◌else◌}
use Rattle.std.specs.List.{list_any, slice_get}
use Rattle.std.specs.Fmt.{decimal}
use Rattle.std.specs.Str.{bytes_eq}
use Rattle.serde_json.specs.Data.{Data, Items, no_items, item}
use Rattle.serde_json.specs.Find.{get, as_array, as_number, as_u64}
use Rattle.comp_lists.specs.Tables.{with_first}
use Rattle.json_paths.specs.declared.fault.Failure.{Failure}
use Rattle.json_paths.specs.Faults.{◌>>=◌}
use Rattle.json_paths.specs.Reading.{under, here, at_member, required, text_of, only, below}
use Rattle.record_types.specs.declared.known.TypeFacts.{TypeFacts}
use Rattle.record_types.specs.declared.known.ReadInterface.{ReadInterface}
use Rattle.record_types.specs.Scopes.{Names}
use Rattle.record_types.specs.Functions.{function_of}
use Rattle.record_types.specs.Named.{named_type_of}
use Rattle.record_types.specs.Interfaces.{interfaces_of}
use Rattle.record_values.specs.declared.types.Func.{Func}
use Rattle.record_values.specs.declared.types.Typed.{Typed}
use Rattle.record_values.specs.declared.names.InterfaceName.TheVariants as names
use Rattle.record_values.specs.declared.world.ItemKey.{ItemKey}
use Rattle.record_values.specs.declared.world.ItemKey.TheVariants as keys
use Rattle.record_values.specs.declared.world.Item.TheVariants as items
use Rattle.record_values.specs.Names.{key_text}
use Rattle.record_sides.specs.declared.sides.Side.{Side}
use Rattle.record_sides.specs.declared.sides.Side.TheVariants as sides
use Rattle.record_worlds.specs.declared.items.ReadItem.{ReadItem}
use Rattle.record_worlds.specs.declared.items.ReadItems.{ReadItems}
use Rattle.record_worlds.specs.declared.items.WorldItems.{WorldItems}

-- types by name, with what is known of them
abbrev pub Types : Type 0
Types = List (List ℕ × TypeFacts)

-- a function and a type of the world, which may name the types of these interfaces, and these types of the world
abbrev pub in_world : List ReadInterface → Types → Names
in_world is ts = record { done = is; current = ts; is_world = true }

abbrev pub world_function : List ReadInterface → Types → Data → Result Func Failure
world_function is ts d = function_of (in_world is ts) d

abbrev pub world_type : List ReadInterface → Types → Data → Result (Typed × TypeFacts) Failure
world_type is ts d = named_type_of (in_world is ts) d

unfoldable pub function_item : List ReadInterface → Types → Data → Result ReadItem Failure
function_item is ts d = do
  _ ← only (codes "func" ∷ []) d
  v ← required (codes "func") d
  f ← under (codes "func") (world_function is ts v)
  Ok (record { key = keys.Name f.name; item = items.Function f; facts = None })

unfoldable pub type_item : List ReadInterface → Types → Data → Result ReadItem Failure
type_item is ts d = do
  _ ← only (codes "type" ∷ []) d
  v ← required (codes "type") d
  t ← under (codes "type") (world_type is ts v)
  Ok (record { key = keys.Name t.0.name; item = items.Type t.0.nodes; facts = Some t.1 })

-- the index of an interface is a whole number below 2^32
unfoldable pub index_of : Data → Result ℕ Failure
index_of d = below 4294967296 (option_and_then as_u64 (as_number d))

abbrev pub holds_colon : List ℕ → Bool
holds_colon bytes = list_any (nat_eq 58) bytes

-- a name that is not an id
unfoldable pub plain_name_of : Data → Result (List ℕ) Failure
plain_name_of d = do
  name ← text_of d
  if holds_colon name then Err here else Ok name

abbrev pub name_without : Option (List ℕ) → List ℕ → Result ItemKey Failure
name_without None name = Ok (keys.Name name)
name_without (Some id) name = Err (at_member (codes "interface"))

-- an interface that has a name here has no id
unfoldable pub named_key : Option (List ℕ) → Data → Result ItemKey Failure
named_key id d = do
  name ← under (codes "name") (plain_name_of d)
  name_without id name

abbrev pub id_key : Option (List ℕ) → Result ItemKey Failure
id_key None = Err (at_member (codes "interface"))
id_key (Some id) = Ok (keys.Interface id)

-- the key of an interface: the name that is given here, or else its id
abbrev pub key_of : Option (List ℕ) → Option Data → Result ItemKey Failure
key_of id None = id_key id
key_of id (Some v) = named_key id v

abbrev pub interface_at : List ReadInterface → ℕ → Result ReadInterface Failure
interface_at is index = ok_or (slice_get is index) (at_member (codes "interface"))

unfoldable pub interface_item : List ReadInterface → Data → Result ReadItem Failure
interface_item is d = do
  _ ← only (codes "interface" ∷ codes "name" ∷ []) d
  v ← required (codes "interface") d
  index ← under (codes "interface") (index_of v)
  x ← interface_at is index
  key ← key_of x.id (get (codes "name") d)
  Ok (record { key = key; item = items.Interface (names.Unused index); facts = None })

-- types are imported only
abbrev pub other_item : Side → List ReadInterface → Types → Data → Result ReadItem Failure
other_item sides.Export is ts d = interface_item is d
other_item sides.Import is ts d = if is_some (get (codes "type") d) then type_item is ts d else interface_item is d

abbrev pub item_of : Side → List ReadInterface → Types → Data → Result ReadItem Failure
item_of side is ts d = if is_some (get (codes "func") d) then function_item is ts d else other_item side is ts d

-- the types of the world after an item was read
abbrev pub with_facts : Types → ItemKey → Option TypeFacts → Types
with_facts ts key None = ts
with_facts ts key (Some facts) = with_first bytes_eq ts (key_text key) facts

abbrev pub with_type : Types → ReadItem → Types
with_type ts x = with_facts ts x.key x.facts

-- items with the one at this index, which may name the world's types before it
unfoldable pub with_read : Side → List ReadInterface → ℕ → ReadItems → Data → Result ReadItems Failure
with_read side is i read d = do
  x ← under (decimal i) (item_of side is read.types d)
  Ok (record { items = read.items ++ x ∷ []; types = with_type read.types x })

-- items, after these; the first is at this index
abbrev pub items_from : Side → List ReadInterface → ℕ → ReadItems → Items → Result ReadItems Failure
items_from side is i read no_items = Ok read
items_from side is i read (item d ds) = do
  more ← with_read side is i read d
  items_from side is (suc i) more ds

unfoldable pub items_of : Side → List ReadInterface → Types → Data → Result ReadItems Failure
items_of side is ts d = do
  ds ← ok_or (as_array d) here
  items_from side is 0 (record { items = []; types = ts }) ds

-- a side that may be left out
abbrev pub items_if : Side → List ReadInterface → Types → List ℕ → Option Data → Result ReadItems Failure
items_if side is ts key None = Ok (record { items = []; types = ts })
items_if side is ts key (Some v) = under key (items_of side is ts v)

abbrev pub interfaces_if : Option Data → Result (List ReadInterface) Failure
interfaces_if None = Ok []
interfaces_if (Some v) = under (codes "interfaces") (interfaces_of v)

-- these interfaces, and the items of both sides: the types of the world may be named by all exports
abbrev pub sides_read : List ReadInterface → Option Data → Option Data → Result WorldItems Failure
sides_read is imports exports = do
  ims ← items_if sides.Import is [] (codes "imports") imports
  exs ← items_if sides.Export is ims.types (codes "exports") exports
  Ok (record { interfaces = is; imports = ims.items; exports = exs.items })

-- the interfaces of a record, and the items of its world
unfoldable pub world_items_of : Data → Result WorldItems Failure
world_items_of d = do
  is ← interfaces_if (get (codes "interfaces") d)
  sides_read is (get (codes "imports") d) (get (codes "exports") d)
