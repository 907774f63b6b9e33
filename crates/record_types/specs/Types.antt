-- Which type a value of JSON is: the name of a primitive type, or an object with one member, which
-- says what the type is made of. Its nodes are appended to those so far, each node after its parts.
use Rattle.std.specs.Prelude.{◌≡◌, ◌≢◌, ℕ, zero, suc, nat_lt, length, List, [], ◌∷◌, ◌++◌, codes, Bool, not, Option, Some, None, is_some, ok_or, option_and_then, Result, Ok, Err, if◌then◌else◌}
use Rattle.std.specs.Fmt.{decimal}
use Rattle.std.specs.Str.{bytes_eq}
use Rattle.serde_json.specs.Data.{Data, Items, no_items, item}
use Rattle.serde_json.specs.Find.{as_str, as_null, as_array}
use Rattle.json_paths.specs.declared.fault.Failure.{Failure}
use Rattle.json_paths.specs.declared.fault.Failure.TheVariants as failures
use Rattle.json_paths.specs.Faults.{◌>>=◌}
use Rattle.json_paths.specs.Reading.{under, here, left_out, text_of, single, pair_of, items_from}
use Rattle.record_values.specs.declared.names.TypeName.{TypeName}
use Rattle.record_values.specs.declared.types.Case.{Case}
use Rattle.record_values.specs.declared.types.Node.{Node}
use Rattle.record_values.specs.declared.types.Node.TheVariants as nodes
use Rattle.record_types.specs.declared.known.Size.{Size}
use Rattle.record_types.specs.Scopes.{Names}
use Rattle.record_types.specs.Sizes.{nothing, absent, simple, combined, above}
use Rattle.record_types.specs.References.{reference_of}
use Rattle.record_types.specs.Primitives.{primitive_of}

-- What a function returned together with a state, unless memory ran out.
abbrev pub GivesWith : {X S : Type 0} → Result X Failure → S → Result (X × S) Failure → Type 0
GivesWith (Ok x) s read = read ≡ Ok (x, s)
GivesWith (Err e) s read = e ≢ failures.Memory → read ≡ Err e

-- what was read, and the nodes then
abbrev pub With : Type 0 → Type 0
With A = Result (A × List Node) Failure

abbrev pub Reader : Type 0
Reader = Data → List Node → With Size

-- a node after its parts, which have this size together
abbrev pub after_parts : Node → Size → List Node → With Size
after_parts node parts ns = do
  size ← above parts
  Ok (size, ns ++ node ∷ [])

-- a node without parts
abbrev pub alone : Node → List Node → With Size
alone node ns = Ok (simple, ns ++ node ∷ [])

abbrev pub is_part : Data → Bool
is_part d = not (is_some (as_null d))

-- a part that may be null
abbrev pub part_of : Reader → Reader
part_of read d ns = if is_some (as_null d) then Ok (absent, ns) else read d ns

abbrev pub some_of : Items → Result Items Failure
some_of no_items = Err here
some_of (item a ds) = Ok (item a ds)

-- an array with at least one item
unfoldable pub some_items : Data → Result Items Failure
some_items d = do
  ds ← ok_or (as_array d) here
  some_of ds

abbrev pub item_count : Items → ℕ
item_count no_items = 0
item_count (item d ds) = suc (item_count ds)

-- a type with one part, where its other parts have this size
abbrev pub holding_of : Node → Size → Reader → Reader
holding_of node others read d ns = do
  part ← read d ns
  after_parts node (combined others part.0) part.1

-- a type with one part, which may be null
abbrev pub carrying_of : Node → Reader → Reader
carrying_of node read d ns = do
  part ← part_of read d ns
  after_parts node part.0 part.1

unfoldable pub result_of : Reader → Reader
result_of read d ns = do
  p ← ok_or (option_and_then pair_of (as_array d)) here
  good ← under (codes "0") (part_of read p.0 ns)
  bad ← under (codes "1") (part_of read p.1 good.1)
  after_parts (nodes.«Result» (is_part p.0) (is_part p.1)) (combined good.0 bad.0) bad.1

-- the parts of a tuple, after parts that have this size together; the first of them at this index
abbrev pub tuple_from : Reader → ℕ → Items → Size → List Node → With Size
tuple_from read i no_items size ns = Ok (size, ns)
tuple_from read i (item d ds) size ns = do
  part ← under (decimal i) (read d ns)
  tuple_from read (suc i) ds (combined size part.0) part.1

unfoldable pub tuple_of : Reader → Reader
tuple_of read d ns = do
  ds ← some_items d
  parts ← tuple_from read 0 ds nothing ns
  after_parts (nodes.Tuple (item_count ds)) parts.0 parts.1

-- a field: an array of its name and its type
unfoldable pub field_of : Reader → Data → List Node → With (List ℕ × Size)
field_of read d ns = do
  p ← ok_or (option_and_then pair_of (as_array d)) here
  name ← under (codes "0") (text_of p.0)
  part ← under (codes "1") (read p.1 ns)
  Ok ((name, part.0), part.1)

-- a record with fields after these
abbrev pub fields_from : Reader → ℕ → Items → List (List ℕ) → Size → List Node → With Size
fields_from read i no_items names size ns = after_parts (nodes.Record names) size ns
fields_from read i (item d ds) names size ns = do
  f ← under (decimal i) (field_of read d ns)
  fields_from read (suc i) ds (names ++ f.0.0 ∷ []) (combined size f.0.1) f.1

unfoldable pub record_of : Reader → Reader
record_of read d ns = do
  ds ← some_items d
  fields_from read 0 ds [] nothing ns

abbrev pub new_case : List ℕ → Bool → Case
new_case name has = record { name = name; has_type = has }

-- a case: an array of its name and its type or null
unfoldable pub case_of : Reader → Data → List Node → With (Case × Size)
case_of read d ns = do
  p ← ok_or (option_and_then pair_of (as_array d)) here
  name ← under (codes "0") (text_of p.0)
  part ← under (codes "1") (part_of read p.1 ns)
  Ok ((new_case name (is_part p.1), part.0), part.1)

-- a variant with cases after these
abbrev pub cases_from : Reader → ℕ → Items → List Case → Size → List Node → With Size
cases_from read i no_items cases size ns = after_parts (nodes.Variant cases) size ns
cases_from read i (item d ds) cases size ns = do
  c ← under (decimal i) (case_of read d ns)
  cases_from read (suc i) ds (cases ++ c.0.0 ∷ []) (combined size c.0.1) c.1

unfoldable pub variant_of : Reader → Reader
variant_of read d ns = do
  ds ← some_items d
  cases_from read 0 ds [] nothing ns

-- the labels of an enum, or of flags
unfoldable pub labels_of : Data → Result (List (List ℕ)) Failure
labels_of d = do
  ds ← some_items d
  items_from text_of 0 ds

abbrev pub enum_of : Reader
enum_of d ns = do
  labels ← labels_of d
  alone (nodes.Enum labels) ns

-- flags have at most 32 labels
abbrev pub flags_of : Reader
flags_of d ns = do
  labels ← labels_of d
  if nat_lt 32 (length labels) then Err (left_out (codes "flags")) else alone (nodes.Flags labels) ns

-- a resource, or another name for one
unfoldable pub resource_of : Names → Data → Result (TypeName × Size) Failure
resource_of k d = do
  r ← reference_of k d
  if r.1.ends_at_resource then Ok (r.0, r.1.size) else Err here

abbrev pub own_of : Names → Reader
own_of k d ns = do
  r ← resource_of k d
  after_parts (nodes.Own r.0) r.1 ns

abbrev pub borrow_of : Names → Reader
borrow_of k d ns = do
  r ← resource_of k d
  after_parts (nodes.Borrow r.0) r.1 ns

-- a named type in use has the size that it has
abbrev pub ref_of : Names → Reader
ref_of k d ns = do
  r ← reference_of k d
  Ok (r.1.size, ns ++ nodes.Named r.0 ∷ [])

-- a type without inner types that are written in it
abbrev pub plain_of : Names → List ℕ → Reader
plain_of k key d ns =
    if bytes_eq key (codes "enum") then enum_of d ns
    else if bytes_eq key (codes "flags") then flags_of d ns
    else if bytes_eq key (codes "own") then own_of k d ns
    else if bytes_eq key (codes "borrow") then borrow_of k d ns
    else if bytes_eq key (codes "ref") then ref_of k d ns
    else Err here

-- a type by the name and the value of its one member; the none of an option is a part too
abbrev pub kind_of : Names → Reader → List ℕ → Reader
kind_of k read key d ns =
    if bytes_eq key (codes "list") then holding_of nodes.«List» nothing read d ns
    else if bytes_eq key (codes "option") then holding_of nodes.«Option» absent read d ns
    else if bytes_eq key (codes "result") then result_of read d ns
    else if bytes_eq key (codes "tuple") then tuple_of read d ns
    else if bytes_eq key (codes "record") then record_of read d ns
    else if bytes_eq key (codes "variant") then variant_of read d ns
    else if bytes_eq key (codes "stream") then carrying_of (nodes.Stream (is_part d)) read d ns
    else if bytes_eq key (codes "future") then carrying_of (nodes.Future (is_part d)) read d ns
    else plain_of k key d ns

abbrev pub primitive_type : List ℕ → List Node → With Size
primitive_type s ns = do
  p ← ok_or (primitive_of s) here
  alone (nodes.Primitive p) ns

-- the name of the member is one part of the path
unfoldable pub member_of : Names → Reader → List ℕ → Reader
member_of k read key d ns = under key (kind_of k read key d ns)

abbrev pub compound_of : Names → Reader → Option (List ℕ × Data) → List Node → With Size
compound_of k read None ns = Err here
compound_of k read (Some m) ns = member_of k read m.0 m.1 ns

abbrev pub type_by : Names → Reader → Option (List ℕ) → Reader
type_by k read (Some s) d ns = primitive_type s ns
type_by k read None d ns = compound_of k read (single d) ns

-- the type, of at most this many levels
unfoldable pub type_of : ℕ → Names → Reader
type_of zero k d ns = Err (left_out (codes "type depth"))
type_of (suc n) k d ns = type_by k (type_of n k) (as_str d) d ns

-- the nodes of a type
unfoldable pub nodes_of : Names → Data → Result (List Node) Failure
nodes_of k d = do
  t ← type_of 100 k d []
  Ok t.1
