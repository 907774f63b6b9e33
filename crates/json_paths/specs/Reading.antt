-- Members of JSON objects and items of arrays, with the path of the first fault (RFC 8259, RFC 6901). A
-- record that can't be read is refused with the path of the value that is wrong: a member that is missing or
-- unknown has its own path.
use Rattle.std.specs.Prelude.{⊤, ℕ, suc, nat_lt, Bool, false, List, [], ◌∷◌, ◌++◌, Option, Some, None, ok_or, option_and_then, Result, Ok, Err, if◌then◌else◌}
use Rattle.std.specs.List.{list_any}
use Rattle.std.specs.Fmt.{decimal}
use Rattle.std.specs.Str.{bytes_eq, is_utf8}
use Rattle.serde_json.specs.Data.{Data, Items, no_items, item, Members, no_members, member}
use Rattle.serde_json.specs.Find.{get, as_str, as_bool, as_number, as_u64, as_array, as_object}
use Rattle.serde_json.specs.Read.{read}
use Rattle.json_paths.specs.declared.fault.Failure.{Failure}
use Rattle.json_paths.specs.declared.fault.Failure.TheVariants as failures
use Rattle.json_paths.specs.declared.fault.Refusal.{Refusal}
use Rattle.json_paths.specs.declared.fault.Refusal.TheVariants as refusals
use Rattle.json_paths.specs.Faults.{◌>>=◌}
use Rattle.json_paths.specs.Paths.{escaped}

-- a failure below one part of a path: the part is put before the failure's path
unfoldable pub under_refusal : List ℕ → Refusal → Refusal
under_refusal part (refusals.Record path) = refusals.Record (47 ∷ escaped part ++ path)
under_refusal part other = other

abbrev pub under_failure : List ℕ → Failure → Failure
under_failure part failures.Memory = failures.Memory
under_failure part (failures.Refused r) = failures.Refused (under_refusal part r)

abbrev pub under : {A : Type 0} → List ℕ → Result A Failure → Result A Failure
under part (Ok x) = Ok x
under part (Err e) = Err (under_failure part e)

-- a fault at the value itself
abbrev pub here : Failure
here = failures.Refused (refusals.Record [])

-- a fault at a member
abbrev pub at_member : List ℕ → Failure
at_member key = failures.Refused (refusals.Record (47 ∷ escaped key ++ []))

-- what isn't supported yet
abbrev pub left_out : List ℕ → Failure
left_out what = failures.Refused (refusals.LeftOut what)

-- a required member
unfoldable pub required : List ℕ → Data → Result Data Failure
required key d = ok_or (get key d) (at_member key)

unfoldable pub text_of : Data → Result (List ℕ) Failure
text_of d = ok_or (as_str d) here

-- each member has one of these names
abbrev pub known : List (List ℕ) → Members → Result ⊤ Failure
known keys no_members = Ok tt
known keys (member k d ms) = if list_any (bytes_eq k) keys then known keys ms else Err (at_member k)

-- an object with no other members
unfoldable pub only : List (List ℕ) → Data → Result ⊤ Failure
only keys d = do
  ms ← ok_or (as_object d) here
  known keys ms

-- a required text
abbrev pub text_at : List ℕ → Data → Result (List ℕ) Failure
text_at key d = do
  v ← required key d
  under key (text_of v)

unfoldable pub bool_of : Data → Result Bool Failure
bool_of d = ok_or (as_bool d) here

-- a truth value, false where it is left out
abbrev pub bool_if : List ℕ → Option Data → Result Bool Failure
bool_if key None = Ok false
bool_if key (Some v) = under key (bool_of v)

abbrev pub below : ℕ → Option ℕ → Result ℕ Failure
below limit None = Err here
below limit (Some n) = if nat_lt n limit then Ok n else Err here

-- a whole number below a limit
unfoldable pub number_of : ℕ → Data → Result ℕ Failure
number_of limit d = below limit (option_and_then as_u64 (as_number d))

abbrev pub single_of : Members → Option (List ℕ × Data)
single_of no_members = None
single_of (member k d no_members) = Some (k, d)
single_of (member k d (member l e ms)) = None

-- the one member of an object that has one
abbrev pub single : Data → Option (List ℕ × Data)
single d = option_and_then single_of (as_object d)

-- the items of an array of two
abbrev pub pair_of : Items → Option (Data × Data)
pair_of no_items = None
pair_of (item a no_items) = None
pair_of (item a (item b no_items)) = Some (a, b)
pair_of (item a (item b (item c ds))) = None

-- the items of an array, the first of them at this index
abbrev pub items_from : {A : Type 0} → (Data → Result A Failure) → ℕ → Items → Result (List A) Failure
items_from read i no_items = Ok []
items_from read i (item d ds) = do
  x ← under (decimal i) (read d)
  xs ← items_from read (suc i) ds
  Ok (x ∷ xs)

-- an array
unfoldable pub list_of : {A : Type 0} → (Data → Result A Failure) → Data → Result (List A) Failure
list_of read d = do
  ds ← ok_or (as_array d) here
  items_from read 0 ds

-- an array that may be left out
abbrev pub list_if : {A : Type 0} → (Data → Result A Failure) → List ℕ → Option Data → Result (List A) Failure
list_if read key None = Ok []
list_if read key (Some v) = under key (list_of read v)

abbrev pub list_at : {A : Type 0} → (Data → Result A Failure) → List ℕ → Data → Result (List A) Failure
list_at read key d = list_if read key (get key d)

-- the value of JSON that bytes encode
abbrev pub data_of : List ℕ → Result Data Failure
data_of bytes = ok_or (if is_utf8 bytes then read bytes else None) (failures.Refused refusals.Json)
