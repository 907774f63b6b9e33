-- Interfaces: objects with an id, types and functions. A type may name the types before it, and those of the
-- interfaces before.
use Rattle.std.specs.Prelude.{◌≡◌, ◌≢◌, ℕ, suc, List, [], ◌∷◌, ◌++◌, codes, false, Option, is_some, ok_or, Result, Ok, Err, ⊤, if◌then◌else◌}
use Rattle.std.specs.Fmt.{decimal}
use Rattle.std.specs.Map.{lookup}
use Rattle.std.specs.Str.{bytes_eq}
use Rattle.serde_json.specs.Data.{Data, Items, no_items, item}
use Rattle.serde_json.specs.Find.{as_array}
use Rattle.comp_lists.specs.Tables.{with_first}
use Rattle.json_paths.specs.declared.fault.Failure.{Failure}
use Rattle.json_paths.specs.declared.fault.Failure.TheVariants as failures
use Rattle.json_paths.specs.Faults.{◌>>=◌}
use Rattle.json_paths.specs.Reading.{under, here, at_member, required, only}
use Rattle.record_values.specs.declared.types.Typed.{Typed}
use Rattle.record_values.specs.declared.types.Func.{Func}
use Rattle.record_types.specs.declared.known.TypeFacts.{TypeFacts}
use Rattle.record_types.specs.declared.known.ReadInterface.{ReadInterface}
use Rattle.record_types.specs.Scopes.{Table, Names}
use Rattle.record_types.specs.Named.{named_type_of}
use Rattle.record_types.specs.Functions.{function_of}
use Rattle.record_types.specs.Ids.{id_of}

-- What a state became, unless memory ran out.
abbrev pub Becomes : {S : Type 0} → Result ⊤ Failure → S → Result S Failure → Type 0
Becomes (Ok x) s read = read ≡ Ok s
Becomes (Err e) s read = e ≢ failures.Memory → read ≡ Err e

-- what may be named in an interface with these types so far
abbrev pub inside : List ReadInterface → Table → Names
inside done known = record { done = done; current = known; is_world = false }

-- a name and what is known of it, added to the known names
unfoldable pub with_known : Table → List ℕ → TypeFacts → Table
with_known known name facts = with_first bytes_eq known name facts

-- types, and what is known of them
abbrev pub Types : Type 0
Types = List Typed × Table

-- the type at an index, after these
unfoldable pub next_type : List ReadInterface → ℕ → Data → Types → Result Types Failure
next_type done i d so_far = do
  t ← under (decimal i) (named_type_of (inside done so_far.1) d)
  Ok (so_far.0 ++ t.0 ∷ [], with_known so_far.1 t.0.name t.1)

-- types after these; the first of them is at this index
abbrev pub types_from : List ReadInterface → ℕ → Items → Types → Result Types Failure
types_from done i no_items so_far = Ok so_far
types_from done i (item d ds) so_far = do
  more ← next_type done i d so_far
  types_from done (suc i) ds more

unfoldable pub types_of : List ReadInterface → Data → Result Types Failure
types_of done d = do
  ds ← ok_or (as_array d) here
  types_from done 0 ds ([], [])

-- names of functions
abbrev pub Seen : Type 0
Seen = List (List ℕ × ⊤)

-- a name, added to the names so far
unfoldable pub with_name : Seen → List ℕ → Seen
with_name seen name = with_first bytes_eq seen name tt

-- a function whose name is none of these
unfoldable pub new_function : Names → Seen → Data → Result Func Failure
new_function k seen d = do
  f ← function_of k d
  if is_some (lookup (bytes_eq f.name) seen) then Err (at_member (codes "name")) else Ok f

-- functions, and their names
abbrev pub Functions : Type 0
Functions = List Func × Seen

-- the function at an index, after these
unfoldable pub next_function : Names → ℕ → Data → Functions → Result Functions Failure
next_function k i d so_far = do
  f ← under (decimal i) (new_function k so_far.1 d)
  Ok (so_far.0 ++ f ∷ [], with_name so_far.1 f.name)

-- functions after these; the first of them is at this index
abbrev pub functions_from : Names → ℕ → Items → Functions → Result (List Func) Failure
functions_from k i no_items so_far = Ok so_far.0
functions_from k i (item d ds) so_far = do
  more ← next_function k i d so_far
  functions_from k (suc i) ds more

unfoldable pub functions_of : Names → Data → Result (List Func) Failure
functions_of k d = do
  ds ← ok_or (as_array d) here
  functions_from k 0 ds ([], [])

-- the members of an interface: its id, its types and its functions
unfoldable pub members_of : Data → Result (Data × Data × Data) Failure
members_of d = do
  _ ← only (codes "id" ∷ codes "types" ∷ codes "functions" ∷ []) d
  id ← required (codes "id") d
  types ← required (codes "types") d
  functions ← required (codes "functions") d
  Ok (id, types, functions)

abbrev pub interface : Option (List ℕ) → List Typed → List Func → Table → ReadInterface
interface id types functions known = record { id = id; types = types; functions = functions; known = known }

-- an interface after these
unfoldable pub interface_of : List ReadInterface → Data → Result ReadInterface Failure
interface_of done d = do
  m ← members_of d
  id ← under (codes "id") (id_of m.0)
  ts ← under (codes "types") (types_of done m.1)
  fs ← under (codes "functions") (functions_of (inside done ts.1) m.2)
  Ok (interface id ts.0 fs ts.1)

-- interfaces after these; the first of them is at this index
abbrev pub interfaces_from : ℕ → Items → List ReadInterface → Result (List ReadInterface) Failure
interfaces_from i no_items done = Ok done
interfaces_from i (item d ds) done = do
  one ← under (decimal i) (interface_of done d)
  interfaces_from (suc i) ds (done ++ one ∷ [])

unfoldable pub interfaces_of : Data → Result (List ReadInterface) Failure
interfaces_of d = do
  ds ← ok_or (as_array d) here
  interfaces_from 0 ds []
