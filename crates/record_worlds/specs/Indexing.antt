-- The interfaces of a record by index: the name, the sides of the world that have the interface, and its types and
-- functions by name.
use Rattle.std.specs.Prelude.{ℕ, suc, Bool, List, [], ◌∷◌, is_some}
use Rattle.std.specs.Str.{bytes_eq}
use Rattle.std.specs.Map.{lookup}
use Rattle.comp_lists.specs.Tables.{with_first}
use Rattle.record_types.specs.declared.known.TypeFacts.{TypeFacts}
use Rattle.record_types.specs.declared.known.ReadInterface.{ReadInterface}
use Rattle.record_values.specs.declared.types.Func.{Func}
use Rattle.record_values.specs.Names.{is_same_interface}
use Rattle.record_values.specs.Renaming.{Renames, renamed}
use Rattle.record_sides.specs.declared.indexed.IndexedInterface.{IndexedInterface}
use Rattle.record_worlds.specs.Naming.{index_name}
use Rattle.record_worlds.specs.Tables.{InterfaceSet}

-- types by name, after these, and of each whether it is a resource itself
abbrev pub types_after : List (List ℕ × Bool) → List (List ℕ × TypeFacts) → List (List ℕ × Bool)
types_after table [] = table
types_after table (e ∷ es) = types_after (with_first bytes_eq table e.0 e.1.is_resource) es

abbrev pub types_of : List (List ℕ × TypeFacts) → List (List ℕ × Bool)
types_of known = types_after [] known

-- functions by name, after these, each with its index; the first of them has this one
abbrev pub functions_from : List (List ℕ × ℕ) → ℕ → List Func → List (List ℕ × ℕ)
functions_from table i [] = table
functions_from table i (f ∷ fs) = functions_from (with_first bytes_eq table f.name i) (suc i) fs

abbrev pub functions_of : List Func → List (List ℕ × ℕ)
functions_of fs = functions_from [] 0 fs

-- the interface at an index, where these are imported and these exported
abbrev pub indexed : Renames → InterfaceSet → InterfaceSet → ℕ → ReadInterface → IndexedInterface
indexed ns ims exs i x = record {
  name = renamed ns (index_name i);
  is_imported = is_some (lookup (is_same_interface (renamed ns (index_name i))) ims);
  is_exported = is_some (lookup (is_same_interface (renamed ns (index_name i))) exs);
  types = types_of x.known;
  functions = functions_of x.functions;
}

abbrev pub indexed_from : Renames → InterfaceSet → InterfaceSet → ℕ → List ReadInterface → List IndexedInterface
indexed_from ns ims exs i [] = []
indexed_from ns ims exs i (x ∷ xs) = indexed ns ims exs i x ∷ indexed_from ns ims exs (suc i) xs
