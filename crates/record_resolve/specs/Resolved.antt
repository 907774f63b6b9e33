-- From the names in records to a resolve with one world. Types are made in this order:
--
-- 1. those of the imported interfaces, in the order of the imports; of each its types in order, then its functions;
-- 2. those of the world's own imported types and functions, in the order of the imports;
-- 3. those of the exported interfaces, which are copies of their own: first of those that are imported too, in the order
--    of the imports, then of the others, in the order in which the record has its interfaces;
-- 4. those of the exported functions, in the order of the exports.
--
-- So the names of a sound record refer to types that are made earlier; any other name refers to
-- nothing. The type to which a function belongs by its own name may come later, or be none.
use Rattle.std.specs.Prelude.{◌≡◌, ◌≢◌, ◌<◌, ℕ, length, List, [], ◌∷◌, Result, Ok, Err}
use Rattle.std.specs.List.{AllByRecursion}
use Rattle.json_paths.specs.declared.fault.Failure.{Failure}
use Rattle.json_paths.specs.declared.fault.Failure.TheVariants as failures
use Rattle.json_paths.specs.Faults.{◌>>=◌}
use Rattle.wit_data.specs.declared.functions.Function.{Function}
use Rattle.wit_data.specs.declared.resolve.Interface.{Interface}
use Rattle.wit_data.specs.declared.resolve.Resolve.{Resolve}
use Rattle.wit_data.specs.Sound.{IsSound, HasInterface}
use Rattle.record_values.specs.declared.world.Wit.{Wit}
use Rattle.record_values.specs.Interfaces.{Interfaces, interfaces_after}
use Rattle.record_resolve.specs.declared.making.Making.{Making}
use Rattle.record_resolve.specs.declared.making.Side.TheVariants as sides
use Rattle.record_resolve.specs.declared.resolving.Resolved.{Resolved}
use Rattle.record_resolve.specs.Steps.{nowhere}
use Rattle.record_resolve.specs.declared.interfaces.MadeInterfaces.{MadeInterfaces}
use Rattle.wit_data.specs.declared.worlds.World.{World}
use Rattle.wit_data.specs.declared.worlds.WorldItem.{WorldItem}
use Rattle.wit_data.specs.declared.worlds.WorldItem.TheVariants as items
use Rattle.wit_data.specs.declared.worlds.WorldKey.{WorldKey}
use Rattle.wit_data.specs.declared.worlds.WorldKey.TheVariants as keys
use Rattle.record_resolve.specs.Worlds.{Ids, Items, all_named, exported_of, all_items}
use Rattle.record_resolve.specs.InterfaceKeys.{keys_after}

abbrev pub nothing_made : Interfaces → Making
nothing_made exported = record { exported = exported; imported_types = []; exported_types = []; types = []; unnamed = [] }

abbrev pub resolve_of : Items → Items → MadeInterfaces → Making → Resolve
resolve_of imports exports made m = record { interfaces = made.interfaces; types = m.types; worlds = record { imports = imports; exports = exports } ∷ [] }

-- a resolve with one world, its interfaces by name, and their first keys
abbrev pub whole_of : Items → Items → MadeInterfaces → Making → Ids → Resolved
whole_of imports exports made m imported =
    record { resolve = resolve_of imports exports made m; imported = imported; exported = made.ids; imported_keys = keys_after [] imports; exported_keys = keys_after [] exports }

-- what is imported: interfaces, and the items of the world
unfoldable pub imports_of : Interfaces → Wit → MadeInterfaces × Making → Result (Items × MadeInterfaces × Making) Failure
imports_of imported w so_far = do
  made ← all_named sides.Imported w.interfaces imported so_far
  items ← all_items sides.Imported made.0.ids w.imports made.1
  Ok (items.0, made.0, items.1)

-- what is exported: the copies of interfaces, and the items of the world
unfoldable pub exports_of : Interfaces → Wit → MadeInterfaces × Making → Result (Items × MadeInterfaces × Making) Failure
exports_of imported w so_far = do
  made ← exported_of imported w.interfaces so_far
  items ← all_items sides.Exported made.0.ids w.exports made.1
  Ok (items.0, made.0, items.1)

-- what a step returns, paired with a value
abbrev pub paired : {A B : Type 0} → A → Result B Failure → Result (A × B) Failure
paired value step = step >>= λ x. Ok (value, x)

-- what is exported, after what is imported
unfoldable pub resolved_after : Interfaces → Wit → Items → MadeInterfaces → Making → Result Resolved Failure
resolved_after imported w imports made m = do
  outs ← exports_of imported w (record { interfaces = made.interfaces; ids = [] }, m)
  Ok (whole_of imports outs.0 outs.1 outs.2 made.ids)

unfoldable pub resolved_among : Interfaces → Interfaces → Wit → Result Resolved Failure
resolved_among imported exported w = do
  ins ← imports_of imported w (record { interfaces = []; ids = [] }, nothing_made exported)
  resolved_after imported w ins.0 ins.1 ins.2

-- the resolve of a record
unfoldable pub resolved : Wit → Result Resolved Failure
resolved w = resolved_among (interfaces_after [] w.imports) (interfaces_after [] w.exports) w

-- a function at the root has the name of its key
abbrev pub IsNamed : WorldKey × WorldItem → Type 0
IsNamed (keys.Name text, items.Function f) = f.name ≡ text
IsNamed entry = Unit {0}

-- the functions at the root of a world have the names of their keys
pub record AreNamed (w : World) : Type 0 where
  pub imports : AllByRecursion IsNamed w.imports
  pub exports : AllByRecursion IsNamed w.exports

-- a function of an interface is listed under its name
abbrev pub IsListed : List ℕ × Function → Type 0
IsListed e = e.1.name ≡ e.0

-- the functions of an interface are listed under their names
pub record AreListed (i : Interface) : Type 0 where
  pub functions : AllByRecursion IsListed i.functions

-- there is a world; every number names something, and so do those of the interfaces by name;
-- functions have the names of their keys
pub record IsWhole (r : Resolved) : Type 0 where
  pub present : 0 < length r.resolve.worlds
  pub sound : IsSound r.resolve
  pub imported : AllByRecursion (λ i. HasInterface r.resolve i.1) r.imported
  pub exported : AllByRecursion (λ i. HasInterface r.resolve i.1) r.exported
  pub named : AllByRecursion AreNamed r.resolve.worlds
  pub listed : AllByRecursion AreListed r.resolve.interfaces

-- what was refused, or the result is not whole
abbrev pub IsRefused : Result Resolved Failure → Failure → Type 0
IsRefused (Err f) e = e ≡ f
IsRefused (Ok r) e = (e ≡ nowhere) × (IsWhole r → ⊥)

-- What a call returned: the resolve, which is whole, or the refusal, unless memory ran out.
abbrev pub GivesWhole : Result Resolved Failure → Result Resolved Failure → Type 0
GivesWhole (Ok r) made = (made ≡ Ok r) × IsWhole r
GivesWhole (Err e) made = e ≢ failures.Memory → IsRefused made e
