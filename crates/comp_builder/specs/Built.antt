-- The model of a component builder, and the results of its calls: definitions count their items up in each index
-- space. Component model, binary format: index spaces.
use Rattle.std.specs.Prelude.{ℕ, ◌≡◌, ◌+◌, ◌≤◌, ◌^◌, List, [], ◌∷◌, ◌++◌, Option, Some, None, Result, Ok, Err, get_or, option_to_list}
use Rattle.comp_bytes.specs.Spaces.{ordinal, items_in}
use Rattle.comp_bytes.specs.declared.def.Def.{Def}
use Rattle.comp_bytes.specs.declared.name.Name.{Name}
use Rattle.comp_bytes.specs.declared.space.Space.{Space}
use Rattle.byte_encoding.specs.declared.fault.BuildFault.{BuildFault}
use Rattle.byte_encoding.specs.declared.fault.BuildFault.TheVariants.{Memory, TooMany}

-- the definitions, and the debug names of their items
pub record Built : Type 0 where
  pub defs : List Def
  pub names : List Name

abbrev pub nothing_built : Built
nothing_built = record { defs = []; names = [] }

-- the debug name of an item, if it gets one
abbrev pub name_of : Space → ℕ → Option (List ℕ) → List Name
name_of s index None = []
name_of s index (Some text) = record { space = s; index = index; text = text } ∷ []

-- one definition more, with the debug name of its item
abbrev pub and_then : Built → Space → Def → Option (List ℕ) → Built
and_then b s d debug = record { defs = b.defs ++ d ∷ []; names = b.names ++ name_of s (items_in s b.defs) debug }

-- out of memory, or this count, which is more than a space can have
abbrev pub Passes : ℕ → BuildFault → Type 0
Passes count Memory = Unit {0}
Passes count (TooMany n) = (2 ^ 32 ≤ n) × (n ≡ count)

-- the count after the item with this index, and its debug name
abbrev pub IsNext : Space → ℕ → Option (List ℕ) → Result (ℕ × Option Name) BuildFault → Type 0
IsNext s index debug (Ok (count, name)) = (count ≡ index + 1) × (option_to_list name ≡ name_of s index debug)
IsNext s index debug (Err e) = Passes (index + 1) e

-- Two lists to which an item and its name are added, if an earlier step found these. An error changes nothing.
abbrev pub Pushes : {A N : Type 0} → List A → List A → List N → List N → A → Result (ℕ × Option N) BuildFault → Result ℕ BuildFault → Type 0
Pushes old new names added item (Ok (count, name)) (Ok answer) = (answer ≡ count) × (new ≡ old ++ item ∷ []) × (added ≡ names ++ option_to_list name)
Pushes old new names added item (Ok (count, name)) (Err e) = (e ≡ Memory) × (new ≡ old) × (added ≡ names)
Pushes old new names added item (Err fault) result = (result ≡ Err fault) × (new ≡ old) × (added ≡ names)

-- each counter is the number of items of its space
abbrev pub Counts : List ℕ → List Def → Type 0
Counts counts ds = (s : Space) → get_or counts (ordinal s) 0 ≡ items_in s ds

-- the space already has all the items that it can have
abbrev pub Full : Space → List Def → BuildFault → Type 0
Full s ds Memory = Unit {0}
Full s ds (TooMany n) = (2 ^ 32 ≤ n) × (n ≡ items_in s ds + 1)

-- The result of a builder's call: the count of the space before it, and one more definition. An error changes nothing.
abbrev pub Adds : Built → Built → Result ℕ BuildFault → Space → Def → Option (List ℕ) → Type 0
Adds old new (Ok index) s d debug = (index ≡ items_in s old.defs) × (new ≡ and_then old s d debug)
Adds old new (Err e) s d debug = (new ≡ old) × Full s old.defs e
