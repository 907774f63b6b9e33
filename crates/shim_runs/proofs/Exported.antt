-- The exports of the instance of the shims, by their names.
use Rattle.std.proofs.Common.{◌≡◌, ◌∙◌, ◌+◌, ◌<◌, ◌≤◌, ◌^◌, ℕ, zero, suc, Bool, true, false, List, [], ◌∷◌, ◌++◌, length, filter, cond, ◌⊎◌, inl, inr, Option, Some, None, option_map, refl, sym, ap, subst, arith}
use Rattle.std.proofs.lemmas.Fmt.{decimal_injective, decimal_is_IsNumeral}
use Rattle.std.proofs.lemmas.Slice.Eq.{bytes_eq-Decides}
use Rattle.std.specs.Fmt.{decimal}
use Rattle.std.specs.List.{AllByRecursion}
use Rattle.std.specs.Prelude.{Contains}
use Rattle.std.specs.Str.{bytes_eq}
use Rattle.std.specs.Str.Parse.{IsNumeral}
use Rattle.comp_lists.proofs.Lists.{AllByRecursion-contains}
use Rattle.comp_bytes.specs.declared.space.Space.TheVariants as spaces
use Rattle.core_types.specs.declared.types.ValType.{ValType}
use Rattle.comp_runs.specs.Store.{Export}
use Rattle.comp_runs.specs.Machine.{export_named, export_in, export_of}
use Rattle.shim_modules.specs.Shims.{getter_name, setter_name}
use Rattle.shim_plan.specs.declared.shims.Shim.{Shim}
use Rattle.world_shims.proofs.Digits.{same_name, other_digits}
use Rattle.shim_runs.specs.ShimRuns.{shims_exported, table_exported, memory_name, memory_at, memory_exported, exported_function, cell_exported, instance_exports, IsCellFunction, ShimsAreFound}

-- ---- the first of a name

abbrev pub shim_export : ℕ → ℕ → Export
shim_export place address = exported_function (decimal place) address

found_from : (place address i : ℕ) (shims : List Shim) (rest : List Export) → i < length shims → place + length shims ≤ 2 ^ 32 → export_named (decimal (place + i)) (shims_exported place address shims ++ rest) ≡ Some (shim_export (place + i) (address + i))
found_from place address i [] rest h room = absurd (omega arith)
found_from place address zero (s ∷ ss) rest h room =
    let p : place + 0 ≡ place = omega arith in
    let a : address ≡ address + 0 = omega arith in
    ap (λ n. export_named (decimal n) (shims_exported place address (s ∷ ss) ++ rest)) p
    ∙ ap (λ b. cond b (Some (shim_export place address)) (export_named (decimal place) (shims_exported (suc place) (suc address) ss ++ rest))) (same_name (decimal place) (decimal place) refl)
    ∙ ap (λ n. Some (shim_export n address)) (sym p)
    ∙ ap (λ n. Some (shim_export (place + 0) n)) a
found_from place address (suc i) (s ∷ ss) rest h room =
    let p : suc place + i ≡ place + suc i = omega arith in
    let a : suc address + i ≡ address + suc i = omega arith in
    ap (λ b. cond b (Some (shim_export place address)) (export_named (decimal (place + suc i)) (shims_exported (suc place) (suc address) ss ++ rest))) (other_digits (place + suc i) place (omega arith) (omega arith))
    ∙ ap (λ n. export_named (decimal n) (shims_exported (suc place) (suc address) ss ++ rest)) (sym p)
    ∙ found_from (suc place) (suc address) i ss rest (omega arith) (omega arith)
    ∙ ap (λ n. Some (shim_export n (suc address + i))) p
    ∙ ap (λ n. Some (shim_export (place + suc i) n)) a

-- ---- behind the shims

-- a name that is no number
other_name : (name : List ℕ) → (IsNumeral 10 name → ⊥) → (place : ℕ) → place < 2 ^ 32 → bytes_eq name (decimal place) ≡ false
other_name name no_numeral place small = by (bytes_eq name (decimal place)) refl
  where
    by : (b : Bool) → bytes_eq name (decimal place) ≡ b → b ≡ false
    by false e = refl
    by true e = absurd (no_numeral (subst (IsNumeral 10) (sym ((bytes_eq-Decides name (decimal place)).0 e)) (decimal_is_IsNumeral place (omega arith)).0))

-- is not that of a shim
pub behind_shims : (name : List ℕ) → (IsNumeral 10 name → ⊥) → (place address : ℕ) (shims : List Shim) (rest : List Export) → place + length shims ≤ 2 ^ 32 → export_named name (shims_exported place address shims ++ rest) ≡ export_named name rest
behind_shims name no_numeral place address [] rest room = refl
behind_shims name no_numeral place address (s ∷ ss) rest room =
    ap (λ b. cond b (Some (shim_export place address)) (export_named name (shims_exported (suc place) (suc address) ss ++ rest))) (other_name name no_numeral place (omega arith))
    ∙ behind_shims name no_numeral (suc place) (suc address) ss rest (omega arith)

-- what is behind them: the table, the memory, and the functions of the cell
abbrev behind : List Shim → ℕ → Option ℕ → Option ValType → ℕ → List Export
behind shims table memory cell first = table_exported shims table ++ (memory_exported memory ++ cell_exported cell first)

-- ---- the memory

pub no_memory_name : IsNumeral 10 memory_name → ⊥
no_memory_name h = let below : 36 < 10 = h.1.0 in absurd (omega (arith, below))

memory_behind_table : (shims : List Shim) (table : ℕ) (memory : Option ℕ) (cell : Option ValType) (first : ℕ) → export_named memory_name (behind shims table memory cell first) ≡ option_map memory_at memory
memory_behind_table [] table None None first = refl
memory_behind_table [] table None (Some t) first = refl
memory_behind_table [] table (Some address) cell first = refl
memory_behind_table (s ∷ ss) table None None first = refl
memory_behind_table (s ∷ ss) table None (Some t) first = refl
memory_behind_table (s ∷ ss) table (Some address) cell first = refl

memory_is_named : (shims : List Shim) (address table : ℕ) (memory : Option ℕ) (cell : Option ValType) → length shims < 2 ^ 32 → export_named memory_name (instance_exports shims address table memory cell) ≡ option_map memory_at memory
memory_is_named shims address table memory cell room =
    behind_shims memory_name no_memory_name 0 address shims (behind shims table memory cell (address + length shims)) (omega (arith, room))
    ∙ memory_behind_table shims table memory cell (address + length shims)

-- no shim is a memory
memories_alone : (place address : ℕ) (shims : List Shim) (rest : List Export) → filter (export_in spaces.CoreMemory) (shims_exported place address shims ++ rest) ≡ filter (export_in spaces.CoreMemory) rest
memories_alone place address [] rest = refl
memories_alone place address (s ∷ ss) rest = memories_alone (suc place) (suc address) ss rest

memory_behind : (shims : List Shim) (table : ℕ) (memory : Option ℕ) (cell : Option ValType) (first : ℕ) → export_named memory_name (filter (export_in spaces.CoreMemory) (behind shims table memory cell first)) ≡ option_map memory_at memory
memory_behind [] table None None first = refl
memory_behind [] table None (Some t) first = refl
memory_behind [] table (Some address) cell first = refl
memory_behind (s ∷ ss) table None None first = refl
memory_behind (s ∷ ss) table None (Some t) first = refl
memory_behind (s ∷ ss) table (Some address) cell first = refl

memory_is_found : (shims : List Shim) (address table : ℕ) (memory : Option ℕ) (cell : Option ValType) → export_of spaces.CoreMemory memory_name (instance_exports shims address table memory cell) ≡ option_map memory_at memory
memory_is_found shims address table memory cell =
    ap (λ es. export_named memory_name es) (memories_alone 0 address shims (behind shims table memory cell (address + length shims)))
    ∙ memory_behind shims table memory cell (address + length shims)

-- ---- the cell

pub no_getter_name : IsNumeral 10 getter_name → ⊥
no_getter_name h = let below : 36 < 10 = h.1.0 in absurd (omega (arith, below))

pub no_setter_name : IsNumeral 10 setter_name → ⊥
no_setter_name h = let below : 36 < 10 = h.1.0 in absurd (omega (arith, below))

getter_behind : (shims : List Shim) (table : ℕ) (memory : Option ℕ) (type : ValType) (first : ℕ) → export_named getter_name (behind shims table memory (Some type) first) ≡ Some (exported_function getter_name first)
getter_behind [] table None type first = refl
getter_behind [] table (Some address) type first = refl
getter_behind (s ∷ ss) table None type first = refl
getter_behind (s ∷ ss) table (Some address) type first = refl

setter_behind : (shims : List Shim) (table : ℕ) (memory : Option ℕ) (type : ValType) (first : ℕ) → export_named setter_name (behind shims table memory (Some type) first) ≡ Some (exported_function setter_name (first + 1))
setter_behind [] table None type first = refl
setter_behind [] table (Some address) type first = refl
setter_behind (s ∷ ss) table None type first = refl
setter_behind (s ∷ ss) table (Some address) type first = refl

getter_is_named : (shims : List Shim) (address table : ℕ) (memory : Option ℕ) (cell : Option ValType) → length shims < 2 ^ 32 → (type : ValType) → cell ≡ Some type → export_named getter_name (instance_exports shims address table memory cell) ≡ Some (exported_function getter_name (address + length shims))
getter_is_named shims address table memory cell room type is =
    let first = address + length shims in
    behind_shims getter_name no_getter_name 0 address shims (behind shims table memory cell first) (omega (arith, room))
    ∙ ap (λ o. export_named getter_name (behind shims table memory o first)) is
    ∙ getter_behind shims table memory type first

setter_is_named : (shims : List Shim) (address table : ℕ) (memory : Option ℕ) (cell : Option ValType) → length shims < 2 ^ 32 → (type : ValType) → cell ≡ Some type → export_named setter_name (instance_exports shims address table memory cell) ≡ Some (exported_function setter_name (address + length shims + 1))
setter_is_named shims address table memory cell room type is =
    let first = address + length shims in
    behind_shims setter_name no_setter_name 0 address shims (behind shims table memory cell first) (omega (arith, room))
    ∙ ap (λ o. export_named setter_name (behind shims table memory o first)) is
    ∙ setter_behind shims table memory type first

-- ---- all exports

-- a function is one of so many shims from this address on, or one of the cell behind them
abbrev IsFunctionOf : ℕ → ℕ → Export → Type 0
IsFunctionOf count first e = ((place : ℕ) × (place < count) × (e.address ≡ first + place)) ⊎ IsCellFunction (first + count) e.name e.address

-- an export of a function is one of these, and one of a memory is the memory
record IsOfPlace (count first : ℕ) (memory : Option ℕ) (e : Export) : Type 0 where
  of_function : e.space ≡ spaces.CoreFunc → IsFunctionOf count first e
  of_memory : e.space ≡ spaces.CoreMemory → (e.name ≡ memory_name) × (memory ≡ Some e.address)

cell_of_place : (count first : ℕ) (memory : Option ℕ) (cell : Option ValType) → AllByRecursion (IsOfPlace count first memory) (cell_exported cell (first + count))
cell_of_place count first memory None = tt
cell_of_place count first memory (Some type) = (
  record { of_function = λ e. inr (inl (refl, refl)); of_memory = λ e. cc },
  (record { of_function = λ e. inr (inr (refl, refl)); of_memory = λ e. cc }, tt),
)

memory_of_place : (count first : ℕ) (memory : Option ℕ) (cell : Option ValType) → AllByRecursion (IsOfPlace count first memory) (memory_exported memory ++ cell_exported cell (first + count))
memory_of_place count first None cell = cell_of_place count first None cell
memory_of_place count first (Some address) cell = (record { of_function = λ e. cc; of_memory = λ e. (refl, refl) }, cell_of_place count first (Some address) cell)

rest_of_place : (count first table : ℕ) (shims : List Shim) (memory : Option ℕ) (cell : Option ValType) → AllByRecursion (IsOfPlace count first memory) (behind shims table memory cell (first + count))
rest_of_place count first table [] memory cell = memory_of_place count first memory cell
rest_of_place count first table (s ∷ ss) memory cell = (record { of_function = λ e. cc; of_memory = λ e. cc }, memory_of_place count first memory cell)

each_of_place : (count first k place address : ℕ) (shims : List Shim) (memory : Option ℕ) (rest : List Export) → address ≡ first + k → k + length shims ≤ count → AllByRecursion (IsOfPlace count first memory) rest → AllByRecursion (IsOfPlace count first memory) (shims_exported place address shims ++ rest)
each_of_place count first k place address [] memory rest at room h = h
each_of_place count first k place address (s ∷ ss) memory rest at room h =
    (record { of_function = λ e. inl (k, omega arith, at); of_memory = λ e. cc }, each_of_place count first (k + 1) (suc place) (suc address) ss memory rest (omega (arith, at)) (omega arith) h)

place_of : (shims : List Shim) (address table : ℕ) (memory : Option ℕ) (cell : Option ValType) (e : Export) → Contains (instance_exports shims address table memory cell) e → IsOfPlace (length shims) address memory e
place_of shims address table memory cell e is =
    AllByRecursion-contains (IsOfPlace (length shims) address memory) (instance_exports shims address table memory cell) e
    (each_of_place (length shims) address 0 0 address shims memory (behind shims table memory cell (address + length shims)) (omega arith) (omega arith) (rest_of_place (length shims) address table shims memory cell)) is

pub shims_found : (shims : List Shim) (address table : ℕ) (memory : Option ℕ) (cell : Option ValType) → ShimsAreFound shims address table memory cell
shims_found shims address table memory cell = record {
  found = λ place within room.
      let z : 0 + place ≡ place = omega arith in
      subst (λ n. export_named (decimal n) (instance_exports shims address table memory cell) ≡ Some (shim_export n (address + place))) z
      (found_from 0 address place shims (behind shims table memory cell (address + length shims)) within (omega arith));
  listed = λ name function is. (place_of shims address table memory cell (exported_function name function) is).of_function refl;
  memory_named = memory_is_named shims address table memory cell;
  memory_found = memory_is_found shims address table memory cell;
  memory_listed = λ name at is. (place_of shims address table memory cell (record { space = spaces.CoreMemory; name = name; address = at }) is).of_memory refl;
  getter_named = getter_is_named shims address table memory cell;
  setter_named = setter_is_named shims address table memory cell;
}
