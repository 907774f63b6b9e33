-- What the imports of a fixup are given: the functions of `actual`, in order, the function with
-- which main is initialized, and the table of the shims.
use Rattle.std.proofs.Common.{◌≡◌, ◌∙◌, ◌+◌, ◌<◌, ◌≤◌, ◌^◌, ℕ, suc, List, [], ◌∷◌, ◌++◌, length, map, cond, if◌then◌else◌, Option, Some, None, option_map, codes, append_assoc, refl, sym, ap, arith}
use Rattle.std.specs.Fmt.{decimal}
use Rattle.std.specs.List.{AllByRecursion, AllZip}
use Rattle.std.specs.Option.{option_and_then}
use Rattle.std.specs.Str.{bytes_eq}
use Rattle.std.specs.Str.Parse.{IsNumeral}
use Rattle.comp_lists.proofs.Lists.{AllByRecursion-weaker, AllByRecursion-push}
use Rattle.comp_bytes.specs.Spaces.{is_space}
use Rattle.comp_bytes.specs.declared.space.Space.TheVariants as spaces
use Rattle.standard_kinds.specs.declared.kinds.ExportKind.TheVariants as kinds
use Rattle.core_types.specs.declared.types.FuncType.{FuncType}
use Rattle.core_types.specs.declared.types.ValType.{ValType}
use Rattle.core_bytes.specs.declared.entry.Import.{Import}
use Rattle.core_runs.specs.Store.{Store}
use Rattle.core_runs.specs.Instances.{Given, FunctionAt, TableAt}
use Rattle.interned_types.specs.Interning.{interned}
use Rattle.fixup_modules.specs.Sections.{table_name}
use Rattle.comp_runs.specs.Store.{Thing, Export}
use Rattle.comp_runs.specs.Machine.{export_named, all_some}
use Rattle.comp_runs.specs.Instances.{Arguments, argument_for, of_kind, entity_kind, external}
use Rattle.shim_plan.specs.Plans.{AreNumbered}
use Rattle.shim_plan.specs.declared.shims.Shim.{Shim}
use Rattle.world_shims.specs.WorldShims.{type_of_shim, types_with}
use Rattle.shim_runs.specs.ShimRuns.{table_exported, memory_exported, cell_exported, instance_exports, IsActual, AreCalls, fixup_arguments}
use Rattle.world_shims.proofs.Digits.{same_name, other_digits}
use Rattle.shim_runs.proofs.Exported.{behind_shims}
use Rattle.world_shims.proofs.FixupImports.{imports_of, call_imports, table_imports}

-- ---- the table

no_table_name : IsNumeral 10 table_name → ⊥
no_table_name h = let below : 36 < 10 = h.1.0 in absurd (omega (arith, below))

-- where there are shims, it is found behind them
table_found : (shims : List Shim) (address table : ℕ) (memory : Option ℕ) (cell : Option ValType) → (shims ≡ [] → ⊥) → length shims < 2 ^ 32 → export_named table_name (instance_exports shims address table memory cell) ≡ Some (record { space = spaces.CoreTable; name = table_name; address = table })
table_found [] address table memory cell any room = absurd (any refl)
table_found (s ∷ ss) address table memory cell any room = behind_shims table_name no_table_name 0 address (s ∷ ss) (table_exported (s ∷ ss) table ++ (memory_exported memory ++ cell_exported cell (address + length (s ∷ ss)))) (omega (arith, room))

-- ---- the functions

-- an export under the digits of an earlier place
record IsBefore (place : ℕ) (e : Export) : Type 0 where
  pub number : ℕ
  pub below : number < place
  pub named : e.name ≡ decimal number

still_before : (place : ℕ) (e : Export) → IsBefore place e → IsBefore (suc place) e
still_before place e h = record { number = h.number; below = let b = h.below in omega (arith, b); named = h.named }

found_behind : (place : ℕ) (before : List Export) (e : Export) (after : List Export) → place < 2 ^ 32 → AllByRecursion (IsBefore place) before → e.name ≡ decimal place → export_named (decimal place) (before ++ e ∷ after) ≡ Some e
found_behind place [] e after small h named = ap (λ b. cond b (Some e) (export_named (decimal place) after)) (same_name (decimal place) e.name (sym named))
found_behind place (x ∷ xs) e after small h named =
    let rest = export_named (decimal place) (xs ++ e ∷ after) in
    ap (λ n. cond (bytes_eq (decimal place) n) (Some x) rest) h.0.named
    ∙ ap (λ b. cond b (Some x) rest) (other_digits place h.0.number small h.0.below)
    ∙ found_behind place xs e after small h.1 named

-- a function, as a thing
abbrev pub function_of : Export → Thing
function_of e = record { space = spaces.CoreFunc; address = e.address }

of_function : (e : Export) → e.space ≡ spaces.CoreFunc → of_kind kinds.Func e ≡ Some (function_of e)
of_function e h = ap (λ s. if is_space spaces.CoreFunc (Some s) then Some (record { space = s; address = e.address }) else None) h

-- what an import is given
abbrev pub argument_of : Arguments → Import → Option Thing
argument_of arguments i = argument_for arguments (entity_kind i.entity) i.module_name i.field

module _ (code : Store) (whole : List Export) (others : Arguments) where
  functions_given : (types : List FuncType) (place : ℕ) (shims : List Shim) (actual before : List Export) → AreNumbered place shims → place + length shims ≤ 2 ^ 32 → AllZip (IsActual code) shims actual → AllByRecursion (IsBefore place) before → whole ≡ before ++ actual →
      (more : List Import) (given : List Thing) → all_some (map (argument_of ((codes "actual", whole) ∷ others)) more) ≡ Some given →
      all_some (map (argument_of ((codes "actual", whole) ∷ others)) (imports_of types shims ++ more)) ≡ Some (map function_of actual ++ given)
  functions_given types place [] [] before numbered room each earlier is more given rest = rest
  functions_given types place [] (e ∷ es) before numbered room each earlier is more given rest = absurd each
  functions_given types place (s ∷ ss) [] before numbered room each earlier is more given rest = absurd each
  functions_given types place (s ∷ ss) (e ∷ es) before numbered room each earlier is more given rest =
      let rest_given = all_some (map (argument_of ((codes "actual", whole) ∷ others)) (imports_of (interned types (type_of_shim s)) ss ++ more)) in
      let all : Option Thing → Option (List Thing) = λ o. all_some (o ∷ map (argument_of ((codes "actual", whole) ∷ others)) (imports_of (interned types (type_of_shim s)) ss ++ more)) in
      let named : e.name ≡ decimal place = each.0.named ∙ numbered.0 in
      let own : IsBefore (suc place) e = record { number = place; below = omega arith; named = named } in
      ap (λ n. all (option_and_then (of_kind kinds.Func) (export_named n whole))) numbered.0
      ∙ ap (λ l. all (option_and_then (of_kind kinds.Func) (export_named (decimal place) l))) is
      ∙ ap (λ o. all (option_and_then (of_kind kinds.Func) o)) (found_behind place before e es (omega arith) earlier named)
      ∙ ap (λ o. all o) (of_function e each.0.space)
      ∙ ap (λ o. option_map (λ xs. function_of e ∷ xs) o)
      (functions_given (interned types (type_of_shim s)) (suc place) ss es (before ++ e ∷ []) numbered.1 (omega arith) each.1
      (AllByRecursion-push (IsBefore (suc place)) before e (AllByRecursion-weaker (still_before place) before earlier) own) (is ∙ sym (append_assoc before (e ∷ []) es)) more given rest)

-- ---- the whole

abbrev pub function_at : ℕ → Thing
function_at address = record { space = spaces.CoreFunc; address = address }

abbrev pub table_things : List Shim → ℕ → List Thing
table_things [] table = []
table_things (s ∷ ss) table = record { space = spaces.CoreTable; address = table } ∷ []

abbrev pub things_given : List Shim → List Export → List ℕ → ℕ → List Thing
things_given shims actual called table = map function_of actual ++ (map function_at called ++ table_things shims table)

abbrev all_imports : List Shim → Option (List ℕ) → List Import
all_imports shims initialize = imports_of [] shims ++ (call_imports (types_with [] shims) initialize ++ table_imports shims)

pub imports_given : (code : Store) (shims : List Shim) (initialize : Option (List ℕ)) (actual main : List Export) (address table : ℕ) (memory : Option ℕ) (cell : Option ValType) (called : List ℕ) → AreNumbered 0 shims → length shims < 2 ^ 32 → AllZip (IsActual code) shims actual → AreCalls code main initialize called →
    all_some (map (argument_of (fixup_arguments shims initialize actual main address table memory cell)) (all_imports shims initialize)) ≡ Some (things_given shims actual called table)
imports_given code [] None [] main address table memory cell called numbered room each calls = ap (λ l. Some (map function_at l ++ [])) (sym calls)
imports_given code [] None (e ∷ es) main address table memory cell called numbered room each calls = absurd each
imports_given code [] (Some name) (e ∷ es) main address table memory cell called numbered room each calls = absurd each
imports_given code [] (Some name) [] main address table memory cell [] numbered room each calls = absurd calls
imports_given code [] (Some name) [] main address table memory cell (a ∷ b ∷ as') numbered room each calls = absurd calls
imports_given code [] (Some name) [] main address table memory cell (a ∷ []) numbered room each calls = ap (λ o. all_some (option_and_then (of_kind kinds.Func) o ∷ [])) calls.0
imports_given code (s ∷ ss) None actual main address table memory cell called numbered room each calls =
    let shims = s ∷ ss in
    let found : export_named table_name (instance_exports shims address table memory cell) ≡ Some (record { space = spaces.CoreTable; name = table_name; address = table }) = table_found shims address table memory cell (λ e. cc) room in
    functions_given code actual ((codes "shim", instance_exports shims address table memory cell) ∷ []) [] 0 shims actual [] numbered (omega arith) each tt refl
    (table_imports shims) (table_things shims table)
    (ap (λ o. all_some (option_and_then (of_kind kinds.Table) o ∷ [])) found)
    ∙ ap (λ l. Some (map function_of actual ++ (map function_at l ++ table_things shims table))) (sym calls)
imports_given code (s ∷ ss) (Some name) actual main address table memory cell [] numbered room each calls = absurd calls
imports_given code (s ∷ ss) (Some name) actual main address table memory cell (a ∷ b ∷ as') numbered room each calls = absurd calls
imports_given code (s ∷ ss) (Some name) actual main address table memory cell (a ∷ []) numbered room each calls =
    let shims = s ∷ ss in
    let found : export_named table_name (instance_exports shims address table memory cell) ≡ Some (record { space = spaces.CoreTable; name = table_name; address = table }) = table_found shims address table memory cell (λ e. cc) room in
    functions_given code actual ((codes "main", main) ∷ (codes "shim", instance_exports shims address table memory cell) ∷ []) [] 0 shims actual [] numbered (omega arith) each tt refl
    (call_imports (types_with [] shims) (Some name) ++ table_imports shims) (function_at a ∷ table_things shims table)
    (ap (λ o. all_some (option_and_then (of_kind kinds.Func) o ∷ option_and_then (of_kind kinds.Table) (export_named table_name (instance_exports shims address table memory cell)) ∷ [])) calls.0
    ∙ ap (λ o. all_some (Some (function_at a) ∷ option_and_then (of_kind kinds.Table) o ∷ [])) found)

-- as external values
abbrev pub table_values : List Shim → ℕ → List Given
table_values [] table = []
table_values (s ∷ ss) table = TableAt table ∷ []

abbrev pub values_given : List Shim → List Export → List ℕ → ℕ → List Given
values_given shims actual called table = map (λ (e : Export). FunctionAt e.address) actual ++ (map (λ a. FunctionAt a) called ++ table_values shims table)

pub values_are : (shims : List Shim) (actual : List Export) (called : List ℕ) (table : ℕ) → all_some (map external (things_given shims actual called table)) ≡ Some (values_given shims actual called table)
values_are [] [] [] table = refl
values_are (s ∷ ss) [] [] table = refl
values_are shims [] (a ∷ as') table = ap (λ o. option_map (λ xs. FunctionAt a ∷ xs) o) (values_are shims [] as' table)
values_are shims (e ∷ es) called table = ap (λ o. option_map (λ xs. FunctionAt e.address ∷ xs) o) (values_are shims es called table)
