-- Waits and functions of error contexts: each is what the link table names, with its options.
use Rattle.std.proofs.Common.{◌≡◌, ℕ, List, [], ◌∷◌, Option, Some, None, refl, sym, true≢false}
use Rattle.std.specs.List.{AllByRecursion, AllZip}
use Rattle.comp_bytes.specs.Parts.{parts_of}
use Rattle.comp_bytes.specs.declared.canon.CanonicalOption.{CanonicalOption}
use Rattle.comp_bytes.specs.declared.canon.CanonicalOption.TheVariants as canonical
use Rattle.comp_bytes.specs.declared.canon.Intrinsic.{Intrinsic}
use Rattle.comp_bytes.specs.declared.def.Def.{Def}
use Rattle.comp_inventories.specs.Inventories.{scope_of}
use Rattle.comp_links.specs.Links.{set_wait, set_poll, error_new, error_message}
use Rattle.comp_links.specs.Targets.{ExportRef}
use Rattle.comp_links.specs.Targets as targets
use Rattle.comp_terms.specs.Planned.{main_memory}
use Rattle.comp_terms.specs.Rules.{IsIntrinsicRight, IsOptionRight}
use Rattle.comp_terms.specs.Terms.{TermOption, IsOption, IsBuiltIn}
use Rattle.comp_terms.specs.Terms as terms
use Rattle.comp_trees.specs.Operands.{IsOperand}
use Rattle.comp_trees.specs.Trees.{Tree}
use Rattle.comp_worlds.specs.declared.world.ComponentWorld.{ComponentWorld}
use Rattle.core_options.proofs.OptionTerms.{AreListed, named_for, options_right}
use Rattle.core_options.specs.MainOptions.{IsMemoryFunction, IsMemoryIf, NameOptions, function_wanted, intrinsic_for}
use Rattle.shim_plan.specs.declared.memory_functions.MemoryFunction.{MemoryFunction}
use Rattle.shim_plan.specs.declared.memory_functions.MemoryFunction.TheVariants as functions
use Rattle.standard_kinds.specs.declared.kinds.StringEncoding.TheVariants.{UTF8}

-- an alias of main's memory is the one option of a wait
memory_named : (w : ComponentWorld) (ds : List Def) (memory : ℕ) → IsMemoryIf ds (main_memory w) (Some memory) → NameOptions w ds (canonical.Memory memory ∷ []) (targets.Memory ∷ [])
memory_named w ds memory h =
    let listed : AreListed w ds 1 (Some memory) None None = record { memory_is = λ needed. h; realloc_is = λ needed. absurd (true≢false (sym needed)) } in
    named_for w ds 1 (Some memory) None None UTF8 (canonical.Memory memory ∷ []) listed refl refl refl

memory_right : (w : ComponentWorld) (ds : List Def) (memory : ℕ) → IsMemoryIf ds (main_memory w) (Some memory) → AllByRecursion (IsOptionRight ds) (canonical.Memory memory ∷ [])
memory_right w ds memory h =
    let named : NameOptions w ds (canonical.Memory memory ∷ []) (targets.Memory ∷ []) = memory_named w ds memory h in
    options_right w ds (canonical.Memory memory ∷ []) named.terms named.are

-- its options name earlier items
pub function_right : (w : ComponentWorld) (ds : List Def) (function : MemoryFunction) (memory : ℕ) (options : List CanonicalOption) → IsMemoryIf ds (main_memory w) (Some memory) → AllByRecursion (IsOptionRight ds) options →
    IsIntrinsicRight ds (intrinsic_for function memory options)
function_right w ds functions.Wait memory options h right = record { operand = refl; options = memory_right w ds memory h }
function_right w ds functions.Poll memory options h right = record { operand = refl; options = memory_right w ds memory h }
function_right w ds (functions.NewError encoding) memory options h right = record { operand = refl; options = right }
function_right w ds (functions.ErrorMessage encoding) memory options h right = record { operand = refl; options = right }

-- what a step that adds a built-in function says
abbrev pub Made : List Def → List Def → ℕ → Intrinsic → Type 0
Made old new index i =
    (operand : Option Tree) (written : List TermOption) → IsOperand (scope_of old) (parts_of i).operand operand → AllZip (IsOption old) (parts_of i).options written → IsBuiltIn new index (parts_of i).name operand written

-- with them it is what the link table names
pub function_term : (w : ComponentWorld) (old new : List Def) (function : MemoryFunction) (memory : ℕ) (options : List CanonicalOption) (index : ℕ) (realloc : Option ExportRef) → IsMemoryIf old (main_memory w) (Some memory) →
    NameOptions w old options (function_wanted function realloc) → Made old new index (intrinsic_for function memory options) → IsMemoryFunction w new function (function_wanted function realloc) index
function_term w old new functions.Wait memory options index realloc h named made =
    let m : NameOptions w old (canonical.Memory memory ∷ []) (targets.Memory ∷ []) = memory_named w old memory h in
    record { term = terms.BuiltIn set_wait None m.terms; is = made None m.terms tt m.are; asked = (refl, refl, m.asked) }
function_term w old new functions.Poll memory options index realloc h named made =
    let m : NameOptions w old (canonical.Memory memory ∷ []) (targets.Memory ∷ []) = memory_named w old memory h in
    record { term = terms.BuiltIn set_poll None m.terms; is = made None m.terms tt m.are; asked = (refl, refl, m.asked) }
function_term w old new (functions.NewError encoding) memory options index realloc h named made =
    record { term = terms.BuiltIn error_new None named.terms; is = made None named.terms tt named.are; asked = (refl, refl, named.asked) }
function_term w old new (functions.ErrorMessage encoding) memory options index realloc h named made =
    record { term = terms.BuiltIn error_message None named.terms; is = made None named.terms tt named.are; asked = (refl, refl, named.asked) }
