-- In which form a lowering calls its function: that which its options say is that of the role for which it is made.
use Rattle.std.proofs.Common.{◌≡◌, ◌∙◌, ◌||◌, ◌++◌, ℕ, Bool, true, false, List, [], ◌∷◌, if◌then◌else◌, Option, Some, None, refl, sym, ap, ap₂}
use Rattle.std.specs.List.{AllZip, list_any}
use Rattle.std.specs.Option.{option_map, option_map_or}
use Rattle.standard_kinds.specs.declared.kinds.StringEncoding.{StringEncoding}
use Rattle.wit_data.specs.declared.functions.AbiVariant.{AbiVariant}
use Rattle.wit_data.specs.declared.functions.AbiVariant.TheVariants.{GuestImport, GuestImportAsync}
use Rattle.wit_data.specs.declared.functions.Function.{Function}
use Rattle.wit_data.specs.declared.types.TypeDef.{TypeDef}
use Rattle.comp_options.proofs.ImportSets.{async_by_form}
use Rattle.comp_options.specs.Options.{needs, is_async_import, import_set}
use Rattle.comp_roles.specs.CoreTypes.{called_type}
use Rattle.comp_worlds.specs.Lowerings.{IsImportForm}
use Rattle.comp_worlds.specs.declared.world.ComponentWorld.{ComponentWorld}
use Rattle.comp_links.specs.Links.{if_needed, options_in}
use Rattle.comp_links.specs.Targets.{ExportRef, TargetOption}
use Rattle.comp_links.specs.Targets as targets
use Rattle.comp_runs.specs.Signatures.{is_async, form_of}
use Rattle.comp_runs.specs.Store.{HeldOption, HeldEncoding, HeldMemory, HeldRealloc, HeldPostReturn, HeldAsync, HeldCallback, Store}
use Rattle.link_laws.specs.Meeting.{is_async as asks_async}
use Rattle.link_laws.proofs.Stores.{IsOptionHeld}

-- ---- of options

-- an option is asynchronous where what it names is
held_as_asked : (w : ComponentWorld) (s : Store) (x : HeldOption) (o : TargetOption) → IsOptionHeld w s x o → is_async x ≡ asks_async o
held_as_asked w s (HeldEncoding e) (targets.Encoding e') h = refl
held_as_asked w s (HeldMemory a) targets.Memory h = refl
held_as_asked w s (HeldRealloc a) (targets.Realloc e) h = refl
held_as_asked w s (HeldPostReturn a) (targets.PostReturn e) h = refl
held_as_asked w s (HeldCallback a) (targets.Callback e) h = refl
held_as_asked w s HeldAsync targets.Async h = refl
held_as_asked w s x o h = absurd h

all_as_asked : (w : ComponentWorld) (s : Store) (held : List HeldOption) (options : List TargetOption) → AllZip (IsOptionHeld w s) held options → list_any is_async held ≡ list_any asks_async options
all_as_asked w s [] [] h = refl
all_as_asked w s (x ∷ xs) (o ∷ os) h = ap₂ (λ a b. a || b) (held_as_asked w s x o h.0) (all_as_asked w s xs os h.1)
all_as_asked w s [] (o ∷ os) h = absurd h
all_as_asked w s (x ∷ xs) [] h = absurd h

-- the form that the options of a target say
abbrev pub form_asked : List TargetOption → AbiVariant
form_asked options = if list_any asks_async options then GuestImportAsync else GuestImport

pub held_form : (w : ComponentWorld) (s : Store) (held : List HeldOption) (options : List TargetOption) → AllZip (IsOptionHeld w s) held options → form_of held ≡ form_asked options
held_form w s held options h = ap (λ (b : Bool). if b then GuestImportAsync else GuestImport) (all_as_asked w s held options h)

-- ---- of sets

after_memory : (b : Bool) (rest : List TargetOption) → list_any asks_async (if_needed b (Some targets.Memory) ++ rest) ≡ list_any asks_async rest
after_memory true rest = refl
after_memory false rest = refl

after_realloc : (b : Bool) (o : Option ExportRef) (rest : List TargetOption) → list_any asks_async (if_needed b (option_map targets.Realloc o) ++ rest) ≡ list_any asks_async rest
after_realloc true (Some e) rest = refl
after_realloc true None rest = refl
after_realloc false o rest = refl

after_encoding : (b : Bool) (o : Option StringEncoding) (rest : List TargetOption) → list_any asks_async (if_needed b (option_map targets.Encoding o) ++ rest) ≡ list_any asks_async rest
after_encoding true (Some e) rest = refl
after_encoding true None rest = refl
after_encoding false o rest = refl

alone : (b : Bool) → list_any asks_async (if_needed b (Some targets.Async)) ≡ b
alone true = refl
alone false = refl

-- the options of a set are asynchronous where it has that bit
set_asked : (set : ℕ) (realloc : Option ExportRef) (encoding : Option StringEncoding) → list_any asks_async (options_in set realloc encoding) ≡ needs set 8
set_asked set realloc encoding =
    let waits : List TargetOption = if_needed (needs set 8) (Some targets.Async) in
    let encoded : List TargetOption = if_needed (needs set 4) (option_map targets.Encoding encoding) ++ waits in
    let allocated : List TargetOption = if_needed (needs set 2) (option_map targets.Realloc realloc) ++ encoded in
    after_memory (needs set 1) allocated ∙ (after_realloc (needs set 2) realloc encoded ∙ (after_encoding (needs set 4) encoding waits ∙ alone (needs set 8)))

-- ---- of roles

form_back : (abi : AbiVariant) → IsImportForm abi → (if is_async_import abi then GuestImportAsync else GuestImport) ≡ abi
form_back GuestImport form = refl
form_back GuestImportAsync form = refl
form_back abi form = absurd form

-- a function that is there is called in its own form
pub own_form : (abi : AbiVariant) → IsImportForm abi → (types : List TypeDef) (o : Option Function) (f : Function) → o ≡ Some f → (realloc : Option ExportRef) (encoding : Option StringEncoding) →
    form_asked (options_in (option_map_or (import_set abi types) o 0) realloc encoding) ≡ abi
own_form abi form types o f is realloc encoding =
    let own : needs (option_map_or (import_set abi types) o 0) 8 ≡ is_async_import abi = ap (λ (o : Option Function). needs (option_map_or (import_set abi types) o 0) 8) is ∙ async_by_form abi types f in
    ap (λ (b : Bool). if b then GuestImportAsync else GuestImport) (set_asked (option_map_or (import_set abi types) o 0) realloc encoding ∙ own) ∙ form_back abi form

-- so the core type of its calls is that of the form that the options say
pub own_type : (w : ComponentWorld) (abi : AbiVariant) → IsImportForm abi → (o : Option Function) (realloc : Option ExportRef) (encoding : Option StringEncoding) →
    option_map (called_type w.resolve abi) o ≡ option_map (called_type w.resolve (form_asked (options_in (option_map_or (import_set abi w.resolve.types) o 0) realloc encoding))) o
own_type w abi form None realloc encoding = refl
own_type w abi form (Some f) realloc encoding = ap (λ (a : AbiVariant). Some (called_type w.resolve a f)) (sym (own_form abi form w.resolve.types (Some f) f refl realloc encoding))
