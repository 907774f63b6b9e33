-- A fixup with shims that calls the function with which main is initialized.
use Rattle.std.proofs.Common.{inl, inr, ◌≡◌, ◌∙◌, ◌+◌, ◌<◌, ◌≤◌, ◌^◌, ◌&&◌, ◌||◌, ℕ, Bool, false, List, [], ◌∷◌, ◌++◌, length, Option, Some, None, refl, sym, ap, subst, arith}
use Rattle.std.specs.Prelude.{codes, Result, Ok, Err, IfErr}
use Rattle.std.specs.Result.{IsErrAnd}
use Rattle.std.specs.List.{AllByRecursion, list_any, find}
use Rattle.std.specs.Str.{bytes_eq}
use Rattle.std.proofs.lemmas.List.{length_push}
use Rattle.byte_encoding.specs.declared.fault.BuildFault.{BuildFault}
use Rattle.byte_encoding.specs.declared.fault.BuildFault.TheVariants as build
use Rattle.standard_kinds.specs.declared.kinds.ExportKind.TheVariants as kinds
use Rattle.comp_lists.specs.Tables.{with_first}
use Rattle.comp_lists.proofs.Lists.{AllByRecursion-weaker, AllByRecursion-push}
use Rattle.core_types.specs.declared.types.TableType.{TableType}
use Rattle.core_runs.specs.Bodies.{table_of_shims}
use Rattle.core_bytes.specs.declared.entity.EntityType.{EntityType}
use Rattle.core_bytes.specs.declared.entity.EntityType.TheVariants as entities
use Rattle.core_bytes.specs.declared.entry.Import.{Import}
use Rattle.fixup_modules.specs.declared.fault.ShimFault.{ShimFault}
use Rattle.fixup_modules.specs.declared.fault.ShimFault.TheVariants as faults
use Rattle.fixup_modules.specs.declared.instances.ImportedInstance.TheVariants as instances
use Rattle.fixup_modules.specs.Imports.{Imported, is_kind, count_of, is_named, entry_of, import_index, is_taken, ImportCause}
use Rattle.fixup_modules.specs.Fixups.{Fixup, nothing_fixed, thunk, thunk_item, with_shim, with_initialize, CallCause}
use Rattle.fixup_modules.specs.Faults.{of_build}
use Rattle.fixup_modules.specs.Sections.{table_name, shim_table, EncodeCause}
use Rattle.fixup_modules.proofs.Named.{grown}
use Rattle.shim_plan.specs.declared.shims.Shim.{Shim}
use Rattle.world_shims.specs.Refusals.{HasTooMany, IsOfCounts}
use Rattle.world_shims.specs.Fixing.{IsNumbered, IsFromActual}
use Rattle.world_shims.specs.WorldShims.{type_of_shim, fixup_with, with_call}
use Rattle.world_shims.proofs.Refused.{Instances, AreActual, free, none_found, alike, table_alike, none_passes, no_tables, IsUpTo, of_counts, has_too_many, import_refused, type_refused, count_refused, functions_few}

-- ---- what is imported

-- nothing is imported from main before
not_of_main : (count : ℕ) (i : Import) (field : List ℕ) → IsNumbered count i → is_named (codes "main") field i ≡ false
not_of_main count i field h = ap (λ (name : List ℕ). bytes_eq (codes "main") name && bytes_eq field i.field) h.from

not_of_shims : (count : ℕ) (i : Import) (field : List ℕ) → IsNumbered count i → is_named (codes "shim") field i ≡ false
not_of_shims count i field h = ap (λ (name : List ℕ). bytes_eq (codes "shim") name && bytes_eq field i.field) h.from

lacks : (p : Import → Bool) (es : List Import) → AllByRecursion (λ i. p i ≡ false) es → list_any p es ≡ false
lacks p [] h = refl
lacks p (e ∷ es) h = ap (λ b. b || list_any p es) h.0 ∙ lacks p es h.1

-- the import of the function
abbrev pub call_entry : Fixup → List ℕ → Import
call_entry f name = entry_of instances.Main name (thunk_item f.types)

-- what is imported with it
abbrev pub called_imports : Fixup → List ℕ → Imported
called_imports f name = record { instances = with_first bytes_eq f.imported.instances (codes "main") instances.Main; entries = f.imported.entries ++ call_entry f name ∷ [] }

pub call_grown : (f : Fixup) (name : List ℕ) → IsFromActual f → (with_initialize f name).imported ≡ called_imports f name
call_grown f name h =
    grown f.imported instances.Main name (thunk_item f.types)
    (lacks (is_named (codes "main") name) f.imported.entries (AllByRecursion-weaker (λ (i : Import) n. not_of_main (length f.fills) i name n) f.imported.entries h.entries))

-- ---- the function is refused only where there are too many

up_to_more : (a b : ℕ) (e : ShimFault) → a ≤ b → IsUpTo a e → IsUpTo b e
up_to_more a b faults.Memory le h = tt
up_to_more a b (faults.TooMany n) le h = let many = h.1 in (h.0, omega (arith, le, many))
up_to_more a b (faults.InstanceKind name) le h = h
up_to_more a b (faults.ImportType of name) le h = h

call_up_to : (f : Fixup) (name : List ℕ) (e : ShimFault) → IsFromActual f → CallCause f name e → IsUpTo (length f.fills + 1) e
call_up_to f name e h (inl cause) = type_refused (length f.fills) f.types thunk e h.few_types cause
call_up_to f name e h (inr (inl cause)) =
    import_refused (length f.fills) f.imported instances.Main name (thunk_item f.types) e (functions_few f h) (free instances.Main f.imported refl h.instances)
    (alike f.imported instances.Main name (thunk_item f.types) (none_found (is_named (codes "main") name) f.imported.entries (AllByRecursion-weaker (λ (i : Import) n. not_of_main (length f.fills) i name n) f.imported.entries h.entries))) cause
call_up_to f name e h (inr (inr cause)) =
    let none : length f.calls ≡ 0 = ap (λ l. length l) h.no_calls in
    up_to_more (length f.calls + 1) (length f.fills + 1) e (omega (arith, none)) (count_refused (length f.calls) e cause)

pub call_refused : (f : Fixup) (name : List ℕ) (e : ShimFault) → IsFromActual f → CallCause f name e → IsOfCounts e
call_refused f name e h cause = of_counts (length f.fills + 1) e (call_up_to f name e h cause)

pub call_too_many : (f : Fixup) (name : List ℕ) (e : ShimFault) (fault : BuildFault) → IsFromActual f → CallCause f name e → e ≡ of_build fault → HasTooMany (length f.fills + 1) fault
call_too_many f name e fault h cause is = has_too_many (length f.fills + 1) e fault is (call_up_to f name e h cause)

-- ---- the module is never refused but for memory

taken_by_shims : (table : Instances) (entries : List Import) → AreActual table → is_taken (record { instances = with_first bytes_eq table (codes "main") instances.Main; entries = entries }) instances.Shim ≡ false
taken_by_shims table entries (inl none) = ap (λ (t : Instances). is_taken (record { instances = with_first bytes_eq t (codes "main") instances.Main; entries = entries }) instances.Shim) none
taken_by_shims table entries (inr one) = ap (λ (t : Instances). is_taken (record { instances = with_first bytes_eq t (codes "main") instances.Main; entries = entries }) instances.Shim) one

table_up_to : (f : Fixup) (initialize : Option (List ℕ)) (type : TableType) (e : ShimFault) → IsFromActual f → ImportCause (with_call f initialize).imported instances.Shim table_name (entities.Table type) e → IsUpTo 1 e
table_up_to f None type e h cause =
    let none = no_tables (length f.fills) f.imported.entries h.entries in
    import_refused 0 f.imported instances.Shim table_name (entities.Table type) e (omega (arith, none)) (free instances.Shim f.imported refl h.instances) (table_alike f (entities.Table type) h) cause
table_up_to f (Some name) type e h cause =
    let m : Imported = called_imports f name in
    let item : EntityType = entities.Table type in
    let entry : Import = call_entry f name in
    let none : count_of kinds.Table m.entries ≡ 0 =
    none_passes (λ (i : Import). is_kind kinds.Table i.entity) m.entries
    (AllByRecursion-push (λ (i : Import). is_kind kinds.Table i.entity ≡ false) f.imported.entries entry (AllByRecursion-weaker (λ (i : Import) (n : IsNumbered (length f.fills) i). n.no_table) f.imported.entries h.entries) refl) in
    let missing : find (is_named (codes "shim") table_name) m.entries ≡ None =
    none_found (is_named (codes "shim") table_name) m.entries
    (AllByRecursion-push (λ (i : Import). is_named (codes "shim") table_name i ≡ false) f.imported.entries entry (AllByRecursion-weaker (λ (i : Import) n. not_of_shims (length f.fills) i table_name n) f.imported.entries h.entries) refl) in
    import_refused 0 m instances.Shim table_name item e (omega (arith, none)) (taken_by_shims f.imported.instances m.entries h.instances) (alike m instances.Shim table_name item missing)
    (subst (λ (x : Imported). ImportCause x instances.Shim table_name item e) (call_grown f name h) cause)

-- at most one function is called
few_calls : (f : Fixup) (initialize : Option (List ℕ)) → IsFromActual f → 1 < length (with_call f initialize).calls → ⊥
few_calls f None h many = let none : length f.calls ≡ 0 = ap (λ l. length l) h.no_calls in omega (arith, none, many)
few_calls f (Some name) h many =
    let none : length f.calls ≡ 0 = ap (λ l. length l) h.no_calls in
    let one = length_push f.calls (import_index f.imported instances.Main name (thunk_item f.types)) in
    omega (arith, none, one, many)

encode_up_to : (f : Fixup) (initialize : Option (List ℕ)) (e : ShimFault) → IsFromActual f → EncodeCause (with_call f initialize) e → IsUpTo 1 e
encode_up_to f initialize faults.Memory h cause = tt
encode_up_to f initialize (faults.TooMany n) h (inl cause) = table_up_to f initialize (table_of_shims (length (with_call f initialize).fills)) (faults.TooMany n) h cause.1
encode_up_to f initialize (faults.TooMany n) h (inr cause) = absurd (few_calls f initialize h cause.0)
encode_up_to f initialize (faults.InstanceKind name) h (inl cause) = table_up_to f initialize (table_of_shims (length (with_call f initialize).fills)) (faults.InstanceKind name) h cause.1
encode_up_to f initialize (faults.InstanceKind name) h (inr cause) = absurd cause.1
encode_up_to f initialize (faults.ImportType of name) h (inl cause) = table_up_to f initialize (table_of_shims (length (with_call f initialize).fills)) (faults.ImportType of name) h cause.1
encode_up_to f initialize (faults.ImportType of name) h (inr cause) = absurd cause.1

pub encode_refused : (f g : Fixup) (initialize : Option (List ℕ)) (e : ShimFault) → IsFromActual f → g ≡ with_call f initialize → EncodeCause g e → IsOfCounts e
encode_refused f g initialize e h is cause = of_counts 1 e (encode_up_to f initialize e h (subst (λ (k : Fixup). EncodeCause k e) is cause))

one_is_few : (count : ℕ) (fault : BuildFault) → HasTooMany 1 fault → HasTooMany count fault
one_is_few count build.Memory h = tt
one_is_few count (build.TooMany n) h = absurd (omega (arith, h))

pub encode_too_many : (count : ℕ) (f g : Fixup) (initialize : Option (List ℕ)) (e : ShimFault) (fault : BuildFault) → IsFromActual f → g ≡ with_call f initialize → EncodeCause g e → e ≡ of_build fault → HasTooMany count fault
encode_too_many count f g initialize e fault h is cause same = one_is_few count fault (has_too_many 1 e fault same (encode_up_to f initialize e h (subst (λ (k : Fixup). EncodeCause k e) is cause)))

-- ---- how many shims there are

fills_counted : (f : Fixup) (shims : List Shim) → length (fixup_with f shims).fills ≡ length f.fills + length shims
fills_counted f [] = omega arith
fills_counted f (s ∷ ss) =
    let more = fills_counted (with_shim f s.name (type_of_shim s)) ss in
    let pushed : length (with_shim f s.name (type_of_shim s)).fills ≡ length f.fills + 1 = length_push f.fills _ in
    omega (arith, more, pushed)

-- one call more than there are shims is too many
pub call_beyond : (shims : List Shim) (f : Fixup) (e : BuildFault) → f ≡ fixup_with nothing_fixed shims → HasTooMany (length f.fills + 1) e → HasTooMany (length shims + 1) e
call_beyond shims f build.Memory is h = tt
call_beyond shims f (build.TooMany n) is h =
    let count = ap (λ (k : Fixup). length k.fills) is in
    let fills = fills_counted nothing_fixed shims in
    omega (arith, count, fills, h)

-- and so are as many shims
pub shims_beyond : (shims : List Shim) (e : BuildFault) → HasTooMany (length shims) e → HasTooMany (length shims + 1) e
shims_beyond shims build.Memory h = tt
shims_beyond shims (build.TooMany n) h = omega (arith, h)

pub refused_as : {X E : Type 0} (r : Result X E) (e : E) (P : E → Type 0) → IsErrAnd r (λ x. x ≡ e) → P e → IfErr r P
refused_as (Ok x) e P h k = absurd h
refused_as (Err x) e P h k = subst P (sym h) k
