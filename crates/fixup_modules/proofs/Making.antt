-- The instance of a fixup, and its start function.
use Rattle.std.proofs.Common.{◌≡◌, ◌∙◌, ℕ, Bool, true, false, List, [], ◌∷◌, ◌++◌, length, map, Option, Some, None, if◌then◌else◌, refl, sym, ap, append-nil}
use Rattle.std.specs.List.{AllZip, slice_get}
use Rattle.std.specs.Option.{option_map}
use Rattle.comp_lists.proofs.Lists.{slice_get-append, slice_get-end}
use Rattle.core_types.specs.declared.types.MemoryType.{MemoryType}
use Rattle.core_types.specs.declared.types.FuncType.{FuncType}
use Rattle.core_bytes.specs.declared.entity.EntityType.{EntityType}
use Rattle.core_bytes.specs.declared.entry.ElementSegment.{ElementSegment}
use Rattle.core_bytes.specs.declared.entry.Import.{Import}
use Rattle.core_bytes.specs.declared.section.Section.{Section}
use Rattle.core_bytes.specs.declared.section.Section.TheVariants as sections
use Rattle.core_runs.specs.declared.start.StartStep.TheVariants.{Thunk}
use Rattle.core_bytes.specs.declared.code.Body.{Body}
use Rattle.core_runs.specs.Values.{Value}
use Rattle.core_runs.specs.Store.{Frame, Func, Generated, Opaque, Store, Now, Outcome, Returned, Called, Answer, Gives, Traps, Stuck}
use Rattle.core_runs.specs.Execution.{and_then, asked, answered, seen, exec, acts}
use Rattle.core_runs.specs.Instances.{Parts, Given, Made, bind, cons_if, matches_each, functions_given, new_frame, own_functions, elements_done, data_done, made_of, instance_of, started}
use Rattle.core_runs.specs.Sections.{parts_of, no_parts}
use Rattle.core_runs.specs.Starts.{MeansEach, deeds_done}
use Rattle.core_runs.proofs.Runs.{exec_opaque}
use Rattle.core_runs.proofs.Deeds.{starts_act}
use Rattle.interned_types.specs.Interning.{interned, type_index}
use Rattle.interned_types.proofs.TypeIndices.{type_at}
use Rattle.fixup_modules.specs.Imports.{Imported}
use Rattle.fixup_modules.specs.Fixups.{Fixup, thunk}
use Rattle.fixup_modules.specs.Sections.{all_imported, table_of, fill_segment, by_calls, own_type, types_of, imported_functions, start_function, own_function, calling, names_of, optional, fixup_sections}
use Rattle.fixup_modules.specs.Laws.{call_of, AreCalled}

-- ---- its parts

-- one entry, where there is one
abbrev pub segments_if : Option ℕ → List ℕ → List ElementSegment
segments_if None fills = []
segments_if (Some table) fills = fill_segment table fills ∷ []

abbrev pub types_if : Option ℕ → List ℕ
types_if None = []
types_if (Some type) = type ∷ []

abbrev pub bodies_if : Option ℕ → List ℕ → List Body
bodies_if None calls = []
bodies_if (Some type) calls = calling calls ∷ []

abbrev pub parts_with : List FuncType → List EntityType → Option ℕ → Option ℕ → List ElementSegment → List ℕ → Parts
parts_with types imports own first segments calls = record {
  types = types;
  imports = imports;
  functions = types_if own;
  tables = [];
  memories = [];
  globals = [];
  start = first;
  elements = segments;
  bodies = bodies_if own calls;
  segments = [];
}

abbrev pub entities_of : Fixup → List EntityType
entities_of f = map (λ (i : Import). i.entity) (all_imported f).entries

abbrev pub fixup_parts : Fixup → Parts
fixup_parts f = parts_with (types_of f) (entities_of f) (own_type f) (start_function f) (segments_if (table_of f) f.fills) f.calls

names_alone : (debug_names : Bool) (entries : List Import) (own : Option ℕ) → parts_of (names_of debug_names entries own) ≡ no_parts
names_alone true entries own = refl
names_alone false entries own = refl

module _ (types : List FuncType) (entries : List Import) (fills calls : List ℕ) (names : List Section) (none : parts_of names ≡ no_parts) where
  imports : List EntityType
  imports = map (λ (i : Import). i.entity) entries

  sections_with : Option ℕ → Option ℕ → Option ℕ → List Section
  sections_with own first table =
      sections.Types types
      ∷ sections.Imports entries
      ∷ (optional (λ type. sections.Functions (type ∷ [])) own
      ++ (optional (λ function. sections.Start function) first
      ++ (optional (λ t. sections.Elements (fill_segment t fills ∷ [])) table
      ++ (optional (λ type. sections.Code (calling calls ∷ [])) own ++ names))))

  sections_are : (own first table : Option ℕ) → parts_of (sections_with own first table) ≡ parts_with types imports own first (segments_if table fills) calls
  unfolding sections_with imports
  sections_are None None None = rw (none, append-nil types, append-nil imports) refl
  sections_are None None (Some table) = rw (none, append-nil types, append-nil imports) refl
  sections_are None (Some first) None = rw (none, append-nil types, append-nil imports) refl
  sections_are None (Some first) (Some table) = rw (none, append-nil types, append-nil imports) refl
  sections_are (Some own) None None = rw (none, append-nil types, append-nil imports) refl
  sections_are (Some own) None (Some table) = rw (none, append-nil types, append-nil imports) refl
  sections_are (Some own) (Some first) None = rw (none, append-nil types, append-nil imports) refl
  sections_are (Some own) (Some first) (Some table) = rw (none, append-nil types, append-nil imports) refl

pub parts_are : (f : Fixup) (debug_names : Bool) → parts_of (fixup_sections f debug_names) ≡ fixup_parts f
unfolding sections_with imports
parts_are f debug_names =
    let entries = (all_imported f).entries in
    let own = own_function f in
    sections_are (types_of f) entries f.fills f.calls (names_of debug_names entries own) (names_alone debug_names entries own) (own_type f) (start_function f) (table_of f)

-- ---- the instance

-- the function of the module, where there is one
abbrev pub own_if : Frame → Option ℕ → List ℕ → List Func
own_if frame None calls = []
own_if frame (Some type) calls = Generated frame thunk (calling calls).locals (calling calls).instructions ∷ []

module _ (f : Fixup) (given : List Given) (store : Store) (now : Now) where
  abbrev pub frame_of : Frame
  frame_of = new_frame (fixup_parts f) given store now

  -- what is made, where its segment leaves these tables
  abbrev pub made_with : List (List (Option ℕ)) → Made
  made_with tables = record {
    frame = frame_of;
    store = record { functions = store.functions ++ own_if frame_of (own_type f) f.calls; tables = tables; memories = store.memories ++ [] };
    now = record now { globals = now.globals ++ [] };
  }

  -- its function has the type of those without parameters and results
  owned : (calls : List ℕ) (frame : Frame) → frame.types ≡ by_calls calls f.types (λ function. f.types) (interned f.types thunk) →
      let own : Option ℕ = by_calls calls None (λ function. None) (Some (type_index f.types thunk)) in own_functions frame (types_if own) (bodies_if own calls) ≡ Some (own_if frame own calls)
  owned [] frame types = refl
  owned (g ∷ []) frame types = refl
  owned (g ∷ h ∷ gs) frame types =
      let body = calling (g ∷ h ∷ gs) in
      let finish : Option FuncType → Option (List Func) = λ o. cons_if (option_map (λ type. Generated frame type body.locals body.instructions) o) (Some []) in
      ap (λ l. finish (slice_get l (type_index f.types thunk))) types ∙ ap (λ o. finish o) (type_at f.types thunk)

  pub instance_is : (tables : List (List (Option ℕ))) → matches_each (types_of f) store now (entities_of f) given ≡ true → elements_done frame_of (segments_if (table_of f) f.fills) (store.tables ++ []) ≡ Some tables →
      instance_of (fixup_parts f) given store now ≡ Some (made_with tables)
  instance_is tables matching filled =
      let m = fixup_parts f in
      let frame = frame_of in
      let finish : Option (List (List (Option ℕ))) → List Func → Option Made = λ o functions. bind o (λ ts. bind (data_done frame [] (record now { globals = now.globals ++ [] })) (λ after. Some (record {
        frame = frame;
        store = record { functions = store.functions ++ functions; tables = ts; memories = store.memories ++ [] };
        now = after;
      }))) in
      ap (λ b. if b then made_of m frame store now (own_functions frame m.functions m.bodies) (Some []) else None) matching
      ∙ ap (λ o. made_of m frame store now o (Some [])) (owned f.calls frame refl)
      ∙ ap (λ o. finish o (own_if frame (own_type f) f.calls)) filled

-- no instance is made where its segment fits no table
pub failed : (f : Fixup) (given : List Given) (store : Store) (now : Now) → elements_done (frame_of f given store now) (segments_if (table_of f) f.fills) (store.tables ++ []) ≡ None →
    let m : Parts = fixup_parts f in made_of m (frame_of f given store now) store now (own_functions (frame_of f given store now) m.functions m.bodies) (Some []) ≡ None
failed f given store now e =
    let frame = frame_of f given store now in
    ap (λ o. made_of (fixup_parts f) frame store now o (Some [])) (owned f given store now f.calls frame refl)
    ∙ ap (λ o. bind o (λ ts. bind (data_done frame [] (record now { globals = now.globals ++ [] })) (λ after. Some (record {
      frame = frame;
      store = record { functions = store.functions ++ own_if frame (own_type f) f.calls; tables = ts; memories = store.memories ++ [] };
      now = after;
    })))) e

-- ---- the start function

-- a call is one of at most four functions in progress, and an opaque function is one alone
acts_is : (store : Store) (function : ℕ) (arguments : List Value) (now : Now) → acts store function arguments now ≡ exec 4 store function arguments now
unfolding acts
acts_is store function arguments now = refl

acts_opaque : (store : Store) (function what : ℕ) (signature : FuncType) (arguments : List Value) (now : Now) → slice_get store.functions function ≡ Some (Opaque what signature) → acts store function arguments now ≡ asked function signature arguments now
acts_opaque store function what signature arguments now there = acts_is store function arguments now ∙ exec_opaque 4 store function what signature arguments now there

-- what a call of such a function is
asked_alone : (address : ℕ) (now : Now) → and_then (asked address thunk [] now) (λ results after. Returned [] after) ≡ asked address thunk [] now
asked_alone address now = by now.answers
  where
    given : List Answer → Outcome
    given answers = answered [] answers (seen now (Called address []))

    by : (answers : List Answer) → and_then (given answers) (λ results after. Returned [] after) ≡ given answers
    by [] = refl
    by (Traps ∷ answers) = refl
    by (Gives [] number ∷ answers) = refl
    by (Gives (v ∷ vs) number ∷ answers) = refl

module _ (functions : List ℕ) (store : Store) (tables : List (List (Option ℕ))) (memories : List MemoryType) where
  -- the steps of the module's own function mean these calls
  means_each : (frame : Frame) (more : List ℕ) (later : List Func) → frame.functions ≡ functions ++ more → (calls addresses : List ℕ) → AreCalled functions store calls addresses →
      MeansEach (record { functions = store.functions ++ later; tables = tables; memories = memories }) frame (map (λ function. Thunk function) calls) (map call_of addresses)
  means_each frame more later is [] [] h = tt
  means_each frame more later is [] (a ∷ as') h = absurd h
  means_each frame more later is (g ∷ gs) [] h = absurd h
  means_each frame more later is (g ∷ gs) (a ∷ as') h = (
    (ap (λ l. slice_get l g) is ∙ slice_get-append functions more g a h.0.at, refl, refl, (h.0.what, slice_get-append store.functions later a (Opaque h.0.what thunk) h.0.is)),
    means_each frame more later is gs as' h.1,
  )

-- the start function, where these are called
module _ (types : List FuncType) (imported : Imported) (fills : List ℕ) (given : List Given) (store : Store) (now : Now) (tables : List (List (Option ℕ))) where
  abbrev fixup_calling : List ℕ → Fixup
  fixup_calling calls = record { types = types; imported = imported; fills = fills; calls = calls }

  abbrev made_calling : List ℕ → Made
  made_calling calls = made_with (fixup_calling calls) given store now tables

  starts_with : (calls called : List ℕ) → AreCalled (functions_given given) store calls called → length (functions_given given) ≡ imported_functions (fixup_calling calls) →
      started (fixup_parts (fixup_calling calls)) (made_calling calls) ≡ deeds_done (map call_of called) (made_calling calls).now
  starts_with [] [] h count = refl
  starts_with [] (a ∷ as') h count = absurd h
  starts_with (g ∷ gs) [] h count = absurd h
  starts_with (g ∷ []) (a ∷ b ∷ as') h count = absurd h.1
  starts_with (g ∷ k ∷ gs) (a ∷ []) h count = absurd h.1
  starts_with (g ∷ []) (a ∷ []) h count =
      let m : Made = made_calling (g ∷ []) in
      ap (λ o. elim o [ None ↦ Stuck | Some x ↦ acts m.store x [] m.now ]) (slice_get-append (functions_given given) [] g a h.0.at)
      ∙ acts_opaque m.store a h.0.what thunk [] m.now (slice_get-append store.functions [] a (Opaque h.0.what thunk) h.0.is)
      ∙ sym (asked_alone a m.now)
  starts_with (g ∷ k ∷ gs) (a ∷ b ∷ as') h count =
      let calls : List ℕ = g ∷ k ∷ gs in
      let m : Made = made_calling calls in
      let own : Func = Generated m.frame thunk (calling calls).locals (calling calls).instructions in
      let at : slice_get m.frame.functions (imported_functions (fixup_calling calls)) ≡ Some (length store.functions) =
      ap (λ n. slice_get m.frame.functions n) (sym count) ∙ slice_get-end (functions_given given) (length store.functions) in
      ap (λ o. elim o [ None ↦ Stuck | Some x ↦ acts m.store x [] m.now ]) at
      ∙ acts_is m.store (length store.functions) [] m.now
      ∙ starts_act (map (λ function. Thunk function) calls) (map call_of (a ∷ b ∷ as')) 2 m.store m.frame (length store.functions) m.now (slice_get-end store.functions own)
      (means_each (functions_given given) store tables (store.memories ++ []) m.frame (length store.functions ∷ []) (own ∷ []) refl calls (a ∷ b ∷ as') h)

-- the calls are made in order, and nothing else is seen
pub starts : (f : Fixup) (given : List Given) (store : Store) (now : Now) (tables : List (List (Option ℕ))) (called : List ℕ) → AreCalled (functions_given given) store f.calls called → length (functions_given given) ≡ imported_functions f →
    started (fixup_parts f) (made_with f given store now tables) ≡ deeds_done (map call_of called) (made_with f given store now tables).now
starts f given store now tables called h count = starts_with f.types f.imported f.fills given store now tables f.calls called h count
