-- The instance of the fixup can be made: each slot holds what is given for its shim, and then main is initialized.
use Rattle.std.proofs.Common.{◌≡◌, ◌∙◌, ◌+◌, ℕ, Bool, true, false, ◌&&◌, List, [], ◌∷◌, ◌++◌, length, map, drop, Option, Some, None, if◌then◌else◌, append-nil, append_assoc, length-append, refl, sym, ap, subst, arith}
use Rattle.std.proofs.Math.Seq.{drop-length}
use Rattle.std.proofs.lemmas.Bool.{eq-eqb}
use Rattle.std.proofs.lemmas.Bool.Decides.{nat_tests}
use Rattle.std.proofs.lemmas.List.{length-map}
use Rattle.std.proofs.lemmas.List.FromFn.{length-range_with_len}
use Rattle.std.proofs.lemmas.Simd.{map-map}
use Rattle.std.specs.List.{slice_get, slice_set, flat_map, range_with_len, AllZip}
use Rattle.std.specs.Prelude.{nat_le}
use Rattle.comp_lists.proofs.Lists.{length-AllZip, slice_get-end}
use Rattle.core_types.specs.declared.types.FuncType.{FuncType}
use Rattle.core_types.specs.declared.types.MemoryType.{MemoryType}
use Rattle.core_types.specs.declared.types.ValType.{ValType}
use Rattle.core_types.specs.declared.types.ValType.TheVariants.{I32, I64, F32, F64, Ref}
use Rattle.core_types.specs.declared.types.RefType.TheVariants.{FuncRef, Concrete}
use Rattle.core_bytes.specs.declared.entry.Import.{Import}
use Rattle.core_bytes.specs.declared.section.Section.{Section}
use Rattle.core_bytes.specs.declared.section.Section.TheVariants as sections
use Rattle.core_runs.specs.Values.{same_value_type, same_value_types, same_signature}
use Rattle.core_runs.specs.Values.{Value}
use Rattle.core_runs.specs.Store.{Frame, Func, signature_of, Store, Cell, Now}
use Rattle.core_runs.specs.Store as core
use Rattle.core_runs.specs.Bodies.{table_fill}
use Rattle.core_runs.specs.Instances.{Given, FunctionAt, TableAt, Made, bind, cons_if, all_at, there_is, at_most, matches_each, functions_given, tables_given, slots_after, with_table as table_with, elements_done}
use Rattle.core_runs.specs.Starts.{deeds_done}
use Rattle.core_runs.proofs.Runs.{has_all}
use Rattle.interned_types.specs.Interning.{interned, type_index}
use Rattle.interned_types.proofs.TypeIndices.{type_at}
use Rattle.fixup_modules.specs.Fixups.{Fixup, thunk}
use Rattle.fixup_modules.specs.Sections.{table_index, if_none, all_imported, table_of, fill_segment, by_calls, own_type as own_type_at, types_of, start_function, own_function, calling, names_of, optional, fixup_sections}
use Rattle.fixup_modules.specs.Laws.{call_of, AreCalled}
use Rattle.fixup_modules.proofs.Building.{type_kept}
use Rattle.fixup_modules.proofs.Filling.{counts_given, all_among}
use Rattle.fixup_modules.proofs.Making.{segments_if, entities_of, fixup_parts, parts_are, own_if, frame_of, made_with, instance_is, starts}
use Rattle.comp_runs.specs.Store.{Export, Store as RunStore}
use Rattle.comp_runs.specs.Machine.{Scope, Machine, Next, Outcome, all_some, resumed}
use Rattle.comp_runs.specs.Instances.{section_imports, section_exports, export_at, with_module_instance}
use Rattle.shim_plan.specs.declared.shims.Shim.{Shim}
use Rattle.world_shims.specs.WorldShims.{type_of_shim, types_with, fixup_of, sections_of_fixup}
use Rattle.shim_runs.specs.ShimRuns.{machine, with_code, HasSlots, with_slots, AreCalls, IsActual, CanFix, FixupRun, fixup_arguments}
use Rattle.shim_runs.proofs.Instantiating.{IsMade, made_runs}
use Rattle.shim_runs.proofs.ShimInstance.{own_type}
use Rattle.world_shims.proofs.FixupImports.{imports_of, types_with_call, call_imports, call_indices, table_imports, fixup_is}
use Rattle.shim_runs.proofs.FixupGiven.{argument_of, imports_given, things_given, table_values, values_given, values_are}

-- ---- types

same_value_type-refl : (t : ValType) → same_value_type t t ≡ true
same_value_type-refl I32 = refl
same_value_type-refl I64 = refl
same_value_type-refl F32 = refl
same_value_type-refl F64 = refl
same_value_type-refl (Ref FuncRef) = refl
same_value_type-refl (Ref (Concrete t)) = eq-eqb t t refl

same_value_types-refl : (ts : List ValType) → same_value_types ts ts ≡ true
same_value_types-refl [] = refl
same_value_types-refl (t ∷ ts) = ap (λ b. b && same_value_types ts ts) (same_value_type-refl t) ∙ same_value_types-refl ts

same_signature-refl : (s : FuncType) → same_signature s s ≡ true
same_signature-refl s = ap (λ b. b && same_value_types s.results s.results) (same_value_types-refl s.params) ∙ same_value_types-refl s.results

-- ---- what is given matches what is imported

module _ (code : Store) (now : Now) (all : List FuncType) where
  functions_match : (types : List FuncType) (shims : List Shim) (actual : List Export) → AllZip (IsActual code) shims actual → ((i : ℕ) (type : FuncType) → slice_get (types_with types shims) i ≡ Some type → slice_get all i ≡ Some type) →
      (more : List Import) (given : List Given) → matches_each all code now (map (λ (i : Import). i.entity) more) given ≡ true →
      matches_each all code now (map (λ (i : Import). i.entity) (imports_of types shims ++ more)) (map (λ (e : Export). FunctionAt e.address) actual ++ given) ≡ true
  functions_match types [] [] each stay more given rest = rest
  functions_match types [] (e ∷ es) each stay more given rest = absurd each
  functions_match types (s ∷ ss) [] each stay more given rest = absurd each
  functions_match types (s ∷ ss) (e ∷ es) each stay more given rest =
      let type = type_of_shim s in
      let others = matches_each all code now (map (λ (i : Import). i.entity) (imports_of (interned types type) ss ++ more)) (map (λ (x : Export). FunctionAt x.address) es ++ given) in
      ap (λ o. there_is o (λ t. there_is (slice_get code.functions e.address) (λ f. same_signature t (signature_of f))) && others) (stay (type_index types type) type (own_type types s ss))
      ∙ ap (λ o. there_is o (λ f. same_signature type (signature_of f)) && others) each.0.present
      ∙ ap (λ t. same_signature type t && others) each.0.typed
      ∙ ap (λ b. b && others) (same_signature-refl type)
      ∙ functions_match (interned types type) ss es each.1 stay more given rest

  table_matches : (shims : List Shim) (table : ℕ) → ((shims ≡ [] → ⊥) → HasSlots code table shims) → matches_each all code now (map (λ (i : Import). i.entity) (table_imports shims)) (table_values shims table) ≡ true
  table_matches [] table slotted = refl
  table_matches (s ∷ ss) table slotted =
      let h : HasSlots code table (s ∷ ss) = slotted (λ e. cc) in
      let count = length (s ∷ ss) in
      let size = h.size in
      let least : nat_le count (length h.slots) ≡ true = grind (arith, nat_tests, size) in
      let most : nat_le (length h.slots) count ≡ true = grind (arith, nat_tests, size) in
      ap (λ o. there_is o (λ l. nat_le count (length l) && at_most (Some count) (length l)) && true) h.present
      ∙ ap (λ b. (b && nat_le (length h.slots) count) && true) least
      ∙ ap (λ b. b && true) most

  call_matches : (types : List FuncType) (initialize : Option (List ℕ)) (main : List Export) (called : List ℕ) → AreCalls code main initialize called → ((i : ℕ) (type : FuncType) → slice_get (types_with_call types initialize) i ≡ Some type → slice_get all i ≡ Some type) →
      (more : List Import) (given : List Given) → matches_each all code now (map (λ (i : Import). i.entity) more) given ≡ true →
      matches_each all code now (map (λ (i : Import). i.entity) (call_imports types initialize ++ more)) (map (λ a. FunctionAt a) called ++ given) ≡ true
  call_matches types None main called calls stay more given rest = ap (λ l. matches_each all code now (map (λ (i : Import). i.entity) more) (map (λ a. FunctionAt a) l ++ given)) calls ∙ rest
  call_matches types (Some name) main [] calls stay more given rest = absurd calls
  call_matches types (Some name) main (a ∷ b ∷ as') calls stay more given rest = absurd calls
  call_matches types (Some name) main (a ∷ []) calls stay more given rest =
      let others = matches_each all code now (map (λ (i : Import). i.entity) more) given in
      ap (λ o. there_is o (λ t. there_is (slice_get code.functions a) (λ f. same_signature t (signature_of f))) && others) (stay (type_index types thunk) thunk (type_at types thunk))
      ∙ ap (λ o. there_is o (λ f. same_signature thunk (signature_of f)) && others) calls.2
      ∙ rest

-- ---- the segment

-- the functions and the tables among what is given
functions_are : (shims : List Shim) (actual : List Export) (called : List ℕ) (table : ℕ) → functions_given (values_given shims actual called table) ≡ map (λ (e : Export). e.address) actual ++ called
functions_are [] [] [] table = refl
functions_are (s ∷ ss) [] [] table = refl
functions_are shims [] (a ∷ as') table = ap (λ l. a ∷ l) (functions_are shims [] as' table)
functions_are shims (e ∷ es) called table = ap (λ l. e.address ∷ l) (functions_are shims es called table)

tables_are : (s : Shim) (ss : List Shim) (actual : List Export) (called : List ℕ) (table : ℕ) → tables_given (values_given (s ∷ ss) actual called table) ≡ table ∷ []
tables_are s ss [] [] table = refl
tables_are s ss [] (a ∷ as') table = tables_are s ss [] as' table
tables_are s ss (e ∷ es) called table = tables_are s ss es called table

-- all items, by their indices
all_behind : (before xs : List ℕ) → all_at (before ++ xs) (range_with_len (length before) (length xs)) ≡ Some xs
all_behind before [] = refl
all_behind before (x ∷ xs) =
    let as_many : length before + 1 ≡ length (before ++ x ∷ []) = sym (length-append before (x ∷ [])) in
    ap (λ o. cons_if o (all_at (before ++ x ∷ xs) (range_with_len (length before + 1) (length xs)))) (has_all (x ∷ xs) before).0
    ∙ ap (λ n. cons_if (Some x) (all_at (before ++ x ∷ xs) (range_with_len n (length xs)))) as_many
    ∙ ap (λ l. cons_if (Some x) (all_at l (range_with_len (length (before ++ x ∷ [])) (length xs)))) (sym (append_assoc before (x ∷ []) xs))
    ∙ ap (λ o. cons_if (Some x) o) (all_behind (before ++ x ∷ []) xs)

-- as many functions as slots replace them all
all_slots : (addresses : List ℕ) (slots : List (Option ℕ)) → length addresses ≡ length slots → slots_after 0 addresses slots ≡ Some (map (λ a. Some a) addresses)
all_slots addresses slots e =
    let fits : nat_le (0 + length addresses) (length slots) ≡ true = grind (arith, nat_tests, e) in
    let count : 0 + length addresses ≡ length slots = omega (arith, e) in
    ap (λ b. if b then Some (map (λ a. Some a) addresses ++ drop (0 + length addresses) slots) else None) fits
    ∙ ap (λ n. Some (map (λ a. Some a) addresses ++ drop n slots)) count
    ∙ ap (λ l. Some (map (λ a. Some a) addresses ++ l)) (drop-length slots)
    ∙ ap (λ l. Some l) (append-nil (map (λ a. Some a) addresses))

slots_filled : (frame : Frame) (fs addresses : List ℕ) (tables : List (List (Option ℕ))) (table : ℕ) (slots : List (Option ℕ)) → slice_get frame.tables 0 ≡ Some table → slice_get tables table ≡ Some slots → all_at frame.functions fs ≡ Some addresses → length addresses ≡ length slots →
    elements_done frame (table_fill fs ∷ []) tables ≡ Some (slice_set tables table (map (λ a. Some a) addresses))
slots_filled frame fs addresses tables table slots own there found size =
    let finish : Option (List (List (Option ℕ))) → Option (List (List (Option ℕ))) = λ o. bind o (λ after. Some after) in
    ap (λ o. finish (bind o (λ t. bind (slice_get tables t) (λ l. bind (all_at frame.functions fs) (λ a. table_with t tables (slots_after 0 a l)))))) own
    ∙ ap (λ o. finish (bind o (λ l. bind (all_at frame.functions fs) (λ a. table_with table tables (slots_after 0 a l))))) there
    ∙ ap (λ o. finish (bind o (λ a. table_with table tables (slots_after 0 a slots)))) found
    ∙ ap (λ o. finish (table_with table tables o)) (all_slots addresses slots size)

-- ---- its sections

module _ (types : List FuncType) (entries : List Import) (fills calls : List ℕ) (names : List Section) where
  sections_with : Option ℕ → Option ℕ → Option ℕ → List Section
  sections_with own first table =
      sections.Types types
      ∷ sections.Imports entries
      ∷ (optional (λ type. sections.Functions (type ∷ [])) own
      ++ (optional (λ function. sections.Start function) first
      ++ (optional (λ t. sections.Elements (fill_segment t fills ∷ [])) table
      ++ (optional (λ type. sections.Code (calling calls ∷ [])) own ++ names))))

  imports_with : flat_map section_imports names ≡ [] → (own first table : Option ℕ) → flat_map section_imports (sections_with own first table) ≡ entries
  unfolding sections_with
  imports_with none None None None = ap (λ l. entries ++ l) none ∙ append-nil entries
  imports_with none None None (Some table) = ap (λ l. entries ++ l) none ∙ append-nil entries
  imports_with none None (Some first) None = ap (λ l. entries ++ l) none ∙ append-nil entries
  imports_with none None (Some first) (Some table) = ap (λ l. entries ++ l) none ∙ append-nil entries
  imports_with none (Some own) None None = ap (λ l. entries ++ l) none ∙ append-nil entries
  imports_with none (Some own) None (Some table) = ap (λ l. entries ++ l) none ∙ append-nil entries
  imports_with none (Some own) (Some first) None = ap (λ l. entries ++ l) none ∙ append-nil entries
  imports_with none (Some own) (Some first) (Some table) = ap (λ l. entries ++ l) none ∙ append-nil entries

  exports_with : flat_map section_exports names ≡ [] → (own first table : Option ℕ) → flat_map section_exports (sections_with own first table) ≡ []
  unfolding sections_with
  exports_with none None None None = none
  exports_with none None None (Some table) = none
  exports_with none None (Some first) None = none
  exports_with none None (Some first) (Some table) = none
  exports_with none (Some own) None None = none
  exports_with none (Some own) None (Some table) = none
  exports_with none (Some own) (Some first) None = none
  exports_with none (Some own) (Some first) (Some table) = none

named_imports : (debug_names : Bool) (entries : List Import) (own : Option ℕ) → flat_map section_imports (names_of debug_names entries own) ≡ []
named_imports true entries own = refl
named_imports false entries own = refl

named_exports : (debug_names : Bool) (entries : List Import) (own : Option ℕ) → flat_map section_exports (names_of debug_names entries own) ≡ []
named_exports true entries own = refl
named_exports false entries own = refl

imports_alone : (f : Fixup) (debug_names : Bool) → flat_map section_imports (fixup_sections f debug_names) ≡ (all_imported f).entries
unfolding sections_with
imports_alone f debug_names = imports_with (types_of f) (all_imported f).entries f.fills f.calls _ (named_imports debug_names (all_imported f).entries (own_function f)) (own_type_at f) (start_function f) (table_of f)

pub no_exports : (f : Fixup) (debug_names : Bool) → flat_map section_exports (fixup_sections f debug_names) ≡ []
unfolding sections_with
no_exports f debug_names = exports_with (types_of f) (all_imported f).entries f.fills f.calls _ (named_exports debug_names (all_imported f).entries (own_function f)) (own_type_at f) (start_function f) (table_of f)

-- ---- the fixup of a world

-- the type of its own function, and its types, by what it calls
abbrev own_type_by : List ℕ → Fixup → Option ℕ
own_type_by calls g = by_calls calls None (λ function. None) (Some (type_index g.types thunk))

abbrev types_by : List ℕ → Fixup → List FuncType
types_by calls g = by_calls calls g.types (λ function. g.types) (interned g.types thunk)

abbrev addresses_of : List Export → List ℕ
addresses_of actual = map (λ (e : Export). e.address) actual

module _ (shims : List Shim) (initialize : Option (List ℕ)) (debug_names : Bool) (actual main : List Export) (address table : ℕ) (memory : Option ℕ) (cell : Option ValType) (called : List ℕ) (m : Machine) (h : CanFix shims initialize actual main table called m.store.code) where
  -- it makes no function of its own
  few : (o : Option (List ℕ)) (g : Fixup) (calls : List ℕ) → calls ≡ call_indices (length shims) o → (own_type_by calls g ≡ None) × (types_by calls g ≡ g.types)
  few None g calls same = (ap (λ l. own_type_by l g) same, ap (λ l. types_by l g) same)
  few (Some name) g calls same = (ap (λ l. own_type_by l g) same, ap (λ l. types_by l g) same)

  none_own : own_type_at (fixup_of shims initialize) ≡ None
  none_own = (few initialize (fixup_of shims initialize) (fixup_of shims initialize).calls (fixup_is shims initialize h.numbered h.room).calls).0

  types_are : types_of (fixup_of shims initialize) ≡ types_with_call (types_with [] shims) initialize
  types_are = (few initialize (fixup_of shims initialize) (fixup_of shims initialize).calls (fixup_is shims initialize h.numbered h.room).calls).1 ∙ (fixup_is shims initialize h.numbered h.room).types

  stay : (o : Option (List ℕ)) (i : ℕ) (type : FuncType) → slice_get (types_with [] shims) i ≡ Some type → slice_get (types_with_call (types_with [] shims) o) i ≡ Some type
  stay None i type e = e
  stay (Some name) i type e = type_kept (types_with [] shims) thunk type i e

  matching : matches_each (types_of (fixup_of shims initialize)) m.store.code m.now (entities_of (fixup_of shims initialize)) (values_given shims actual called table) ≡ true
  matching =
      let all = types_with_call (types_with [] shims) initialize in
      let more = call_imports (types_with [] shims) initialize ++ table_imports shims in
      let table_is = table_matches m.store.code m.now all shims table h.slotted in
      let call_is = call_matches m.store.code m.now all (types_with [] shims) initialize main called h.calls (λ i type e. e) (table_imports shims) (table_values shims table) table_is in
      ap (λ l. matches_each l m.store.code m.now (entities_of (fixup_of shims initialize)) (values_given shims actual called table)) types_are
      ∙ ap (λ (l : List Import). matches_each all m.store.code m.now (map (λ (i : Import). i.entity) l) (values_given shims actual called table)) (fixup_is shims initialize h.numbered h.room).entries
      ∙ functions_match m.store.code m.now all [] shims actual h.each (stay initialize) more (map (λ a. FunctionAt a) called ++ table_values shims table) call_is

-- the segment leaves these tables
tables_left : (shims : List Shim) (initialize : Option (List ℕ)) (actual main : List Export) (table : ℕ) (called : List ℕ) (code : Store) (now : Now) → CanFix shims initialize actual main table called code →
    elements_done (frame_of (fixup_of shims initialize) (values_given shims actual called table) code now) (segments_if (table_of (fixup_of shims initialize)) (fixup_of shims initialize).fills) (code.tables ++ []) ≡ Some (with_slots shims table actual code).tables
tables_left [] initialize actual main table called code now h =
    let f = fixup_of [] initialize in
    let is = fixup_is [] initialize h.numbered h.room in
    let frame = frame_of f (values_given [] actual called table) code now in
    ap (λ (l : List ℕ). elements_done frame (segments_if (if_none l None (Some (table_index f))) f.fills) (code.tables ++ [])) is.fills
    ∙ ap (λ l. Some l) (append-nil code.tables)
tables_left (s ∷ ss) initialize actual main table called code now h =
    let shims = s ∷ ss in
    let f = fixup_of shims initialize in
    let is = fixup_is shims initialize h.numbered h.room in
    let values = values_given shims actual called table in
    let frame = frame_of f values code now in
    let fs = range_with_len 0 (length shims) in
    let addresses = addresses_of actual in
    let slots : HasSlots code table shims = h.slotted (λ e. cc) in
    let as_many : length addresses ≡ length shims = length-map actual (λ (e : Export). e.address) ∙ sym (length-AllZip (IsActual code) shims actual h.each) in
    let own : slice_get frame.tables 0 ≡ Some table = ap (λ l. slice_get (l ++ []) 0) (tables_are s ss actual called table) in
    let behind : all_at addresses fs ≡ Some addresses = ap (λ n. all_at addresses (range_with_len 0 n)) (sym as_many) ∙ all_behind [] addresses in
    let given : all_at (functions_given values) fs ≡ Some addresses = ap (λ l. all_at l fs) (functions_are shims actual called table) ∙ all_among addresses called fs addresses behind in
    let found : all_at frame.functions fs ≡ Some addresses = all_among (functions_given values) _ fs addresses given in
    ap (λ (l : List ℕ). elements_done frame (segments_if (if_none l None (Some (table_index f))) f.fills) (code.tables ++ [])) is.fills
    ∙ ap (λ n. elements_done frame (fill_segment n f.fills ∷ []) (code.tables ++ [])) (is.table (λ e. cc))
    ∙ ap (λ l. elements_done frame (table_fill l ∷ []) (code.tables ++ [])) is.fills
    ∙ ap (λ l. elements_done frame (table_fill fs ∷ []) l) (append-nil code.tables)
    ∙ slots_filled frame fs addresses code.tables table slots.slots own slots.present found (as_many ∙ sym slots.size)
    ∙ ap (λ l. Some (slice_set code.tables table l)) (map-map (λ a. Some a) (λ (e : Export). e.address) actual)

-- ---- what it calls

are_called : (shims : List Shim) (initialize : Option (List ℕ)) (actual main : List Export) (table : ℕ) (called : List ℕ) (code : Store) → CanFix shims initialize actual main table called code → AreCalls code main initialize called → (calls : List ℕ) → calls ≡ call_indices (length shims) initialize →
    AreCalled (functions_given (values_given shims actual called table)) code calls called
are_called shims None actual main table called code h none calls same =
    subst (λ l. AreCalled (functions_given (values_given shims actual called table)) code l called) (sym same) (subst (λ l. AreCalled (functions_given (values_given shims actual called table)) code [] l) (sym none) tt)
are_called shims (Some name) actual main table [] code h is calls same = absurd is
are_called shims (Some name) actual main table (a ∷ b ∷ as') code h is calls same = absurd is
are_called shims (Some name) actual main table (a ∷ []) code h is calls same =
    let values = values_given shims actual (a ∷ []) table in
    let addresses = addresses_of actual in
    let as_many : length addresses ≡ length shims = length-map actual (λ (e : Export). e.address) ∙ sym (length-AllZip (IsActual code) shims actual h.each) in
    let at : slice_get (functions_given values) (length shims) ≡ Some a =
    ap (λ l. slice_get l (length shims)) (functions_are shims actual (a ∷ []) table) ∙ ap (λ n. slice_get (addresses ++ a ∷ []) n) (sym as_many) ∙ slice_get-end addresses a in
    subst (λ l. AreCalled (functions_given values) code l (a ∷ [])) (sym same) (record { at = at; what = is.1; is = is.2 }, tt)

-- ---- the run

same_code : (shims : List Shim) (table : ℕ) (actual : List Export) (code : Store) → record { functions = code.functions; tables = (with_slots shims table actual code).tables; memories = code.memories } ≡ with_slots shims table actual code
same_code [] table actual code = refl
same_code (s ∷ ss) table actual code = refl

pub fixup_run : (shims : List Shim) (initialize : Option (List ℕ)) (debug_names : Bool) (actual main : List Export) (address table : ℕ) (memory : Option ℕ) (cell : Option ValType) (called : List ℕ) (number : ℕ) (c : Scope) (s : RunStore) → CanFix shims initialize actual main table called s.code →
    FixupRun shims initialize debug_names actual main address table memory cell called number c s
fixup_run shims initialize debug_names actual main address table memory cell called number c s h =
    let code = s.code in
    let f = fixup_of shims initialize in
    let is = fixup_is shims initialize h.numbered h.room in
    let given = things_given shims actual called table in
    let values = values_given shims actual called table in
    let arguments = fixup_arguments shims initialize actual main address table memory cell in
    let tables = (with_slots shims table actual code).tables in
    let made : Now → Made = λ now. made_with f values code now tables in
    let outcome : Now → core.Outcome = λ now. deeds_done (map call_of called) now in
    let made_is : (now : Now) → IsMade (sections_of_fixup shims initialize debug_names) arguments (machine c s now) given (made now) [] (outcome (made now).now) = λ now. record {
      parts = fixup_parts f;
      externals = values;
      found = ap (λ l. all_some (map (argument_of arguments) l)) (imports_alone f debug_names ∙ is.entries) ∙ imports_given code shims initialize actual main address table memory cell called h.numbered h.room h.each h.calls;
      external_values = values_are shims actual called table;
      parts_are = parts_are f debug_names;
      is_made = instance_is f values code now tables (matching shims initialize debug_names actual main address table memory cell called (machine c s now) h) (tables_left shims initialize actual main table called code now h);
      exported = ap (λ l. all_some (map (export_at (frame_of f values code now)) l)) (no_exports f debug_names);
      starts = starts f values code now tables called (are_called shims initialize actual main table called code h h.calls f.calls is.calls)
          (counts_given (types_of f) code now (all_imported f).entries values (matching shims initialize debug_names actual main address table memory cell called (machine c s now) h)).0;
    } in
    let after : Next → List Value → Next = λ next values x. next (with_module_instance (record { module_number = number; given = given; exports = [] }) x) in
    let none : (now : Now) → own_if (frame_of f values code now) (own_type_at f) f.calls ≡ [] = λ now. ap (λ o. own_if (frame_of f values code now) o f.calls) (none_own shims initialize debug_names actual main address table memory cell called (machine c s now) h) in
    record {
      given = given;
      runs = λ now next.
          let with_rest : List Func → List MemoryType → List Cell → Outcome = λ functions memories globals. resumed (outcome (record now { globals = globals })) (machine c (with_code s (record { functions = functions; tables = tables; memories = memories })) now) (after next) in
          made_runs (sections_of_fixup shims initialize debug_names) number arguments (machine c s now) given (made now) [] (outcome (made now).now) (made_is now) next
          ∙ ap (λ l. with_rest (code.functions ++ l) (code.memories ++ []) (now.globals ++ [])) (none now)
          ∙ ap (λ l. with_rest l (code.memories ++ []) (now.globals ++ [])) (append-nil code.functions)
          ∙ ap (λ l. with_rest code.functions l (now.globals ++ [])) (append-nil code.memories)
          ∙ ap (λ l. with_rest code.functions code.memories l) (append-nil now.globals)
          ∙ ap (λ (x : Store). resumed (outcome now) (machine c (with_code s x) now) (after next)) (same_code shims table actual code);
    }
