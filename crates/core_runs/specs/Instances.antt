-- Making an instance of a generated module: its imports are matched, it is allocated, its segments
-- are written, and its start function is called. Core standard, execution: modules, instantiation.
-- This project's own: the names of imports are resolved before; a table has a fixed number of
-- slots, and is imported by its size alone; whether a global is mutable, and whether bytes are
-- within their memory, is not checked; bytes that a segment writes are an event.
use Rattle.std.specs.Prelude.{ℕ, ◌+◌, Bool, true, false, ◌&&◌, if◌then◌else◌, nat_le, List, [], ◌∷◌, ◌++◌, length, map, take, drop, replicate, Option, Some, None, slice_get, slice_set, option_map}
use Rattle.std.specs.List.{range_with_len}
use Rattle.std.specs.Int.{cast_unsigned, w32, w64}
use Rattle.core_types.specs.declared.types.ValType.{ValType}
use Rattle.core_types.specs.declared.types.FuncType.{FuncType}
use Rattle.core_types.specs.declared.types.TableType.{TableType}
use Rattle.core_types.specs.declared.types.MemoryType.{MemoryType}
use Rattle.core_bytes.specs.declared.entity.EntityType.{EntityType}
use Rattle.core_bytes.specs.declared.entity.EntityType.TheVariants as entities
use Rattle.core_bytes.specs.declared.entity.ConstExpr.{ConstExpr}
use Rattle.core_bytes.specs.declared.entity.ConstExpr.TheVariants as constants
use Rattle.core_bytes.specs.declared.code.Body.{Body}
use Rattle.core_bytes.specs.declared.entry.DefinedGlobal.{DefinedGlobal}
use Rattle.core_bytes.specs.declared.entry.ElementSegment.{ElementSegment}
use Rattle.core_bytes.specs.declared.entry.ElementSegment.TheVariants as segments
use Rattle.core_bytes.specs.declared.entry.DataSegment.{DataSegment}
use Rattle.core_runs.specs.Values.{Value, I32Value, I64Value, Function, same_value_type, same_signature}
use Rattle.core_runs.specs.Store.{Frame, Func, Generated, signature_of, Store, Cell, Kept, Foreign, Loaded, Now, Outcome, Returned, Stuck}
use Rattle.core_runs.specs.Execution.{seen, acts}

-- What a module is made of, list by list: its imports by what they are, its functions by their type indices.
pub record Parts : Type 0 where
  pub types : List FuncType
  pub imports : List EntityType
  pub functions : List ℕ
  pub tables : List TableType
  pub memories : List MemoryType
  pub globals : List DefinedGlobal
  pub start : Option ℕ
  pub elements : List ElementSegment
  pub bodies : List Body
  pub segments : List DataSegment

-- externval: what is given for an import, by its address
pub data Given : Type 0 where
  FunctionAt : ℕ → Given
  TableAt : ℕ → Given
  MemoryAt : ℕ → Given
  GlobalAt : ℕ → Given

-- continues with the item, if there is one
abbrev pub bind : {X Y : Type 0} → Option X → (X → Option Y) → Option Y
bind None go = None
bind (Some x) go = go x

abbrev pub cons_if : {X : Type 0} → Option X → Option (List X) → Option (List X)
cons_if None xs = None
cons_if (Some x) None = None
cons_if (Some x) (Some xs) = Some (x ∷ xs)

-- the items at these indices, if all exist
abbrev pub all_at : {X : Type 0} → List X → List ℕ → Option (List X)
all_at xs [] = Some []
all_at xs (i ∷ is) = cons_if (slice_get xs i) (all_at xs is)

-- a test of an item that exists
abbrev pub there_is : {X : Type 0} → Option X → (X → Bool) → Bool
there_is None test = false
there_is (Some x) test = test x

-- matching of limits: at least the minimum, and no more than the maximum where there is one
abbrev pub at_most : Option ℕ → ℕ → Bool
at_most None n = true
at_most (Some m) n = nat_le n m

abbrev pub no_larger : Option ℕ → Option ℕ → Bool
no_larger None given = true
no_larger (Some m) None = false
no_larger (Some m) (Some n) = nat_le n m

abbrev pub type_of : Cell → ValType
type_of (Kept t v) = t
type_of (Foreign what t) = t

-- what is given is of the kind and the type of the import
abbrev pub matches : List FuncType → Store → Now → EntityType → Given → Bool
matches types store now (entities.Function t) (FunctionAt a) =
    there_is (slice_get types t) (λ type. there_is (slice_get store.functions a) (λ f. same_signature type (signature_of f)))
matches types store now (entities.Table t) (TableAt a) =
    there_is (slice_get store.tables a) (λ slots. nat_le t.minimum (length slots) && at_most t.maximum (length slots))
matches types store now (entities.Memory m) (MemoryAt a) =
    there_is (slice_get store.memories a) (λ g. nat_le m.minimum g.minimum && no_larger m.maximum g.maximum)
matches types store now (entities.Global g) (GlobalAt a) =
    there_is (slice_get now.globals a) (λ cell. same_value_type g.val_type (type_of cell))
matches types store now imported given = false

abbrev pub matches_each : List FuncType → Store → Now → List EntityType → List Given → Bool
matches_each types store now [] [] = true
matches_each types store now (i ∷ is) (g ∷ gs) = matches types store now i g && matches_each types store now is gs
matches_each types store now [] (g ∷ gs) = false
matches_each types store now (i ∷ is) [] = false

-- the addresses of one kind among what is given
abbrev pub functions_given : List Given → List ℕ
functions_given [] = []
functions_given (FunctionAt a ∷ gs) = a ∷ functions_given gs
functions_given (g ∷ gs) = functions_given gs

abbrev pub tables_given : List Given → List ℕ
tables_given [] = []
tables_given (TableAt a ∷ gs) = a ∷ tables_given gs
tables_given (g ∷ gs) = tables_given gs

abbrev pub memories_given : List Given → List ℕ
memories_given [] = []
memories_given (MemoryAt a ∷ gs) = a ∷ memories_given gs
memories_given (g ∷ gs) = memories_given gs

abbrev pub globals_given : List Given → List ℕ
globals_given [] = []
globals_given (GlobalAt a ∷ gs) = a ∷ globals_given gs
globals_given (g ∷ gs) = globals_given gs

-- moduleinst: what is given, and then what is new at the ends of the store
abbrev pub new_frame : Parts → List Given → Store → Now → Frame
new_frame m given store now = record {
  types = m.types;
  functions = functions_given given ++ range_with_len (length store.functions) (length m.functions);
  tables = tables_given given ++ range_with_len (length store.tables) (length m.tables);
  globals = globals_given given ++ range_with_len (length now.globals) (length m.globals);
  memories = memories_given given ++ range_with_len (length store.memories) (length m.memories);
}

-- the module's own functions, as many as it has bodies
abbrev pub own_functions : Frame → List ℕ → List Body → Option (List Func)
own_functions frame [] [] = Some []
own_functions frame (t ∷ ts) (b ∷ bs) =
    cons_if (option_map (λ type. Generated frame type b.locals b.instructions) (slice_get frame.types t)) (own_functions frame ts bs)
own_functions frame [] (b ∷ bs) = None
own_functions frame (t ∷ ts) [] = None

abbrev pub constant_of : Frame → ConstExpr → Option Value
constant_of frame (constants.I32 n) = Some (I32Value (cast_unsigned w32 n))
constant_of frame (constants.I64 n) = Some (I64Value (cast_unsigned w64 n))
constant_of frame (constants.RefFunc f) = option_map (λ a. Function a) (slice_get frame.functions f)

abbrev pub own_globals : Frame → List DefinedGlobal → Option (List Cell)
own_globals frame [] = Some []
own_globals frame (g ∷ gs) = cons_if (option_map (λ v. Kept g.global_type.val_type v) (constant_of frame g.init)) (own_globals frame gs)

abbrev pub empty_table : ℕ → List (Option ℕ)
empty_table n = replicate n None

abbrev pub own_tables : List TableType → List (List (Option ℕ))
own_tables tables = map (λ t. empty_table t.minimum) tables

-- a table's slots after some were filled from a slot on; none where they don't fit
abbrev pub slots_after : ℕ → List ℕ → List (Option ℕ) → Option (List (Option ℕ))
slots_after offset addresses slots =
    if nat_le (offset + length addresses) (length slots)
    then Some (take offset slots ++ (map (λ a. Some a) addresses ++ drop (offset + length addresses) slots))
    else None

abbrev pub with_table : ℕ → List (List (Option ℕ)) → Option (List (Option ℕ)) → Option (List (List (Option ℕ)))
with_table t tables None = None
with_table t tables (Some slots) = Some (slice_set tables t slots)

abbrev pub table_index : Option ℕ → ℕ
table_index None = 0
table_index (Some t) = t

-- what an element segment does to the tables
abbrev pub element_done : Frame → ElementSegment → List (List (Option ℕ)) → Option (List (List (Option ℕ)))
element_done frame (segments.Declared fs) tables = Some tables
element_done frame (segments.Active table offset fs) tables =
    bind (slice_get frame.tables (table_index table)) (λ t.
    bind (slice_get tables t) (λ slots.
    bind (all_at frame.functions fs) (λ addresses. with_table t tables (slots_after (cast_unsigned w32 offset) addresses slots))))

abbrev pub elements_done : Frame → List ElementSegment → List (List (Option ℕ)) → Option (List (List (Option ℕ)))
elements_done frame [] tables = Some tables
elements_done frame (e ∷ es) tables = bind (element_done frame e tables) (λ after. elements_done frame es after)

-- what data segments do: their bytes are written to memory 0, in order
abbrev pub data_done : Frame → List DataSegment → Now → Option Now
data_done frame [] now = Some now
data_done frame (d ∷ ds) now =
    bind (slice_get frame.memories 0) (λ m. data_done frame ds (seen now (Loaded m (cast_unsigned w32 d.offset) d.bytes)))

-- A new instance, before its start function: its frame, and the store with it.
pub record Made : Type 0 where
  pub frame : Frame
  pub store : Store
  pub now : Now

abbrev pub made_of : Parts → Frame → Store → Now → Option (List Func) → Option (List Cell) → Option Made
made_of m frame store now (Some functions) (Some cells) =
    bind (elements_done frame m.elements (store.tables ++ own_tables m.tables)) (λ tables.
    bind (data_done frame m.segments (record now { globals = now.globals ++ cells })) (λ after.
    Some (record {
      frame = frame;
      store = record { functions = store.functions ++ functions; tables = tables; memories = store.memories ++ m.memories };
      now = after;
    })))
made_of m frame store now functions cells = None

abbrev pub instance_of : Parts → List Given → Store → Now → Option Made
instance_of m given store now =
    if matches_each m.types store now m.imports given
    then (let frame = new_frame m given store now in made_of m frame store now (own_functions frame m.functions m.bodies) (own_globals frame m.globals))
    else None

-- its start function
abbrev pub started : Parts → Made → Outcome
started m made = elim m.start [ None ↦ Returned [] made.now | Some f ↦ elim (slice_get made.frame.functions f) [ None ↦ Stuck | Some a ↦ acts made.store a [] made.now ] ]
