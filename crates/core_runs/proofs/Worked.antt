-- Worked examples: bodies by their bytes, and what they do.
use Rattle.std.proofs.Common.{pos, ◌≡◌, ℕ, List, [], ◌∷◌, refl, Some, None, Option, false}
use Rattle.std.specs.Prelude.{option_map}
use Rattle.byte_encoding.specs.Encoding.{leb128}
use Rattle.core_bytes.specs.Signed.{signed_within}
use Rattle.core_bytes.specs.Grammar.{body}
use Rattle.core_types.specs.declared.types.ValType.TheVariants.{I32, Ref}
use Rattle.core_types.specs.declared.types.RefType.TheVariants.{Concrete}
use Rattle.core_types.specs.declared.types.FuncType.{FuncType}
use Rattle.core_runs.specs.declared.bracket.TaskHook.TheVariants.{AsyncResume, InitializeStart, InitializeFinish}
use Rattle.core_runs.specs.declared.bracket.AfterHook.TheVariants.{ByStatus}
use Rattle.core_runs.specs.declared.bracket.Bracket.{Bracket}
use Rattle.core_runs.specs.declared.start.StartStep.{StartStep}
use Rattle.core_runs.specs.declared.start.StartStep.TheVariants.{Fill, Thunk, Hook, AddressToMemory}
use Rattle.core_runs.specs.Values.{I32Value, Function, Value}
use Rattle.core_runs.specs.Store.{Frame, Generated, Opaque, Store, Cell, Kept, Foreign, Gives, Called, Stored, Now, ByCode, Returned, Trapped, Stuck, Loaded}
use Rattle.core_runs.specs.Instances.{FunctionAt, TableAt, MemoryAt, GlobalAt, bind, Made, instance_of, started}
use Rattle.core_bytes.specs.declared.section.Section.{Section}
use Rattle.core_bytes.specs.declared.section.Section.TheVariants as sections
use Rattle.core_bytes.specs.declared.entity.EntityType.TheVariants as entities
use Rattle.core_runs.specs.Sections.{parts_of}
use Rattle.core_bytes.proofs.Worked as given
use Rattle.core_runs.specs.Execution.{exec, acts}
use Rattle.core_runs.specs.Expected.{hook_signature}
use Rattle.core_runs.specs.Bodies.{table_shim, ref_shim, stub, wrapper, start, tls_get, tls_set}

-- shims of two parameters: by slot 0 and type 0, by global 0 and type 0
table_shim_bytes : (body (table_shim 2 0 0)).bytes ≡ 0x00 ∷ 0x20 ∷ 0x00 ∷ 0x20 ∷ 0x01 ∷ 0x41 ∷ 0x00 ∷ 0x11 ∷ 0x00 ∷ 0x00 ∷ 0x0b ∷ []
unfolding leb128 signed_within
table_shim_bytes = refl

ref_shim_bytes : (body (ref_shim 2 0 0)).bytes ≡ 0x00 ∷ 0x20 ∷ 0x00 ∷ 0x20 ∷ 0x01 ∷ 0x23 ∷ 0x00 ∷ 0x15 ∷ 0x00 ∷ 0x0b ∷ []
unfolding leb128 signed_within
ref_shim_bytes = refl

stub_bytes : (body stub).bytes ≡ 0x00 ∷ 0x00 ∷ 0x0b ∷ []
unfolding leb128 signed_within
stub_bytes = refl

-- the wrapper of a callback (i32 i32 i32 to i32), with hook function 0 and callback function 2
abbrev callback : FuncType
callback = record { params = I32 ∷ I32 ∷ I32 ∷ []; results = I32 ∷ [] }

abbrev resumed : Bracket
resumed = record { before = Some AsyncResume; after = ByStatus }

callback_bytes : (body (wrapper 3 resumed 0 2)).bytes ≡ 0x01 ∷ 0x01 ∷ 0x7f ∷ 0x41 ∷ 0x03 ∷ 0x10 ∷ 0x00 ∷ 0x20 ∷ 0x00 ∷ 0x20 ∷ 0x01 ∷ 0x20 ∷ 0x02 ∷ 0x10 ∷ 0x02 ∷ 0x21 ∷ 0x03 ∷ 0x41 ∷ 0x04 ∷ 0x41 ∷ 0x05 ∷ 0x20 ∷ 0x03 ∷ 0x1b ∷ 0x10 ∷ 0x00 ∷ 0x20 ∷ 0x03 ∷ 0x0b ∷ []
unfolding leb128 signed_within
callback_bytes = refl

-- a store with the hook at 0, the callback at 2, and its wrapper at 3
abbrev frame : Frame
frame = record { types = callback ∷ []; functions = 0 ∷ 1 ∷ 2 ∷ []; tables = []; globals = []; memories = [] }

abbrev store : Store
store = record {
  functions = Opaque 10 hook_signature ∷ Opaque 11 hook_signature ∷ Opaque 12 callback ∷ Generated frame callback (wrapper 3 resumed 0 2).locals (wrapper 3 resumed 0 2).instructions ∷ [];
  tables = [];
  memories = [];
}

abbrev arguments : List Value
arguments = I32Value 7 ∷ I32Value 8 ∷ I32Value 9 ∷ []

-- the hooks take one answer each, and between them the callback returns a code
abbrev at_first : ℕ → Now
at_first code = record { globals = []; answers = Gives [] 0 ∷ Gives (I32Value code ∷ []) 0 ∷ Gives [] 0 ∷ []; events = []; moments = [] }

abbrev at_last : ℕ → Now
at_last hook = record { globals = []; answers = []; events = Called 0 (I32Value 3 ∷ []) ∷ Called 2 arguments ∷ Called 0 (I32Value hook ∷ []) ∷ []; moments = [] ∷ [] ∷ [] ∷ [] }

-- code 0: hooks 3 and 5, and 0 is returned
callback_finishes : acts store 3 arguments (at_first 0) ≡ Returned (I32Value 0 ∷ []) (at_last 5)
unfolding acts exec
callback_finishes = refl

-- code 1: hooks 3 and 4, and 1 is returned
callback_blocks : acts store 3 arguments (at_first 1) ≡ Returned (I32Value 1 ∷ []) (at_last 4)
unfolding acts exec
callback_blocks = refl

-- the start function that stores at address 64 the sum of globals 0 and 1
abbrev address_body : List StartStep
address_body = AddressToMemory 0 1 64 ∷ []

address_bytes : (body (start address_body)).bytes ≡ 0x00 ∷ 0x41 ∷ 0xc0 ∷ 0x00 ∷ 0x23 ∷ 0x00 ∷ 0x23 ∷ 0x01 ∷ 0x6a ∷ 0x36 ∷ 0x02 ∷ 0x00 ∷ 0x0b ∷ []
unfolding leb128 signed_within
address_bytes = refl

-- two users' globals of 1024 and 16: 1040 is stored
abbrev address_frame : Frame
address_frame = record { types = []; functions = []; tables = []; globals = 0 ∷ 1 ∷ []; memories = 5 ∷ [] }

abbrev nothing : FuncType
nothing = record { params = []; results = [] }

abbrev address_store : Store
address_store = record { functions = Generated address_frame nothing [] (start address_body).instructions ∷ []; tables = []; memories = [] }

abbrev users : List Cell
users = Foreign 20 I32 ∷ Foreign 21 I32 ∷ []

address_stored : acts address_store 0 [] (record { globals = users; answers = Gives (I32Value 1024 ∷ []) 0 ∷ Gives (I32Value 16 ∷ []) 0 ∷ []; events = []; moments = [] }) ≡ Returned [] (record { globals = users; answers = []; events = Stored 5 64 1040 ∷ []; moments = users ∷ [] })
unfolding acts exec
address_stored = refl

-- twelve fills: 50 bytes
abbrev fills : List StartStep
fills = Fill 0 0 ∷ Fill 1 1 ∷ Fill 2 2 ∷ Fill 3 3 ∷ Fill 4 4 ∷ Fill 5 5 ∷ Fill 6 6 ∷ Fill 7 7 ∷ Fill 8 8 ∷ Fill 9 9 ∷ Fill 10 10 ∷ Fill 11 11 ∷ []

fills_bytes : (body (start fills)).bytes ≡ 0x00 ∷ 0xd2 ∷ 0x00 ∷ 0x24 ∷ 0x00 ∷ 0xd2 ∷ 0x01 ∷ 0x24 ∷ 0x01 ∷ 0xd2 ∷ 0x02 ∷ 0x24 ∷ 0x02 ∷ 0xd2 ∷ 0x03 ∷ 0x24 ∷ 0x03 ∷ 0xd2 ∷ 0x04 ∷ 0x24 ∷ 0x04 ∷ 0xd2 ∷ 0x05 ∷ 0x24 ∷ 0x05 ∷ 0xd2 ∷ 0x06 ∷ 0x24 ∷ 0x06 ∷ 0xd2 ∷ 0x07 ∷ 0x24 ∷ 0x07 ∷ 0xd2 ∷ 0x08 ∷ 0x24 ∷ 0x08 ∷ 0xd2 ∷ 0x09 ∷ 0x24 ∷ 0x09 ∷ 0xd2 ∷ 0x0a ∷ 0x24 ∷ 0x0a ∷ 0xd2 ∷ 0x0b ∷ 0x24 ∷ 0x0b ∷ 0x0b ∷ []
unfolding leb128 signed_within
fills_bytes = refl

-- the functions of a thread-local cell, global 0
tls_get_bytes : (body (tls_get 0)).bytes ≡ 0x00 ∷ 0x23 ∷ 0x00 ∷ 0x0b ∷ []
unfolding leb128 signed_within
tls_get_bytes = refl

tls_set_bytes : (body (tls_set 0)).bytes ≡ 0x00 ∷ 0x20 ∷ 0x00 ∷ 0x24 ∷ 0x00 ∷ 0x0b ∷ []
unfolding leb128 signed_within
tls_set_bytes = refl

-- A module of one shim and the module that fills its slot, as sections: a call of the shim is a call of the function
-- that was given; before the fill it traps, with no event.
abbrev two : FuncType
two = record { params = I32 ∷ I32 ∷ []; results = [] }

abbrev outside : Store
outside = record { functions = Opaque 77 two ∷ []; tables = []; memories = [] }

abbrev quiet : Now
quiet = record { globals = []; answers = Gives [] 0 ∷ []; events = []; moments = [] }

abbrev pair : List Value
pair = I32Value 7 ∷ I32Value 8 ∷ []

abbrev shim_made : Option Made
shim_made = instance_of (parts_of given.table_shim) [] outside quiet

abbrev fixup_made : Option Made
fixup_made = bind shim_made (λ m. instance_of (parts_of given.table_fixup) (FunctionAt 0 ∷ TableAt 0 ∷ []) m.store m.now)

before_the_fill : option_map (λ (m : Made). acts m.store 1 pair m.now) shim_made ≡ Some (Trapped ByCode quiet)
unfolding acts exec
before_the_fill = refl

after_the_fill : option_map (λ (m : Made). acts m.store 1 pair m.now) fixup_made ≡ Some (Returned [] (record { globals = []; answers = []; events = Called 0 pair ∷ []; moments = [] ∷ [] }))
unfolding acts exec
after_the_fill = refl

-- what is given has to be of the type: a function of other parameters is rejected
of_another_type : instance_of (parts_of given.table_fixup) (FunctionAt 0 ∷ TableAt 0 ∷ []) (record { functions = Opaque 77 hook_signature ∷ []; tables = (None ∷ []) ∷ []; memories = [] }) quiet ≡ None
of_another_type = refl

-- A start function of the reference form: it replaces the stub in global 0, calls the hook, calls a thunk, and calls
-- the hook again. The global is filled at each event.
abbrev start_steps : List StartStep
start_steps = Fill 0 0 ∷ Hook 1 InitializeStart ∷ Thunk 2 ∷ Hook 1 InitializeFinish ∷ []

abbrev start_frame : Frame
start_frame = record { types = two ∷ []; functions = 0 ∷ 1 ∷ 2 ∷ []; tables = []; globals = 0 ∷ []; memories = [] }

abbrev start_store : Store
start_store = record {
  functions = Opaque 30 two ∷ Opaque 31 hook_signature ∷ Opaque 32 nothing ∷ Generated start_frame nothing [] (start start_steps).instructions ∷ Generated start_frame two [] (ref_shim 2 0 0).instructions ∷ Generated start_frame two [] stub.instructions ∷ [];
  tables = [];
  memories = [];
}

abbrev held : ℕ → List Cell
held f = Kept (Ref (Concrete 0)) (Function f) ∷ []

start_runs : acts start_store 3 [] (record { globals = held 5; answers = Gives [] 0 ∷ Gives [] 0 ∷ Gives [] 0 ∷ []; events = []; moments = [] }) ≡ Returned [] (record { globals = held 0; answers = []; events = Called 1 (I32Value 6 ∷ []) ∷ Called 2 [] ∷ Called 1 (I32Value 7 ∷ []) ∷ []; moments = held 0 ∷ held 0 ∷ held 0 ∷ [] })
unfolding acts exec
start_runs = refl

-- the shim of that global, before and after
ref_shim_before : acts start_store 4 pair (record quiet { globals = held 5 }) ≡ Trapped ByCode (record quiet { globals = held 5 })
unfolding acts exec
ref_shim_before = refl

ref_shim_after : acts start_store 4 pair (record quiet { globals = held 0 }) ≡ Returned [] (record { globals = held 0; answers = []; events = Called 0 pair ∷ []; moments = held 0 ∷ [] })
unfolding acts exec
ref_shim_after = refl

-- A function that calls itself is stuck: at most four generated functions are in progress.
abbrev endless : Store
endless = record { functions = Generated (record start_frame { functions = 0 ∷ [] }) nothing [] (start (Thunk 0 ∷ [])).instructions ∷ []; tables = []; memories = [] }

endless_is_stuck : acts endless 0 [] quiet ≡ Stuck
unfolding acts exec
endless_is_stuck = refl

-- A module with a data segment and a start function: its bytes are written first, and then the
-- start function is called.
abbrev started_sections : List Section
started_sections =
    sections.Types (nothing ∷ [])
    ∷ sections.Imports (record { module_name = []; field = []; entity = entities.Memory (record { minimum = 1; maximum = None }) } ∷ record { module_name = []; field = []; entity = entities.Global (record { val_type = I32; mutable = false }) } ∷ record { module_name = []; field = []; entity = entities.Global (record { val_type = I32; mutable = false }) } ∷ [])
    ∷ sections.Functions (0 ∷ [])
    ∷ sections.Start 0
    ∷ sections.Code (start address_body ∷ [])
    ∷ sections.Data (record { offset = pos 8; bytes = 1 ∷ 2 ∷ 3 ∷ [] } ∷ [])
    ∷ []

abbrev with_memory : Store
with_memory = record { functions = []; tables = []; memories = record { minimum = 2; maximum = None } ∷ [] }

abbrev first_now : Now
first_now = record { globals = users; answers = Gives (I32Value 1024 ∷ []) 0 ∷ Gives (I32Value 16 ∷ []) 0 ∷ []; events = []; moments = [] }

data_comes_first : option_map (λ (m : Made). started (parts_of started_sections) m) (instance_of (parts_of started_sections) (MemoryAt 0 ∷ GlobalAt 0 ∷ GlobalAt 1 ∷ []) with_memory first_now) ≡ Some (Returned [] (record { globals = users; answers = []; events = Loaded 0 8 (1 ∷ 2 ∷ 3 ∷ []) ∷ Stored 0 64 1040 ∷ []; moments = users ∷ users ∷ [] }))
unfolding acts exec
data_comes_first = refl

-- a memory that is too small is rejected, and so is a global of another kind
too_small : instance_of (parts_of started_sections) (MemoryAt 0 ∷ GlobalAt 0 ∷ GlobalAt 1 ∷ []) (record with_memory { memories = record { minimum = 0; maximum = None } ∷ [] }) first_now ≡ None
too_small = refl

of_another_kind : instance_of (parts_of started_sections) (MemoryAt 0 ∷ TableAt 0 ∷ GlobalAt 1 ∷ []) with_memory first_now ≡ None
of_another_kind = refl
