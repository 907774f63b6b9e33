-- The functions that are added: one that gives an adapter its stack, and a realloc for a main module that has none.
-- Core standard, binary format: types, instructions (control, variables, numeric, memory), code section.
use Rattle.std.specs.Prelude.{ℕ, List, [], ◌∷◌}
use Rattle.byte_encoding.specs.Encoding.{Encoding, ◌⊕◌, raw, octet, number}
use Rattle.core_types.specs.declared.types.FuncType.{FuncType}
use Rattle.core_types.specs.declared.types.ValType.TheVariants.{I32}
use Rattle.adapter_fitting.specs.declared.stack.StackGlobals.{StackGlobals}

-- ---- instructions, by their names in the standard; `if` is one without values, and `memory.grow` is of memory 0

abbrev pub unreachable : Encoding
unreachable = octet 0x00

abbrev pub if_true : Encoding
if_true = octet 0x04 ⊕ octet 0x40

abbrev pub end_mark : Encoding
end_mark = octet 0x0b

abbrev pub call : ℕ → Encoding
call function = octet 0x10 ⊕ number function

abbrev pub local_get : ℕ → Encoding
local_get index = octet 0x20 ⊕ octet index

abbrev pub local_tee : ℕ → Encoding
local_tee index = octet 0x22 ⊕ octet index

abbrev pub global_get : ℕ → Encoding
global_get index = octet 0x23 ⊕ number index

abbrev pub global_set : ℕ → Encoding
global_set index = octet 0x24 ⊕ number index

abbrev pub memory_grow : Encoding
memory_grow = octet 0x40 ⊕ octet 0x00

-- the number is a signed LEB128: of -64 to 63 one byte
abbrev pub i32_const : List ℕ → Encoding
i32_const digits = octet 0x41 ⊕ raw digits

abbrev pub small : ℕ → List ℕ
small n = n ∷ []

abbrev pub minus_one : List ℕ
minus_one = 0x7f ∷ []

-- 65536: the size of a stack, and of a page of memory
abbrev pub page : List ℕ
page = 0x80 ∷ 0x80 ∷ 0x04 ∷ []

abbrev pub i32_eq : Encoding
i32_eq = octet 0x46

abbrev pub i32_ne : Encoding
i32_ne = octet 0x47

abbrev pub i32_add : Encoding
i32_add = octet 0x6a

abbrev pub i32_shl : Encoding
i32_shl = octet 0x74

-- a body's locals: none, or one number of 32 bits
abbrev pub no_locals : Encoding
no_locals = octet 0x00

abbrev pub one_local : Encoding
one_local = octet 0x01 ⊕ octet 0x01 ⊕ octet 0x7f

-- ---- the stack of an adapter

-- () -> ()
abbrev pub allocation_type : FuncType
allocation_type = record { params = []; results = [] }

-- if the state is 0
abbrev pub if_absent : ℕ → Encoding
if_absent state = global_get state ⊕ i32_const (small 0) ⊕ i32_eq ⊕ if_true

abbrev pub set_state : ℕ → ℕ → Encoding
set_state value state = i32_const (small value) ⊕ global_set state

-- realloc (0, 0, 8, 65536) + 65536: the end of a stack of 64 KiB, aligned to 8, which grows downward
abbrev pub arguments : Encoding
arguments = i32_const (small 0) ⊕ i32_const (small 0) ⊕ i32_const (small 8) ⊕ i32_const page

abbrev pub stack_end : ℕ → Encoding
stack_end realloc = arguments ⊕ call realloc ⊕ (i32_const page ⊕ i32_add)

-- Where the state is 0: it is 1 while main's realloc is called; then the pointer is the end of what
-- that returned, and the state is 2.
abbrev pub allocation : ℕ → StackGlobals → Encoding
allocation realloc g =
    no_locals ⊕ if_absent g.state ⊕ set_state 1 g.state ⊕ stack_end realloc ⊕ global_set g.pointer ⊕ set_state 2 g.state ⊕ (end_mark ⊕ end_mark)

-- ---- a realloc for main

-- (i32 i32 i32 i32) -> (i32): what was there and its size, the alignment, and the new size
abbrev pub realloc_type : FuncType
realloc_type = record { params = I32 ∷ I32 ∷ I32 ∷ I32 ∷ []; results = I32 ∷ [] }

-- a trap where this local isn't this number
abbrev pub asserted : List ℕ → ℕ → Encoding
asserted digits local_index = i32_const digits ⊕ local_get local_index ⊕ i32_ne ⊕ if_true ⊕ unreachable ⊕ end_mark

-- A page of memory, which is 64 KiB: it traps where something was there before, where another size
-- is asked for, and where the memory can't grow. The result is the address of the page: its number
-- by 2^16.
abbrev pub page_realloc : Encoding
page_realloc =
    one_local ⊕ asserted (small 0) 0 ⊕ asserted (small 0) 1 ⊕ asserted page 3
    ⊕ i32_const (small 1) ⊕ memory_grow ⊕ local_tee 4
    ⊕ i32_const minus_one ⊕ i32_eq ⊕ if_true ⊕ unreachable ⊕ end_mark
    ⊕ local_get 4 ⊕ i32_const (small 16) ⊕ i32_shl ⊕ end_mark
