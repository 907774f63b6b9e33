-- The sets of options of calls of imported functions: without a memory there is no realloc, and a
-- call is asynchronous by its form alone. A read or a write of elements has a memory.
use Rattle.std.proofs.Common.{◌≡◌, ◌∙◌, ℕ, Bool, true, false, true≢false, List, [], ◌∷◌, refl, sym, ap, ◌||◌}
use Rattle.wit_data.specs.declared.functions.AbiVariant.{AbiVariant}
use Rattle.wit_data.specs.declared.functions.AbiVariant.TheVariants as abis
use Rattle.wit_data.specs.declared.functions.Function.{Function}
use Rattle.wit_data.specs.declared.types.TypeDef.{TypeDef}
use Rattle.wit_data.specs.Contents.{contents_bits}
use Rattle.comp_options.specs.Options.{needs, with_if, lifted, lowered, passed, pass_all, param_contents, passes_memory, is_async_import, import_set, without_realloc, task_return_set}
use Rattle.comp_options.specs.Payloads.{way_of, carried, payload_set}
use Rattle.comp_options.specs.declared.required.Direction.{Direction}
use Rattle.comp_options.specs.declared.required.Direction.TheVariants as ways
use Rattle.comp_roles.specs.declared.payloads.PayloadFuncKind.{PayloadFuncKind}
use Rattle.comp_roles.specs.declared.payloads.PayloadFuncKind.TheVariants as ends
use Rattle.comp_roles.specs.declared.payloads.PayloadType.{PayloadType}

-- the sets that are reached from no options: by lifting the first three, by lowering a result after that the others
data Reached : Type 0 where
  none : Reached
  memory : Reached
  text : Reached
  allocated : Reached
  allocated_text : Reached

abbrev bits : Reached → ℕ
bits none = 0
bits memory = 1
bits text = 5
bits allocated = 3
bits allocated_text = 7

-- a set that was reached
abbrev IsReached : ℕ → Type 0
IsReached set = (r : Reached) × (set ≡ bits r)

-- Whether a call is asynchronous adds its own bit. Without a memory there is no realloc.
no_realloc : (a : Bool) (r : Reached) → needs (with_if a 8 (bits r)) 1 ≡ false → needs (with_if a 8 (bits r)) 2 ≡ false
no_realloc true none e = refl
no_realloc false none e = refl
no_realloc true memory e = absurd (true≢false e)
no_realloc false memory e = absurd (true≢false e)
no_realloc true text e = absurd (true≢false e)
no_realloc false text e = absurd (true≢false e)
no_realloc true allocated e = absurd (true≢false e)
no_realloc false allocated e = absurd (true≢false e)
no_realloc true allocated_text e = absurd (true≢false e)
no_realloc false allocated_text e = absurd (true≢false e)

own_bit : (a : Bool) (r : Reached) → needs (with_if a 8 (bits r)) 8 ≡ a
own_bit true none = refl
own_bit false none = refl
own_bit true memory = refl
own_bit false memory = refl
own_bit true text = refl
own_bit false text = refl
own_bit true allocated = refl
own_bit false allocated = refl
own_bit true allocated_text = refl
own_bit false allocated_text = refl

with_memory : (b : Bool) (r : Reached) → IsReached (with_if b 1 (bits r))
with_memory false r = (r, refl)
with_memory true none = (memory, refl)
with_memory true memory = (memory, refl)
with_memory true text = (text, refl)
with_memory true allocated = (allocated, refl)
with_memory true allocated_text = (allocated_text, refl)

-- what lifting values needs, by whether there is a text, and whether they are in memory
lift_more : (t m : Bool) (r : Reached) → IsReached (with_if t 4 (with_if t 1 (with_if m 1 (bits r))))
lift_more false m r = with_memory m r
lift_more true true none = (text, refl)
lift_more true true memory = (text, refl)
lift_more true true text = (text, refl)
lift_more true true allocated = (allocated_text, refl)
lift_more true true allocated_text = (allocated_text, refl)
lift_more true false none = (text, refl)
lift_more true false memory = (text, refl)
lift_more true false text = (text, refl)
lift_more true false allocated = (allocated_text, refl)
lift_more true false allocated_text = (allocated_text, refl)

-- lowering needs a realloc only where there is a memory
lower_more : (t m : Bool) (r : Reached) → IsReached (with_if (m || t) 2 (with_if t 4 (with_if t 1 (with_if m 1 (bits r)))))
lower_more false false r = (r, refl)
lower_more false true none = (allocated, refl)
lower_more false true memory = (allocated, refl)
lower_more false true text = (allocated_text, refl)
lower_more false true allocated = (allocated, refl)
lower_more false true allocated_text = (allocated_text, refl)
lower_more true true none = (allocated_text, refl)
lower_more true true memory = (allocated_text, refl)
lower_more true true text = (allocated_text, refl)
lower_more true true allocated = (allocated_text, refl)
lower_more true true allocated_text = (allocated_text, refl)
lower_more true false none = (allocated_text, refl)
lower_more true false memory = (allocated_text, refl)
lower_more true false text = (allocated_text, refl)
lower_more true false allocated = (allocated_text, refl)
lower_more true false allocated_text = (allocated_text, refl)

-- written elements are lifted, as parameters are
lift_all : (cs : List ℕ) (set : ℕ) → IsReached set → IsReached (pass_all (way_of ends.StreamWrite) cs set)
lift_all [] set h = h
lift_all (c ∷ cs) set h =
    let next = lift_more (needs c 1) (needs c 2) h.0 in
    lift_all cs (lifted c set) (next.0, ap (lifted c) h.1 ∙ next.1)

-- the set of a call, but for its form
reached : (abi : AbiVariant) (types : List TypeDef) (f : Function) → (r : Reached) × (import_set abi types f ≡ with_if (is_async_import abi) 8 (bits r))
reached abi types f =
    let contents : ℕ = contents_bits types f.result in
    let params = lift_all (param_contents types f.params) 0 (none, refl) in
    let result = lower_more (needs contents 1) (needs contents 2) params.0 in
    let whole = with_memory (passes_memory abi types f) result.0 in
    let same : with_if (passes_memory abi types f) 1 (lowered contents (pass_all (way_of ends.StreamWrite) (param_contents types f.params) 0)) ≡ bits whole.0 =
    ap (λ (set : ℕ). with_if (passes_memory abi types f) 1 set) (ap (lowered contents) params.1 ∙ result.1) ∙ whole.1 in
    (whole.0, ap (λ (set : ℕ). with_if (is_async_import abi) 8 set) same)

-- a call that needs no memory needs no realloc
pub no_realloc_needed : (abi : AbiVariant) (types : List TypeDef) (f : Function) → needs (import_set abi types f) 1 ≡ false → needs (import_set abi types f) 2 ≡ false
no_realloc_needed abi types f e =
    let is = reached abi types f in
    ap (λ (set : ℕ). needs set 2) is.1 ∙ no_realloc (is_async_import abi) is.0 (ap (λ (set : ℕ). needs set 1) (sym is.1) ∙ e)

-- it is asynchronous by its form
pub async_by_form : (abi : AbiVariant) (types : List TypeDef) (f : Function) → needs (import_set abi types f) 8 ≡ is_async_import abi
async_by_form abi types f =
    let is = reached abi types f in
    ap (λ (set : ℕ). needs set 8) is.1 ∙ own_bit (is_async_import abi) is.0

-- ---- returns

cleared : (a : Bool) (r : Reached) → needs (without_realloc (with_if a 8 (bits r))) 2 ≡ false
cleared true none = refl
cleared false none = refl
cleared true memory = refl
cleared false memory = refl
cleared true text = refl
cleared false text = refl
cleared true allocated = refl
cleared false allocated = refl
cleared true allocated_text = refl
cleared false allocated_text = refl

-- a return needs no realloc
pub no_realloc_returned : (types : List TypeDef) (f : Function) → needs (task_return_set types f) 2 ≡ false
no_realloc_returned types f = let is = reached abis.GuestImport types f in ap (λ (set : ℕ). needs (without_realloc set) 2) is.1 ∙ cleared (is_async_import abis.GuestImport) is.0

-- ---- streams and futures

-- what one way of passing elements needs, beside a memory
pass_one : (way : Direction) (c : ℕ) → IsReached (passed way c 0)
pass_one ways.Lift c = lift_more (needs c 1) (needs c 2) none
pass_one ways.Lower c = lower_more (needs c 1) (needs c 2) none

has_memory : (a : Bool) (r : Reached) → needs (with_if a 8 (with_if true 1 (bits r))) 1 ≡ true
has_memory true none = refl
has_memory false none = refl
has_memory true memory = refl
has_memory false memory = refl
has_memory true text = refl
has_memory false text = refl
has_memory true allocated = refl
has_memory false allocated = refl
has_memory true allocated_text = refl
has_memory false allocated_text = refl

-- a read and a write need a memory
pub memory_accessed : (types : List TypeDef) (payload : PayloadType) (kind : PayloadFuncKind) (is_async : Bool) → needs (payload_set types payload kind is_async) 1 ≡ true
memory_accessed types payload kind is_async =
    let one = pass_one (way_of kind) (contents_bits types (carried types payload)) in
    ap (λ (set : ℕ). needs (with_if is_async 8 (with_if true 1 set)) 1) one.1 ∙ has_memory is_async one.0
