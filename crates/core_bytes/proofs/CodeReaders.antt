-- Instructions, constants and bodies that are encoded are read again, whatever follows.
use Rattle.std.proofs.Common.{◌≡◌, ℕ, zero, suc, ◌<◌, ◌≤◌, ℤ, List, [], ◌∷◌, ◌++◌, length, false, Some, None, refl, ap, sym, ◌∙◌, arith, append_assoc, length-append}
use Rattle.std.specs.Prelude.{nat_eq, if◌then◌else◌}
use Rattle.std.specs.List.{flat_map}
use Rattle.byte_encoding.proofs.Readers.{Read, Reader, Reads, read_then, made_from, made, pair_from, pair_reads, as_reads, followed_from, followed_reads, tagged, skipped, number_from, number_reads, list_from, list_reads}
use Rattle.core_bytes.specs.Grammar.{instruction, expression, constant, local_run, body}
use Rattle.core_types.specs.declared.types.ValType.{ValType}
use Rattle.core_bytes.specs.declared.entity.ConstExpr.{ConstExpr}
use Rattle.core_bytes.specs.declared.entity.ConstExpr.TheVariants as constants
use Rattle.core_bytes.specs.declared.code.Instruction.{Instruction}
use Rattle.core_bytes.specs.declared.code.Instruction.TheVariants as instructions
use Rattle.core_bytes.specs.declared.code.LocalRun.{LocalRun}
use Rattle.core_bytes.specs.declared.code.Body.{Body}
use Rattle.core_bytes.proofs.SignedReaders.{signed_from, signed_reads}
use Rattle.core_bytes.proofs.TypeReaders.{value_from, value_reads}

-- ---- constants

abbrev constant_after : ℕ → Reader ConstExpr
constant_after b bs =
    if nat_eq b 0x41 then made_from (λ n. constants.I32 n) (followed_from signed_from) bs
    else if nat_eq b 0x42 then made_from (λ n. constants.I64 n) (followed_from signed_from) bs
    else if nat_eq b 0xd2 then made_from (λ f. constants.RefFunc f) (followed_from number_from) bs
    else None

unfoldable pub constant_from : Reader ConstExpr
constant_from bs = tagged constant_after bs

constant_again : (c : ConstExpr) (rest : List ℕ) → constant_from ((constant c).bytes ++ rest) ≡ Some (c, rest)
unfolding constant_from
constant_again (constants.I32 n) rest = made (followed_reads signed_reads 0x0b) (λ n. constants.I32 n) n rest
constant_again (constants.I64 n) rest = made (followed_reads signed_reads 0x0b) (λ n. constants.I64 n) n rest
constant_again (constants.RefFunc f) rest = made (followed_reads number_reads 0x0b) (λ f. constants.RefFunc f) f rest

pub constant_reads : Reads constant constant_from
constant_reads = record { again = constant_again }

-- the offset of a segment
unfoldable pub offset_from : Reader ℤ
offset_from bs = skipped (followed_from signed_from) bs

offset_again : (n : ℤ) (rest : List ℕ) → offset_from ((constant (constants.I32 n)).bytes ++ rest) ≡ Some (n, rest)
unfolding offset_from
offset_again n rest = (followed_reads signed_reads 0x0b).again n rest

pub offset_reads : Reads (λ (n : ℤ). constant (constants.I32 n)) offset_from
offset_reads = record { again = offset_again }

-- ---- instructions

abbrev indirect : ℕ × ℕ → Instruction
indirect p = instructions.CallIndirect p.0 p.1

abbrev one : {A : Type 0} → A → Reader A
one x bs = Some (x, bs)

abbrev instruction_after : ℕ → Reader Instruction
instruction_after b bs =
    if nat_eq b 0x00 then Some (instructions.Unreachable, bs)
    else if nat_eq b 0x10 then made_from (λ i. instructions.Call i) number_from bs
    else if nat_eq b 0x11 then made_from indirect (pair_from number_from number_from) bs
    else if nat_eq b 0x15 then made_from (λ i. instructions.ReturnCallRef i) number_from bs
    else if nat_eq b 0x1b then Some (instructions.Select, bs)
    else if nat_eq b 0x20 then made_from (λ i. instructions.LocalGet i) number_from bs
    else if nat_eq b 0x21 then made_from (λ i. instructions.LocalSet i) number_from bs
    else if nat_eq b 0x23 then made_from (λ i. instructions.GlobalGet i) number_from bs
    else if nat_eq b 0x24 then made_from (λ i. instructions.GlobalSet i) number_from bs
    else if nat_eq b 0x36 then skipped (skipped (one instructions.I32Store)) bs
    else if nat_eq b 0x41 then made_from (λ n. instructions.I32Const n) signed_from bs
    else if nat_eq b 0x42 then made_from (λ n. instructions.I64Const n) signed_from bs
    else if nat_eq b 0x6a then Some (instructions.I32Add, bs)
    else if nat_eq b 0xd2 then made_from (λ i. instructions.RefFunc i) number_from bs
    else None

abbrev instruction_from : Reader Instruction
instruction_from bs = tagged instruction_after bs

instruction_again : (i : Instruction) (rest : List ℕ) → instruction_from ((instruction i).bytes ++ rest) ≡ Some (i, rest)
instruction_again instructions.Unreachable rest = refl
instruction_again (instructions.Call i) rest = made number_reads (λ i. instructions.Call i) i rest
instruction_again (instructions.CallIndirect type table) rest = made (pair_reads number_reads number_reads) indirect (type, table) rest
instruction_again (instructions.ReturnCallRef i) rest = made number_reads (λ i. instructions.ReturnCallRef i) i rest
instruction_again instructions.Select rest = refl
instruction_again (instructions.LocalGet i) rest = made number_reads (λ i. instructions.LocalGet i) i rest
instruction_again (instructions.LocalSet i) rest = made number_reads (λ i. instructions.LocalSet i) i rest
instruction_again (instructions.GlobalGet i) rest = made number_reads (λ i. instructions.GlobalGet i) i rest
instruction_again (instructions.GlobalSet i) rest = made number_reads (λ i. instructions.GlobalSet i) i rest
instruction_again instructions.I32Store rest = refl
instruction_again (instructions.I32Const n) rest = made signed_reads (λ n. instructions.I32Const n) n rest
instruction_again (instructions.I64Const n) rest = made signed_reads (λ n. instructions.I64Const n) n rest
instruction_again instructions.I32Add rest = refl
instruction_again (instructions.RefFunc i) rest = made number_reads (λ i. instructions.RefFunc i) i rest

-- An instruction begins with a byte that is no end.
record Starts (i : Instruction) : Type 0 where
  first : ℕ
  after : List ℕ
  are : (instruction i).bytes ≡ first ∷ after
  no_end : nat_eq first 0x0b ≡ false

starts : (i : Instruction) → Starts i
starts instructions.Unreachable = record { first = _; after = _; are = refl; no_end = refl }
starts (instructions.Call i) = record { first = _; after = _; are = refl; no_end = refl }
starts (instructions.CallIndirect type table) = record { first = _; after = _; are = refl; no_end = refl }
starts (instructions.ReturnCallRef i) = record { first = _; after = _; are = refl; no_end = refl }
starts instructions.Select = record { first = _; after = _; are = refl; no_end = refl }
starts (instructions.LocalGet i) = record { first = _; after = _; are = refl; no_end = refl }
starts (instructions.LocalSet i) = record { first = _; after = _; are = refl; no_end = refl }
starts (instructions.GlobalGet i) = record { first = _; after = _; are = refl; no_end = refl }
starts (instructions.GlobalSet i) = record { first = _; after = _; are = refl; no_end = refl }
starts instructions.I32Store = record { first = _; after = _; are = refl; no_end = refl }
starts (instructions.I32Const n) = record { first = _; after = _; are = refl; no_end = refl }
starts (instructions.I64Const n) = record { first = _; after = _; are = refl; no_end = refl }
starts instructions.I32Add = record { first = _; after = _; are = refl; no_end = refl }
starts (instructions.RefFunc i) = record { first = _; after = _; are = refl; no_end = refl }

-- ---- instructions up to their end, so many at most

abbrev code_within : ℕ → Reader (List Instruction)
code_within zero bs = None
code_within (suc k) [] = None
code_within (suc k) (b ∷ bs) =
    if nat_eq b 0x0b then Some ([], bs)
    else read_then (instruction_after b bs) (λ i rest. read_then (code_within k rest) (λ code more. Some (i ∷ code, more)))

code_next : (k : ℕ) (i : Instruction) (bs rest : List ℕ) (code : List Instruction) → code_within k bs ≡ Some (code, rest) → code_within (suc k) ((instruction i).bytes ++ bs) ≡ Some (i ∷ code, rest)
code_next k i bs rest code e =
    let s = starts i in
    let go = λ (r : Read Instruction). read_then r (λ i rest. read_then (code_within k rest) (λ code more. Some (i ∷ code, more))) in
    let read : instruction_after s.first (s.after ++ bs) ≡ Some (i, bs) = ap (λ l. instruction_from (l ++ bs)) (sym s.are) ∙ instruction_again i bs in
    ap (λ l. code_within (suc k) (l ++ bs)) s.are
    ∙ ap (λ b. if b then Some ([], s.after ++ bs) else go (instruction_after s.first (s.after ++ bs))) s.no_end
    ∙ ap go read
    ∙ ap (λ r. read_then r (λ code more. Some (i ∷ code, more))) e

code_read : (code : List Instruction) (k : ℕ) (rest : List ℕ) → length code < k → code_within k ((expression code).bytes ++ rest) ≡ Some (code, rest)
code_read [] zero rest l = absurd (omega (arith, l))
code_read [] (suc k) rest l = refl
code_read (i ∷ code) zero rest l = absurd (omega (arith, l))
code_read (i ∷ code) (suc k) rest l =
    let bytes = flat_map (λ i. (instruction i).bytes) code in
    ap (λ l. code_within (suc k) (l ++ rest)) (append_assoc (instruction i).bytes bytes (0x0b ∷ []))
    ∙ ap (λ l. code_within (suc k) l) (append_assoc (instruction i).bytes (expression code).bytes rest)
    ∙ code_next k i ((expression code).bytes ++ rest) rest code (code_read code k rest (omega (arith, l)))

long_enough : (code : List Instruction) → length code ≤ length (flat_map (λ i. (instruction i).bytes) code)
long_enough [] = omega arith
long_enough (i ∷ code) =
    let s = starts i in
    let l = ap length s.are in
    omega (arith, long_enough code, length-append (instruction i).bytes (flat_map (λ i. (instruction i).bytes) code), l)

unfoldable pub code_from : Reader (List Instruction)
code_from bs = code_within (length bs) bs

code_again : (code : List Instruction) (rest : List ℕ) → code_from ((expression code).bytes ++ rest) ≡ Some (code, rest)
unfolding code_from
code_again code rest =
    code_read code _ rest (omega (arith, long_enough code, length-append (flat_map (λ i. (instruction i).bytes) code) (0x0b ∷ []), length-append (expression code).bytes rest))

pub code_reads : Reads expression code_from
code_reads = record { again = code_again }

-- ---- bodies

abbrev run_of : ℕ × ValType → LocalRun
run_of p = record { count = p.0; val_type = p.1 }

unfoldable pub run_from : Reader LocalRun
run_from bs = made_from run_of (pair_from number_from value_from) bs

pub run_reads : Reads local_run run_from
unfolding run_from
run_reads = as_reads (pair_reads number_reads value_reads) (λ (r : LocalRun). (r.count, r.val_type)) run_of (λ r. refl)

abbrev body_of : List LocalRun × List Instruction → Body
body_of p = record { locals = p.0; instructions = p.1 }

unfoldable pub body_from : Reader Body
body_from bs = made_from body_of (pair_from (list_from run_from) code_from) bs

pub body_reads : Reads body body_from
unfolding body_from
body_reads = as_reads (pair_reads (list_reads run_reads) code_reads) (λ (b : Body). (b.locals, b.instructions)) body_of (λ b. refl)
