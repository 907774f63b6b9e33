-- Readers of the options of canonical functions, and of intrinsics.
use Rattle.std.proofs.Common.{◌≡◌, ℕ, List, ◌∷◌, ◌++◌, Bool, true, false, Option, Some, None, refl}
use Rattle.std.specs.Prelude.{nat_eq, if◌then◌else◌}
use Rattle.byte_encoding.specs.Encoding.{◌⊕◌, octet, number, listed}
use Rattle.comp_bytes.specs.Grammar.{function_result, option_bytes, context_byte, intrinsic_bytes}
use Rattle.byte_encoding.specs.Encoding.{flag}
use Rattle.comp_bytes.specs.declared.types.ComponentValType.{ComponentValType}
use Rattle.comp_bytes.specs.declared.canon.CanonicalOption.{CanonicalOption}
use Rattle.comp_bytes.specs.declared.canon.CanonicalOption.TheVariants as canonical
use Rattle.comp_bytes.specs.declared.canon.ContextType.{ContextType}
use Rattle.comp_bytes.specs.declared.canon.ContextType.TheVariants as contexts
use Rattle.comp_bytes.specs.declared.canon.Intrinsic.{Intrinsic}
use Rattle.comp_bytes.specs.declared.canon.Intrinsic.TheVariants as intrinsics
use Rattle.byte_encoding.proofs.Readers.{Reader, Reads, made_from, made, pair_from, pair_reads, tagged, skipped, number_from, number_reads, list_from, list_reads}
use Rattle.comp_bytes.proofs.ValueReaders.{result_from, result_reads}

-- ---- options

abbrev option_after : ℕ → Reader CanonicalOption
option_after b bs =
    if nat_eq b 0x00 then Some (canonical.Utf8, bs)
    else if nat_eq b 0x01 then Some (canonical.Utf16, bs)
    else if nat_eq b 0x02 then Some (canonical.CompactUtf16, bs)
    else if nat_eq b 0x03 then made_from (λ n. canonical.Memory n) number_from bs
    else if nat_eq b 0x04 then made_from (λ n. canonical.Realloc n) number_from bs
    else if nat_eq b 0x05 then made_from (λ n. canonical.PostReturn n) number_from bs
    else if nat_eq b 0x06 then Some (canonical.Async, bs)
    else if nat_eq b 0x07 then made_from (λ n. canonical.Callback n) number_from bs
    else None

unfoldable pub canonical_from : Reader CanonicalOption
canonical_from bs = tagged option_after bs

canonical_again : (o : CanonicalOption) (rest : List ℕ) → tagged option_after ((option_bytes o).bytes ++ rest) ≡ Some (o, rest)
canonical_again canonical.Utf8 rest = refl
canonical_again canonical.Utf16 rest = refl
canonical_again canonical.CompactUtf16 rest = refl
canonical_again (canonical.Memory index) rest = made number_reads (λ n. canonical.Memory n) index rest
canonical_again (canonical.Realloc index) rest = made number_reads (λ n. canonical.Realloc n) index rest
canonical_again (canonical.PostReturn index) rest = made number_reads (λ n. canonical.PostReturn n) index rest
canonical_again canonical.Async rest = refl
canonical_again (canonical.Callback index) rest = made number_reads (λ n. canonical.Callback n) index rest

canonical_reads : Reads option_bytes canonical_from
unfolding canonical_from
canonical_reads = record { again = canonical_again }

unfoldable pub options_from : Reader (List CanonicalOption)
options_from bs = list_from canonical_from bs

pub options_reads : Reads (listed option_bytes) options_from
unfolding options_from
options_reads = list_reads canonical_reads

-- ---- flags and context slots

abbrev flag_after : ℕ → Reader Bool
flag_after b bs = if nat_eq b 0x00 then Some (false, bs) else Some (true, bs)

unfoldable pub flag_from : Reader Bool
flag_from bs = tagged flag_after bs

flag_again : (b : Bool) (rest : List ℕ) → tagged flag_after ((flag b).bytes ++ rest) ≡ Some (b, rest)
flag_again false rest = refl
flag_again true rest = refl

flag_reads : Reads flag flag_from
unfolding flag_from
flag_reads = record { again = flag_again }

abbrev context_after : ℕ → Reader ContextType
context_after b bs = if nat_eq b 0x7f then Some (contexts.I32, bs) else Some (contexts.I64, bs)

unfoldable pub context_from : Reader ContextType
context_from bs = tagged context_after bs

context_again : (t : ContextType) (rest : List ℕ) → tagged context_after (context_byte t ∷ rest) ≡ Some (t, rest)
context_again contexts.I32 rest = refl
context_again contexts.I64 rest = refl

context_reads : Reads (λ t. octet (context_byte t)) context_from
unfolding context_from
context_reads = record { again = context_again }

-- ---- intrinsics

abbrev flagged_from : Reader (ℕ × Bool)
flagged_from = pair_from number_from flag_from

flagged_reads : Reads (λ (p : ℕ × Bool). number p.0 ⊕ flag p.1) flagged_from
flagged_reads = pair_reads number_reads flag_reads

abbrev with_options_from : Reader (ℕ × List CanonicalOption)
with_options_from = pair_from number_from options_from

with_options_reads : Reads (λ (p : ℕ × List CanonicalOption). number p.0 ⊕ listed option_bytes p.1) with_options_from
with_options_reads = pair_reads number_reads options_reads

abbrev slot_from : Reader (ContextType × ℕ)
slot_from = pair_from context_from number_from

slot_reads : Reads (λ (p : ContextType × ℕ). octet (context_byte p.0) ⊕ number p.1) slot_from
slot_reads = pair_reads context_reads number_reads

abbrev returned_from : Reader (Option ComponentValType × List CanonicalOption)
returned_from = pair_from result_from options_from

returned_reads : Reads (λ (p : Option ComponentValType × List CanonicalOption). function_result p.0 ⊕ listed option_bytes p.1) returned_from
returned_reads = pair_reads result_reads options_reads

abbrev late_after : ℕ → Reader Intrinsic
late_after b bs =
    if nat_eq b 0x16 then made_from (λ p. intrinsics.FutureRead p.0 p.1) with_options_from bs
    else if nat_eq b 0x17 then made_from (λ p. intrinsics.FutureWrite p.0 p.1) with_options_from bs
    else if nat_eq b 0x18 then made_from (λ p. intrinsics.FutureCancelRead p.0 p.1) flagged_from bs
    else if nat_eq b 0x19 then made_from (λ p. intrinsics.FutureCancelWrite p.0 p.1) flagged_from bs
    else if nat_eq b 0x1a then made_from (λ n. intrinsics.FutureDropReadable n) number_from bs
    else if nat_eq b 0x1b then made_from (λ n. intrinsics.FutureDropWritable n) number_from bs
    else if nat_eq b 0x1c then made_from (λ os. intrinsics.ErrorContextNew os) options_from bs
    else if nat_eq b 0x1d then made_from (λ os. intrinsics.ErrorContextDebugMessage os) options_from bs
    else if nat_eq b 0x1e then Some (intrinsics.ErrorContextDrop, bs)
    else if nat_eq b 0x1f then Some (intrinsics.WaitableSetNew, bs)
    else if nat_eq b 0x20 then skipped (made_from (λ n. intrinsics.WaitableSetWait n) number_from) bs
    else if nat_eq b 0x21 then skipped (made_from (λ n. intrinsics.WaitableSetPoll n) number_from) bs
    else if nat_eq b 0x22 then Some (intrinsics.WaitableSetDrop, bs)
    else if nat_eq b 0x23 then Some (intrinsics.WaitableJoin, bs)
    else if nat_eq b 0x24 then Some (intrinsics.BackpressureInc, bs)
    else if nat_eq b 0x25 then Some (intrinsics.BackpressureDec, bs)
    else None

abbrev intrinsic_after : ℕ → Reader Intrinsic
intrinsic_after b bs =
    if nat_eq b 0x02 then made_from (λ n. intrinsics.ResourceNew n) number_from bs
    else if nat_eq b 0x03 then made_from (λ n. intrinsics.ResourceDrop n) number_from bs
    else if nat_eq b 0x04 then made_from (λ n. intrinsics.ResourceRep n) number_from bs
    else if nat_eq b 0x05 then Some (intrinsics.TaskCancel, bs)
    else if nat_eq b 0x06 then made_from (λ t. intrinsics.SubtaskCancel t) flag_from bs
    else if nat_eq b 0x09 then made_from (λ p. intrinsics.TaskReturn p.0 p.1) returned_from bs
    else if nat_eq b 0x0a then made_from (λ p. intrinsics.ContextGet p.0 p.1) slot_from bs
    else if nat_eq b 0x0b then made_from (λ p. intrinsics.ContextSet p.0 p.1) slot_from bs
    else if nat_eq b 0x0d then Some (intrinsics.SubtaskDrop, bs)
    else if nat_eq b 0x0e then made_from (λ n. intrinsics.StreamNew n) number_from bs
    else if nat_eq b 0x0f then made_from (λ p. intrinsics.StreamRead p.0 p.1) with_options_from bs
    else if nat_eq b 0x10 then made_from (λ p. intrinsics.StreamWrite p.0 p.1) with_options_from bs
    else if nat_eq b 0x11 then made_from (λ p. intrinsics.StreamCancelRead p.0 p.1) flagged_from bs
    else if nat_eq b 0x12 then made_from (λ p. intrinsics.StreamCancelWrite p.0 p.1) flagged_from bs
    else if nat_eq b 0x13 then made_from (λ n. intrinsics.StreamDropReadable n) number_from bs
    else if nat_eq b 0x14 then made_from (λ n. intrinsics.StreamDropWritable n) number_from bs
    else if nat_eq b 0x15 then made_from (λ n. intrinsics.FutureNew n) number_from bs
    else late_after b bs

unfoldable pub intrinsic_from : Reader Intrinsic
intrinsic_from bs = tagged intrinsic_after bs

intrinsic_again : (i : Intrinsic) (rest : List ℕ) → tagged intrinsic_after ((intrinsic_bytes i).bytes ++ rest) ≡ Some (i, rest)
intrinsic_again (intrinsics.ResourceNew index) rest = made number_reads (λ n. intrinsics.ResourceNew n) index rest
intrinsic_again (intrinsics.ResourceDrop index) rest = made number_reads (λ n. intrinsics.ResourceDrop n) index rest
intrinsic_again (intrinsics.ResourceRep index) rest = made number_reads (λ n. intrinsics.ResourceRep n) index rest
intrinsic_again intrinsics.TaskCancel rest = refl
intrinsic_again (intrinsics.SubtaskCancel t) rest = made flag_reads (λ t. intrinsics.SubtaskCancel t) t rest
intrinsic_again (intrinsics.TaskReturn result options) rest = made returned_reads (λ p. intrinsics.TaskReturn p.0 p.1) (result, options) rest
intrinsic_again (intrinsics.ContextGet ty slot) rest = made slot_reads (λ p. intrinsics.ContextGet p.0 p.1) (ty, slot) rest
intrinsic_again (intrinsics.ContextSet ty slot) rest = made slot_reads (λ p. intrinsics.ContextSet p.0 p.1) (ty, slot) rest
intrinsic_again intrinsics.SubtaskDrop rest = refl
intrinsic_again (intrinsics.StreamNew index) rest = made number_reads (λ n. intrinsics.StreamNew n) index rest
intrinsic_again (intrinsics.StreamRead index options) rest = made with_options_reads (λ p. intrinsics.StreamRead p.0 p.1) (index, options) rest
intrinsic_again (intrinsics.StreamWrite index options) rest = made with_options_reads (λ p. intrinsics.StreamWrite p.0 p.1) (index, options) rest
intrinsic_again (intrinsics.StreamCancelRead index t) rest = made flagged_reads (λ p. intrinsics.StreamCancelRead p.0 p.1) (index, t) rest
intrinsic_again (intrinsics.StreamCancelWrite index t) rest = made flagged_reads (λ p. intrinsics.StreamCancelWrite p.0 p.1) (index, t) rest
intrinsic_again (intrinsics.StreamDropReadable index) rest = made number_reads (λ n. intrinsics.StreamDropReadable n) index rest
intrinsic_again (intrinsics.StreamDropWritable index) rest = made number_reads (λ n. intrinsics.StreamDropWritable n) index rest
intrinsic_again (intrinsics.FutureNew index) rest = made number_reads (λ n. intrinsics.FutureNew n) index rest
intrinsic_again (intrinsics.FutureRead index options) rest = made with_options_reads (λ p. intrinsics.FutureRead p.0 p.1) (index, options) rest
intrinsic_again (intrinsics.FutureWrite index options) rest = made with_options_reads (λ p. intrinsics.FutureWrite p.0 p.1) (index, options) rest
intrinsic_again (intrinsics.FutureCancelRead index t) rest = made flagged_reads (λ p. intrinsics.FutureCancelRead p.0 p.1) (index, t) rest
intrinsic_again (intrinsics.FutureCancelWrite index t) rest = made flagged_reads (λ p. intrinsics.FutureCancelWrite p.0 p.1) (index, t) rest
intrinsic_again (intrinsics.FutureDropReadable index) rest = made number_reads (λ n. intrinsics.FutureDropReadable n) index rest
intrinsic_again (intrinsics.FutureDropWritable index) rest = made number_reads (λ n. intrinsics.FutureDropWritable n) index rest
intrinsic_again (intrinsics.ErrorContextNew options) rest = made options_reads (λ os. intrinsics.ErrorContextNew os) options rest
intrinsic_again (intrinsics.ErrorContextDebugMessage options) rest = made options_reads (λ os. intrinsics.ErrorContextDebugMessage os) options rest
intrinsic_again intrinsics.ErrorContextDrop rest = refl
intrinsic_again intrinsics.WaitableSetNew rest = refl
intrinsic_again (intrinsics.WaitableSetWait index) rest = made number_reads (λ n. intrinsics.WaitableSetWait n) index rest
intrinsic_again (intrinsics.WaitableSetPoll index) rest = made number_reads (λ n. intrinsics.WaitableSetPoll n) index rest
intrinsic_again intrinsics.WaitableSetDrop rest = refl
intrinsic_again intrinsics.WaitableJoin rest = refl
intrinsic_again intrinsics.BackpressureInc rest = refl
intrinsic_again intrinsics.BackpressureDec rest = refl

pub intrinsic_reads : Reads intrinsic_bytes intrinsic_from
unfolding intrinsic_from
intrinsic_reads = record { again = intrinsic_again }
