-- Options of canonical functions and intrinsics are read exactly.
use Rattle.std.proofs.Common.{◌≡◌, ℕ, Bool, true, false, List, [], ◌∷◌, ◌++◌, Option, Some, refl}
use Rattle.byte_encoding.specs.Encoding.{Encoding, Fits, ◌⊕◌, octet, number, listed}
use Rattle.comp_bytes.specs.Grammar.{function_result, option_bytes, context_byte, intrinsic_bytes}
use Rattle.byte_encoding.specs.Encoding.{flag}
use Rattle.comp_bytes.specs.declared.types.ComponentValType.{ComponentValType}
use Rattle.comp_bytes.specs.declared.canon.CanonicalOption.{CanonicalOption}
use Rattle.comp_bytes.specs.declared.canon.CanonicalOption.TheVariants as canonical
use Rattle.comp_bytes.specs.declared.canon.ContextType.{ContextType}
use Rattle.comp_bytes.specs.declared.canon.ContextType.TheVariants as contexts
use Rattle.comp_bytes.specs.declared.canon.Intrinsic.{Intrinsic}
use Rattle.comp_bytes.specs.declared.canon.Intrinsic.TheVariants as intrinsics
use Rattle.part_readers.specs.Reading.{then_at, tagged}
use Rattle.part_readers.specs.PartReaders.{result_at}
use Rattle.part_readers.specs.ArgumentReaders.{canonical_at}
use Rattle.comp_read.specs.CanonReaders.{options_at, flag_at, context_at, index_and_options_at, index_and_flag_at, slot_at, memory_at, waiting_after, future_after, stream_after, task_after, intrinsic_after}
use Rattle.part_readers.specs.Writable.{IsIndex, Optionally, Always, IsValueType}
use Rattle.comp_read.specs.Writable.{IsCanonicalOption, AreOptions, IsIntrinsic}
use Rattle.part_readers.proofs.Exact.{IsExact, Took, fewer, made_again, fine_case, fine_lone, then_exact, after_byte_exact, case, lone, number_exact, list_exact}
use Rattle.part_readers.proofs.ValueLaws.{result_exact}

-- ---- options

canonical_takes : (bytes : List ℕ) (x : CanonicalOption) (rest : List ℕ) → canonical_at bytes ≡ Some (x, rest) → Took (option_bytes x) bytes rest
unfolding canonical_at
canonical_takes [] x rest e = absurd cc
canonical_takes (b ∷ bytes) x rest e =
    lone option_bytes canonical.Utf8 b 0x00 bytes _ x rest refl e (λ e.
    lone option_bytes canonical.Utf16 b 0x01 bytes _ x rest refl e (λ e.
    lone option_bytes canonical.CompactUtf16 b 0x02 bytes _ x rest refl e (λ e.
    case number_exact option_bytes (λ n. canonical.Memory n) b 0x03 bytes _ x rest (λ a. refl) e (λ e.
    case number_exact option_bytes (λ n. canonical.Realloc n) b 0x04 bytes _ x rest (λ a. refl) e (λ e.
    case number_exact option_bytes (λ n. canonical.PostReturn n) b 0x05 bytes _ x rest (λ a. refl) e (λ e.
    lone option_bytes canonical.Async b 0x06 bytes _ x rest refl e (λ e.
    case number_exact option_bytes (λ n. canonical.Callback n) b 0x07 bytes _ x rest (λ a. refl) e (λ e.
    absurd cc))))))))

canonical_again : (x : CanonicalOption) (rest : List ℕ) → IsCanonicalOption x → canonical_at ((option_bytes x).bytes ++ rest) ≡ Some (x, rest)
unfolding canonical_at
canonical_again canonical.Utf8 rest w = refl
canonical_again canonical.Utf16 rest w = refl
canonical_again canonical.CompactUtf16 rest w = refl
canonical_again (canonical.Memory n) rest w = made_again number_exact (λ n. canonical.Memory n) n rest w tt
canonical_again (canonical.Realloc n) rest w = made_again number_exact (λ n. canonical.Realloc n) n rest w tt
canonical_again (canonical.PostReturn n) rest w = made_again number_exact (λ n. canonical.PostReturn n) n rest w tt
canonical_again canonical.Async rest w = refl
canonical_again (canonical.Callback n) rest w = made_again number_exact (λ n. canonical.Callback n) n rest w tt

canonical_fine : (bytes : List ℕ) (x : CanonicalOption) (rest : List ℕ) → canonical_at bytes ≡ Some (x, rest) → IsCanonicalOption x
unfolding canonical_at
canonical_fine [] x rest e = absurd cc
canonical_fine (b ∷ bytes) x rest e =
    fine_lone IsCanonicalOption canonical.Utf8 b 0x00 bytes _ x rest tt e (λ e.
    fine_lone IsCanonicalOption canonical.Utf16 b 0x01 bytes _ x rest tt e (λ e.
    fine_lone IsCanonicalOption canonical.CompactUtf16 b 0x02 bytes _ x rest tt e (λ e.
    fine_case number_exact IsCanonicalOption (λ n. canonical.Memory n) b 0x03 bytes _ x rest (λ a w. w) e (λ e.
    fine_case number_exact IsCanonicalOption (λ n. canonical.Realloc n) b 0x04 bytes _ x rest (λ a w. w) e (λ e.
    fine_case number_exact IsCanonicalOption (λ n. canonical.PostReturn n) b 0x05 bytes _ x rest (λ a w. w) e (λ e.
    fine_lone IsCanonicalOption canonical.Async b 0x06 bytes _ x rest tt e (λ e.
    fine_case number_exact IsCanonicalOption (λ n. canonical.Callback n) b 0x07 bytes _ x rest (λ a w. w) e (λ e.
    absurd cc))))))))

pub canonical_exact : IsExact option_bytes IsCanonicalOption canonical_at
canonical_exact = record { takes = canonical_takes; fine = canonical_fine; again = λ x rest w fits. canonical_again x rest w }

pub options_exact : IsExact (listed option_bytes) AreOptions options_at
unfolding options_at
options_exact = list_exact canonical_exact

-- ---- flags and context slots

flag_takes : (bytes : List ℕ) (x : Bool) (rest : List ℕ) → flag_at bytes ≡ Some (x, rest) → Took (flag x) bytes rest
unfolding flag_at
flag_takes [] x rest e = absurd cc
flag_takes (b ∷ bytes) x rest e =
    lone flag false b 0x00 bytes _ x rest refl e (λ e.
    lone flag true b 0x01 bytes _ x rest refl e (λ e.
    absurd cc))

flag_again : (x : Bool) (rest : List ℕ) → flag_at ((flag x).bytes ++ rest) ≡ Some (x, rest)
unfolding flag_at
flag_again true rest = refl
flag_again false rest = refl

flag_exact : IsExact flag Always flag_at
flag_exact = record { takes = flag_takes; fine = λ bytes x rest e. tt; again = λ x rest w fits. flag_again x rest }

context_takes : (bytes : List ℕ) (x : ContextType) (rest : List ℕ) → context_at bytes ≡ Some (x, rest) → Took (octet (context_byte x)) bytes rest
unfolding context_at
context_takes [] x rest e = absurd cc
context_takes (b ∷ bytes) x rest e =
    let f : ContextType → Encoding = λ c. octet (context_byte c) in
    lone f contexts.I32 b 0x7f bytes _ x rest refl e (λ e.
    lone f contexts.I64 b 0x7e bytes _ x rest refl e (λ e.
    absurd cc))

context_again : (x : ContextType) (rest : List ℕ) → context_at (context_byte x ∷ rest) ≡ Some (x, rest)
unfolding context_at
context_again contexts.I32 rest = refl
context_again contexts.I64 rest = refl

context_exact : IsExact (λ c. octet (context_byte c)) Always context_at
context_exact = record { takes = context_takes; fine = λ bytes x rest e. tt; again = λ x rest w fits. context_again x rest }

-- ---- what intrinsics have in common

pub indexed_options : IsExact (λ (p : ℕ × List CanonicalOption). number p.0 ⊕ listed option_bytes p.1) (λ p. IsIndex p.0 × AreOptions p.1) index_and_options_at
unfolding index_and_options_at
indexed_options = then_exact number_exact options_exact

indexed_flag : IsExact (λ (p : ℕ × Bool). number p.0 ⊕ flag p.1) (λ p. IsIndex p.0) index_and_flag_at
unfolding index_and_flag_at
indexed_flag = fewer (then_exact number_exact flag_exact) (λ p. IsIndex p.0) (λ p w. (w, tt)) (λ p v. v.0)

slot_exact : IsExact (λ (p : ContextType × ℕ). octet (context_byte p.0) ⊕ number p.1) (λ p. IsIndex p.1) slot_at
unfolding slot_at
slot_exact = fewer (then_exact context_exact number_exact) (λ p. IsIndex p.1) (λ p w. (tt, w)) (λ p v. v.1)

memory_exact : IsExact (λ n. octet 0x00 ⊕ number n) IsIndex memory_at
unfolding memory_at
memory_exact = after_byte_exact 0x00 number_exact

returned : IsExact (λ (p : Option ComponentValType × List CanonicalOption). function_result p.0 ⊕ listed option_bytes p.1) (λ p. Optionally IsValueType p.0 × AreOptions p.1) (then_at result_at options_at)
returned = then_exact result_exact options_exact

-- ---- intrinsics

waiting_takes : (b : ℕ) (bytes : List ℕ) (x : Intrinsic) (rest : List ℕ) → waiting_after b bytes ≡ Some (x, rest) → Took (intrinsic_bytes x) (b ∷ bytes) rest
unfolding waiting_after
waiting_takes b bytes x rest e =
    case options_exact intrinsic_bytes (λ o. intrinsics.ErrorContextNew o) b 0x1c bytes _ x rest (λ a. refl) e (λ e.
    case options_exact intrinsic_bytes (λ o. intrinsics.ErrorContextDebugMessage o) b 0x1d bytes _ x rest (λ a. refl) e (λ e.
    lone intrinsic_bytes intrinsics.ErrorContextDrop b 0x1e bytes _ x rest refl e (λ e.
    lone intrinsic_bytes intrinsics.WaitableSetNew b 0x1f bytes _ x rest refl e (λ e.
    case memory_exact intrinsic_bytes (λ n. intrinsics.WaitableSetWait n) b 0x20 bytes _ x rest (λ a. refl) e (λ e.
    case memory_exact intrinsic_bytes (λ n. intrinsics.WaitableSetPoll n) b 0x21 bytes _ x rest (λ a. refl) e (λ e.
    lone intrinsic_bytes intrinsics.WaitableSetDrop b 0x22 bytes _ x rest refl e (λ e.
    lone intrinsic_bytes intrinsics.WaitableJoin b 0x23 bytes _ x rest refl e (λ e.
    lone intrinsic_bytes intrinsics.BackpressureInc b 0x24 bytes _ x rest refl e (λ e.
    lone intrinsic_bytes intrinsics.BackpressureDec b 0x25 bytes _ x rest refl e (λ e.
    absurd cc))))))))))

future_takes : (b : ℕ) (bytes : List ℕ) (x : Intrinsic) (rest : List ℕ) → future_after b bytes ≡ Some (x, rest) → Took (intrinsic_bytes x) (b ∷ bytes) rest
unfolding future_after
future_takes b bytes x rest e =
    case number_exact intrinsic_bytes (λ n. intrinsics.FutureNew n) b 0x15 bytes _ x rest (λ a. refl) e (λ e.
    case indexed_options intrinsic_bytes (λ p. intrinsics.FutureRead p.0 p.1) b 0x16 bytes _ x rest (λ a. refl) e (λ e.
    case indexed_options intrinsic_bytes (λ p. intrinsics.FutureWrite p.0 p.1) b 0x17 bytes _ x rest (λ a. refl) e (λ e.
    case indexed_flag intrinsic_bytes (λ p. intrinsics.FutureCancelRead p.0 p.1) b 0x18 bytes _ x rest (λ a. refl) e (λ e.
    case indexed_flag intrinsic_bytes (λ p. intrinsics.FutureCancelWrite p.0 p.1) b 0x19 bytes _ x rest (λ a. refl) e (λ e.
    case number_exact intrinsic_bytes (λ n. intrinsics.FutureDropReadable n) b 0x1a bytes _ x rest (λ a. refl) e (λ e.
    case number_exact intrinsic_bytes (λ n. intrinsics.FutureDropWritable n) b 0x1b bytes _ x rest (λ a. refl) e (λ e.
    waiting_takes b bytes x rest e)))))))

stream_takes : (b : ℕ) (bytes : List ℕ) (x : Intrinsic) (rest : List ℕ) → stream_after b bytes ≡ Some (x, rest) → Took (intrinsic_bytes x) (b ∷ bytes) rest
unfolding stream_after
stream_takes b bytes x rest e =
    case number_exact intrinsic_bytes (λ n. intrinsics.StreamNew n) b 0x0e bytes _ x rest (λ a. refl) e (λ e.
    case indexed_options intrinsic_bytes (λ p. intrinsics.StreamRead p.0 p.1) b 0x0f bytes _ x rest (λ a. refl) e (λ e.
    case indexed_options intrinsic_bytes (λ p. intrinsics.StreamWrite p.0 p.1) b 0x10 bytes _ x rest (λ a. refl) e (λ e.
    case indexed_flag intrinsic_bytes (λ p. intrinsics.StreamCancelRead p.0 p.1) b 0x11 bytes _ x rest (λ a. refl) e (λ e.
    case indexed_flag intrinsic_bytes (λ p. intrinsics.StreamCancelWrite p.0 p.1) b 0x12 bytes _ x rest (λ a. refl) e (λ e.
    case number_exact intrinsic_bytes (λ n. intrinsics.StreamDropReadable n) b 0x13 bytes _ x rest (λ a. refl) e (λ e.
    case number_exact intrinsic_bytes (λ n. intrinsics.StreamDropWritable n) b 0x14 bytes _ x rest (λ a. refl) e (λ e.
    future_takes b bytes x rest e)))))))

task_takes : (b : ℕ) (bytes : List ℕ) (x : Intrinsic) (rest : List ℕ) → task_after b bytes ≡ Some (x, rest) → Took (intrinsic_bytes x) (b ∷ bytes) rest
unfolding task_after
task_takes b bytes x rest e =
    lone intrinsic_bytes intrinsics.TaskCancel b 0x05 bytes _ x rest refl e (λ e.
    case flag_exact intrinsic_bytes (λ f. intrinsics.SubtaskCancel f) b 0x06 bytes _ x rest (λ a. refl) e (λ e.
    case returned intrinsic_bytes (λ p. intrinsics.TaskReturn p.0 p.1) b 0x09 bytes _ x rest (λ a. refl) e (λ e.
    case slot_exact intrinsic_bytes (λ p. intrinsics.ContextGet p.0 p.1) b 0x0a bytes _ x rest (λ a. refl) e (λ e.
    case slot_exact intrinsic_bytes (λ p. intrinsics.ContextSet p.0 p.1) b 0x0b bytes _ x rest (λ a. refl) e (λ e.
    lone intrinsic_bytes intrinsics.SubtaskDrop b 0x0d bytes _ x rest refl e (λ e.
    stream_takes b bytes x rest e))))))

pub intrinsic_takes : (b : ℕ) (bytes : List ℕ) (x : Intrinsic) (rest : List ℕ) → intrinsic_after b bytes ≡ Some (x, rest) → Took (intrinsic_bytes x) (b ∷ bytes) rest
unfolding intrinsic_after
intrinsic_takes b bytes x rest e =
    case number_exact intrinsic_bytes (λ n. intrinsics.ResourceNew n) b 0x02 bytes _ x rest (λ a. refl) e (λ e.
    case number_exact intrinsic_bytes (λ n. intrinsics.ResourceDrop n) b 0x03 bytes _ x rest (λ a. refl) e (λ e.
    case number_exact intrinsic_bytes (λ n. intrinsics.ResourceRep n) b 0x04 bytes _ x rest (λ a. refl) e (λ e.
    task_takes b bytes x rest e)))

intrinsic_again : (x : Intrinsic) (rest : List ℕ) → IsIntrinsic x → Fits (intrinsic_bytes x).counts → tagged intrinsic_after ((intrinsic_bytes x).bytes ++ rest) ≡ Some (x, rest)
unfolding intrinsic_after task_after stream_after future_after waiting_after
intrinsic_again (intrinsics.ResourceNew n) rest w fits = made_again number_exact (λ n. intrinsics.ResourceNew n) n rest w fits
intrinsic_again (intrinsics.ResourceDrop n) rest w fits = made_again number_exact (λ n. intrinsics.ResourceDrop n) n rest w fits
intrinsic_again (intrinsics.ResourceRep n) rest w fits = made_again number_exact (λ n. intrinsics.ResourceRep n) n rest w fits
intrinsic_again intrinsics.TaskCancel rest w fits = refl
intrinsic_again (intrinsics.SubtaskCancel f) rest w fits = made_again flag_exact (λ f. intrinsics.SubtaskCancel f) f rest tt fits
intrinsic_again (intrinsics.TaskReturn r o) rest w fits = made_again returned (λ p. intrinsics.TaskReturn p.0 p.1) (r, o) rest w fits
intrinsic_again (intrinsics.ContextGet ty n) rest w fits = made_again slot_exact (λ p. intrinsics.ContextGet p.0 p.1) (ty, n) rest w fits
intrinsic_again (intrinsics.ContextSet ty n) rest w fits = made_again slot_exact (λ p. intrinsics.ContextSet p.0 p.1) (ty, n) rest w fits
intrinsic_again intrinsics.SubtaskDrop rest w fits = refl
intrinsic_again (intrinsics.StreamNew n) rest w fits = made_again number_exact (λ n. intrinsics.StreamNew n) n rest w fits
intrinsic_again (intrinsics.StreamRead n o) rest w fits = made_again indexed_options (λ p. intrinsics.StreamRead p.0 p.1) (n, o) rest w fits
intrinsic_again (intrinsics.StreamWrite n o) rest w fits = made_again indexed_options (λ p. intrinsics.StreamWrite p.0 p.1) (n, o) rest w fits
intrinsic_again (intrinsics.StreamCancelRead n f) rest w fits = made_again indexed_flag (λ p. intrinsics.StreamCancelRead p.0 p.1) (n, f) rest w fits
intrinsic_again (intrinsics.StreamCancelWrite n f) rest w fits = made_again indexed_flag (λ p. intrinsics.StreamCancelWrite p.0 p.1) (n, f) rest w fits
intrinsic_again (intrinsics.StreamDropReadable n) rest w fits = made_again number_exact (λ n. intrinsics.StreamDropReadable n) n rest w fits
intrinsic_again (intrinsics.StreamDropWritable n) rest w fits = made_again number_exact (λ n. intrinsics.StreamDropWritable n) n rest w fits
intrinsic_again (intrinsics.FutureNew n) rest w fits = made_again number_exact (λ n. intrinsics.FutureNew n) n rest w fits
intrinsic_again (intrinsics.FutureRead n o) rest w fits = made_again indexed_options (λ p. intrinsics.FutureRead p.0 p.1) (n, o) rest w fits
intrinsic_again (intrinsics.FutureWrite n o) rest w fits = made_again indexed_options (λ p. intrinsics.FutureWrite p.0 p.1) (n, o) rest w fits
intrinsic_again (intrinsics.FutureCancelRead n f) rest w fits = made_again indexed_flag (λ p. intrinsics.FutureCancelRead p.0 p.1) (n, f) rest w fits
intrinsic_again (intrinsics.FutureCancelWrite n f) rest w fits = made_again indexed_flag (λ p. intrinsics.FutureCancelWrite p.0 p.1) (n, f) rest w fits
intrinsic_again (intrinsics.FutureDropReadable n) rest w fits = made_again number_exact (λ n. intrinsics.FutureDropReadable n) n rest w fits
intrinsic_again (intrinsics.FutureDropWritable n) rest w fits = made_again number_exact (λ n. intrinsics.FutureDropWritable n) n rest w fits
intrinsic_again (intrinsics.ErrorContextNew o) rest w fits = made_again options_exact (λ o. intrinsics.ErrorContextNew o) o rest w fits
intrinsic_again (intrinsics.ErrorContextDebugMessage o) rest w fits = made_again options_exact (λ o. intrinsics.ErrorContextDebugMessage o) o rest w fits
intrinsic_again intrinsics.ErrorContextDrop rest w fits = refl
intrinsic_again intrinsics.WaitableSetNew rest w fits = refl
intrinsic_again (intrinsics.WaitableSetWait n) rest w fits = made_again memory_exact (λ n. intrinsics.WaitableSetWait n) n rest w fits
intrinsic_again (intrinsics.WaitableSetPoll n) rest w fits = made_again memory_exact (λ n. intrinsics.WaitableSetPoll n) n rest w fits
intrinsic_again intrinsics.WaitableSetDrop rest w fits = refl
intrinsic_again intrinsics.WaitableJoin rest w fits = refl
intrinsic_again intrinsics.BackpressureInc rest w fits = refl
intrinsic_again intrinsics.BackpressureDec rest w fits = refl

intrinsic_taken : (bytes : List ℕ) (x : Intrinsic) (rest : List ℕ) → tagged intrinsic_after bytes ≡ Some (x, rest) → Took (intrinsic_bytes x) bytes rest
intrinsic_taken [] x rest e = absurd cc
intrinsic_taken (b ∷ bytes) x rest e = intrinsic_takes b bytes x rest e

waiting_fine : (b : ℕ) (bytes : List ℕ) (x : Intrinsic) (rest : List ℕ) → waiting_after b bytes ≡ Some (x, rest) → IsIntrinsic x
unfolding waiting_after
waiting_fine b bytes x rest e =
    fine_case options_exact IsIntrinsic (λ o. intrinsics.ErrorContextNew o) b 0x1c bytes _ x rest (λ a w. w) e (λ e.
    fine_case options_exact IsIntrinsic (λ o. intrinsics.ErrorContextDebugMessage o) b 0x1d bytes _ x rest (λ a w. w) e (λ e.
    fine_lone IsIntrinsic intrinsics.ErrorContextDrop b 0x1e bytes _ x rest tt e (λ e.
    fine_lone IsIntrinsic intrinsics.WaitableSetNew b 0x1f bytes _ x rest tt e (λ e.
    fine_case memory_exact IsIntrinsic (λ n. intrinsics.WaitableSetWait n) b 0x20 bytes _ x rest (λ a w. w) e (λ e.
    fine_case memory_exact IsIntrinsic (λ n. intrinsics.WaitableSetPoll n) b 0x21 bytes _ x rest (λ a w. w) e (λ e.
    fine_lone IsIntrinsic intrinsics.WaitableSetDrop b 0x22 bytes _ x rest tt e (λ e.
    fine_lone IsIntrinsic intrinsics.WaitableJoin b 0x23 bytes _ x rest tt e (λ e.
    fine_lone IsIntrinsic intrinsics.BackpressureInc b 0x24 bytes _ x rest tt e (λ e.
    fine_lone IsIntrinsic intrinsics.BackpressureDec b 0x25 bytes _ x rest tt e (λ e.
    absurd cc))))))))))

future_fine : (b : ℕ) (bytes : List ℕ) (x : Intrinsic) (rest : List ℕ) → future_after b bytes ≡ Some (x, rest) → IsIntrinsic x
unfolding future_after
future_fine b bytes x rest e =
    fine_case number_exact IsIntrinsic (λ n. intrinsics.FutureNew n) b 0x15 bytes _ x rest (λ a w. w) e (λ e.
    fine_case indexed_options IsIntrinsic (λ p. intrinsics.FutureRead p.0 p.1) b 0x16 bytes _ x rest (λ a w. w) e (λ e.
    fine_case indexed_options IsIntrinsic (λ p. intrinsics.FutureWrite p.0 p.1) b 0x17 bytes _ x rest (λ a w. w) e (λ e.
    fine_case indexed_flag IsIntrinsic (λ p. intrinsics.FutureCancelRead p.0 p.1) b 0x18 bytes _ x rest (λ a w. w) e (λ e.
    fine_case indexed_flag IsIntrinsic (λ p. intrinsics.FutureCancelWrite p.0 p.1) b 0x19 bytes _ x rest (λ a w. w) e (λ e.
    fine_case number_exact IsIntrinsic (λ n. intrinsics.FutureDropReadable n) b 0x1a bytes _ x rest (λ a w. w) e (λ e.
    fine_case number_exact IsIntrinsic (λ n. intrinsics.FutureDropWritable n) b 0x1b bytes _ x rest (λ a w. w) e (λ e.
    waiting_fine b bytes x rest e)))))))

stream_fine : (b : ℕ) (bytes : List ℕ) (x : Intrinsic) (rest : List ℕ) → stream_after b bytes ≡ Some (x, rest) → IsIntrinsic x
unfolding stream_after
stream_fine b bytes x rest e =
    fine_case number_exact IsIntrinsic (λ n. intrinsics.StreamNew n) b 0x0e bytes _ x rest (λ a w. w) e (λ e.
    fine_case indexed_options IsIntrinsic (λ p. intrinsics.StreamRead p.0 p.1) b 0x0f bytes _ x rest (λ a w. w) e (λ e.
    fine_case indexed_options IsIntrinsic (λ p. intrinsics.StreamWrite p.0 p.1) b 0x10 bytes _ x rest (λ a w. w) e (λ e.
    fine_case indexed_flag IsIntrinsic (λ p. intrinsics.StreamCancelRead p.0 p.1) b 0x11 bytes _ x rest (λ a w. w) e (λ e.
    fine_case indexed_flag IsIntrinsic (λ p. intrinsics.StreamCancelWrite p.0 p.1) b 0x12 bytes _ x rest (λ a w. w) e (λ e.
    fine_case number_exact IsIntrinsic (λ n. intrinsics.StreamDropReadable n) b 0x13 bytes _ x rest (λ a w. w) e (λ e.
    fine_case number_exact IsIntrinsic (λ n. intrinsics.StreamDropWritable n) b 0x14 bytes _ x rest (λ a w. w) e (λ e.
    future_fine b bytes x rest e)))))))

task_fine : (b : ℕ) (bytes : List ℕ) (x : Intrinsic) (rest : List ℕ) → task_after b bytes ≡ Some (x, rest) → IsIntrinsic x
unfolding task_after
task_fine b bytes x rest e =
    fine_lone IsIntrinsic intrinsics.TaskCancel b 0x05 bytes _ x rest tt e (λ e.
    fine_case flag_exact IsIntrinsic (λ f. intrinsics.SubtaskCancel f) b 0x06 bytes _ x rest (λ a w. w) e (λ e.
    fine_case returned IsIntrinsic (λ p. intrinsics.TaskReturn p.0 p.1) b 0x09 bytes _ x rest (λ a w. w) e (λ e.
    fine_case slot_exact IsIntrinsic (λ p. intrinsics.ContextGet p.0 p.1) b 0x0a bytes _ x rest (λ a w. w) e (λ e.
    fine_case slot_exact IsIntrinsic (λ p. intrinsics.ContextSet p.0 p.1) b 0x0b bytes _ x rest (λ a w. w) e (λ e.
    fine_lone IsIntrinsic intrinsics.SubtaskDrop b 0x0d bytes _ x rest tt e (λ e.
    stream_fine b bytes x rest e))))))

intrinsic_fine : (b : ℕ) (bytes : List ℕ) (x : Intrinsic) (rest : List ℕ) → intrinsic_after b bytes ≡ Some (x, rest) → IsIntrinsic x
unfolding intrinsic_after
intrinsic_fine b bytes x rest e =
    fine_case number_exact IsIntrinsic (λ n. intrinsics.ResourceNew n) b 0x02 bytes _ x rest (λ a w. w) e (λ e.
    fine_case number_exact IsIntrinsic (λ n. intrinsics.ResourceDrop n) b 0x03 bytes _ x rest (λ a w. w) e (λ e.
    fine_case number_exact IsIntrinsic (λ n. intrinsics.ResourceRep n) b 0x04 bytes _ x rest (λ a w. w) e (λ e.
    task_fine b bytes x rest e)))

intrinsic_taken_fine : (bytes : List ℕ) (x : Intrinsic) (rest : List ℕ) → tagged intrinsic_after bytes ≡ Some (x, rest) → IsIntrinsic x
intrinsic_taken_fine [] x rest e = absurd cc
intrinsic_taken_fine (b ∷ bytes) x rest e = intrinsic_fine b bytes x rest e

pub intrinsic_exact : IsExact intrinsic_bytes IsIntrinsic (tagged intrinsic_after)
intrinsic_exact = record { takes = intrinsic_taken; fine = intrinsic_taken_fine; again = intrinsic_again }
