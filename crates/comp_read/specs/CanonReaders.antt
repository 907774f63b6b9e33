-- Reading canonical functions from the front of bytes. Component model, binary format: `canonopt`, `canon`.
use Rattle.std.specs.Prelude.{ℕ, ◌==◌, Bool, true, false, if◌then◌else◌, List, Some, None}
use Rattle.comp_bytes.specs.declared.canon.CanonicalOption.{CanonicalOption}
use Rattle.comp_bytes.specs.declared.canon.ContextType.{ContextType}
use Rattle.comp_bytes.specs.declared.canon.ContextType.TheVariants as contexts
use Rattle.comp_bytes.specs.declared.canon.Intrinsic.{Intrinsic}
use Rattle.comp_bytes.specs.declared.canon.Intrinsic.TheVariants as intrinsics
use Rattle.part_readers.specs.PartReaders.{result_at}
use Rattle.part_readers.specs.ArgumentReaders.{canonical_at}
use Rattle.part_readers.specs.Reading.{Reader, made_at, then_at, after_byte, tagged, number_at, list_at}

unfoldable pub options_at : Reader (List CanonicalOption)
options_at bytes = list_at canonical_at bytes

abbrev pub flag_after : ℕ → Reader Bool
flag_after b bytes = if b == 0x00 then Some (false, bytes) else (if b == 0x01 then Some (true, bytes) else None)

unfoldable pub flag_at : Reader Bool
flag_at bytes = tagged flag_after bytes

abbrev pub context_after : ℕ → Reader ContextType
context_after b bytes = if b == 0x7f then Some (contexts.I32, bytes) else (if b == 0x7e then Some (contexts.I64, bytes) else None)

unfoldable pub context_at : Reader ContextType
context_at bytes = tagged context_after bytes

unfoldable pub index_and_options_at : Reader (ℕ × List CanonicalOption)
index_and_options_at bytes = then_at number_at options_at bytes

unfoldable pub index_and_flag_at : Reader (ℕ × Bool)
index_and_flag_at bytes = then_at number_at flag_at bytes

unfoldable pub slot_at : Reader (ContextType × ℕ)
slot_at bytes = then_at context_at number_at bytes

-- the memory of a wait
unfoldable pub memory_at : Reader ℕ
memory_at bytes = after_byte 0x00 number_at bytes

unfoldable pub waiting_after : ℕ → Reader Intrinsic
waiting_after b bytes =
    if b == 0x1c then made_at (λ o. intrinsics.ErrorContextNew o) options_at bytes
    else (if b == 0x1d then made_at (λ o. intrinsics.ErrorContextDebugMessage o) options_at bytes
    else (if b == 0x1e then Some (intrinsics.ErrorContextDrop, bytes)
    else (if b == 0x1f then Some (intrinsics.WaitableSetNew, bytes)
    else (if b == 0x20 then made_at (λ n. intrinsics.WaitableSetWait n) memory_at bytes
    else (if b == 0x21 then made_at (λ n. intrinsics.WaitableSetPoll n) memory_at bytes
    else (if b == 0x22 then Some (intrinsics.WaitableSetDrop, bytes)
    else (if b == 0x23 then Some (intrinsics.WaitableJoin, bytes)
    else (if b == 0x24 then Some (intrinsics.BackpressureInc, bytes)
    else (if b == 0x25 then Some (intrinsics.BackpressureDec, bytes)
    else None)))))))))

unfoldable pub future_after : ℕ → Reader Intrinsic
future_after b bytes =
    if b == 0x15 then made_at (λ n. intrinsics.FutureNew n) number_at bytes
    else (if b == 0x16 then made_at (λ p. intrinsics.FutureRead p.0 p.1) index_and_options_at bytes
    else (if b == 0x17 then made_at (λ p. intrinsics.FutureWrite p.0 p.1) index_and_options_at bytes
    else (if b == 0x18 then made_at (λ p. intrinsics.FutureCancelRead p.0 p.1) index_and_flag_at bytes
    else (if b == 0x19 then made_at (λ p. intrinsics.FutureCancelWrite p.0 p.1) index_and_flag_at bytes
    else (if b == 0x1a then made_at (λ n. intrinsics.FutureDropReadable n) number_at bytes
    else (if b == 0x1b then made_at (λ n. intrinsics.FutureDropWritable n) number_at bytes
    else waiting_after b bytes))))))

unfoldable pub stream_after : ℕ → Reader Intrinsic
stream_after b bytes =
    if b == 0x0e then made_at (λ n. intrinsics.StreamNew n) number_at bytes
    else (if b == 0x0f then made_at (λ p. intrinsics.StreamRead p.0 p.1) index_and_options_at bytes
    else (if b == 0x10 then made_at (λ p. intrinsics.StreamWrite p.0 p.1) index_and_options_at bytes
    else (if b == 0x11 then made_at (λ p. intrinsics.StreamCancelRead p.0 p.1) index_and_flag_at bytes
    else (if b == 0x12 then made_at (λ p. intrinsics.StreamCancelWrite p.0 p.1) index_and_flag_at bytes
    else (if b == 0x13 then made_at (λ n. intrinsics.StreamDropReadable n) number_at bytes
    else (if b == 0x14 then made_at (λ n. intrinsics.StreamDropWritable n) number_at bytes
    else future_after b bytes))))))

unfoldable pub task_after : ℕ → Reader Intrinsic
task_after b bytes =
    if b == 0x05 then Some (intrinsics.TaskCancel, bytes)
    else (if b == 0x06 then made_at (λ f. intrinsics.SubtaskCancel f) flag_at bytes
    else (if b == 0x09 then made_at (λ p. intrinsics.TaskReturn p.0 p.1) (then_at result_at options_at) bytes
    else (if b == 0x0a then made_at (λ p. intrinsics.ContextGet p.0 p.1) slot_at bytes
    else (if b == 0x0b then made_at (λ p. intrinsics.ContextSet p.0 p.1) slot_at bytes
    else (if b == 0x0d then Some (intrinsics.SubtaskDrop, bytes)
    else stream_after b bytes)))))

unfoldable pub intrinsic_after : ℕ → Reader Intrinsic
intrinsic_after b bytes =
    if b == 0x02 then made_at (λ n. intrinsics.ResourceNew n) number_at bytes
    else (if b == 0x03 then made_at (λ n. intrinsics.ResourceDrop n) number_at bytes
    else (if b == 0x04 then made_at (λ n. intrinsics.ResourceRep n) number_at bytes
    else task_after b bytes))
