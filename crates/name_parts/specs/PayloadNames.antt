-- The names of operations on streams and futures in the older form (component model, Canonical ABI:
-- `stream.new` and the like): which operation, on which of the streams and futures of which
-- function.
use Rattle.std.specs.Prelude.{ℕ, List, codes, Bool, true, false, Option, Some, None, option_map, option_and_then, if◌then◌else◌}
use Rattle.std.specs.Str.{bytes_eq}
use Rattle.comp_lists.specs.Splits.{split_once}
use Rattle.record_values.specs.declared.roles.PayloadKind.{PayloadKind}
use Rattle.record_values.specs.declared.roles.PayloadKind.TheVariants as payload_kinds
use Rattle.record_values.specs.declared.roles.PayloadOperation.{PayloadOperation}
use Rattle.record_values.specs.declared.roles.PayloadOperation.TheVariants as operations
use Rattle.name_parts.specs.Builtins.{or_else}
use Rattle.name_parts.specs.Texts.{after, number}

-- ---- the operation, and what follows it

abbrev pub with_operation : PayloadOperation → Option (List ℕ) → Option (PayloadOperation × List ℕ)
with_operation operation rest = option_map (λ t. (operation, t)) rest

abbrev pub transfer : List ℕ → Option (PayloadOperation × List ℕ)
transfer text = or_else (with_operation operations.New (after (codes "new-") text))
    (or_else (with_operation operations.Read (after (codes "read-") text)) (with_operation operations.Write (after (codes "write-") text)))

abbrev pub cancel : List ℕ → Option (PayloadOperation × List ℕ)
cancel text = or_else (with_operation operations.CancelRead (after (codes "cancel-read-") text)) (with_operation operations.CancelWrite (after (codes "cancel-write-") text))

abbrev pub drop_end : List ℕ → Option (PayloadOperation × List ℕ)
drop_end text = or_else (with_operation operations.DropReadable (after (codes "drop-readable-") text)) (with_operation operations.DropWritable (after (codes "drop-writable-") text))

abbrev pub operation : List ℕ → Option (PayloadOperation × List ℕ)
operation text = or_else (transfer text) (or_else (cancel text) (drop_end text))

abbrev pub may_be_async : PayloadOperation → Bool
may_be_async operations.New = false
may_be_async operations.Read = true
may_be_async operations.Write = true
may_be_async operations.CancelRead = true
may_be_async operations.CancelWrite = true
may_be_async operations.DropReadable = false
may_be_async operations.DropWritable = false

-- ---- the whole name

-- the index of a stream or future among those of the function, or none for one without values
abbrev pub index : List ℕ → Option (Option ℕ)
index text = if bytes_eq text (codes "unit") then Some None else option_map (λ n. Some n) (number text)

-- kind, operation, index, function
abbrev pub PayloadName : Type 0
PayloadName = PayloadKind × PayloadOperation × Option ℕ × List ℕ

abbrev pub with_index : PayloadKind → List ℕ → Option (PayloadOperation × List ℕ) → Option PayloadName
with_index kind function None = None
with_index kind function (Some o) = option_map (λ i. (kind, o.0, i, function)) (index o.1)

-- what follows the kind: the operation, the index, `]` and the function
abbrev pub parts : PayloadKind → List ℕ → Option PayloadName
parts kind text = option_and_then (λ p. with_index kind p.1 (operation p.0)) (split_once 93 text)

unfoldable pub payload_name : List ℕ → Option PayloadName
payload_name text = or_else (option_and_then (parts payload_kinds.Stream) (after (codes "[stream-") text)) (option_and_then (parts payload_kinds.Future) (after (codes "[future-") text))
