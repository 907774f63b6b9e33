-- Readers that say where they stop, and why. Core standard, binary format: vectors.
use Rattle.std.specs.Prelude.{◌≡◌, ℕ, zero, suc, List, [], ◌∷◌, length, Option, Some, None, Result, Ok, Err}
use Rattle.part_readers.specs.Reading.{number_at}
use Rattle.package_syntax.specs.declared.fault.Reason.{Reason}
use Rattle.package_syntax.specs.declared.fault.Reason.TheVariants as reasons
use Rattle.package_syntax.specs.declared.fault.Stop.{Stop}
use Rattle.package_syntax.specs.declared.fault.StopFault.{StopFault}
use Rattle.package_syntax.specs.declared.fault.StopFault.TheVariants as stops

infixl 10 ◌>>>◌
abbrev pub ◌>>>◌ : {A B E : Type 0} → Result A E → (A → Result B E) → Result B E
(Ok x) >>> f = f x
(Err e) >>> f = Err e

-- what an optional result is, where its absence is a refusal
abbrev pub ok_or : {A E : Type 0} → E → Option A → Result A E
ok_or e None = Err e
ok_or e (Some x) = Ok x

-- a value from the front of bytes and the bytes after it, or where reading stops
abbrev pub Placed : Type 0 → Type 0
Placed A = Result (A × List ℕ) Stop

abbrev pub PlacedReader : Type 0 → Type 0
PlacedReader A = List ℕ → Placed A

-- before this many bytes
abbrev pub stop : ℕ → Reason → Stop
stop left reason = record { left = left; reason = reason }

-- The result of a function, as a view, is that of the reader, unless it is out of memory.
abbrev pub Fails : {Y : Type 0} → StopFault → Result Y Stop → Type 0
Fails stops.Memory read = Unit {0}
Fails (stops.Refused s) read = read ≡ Err s

abbrev pub Gives : {X Y : Type 0} → (X → Y) → Result X StopFault → Result Y Stop → Type 0
Gives view (Ok x) read = read ≡ Ok (view x)
Gives view (Err e) read = Fails e read

-- so many items
unfoldable pub items_at : {A : Type 0} → PlacedReader A → ℕ → PlacedReader (List A)
items_at at zero bytes = Ok ([], bytes)
items_at at (suc n) bytes = at bytes >>> λ x. items_at at n x.1 >>> λ xs. Ok (x.0 ∷ xs.0, xs.1)

-- a list is its length and its items
unfoldable pub list_at : {A : Type 0} → PlacedReader A → PlacedReader (List A)
list_at at bytes = ok_or (stop (length bytes) reasons.Declaration) (number_at bytes) >>> λ n. items_at at n.0 n.1
