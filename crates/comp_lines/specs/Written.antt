-- The result of a call that writes at the end of a text, and its errors.
use Rattle.std.specs.Prelude.{ℕ, ◌≡◌, List, ◌++◌, Result, Ok, Err}
use Rattle.byte_encoding.specs.Encoding.{Fits}
use Rattle.byte_encoding.specs.Written.{Refused}
use Rattle.byte_encoding.specs.declared.fault.BuildFault.{BuildFault}

-- The text is appended, where none of the counts passes 32 bits; the only other error is such a count. After an
-- error the text is of no use.
abbrev pub Puts : List ℕ → List ℕ → Result Unit BuildFault → List ℕ → List ℕ → Type 0
Puts old new (Ok _) text counts = (new ≡ old ++ text) × Fits counts
Puts old new (Err e) text counts = Refused counts e
