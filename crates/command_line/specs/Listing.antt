-- A component printed on standard output, one line for each definition. (The program's own; the
-- lines are those of `comp_lines`, and why bytes are not read is said by `comp_check`.)
use Rattle.std.specs.Prelude.{◌≡◌, ℕ, Bool, true, false, List, [], ◌∷◌, ◌++◌, ⊤, Option, Result, Ok, Err, codes}
use Rattle.std.specs.List.{flat_map}
use Rattle.comp_bytes.specs.Grammar.{Encodes}
use Rattle.comp_bytes.specs.declared.def.Def.{Def}
use Rattle.comp_check.specs.Faults.{IsUnread}
use Rattle.comp_check.specs.declared.fault.CheckFault.TheVariants as checks
use Rattle.comp_lines.specs.Lines.{lines}
use Rattle.command_line.specs.Messages.{Puts}
use Rattle.command_line.specs.declared.fault.RunFault.{RunFault}
use Rattle.command_line.specs.declared.fault.RunFault.TheVariants as faults
use Rattle.command_line.specs.declared.store.Event.{Event}
use Rattle.command_line.specs.declared.store.Event.TheVariants.{Read, NotRead}

-- lines with their ends
abbrev pub printed : List (List ℕ) → List ℕ
printed ls = flat_map (λ l. l ++ codes "\n") ls

-- a front of the lines of the definitions that the bytes encode was written, and where `whole` all of them
pub record PrintsAll (bytes : List ℕ) (before after : Option (List ℕ)) (whole : Bool) : Type 0 where
  pub definitions : List Def
  pub encoded : Encodes bytes definitions
  pub puts : Puts before after (printed (lines definitions)) whole

-- How printing the definitions that the bytes encode ended: all lines were written, or the writer
-- failed after a front of them, or they encode no component and nothing was written.
abbrev pub Prints : {F : Type 0} → List ℕ → Option (List ℕ) → Option (List ℕ) → Result ⊤ (RunFault F) → Type 0
Prints bytes before after (Ok x) = PrintsAll bytes before after true
Prints bytes before after (Err faults.Out) = PrintsAll bytes before after false
Prints bytes before after (Err faults.Closed) = PrintsAll bytes before after false
Prints bytes before after (Err (faults.Check f)) = IsUnread bytes f × (after ≡ before)
Prints bytes before after (Err _) = ⊥

-- What was read, and how the run ended: the file is read, once, and the definitions that its bytes
-- encode are printed. The first case is out of memory before the file was read.
abbrev pub Listed : {F : Type 0} → List ℕ → List Event → Option (List ℕ) → Option (List ℕ) → Result ⊤ (RunFault F) → Type 0
Listed file [] before after r = (r ≡ Err (faults.Check checks.Memory)) × (after ≡ before)
Listed file (NotRead name ∷ []) before after r = (name ≡ file) × (r ≡ Err (faults.Read file)) × (after ≡ before)
Listed file (Read name bytes ∷ []) before after r = (name ≡ file) × Prints bytes before after r
Listed file _ before after r = ⊥
