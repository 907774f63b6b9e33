-- From the arguments as the system gives them, which need not be texts. (The program's own.)
use Rattle.std.specs.Prelude.{◌≡◌, ℕ, ◌+◌, List, [], ◌∷◌, ◌⊎◌, Option, Some, None, if◌then◌else◌}
use Rattle.std.specs.Str.{is_utf8}
use Rattle.comp_worlds.specs.declared.lower.Lower as lower
use Rattle.command_line.specs.Messages.{Says, IsNotTextLine, memory_line}
use Rattle.command_line.specs.Running.{Ran}
use Rattle.command_line.specs.declared.store.Event.{Event}

-- the number of the first argument that is not UTF-8, where the first of these has this number
abbrev pub first_not_text : ℕ → List (List ℕ) → Option ℕ
first_not_text n [] = None
first_not_text n (a ∷ rest) = if is_utf8 a then first_not_text (n + 1) rest else Some n

-- nothing was read, put or written on standard output, and a line was printed
pub record NotRun (before after : Option (List Event)) (out_before out_after said_before said_after : Option (List ℕ)) (IsLine : List ℕ → Type 0) : Type 0 where
  pub nothing_happened : after ≡ before
  pub nothing_printed : out_after ≡ out_before
  pub reported : Says said_before said_after IsLine

module _ {L B F : Type 0} (l : lower.Ghosts L B F) where
  -- a run where all arguments are UTF-8, or the line that says which is not, and status 2; or out
  -- of memory, before anything else
  abbrev pub StartedBy : Option ℕ → L → List (List ℕ) → Option (List Event) → Option (List Event) → Option (List ℕ) → Option (List ℕ) → Option (List ℕ) → Option (List ℕ) → ℕ → Type 0
  StartedBy None layer arguments before after out_before out_after said_before said_after status =
      Ran l layer arguments before after out_before out_after said_before said_after status
      ⊎ ((status ≡ 1) × NotRun before after out_before out_after said_before said_after (λ line. line ≡ memory_line))
  StartedBy (Some n) layer arguments before after out_before out_after said_before said_after status =
      ((status ≡ 2) × NotRun before after out_before out_after said_before said_after (IsNotTextLine n))
      ⊎ ((status ≡ 1) × NotRun before after out_before out_after said_before said_after (λ line. line ≡ memory_line))

  -- a start of the program with these arguments
  abbrev pub Started : L → List (List ℕ) → Option (List Event) → Option (List Event) → Option (List ℕ) → Option (List ℕ) → Option (List ℕ) → Option (List ℕ) → ℕ → Type 0
  Started layer arguments = StartedBy (first_not_text 1 arguments) layer arguments
