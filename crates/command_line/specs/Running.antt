-- What a run of the program does. (The program's own.)
use Rattle.std.specs.Prelude.{◌≡◌, ◌⊎◌, ℕ, List, [], ⊤, Option, Some, None, Result, Ok, Err}
use Rattle.comp_worlds.specs.declared.lower.Lower as lower
use Rattle.command_line.specs.Arguments.{request_of, is_listing}
use Rattle.command_line.specs.Events.{happen, device_faults}
use Rattle.command_line.specs.Faults.{no_memory, status_of, reported_faults}
use Rattle.command_line.specs.Linking.{Linked}
use Rattle.command_line.specs.Linting.{Linted}
use Rattle.command_line.specs.Listing.{Listed}
use Rattle.command_line.specs.Making.{Made}
use Rattle.command_line.specs.Recording.{Recorded}
use Rattle.command_line.specs.Messages.{PrintsText, Reports, help_text, version_line, memory_line_of}
use Rattle.command_line.specs.declared.arguments.Request.{Request}
use Rattle.command_line.specs.declared.arguments.Request.TheVariants as requests
use Rattle.command_line.specs.declared.fault.RunFault.{RunFault}
use Rattle.command_line.specs.declared.store.Event.{Event}
use Rattle.command_line.specs.declared.fault.RunFault.TheVariants.{Usage}

-- what is printed at the end of a run: nothing on success, a line on a failure
abbrev pub Reported : {F : Type 0} → List ℕ → Option (List ℕ) → Option (List ℕ) → Result ⊤ (RunFault F) → Type 0
Reported memory before after (Ok x) = after ≡ before
Reported memory before after (Err f) = Reports memory f before after

-- A text is printed; or memory runs out before.
abbrev pub Explained : {F : Type 0} → List ℕ → Option (List ℕ) → Option (List ℕ) → Result ⊤ (RunFault F) → Type 0
Explained text before after r = PrintsText text before after r ⊎ ((r ≡ Err no_memory) × (after ≡ before))

module _ {L B F : Type 0} (l : lower.Ghosts L B F) where
  -- With wrong arguments nothing is read, put or written; with right ones the component, or a module with its
  -- record, is made and nothing is printed, or a component, its links, the warnings of modules, what a code means, the help or the
  -- version is printed.
  abbrev pub Did : L → Option Request → List Event → Option (List ℕ) → Option (List ℕ) → Result ⊤ (RunFault F) → Type 0
  Did layer None es before after r = (es ≡ []) × (r ≡ Err Usage) × (after ≡ before)
  Did layer (Some (requests.New names)) es before after r = Made l layer names es r × (after ≡ before)
  Did layer (Some (requests.Record out file)) es before after r = Recorded out file es r × (after ≡ before)
  Did layer (Some (requests.Defs file)) es before after r = Listed file es before after r
  Did layer (Some (requests.Links file form)) es before after r = Linked file form es before after r
  Did layer (Some (requests.Explain text)) es before after r = (es ≡ []) × Explained text before after r
  Did layer (Some (requests.Lint main adapters)) es before after r = Linted main adapters es before after r
  Did layer (Some requests.Help) es before after r = (es ≡ []) × PrintsText help_text before after r
  Did layer (Some requests.Version) es before after r = (es ≡ []) × PrintsText version_line before after r

  -- What was asked for was done, and this was the end of it: these events happened, each refusal of
  -- the device was reported.
  pub record Performed (layer : L) (request : Option Request) (before after : Option (List Event)) (out_before out_after : Option (List ℕ)) (ended : Result ⊤ (RunFault F)) : Type 0 where
    pub events : List Event
    pub happened : after ≡ happen before events
    pub did : Did layer request events out_before out_after ended
    pub counted : device_faults events ≡ reported_faults ended

  -- A run on these words, with the history of the store before and after, what the two writers held
  -- before and after, and the exit status.
  pub record Ran (layer : L) (words : List (List ℕ)) (before after : Option (List Event)) (out_before out_after said_before said_after : Option (List ℕ)) (status : ℕ) : Type 0 where
    pub ended : Result ⊤ (RunFault F)
    pub performed : Performed layer (request_of words) before after out_before out_after ended
    pub exit_status : status ≡ status_of ended
    pub reported : Reported (memory_line_of (is_listing (request_of words))) said_before said_after ended
