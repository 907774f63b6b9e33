-- The numbers of the task hooks, as they are passed to the hook function, and the hooks round each function that is
-- wrapped (this project's own).
use Rattle.std.specs.Prelude.{ℕ, Option, Some, None}
use Rattle.core_runs.specs.declared.bracket.TaskHook.{TaskHook}
use Rattle.core_runs.specs.declared.bracket.TaskHook.TheVariants.{SyncStart, SyncFinish, AsyncStart, AsyncResume, AsyncBlock, AsyncFinish, InitializeStart, InitializeFinish, ResourceDtorStart, ResourceDtorFinish, ReallocStart, ReallocFinish}
use Rattle.core_runs.specs.declared.bracket.AfterHook.{AfterHook}
use Rattle.core_runs.specs.declared.bracket.AfterHook.TheVariants.{Nothing, Always, ByStatus}
use Rattle.core_runs.specs.declared.bracket.Bracket.{Bracket}
use Rattle.core_runs.specs.declared.bracket.Bracketed.{Bracketed}
use Rattle.core_runs.specs.declared.bracket.Bracketed.TheVariants.{SyncEntry, SyncEntryWithPostReturn, PostReturn, AsyncEntryWithCallback, Callback, StackfulEntry, Destructor, Realloc}

abbrev pub hook_number : TaskHook → ℕ
hook_number SyncStart = 0
hook_number SyncFinish = 1
hook_number AsyncStart = 2
hook_number AsyncResume = 3
hook_number AsyncBlock = 4
hook_number AsyncFinish = 5
hook_number InitializeStart = 6
hook_number InitializeFinish = 7
hook_number ResourceDtorStart = 8
hook_number ResourceDtorFinish = 9
hook_number ReallocStart = 12
hook_number ReallocFinish = 13

abbrev pub around : Option TaskHook → AfterHook → Bracket
around before after = record { before = before; after = after }

-- A task begins at its entry; it ends with the entry, or with the post-return where there is one, or where a code says
-- so.
abbrev pub bracket_of : Bracketed → Bracket
bracket_of SyncEntry = around (Some SyncStart) (Always SyncFinish)
bracket_of SyncEntryWithPostReturn = around (Some SyncStart) Nothing
bracket_of PostReturn = around None (Always SyncFinish)
bracket_of AsyncEntryWithCallback = around (Some AsyncStart) ByStatus
bracket_of Callback = around (Some AsyncResume) ByStatus
bracket_of StackfulEntry = around (Some AsyncStart) (Always AsyncFinish)
bracket_of Destructor = around (Some ResourceDtorStart) (Always ResourceDtorFinish)
bracket_of Realloc = around (Some ReallocStart) (Always ReallocFinish)
