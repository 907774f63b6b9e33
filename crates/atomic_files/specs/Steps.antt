-- What the calls of a file system do, and what putting a file does. (The program's own.)
use Rattle.std.specs.Prelude.{◌≡◌, ◌≢◌, ℕ, List, ⊤, Result, Ok, Err, String, string_bytes}
use Rattle.std.specs.Global.{Vec}
use Rattle.atomic_files.specs.Files.{Node, Missing, Regular, Other, with_node, Are}
use Rattle.atomic_files.specs.declared.system.Kind.{Kind}
use Rattle.atomic_files.specs.declared.system.Kind.TheVariants as kinds
use Rattle.atomic_files.specs.declared.system.SystemFault.{SystemFault}
use Rattle.atomic_files.specs.declared.system.CreateFault.{CreateFault}
use Rattle.atomic_files.specs.declared.system.CreateFault.TheVariants as create_faults
use Rattle.atomic_files.specs.declared.putting.PutFault.{PutFault}
use Rattle.atomic_files.specs.declared.putting.PutFault.TheVariants as put_faults

abbrev pub kind_of : Node → Kind
kind_of Missing = kinds.Missing
kind_of (Regular bytes) = kinds.Regular
kind_of Other = kinds.Other

-- nothing is changed
abbrev pub Unchanged : (List ℕ → Node) → (List ℕ → Node) → Type 0
Unchanged before after = Are after before

-- nothing is changed, and this is what kind of thing the name names
abbrev pub Looked : List ℕ → Result Kind SystemFault → (List ℕ → Node) → (List ℕ → Node) → Type 0
Looked name (Ok kind) before after = (kind ≡ kind_of (before name)) × Are after before
Looked name (Err f) before after = Are after before

-- nothing is changed, and of a regular file all bytes were read
abbrev pub ReadsFile : {F : Type 0} → List ℕ → Result (Vec ℕ) F → (List ℕ → Node) → (List ℕ → Node) → Type 0
ReadsFile name (Ok v) before after = ((bytes : List ℕ) → before name ≡ Regular bytes → v.items ≡ bytes) × Are after before
ReadsFile name (Err f) before after = Are after before

-- what the names name is unchanged where this one names another thing than a regular file
abbrev pub WrittenTo : List ℕ → (List ℕ → Node) → (List ℕ → Node) → Type 0
WrittenTo name before after = before name ≡ Other → Are after before

-- a name that named nothing names a regular file with these bytes; or, where the write was refused,
-- with a front of them
abbrev pub Created : List ℕ → List ℕ → Result ⊤ CreateFault → (List ℕ → Node) → (List ℕ → Node) → Type 0
Created name bytes (Ok x) before after = (before name ≡ Missing) × Are after (with_node before name (Regular bytes))
Created name bytes (Err create_faults.Taken) before after = Are after before
Created name bytes (Err (create_faults.Refused f)) before after = Are after before
Created name bytes (Err (create_faults.Cut f)) before after =
    (before name ≡ Missing) × ((front : List ℕ) × Are after (with_node before name (Regular front)))

-- what the first name named is named by the second instead
abbrev pub Renamed : List ℕ → List ℕ → Result ⊤ SystemFault → (List ℕ → Node) → (List ℕ → Node) → Type 0
Renamed old new (Ok x) before after = Are after (with_node (with_node before old Missing) new (before old))
Renamed old new (Err f) before after = Are after before

-- the name names nothing
abbrev pub Removed : List ℕ → Result ⊤ SystemFault → (List ℕ → Node) → (List ℕ → Node) → Type 0
Removed name (Ok x) before after = Are after (with_node before name Missing)
Removed name (Err f) before after = Are after before

-- what a name that named this names once these bytes are put: another thing than a regular file is unchanged
abbrev pub put_node : Node → List ℕ → Node
put_node Missing bytes = Regular bytes
put_node (Regular old) bytes = Regular bytes
put_node Other bytes = Other

-- what was named before is unchanged
abbrev pub Kept : (List ℕ → Node) → (List ℕ → Node) → Type 0
Kept before after = (name : List ℕ) → before name ≢ Missing → after name ≡ before name

-- What a failed put leaves: nothing is changed, or a new file is left and nothing else is changed.
abbrev pub Undone : PutFault → (List ℕ → Node) → (List ℕ → Node) → Type 0
Undone (put_faults.Refused f) before after = Are after before
Undone (put_faults.Leftover f) before after = Kept before after

-- What a put leaves: the name has the bytes, and nothing else is changed; or it failed.
abbrev pub PutLeaves : List ℕ → List ℕ → Result ⊤ PutFault → (List ℕ → Node) → (List ℕ → Node) → Type 0
PutLeaves name bytes (Ok x) before after = Are after (with_node before name (put_node (before name) bytes))
PutLeaves name bytes (Err f) before after = Undone f before after

-- the same where a new file replaces what the name names
abbrev pub Replaced : List ℕ → List ℕ → Result ⊤ PutFault → (List ℕ → Node) → (List ℕ → Node) → Type 0
Replaced name bytes (Ok x) before after = Are after (with_node before name (Regular bytes))
Replaced name bytes (Err f) before after = Undone f before after

-- a new file has these bytes, and nothing else is changed; or that failed
abbrev pub CreatedBeside : {Y : Type 0} → List ℕ → Result (String Y) PutFault → (List ℕ → Node) → (List ℕ → Node) → Type 0
CreatedBeside bytes (Ok name) before after =
    (before (string_bytes name) ≡ Missing) × Are after (with_node before (string_bytes name) (Regular bytes))
CreatedBeside bytes (Err f) before after = Undone f before after

-- after a fault: the name names nothing, or nothing is changed and the fault says that the file is left
abbrev pub Discarded : List ℕ → PutFault → (List ℕ → Node) → (List ℕ → Node) → Type 0
Discarded name (put_faults.Refused f) before after = Are after (with_node before name Missing)
Discarded name (put_faults.Leftover f) before after = Are after before

-- what a new name named is named by the old one instead; or it was discarded
abbrev pub RenamedOver : List ℕ → List ℕ → Result ⊤ PutFault → (List ℕ → Node) → (List ℕ → Node) → Type 0
RenamedOver new name (Ok x) before after = Are after (with_node (with_node before new Missing) name (before new))
RenamedOver new name (Err f) before after = Discarded new f before after
