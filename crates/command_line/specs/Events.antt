-- What a program did with its files. (The program's own: no standard speaks of it.)
use Rattle.std.specs.Prelude.{ℕ, ◌+◌, List, [], ◌∷◌, ◌++◌, ⊤, Option, option_map, Result, Ok, Err}
use Rattle.std.specs.Global.{Vec}
use Rattle.atomic_files.specs.Files.{Node, with_node, Are}
use Rattle.atomic_files.specs.Steps.{Kept, put_node}
use Rattle.command_line.specs.declared.store.Event.{Event}
use Rattle.command_line.specs.declared.store.Event.TheVariants.{Read, NotRead, Put, NotPut}
use Rattle.command_line.specs.declared.store.StoreFault.{StoreFault}
use Rattle.command_line.specs.declared.store.StoreFault.TheVariants.{Device, Memory}

-- the events of a read's result: none, where memory was refused
abbrev pub events_of_read : List ℕ → Result (Vec ℕ) StoreFault → List Event
events_of_read name (Ok v) = Read name v.items ∷ []
events_of_read name (Err Device) = NotRead name ∷ []
events_of_read name (Err Memory) = []

-- the events of a put's result
abbrev pub events_of_put : List ℕ → List ℕ → Result ⊤ StoreFault → List Event
events_of_put name bytes (Ok x) = Put name bytes ∷ []
events_of_put name bytes (Err Device) = NotPut name bytes ∷ []
events_of_put name bytes (Err Memory) = []

-- with these events added, where the events are known
abbrev pub happen : Option (List Event) → List Event → Option (List Event)
happen known es = option_map (λ before. before ++ es) known

-- What a put leaves: the name has the bytes, and nothing else is changed; or what is there is unchanged.
abbrev pub StorePut : List ℕ → List ℕ → Result ⊤ StoreFault → (List ℕ → Node) → (List ℕ → Node) → Type 0
StorePut name bytes (Ok x) before after = Are after (with_node before name (put_node (before name) bytes))
StorePut name bytes (Err f) before after = Kept before after

-- 1 where the device refused
abbrev pub device_fault : Event → ℕ
device_fault (NotRead name) = 1
device_fault (NotPut name bytes) = 1
device_fault _ = 0

-- how often the device refused
abbrev pub device_faults : List Event → ℕ
device_faults [] = 0
device_faults (e ∷ es) = device_fault e + device_faults es
