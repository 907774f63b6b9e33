-- Why a value of JSON isn't the one that is required, and chains of steps that may be refused. (This project's own.)
use Rattle.std.specs.Prelude.{◌≡◌, ◌≢◌, Result, Ok, Err}
use Rattle.json_paths.specs.declared.fault.Failure.{Failure}
use Rattle.json_paths.specs.declared.fault.Failure.TheVariants as failures

infixl 10 ◌>>=◌
abbrev pub ◌>>=◌ : {A B : Type 0} → Result A Failure → (A → Result B Failure) → Result B Failure
(Ok x) >>= f = f x
(Err e) >>= f = Err e

-- What a function returned, as its view, is what a definition gives, unless it ran out of memory.
abbrev pub Gives : {X Y : Type 0} → (X → Y) → Result X Failure → Result Y Failure → Type 0
Gives view (Ok x) read = read ≡ Ok (view x)
Gives view (Err e) read = e ≢ failures.Memory → read ≡ Err e
