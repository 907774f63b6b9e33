-- Steps that may be refused, and that change a state.
use Rattle.std.specs.Prelude.{◌≡◌, ◌≢◌, ⊤, Bool, List, [], ◌∷◌, ◌++◌, is_some, Result, Ok, Err, if◌then◌else◌}
use Rattle.std.specs.Map.{lookup}
use Rattle.json_paths.specs.declared.fault.Failure.{Failure}
use Rattle.json_paths.specs.declared.fault.Failure.TheVariants as failures
use Rattle.json_paths.specs.Reading.{here}

-- a name refers to nothing; no path in a text can be reported for it
abbrev pub nowhere : Failure
nowhere = here

-- What a state became, unless memory ran out.
abbrev pub Becomes : {S : Type 0} → Result ⊤ Failure → S → Result S Failure → Type 0
Becomes (Ok x) s step = step ≡ Ok s
Becomes (Err e) s step = e ≢ failures.Memory → step ≡ Err e

-- What was made, with the new state, unless memory ran out.
abbrev pub Makes : {X S : Type 0} → Result X Failure → S → Result (X × S) Failure → Type 0
Makes (Ok x) s step = step ≡ Ok (x, s)
Makes (Err e) s step = e ≢ failures.Memory → step ≡ Err e

-- a table with one entry more, whose key it lacks
abbrev pub with_new : {K X : Type 0} → (K → K → Bool) → List (K × X) → K → X → Result (List (K × X)) Failure
with_new eq table key value = if is_some (lookup (eq key) table) then Err nowhere else Ok (table ++ (key, value) ∷ [])

-- What was made, with two new states, unless memory ran out.
abbrev pub MakesBoth : {X S T : Type 0} → Result X Failure → S → T → Result (X × S × T) Failure → Type 0
MakesBoth (Ok x) s t step = step ≡ Ok (x, s, t)
MakesBoth (Err e) s t step = e ≢ failures.Memory → step ≡ Err e
