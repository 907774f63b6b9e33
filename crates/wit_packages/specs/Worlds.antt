-- A world from its declarations. Component model, binary format: `componenttype`.
use Rattle.std.specs.Prelude.{◌≡◌, ℕ, suc, List, [], ◌∷◌, Result, Ok, Err}
use Rattle.record_values.specs.declared.world.Wit.{Wit}
use Rattle.package_syntax.specs.declared.syntax.Declaration.{Declaration}
use Rattle.wit_packages.specs.declared.fault.Lack.{Lack}
use Rattle.wit_packages.specs.declared.fault.Wrong.{Wrong}
use Rattle.wit_packages.specs.declared.fault.PackageFault.{PackageFault}
use Rattle.wit_packages.specs.declared.fault.PackageFault.TheVariants as faults
use Rattle.wit_packages.specs.declared.state.State.{State}
use Rattle.wit_packages.specs.Steps.{Step, declaration_step}

-- a value, or the fault, which is never out of memory
abbrev pub Read : Type 0 → Type 0
Read A = Result A PackageFault

infixl 10 ◌>->◌
abbrev pub ◌>->◌ : {A B : Type 0} → Read A → (A → Read B) → Read B
(Ok x) >-> f = f x
(Err e) >-> f = Err e

-- The result of a function, as a view, is that of the definition, unless it is out of memory.
abbrev pub Fails : {Y : Type 0} → PackageFault → Read Y → Type 0
Fails faults.Memory read = Unit {0}
Fails (faults.Syntax r) read = read ≡ Err (faults.Syntax r)
Fails (faults.Sections l) read = read ≡ Err (faults.Sections l)
Fails (faults.Declaration n w) read = read ≡ Err (faults.Declaration n w)

abbrev pub Gives : {X Y : Type 0} → (X → Y) → Result X PackageFault → Read Y → Type 0
Gives view (Ok x) read = read ≡ Ok (view x)
Gives view (Err e) read = Fails e read

abbrev pub at_declaration : {A : Type 0} → ℕ → Step A → Read A
at_declaration n (Ok x) = Ok x
at_declaration n (Err w) = Err (faults.Declaration n w)

-- declarations after these; the first of them is at this position
abbrev pub declarations_from : ℕ → List Declaration → State → Read State
declarations_from n [] s = Ok s
declarations_from n (d ∷ ds) s = at_declaration n (declaration_step s d) >-> λ t. declarations_from (suc n) ds t

abbrev pub empty : State
empty = record { scope = []; instances = []; interfaces = []; imports = []; exports = [] }

abbrev pub wit : State → Wit
wit s = record { interfaces = s.interfaces; imports = s.imports; exports = s.exports }

unfoldable pub world_of : List Declaration → Read Wit
world_of ds = declarations_from 0 ds empty >-> λ s. Ok (wit s)
