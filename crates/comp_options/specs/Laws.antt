-- What the sets of lifting and of lowering have in common (Canonical ABI: only lowering allocates).
use Rattle.std.specs.Prelude.{◌≡◌, ℕ, List}
use Rattle.comp_options.specs.declared.required.Direction.TheVariants.{Lift, Lower}
use Rattle.comp_options.specs.Options.{needs, with_if, pass_all, memory_bit, realloc_bit}

-- from no options, lowering needs what lifting needs, and a realloc exactly where that needs a memory
abbrev pub LoweringAddsRealloc : Type 0
LoweringAddsRealloc = (contents : List ℕ) → pass_all Lower contents 0 ≡ with_if (needs (pass_all Lift contents 0) memory_bit) realloc_bit (pass_all Lift contents 0)
