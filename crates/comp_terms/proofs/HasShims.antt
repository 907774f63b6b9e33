-- There is a module of shims where there is a shim, a memory that main imports, or a cell, and nowhere else.
use Rattle.std.proofs.Common.{◌≡◌, ◌<◌, ap, refl, arith, ℕ, true, false, true≢false, is_some, IsSome, List, [], ◌∷◌, length, Option, Some, None}
use Rattle.core_types.specs.declared.types.MemoryType.{MemoryType}
use Rattle.core_types.specs.declared.types.ValType.{ValType}
use Rattle.comp_worlds.specs.Bases.{cell_type}
use Rattle.comp_worlds.specs.Offered.{shared_memory}
use Rattle.comp_worlds.specs.declared.world.ComponentWorld.{ComponentWorld}
use Rattle.shim_plan.specs.declared.shims.Shim.{Shim}
use Rattle.world_shims.specs.WorldShims.{shims_of}
use Rattle.comp_terms.specs.Generated.{has_shims_in, has_shim_module}

pub has_by_shims : (w : ComponentWorld) → (shims_of w ≡ [] → ⊥) → has_shim_module w ≡ true
has_by_shims w any = by (shims_of w) any (shared_memory w) (cell_type w)
  where
    by : (ss : List Shim) → (ss ≡ [] → ⊥) → (memory : Option MemoryType) (cell : Option ValType) → has_shims_in ss memory cell ≡ true
    by [] any memory cell = absurd (any refl)
    by (s ∷ ss) any memory cell = refl

pub has_by_place : (w : ComponentWorld) (place : ℕ) → place < length (shims_of w) → has_shim_module w ≡ true
has_by_place w place listed = has_by_shims w (λ none. let count = ap (λ (l : List Shim). length l) none in omega (arith, listed, count))

pub has_by_shared : (w : ComponentWorld) → IsSome (shared_memory w) → has_shim_module w ≡ true
has_by_shared w imported = by (shims_of w) (shared_memory w) (cell_type w) imported
  where
    by : (ss : List Shim) (memory : Option MemoryType) (cell : Option ValType) → IsSome memory → has_shims_in ss memory cell ≡ true
    by [] None cell some = cc
    by [] (Some type) cell some = refl
    by (s ∷ ss) memory cell some = refl

pub has_by_memory : (w : ComponentWorld) (type : MemoryType) → shared_memory w ≡ Some type → has_shim_module w ≡ true
has_by_memory w type imported = has_by_shared w (ap is_some imported)

pub has_by_cell : (w : ComponentWorld) → IsSome (cell_type w) → has_shim_module w ≡ true
has_by_cell w there = by (shims_of w) (shared_memory w) (cell_type w) there
  where
    by : (ss : List Shim) (memory : Option MemoryType) (cell : Option ValType) → IsSome cell → has_shims_in ss memory cell ≡ true
    by [] None None some = cc
    by [] None (Some type) some = refl
    by [] (Some memory) cell some = refl
    by (s ∷ ss) memory cell some = refl

pub nothing_needed : (w : ComponentWorld) → has_shim_module w ≡ false → (shims_of w ≡ []) × (shared_memory w ≡ None) × (cell_type w ≡ None)
nothing_needed w none = by (shims_of w) (shared_memory w) (cell_type w) none
  where
    by : (ss : List Shim) (memory : Option MemoryType) (cell : Option ValType) → has_shims_in ss memory cell ≡ false → (ss ≡ []) × (memory ≡ None) × (cell ≡ None)
    by [] None None e = (refl, refl, refl)
    by [] None (Some type) e = absurd (true≢false e)
    by [] (Some memory) cell e = absurd (true≢false e)
    by (s ∷ ss) memory cell e = absurd (true≢false e)
