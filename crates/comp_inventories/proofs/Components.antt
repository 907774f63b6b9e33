-- The nested component of an index is the one that was defined there.
use Rattle.std.proofs.Common.{◌≡◌, ◌∙◌, ◌+◌, ℕ, zero, suc, Bool, true, false, List, [], ◌∷◌, ◌++◌, length, refl, sym, ap, subst, zero-add, length-append, arith, Some, cond, if◌then◌else◌}
use Rattle.std.specs.Prelude.{slice_get}
use Rattle.std.proofs.lemmas.Option.{none-some, same_Some}
use Rattle.comp_lists.proofs.Lists.{slice_get-append, slice_get-end}
use Rattle.comp_bytes.specs.ItemIndices.{in_space, IsAt}
use Rattle.comp_bytes.specs.Spaces.{is_space, space_of}
use Rattle.comp_bytes.specs.declared.space.Space.TheVariants as spaces
use Rattle.comp_bytes.specs.declared.def.Item.{Item}
use Rattle.comp_bytes.specs.declared.def.Def.{Def}
use Rattle.comp_bytes.specs.declared.def.Def.TheVariants as defs
use Rattle.comp_inventories.specs.Inventories.{Inventory, components_made, with_def, inventory_after, inventory, empty_inventory}
use Rattle.comp_inventories.proofs.Counting.{one_component}
use Rattle.comp_inventories.proofs.InventoryGrowth.{Behind, behind_none, behind_then}

components_behind : (v : Inventory) (ds : List Def) → Behind v.components (inventory_after v ds).components
components_behind v [] = behind_none v.components
components_behind v (d ∷ ds) = behind_then v.components (components_made v d) (inventory_after (with_def v d) ds).components (components_behind (with_def v d) ds)

-- the first that is defined
at_front : (v : Inventory) (d : Def) (ds : List Def) (inner : List Item) → d ≡ defs.Component inner → slice_get (inventory_after (with_def v d) ds).components (length v.components) ≡ Some inner
at_front v d ds inner e =
    subst (λ x. slice_get (inventory_after (with_def v x) ds).components (length v.components) ≡ Some inner) (sym e)
    (let g = components_behind (with_def v (defs.Component inner)) ds in
    ap (λ l. slice_get l (length v.components)) g.grown ∙ slice_get-append (v.components ++ inner ∷ []) g.more (length v.components) inner (slice_get-end v.components inner))

component_after : (v : Inventory) (ds : List Def) (k : ℕ) (inner : List Item) → slice_get (in_space spaces.Component ds) k ≡ Some (defs.Component inner) →
    slice_get (inventory_after v ds).components (length v.components + k) ≡ Some inner
component_after v [] k inner h = absurd (none-some (defs.Component inner) h)
component_after v (d ∷ ds) k inner h =
    by (λ m e. component_after (with_def v d) ds m inner e) (is_space spaces.Component (space_of d)) refl k h
  where
    all : List (List Item)
    all = (inventory_after (with_def v d) ds).components

    Later : Type 0
    Later = (m : ℕ) → slice_get (in_space spaces.Component ds) m ≡ Some (defs.Component inner) → slice_get all (length (v.components ++ components_made v d) + m) ≡ Some inner

    counted : (b : Bool) → is_space spaces.Component (space_of d) ≡ b → length (v.components ++ components_made v d) ≡ length v.components + cond b 1 0
    counted b p = length-append v.components (components_made v d) ∙ (ap (λ n. length v.components + n) (one_component v d) ∙ ap (λ b. length v.components + cond b 1 0) p)

    by : Later → (b : Bool) → is_space spaces.Component (space_of d) ≡ b → (k : ℕ) → slice_get (if b then d ∷ in_space spaces.Component ds else in_space spaces.Component ds) k ≡ Some (defs.Component inner) →
        slice_get all (length v.components + k) ≡ Some inner
    by rest true p zero e =
        let same : length v.components ≡ length v.components + 0 = omega arith in
        subst (λ i. slice_get all i ≡ Some inner) same (at_front v d ds inner (same_Some d (defs.Component inner) e))
    by rest true p (suc k) e =
        let n : length (v.components ++ components_made v d) ≡ length v.components + 1 = counted true p in
        let same : length (v.components ++ components_made v d) + k ≡ length v.components + suc k = omega (arith, n) in
        subst (λ i. slice_get all i ≡ Some inner) same (rest k e)
    by rest false p k e =
        let n : length (v.components ++ components_made v d) ≡ length v.components + 0 = counted false p in
        let same : length (v.components ++ components_made v d) + k ≡ length v.components + k = omega (arith, n) in
        subst (λ i. slice_get all i ≡ Some inner) same (rest k e)

pub component_at : (ds : List Def) (index : ℕ) (inner : List Item) → IsAt ds spaces.Component index (defs.Component inner) → slice_get (inventory ds).components index ≡ Some inner
unfolding inventory
component_at ds index inner h = ap (λ i. slice_get (inventory_after empty_inventory ds).components i) (sym (zero-add index)) ∙ component_after empty_inventory ds index inner h.made
