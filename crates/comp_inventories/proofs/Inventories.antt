-- The inventory of a list, definition by definition.
use Rattle.std.proofs.Common.{◌≡◌, List, [], ◌∷◌, ◌++◌, refl}
use Rattle.comp_bytes.specs.declared.def.Def.{Def}
use Rattle.comp_inventories.specs.Inventories.{Inventory, with_def, inventory_after, inventory, empty_inventory}

-- the inventory of no definition
pub inventory-empty : inventory [] ≡ empty_inventory
unfolding inventory
inventory-empty = refl

-- one more definition
pub inventory_after-append : (v : Inventory) (ds es : List Def) → inventory_after v (ds ++ es) ≡ inventory_after (inventory_after v ds) es
inventory_after-append v [] es = refl
inventory_after-append v (d ∷ ds) es = inventory_after-append (with_def v d) ds es

pub inventory-push : (ds : List Def) (d : Def) → inventory (ds ++ d ∷ []) ≡ with_def (inventory ds) d
unfolding inventory
inventory-push ds d = inventory_after-append empty_inventory ds (d ∷ [])

pub inventory-append : (ds es : List Def) → inventory (ds ++ es) ≡ inventory_after (inventory ds) es
unfolding inventory
inventory-append ds es = inventory_after-append empty_inventory ds es
