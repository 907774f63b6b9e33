-- Bytes encode at most one list of definitions: first of items, and so of definitions, a nested component among them.
use Rattle.std.proofs.Common.{◌≡◌, ℕ, List, ◌++◌, true, false, Option, Some, sym, ap, ◌∙◌}
use Rattle.comp_bytes.specs.Sections.{shares}
use Rattle.comp_bytes.specs.Grammar.{item, definition}
use Rattle.comp_bytes.specs.Laws.{OneList}
use Rattle.comp_bytes.specs.declared.def.Item.{Item}
use Rattle.comp_bytes.specs.declared.def.Item.TheVariants as items
use Rattle.comp_bytes.specs.declared.def.Def.{Def}
use Rattle.comp_bytes.specs.declared.def.Def.TheVariants as defs
use Rattle.byte_encoding.proofs.Readers.{Read}
use Rattle.comp_bytes.proofs.ItemReaders.{item_from, item_again, whole_from, whole_again}
use Rattle.comp_bytes.proofs.Groups.{OneEntry, component_one}

item_shared : (x y : Item) (u v : List ℕ) → (item x).id ≡ (item y).id → shares (item x).id ≡ true → (item x).text.bytes ++ u ≡ (item y).text.bytes ++ v → (x ≡ y) × (u ≡ v)
item_shared x y u v p s e =
    let same : ◌≡◌ {A = Read Item} (Some (x, u)) (Some (y, v)) = sym (item_again x u s) ∙ ap (item_from (item x).id) e ∙ ap (λ i. item_from i ((item y).text.bytes ++ v)) p ∙ item_again y v (ap shares (sym p) ∙ s) in
    let pair : ◌≡◌ {A = Item × List ℕ} (x, u) (y, v) = cc in
    (ap (λ p. p.0) pair, ap (λ p. p.1) pair)

item_whole : (x y : Item) → (item x).id ≡ (item y).id → shares (item x).id ≡ false → (item x).text.bytes ≡ (item y).text.bytes → x ≡ y
item_whole x y p s e =
    let same : ◌≡◌ {A = Option Item} (Some x) (Some y) = sym (whole_again x s) ∙ ap (whole_from (item x).id) e ∙ ap (λ i. whole_from i (item y).text.bytes) p ∙ whole_again y (ap shares (sym p) ∙ s) in
    cc

item_one : OneEntry item
item_one = record { shared = item_shared; whole = item_whole }

-- no item is in a section of components
no_component : (i : Item) → (item i).id ≡ 4 → ⊥
no_component (items.CoreModule bytes) p = cc
no_component (items.CoreInstantiate made_of args) p = cc
no_component (items.CoreExports entries) p = cc
no_component (items.Instantiate made_of args) p = cc
no_component (items.Alias a) p = cc
no_component (items.Type t) p = cc
no_component (items.InstanceType t) p = cc
no_component (items.Lift func options ty) p = cc
no_component (items.Lower func options) p = cc
no_component (items.Intrinsic i) p = cc
no_component (items.Import name description) p = cc
no_component (items.Export name sort index description) p = cc
no_component (items.Custom name contents) p = cc

definition_shared : (x y : Def) (u v : List ℕ) → (definition x).id ≡ (definition y).id → shares (definition x).id ≡ true → (definition x).text.bytes ++ u ≡ (definition y).text.bytes ++ v → (x ≡ y) × (u ≡ v)
definition_shared (defs.Item i) (defs.Item j) u v p s e =
    let r = item_shared i j u v p s e in
    (ap (λ z. defs.Item z) r.0, r.1)
definition_shared (defs.Item i) (defs.Component b) u v p s e = absurd (no_component i p)
definition_shared (defs.Component a) (defs.Item j) u v p s e = absurd (no_component j (sym p))
definition_shared (defs.Component a) (defs.Component b) u v p s e = cc

definition_whole : (x y : Def) → (definition x).id ≡ (definition y).id → shares (definition x).id ≡ false → (definition x).text.bytes ≡ (definition y).text.bytes → x ≡ y
definition_whole (defs.Item i) (defs.Item j) p s e = ap (λ z. defs.Item z) (item_whole i j p s e)
definition_whole (defs.Item i) (defs.Component b) p s e = absurd (no_component i p)
definition_whole (defs.Component a) (defs.Item j) p s e = absurd (no_component j (sym p))
definition_whole (defs.Component a) (defs.Component b) p s e = ap (λ z. defs.Component z) (component_one item item_one a b e)

definition_one : OneEntry definition
definition_one = record { shared = definition_shared; whole = definition_whole }

-- Bytes encode at most one list of definitions.
pub one_list : OneList
one_list bytes a b p q = component_one definition definition_one a b (sym p.1 ∙ q.1)
