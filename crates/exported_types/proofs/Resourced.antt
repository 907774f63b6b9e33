-- How many resources a list of definitions defines, and which is the next.
use Rattle.std.proofs.Common.{◌≡◌, ◌∙◌, ◌+◌, arith, ℕ, zero, suc, Bool, true, false, List, [], ◌∷◌, ◌++◌, length, map, filter, take, Some, refl, sym, ap, append_assoc, length-append, add-zero}
use Rattle.std.specs.List.{slice_get}
use Rattle.std.proofs.lemmas.Option.{none-some, same_Some}
use Rattle.std.proofs.lemmas.List.Elements.{filter-append}
use Rattle.comp_lists.proofs.Lists.{slice_get-append, slice_get-end}
use Rattle.comp_bytes.specs.declared.def.Def.{Def}
use Rattle.comp_bytes.specs.declared.def.Def.TheVariants as defs
use Rattle.comp_bytes.specs.declared.def.Item.TheVariants as items
use Rattle.comp_bytes.specs.declared.types.TypeDef.TheVariants as types
use Rattle.comp_inventories.specs.Inventories.{Inventory, with_def, inventory_after, inventory}
use Rattle.comp_inventories.proofs.Inventories.{inventory-append}
use Rattle.comp_worlds.specs.declared.world.ComponentWorld.{ComponentWorld}
use Rattle.comp_terms.specs.Rules.{Grows, Landmark, ResourceDefined, landmarks}

abbrev pub is_defined : Landmark → Bool
is_defined ResourceDefined = true
is_defined mark = false

-- each resource is a landmark
counted : (v : Inventory) (ds : List Def) → (inventory_after v ds).resources ≡ v.resources + length (filter is_defined (landmarks ds))
counted v [] = sym (add-zero v.resources)
counted v (defs.Component inner ∷ ds) = counted (with_def v (defs.Component inner)) ds
counted v (defs.Item (items.CoreModule bytes) ∷ ds) = counted (with_def v (defs.Item (items.CoreModule bytes))) ds
counted v (defs.Item (items.CoreInstantiate number arguments) ∷ ds) = counted (with_def v (defs.Item (items.CoreInstantiate number arguments))) ds
counted v (defs.Item (items.CoreExports entries) ∷ ds) = counted (with_def v (defs.Item (items.CoreExports entries))) ds
counted v (defs.Item (items.Instantiate component arguments) ∷ ds) = counted (with_def v (defs.Item (items.Instantiate component arguments))) ds
counted v (defs.Item (items.Alias a) ∷ ds) = counted (with_def v (defs.Item (items.Alias a))) ds
counted v (defs.Item (items.Type (types.Resource destructor)) ∷ ds) = let rest = counted (with_def v (defs.Item (items.Type (types.Resource destructor)))) ds in omega (arith, rest)
counted v (defs.Item (items.Type (types.Func f)) ∷ ds) = counted (with_def v (defs.Item (items.Type (types.Func f)))) ds
counted v (defs.Item (items.Type (types.Defined t)) ∷ ds) = counted (with_def v (defs.Item (items.Type (types.Defined t)))) ds
counted v (defs.Item (items.InstanceType t) ∷ ds) = counted (with_def v (defs.Item (items.InstanceType t))) ds
counted v (defs.Item (items.Lift core options kind) ∷ ds) = counted (with_def v (defs.Item (items.Lift core options kind))) ds
counted v (defs.Item (items.Lower function options) ∷ ds) = counted (with_def v (defs.Item (items.Lower function options))) ds
counted v (defs.Item (items.Intrinsic i) ∷ ds) = counted (with_def v (defs.Item (items.Intrinsic i))) ds
counted v (defs.Item (items.Import name description) ∷ ds) = counted (with_def v (defs.Item (items.Import name description))) ds
counted v (defs.Item (items.Export name sort index description) ∷ ds) = counted (with_def v (defs.Item (items.Export name sort index description))) ds
counted v (defs.Item (items.Custom name contents) ∷ ds) = counted (with_def v (defs.Item (items.Custom name contents))) ds

none_first : (inventory []).resources ≡ 0
unfolding inventory
none_first = refl

pub resources_of : (ds : List Def) → (inventory ds).resources ≡ length (filter is_defined (landmarks ds))
resources_of ds =
    let all : (inventory ds).resources ≡ (inventory []).resources + length (filter is_defined (landmarks ds)) = ap (λ (v : Inventory). v.resources) (inventory-append [] ds) ∙ counted (inventory []) ds in
    let none = none_first in
    omega (arith, all, none)

-- a list that grew has as many resources more as its landmarks say
pub resources_grown : {w : ComponentWorld} {old new : List Def} {m : List Landmark} → Grows w old new m → (inventory new).resources ≡ (inventory old).resources + length (filter is_defined m)
resources_grown {w} {old} {new} {m} g =
    ap (λ ds. (inventory ds).resources) g.extended
    ∙ (ap (λ (v : Inventory). v.resources) (inventory-append old g.more)
    ∙ (counted (inventory old) g.more ∙ ap (λ l. (inventory old).resources + length (filter is_defined l)) g.marked))

pub resources_same : {w : ComponentWorld} {old new : List Def} → Grows w old new [] → (inventory new).resources ≡ (inventory old).resources
resources_same {w} {old} {new} g = resources_grown g ∙ add-zero (inventory old).resources

pub all_defined : {X : Type 0} (xs : List X) → length (filter is_defined (map (λ x. ResourceDefined) xs)) ≡ length xs
all_defined [] = refl
all_defined (x ∷ xs) = ap suc (all_defined xs)

-- ---- the next one

pub next_at : {X : Type 0} (all before done : List X) (t : X) (rest after : List X) (n : ℕ) → all ≡ before ++ ((done ++ t ∷ rest) ++ after) → n ≡ length before + length done → slice_get all n ≡ Some t
next_at all before done t rest after n parts count =
    let split : all ≡ ((before ++ done) ++ t ∷ []) ++ (rest ++ after) =
    parts
    ∙ (ap (λ l. before ++ l) (append_assoc done (t ∷ rest) after)
    ∙ (sym (append_assoc before done (t ∷ (rest ++ after))) ∙ sym (append_assoc (before ++ done) (t ∷ []) (rest ++ after)))) in
    let at : n ≡ length (before ++ done) = count ∙ sym (length-append before done) in
    ap (λ l. slice_get l n) split
    ∙ (ap (λ k. slice_get (((before ++ done) ++ t ∷ []) ++ (rest ++ after)) k) at
    ∙ slice_get-append ((before ++ done) ++ t ∷ []) (rest ++ after) (length (before ++ done)) t (slice_get-end (before ++ done) t))

-- a filtered list, split at one that passes
pub filtered_at : {X : Type 0} (p : X → Bool) (done : List X) (t : X) (rest : List X) → p t ≡ true → filter p (done ++ t ∷ rest) ≡ filter p done ++ t ∷ filter p rest
filtered_at p done t rest e = filter-append p done (t ∷ rest) ∙ ap (λ l. filter p done ++ l) (rw e refl)

-- a list, split at the one of a number
pub record IsSplit {X : Type 0} (xs : List X) (i : ℕ) (x : X) : Type 0 where
  pub rest : List X
  pub parts : xs ≡ take i xs ++ x ∷ rest

pub split_at : {X : Type 0} (xs : List X) (i : ℕ) (x : X) → slice_get xs i ≡ Some x → IsSplit xs i x
split_at [] i x e = absurd (none-some x e)
split_at (y ∷ ys) zero x e = record { rest = ys; parts = ap (λ z. z ∷ ys) (same_Some y x e) }
split_at (y ∷ ys) (suc i) x e = let s = split_at ys i x e in record { rest = s.rest; parts = ap (λ l. y ∷ l) s.parts }
