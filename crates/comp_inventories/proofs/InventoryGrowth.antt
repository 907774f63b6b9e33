-- A longer list keeps the entries of an inventory, and what one more definition makes.
use Rattle.std.proofs.Common.{◌≡◌, ◌∙◌, ℕ, zero, suc, List, [], ◌∷◌, ◌++◌, length, map, refl, sym, ap, append-nil, append_assoc, length-append, arith, Some}
use Rattle.std.specs.Prelude.{get_or, slice_get}
use Rattle.std.proofs.lemmas.List.{map-append}
use Rattle.std.proofs.Math.ListN.{get_or-append}
use Rattle.std.proofs.Math.Seq.{get_or-append_seam}
use Rattle.comp_lists.proofs.Lists.{slice_get-append, slice_get-end}
use Rattle.comp_bytes.specs.Spaces.{items_in}
use Rattle.comp_bytes.specs.declared.space.Space.TheVariants as spaces
use Rattle.comp_bytes.specs.declared.def.Def.{Def}
use Rattle.comp_trees.specs.DefinedTrees.{TypeTree, OfOthers}
use Rattle.comp_trees.specs.DefinedScopes.{Denotes}
use Rattle.comp_inventories.specs.Inventories.{Inventory, TypeEntry, FunctionEntry, entry_tree, types_made, functions_made, with_def, inventory_after, inventory, scope_of, no_type}
use Rattle.comp_inventories.proofs.Inventories.{inventory-append, inventory-push}
use Rattle.comp_inventories.proofs.Counting.{types-counted, functions-counted}

length-map : {A B : Type 0} (f : A → B) (xs : List A) → length (map f xs) ≡ length xs
length-map f [] = refl
length-map f (x ∷ xs) = ap suc (length-map f xs)

pub scope_counted : (ds : List Def) → length (scope_of ds) ≡ items_in spaces.Type ds
scope_counted ds = length-map entry_tree (inventory ds).types ∙ types-counted ds

-- ---- a longer list

-- what is behind a list of entries
pub record Behind {A : Type 0} (old new : List A) : Type 0 where
  pub more : List A
  pub grown : new ≡ old ++ more

pub behind_none : {A : Type 0} (xs : List A) → Behind xs xs
behind_none xs = record { more = []; grown = sym (append-nil xs) }

pub behind_then : {A : Type 0} (xs ys zs : List A) → Behind (xs ++ ys) zs → Behind xs zs
behind_then xs ys zs h = record { more = ys ++ h.more; grown = h.grown ∙ append_assoc xs ys h.more }

types_behind : (v : Inventory) (ds : List Def) → Behind v.types (inventory_after v ds).types
types_behind v [] = behind_none v.types
types_behind v (d ∷ ds) = behind_then v.types (types_made v d) (inventory_after (with_def v d) ds).types (types_behind (with_def v d) ds)

functions_behind : (v : Inventory) (ds : List Def) → Behind v.functions (inventory_after v ds).functions
functions_behind v [] = behind_none v.functions
functions_behind v (d ∷ ds) = behind_then v.functions (functions_made v d) (inventory_after (with_def v d) ds).functions (functions_behind (with_def v d) ds)

pub types_grow : (ds es : List Def) → Behind (inventory ds).types (inventory (ds ++ es)).types
types_grow ds es = rw (inventory-append ds es) (types_behind (inventory ds) es)

pub functions_grow : (ds es : List Def) → Behind (inventory ds).functions (inventory (ds ++ es)).functions
functions_grow ds es = rw (inventory-append ds es) (functions_behind (inventory ds) es)

pub scope_grows : (ds es : List Def) → Behind (scope_of ds) (scope_of (ds ++ es))
scope_grows ds es =
    let g = types_grow ds es in
    record { more = map entry_tree g.more; grown = ap (map entry_tree) g.grown ∙ map-append entry_tree (inventory ds).types g.more }

-- what an index names stays
pub function_kept : (ds es : List Def) (index : ℕ) (f : FunctionEntry) → slice_get (inventory ds).functions index ≡ Some f → slice_get (inventory (ds ++ es)).functions index ≡ Some f
function_kept ds es index f h = let g = functions_grow ds es in ap (λ l. slice_get l index) g.grown ∙ slice_get-append (inventory ds).functions g.more index f h

pub denotes_kept : (ds es : List Def) (index : ℕ) (t : TypeTree) → Denotes (scope_of ds) index t → Denotes (scope_of (ds ++ es)) index t
denotes_kept ds es index t h =
    let g = scope_grows ds es in
    let longer = ap length g.grown ∙ length-append (scope_of ds) g.more in
    let within = h.within in
    record {
      within = omega (arith, longer, within);
      tree = ap (λ l. get_or l index OfOthers) g.grown ∙ (get_or-append (scope_of ds) g.more OfOthers index h.within ∙ h.tree);
    }

-- what the entry of an index denotes
pub entry_at : (es : List TypeEntry) (index : ℕ) → entry_tree (get_or es index no_type) ≡ get_or (map entry_tree es) index OfOthers
entry_at [] index = refl
entry_at (e ∷ es) zero = refl
entry_at (e ∷ es) (suc n) = entry_at es n

-- ---- what one more definition makes

end_of : {A : Type 0} (xs : List A) (x d : A) (n : ℕ) → n ≡ length xs → get_or (xs ++ x ∷ []) n d ≡ x
end_of xs x d n e = ap (λ k. get_or (xs ++ x ∷ []) k d) e ∙ get_or-append_seam xs x [] d

-- a definition that makes this type
pub denotes_made : (ds : List Def) (d : Def) (e : TypeEntry) → types_made (inventory ds) d ≡ e ∷ [] → Denotes (scope_of (ds ++ d ∷ [])) (items_in spaces.Type ds) (entry_tree e)
denotes_made ds d e made =
    let types : (inventory (ds ++ d ∷ [])).types ≡ (inventory ds).types ++ e ∷ [] = ap (λ (v : Inventory). v.types) (inventory-push ds d) ∙ ap (λ l. (inventory ds).types ++ l) made in
    let scope : scope_of (ds ++ d ∷ []) ≡ scope_of ds ++ entry_tree e ∷ [] = ap (map entry_tree) types ∙ map-append entry_tree (inventory ds).types (e ∷ []) in
    let longer = ap length scope ∙ length-append (scope_of ds) (entry_tree e ∷ []) in
    let counted = scope_counted ds in
    record {
      within = omega (arith, longer, counted);
      tree = ap (λ l. get_or l (items_in spaces.Type ds) OfOthers) scope ∙ end_of (scope_of ds) (entry_tree e) OfOthers (items_in spaces.Type ds) (sym counted);
    }

-- a definition that makes this function
pub function_made : (ds : List Def) (d : Def) (f : FunctionEntry) → functions_made (inventory ds) d ≡ f ∷ [] → slice_get (inventory (ds ++ d ∷ [])).functions (items_in spaces.Func ds) ≡ Some f
function_made ds d f made =
    ap (λ (v : Inventory). slice_get v.functions (items_in spaces.Func ds)) (inventory-push ds d)
    ∙ (ap (λ l. slice_get ((inventory ds).functions ++ l) (items_in spaces.Func ds)) made
    ∙ (ap (λ n. slice_get ((inventory ds).functions ++ f ∷ []) n) (sym (functions-counted ds)) ∙ slice_get-end (inventory ds).functions f))
