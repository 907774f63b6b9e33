-- What one definition more makes of the root.
use Rattle.std.proofs.Common.{◌≡◌, ◌∙◌, ◌+◌, arith, length-append, ℕ, List, [], ◌∷◌, ◌++◌, length, map, sym, ap, subst, None, Result, Ok, Err}
use Rattle.std.specs.Prelude.{IfOk, get_or}
use Rattle.std.proofs.lemmas.List.{map-append}
use Rattle.std.proofs.Math.Seq.{get_or-append_seam}
use Rattle.byte_encoding.specs.declared.fault.BuildFault.{BuildFault}
use Rattle.comp_bytes.specs.declared.def.Def.{Def}
use Rattle.comp_bytes.specs.declared.space.Space.{Space}
use Rattle.comp_bytes.specs.declared.space.Space.TheVariants as spaces
use Rattle.comp_builder.specs.Built.{Built, Adds}
use Rattle.comp_trees.specs.DefinedTrees.{TypeTree, OfOthers}
use Rattle.comp_trees.specs.DefinedScopes.{Denotes}
use Rattle.comp_inventories.specs.Inventories.{Inventory, TypeEntry, Denoting, entry_tree, types_made, inventory, scope_of}
use Rattle.comp_inventories.proofs.Inventories.{inventory-push}
use Rattle.comp_inventories.proofs.InventoryGrowth.{scope_counted}
use Rattle.comp_worlds.specs.declared.world.ComponentWorld.{ComponentWorld}
use Rattle.comp_terms.specs.Rules.{IsRight, landmarks, Grows}
use Rattle.comp_items.proofs.Extending.{extends_adds}
use Rattle.wit_types.specs.Denoting.{AddsOne, Makes}
use Rattle.root_imports.specs.RootScopes.{RootGrows}
use Rattle.root_imports.specs.Growing.{Grows-by, root_same}
use Rattle.root_imports.proofs.Growth.{scope_longer}

scope_made : (ds : List Def) (d : Def) (e : TypeEntry) → types_made (inventory ds) d ≡ e ∷ [] → scope_of (ds ++ d ∷ []) ≡ scope_of ds ++ entry_tree e ∷ []
scope_made ds d e made =
    ap (map entry_tree) (ap (λ (v : Inventory). v.types) (inventory-push ds d) ∙ ap (λ l. (inventory ds).types ++ l) made) ∙ map-append entry_tree (inventory ds).types (e ∷ [])

last_is : (scope : List TypeTree) (x t : TypeTree) (index : ℕ) → index ≡ length scope → Denotes (scope ++ x ∷ []) index t → x ≡ t
last_is scope x t index at h = sym (get_or-append_seam scope x [] OfOthers) ∙ (ap (λ k. get_or (scope ++ x ∷ []) k OfOthers) (sym at) ∙ h.tree)

-- a definition that makes one type adds the type that its index denotes
pub one_added : (old new : Built) (index : ℕ) (d : Def) (e : TypeEntry) (t : TypeTree) → types_made (inventory old.defs) d ≡ e ∷ [] → Adds old new (Ok index) spaces.Type d None → Denotes (scope_of new.defs) index t → AddsOne (scope_of old.defs) (scope_of new.defs) t
one_added old new index d e t made adds denotes =
    let scope : scope_of new.defs ≡ scope_of old.defs ++ entry_tree e ∷ [] = ap (λ (b : Built). scope_of b.defs) adds.1 ∙ scope_made old.defs d e made in
    let same : entry_tree e ≡ t = last_is (scope_of old.defs) (entry_tree e) t index (adds.0 ∙ sym (scope_counted old.defs)) (subst (λ ts. Denotes ts index t) scope denotes) in
    record { added = scope ∙ ap (λ x. scope_of old.defs ++ x ∷ []) same }

pub makes_added : (old new : Built) (result : Result ℕ BuildFault) (d : Def) (e : TypeEntry) (t : TypeTree) → types_made (inventory old.defs) d ≡ e ∷ [] → Adds old new result spaces.Type d None → IfOk result (λ index. Denotes (scope_of new.defs) index t) → Makes (scope_of old.defs) (scope_of new.defs) result t
makes_added old new (Ok index) d e t made adds denotes = (one_added old new index d e t made adds denotes, denotes)
makes_added old new (Err x) d e t made adds denotes = scope_longer old new (extends_adds old new (Err x) spaces.Type d None adds)

pub root_added : (w : ComponentWorld) (old new : Built) (result : Result ℕ BuildFault) (s : Space) (d : Def) → landmarks (d ∷ []) ≡ [] → IsRight w old.defs d → Adds old new result s d None → RootGrows w old new
root_added w old new (Ok index) s d unmarked right adds = record {
  extends = extends_adds old new (Ok index) s d None adds;
  grows = subst (λ m. Grows w old.defs new.defs m) unmarked (Grows-by d (ap (λ (b : Built). b.defs) adds.1) right);
}
root_added w old new (Err e) s d unmarked right adds = subst (λ b. RootGrows w old b) (sym adds.0) (root_same w old)

-- a definition that makes one type, of which it is known what it denotes
pub one_made : (old new : Built) (index : ℕ) (d : Def) (t : TypeTree) → types_made (inventory old.defs) d ≡ Denoting t ∷ [] → Adds old new (Ok index) spaces.Type d None → AddsOne (scope_of old.defs) (scope_of new.defs) t × Denotes (scope_of new.defs) index t
one_made old new index d t made adds =
    let scope : scope_of new.defs ≡ scope_of old.defs ++ t ∷ [] = ap (λ (b : Built). scope_of b.defs) adds.1 ∙ scope_made old.defs d (Denoting t) made in
    let at : index ≡ length (scope_of old.defs) = adds.0 ∙ sym (scope_counted old.defs) in (
      record { added = scope },
      subst (λ ts. Denotes ts index t) (sym scope)
          (record {
            within = let l : length (scope_of old.defs ++ t ∷ []) ≡ length (scope_of old.defs) + 1 = length-append (scope_of old.defs) (t ∷ []) in omega (arith, at, l);
            tree = ap (λ k. get_or (scope_of old.defs ++ t ∷ []) k OfOthers) at ∙ get_or-append_seam (scope_of old.defs) t [] OfOthers;
          }),
    )
