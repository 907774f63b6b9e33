-- What is found in a table of names that gets a new entry.
use Rattle.std.proofs.Common.{◌≡◌, ◌∙◌, ℕ, List, [], ◌∷◌, ◌++◌, sym, ap, subst, append-nil, IsSome, Some, inl, inr}
use Rattle.std.specs.Str.{bytes_eq}
use Rattle.comp_lists.specs.Found.{found}
use Rattle.comp_lists.specs.Tables.{with_first}
use Rattle.comp_lists.proofs.Lookups.{found-push_cases, found-with_first, found-pushed, IsSome-found-append}
use Rattle.comp_bytes.specs.declared.def.Def.{Def}
use Rattle.comp_worlds.specs.declared.world.ComponentWorld.{ComponentWorld}
use Rattle.comp_items.proofs.Kept.{Longer, imported_function-kept}
use Rattle.root_imports.specs.Imports.{IsRootImport, FindsImports, FindsMore}

-- an entry that is added only where its name has none is found as if it were appended
found_first : (t k : List ℕ) (v : ℕ) (names : List (List ℕ × ℕ)) → found t (with_first bytes_eq names k v) ≡ found t (names ++ (k, v) ∷ [])
found_first t k v names = ap (found t) (sym (append-nil (with_first bytes_eq names k v))) ∙ found-with_first t k v names []

-- an imported function is added
pub finds_imported : {w : ComponentWorld} {ds : List Def} (names new : List (List ℕ × ℕ)) (k : List ℕ) (v : ℕ) → new ≡ with_first bytes_eq names k v → FindsImports w ds names → IsRootImport w ds v k →
    FindsImports w ds new
finds_imported {w} {ds} names new k v pushed h here = record {
  each = λ t i e. elim (found-push_cases t k v names i (sym (found_first t k v names) ∙ subst (λ l. found t l ≡ Some i) pushed e)) [
    | inl before ↦ h.each t i before
    | inr p ↦ subst (λ s. IsRootImport w ds i s) (sym p.0) (subst (λ n. IsRootImport w ds n k) p.1 here)
  ];
}

-- adding an entry loses none
pub finds_more : (names new : List (List ℕ × ℕ)) (k : List ℕ) (v : ℕ) → new ≡ with_first bytes_eq names k v → FindsMore names new
finds_more names new k v pushed = record {
  each = λ t h. subst (λ l. IsSome (found t l)) (sym pushed) (subst (λ o. IsSome o) (sym (found_first t k v names)) (IsSome-found-append t names ((k, v) ∷ []) h));
}

-- an entry that was added is found, or one before it
pub finds_added : (names new : List (List ℕ × ℕ)) (k : List ℕ) (v : ℕ) → new ≡ with_first bytes_eq names k v → IsSome (found k new)
finds_added names new k v pushed = subst (λ l. IsSome (found k l)) (sym pushed) (subst (λ o. IsSome o) (sym (found_first k k v names)) (found-pushed k v names))

pub finds_same : (names : List (List ℕ × ℕ)) → FindsMore names names
finds_same names = record { each = λ t h. h }

-- a longer list of definitions has the functions that an earlier one has
pub FindsImports-kept : {w : ComponentWorld} {old new : List Def} {functions : List (List ℕ × ℕ)} → Longer old new → FindsImports w old functions → FindsImports w new functions
FindsImports-kept g h = record {
  each = λ t i e. let r = h.each t i e in record { origin = r.origin; type = r.type; of = r.of; typed = r.typed; is = imported_function-kept g r.is };
}
