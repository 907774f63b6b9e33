-- An entry that was added last is removed.
use Rattle.std.proofs.Common.{◌≡◌, ◌∙◌, ◌+◌, ◌-◌, ◌<◌, arith, ℕ, suc, Bool, true, false, not, List, [], ◌∷◌, ◌++◌, length, take, refl, ap, subst, sym, Option, Some, None, cond, nat_lt, lt-ltb, position, slice_set, slice_index_or, swap_remove}
use Rattle.std.specs.List.{position_or_len}
use Rattle.std.specs.Map.{keys_of, lookup}
use Rattle.std.specs.Str.{bytes_eq}
use Rattle.std.proofs.lemmas.List.{length-append}
use Rattle.std.proofs.lemmas.Slice.Eq.{bytes_eq-Decides}
use Rattle.wit_data.specs.declared.ids.TypeId.{TypeId}
use Rattle.comp_bytes.specs.declared.def.Item.{Item}
use Rattle.indexmap.specs.IndexMap.{swap_remove_entry}
use Rattle.indexmap.proofs.MapLemmas.{swap_remove_entry-found}
use Rattle.nested_components.specs.declared.contents.Contents.{Contents}
use Rattle.nested_components.specs.declared.type_import.TypeImport.{TypeImport}

last_is_left : {X : Type 0} (xs : List X) (x y : X) → take (length xs) (slice_set (xs ++ x ∷ []) (length xs) y) ≡ xs
last_is_left [] x y = refl
last_is_left (z ∷ zs) x y = ap (λ l. z ∷ l) (last_is_left zs x y)

last_swapped : {X : Type 0} (xs : List X) (x d : X) → swap_remove (xs ++ x ∷ []) (length xs) d ≡ xs
last_swapped xs x d =
    let all = xs ++ x ∷ [] in
    let one : length all - 1 ≡ length xs = omega (arith, length-append xs (x ∷ [])) in
    ap (λ n. take n (slice_set all (length xs) (slice_index_or all (length all - 1) d))) one ∙ last_is_left xs x (slice_index_or all (length all - 1) d)

length_keys : {X : Type 0} (es : List (List ℕ × X)) → length (keys_of es) ≡ length es
length_keys [] = refl
length_keys (e ∷ es) = ap suc (length_keys es)

module _ {X : Type 0} (name : List ℕ) (x : X) where
  -- where no entry has the name, the new one is the first that has it
  comes_last : (es : List (List ℕ × X)) → lookup (bytes_eq name) es ≡ None → position_or_len (bytes_eq name) (keys_of (es ++ (name, x) ∷ [])) ≡ length es
  comes_last [] e = ap (λ b. cond (not b) (1 + 0) 0) ((bytes_eq-Decides name name).1 refl)
  comes_last ((n, y) ∷ es) e = by (bytes_eq name n) (comes_last es) e
    where
      by : (b : Bool) → (lookup (bytes_eq name) es ≡ None → position_or_len (bytes_eq name) (keys_of (es ++ (name, x) ∷ [])) ≡ length es) → cond b (Some y) (lookup (bytes_eq name) es) ≡ None →
          cond (not b) (1 + position_or_len (bytes_eq name) (keys_of (es ++ (name, x) ∷ []))) 0 ≡ suc (length es)
      by true rest none = cc
      by false rest none = ap (λ k. 1 + k) (rest none) ∙ omega arith

  is_last : (es : List (List ℕ × X)) → lookup (bytes_eq name) es ≡ None → position (bytes_eq name) (keys_of (es ++ (name, x) ∷ [])) ≡ Some (length es)
  is_last es none =
      let all = es ++ (name, x) ∷ [] in
      let within : length es < length (keys_of all) = omega (arith, length_keys all, length-append es ((name, x) ∷ [])) in
      ap (λ k. cond (nat_lt k (length (keys_of all))) (Some k) None) (comes_last es none) ∙ ap (λ b. cond b (Some (length es)) None) (lt-ltb (length es) (length (keys_of all)) within)

  pub last_removed : (es : List (List ℕ × X)) → lookup (bytes_eq name) es ≡ None → swap_remove_entry (bytes_eq name) (es ++ (name, x) ∷ []) ≡ es
  last_removed es none = swap_remove_entry-found (bytes_eq name) (es ++ (name, x) ∷ []) (length es) (name, x) (is_last es none) ∙ last_swapped es (name, x) (name, x)

-- all is as it was
pub put_back : (old : Contents) (is : List Item) (ts : List TypeImport) (taken : List (List ℕ × Option TypeId)) → is ≡ old.items → ts ≡ old.types → taken ≡ old.taken → record { items = is; taken = taken; types = ts } ≡ old
put_back old is ts taken a b c =
    subst (λ (xs : List Item). record { items = xs; taken = taken; types = ts } ≡ old) (sym a)
    (subst (λ (us : List TypeImport). record { items = old.items; taken = taken; types = us } ≡ old) (sym b)
    (subst (λ (es : List (List ℕ × Option TypeId)). record { items = old.items; taken = es; types = old.types } ≡ old) (sym c) refl))
