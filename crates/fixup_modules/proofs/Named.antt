-- Imports by name: which one is found, and what is before it.
use Rattle.std.proofs.Common.{◌≡◌, ◌∙◌, ◌+◌, ℕ, suc, Bool, true, false, ◌||◌, ◌&&◌, not, List, [], ◌∷◌, ◌++◌, take, Some, None, refl, sym, ap, true≢false, cond, if◌then◌else◌, append-nil, arith, rules}
use Rattle.std.specs.List.{list_any, position_or_len, before_first, find}
use Rattle.std.specs.Str.{bytes_eq}
use Rattle.std.proofs.lemmas.Slice.Eq.{bytes_eq-Decides}
use Rattle.comp_lists.specs.Tables.{with_first}
use Rattle.core_bytes.specs.declared.entity.EntityType.{EntityType}
use Rattle.core_bytes.specs.declared.entry.Import.{Import}
use Rattle.fixup_modules.specs.declared.instances.ImportedInstance.{ImportedInstance}
use Rattle.fixup_modules.specs.Instances.{instance_name}
use Rattle.fixup_modules.specs.Imports.{Imported, is_item, is_named, entry_of, has_import, with_import, import_index, kind_of, count_of, MayImport}

pub both : (a b : Bool) → (a && b) ≡ true → (a ≡ true) × (b ≡ true)
both true b e = (refl, e)
both false b e = absurd (true≢false (sym e))

-- items that are equal are one
pub one_item : (x y : EntityType) → is_item x y ≡ true → x ≡ y
one_item x y e = search rules

-- where an item of a list passes a test, the list is what is before the first such item, that item, and others
pub record Found {X : Type 0} (p : X → Bool) (xs : List X) : Type 0 where
  pub item : X
  pub after : List X
  pub whole : xs ≡ before_first p xs ++ item ∷ after
  pub passes : p item ≡ true
  pub first : find p xs ≡ Some item

before_more : {X : Type 0} (x : X) (xs : List X) (n : ℕ) → take (1 + n) (x ∷ xs) ≡ x ∷ take n xs
before_more x xs n = let e : 1 + n ≡ suc n = omega arith in ap (λ k. take k (x ∷ xs)) e

pub found_first : {X : Type 0} (p : X → Bool) (xs : List X) → list_any p xs ≡ true → Found p xs
found_first p [] e = absurd (true≢false (sym e))
found_first p (x ∷ xs) e = by (p x) refl e (found_first p xs)
  where
    whole_by : (b : Bool) → p x ≡ b → b ≡ false → (f : Found p xs) → x ∷ xs ≡ take (cond (not b) (1 + position_or_len p xs) 0) (x ∷ xs) ++ f.item ∷ f.after
    whole_by true h e f = absurd (true≢false e)
    whole_by false h e f = ap (λ l. x ∷ l) f.whole ∙ ap (λ l. l ++ f.item ∷ f.after) (sym (before_more x xs (position_or_len p xs)))

    by : (b : Bool) → p x ≡ b → (b || list_any p xs) ≡ true → (list_any p xs ≡ true → Found p xs) → Found p (x ∷ xs)
    by true h e more = record {
      item = x;
      after = xs;
      whole = ap (λ b. take (cond (not b) (1 + position_or_len p xs) 0) (x ∷ xs) ++ x ∷ xs) (sym h);
      passes = h;
      first = ap (λ b. cond b (Some x) (find p xs)) h;
    }
    by false h e more =
        let f = more e in
        record {
          item = f.item;
          after = f.after;
          whole = whole_by false h refl f ∙ ap (λ b. take (cond (not b) (1 + position_or_len p xs) 0) (x ∷ xs) ++ f.item ∷ f.after) (sym h);
          passes = f.passes;
          first = ap (λ b. cond b (Some x) (find p xs)) h ∙ f.first;
        }

-- where none does, all are before it
pub all_before : {X : Type 0} (p : X → Bool) (xs : List X) → list_any p xs ≡ false → before_first p xs ≡ xs
all_before p [] e = refl
all_before p (x ∷ xs) e = by (p x) e (all_before p xs)
  where
    by : (b : Bool) → (b || list_any p xs) ≡ false → (list_any p xs ≡ false → before_first p xs ≡ xs) → take (cond (not b) (1 + position_or_len p xs) 0) (x ∷ xs) ≡ x ∷ xs
    by true e more = absurd (true≢false e)
    by false e more = before_more x xs (position_or_len p xs) ∙ ap (λ l. x ∷ l) (more e)

import_by : (i : Import) (m f : List ℕ) (item : EntityType) → m ≡ i.module_name → f ≡ i.field → i.entity ≡ item → i ≡ record { module_name = m; field = f; entity = item }
import_by i m f item a b c =
    let build : List ℕ → List ℕ → EntityType → Import = λ x y z. record { module_name = x; field = y; entity = z } in
    ap (λ x. build x i.field i.entity) (sym a) ∙ ap (λ y. build m y i.entity) (sym b) ∙ ap (λ z. build m f z) c

pub earlier : (m : Imported) (instance : ImportedInstance) (field : List ℕ) (item : EntityType) → has_import m instance field ≡ true → with_import m instance field item ≡ m
earlier m instance field item e = ap (λ b. if b then m else record { instances = with_first bytes_eq m.instances (instance_name instance) instance; entries = m.entries ++ entry_of instance field item ∷ [] }) e

pub grown : (m : Imported) (instance : ImportedInstance) (field : List ℕ) (item : EntityType) → has_import m instance field ≡ false → with_import m instance field item ≡ record { instances = with_first bytes_eq m.instances (instance_name instance) instance; entries = m.entries ++ entry_of instance field item ∷ [] }
grown m instance field item e = ap (λ b. if b then m else record { instances = with_first bytes_eq m.instances (instance_name instance) instance; entries = m.entries ++ entry_of instance field item ∷ [] }) e

-- After an import the item is there, at its index; and what was there before, is at its old index.
pub record IsThere (m : Imported) (instance : ImportedInstance) (field : List ℕ) (item : EntityType) : Type 0 where
  pub before : List Import
  pub after : List Import
  pub whole : (with_import m instance field item).entries ≡ before ++ entry_of instance field item ∷ after
  pub index : import_index m instance field item ≡ count_of (kind_of item) before

other_by : (o : _) (item : EntityType) (i : Import) → o ≡ Some i → elim o [ None ↦ false | Some j ↦ not (is_item j.entity item) ] ≡ false → is_item i.entity item ≡ true
other_by o item i e h = by (is_item i.entity item) (ap (λ o. elim o [ None ↦ false | Some j ↦ not (is_item j.entity item) ]) (sym e) ∙ h)
  where
    by : (b : Bool) → not b ≡ false → b ≡ true
    by true h = refl
    by false h = absurd (true≢false h)

pub is_there : (m : Imported) (instance : ImportedInstance) (field : List ℕ) (item : EntityType) → MayImport m instance field item → IsThere m instance field item
is_there m instance field item may = by (has_import m instance field) refl
  where
    by : (b : Bool) → has_import m instance field ≡ b → IsThere m instance field item
    by true e =
        let p : Import → Bool = is_named (instance_name instance) field in
        let f = found_first p m.entries e in
        let named = both (bytes_eq (instance_name instance) f.item.module_name) (bytes_eq field f.item.field) f.passes in
        let same : f.item ≡ entry_of instance field item =
        import_by f.item (instance_name instance) field item ((bytes_eq-Decides (instance_name instance) f.item.module_name).0 named.0) ((bytes_eq-Decides field f.item.field).0 named.1) (one_item f.item.entity item (other_by (find p m.entries) item f.item f.first may.alike)) in
        record {
          before = before_first p m.entries;
          after = f.after;
          whole = ap (λ (n : Imported). n.entries) (earlier m instance field item e) ∙ f.whole ∙ ap (λ i. before_first p m.entries ++ i ∷ f.after) same;
          index = refl;
        }
    by false e = record {
      before = m.entries;
      after = [];
      whole = ap (λ (n : Imported). n.entries) (grown m instance field item e);
      index = ap (λ l. count_of (kind_of item) l) (all_before (is_named (instance_name instance) field) m.entries e);
    }

-- the entries only grow at their end
pub entries_grow : (m : Imported) (instance : ImportedInstance) (field : List ℕ) (item : EntityType) → (more : List Import) × ((with_import m instance field item).entries ≡ m.entries ++ more)
entries_grow m instance field item = by (has_import m instance field) refl
  where
    by : (b : Bool) → has_import m instance field ≡ b → (more : List Import) × ((with_import m instance field item).entries ≡ m.entries ++ more)
    by true e = ([], ap (λ (n : Imported). n.entries) (earlier m instance field item e) ∙ sym (append-nil m.entries))
    by false e = (entry_of instance field item ∷ [], ap (λ (n : Imported). n.entries) (grown m instance field item e))
