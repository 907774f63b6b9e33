-- The names of imports, in a loop over their table.
use Rattle.std.proofs.Common.{◌≡◌, ◌∙◌, ◌+◌, ℕ, suc, true, false, List, [], ◌∷◌, ◌++◌, length, map, cond, refl, sym, ap, subst, zero-add, rules, append-nil, append_assoc, arith}
use Rattle.std.proofs.lemmas.List.{map-append}
use Rattle.std.proofs.lemmas.List.Elements.{filter-append}
use Rattle.standard_kinds.specs.declared.kinds.ExportKind.{ExportKind}
use Rattle.standard_kinds.specs.declared.kinds.ExportKind.TheVariants as kinds
use Rattle.core_bytes.specs.declared.entity.EntityType.{EntityType}
use Rattle.core_bytes.specs.declared.entity.EntityType.TheVariants as entities
use Rattle.core_bytes.specs.declared.entry.Import.{Import}
use Rattle.core_bytes.specs.declared.entry.Naming.{Naming}
use Rattle.fixup_modules.specs.declared.import_name.ImportName.{ImportName}
use Rattle.fixup_modules.specs.declared.imports.ImportedItem.{ImportedItem}
use Rattle.fixup_modules.specs.Imports.{kind_of, is_kind, of_kind, count_of}
use Rattle.fixup_modules.specs.Counts.{entry_at, AreIndexed}
use Rattle.fixup_modules.specs.Sections.{names_from}

abbrev Entry : Type 0
Entry = ImportName × ImportedItem

-- After some entries, whose names are there; those that are left have the indices that follow.
pub record NamesSoFar (kind : ExportKind) (all rest : List Entry) (names : List Naming) : Type 0 where
  pub done : List Entry
  pub whole : done ++ rest ≡ all
  pub indexed : AreIndexed (map entry_at done) rest
  pub so_far : names ≡ names_from 0 (of_kind kind (map entry_at done))

pub names_none : (kind : ExportKind) (all : List Entry) → AreIndexed [] all → NamesSoFar kind all all []
names_none kind all h = record { done = []; whole = refl; indexed = h; so_far = refl }

-- the name of one more import
names_end : (index : ℕ) (is : List Import) (i : Import) → names_from index (is ++ i ∷ []) ≡ names_from index is ++ record { index = index + length is; name = i.field } ∷ []
names_end index [] i = let e : index ≡ index + 0 = omega arith in ap (λ n. record { index = n; name = i.field } ∷ []) e
names_end index (j ∷ is) i =
    let e : suc index + length is ≡ index + length (j ∷ is) = omega arith in
    ap (λ l. record { index = index; name = j.field } ∷ l) (names_end (suc index) is i ∙ ap (λ n. names_from (suc index) is ++ record { index = n; name = i.field } ∷ []) e)

-- what is of a kind has that kind
pub same_kind : (kind : ExportKind) (item : EntityType) → is_kind kind item ≡ true → kind ≡ kind_of item
same_kind kinds.Func (entities.Function t) e = refl
same_kind kinds.Table (entities.Table t) e = refl
same_kind kinds.Memory (entities.Memory t) e = refl
same_kind kinds.Global (entities.Global t) e = refl
same_kind kind item e = search rules

module _ (kind : ExportKind) (all rest : List Entry) (names : List Naming) (e : Entry) (h : NamesSoFar kind all (e ∷ rest) names) where
  mapped : map entry_at (h.done ++ e ∷ []) ≡ map entry_at h.done ++ entry_at e ∷ []
  mapped = map-append entry_at h.done (e ∷ [])

  whole_on : (h.done ++ e ∷ []) ++ rest ≡ all
  whole_on = append_assoc h.done (e ∷ []) rest ∙ h.whole

  indexed_on : AreIndexed (map entry_at (h.done ++ e ∷ [])) rest
  indexed_on = subst (λ l. AreIndexed l rest) (sym mapped) h.indexed.1

  kinds_on : of_kind kind (map entry_at (h.done ++ e ∷ [])) ≡ of_kind kind (map entry_at h.done) ++ cond (is_kind kind e.1.entity) (entry_at e ∷ []) []
  kinds_on = ap (λ l. of_kind kind l) mapped ∙ filter-append (λ (i : Import). is_kind kind i.entity) (map entry_at h.done) (entry_at e ∷ [])

  pub names_taken : (new : List Naming) → is_kind kind e.1.entity ≡ true → new ≡ names ++ record { index = e.1.index; name = e.0.field } ∷ [] → NamesSoFar kind all rest new
  names_taken new is pushed =
      let xs = map entry_at h.done in
      let index : e.1.index ≡ 0 + length (of_kind kind xs) = h.indexed.0 ∙ ap (λ k. count_of k xs) (sym (same_kind kind e.1.entity is)) ∙ sym (zero-add (count_of kind xs)) in
      record {
        done = h.done ++ e ∷ [];
        whole = whole_on;
        indexed = indexed_on;
        so_far =
            pushed
            ∙ ap (λ l. l ++ record { index = e.1.index; name = e.0.field } ∷ []) h.so_far
            ∙ ap (λ n. names_from 0 (of_kind kind xs) ++ record { index = n; name = e.0.field } ∷ []) index
            ∙ sym (names_end 0 (of_kind kind xs) (entry_at e))
            ∙ ap (λ b. names_from 0 (of_kind kind xs ++ cond b (entry_at e ∷ []) [])) (sym is)
            ∙ ap (λ l. names_from 0 l) (sym kinds_on);
      }

  pub names_passed : is_kind kind e.1.entity ≡ false → NamesSoFar kind all rest names
  names_passed is =
      let xs = map entry_at h.done in
      record {
        done = h.done ++ e ∷ [];
        whole = whole_on;
        indexed = indexed_on;
        so_far =
            h.so_far
            ∙ ap (λ l. names_from 0 l) (sym (append-nil (of_kind kind xs)))
            ∙ ap (λ b. names_from 0 (of_kind kind xs ++ cond b (entry_at e ∷ []) [])) (sym is)
            ∙ ap (λ l. names_from 0 l) (sym kinds_on);
      }

pub names_all : (kind : ExportKind) (all : List Entry) (names : List Naming) → NamesSoFar kind all [] names → names ≡ names_from 0 (of_kind kind (map entry_at all))
names_all kind all names h = h.so_far ∙ ap (λ l. names_from 0 (of_kind kind (map entry_at l))) (sym (append-nil h.done) ∙ h.whole)
