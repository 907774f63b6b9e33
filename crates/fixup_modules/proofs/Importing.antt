-- The result of an import, by what the table has of its name.
use Rattle.std.proofs.Common.{inl, inr, ◌≡◌, ◌∙◌, ◌+◌, ◌<◌, ◌^◌, ℕ, suc, Bool, true, false, ◌||◌, not, List, [], ◌∷◌, ◌++◌, length, map, take, Some, None, Result, Ok, Err, OnOk, OnErr, IfOk, IfErr, cond, if◌then◌else◌, refl, sym, ap, subst, append-nil, append_assoc, length-append, arith}
use Rattle.std.specs.List.{list_any, position_or_len, before_first, find}
use Rattle.std.specs.Map.{lookup}
use Rattle.std.specs.Str.{bytes_eq}
use Rattle.std.proofs.lemmas.List.{map-append}
use Rattle.std.proofs.lemmas.List.Elements.{filter-append}
use Rattle.comp_lists.specs.Tables.{with_first}
use Rattle.standard_kinds.specs.declared.kinds.ExportKind.{ExportKind}
use Rattle.core_bytes.specs.declared.entity.EntityType.{EntityType}
use Rattle.core_bytes.specs.declared.entity.EntityType.TheVariants as entities
use Rattle.core_bytes.specs.declared.entry.Import.{Import}
use Rattle.fixup_modules.specs.declared.counts.ImportCounts.{ImportCounts}
use Rattle.fixup_modules.specs.declared.fault.ShimFault.{ShimFault}
use Rattle.fixup_modules.specs.declared.fault.ShimFault.TheVariants as faults
use Rattle.fixup_modules.specs.declared.import_name.ImportName.{ImportName}
use Rattle.fixup_modules.specs.declared.imports.ImportedItem.{ImportedItem}
use Rattle.fixup_modules.specs.declared.instances.ImportedInstance.{ImportedInstance}
use Rattle.fixup_modules.specs.ImportNames.{is_same_name}
use Rattle.fixup_modules.specs.Instances.{instance_name}
use Rattle.fixup_modules.specs.Faults.{IsFull}
use Rattle.fixup_modules.specs.Imports.{Imported, is_item, kind_of, is_kind, of_kind, count_of, is_named, is_taken, has_other_type, ImportCause}
use Rattle.fixup_modules.specs.Counts.{counted, entry_at, AreIndexed, AreCounted, imported_by, Imports}
use Rattle.fixup_modules.proofs.Named.{one_item, all_before, earlier, grown}

abbrev Entry : Type 0
Entry = ImportName × ImportedItem

-- ---- what a table has of a name

-- An item of the name is there, with this type, and has the index of those of its kind before it.
record HasItem (before : List Import) (items : List Entry) (name : ImportName) (x : ImportedItem) : Type 0 where
  pub there : list_any (is_named name.instance name.field) (map entry_at items) ≡ true
  pub entry : Import
  pub first : find (is_named name.instance name.field) (map entry_at items) ≡ Some entry
  pub entity : entry.entity ≡ x.entity
  pub index : x.index ≡ count_of (kind_of x.entity) (before ++ before_first (is_named name.instance name.field) (map entry_at items))

has_item : (before : List Import) (items : List Entry) (name : ImportName) (x : ImportedItem) → AreIndexed before items → lookup (is_same_name name) items ≡ Some x → HasItem before items name x
has_item before [] name x h e = cc
has_item before (y ∷ ys) name x h e = by (is_same_name name y.0) refl e (has_item (before ++ entry_at y ∷ []) ys name x h.1)
  where
    p : Import → Bool
    p = is_named name.instance name.field

    es : List Import
    es = map entry_at ys

    by : (b : Bool) → is_same_name name y.0 ≡ b → cond b (Some y.1) (lookup (is_same_name name) ys) ≡ Some x
        → (lookup (is_same_name name) ys ≡ Some x → HasItem (before ++ entry_at y ∷ []) ys name x) → HasItem before (y ∷ ys) name x
    by true is e more =
        let same : y.1 ≡ x = cc in
        record {
          there = ap (λ b. b || list_any p es) is;
          entry = entry_at y;
          first = ap (λ b. cond b (Some (entry_at y)) (find p es)) is;
          entity = ap (λ (z : ImportedItem). z.entity) same;
          index =
              ap (λ (z : ImportedItem). z.index) (sym same)
              ∙ h.0
              ∙ ap (λ l. count_of (kind_of y.1.entity) l) (sym (append-nil before))
              ∙ ap (λ b. count_of (kind_of y.1.entity) (before ++ take (cond (not b) (1 + position_or_len p es) 0) (entry_at y ∷ es))) (sym is)
              ∙ ap (λ (z : ImportedItem). count_of (kind_of z.entity) (before ++ before_first p (entry_at y ∷ es))) same;
        }
    by false is e more =
        let m = more e in
        let next : 1 + position_or_len p es ≡ suc (position_or_len p es) = omega arith in
        record {
          there = ap (λ b. b || list_any p es) is ∙ m.there;
          entry = m.entry;
          first = ap (λ b. cond b (Some (entry_at y)) (find p es)) is ∙ m.first;
          entity = m.entity;
          index =
              m.index
              ∙ ap (λ l. count_of (kind_of x.entity) l) (append_assoc before (entry_at y ∷ []) (before_first p es))
              ∙ ap (λ n. count_of (kind_of x.entity) (before ++ take n (entry_at y ∷ es))) (sym next)
              ∙ ap (λ b. count_of (kind_of x.entity) (before ++ take (cond (not b) (1 + position_or_len p es) 0) (entry_at y ∷ es))) (sym is);
        }

-- no item of the name is there
record LacksItem (items : List Entry) (name : ImportName) : Type 0 where
  pub missing : list_any (is_named name.instance name.field) (map entry_at items) ≡ false
  pub first : find (is_named name.instance name.field) (map entry_at items) ≡ None

lacks_item : (items : List Entry) (name : ImportName) → lookup (is_same_name name) items ≡ None → LacksItem items name
lacks_item [] name e = record { missing = refl; first = refl }
lacks_item (y ∷ ys) name e = by (is_same_name name y.0) refl e (lacks_item ys name)
  where
    by : (b : Bool) → is_same_name name y.0 ≡ b → cond b (Some y.1) (lookup (is_same_name name) ys) ≡ None
        → (lookup (is_same_name name) ys ≡ None → LacksItem ys name) → LacksItem (y ∷ ys) name
    by true is e more = cc
    by false is e more =
        let m = more e in
        record {
          missing = ap (λ b. b || list_any (is_named name.instance name.field) (map entry_at ys)) is ∙ m.missing;
          first = ap (λ b. cond b (Some (entry_at y)) (find (is_named name.instance name.field) (map entry_at ys))) is ∙ m.first;
        }

-- ---- results

pub import_taken : (m : Imported) (instance : ImportedInstance) (field : List ℕ) (item : EntityType) (text : List ℕ) → text ≡ instance_name instance → is_taken m instance ≡ true → Imports m m (Err (faults.InstanceKind text)) instance field item
import_taken m instance field item text same taken = record { ok = tt; index = tt; refused = tt; room = tt; err = refl; cause = (same, taken) }

abbrev name_of : ImportedInstance → List ℕ → ImportName
name_of instance field = record { instance = instance_name instance; field = field }

-- an item that is imported
module _ (instances : List (List ℕ × ImportedInstance)) (items : List Entry) (instance : ImportedInstance) (field : List ℕ) (item : EntityType) (x : ImportedItem) (h : HasItem [] items (name_of instance field) x) where
  other_is : has_other_type (imported_by instances items) instance field item ≡ not (is_item x.entity item)
  other_is =
      ap (λ o. elim o [ None ↦ false | Some j ↦ not (is_item j.entity item) ]) h.first
      ∙ ap (λ e. not (is_item e item)) h.entity

  earlier_ok : (index : ℕ) → index ≡ x.index → is_item x.entity item ≡ true → is_taken (imported_by instances items) instance ≡ false → Imports (imported_by instances items) (imported_by instances items) (Ok index) instance field item
  earlier_ok index is alike free = record {
    ok = sym (earlier (imported_by instances items) instance field item h.there);
    index = is ∙ h.index ∙ ap (λ (e : EntityType). count_of (kind_of e) (before_first (is_named (instance_name instance) field) (map entry_at items))) (one_item x.entity item alike);
    refused = record { free = free; alike = other_is ∙ ap not alike };
    room = inl refl;
    err = tt;
    cause = tt;
  }

  earlier_err : (e : ShimFault) → e ≡ faults.ImportType (instance_name instance) field → is_item x.entity item ≡ false → Imports (imported_by instances items) (imported_by instances items) (Err e) instance field item
  earlier_err e is other = record {
    ok = tt;
    index = tt;
    refused = tt;
    room = tt;
    err = refl;
    cause = subst (λ f. ImportCause (imported_by instances items) instance field item f) (sym is) (refl, refl, other_is ∙ ap not other);
  }

earlier_by : (instances : List (List ℕ × ImportedInstance)) (items : List Entry) (instance : ImportedInstance) (field : List ℕ) (item : EntityType) (x : ImportedItem) (result : Result ℕ ShimFault) →
    HasItem [] items (name_of instance field) x → is_taken (imported_by instances items) instance ≡ false →
    IfOk result (λ index. (index ≡ x.index) × (is_item x.entity item ≡ true)) → IfErr result (λ e. (e ≡ faults.ImportType (instance_name instance) field) × (is_item x.entity item ≡ false)) →
    Imports (imported_by instances items) (imported_by instances items) result instance field item
earlier_by instances items instance field item x (Ok index) h free ok err = earlier_ok instances items instance field item x h index ok.0 ok.1 free
earlier_by instances items instance field item x (Err e) h free ok err = earlier_err instances items instance field item x h e err.0 err.1

pub import_earlier : (instances : List (List ℕ × ImportedInstance)) (items : List Entry) (counts : ImportCounts) (instance : ImportedInstance) (field : List ℕ) (item : EntityType) (name : ImportName) (x : ImportedItem) (result : Result ℕ ShimFault) →
    AreCounted counts items → name ≡ name_of instance field → lookup (is_same_name name) items ≡ Some x → is_taken (imported_by instances items) instance ≡ false →
    IfOk result (λ index. (index ≡ x.index) × (is_item x.entity item ≡ true)) → IfErr result (λ e. (e ≡ faults.ImportType name.instance name.field) × (is_item x.entity item ≡ false)) →
    Imports (imported_by instances items) (imported_by instances items) result instance field item
import_earlier instances items counts instance field item name x result counted named found free ok err =
    earlier_by instances items instance field item x result (has_item [] items (name_of instance field) x counted.indexed (subst (λ n. lookup (is_same_name n) items ≡ Some x) named found)) free ok
    (subst (λ (n : ImportName). IfErr result (λ e. (e ≡ faults.ImportType n.instance n.field) × (is_item x.entity item ≡ false))) named err)

-- an item that is not
indexed_push : (before : List Import) (es : List Entry) (e : Entry) → AreIndexed before es → e.1.index ≡ count_of (kind_of e.1.entity) (before ++ map entry_at es) → AreIndexed before (es ++ e ∷ [])
indexed_push before [] e h is = (is ∙ ap (λ l. count_of (kind_of e.1.entity) l) (append-nil before), tt)
indexed_push before (y ∷ ys) e h is =
    (h.0, indexed_push (before ++ entry_at y ∷ []) ys e h.1 (is ∙ ap (λ l. count_of (kind_of e.1.entity) l) (sym (append_assoc before (entry_at y ∷ []) (map entry_at ys)))))

one_if : (b : Bool) (i : Import) → length (cond b (i ∷ []) []) ≡ (if b then 1 else 0)
one_if true i = refl
one_if false i = refl

count_push : (kind : ExportKind) (es : List Entry) (e : Entry) → count_of kind (map entry_at (es ++ e ∷ [])) ≡ count_of kind (map entry_at es) + (if is_kind kind e.1.entity then 1 else 0)
count_push kind es e =
    ap (λ l. count_of kind l) (map-append entry_at es (e ∷ []))
    ∙ ap (λ l. length l) (filter-append (λ (i : Import). is_kind kind i.entity) (map entry_at es) (entry_at e ∷ []))
    ∙ length-append (of_kind kind (map entry_at es)) (cond (is_kind kind e.1.entity) (entry_at e ∷ []) [])
    ∙ ap (λ n. count_of kind (map entry_at es) + n) (one_if (is_kind kind e.1.entity) (entry_at e))

pub record NewImport (old new : Imported) (new_counts : ImportCounts) (new_items : List Entry) (result : Result ℕ ShimFault) (instance : ImportedInstance) (field : List ℕ) (item : EntityType) : Type 0 where
  pub imports : Imports old new result instance field item
  pub counted : AreCounted new_counts new_items

own_kind : (item : EntityType) → is_kind (kind_of item) item ≡ true
own_kind (entities.Function t) = refl
own_kind (entities.Table t) = refl
own_kind (entities.Memory t) = refl
own_kind (entities.Global t) = refl

full_cause : (m : Imported) (instance : ImportedInstance) (field : List ℕ) (item : EntityType) (count : ℕ) (e : ShimFault) → count ≡ count_of (kind_of item) m.entries → IsFull count e → ImportCause m instance field item e
full_cause m instance field item count faults.Memory same h = tt
full_cause m instance field item count (faults.TooMany n) same h = (h.0, h.1 ∙ ap (λ k. k + 1) same)
full_cause m instance field item count (faults.InstanceKind name) same h = absurd h
full_cause m instance field item count (faults.ImportType of name) same h = absurd h

module _ (instances new_instances : List (List ℕ × ImportedInstance)) (items new_items : List Entry) (counts new_counts : ImportCounts) (instance : ImportedInstance) (field : List ℕ) (item : EntityType) where
  -- one more of its kind
  count_of_new : (index : ℕ) → AreCounted counts items → new_items ≡ items ++ (name_of instance field, record { index = index; entity = item }) ∷ [] → count_of (kind_of item) (map entry_at new_items) ≡ counted counts (kind_of item) + 1
  count_of_new index before pushed =
      ap (λ l. count_of (kind_of item) (map entry_at l)) pushed
      ∙ count_push (kind_of item) items (name_of instance field, record { index = index; entity = item })
      ∙ ap (λ b. count_of (kind_of item) (map entry_at items) + (if b then 1 else 0)) (own_kind item)
      ∙ ap (λ n. n + 1) (sym (before.counts_of (kind_of item)))

  added : (index : ℕ) → AreCounted counts items → LacksItem items (name_of instance field) → is_taken (imported_by instances items) instance ≡ false → new_instances ≡ with_first bytes_eq instances (instance_name instance) instance →
      new_items ≡ items ++ (name_of instance field, record { index = index; entity = item }) ∷ [] → ((kind : ExportKind) → counted new_counts kind ≡ counted counts kind + (if is_kind kind item then 1 else 0)) →
      index ≡ counted counts (kind_of item) → counted counts (kind_of item) + 1 < 2 ^ 32 → NewImport (imported_by instances items) (imported_by new_instances new_items) new_counts new_items (Ok index) instance field item
  added index before lacks free named pushed more is room =
      let e : Entry = (name_of instance field, record { index = index; entity = item }) in
      let p : Import → Bool = is_named (instance_name instance) field in
      let counts_to : index ≡ count_of (kind_of item) (map entry_at items) = is ∙ before.counts_of (kind_of item) in
      record {
        imports = record {
          ok =
              ap (λ l. imported_by l new_items) named
              ∙ ap (λ l. imported_by (with_first bytes_eq instances (instance_name instance) instance) l) pushed
              ∙ ap (λ l. record { instances = with_first bytes_eq instances (instance_name instance) instance; entries = l }) (map-append entry_at items (e ∷ []))
              ∙ sym (grown (imported_by instances items) instance field item lacks.missing);
          index = counts_to ∙ ap (λ l. count_of (kind_of item) l) (sym (all_before p (map entry_at items) lacks.missing));
          refused = record { free = free; alike = ap (λ o. elim o [ None ↦ false | Some j ↦ not (is_item j.entity item) ]) lacks.first };
          room = inr (subst (λ n. n < 2 ^ 32) (sym (count_of_new index before pushed)) room);
          err = tt;
          cause = tt;
        };
        counted = record {
          indexed = subst (λ l. AreIndexed [] l) (sym pushed) (indexed_push [] items e before.indexed counts_to);
          counts_of = λ kind. more kind ∙ ap (λ n. n + (if is_kind kind item then 1 else 0)) (before.counts_of kind) ∙ sym (count_push kind items e) ∙ ap (λ l. count_of kind (map entry_at l)) (sym pushed);
        };
      }

  refused : (e : ShimFault) → AreCounted counts items → (new_instances ≡ instances) × (new_items ≡ items) × (new_counts ≡ counts) → IsFull (counted counts (kind_of item)) e →
      NewImport (imported_by instances items) (imported_by new_instances new_items) new_counts new_items (Err e) instance field item
  refused e before same full = record {
    imports = record {
      ok = tt;
      index = tt;
      refused = tt;
      room = tt;
      err = ap (λ l. imported_by l new_items) same.0 ∙ ap (λ l. imported_by instances l) same.1;
      cause = full_cause (imported_by instances items) instance field item (counted counts (kind_of item)) e (before.counts_of (kind_of item)) full;
    };
    counted = subst (λ c. AreCounted c new_items) (sym same.2) (subst (λ l. AreCounted counts l) (sym same.1) before);
  }

  new_by : (result : Result ℕ ShimFault) → AreCounted counts items → LacksItem items (name_of instance field) → is_taken (imported_by instances items) instance ≡ false → OnOk result (new_instances ≡ with_first bytes_eq instances (instance_name instance) instance) →
      IfOk result (λ index. new_items ≡ items ++ (name_of instance field, record { index = index; entity = item }) ∷ []) → OnOk result ((kind : ExportKind) → counted new_counts kind ≡ counted counts kind + (if is_kind kind item then 1 else 0)) →
      IfOk result (λ index. index ≡ counted counts (kind_of item)) → OnOk result (counted counts (kind_of item) + 1 < 2 ^ 32) → OnErr result ((new_instances ≡ instances) × (new_items ≡ items) × (new_counts ≡ counts)) → IfErr result (IsFull (counted counts (kind_of item))) →
      NewImport (imported_by instances items) (imported_by new_instances new_items) new_counts new_items result instance field item
  new_by (Ok index) before lacks free named pushed more is room same full = added index before lacks free named pushed more is room
  new_by (Err e) before lacks free named pushed more is room same full = refused e before same full

  pub import_new : (name : ImportName) (result : Result ℕ ShimFault) → AreCounted counts items → name ≡ name_of instance field → lookup (is_same_name name) items ≡ None → is_taken (imported_by instances items) instance ≡ false →
      OnOk result (new_instances ≡ with_first bytes_eq instances name.instance instance) →
      IfOk result (λ index. new_items ≡ items ++ (name, record { index = index; entity = item }) ∷ []) → OnOk result ((kind : ExportKind) → counted new_counts kind ≡ counted counts kind + (if is_kind kind item then 1 else 0)) →
      IfOk result (λ index. index ≡ counted counts (kind_of item)) → OnOk result (counted counts (kind_of item) + 1 < 2 ^ 32) → OnErr result ((new_instances ≡ instances) × (new_items ≡ items) × (new_counts ≡ counts)) → IfErr result (IsFull (counted counts (kind_of item))) →
      NewImport (imported_by instances items) (imported_by new_instances new_items) new_counts new_items result instance field item
  import_new name result before named missing free instances_are items_are counts_are index_is room same full =
      new_by result before (lacks_item items (name_of instance field) (subst (λ n. lookup (is_same_name n) items ≡ None) named missing)) free
      (subst (λ (n : ImportName). OnOk result (new_instances ≡ with_first bytes_eq instances n.instance instance)) named instances_are)
      (subst (λ (n : ImportName). IfOk result (λ index. new_items ≡ items ++ (n, record { index = index; entity = item }) ∷ [])) named items_are)
      counts_are index_is room same full
