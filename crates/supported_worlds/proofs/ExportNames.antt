-- The names of exported interfaces: the walk that tells whether they are apart, and what the tests say.
use Rattle.std.proofs.Common.{◌≡◌, ◌∙◌, ap, sym, refl, subst, ℕ, Bool, true, false, not, ◌&&◌, List, [], ◌∷◌, ◌++◌, true≢false}
use Rattle.std.specs.List.{AllByRecursion, flat_map, list_all}
use Rattle.std.specs.Map.{lookup}
use Rattle.std.specs.Str.{bytes_eq}
use Rattle.std.proofs.lemmas.Slice.Eq.{bytes_eq-Decides}
use Rattle.comp_lists.specs.Tables.{with_first}
use Rattle.wit_data.specs.Names.{key_text}
use Rattle.wit_data.specs.declared.functions.Function.{Function}
use Rattle.wit_data.specs.declared.ids.InterfaceId.{InterfaceId}
use Rattle.wit_data.specs.declared.ids.TypeId.{TypeId}
use Rattle.wit_data.specs.declared.resolve.Resolve.{Resolve}
use Rattle.wit_data.specs.declared.worlds.WorldItem.{WorldItem}
use Rattle.wit_data.specs.declared.worlds.WorldItem.TheVariants as items
use Rattle.wit_data.specs.declared.worlds.WorldKey.{WorldKey}
use Rattle.wit_data.specs.declared.worlds.WorldKey.TheVariants as keys
use Rattle.comp_worlds.specs.Encodable.{Entries}
use Rattle.comp_worlds.specs.Worlds.{IsExportNamed, interface_text}
use Rattle.supported_worlds.specs.Distinct.{are_apart, is_new, are_new}
use Rattle.supported_worlds.specs.Naming.{has_colon, is_export_named, are_exports_named, Texts, AddsText, AreExportsNamed}
use Rattle.supported_worlds.proofs.Fresh.{added, start, step, stop, distinct, apart}
use Rattle.supported_worlds.proofs.InPlace.{both}

flipped : (a b : List ℕ) → bytes_eq a b ≡ bytes_eq b a
flipped a b = by (bytes_eq a b) (bytes_eq b a) refl refl
  where
    by : (x y : Bool) → bytes_eq a b ≡ x → bytes_eq b a ≡ y → x ≡ y
    by true true e f = refl
    by true false e f = sym ((bytes_eq-Decides b a).1 (sym ((bytes_eq-Decides a b).0 e))) ∙ f
    by false true e f = sym e ∙ (bytes_eq-Decides a b).1 (sym ((bytes_eq-Decides b a).0 f))
    by false false e f = refl

-- ---- one export

both_true : (b : Bool) → b ≡ (b && true)
both_true true = refl
both_true false = refl

pub of_interface : (r : Resolve) (key : WorldKey) (id : InterfaceId) (old new : Texts) (text : List ℕ) (fresh : Bool) → text ≡ key_text r key → fresh ≡ is_new bytes_eq old text → new ≡ with_first bytes_eq old text tt
    → AddsText r (key, items.Interface id) old new fresh
of_interface r key id old new text fresh is passes put = record {
  is = passes ∙ ap (is_new bytes_eq old) is ∙ both_true (is_new bytes_eq old (key_text r key));
  put = λ _. put ∙ ap (λ t. with_first bytes_eq old t tt) is;
}

pub of_function : (r : Resolve) (key : WorldKey) (f : Function) (old : Texts) → AddsText r (key, items.Function f) old old true
of_function r key f old = record { is = refl; put = λ _. refl }

pub of_type : (r : Resolve) (key : WorldKey) (id : TypeId) (old : Texts) → AddsText r (key, items.NamedType id) old old true
of_type r key id old = record { is = refl; put = λ _. refl }

-- ---- all exports

-- the texts of all exports are apart where those that remain are, and are not in the table
pub record TextsSoFar (r : Resolve) (all rest : Entries) (texts : Texts) : Type 0 where
  pub same : are_apart bytes_eq (flat_map (interface_text r) all) ≡ (are_new bytes_eq texts (flat_map (interface_text r) rest) && are_apart bytes_eq (flat_map (interface_text r) rest))

pub texts_start : (r : Resolve) (all : Entries) → TextsSoFar r all all []
texts_start r all = record { same = start (Unit {0}) bytes_eq (flat_map (interface_text r) all) }

left_true : (b : Bool) → (b && true) ≡ true → b ≡ true
left_true true h = refl
left_true false h = h

left_false : (b : Bool) → (b && true) ≡ false → b ≡ false
left_false true h = h
left_false false h = refl

pub texts_step : (r : Resolve) (all rest : Entries) (entry : WorldKey × WorldItem) (old new : Texts) (fresh : Bool) → TextsSoFar r all (entry ∷ rest) old → AddsText r entry old new fresh → fresh ≡ true → TextsSoFar r all rest new
texts_step r all rest (key, items.Interface id) old new fresh h adds passes =
    let text = key_text r key in
    let texts = flat_map (interface_text r) rest in
    let is_fresh : is_new bytes_eq old text ≡ true = left_true (is_new bytes_eq old text) (sym adds.is ∙ passes) in
    subst (TextsSoFar r all rest) (sym (adds.put passes ∙ added (lookup (bytes_eq text) old) old (old ++ (text, tt) ∷ []) is_fresh))
    (record { same = h.same ∙ step bytes_eq flipped text tt old texts is_fresh })
texts_step r all rest (key, items.Function f) old new fresh h adds passes = subst (TextsSoFar r all rest) (sym (adds.put passes)) (record { same = h.same })
texts_step r all rest (key, items.NamedType id) old new fresh h adds passes = subst (TextsSoFar r all rest) (sym (adds.put passes)) (record { same = h.same })

pub texts_stop : (r : Resolve) (all rest : Entries) (entry : WorldKey × WorldItem) (old new : Texts) (fresh : Bool) → TextsSoFar r all (entry ∷ rest) old → AddsText r entry old new fresh → fresh ≡ false
    → false ≡ are_apart bytes_eq (flat_map (interface_text r) all)
texts_stop r all rest (key, items.Interface id) old new fresh h adds fails =
    let text = key_text r key in
    let known : is_new bytes_eq old text ≡ false = left_false (is_new bytes_eq old text) (sym adds.is ∙ fails) in
    sym (h.same ∙ stop bytes_eq flipped text old (flat_map (interface_text r) rest) known)
texts_stop r all rest (key, items.Function f) old new fresh h adds fails = absurd (true≢false (sym adds.is ∙ fails))
texts_stop r all rest (key, items.NamedType id) old new fresh h adds fails = absurd (true≢false (sym adds.is ∙ fails))

pub texts_end : (r : Resolve) (all : Entries) (texts : Texts) → TextsSoFar r all [] texts → true ≡ are_apart bytes_eq (flat_map (interface_text r) all)
texts_end r all texts h = sym h.same

-- ---- what the tests say

denied : (b : Bool) → not b ≡ true → b ≡ false
denied true h = absurd (true≢false (sym h))
denied false h = refl

module _ (r : Resolve) where
  one_named : (e : WorldKey × WorldItem) → is_export_named r e ≡ true → IsExportNamed r e
  one_named (keys.Name text, items.Interface id) h = denied (has_colon text) h
  one_named (keys.Interface other, items.Interface id) h = h
  one_named (keys.Name text, items.Function f) h = tt
  one_named (keys.Name text, items.NamedType id) h = tt
  one_named (keys.Interface other, items.Function f) h = tt
  one_named (keys.Interface other, items.NamedType id) h = tt

  one_passes : (e : WorldKey × WorldItem) → IsExportNamed r e → is_export_named r e ≡ true
  one_passes (keys.Name text, items.Interface id) h = ap not h
  one_passes (keys.Interface other, items.Interface id) h = h
  one_passes (keys.Name text, items.Function f) h = refl
  one_passes (keys.Name text, items.NamedType id) h = refl
  one_passes (keys.Interface other, items.Function f) h = refl
  one_passes (keys.Interface other, items.NamedType id) h = refl

  all_named : (es : Entries) → list_all (is_export_named r) es ≡ true → AllByRecursion (IsExportNamed r) es
  all_named [] h = tt
  all_named (e ∷ es) h = let b = both (is_export_named r e) (list_all (is_export_named r) es) h in (one_named e b.0, all_named es b.1)

  all_named_pass : (es : Entries) → AllByRecursion (IsExportNamed r) es → list_all (is_export_named r) es ≡ true
  all_named_pass [] h = refl
  all_named_pass (e ∷ es) h = ap (λ b. b && list_all (is_export_named r) es) (one_passes e h.0) ∙ all_named_pass es h.1

  pub exports_named : (es : Entries) → are_exports_named r es ≡ true → AreExportsNamed r es
  exports_named es h =
      let b = both (list_all (is_export_named r) es) (are_apart bytes_eq (flat_map (interface_text r) es)) h in
      record { each = all_named es b.0; apart = distinct bytes_eq (flat_map (interface_text r) es) b.1 }

  pub names_pass : (es : Entries) → AreExportsNamed r es → are_exports_named r es ≡ true
  names_pass es h = ap (λ b. b && are_apart bytes_eq (flat_map (interface_text r) es)) (all_named_pass es h.each) ∙ apart bytes_eq (flat_map (interface_text r) es) h.apart
