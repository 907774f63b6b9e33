-- The names that are chosen for imports of types, one after the other, and what is given for them.
use Rattle.std.proofs.Common.{◌≡◌, ◌∙◌, ◌<◌, ◌≤◌, ◌+◌, ℕ, suc, take, length, List, [], ◌∷◌, ◌++◌, arith, map, refl, ap, sym, subst, get_or, append-nil, append_assoc, Option, Some, Contains, rules}
use Rattle.std.specs.Cmp.{IsEquivalence}
use Rattle.std.specs.Cmp.Rules.{comparing}
use Rattle.std.specs.List.{AllByRecursion, IsDistinct}
use Rattle.std.specs.Map.{keys_of}
use Rattle.std.specs.Str.{bytes_eq}
use Rattle.std.proofs.lemmas.List.{map-append, take_all, take_more}
use Rattle.std.proofs.lemmas.Map.Views.{lookup-from_Contains}
use Rattle.comp_lists.proofs.Lists.{AllByRecursion-push, Contains-map}
use Rattle.wit_data.specs.declared.ids.TypeId.{TypeId}
use Rattle.wit_data.specs.declared.types.TypeDef.{TypeDef}
use Rattle.comp_trees.specs.Trees.{Resource}
use Rattle.wit_types.specs.Settings.{name_at}
use Rattle.nested_terms.specs.Naming.{type_import_name, IsFirstFree}
use Rattle.nested_components.specs.declared.type_import.TypeImport.{TypeImport}
use Rattle.nested_components.specs.Growing.{function_entry, type_entry}
use Rattle.nested_components.specs.Planning.{PlansType, PlansTypes, IsGiven, entry_of, tree_given, given_by}
use Rattle.nested_components.specs.Types.{imported_ids}

-- ---- one more

pub plans_type : (types : List TypeDef) (taken now : List (List ℕ × Option TypeId)) (old new : List TypeImport) (id : TypeId) (text key free : List ℕ) → name_at types id.index ≡ Some text → IsFirstFree (keys_of taken) (type_import_name text) free → key ≡ free →
    new ≡ old ++ record { name = free; id = id } ∷ [] → now ≡ taken ++ (key, Some id) ∷ [] → PlansType types taken now old new id
plans_type types taken now old new id text key free titled first same added put = record {
  import = record { name = free; id = id };
  of = refl;
  text = text;
  titled = titled;
  free = first;
  added = added;
  taken = put ∙ ap (λ (k : List ℕ). taken ++ (k, Some id) ∷ []) same;
}

-- ---- one after the other

module _ (types : List TypeDef) (old : List (List ℕ × Option TypeId)) where
  pub plans_none : (ts : List TypeImport) → ts ≡ [] → PlansTypes types old old [] ts
  plans_none ts none = subst (PlansTypes types old old []) (sym none) (record { of = refl; named = tt; taken = sym (append-nil old) })

  pub plans_more : (mid new : List (List ℕ × Option TypeId)) (ids : List TypeId) (count : ℕ) (id : TypeId) (ts us : List TypeImport) → count < length ids → id ≡ get_or ids count id → PlansTypes types old mid (take count ids) ts → PlansType types mid new ts us id →
      PlansTypes types old new (take (count + 1) ids) us
  plans_more mid new ids count id ts us within is h one =
      let more : take (count + 1) ids ≡ take count ids ++ id ∷ [] = take_more ids count id within ∙ ap (λ (i : TypeId). take count ids ++ i ∷ []) (sym is) in
      let added = one.added in
      record {
        of = ap imported_ids added ∙ (map-append (λ (t : TypeImport). t.id) ts (one.import ∷ []) ∙ (ap (λ (is : List TypeId). is ++ one.import.id ∷ []) h.of ∙ (ap (λ (i : TypeId). take count ids ++ i ∷ []) one.of ∙ sym more)));
        named = subst (AllByRecursion _) (sym added) (AllByRecursion-push _ ts one.import h.named (record { text = one.text; titled = one.titled; count = one.free.count; same = one.free.same }));
        taken = one.taken ∙ (ap (λ es. es ++ type_entry one.import ∷ []) h.taken ∙ (append_assoc old (map type_entry ts) (type_entry one.import ∷ []) ∙ ap (λ es. old ++ es) (sym (ap (map type_entry) added ∙ map-append type_entry ts (one.import ∷ [])))));
      }

  pub plans_all : (new : List (List ℕ × Option TypeId)) (ids : List TypeId) (count : ℕ) (ts : List TypeImport) → length ids ≤ count → PlansTypes types old new (take count ids) ts → PlansTypes types old new ids ts
  plans_all new ids count ts past h = subst (λ is. PlansTypes types old new is ts) (take_all count ids past) h

-- ---- what is given

bytes_laws : IsEquivalence bytes_eq
bytes_laws = search (comparing, rules)

later_apart : (xs ys : List (List ℕ)) → IsDistinct bytes_eq (xs ++ ys) → IsDistinct bytes_eq ys
unfolding IsDistinct
later_apart [] ys h = h
later_apart (x ∷ xs) ys h = later_apart xs ys h.1

keys_of_entries : (ts : List TypeImport) → keys_of (map type_entry ts) ≡ keys_of (map entry_of ts)
keys_of_entries [] = refl
keys_of_entries (t ∷ ts) = ap (λ ns. t.name ∷ ns) (keys_of_entries ts)

keys_behind : (names : List (List ℕ)) (es : List (List ℕ × Option TypeId)) → keys_of (map function_entry names ++ es) ≡ names ++ keys_of es
keys_behind [] es = refl
keys_behind (n ∷ ns) es = ap (λ ms. n ∷ ms) (keys_behind ns es)

-- the names of imports of types are distinct
pub imports_apart : (names : List (List ℕ)) (ts : List TypeImport) (taken : List (List ℕ × Option TypeId)) → taken ≡ map function_entry names ++ map type_entry ts → IsDistinct bytes_eq (keys_of taken) → IsDistinct bytes_eq (keys_of (map entry_of ts))
imports_apart names ts taken is apart =
    later_apart names (keys_of (map entry_of ts)) (subst (IsDistinct bytes_eq) (ap keys_of is ∙ (keys_behind names (map type_entry ts) ∙ ap (λ ns. names ++ ns) (keys_of_entries ts))) apart)

module _ (origin : TypeId → Resource) (types : List TypeDef) (ts : List TypeImport) (apart : IsDistinct bytes_eq (keys_of (map entry_of ts))) where
  one_given : (t : TypeImport) → Contains ts t → IsGiven (given_by origin types ts) origin types t
  one_given t c = ap (tree_given origin types) (lookup-from_Contains bytes_laws t.name t.id (map entry_of ts) apart (Contains-map entry_of ts t c))

  each_given : (us : List TypeImport) → ((t : TypeImport) → Contains us t → Contains ts t) → AllByRecursion (IsGiven (given_by origin types ts) origin types) us
  each_given [] there = tt
  each_given (u ∷ us) there = (one_given u (there u (0, omega arith, refl)), each_given us (λ t c. there t (suc c.0, omega (arith, c.1), c.2)))

  -- each import is given its type
  pub all_given : AllByRecursion (IsGiven (given_by origin types ts) origin types) ts
  all_given = each_given ts (λ t c. c)
