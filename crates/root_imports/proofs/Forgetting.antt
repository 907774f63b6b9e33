-- Tables from which types are removed: what is left in them, and that they are still right.
use Rattle.std.proofs.Common.{◌≡◌, ◌∙◌, ◌<◌, ℕ, Bool, true, false, true≢false, List, [], ◌∷◌, ◌++◌, length, map, get_or, position, append_assoc, append-nil, Option, Some, None, is_some, if◌then◌else◌, refl, sym, ap, subst, IsPermutation, IsTrue}
use Rattle.std.specs.Cmp.{IsEquivalence}
use Rattle.std.specs.List.{AllByRecursion, IsDistinct, swap_remove}
use Rattle.std.specs.Map.{keys_of, lookup}
use Rattle.std.proofs.lemmas.List.{get_or_default}
use Rattle.std.proofs.lemmas.List.Elements.{All-from_recursion, recursion_from_All}
use Rattle.std.proofs.lemmas.List.Sorted.{All-permutation, IsPermutation-swap_remove}
use Rattle.std.proofs.lemmas.Option.{slice_get-get_or}
use Rattle.indexmap.specs.IndexMap.{swap_remove_entry}
use Rattle.indexmap.proofs.MapLemmas.{Found-position, swap_remove_entry-found, swap_remove_entry-missing}
use Rattle.indexmap.proofs.RemoveLemmas.{none_out, swap_out}
use Rattle.comp_lists.proofs.Lists.{AllByRecursion-push, AllByRecursion-weaker}
use Rattle.comp_bytes.specs.declared.def.Def.{Def}
use Rattle.comp_trees.specs.DefinedScopes.{Denotes}
use Rattle.comp_trees.specs.DefinedTrees.{OfValues}
use Rattle.comp_inventories.specs.Inventories.{scope_of}
use Rattle.comp_trees.specs.WitTrees.{kind_tree}
use Rattle.wit_data.specs.contracts.ids.TypeIdEq.TheImpl.Laws.{laws-law as id_laws}
use Rattle.wit_data.specs.contracts.ids.TypeIdPartialEq.TheImpl as same_id
use Rattle.wit_data.specs.contracts.types.TypeDefKindEq.TheImpl.Laws.{laws-law as kind_laws}
use Rattle.wit_data.specs.contracts.types.TypeDefKindPartialEq.TheImpl as same_kind
use Rattle.wit_data.specs.declared.ids.InterfaceId.{InterfaceId}
use Rattle.wit_data.specs.declared.ids.TypeId.{TypeId}
use Rattle.wit_data.specs.declared.types.Type.TheVariants.{Id}
use Rattle.wit_data.specs.declared.types.TypeDef.{TypeDef}
use Rattle.wit_data.specs.declared.types.TypeDefKind.{TypeDefKind}
use Rattle.wit_data.specs.Parts.{parts}
use Rattle.wit_data.specs.Values.{kind_at}
use Rattle.wit_types.proofs.SameKeys.{one_id}
use Rattle.wit_types.specs.Maps.{IsNamed}
use Rattle.wit_types.specs.Settings.{Setting, tree_in}
use Rattle.wit_types.specs.declared.maps.TypeEncodingMaps.{TypeEncodingMaps}
use Rattle.comp_worlds.specs.declared.world.ComponentWorld.{ComponentWorld}
use Rattle.root_imports.specs.Forgetting.{without, Forgets, IsForgettable}
use Rattle.wit_data.specs.contracts.ids.InterfaceIdEq.TheImpl.Laws.{laws-law as interface_laws}
use Rattle.wit_data.specs.contracts.ids.InterfaceIdPartialEq.TheImpl as same_interface
use Rattle.root_imports.specs.Met.{is_met, Leaves}
use Rattle.root_imports.specs.RootScopes.{any_index, root_setting, AreForgotten, AreTablesRight}
use Rattle.root_imports.specs.declared.met_types.MetTypes.{MetTypes}

-- ---- one entry

either_none : {X : Type 0} (b : Bool) (x : Option X) → x ≡ None → x ≡ (if b then None else x)
either_none true x none = none
either_none false x none = refl

module _ {K X : Type 0} (R : K → K → Bool) (o : IsEquivalence R) (k : K) where
  -- what a look-up finds after an entry was removed
  pub removed_lookup : (es : List (K × X)) → IsDistinct R (keys_of es) → (q : K) → lookup (R q) (swap_remove_entry (R k) es) ≡ (if R k q then None else lookup (R q) es)
  removed_lookup [] distinct q = either_none (R k q) None refl
  removed_lookup (e ∷ es) distinct q = by (position (R k) (keys_of (e ∷ es))) refl
    where
      l : List (K × X)
      l = e ∷ es

      by : (p : Option ℕ) → position (R k) (keys_of (e ∷ es)) ≡ p → lookup (R q) (swap_remove_entry (R k) (e ∷ es)) ≡ (if R k q then None else lookup (R q) (e ∷ es))
      by None at = (none_out R o (R k) (o.congr k) l (swap_remove_entry (R k) l) at (swap_remove_entry-missing (R k) l at)).0 q
      by (Some i) at =
          let x : K × X = get_or l i e in
          let there = slice_get-get_or l i e (Found-position (R k) l i at).within in
          (swap_out R o (R k) (o.congr k) l i x at there distinct (swap_remove_entry (R k) l) (swap_remove_entry-found (R k) l i x at)).updated.0 q

-- what holds of all entries holds of those that are left
pub all_left : {K X : Type 0} (P : K × X → Type 0) (test : K → Bool) (es : List (K × X)) → AllByRecursion P es → AllByRecursion P (swap_remove_entry test es)
all_left P test [] h = tt
all_left {K} {X} P test (e ∷ es) h = by (position test (keys_of (e ∷ es))) refl
  where
    l : List (K × X)
    l = e ∷ es

    by : (p : Option ℕ) → position test (keys_of (e ∷ es)) ≡ p → AllByRecursion P (swap_remove_entry test (e ∷ es))
    by None at = subst (λ xs. AllByRecursion P xs) (sym (swap_remove_entry-missing test l at)) h
    by (Some i) at =
        let within : i < length l = (Found-position test l i at).within in
        let x : K × X = get_or l i e in
        let moved : IsPermutation l (x ∷ swap_remove l i x) = IsPermutation-swap_remove l i x within (get_or_default l i e x within) in
        let all : AllByRecursion P (x ∷ swap_remove l i x) = recursion_from_All P (x ∷ swap_remove l i x) (All-permutation P l (x ∷ swap_remove l i x) moved (All-from_recursion P l h)) in
        subst (λ xs. AllByRecursion P xs) (sym (swap_remove_entry-found test l i x at)) all.1

-- ---- one interface

pub left_after : (id : InterfaceId) (old : MetTypes) (interfaces : List (InterfaceId × Unit {0})) → IsDistinct same_interface.eq-value.it (keys_of old.interfaces) → interfaces ≡ swap_remove_entry (same_interface.eq-value.it id) old.interfaces → Leaves id old (record old { interfaces = interfaces; own = None })
left_after id old interfaces apart is = record {
  last = refl;
  own = refl;
  exported = refl;
  interfaces = λ other.
      ap is_some (ap (lookup (same_interface.eq-value.it other)) is ∙ removed_lookup same_interface.eq-value.it interface_laws id old.interfaces apart other)
      ∙ by (same_interface.eq-value.it id other) (lookup (same_interface.eq-value.it other) old.interfaces);
}
  where
    by : (b : Bool) (o : Option (Unit {0})) → is_some (if b then None else o) ≡ (if b then false else is_some o)
    by true o = refl
    by false o = refl

-- ---- one type

pub forgets : (types : List TypeDef) (id : TypeId) (kind : TypeDefKind) (old new : TypeEncodingMaps) → kind ≡ kind_at types id.index → IsDistinct same_id.eq-value.it (keys_of old.id_to_index) → IsDistinct same_kind.eq-value.it (keys_of old.def_to_index) → new ≡ without id kind old → Forgets types id old new
forgets types id kind old new of apart kinds_apart is = record {
  ids = λ q. ap (λ (m : TypeEncodingMaps). lookup (same_id.eq-value.it q) m.id_to_index) is ∙ removed_lookup same_id.eq-value.it id_laws id old.id_to_index apart q;
  kinds = λ q.
      ap (λ (m : TypeEncodingMaps). lookup (same_kind.eq-value.it q) m.def_to_index) is
      ∙ (removed_lookup same_kind.eq-value.it kind_laws kind old.def_to_index kinds_apart q
      ∙ ap (λ k. if same_kind.eq-value.it k q then None else lookup (same_kind.eq-value.it q) old.def_to_index) of);
}

-- tables that were right are right without a type of which it isn't known that it is in them
pub tables_left : (w : ComponentWorld) (met : MetTypes) (instances : List (InterfaceId × ℕ)) (ds : List Def) (id : TypeId) (kind : TypeDefKind) (old new : TypeEncodingMaps) → IsForgettable w met id → Forgets w.resolve.types id old new → new ≡ without id kind old → AreTablesRight w met instances ds old → AreTablesRight w met instances ds new
tables_left w met instances ds id kind old new may forgets is h = subst (λ maps. AreTablesRight w met instances ds maps) (sym is) left
  where
    s : Setting
    s = root_setting w None met

    gone : TypeEncodingMaps
    gone = without id kind old

    still : (j : TypeId) → IsTrue (s.met j) → is_some (lookup (same_id.eq-value.it j) gone.id_to_index) ≡ true
    still j e = ap (λ (m : TypeEncodingMaps). is_some (lookup (same_id.eq-value.it j) m.id_to_index)) (sym is) ∙ (ap is_some (forgets.ids j) ∙ by (same_id.eq-value.it id j) refl)
      where
        by : (b : Bool) → same_id.eq-value.it id j ≡ b → is_some (if b then None else lookup (same_id.eq-value.it j) old.id_to_index) ≡ true
        by true same = absurd (true≢false (sym e ∙ (ap (is_met w met) (sym (one_id id j same)) ∙ may.other)))
        by false apart = (h.met j e).there

    left : AreTablesRight w met instances ds gone
    left = record {
      offers = h.offers;
      ids = all_left (λ e. Denotes (scope_of ds) e.1 (OfValues (tree_in s (Some (Id e.0))))) (same_id.eq-value.it id) old.id_to_index h.ids;
      named = all_left (λ e. IsNamed s any_index e.0 e.1) (same_id.eq-value.it id) old.id_to_index h.named;
      kinds = all_left (λ e. (n : ℕ) → Denotes (scope_of ds) e.1 (OfValues (kind_tree s.origin n e.0 (map (tree_in s) (parts e.0))))) (same_kind.eq-value.it kind) old.def_to_index h.kinds;
      functions = h.functions;
      met = λ j e. record { there = still j e };
    }

-- ---- the types of a list

abbrev Listed : Type 0
Listed = List (List ℕ × TypeId)

abbrev is_gone : TypeEncodingMaps → List ℕ × TypeId → Type 0
is_gone maps e = lookup (same_id.eq-value.it e.1) maps.id_to_index ≡ None

abbrev is_kind_gone : List TypeDef → TypeEncodingMaps → List ℕ × TypeId → Type 0
is_kind_gone types maps e = lookup (same_kind.eq-value.it (kind_at types e.1.index)) maps.def_to_index ≡ None

-- the types before the rest are forgotten
pub record ForgetsSoFar (types : List TypeDef) (all rest : Listed) (maps : TypeEncodingMaps) : Type 0 where
  pub done : Listed
  pub split : done ++ rest ≡ all
  pub ids : AllByRecursion (is_gone maps) done
  pub kinds : AllByRecursion (is_kind_gone types maps) done

pub forgets_start : (types : List TypeDef) (all : Listed) (maps : TypeEncodingMaps) → ForgetsSoFar types all all maps
forgets_start types all maps = record { done = []; split = refl; ids = tt; kinds = tt }

none_still : {X : Type 0} (b : Bool) (x y : Option X) → y ≡ (if b then None else x) → x ≡ None → y ≡ None
none_still true x y is none = is
none_still false x y is none = is ∙ none

none_now : {X : Type 0} (b : Bool) (x y : Option X) → b ≡ true → y ≡ (if b then None else x) → y ≡ None
none_now true x y e is = is
none_now false x y e is = absurd (true≢false (sym e))

pub forgets_step : (types : List TypeDef) (all rest : Listed) (e : List ℕ × TypeId) (old new : TypeEncodingMaps) → ForgetsSoFar types all (e ∷ rest) old → Forgets types e.1 old new → ForgetsSoFar types all rest new
forgets_step types all rest e old new h f = record {
  done = h.done ++ e ∷ [];
  split = append_assoc h.done (e ∷ []) rest ∙ h.split;
  ids = AllByRecursion-push (is_gone new) h.done e
      (AllByRecursion-weaker (λ d none. none_still (same_id.eq-value.it e.1 d.1) (lookup (same_id.eq-value.it d.1) old.id_to_index) (lookup (same_id.eq-value.it d.1) new.id_to_index) (f.ids d.1) none) h.done h.ids)
      (none_now (same_id.eq-value.it e.1 e.1) (lookup (same_id.eq-value.it e.1) old.id_to_index) (lookup (same_id.eq-value.it e.1) new.id_to_index) (id_laws.refl e.1) (f.ids e.1));
  kinds = AllByRecursion-push (is_kind_gone types new) h.done e
      (AllByRecursion-weaker (λ d none. none_still (same_kind.eq-value.it (kind_at types e.1.index) (kind_at types d.1.index)) (lookup (same_kind.eq-value.it (kind_at types d.1.index)) old.def_to_index) (lookup (same_kind.eq-value.it (kind_at types d.1.index)) new.def_to_index) (f.kinds (kind_at types d.1.index)) none) h.done h.kinds)
      (none_now (same_kind.eq-value.it (kind_at types e.1.index) (kind_at types e.1.index)) (lookup (same_kind.eq-value.it (kind_at types e.1.index)) old.def_to_index) (lookup (same_kind.eq-value.it (kind_at types e.1.index)) new.def_to_index) (kind_laws.refl (kind_at types e.1.index)) (f.kinds (kind_at types e.1.index)));
}

all_mapped : {A B : Type 0} (P : B → Type 0) (f : A → B) (xs : List A) → AllByRecursion (λ x. P (f x)) xs → AllByRecursion P (map f xs)
all_mapped P f [] h = tt
all_mapped P f (x ∷ xs) h = (h.0, all_mapped P f xs h.1)

pub forgets_end : (types : List TypeDef) (all : Listed) (maps : TypeEncodingMaps) → ForgetsSoFar types all [] maps → AreForgotten types (map (λ e. e.1) all) maps
forgets_end types all maps h =
    let whole : h.done ≡ all = sym (append-nil h.done) ∙ h.split in
    record {
      ids = all_mapped (λ id. lookup (same_id.eq-value.it id) maps.id_to_index ≡ None) (λ e. e.1) all (subst (λ es. AllByRecursion (is_gone maps) es) whole h.ids);
      kinds = all_mapped (λ id. lookup (same_kind.eq-value.it (kind_at types id.index)) maps.def_to_index ≡ None) (λ e. e.1) all (subst (λ es. AllByRecursion (is_kind_gone types maps) es) whole h.kinds);
    }

-- the next type is one of those of which all are known to be such
pub forgets_next : (P : List ℕ × TypeId → Type 0) (types : List TypeDef) (all rest : Listed) (e : List ℕ × TypeId) (maps : TypeEncodingMaps) → AllByRecursion P all → ForgetsSoFar types all (e ∷ rest) maps → P e
forgets_next P types all rest e maps each h = at h.done (subst (λ es. AllByRecursion P es) (sym h.split) each)
  where
    at : (done : Listed) → AllByRecursion P (done ++ e ∷ rest) → P e
    at [] a = a.0
    at (d ∷ ds) a = at ds a.1
