-- A table of types of other interfaces that gets those that are met.
use Rattle.std.proofs.Common.{◌≡◌, ◌∙◌, ◌+◌, ◌<◌, ◌≤◌, ℕ, Bool, true, false, true≢false, List, [], ◌∷◌, ◌++◌, length, drop, refl, ap, sym, subst, Option, Some, None, is_some, get_or, cond, if◌then◌else◌, rules}
use Rattle.std.specs.List.{AllByRecursion, flat_map}
use Rattle.std.specs.Map.{lookup}
use Rattle.comp_lists.specs.Tables.{with_first}
use Rattle.comp_lists.proofs.Lists.{AllByRecursion-weaker}
use Rattle.wit_data.specs.declared.ids.InterfaceId.{InterfaceId}
use Rattle.wit_data.specs.declared.ids.TypeId.{TypeId}
use Rattle.wit_data.specs.declared.types.TypeDef.{TypeDef}
use Rattle.wit_data.specs.declared.functions.Function.{Function}
use Rattle.wit_data.specs.declared.types.TypeOwner.{TypeOwner}
use Rattle.std.proofs.lemmas.Grind.{flat_map-append}
use Rattle.std.proofs.lemmas.List.Concat.{flat_map-cons}
use Rattle.type_scopes.specs.Interfaces.{used_function, used_among}
use Rattle.wit_data.specs.contracts.ids.TypeIdPartialEq.TheImpl as same_id
use Rattle.wit_data.specs.Parts.{RefersBack}
use Rattle.wit_data.specs.Values.{values, part_values}
use Rattle.wit_data.proofs.Values.{made_whole}
use Rattle.wit_data.proofs.Counts.{drop_next, drop_all}
use Rattle.wit_types.specs.Allowing.{foreign}
use Rattle.wit_types.specs.Settings.{owner_at}
use Rattle.wit_types.proofs.Growing.{holds_of_found, holds_of_added}
use Rattle.wit_types.proofs.SameKeys.{one_id}
use Rattle.type_scopes.specs.Foreign.{meeting, with_each, IsListed, KnowsEntered}
use Rattle.type_scopes.specs.declared.other_interfaces.ForeignTypes.{ForeignTypes}
use Rattle.type_scopes.specs.declared.outer_type.OuterType.{OuterType}
use Rattle.type_scopes.specs.contracts.outer_type.OuterTypePartialEq.TheImpl as same_type

-- what is met in the type of a number with these parts, where this other interface owns it, or none does
abbrev met_by : ℕ → List (List OuterType) → Option InterfaceId → List OuterType
met_by id parts None = flat_map (λ ts. ts) parts
met_by id parts (Some other) = record { interface = other; id = record { index = id } } ∷ []

abbrev Table : Type 0
Table = List (OuterType × Unit {0})

-- what is found is found in a longer table
found_append : (table more : Table) (q : OuterType) → is_some (lookup (same_type.eq-value.it q) table) ≡ true → is_some (lookup (same_type.eq-value.it q) (table ++ more)) ≡ true
found_append [] more q h = cc
found_append (e ∷ es) more q h = by (same_type.eq-value.it q e.0) h (found_append es more q)
  where
    by : (b : Bool) → is_some (cond b (Some e.1) (lookup (same_type.eq-value.it q) es)) ≡ true → (is_some (lookup (same_type.eq-value.it q) es) ≡ true → is_some (lookup (same_type.eq-value.it q) (es ++ more)) ≡ true)
        → is_some (cond b (Some e.1) (lookup (same_type.eq-value.it q) (es ++ more))) ≡ true
    by true h rest = refl
    by false h rest = rest h

found_last : (table : Table) (q : OuterType) → same_type.eq-value.it q q ≡ true → is_some (lookup (same_type.eq-value.it q) (table ++ (q, tt) ∷ [])) ≡ true
found_last [] q same = ap (λ b. is_some (cond b (Some tt) None)) same
found_last (e ∷ es) q same = by (same_type.eq-value.it q e.0) (found_last es q same)
  where
    by : (b : Bool) → is_some (lookup (same_type.eq-value.it q) (es ++ (q, tt) ∷ [])) ≡ true → is_some (cond b (Some e.1) (lookup (same_type.eq-value.it q) (es ++ (q, tt) ∷ []))) ≡ true
    by true rest = refl
    by false rest = rest

itself : (q : OuterType) → same_type.eq-value.it q q ≡ true
itself q = search rules

listed_first : (table : Table) (k t : OuterType) → IsListed table t → IsListed (with_first same_type.eq-value.it table k tt) t
listed_first table k t h = record { there = by (is_some (lookup (same_type.eq-value.it k) table)) }
  where
    by : (b : Bool) → is_some (lookup (same_type.eq-value.it t) (if b then table else table ++ (k, tt) ∷ [])) ≡ true
    by true = h.there
    by false = found_append table ((k, tt) ∷ []) t h.there

listed_here : (table : Table) (k : OuterType) → IsListed (with_first same_type.eq-value.it table k tt) k
listed_here table k = record { there = by (is_some (lookup (same_type.eq-value.it k) table)) refl }
  where
    by : (b : Bool) → is_some (lookup (same_type.eq-value.it k) table) ≡ b → is_some (lookup (same_type.eq-value.it k) (if b then table else table ++ (k, tt) ∷ [])) ≡ true
    by true e = e
    by false e = found_last table k (itself k)

pub listed_more : (table : Table) (ts : List OuterType) (t : OuterType) → IsListed table t → IsListed (with_each table ts) t
listed_more table [] t h = h
listed_more table (x ∷ xs) t h = listed_more (with_first same_type.eq-value.it table x tt) xs t (listed_first table x t h)

pub listed_all : (table : Table) (ts : List OuterType) → AllByRecursion (IsListed (with_each table ts)) ts
listed_all table [] = tt
listed_all table (x ∷ xs) = (listed_more (with_first same_type.eq-value.it table x tt) xs x (listed_here table x), listed_all (with_first same_type.eq-value.it table x tt) xs)

-- what is listed adds nothing
pub with_known : (table : Table) (ts : List OuterType) → AllByRecursion (IsListed table) ts → with_each table ts ≡ table
with_known table [] h = refl
with_known table (x ∷ xs) h =
    ap (λ t. with_each t xs) (ap (λ b. if b then table else table ++ (x, tt) ∷ []) h.0.there) ∙ with_known table xs h.1

pub with_both : (table : Table) (xs ys : List OuterType) → with_each table (xs ++ ys) ≡ with_each (with_each table xs) ys
with_both table [] ys = refl
with_both table (x ∷ xs) ys = with_both (with_first same_type.eq-value.it table x tt) xs ys

-- ---- a loop over lists

pub record MetSoFar (old now : Table) (n : ℕ) (found : List (List OuterType)) : Type 0 where
  pub so_far : with_each now (flat_map (λ ts. ts) (drop n found)) ≡ with_each old (flat_map (λ ts. ts) found)

pub met_start : (old : Table) (found : List (List OuterType)) → MetSoFar old old 0 found
met_start old found = record { so_far = refl }

pub met_step : (old now next : Table) (n : ℕ) (found : List (List OuterType)) → n < length found → next ≡ with_each now (get_or found n []) → MetSoFar old now n found → MetSoFar old next (n + 1) found
met_step old now next n found l is h =
    let rest = flat_map (λ ts. ts) (drop (n + 1) found) in
    record {
      so_far = ap (λ t. with_each t rest) is
          ∙ (sym (with_both now (get_or found n []) rest) ∙ (sym (ap (λ fs. with_each now (flat_map (λ ts. ts) fs)) (drop_next found n [] l)) ∙ h.so_far));
    }

pub met_end : (old now : Table) (n : ℕ) (found : List (List OuterType)) → length found ≤ n → MetSoFar old now n found → now ≡ with_each old (flat_map (λ ts. ts) found)
met_end old now n found e h = sym (ap (λ fs. with_each now (flat_map (λ ts. ts) fs)) (drop_all found n e)) ∙ h.so_far

-- a loop over items, in each of which something is met
pub record ItemsMet {X : Type 0} (f : X → List OuterType) (old now : Table) (n : ℕ) (items : List X) : Type 0 where
  pub so_far : with_each now (flat_map f (drop n items)) ≡ with_each old (flat_map f items)

pub items_start : {X : Type 0} (f : X → List OuterType) (old : Table) (items : List X) → ItemsMet f old old 0 items
items_start f old items = record { so_far = refl }

pub items_step : {X : Type 0} (f : X → List OuterType) (old now next : Table) (n : ℕ) (items : List X) (d : X) → n < length items → next ≡ with_each now (f (get_or items n d)) → ItemsMet f old now n items → ItemsMet f old next (n + 1) items
items_step f old now next n items d l is h =
    let rest = flat_map f (drop (n + 1) items) in
    record {
      so_far = ap (λ t. with_each t rest) is
          ∙ (sym (with_both now (f (get_or items n d)) rest) ∙ (sym (ap (λ xs. with_each now (flat_map f xs)) (drop_next items n d l)) ∙ h.so_far));
    }

pub items_end : {X : Type 0} (f : X → List OuterType) (old now : Table) (n : ℕ) (items : List X) → length items ≤ n → ItemsMet f old now n items → now ≡ with_each old (flat_map f items)
items_end f old now n items e h = sym (ap (λ xs. with_each now (flat_map f xs)) (drop_all items n e)) ∙ h.so_far

-- ---- types that were entered

-- a type that was entered adds nothing
pub entered_before : (types : List TypeDef) (here : InterfaceId) (met : ForeignTypes) (id : TypeId) (there : Bool) → KnowsEntered types here met → there ≡ is_some (lookup (same_id.eq-value.it id) met.entered) → there ≡ true →
    met.types ≡ with_each met.types (get_or (values (meeting types here) types) id.index [])
entered_before types here met id there h is found = sym (with_known met.types (get_or (values (meeting types here) types) id.index []) (by (lookup (same_id.eq-value.it id) met.entered) refl))
  where
    by : (o : Option (Unit {0})) → lookup (same_id.eq-value.it id) met.entered ≡ o → AllByRecursion (IsListed met.types) (get_or (values (meeting types here) types) id.index [])
    by None e = let no = ap is_some (sym e) ∙ (sym is ∙ found) in absurd (true≢false (sym no))
    by (Some x) e = holds_of_found same_id.eq-value.it one_id (λ p. AllByRecursion (IsListed met.types) (get_or (values (meeting types here) types) p.0.index [])) id met.entered x h.each e

-- a type is entered
pub entered_now : (types : List TypeDef) (here : InterfaceId) (old mid new : ForeignTypes) (id : TypeId) → KnowsEntered types here mid → mid.types ≡ with_each old.types (get_or (values (meeting types here) types) id.index []) →
    new.types ≡ mid.types → new.entered ≡ with_first same_id.eq-value.it mid.entered id tt → KnowsEntered types here new
entered_now types here old mid new id h met same is =
    let P : List (OuterType × Unit {0}) → TypeId × Unit {0} → Type 0 = λ table e. AllByRecursion (IsListed table) (get_or (values (meeting types here) types) e.0.index []) in
    let here_listed : P mid.types (id, tt) = subst (λ table. AllByRecursion (IsListed table) (get_or (values (meeting types here) types) id.index [])) (sym met) (listed_all old.types (get_or (values (meeting types here) types) id.index [])) in
    record {
      each = subst (λ table. AllByRecursion (P table) new.entered) (sym same)
          (subst (λ es. AllByRecursion (P mid.types) es) (sym is) (holds_of_added same_id.eq-value.it (P mid.types) mid.entered id tt h.each here_listed));
    }

-- a type of another interface is met
pub entered_kept : (types : List TypeDef) (here : InterfaceId) (old new : ForeignTypes) (ts : List OuterType) → KnowsEntered types here old → new.types ≡ with_each old.types ts → new.entered ≡ old.entered → KnowsEntered types here new
entered_kept types here old new ts h met same =
    let P : List (OuterType × Unit {0}) → TypeId × Unit {0} → Type 0 = λ table e. AllByRecursion (IsListed table) (get_or (values (meeting types here) types) e.0.index []) in
    let later : (e : TypeId × Unit {0}) → P old.types e → P (with_each old.types ts) e = λ e k. AllByRecursion-weaker (λ t l. listed_more old.types ts t l) (get_or (values (meeting types here) types) e.0.index []) k in
    record {
      each = subst (λ table. AllByRecursion (P table) new.entered) (sym met) (subst (λ es. AllByRecursion (P (with_each old.types ts)) es) (sym same) (AllByRecursion-weaker later old.entered h.each));
    }

-- what is met in a type, by its owner
met_inside : (types : List TypeDef) (here : InterfaceId) (id : ℕ) (owner : TypeOwner) (o : Option InterfaceId) → RefersBack types → id < length types → owner ≡ owner_at types id → o ≡ foreign (Some here) owner →
    get_or (values (meeting types here) types) id [] ≡ met_by id (part_values (meeting types here) types id) o
met_inside types here id owner o back l is of =
    made_whole (meeting types here) types id back l ∙ ap (met_by id (part_values (meeting types here) types id)) (sym (of ∙ ap (foreign (Some here)) is))

pub met_other : (types : List TypeDef) (here other : InterfaceId) (id : ℕ) (owner : TypeOwner) (o : Option InterfaceId) → RefersBack types → id < length types → owner ≡ owner_at types id → o ≡ foreign (Some here) owner → o ≡ Some other →
    get_or (values (meeting types here) types) id [] ≡ record { interface = other; id = record { index = id } } ∷ []
met_other types here other id owner o back l is of found = met_inside types here id owner o back l is of ∙ ap (met_by id (part_values (meeting types here) types id)) found

pub met_own : (types : List TypeDef) (here : InterfaceId) (id : ℕ) (owner : TypeOwner) (o : Option InterfaceId) → RefersBack types → id < length types → owner ≡ owner_at types id → o ≡ foreign (Some here) owner → o ≡ None →
    get_or (values (meeting types here) types) id [] ≡ flat_map (λ ts. ts) (part_values (meeting types here) types id)
met_own types here id owner o back l is of none = met_inside types here id owner o back l is of ∙ ap (met_by id (part_values (meeting types here) types id)) none

-- one entry of functions more
pub functions_met : (f : Function → List OuterType) (used : List (List ℕ × Unit {0})) (now next : Table) (entry : List ℕ × Function) (rest : List (List ℕ × Function)) → next ≡ with_each now (flat_map f (used_function used entry)) →
    with_each next (flat_map f (used_among used rest)) ≡ with_each now (flat_map f (used_among used (entry ∷ rest)))
functions_met f used now next entry rest is =
    ap (λ t. with_each t (flat_map f (used_among used rest))) is
    ∙ (sym (with_both now (flat_map f (used_function used entry)) (flat_map f (used_among used rest)))
    ∙ ap (with_each now) (sym (flat_map-append f (used_function used entry) (used_among used rest)) ∙ ap (flat_map f) (sym (flat_map-cons (used_function used) entry rest))))
