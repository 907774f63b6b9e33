-- Tables of aliases of types that instances of imported interfaces export.
use Rattle.std.proofs.Common.{rules, ◌≡◌, ◌∙◌, ap, sym, subst, refl, ℕ, Bool, true, false, true≢false, cond, List, [], ◌∷◌, ◌++◌, append_assoc, append-nil, Some, None, is_some, if◌then◌else◌}
use Rattle.std.specs.List.{AllByRecursion}
use Rattle.std.specs.Map.{lookup}
use Rattle.comp_lists.specs.Tables.{with_first}
use Rattle.comp_lists.proofs.Lists.{AllByRecursion-back, AllByRecursion-weaker, AllByRecursion-push}
use Rattle.comp_builder.specs.Built.{Built}
use Rattle.comp_trees.specs.DefinedScopes.{Denotes}
use Rattle.comp_inventories.specs.Inventories.{scope_of}
use Rattle.wit_data.specs.contracts.ids.InterfaceIdPartialEq.TheImpl as same_id
use Rattle.wit_data.specs.declared.ids.InterfaceId.{InterfaceId}
use Rattle.wit_types.proofs.Growing.{denotes_on}
use Rattle.type_scopes.specs.Foreign.{with_each}
use Rattle.type_scopes.proofs.Meeting.{listed_all}
use Rattle.type_scopes.specs.Offers.{IsOfferedType}
use Rattle.type_scopes.specs.contracts.outer_type.OuterTypePartialEq.TheImpl as same_type
use Rattle.type_scopes.specs.declared.outer_type.OuterType.{OuterType}
use Rattle.comp_worlds.specs.declared.world.ComponentWorld.{ComponentWorld}
use Rattle.comp_links.specs.Lists.{type_of_world}
use Rattle.comp_terms.specs.Rules.{Grows}
use Rattle.comp_items.specs.Items.{Extends}
use Rattle.comp_items.proofs.Extending.{extends_none, extends_then}
use Rattle.interface_needs.specs.Needs.{IsMetEarlier}
use Rattle.root_imports.specs.Growing.{FindsInterfaces-kept, Grows-none, Grows-then, longer_by}
use Rattle.comp_imports.specs.Interfaces.{AddsType, AreEarlierFound, AreOffered, IsOfferable, offer_of}
use Rattle.root_imports.specs.Interfaces.{FindsInterfaces}
use Rattle.root_imports.proofs.ExportedTypes.{is_there}
use Rattle.root_imports.proofs.Growth.{scope_longer}
use Rattle.root_imports.proofs.NeededNames.{needed_named}

-- ---- which types can be aliased

-- a type that is met in the type of an instance is one of an interface that is imported before it
offerable : (w : ComponentWorld) (instances : List (InterfaceId × ℕ)) (id : InterfaceId) (t : OuterType) → AreEarlierFound w instances id → IsMetEarlier w id t → IsOfferable w instances t
offerable w instances id t earlier h = record {
  found = is_there (lookup (same_id.eq-value.it t.interface) instances) (earlier.each t.interface h.earlier (needed_named w t.interface t.id.index h.needed.needed));
  needed = h.needed.needed;
}

of_each : (P : OuterType → Type 0) (table : List (OuterType × Unit {0})) (ts : List OuterType) → AllByRecursion (λ e. P e.0) table → AllByRecursion P ts → AllByRecursion (λ e. P e.0) (with_each table ts)
of_each P table [] h k = h
of_each P table (t ∷ ts) h k = of_each P (with_first same_type.eq-value.it table t tt) ts (by (is_some (lookup (same_type.eq-value.it t) table))) k.1
  where
    by : (b : Bool) → AllByRecursion (λ (e : OuterType × Unit {0}). P e.0) (if b then table else table ++ (t, tt) ∷ [])
    by true = h
    by false = AllByRecursion-push (λ (e : OuterType × Unit {0}). P e.0) table (t, tt) h k.0

pub all_offerable : (w : ComponentWorld) (instances : List (InterfaceId × ℕ)) (id : InterfaceId) (ts : List OuterType) → AreEarlierFound w instances id → AllByRecursion (IsMetEarlier w id) ts → AllByRecursion (λ e. IsOfferable w instances e.0) (with_each [] ts)
all_offerable w instances id ts earlier h = of_each (IsOfferable w instances) [] ts tt (AllByRecursion-weaker (λ t m. offerable w instances id t earlier m) ts h)

-- ---- a table with one alias more

table_kept : (w : ComponentWorld) (old new : Built) (table : List (OuterType × ℕ)) → Extends old new → AreOffered w old.defs table → AreOffered w new.defs table
table_kept w old new table g h = record { each = AllByRecursion-weaker (λ e d. denotes_on (scope_longer old new g) d) table h.each }

pub offered_added : (w : ComponentWorld) (old new : Built) (before after : List (OuterType × ℕ)) (t : OuterType) (index : ℕ) → Extends old new → AreOffered w old.defs before → after ≡ with_first same_type.eq-value.it before t index → Denotes (scope_of new.defs) index (type_of_world w t.id) →
    AreOffered w new.defs after
offered_added w old new before after t index g h same d =
    subst (AreOffered w new.defs) (sym same) (record { each = by (is_some (lookup (same_type.eq-value.it t) before)) })
  where
    P : OuterType × ℕ → Type 0
    P e = Denotes (scope_of new.defs) e.1 (type_of_world w e.0.id)

    kept : AllByRecursion P before
    kept = (table_kept w old new before g h).each

    by : (b : Bool) → AllByRecursion P (if b then before else before ++ (t, index) ∷ [])
    by true = kept
    by false = AllByRecursion-push P before (t, index) kept d

found_append : (table more : List (OuterType × ℕ)) (q : OuterType) → is_some (lookup (same_type.eq-value.it q) table) ≡ true → is_some (lookup (same_type.eq-value.it q) (table ++ more)) ≡ true
found_append [] more q h = cc
found_append (e ∷ es) more q h = by (same_type.eq-value.it q e.0) h (found_append es more q)
  where
    by : (b : Bool) → is_some (cond b (Some e.1) (lookup (same_type.eq-value.it q) es)) ≡ true → (is_some (lookup (same_type.eq-value.it q) es) ≡ true → is_some (lookup (same_type.eq-value.it q) (es ++ more)) ≡ true)
        → is_some (cond b (Some e.1) (lookup (same_type.eq-value.it q) (es ++ more))) ≡ true
    by true h rest = refl
    by false h rest = rest h

itself : (q : OuterType) → same_type.eq-value.it q q ≡ true
itself q = search rules

found_last : (table : List (OuterType × ℕ)) (q : OuterType) (index : ℕ) → is_some (lookup (same_type.eq-value.it q) (table ++ (q, index) ∷ [])) ≡ true
found_last [] q index = ap (λ b. is_some (cond b (Some index) None)) (itself q)
found_last (e ∷ es) q index = by (same_type.eq-value.it q e.0) (found_last es q index)
  where
    by : (b : Bool) → is_some (lookup (same_type.eq-value.it q) (es ++ (q, index) ∷ [])) ≡ true → is_some (cond b (Some e.1) (lookup (same_type.eq-value.it q) (es ++ (q, index) ∷ []))) ≡ true
    by true rest = refl
    by false rest = rest

pub adds_type : (before after : List (OuterType × ℕ)) (t : OuterType) (index : ℕ) → after ≡ with_first same_type.eq-value.it before t index → AddsType before after t
adds_type before after t index same = record {
  there = subst (λ l. is_some (lookup (same_type.eq-value.it t) l) ≡ true) (sym same) (here (is_some (lookup (same_type.eq-value.it t) before)) refl);
  still = λ other h. subst (λ l. is_some (lookup (same_type.eq-value.it other) l) ≡ true) (sym same) (later other (is_some (lookup (same_type.eq-value.it t) before)) h);
}
  where
    here : (b : Bool) → is_some (lookup (same_type.eq-value.it t) before) ≡ b → is_some (lookup (same_type.eq-value.it t) (if b then before else before ++ (t, index) ∷ [])) ≡ true
    here true e = e
    here false e = found_last before t index

    later : (other : OuterType) (b : Bool) → is_some (lookup (same_type.eq-value.it other) before) ≡ true → is_some (lookup (same_type.eq-value.it other) (if b then before else before ++ (t, index) ∷ [])) ≡ true
    later other true h = h
    later other false h = found_append before ((t, index) ∷ []) other h

-- ---- the loop

-- the types that were passed so far, and the aliases that were made of them
pub record OuterSoFar (w : ComponentWorld) (old new : Built) (instances : List (InterfaceId × ℕ)) (all : List (OuterType × Unit {0})) (table : List (OuterType × ℕ)) (rest : List (OuterType × Unit {0})) : Type 0 where
  pub done : List (OuterType × Unit {0})
  pub split : done ++ rest ≡ all
  pub extends : Extends old new
  pub grows : Grows w old.defs new.defs []
  pub finds : FindsInterfaces w new.defs instances
  pub offered : AreOffered w new.defs table
  pub there : AllByRecursion (λ e. is_some (lookup (same_type.eq-value.it e.0) table) ≡ true) done

pub outer_start : (w : ComponentWorld) (old : Built) (instances : List (InterfaceId × ℕ)) (all : List (OuterType × Unit {0})) → FindsInterfaces w old.defs instances → OuterSoFar w old old instances all [] all
outer_start w old instances all finds = record { done = []; split = refl; extends = extends_none old; grows = Grows-none w old.defs; finds = finds; offered = record { each = tt }; there = tt }

pub outer_step : (w : ComponentWorld) (old mid new : Built) (instances : List (InterfaceId × ℕ)) (all : List (OuterType × Unit {0})) (before after : List (OuterType × ℕ)) (t : OuterType) (u : Unit {0}) (rest : List (OuterType × Unit {0})) → OuterSoFar w old mid instances all before ((t, u) ∷ rest) →
    Extends mid new → Grows w mid.defs new.defs [] → AreOffered w new.defs after → AddsType before after t → OuterSoFar w old new instances all after rest
outer_step w old mid new instances all before after t u rest h extends grows offered adds = record {
  done = h.done ++ (t, u) ∷ [];
  split = append_assoc h.done ((t, u) ∷ []) rest ∙ h.split;
  extends = extends_then old mid new h.extends extends;
  grows = Grows-then h.grows grows;
  finds = FindsInterfaces-kept (longer_by grows) h.finds;
  offered = offered;
  there = AllByRecursion-push (λ (e : OuterType × Unit {0}). is_some (lookup (same_type.eq-value.it e.0) after) ≡ true) h.done (t, u) (AllByRecursion-weaker (λ e k. adds.still e.0 k) h.done h.there) adds.there;
}

-- the next type may be aliased
pub next_offerable : (w : ComponentWorld) (old mid : Built) (instances : List (InterfaceId × ℕ)) (all : List (OuterType × Unit {0})) (table : List (OuterType × ℕ)) (t : OuterType) (u : Unit {0}) (rest : List (OuterType × Unit {0})) → AllByRecursion (λ e. IsOfferable w instances e.0) all →
    OuterSoFar w old mid instances all table ((t, u) ∷ rest) → IsOfferable w instances t
next_offerable w old mid instances all table t u rest each h = (AllByRecursion-back (λ (e : OuterType × Unit {0}). IsOfferable w instances e.0) h.done ((t, u) ∷ rest) (subst (AllByRecursion (λ (e : OuterType × Unit {0}). IsOfferable w instances e.0)) (sym h.split) each)).0

-- a type that is listed among others is found
listed_there : (table : List (OuterType × ℕ)) (all : List (OuterType × Unit {0})) (t : OuterType) → AllByRecursion (λ e. is_some (lookup (same_type.eq-value.it e.0) table) ≡ true) all → is_some (lookup (same_type.eq-value.it t) all) ≡ true →
    is_some (lookup (same_type.eq-value.it t) table) ≡ true
listed_there table [] t h e = absurd (true≢false (sym e))
listed_there table (x ∷ xs) t h e = by (same_type.eq-value.it t x.0) refl e (listed_there table xs t h.1)
  where
    one : (a b : OuterType) → same_type.eq-value.it a b ≡ true → a ≡ b
    one a b e = search rules

    by : (b : Bool) → same_type.eq-value.it t x.0 ≡ b → is_some (cond b (Some x.1) (lookup (same_type.eq-value.it t) xs)) ≡ true → (is_some (lookup (same_type.eq-value.it t) xs) ≡ true → is_some (lookup (same_type.eq-value.it t) table) ≡ true) → is_some (lookup (same_type.eq-value.it t) table) ≡ true
    by true same e later = subst (λ q. is_some (lookup (same_type.eq-value.it q) table) ≡ true) (sym (one t x.0 same)) h.0
    by false apart e later = later e

-- at the end, each type is found
pub outer_passed : (w : ComponentWorld) (old new : Built) (instances : List (InterfaceId × ℕ)) (all : List (OuterType × Unit {0})) (table : List (OuterType × ℕ)) → OuterSoFar w old new instances all table [] → AllByRecursion (λ e. is_some (lookup (same_type.eq-value.it e.0) table) ≡ true) all
outer_passed w old new instances all table h = subst (AllByRecursion (λ (e : OuterType × Unit {0}). is_some (lookup (same_type.eq-value.it e.0) table) ≡ true)) (sym (append-nil h.done) ∙ h.split) h.there

-- so the table offers what was met
pub all_offered : (w : ComponentWorld) (ts : List OuterType) (table : List (OuterType × ℕ)) → AllByRecursion (λ e. is_some (lookup (same_type.eq-value.it e.0) table) ≡ true) (with_each [] ts) → AllByRecursion (IsOfferedType (offer_of w table)) ts
all_offered w ts table there = AllByRecursion-weaker (λ t l. record { there = listed_there table (with_each [] ts) t there l.there }) ts (listed_all [] ts)
