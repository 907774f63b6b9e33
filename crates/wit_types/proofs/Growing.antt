-- What holds in a scope holds after it grew, and what is found in a table keeps what its entries keep.
use Rattle.std.proofs.Common.{◌≡◌, ℕ, Bool, true, false, List, [], ◌∷◌, ◌++◌, map, refl, ap, subst, ◌∙◌, sym, arith, append_assoc, append-nil, Option, Some, None, cond, if◌then◌else◌, is_some, true≢false}
use Rattle.std.specs.List.{AllByRecursion}
use Rattle.std.specs.Option.{IfSome}
use Rattle.std.specs.Prelude.{IfOk, OnOk, OnErr, Result, Ok, Err}
use Rattle.std.proofs.lemmas.Bool.Decides.{Decides-eqb}
use Rattle.byte_encoding.specs.declared.fault.BuildFault.{BuildFault}
use Rattle.std.specs.Map.{lookup}
use Rattle.std.proofs.lemmas.List.{length-append, get_or_append_left}
use Rattle.comp_lists.specs.Tables.{with_first}
use Rattle.comp_lists.proofs.Lists.{AllByRecursion-push, AllByRecursion-weaker}
use Rattle.comp_bytes.specs.declared.types.ComponentValType.{ComponentValType}
use Rattle.comp_bytes.specs.declared.types.ComponentValType.TheVariants as values
use Rattle.comp_trees.specs.Trees.{Tree}
use Rattle.comp_trees.specs.DefinedTrees.{TypeTree, OfValues, OfFunctions, OfOthers}
use Rattle.wit_data.specs.declared.ids.TypeId.{TypeId}
use Rattle.wit_data.specs.declared.ids.InterfaceId.{InterfaceId}
use Rattle.wit_data.specs.declared.types.TypeDef.{TypeDef}
use Rattle.wit_data.specs.declared.types.Type.TheVariants.{Id}
use Rattle.wit_types.specs.declared.maps.TypeEncodingMaps.{TypeEncodingMaps}
use Rattle.wit_types.specs.Settings.{Setting, tree_in, owner_at, name_at}
use Rattle.comp_trees.specs.DefinedScopes.{Denotes}
use Rattle.wit_types.specs.Denoting.{Longer, AddsOne, ValueDenotes, Makes, MayMake}
use Rattle.wit_types.specs.Maps.{no_maps, Faithful, HasIndex, IsNamed, NamedAs, key_tree}
use Rattle.wit_types.specs.Allowing.{foreign}
use Rattle.wit_types.proofs.SameKeys.{IsOne, one_id, one_kind, one_key}
use Rattle.wit_data.specs.declared.types.TypeDefKind.{TypeDefKind}
use Rattle.wit_data.specs.Parts.{parts}
use Rattle.comp_trees.specs.WitTrees.{kind_tree}
use Rattle.wit_data.specs.contracts.ids.TypeIdPartialEq.TheImpl as id_eq
use Rattle.wit_data.specs.contracts.types.TypeDefKindPartialEq.TheImpl as kind_eq
use Rattle.wit_types.specs.declared.maps.FuncTypeKey.{FuncTypeKey}
use Rattle.wit_types.specs.contracts.maps.FuncTypeKeyPartialEq.TheImpl as key_eq

pub longer_none : (ts : List TypeTree) → Longer ts ts
longer_none ts = record { more = []; longer = sym (append-nil ts) }

pub longer_on : {a b c : List TypeTree} → Longer a b → Longer b c → Longer a c
longer_on {a = a} g h = record { more = g.more ++ h.more; longer = h.longer ∙ (ap (λ m. m ++ h.more) g.longer ∙ append_assoc a g.more h.more) }

pub longer_one : {old new : List TypeTree} {t : TypeTree} → AddsOne old new t → Longer old new
longer_one {t = t} h = record { more = t ∷ []; longer = h.added }

pub longer_same : {old new : List TypeTree} → new ≡ old → Longer old new
longer_same {old = old} e = record { more = []; longer = e ∙ sym (append-nil old) }

pub denotes_on : {old new : List TypeTree} {i : ℕ} {t : TypeTree} → Longer old new → Denotes old i t → Denotes new i t
denotes_on {old = old} {new = new} {i = i} {t = t} g d =
    subst (λ ts. Denotes ts i t) (sym g.longer)
    (record {
      within = let s = d.within in omega (arith, s, length-append old g.more);
      tree = get_or_append_left old g.more OfOthers i d.within ∙ d.tree;
    })

pub denotes_as : {old new : List TypeTree} {i : ℕ} {t u : TypeTree} → Denotes old i t → new ≡ old → t ≡ u → Denotes new i u
denotes_as {old = old} {new = new} {i = i} {t = t} {u = u} d e f = subst (λ ts. Denotes ts i u) (sym e) (subst (λ v. Denotes old i v) f d)

pub value_of_index : {scope : List TypeTree} {i : ℕ} {t : Tree} → Denotes scope i (OfValues t) → ValueDenotes scope (values.Defined i) t
value_of_index d = record { is = d }

pub value_on : {old new : List TypeTree} {v : ComponentValType} {t : Tree} → Longer old new → ValueDenotes old v t → ValueDenotes new v t
value_on {v = values.Primitive p} g d = record { is = d.is }
value_on {v = values.Defined i} g d = record { is = denotes_on g d.is }

named_as_on : (N M : List ℕ → ℕ → Type 0) → ((name : List ℕ) (i : ℕ) → N name i → M name i) → (other : Option InterfaceId) (name : Option (List ℕ)) (i : ℕ) → NamedAs N other name i → NamedAs M other name i
named_as_on N M kept (Some other) name i h = tt
named_as_on N M kept None None i h = tt
named_as_on N M kept None (Some name) i h = kept name i h

pub named_on : (s : Setting) (N M : List ℕ → ℕ → Type 0) (id : TypeId) (i : ℕ) → ((name : List ℕ) (i : ℕ) → N name i → M name i) → IsNamed s N id i → IsNamed s M id i
named_on s N M id i kept h = record { as_own = named_as_on N M kept (foreign s.interface (owner_at s.types id.index)) (name_at s.types id.index) i h.as_own }

named_as_by : (N : List ℕ → ℕ → Type 0) (other : Option InterfaceId) (title : Option (List ℕ)) (name : List ℕ) (i : ℕ) → title ≡ Some name → N name i → NamedAs N other title i
named_as_by N (Some other) title name i is h = tt
named_as_by N None title name i is h = subst (λ t. NamedAs N None t i) (sym is) h

named_as_none : (N : List ℕ → ℕ → Type 0) (other : Option InterfaceId) (title : Option (List ℕ)) (i : ℕ) → title ≡ None → NamedAs N other title i
named_as_none N (Some other) title i is = tt
named_as_none N None title i is = subst (λ t. NamedAs N None t i) (sym is) tt

-- a type whose name has its index, one without a name, and one of another interface
pub named_by : (s : Setting) (types : List TypeDef) (N : List ℕ → ℕ → Type 0) (id : TypeId) (name : List ℕ) (i : ℕ) → s.types ≡ types → name_at types id.index ≡ Some name → N name i → IsNamed s N id i
named_by s types N id name i same is h = record { as_own = named_as_by N (foreign s.interface (owner_at s.types id.index)) (name_at s.types id.index) name i (ap (λ ts. name_at ts id.index) same ∙ is) h }

pub named_none : (s : Setting) (types : List TypeDef) (N : List ℕ → ℕ → Type 0) (id : TypeId) (i : ℕ) → s.types ≡ types → name_at types id.index ≡ None → IsNamed s N id i
named_none s types N id i same is = record { as_own = named_as_none N (foreign s.interface (owner_at s.types id.index)) (name_at s.types id.index) i (ap (λ ts. name_at ts id.index) same ∙ is) }

pub named_foreign : (s : Setting) (types : List TypeDef) (N : List ℕ → ℕ → Type 0) (id : TypeId) (i : ℕ) (other : InterfaceId) → s.types ≡ types → foreign s.interface (owner_at types id.index) ≡ Some other → IsNamed s N id i
named_foreign s types N id i other same is =
    record { as_own = subst (λ o. NamedAs N o (name_at s.types id.index) i) (sym (ap (λ ts. foreign s.interface (owner_at ts id.index)) same ∙ is)) tt }

pub named_in : (s t : Setting) (N : List ℕ → ℕ → Type 0) (id : TypeId) (i : ℕ) → t ≡ s → IsNamed s N id i → IsNamed t N id i
named_in s t N id i same h = subst (λ r. IsNamed r N id i) (sym same) h

pub no_name : {X : Type 0} (o : Option X) → is_some o ≡ false → o ≡ None
no_name None e = refl
no_name (Some x) e = cc

pub faithful_on : {s : Setting} {old new : List TypeTree} {N M : List ℕ → ℕ → Type 0} {O P : Type 0} {maps : TypeEncodingMaps} → Longer old new → ((name : List ℕ) (i : ℕ) → N name i → M name i) → (O → P) → Faithful s old N O maps → Faithful s new M P maps
faithful_on {s = s} {N = N} {M = M} {maps = maps} g kept known f =
    record {
      named = AllByRecursion-weaker (λ e d. named_on s N M e.0 e.1 kept d) maps.id_to_index f.named;
      ids = AllByRecursion-weaker (λ e d. denotes_on g d) maps.id_to_index f.ids;
      kinds = AllByRecursion-weaker (λ e d n. denotes_on g (d n)) maps.def_to_index f.kinds;
      functions = AllByRecursion-weaker (λ e d. denotes_on g d) maps.func_type_map f.functions;
      met = f.met;
      offers = known f.offers;
    }

pub value_as : {scope : List TypeTree} {v : ComponentValType} {t u : Tree} → ValueDenotes scope v t → t ≡ u → ValueDenotes scope v u
value_as {scope = scope} {v = v} d e = subst (λ x. ValueDenotes scope v x) e d

pub result_as : (scope : List TypeTree) (r : Result ComponentValType BuildFault) (t u : Tree) → IfOk r (λ v. ValueDenotes scope v t) → t ≡ u → IfOk r (λ v. ValueDenotes scope v u)
result_as scope r t u h e = subst (λ x. IfOk r (λ v. ValueDenotes scope v x)) e h

-- tables that stay the same are faithful in a scope that grew
pub faithful_after : (s t : Setting) (old new : List TypeTree) (N M : List ℕ → ℕ → Type 0) (O P : Type 0) (maps now : TypeEncodingMaps) → Faithful s old N O maps → Longer old new → t ≡ s → now ≡ maps → ((name : List ℕ) (i : ℕ) → N name i → M name i) → (O → P) → Faithful t new M P now
faithful_after s t old new N M O P maps now f g same kept names known = subst (λ r. Faithful r new M P now) (sym same) (subst (λ m. Faithful s new M P m) (sym kept) (faithful_on g names known f))

-- the same of what a call that defines a type leaves
pub faithful_then : (s t : Setting) (old new : List TypeTree) (N M : List ℕ → ℕ → Type 0) (O P : Type 0) (maps now : TypeEncodingMaps) (r : Result ℕ BuildFault) (made : TypeTree) → Faithful s old N O maps → Makes old new r made → t ≡ s → now ≡ maps → ((name : List ℕ) (i : ℕ) → N name i → M name i) → (O → P) → Faithful t new M P now
faithful_then s t old new N M O P maps now (Ok i) made f m same kept names known = faithful_after s t old new N M O P maps now f (longer_one m.0) same kept names known
faithful_then s t old new N M O P maps now (Err e) made f m same kept names known = faithful_after s t old new N M O P maps now f m same kept names known

pub faithful_maybe : (s t : Setting) (old new : List TypeTree) (N M : List ℕ → ℕ → Type 0) (O P : Type 0) (maps now : TypeEncodingMaps) (r : Result (Option ℕ) BuildFault) (made : TypeTree) → Faithful s old N O maps → MayMake old new r made → t ≡ s → now ≡ maps → ((name : List ℕ) (i : ℕ) → N name i → M name i) → (O → P) → Faithful t new M P now
faithful_maybe s t old new N M O P maps now (Ok (Some i)) made f m same kept names known = faithful_after s t old new N M O P maps now f (longer_one m.0) same kept names known
faithful_maybe s t old new N M O P maps now (Ok None) made f m same kept names known = faithful_after s t old new N M O P maps now f (longer_same m) same kept names known
faithful_maybe s t old new N M O P maps now (Err e) made f m same kept names known = faithful_after s t old new N M O P maps now f m same kept names known

pub index_as : (scope : List TypeTree) (r : Result ℕ BuildFault) (t u : TypeTree) → IfOk r (λ i. Denotes scope i t) → t ≡ u → IfOk r (λ i. Denotes scope i u)
index_as scope r t u h e = subst (λ x. IfOk r (λ i. Denotes scope i x)) e h

pub made_as : (old new : List TypeTree) (r : Result ℕ BuildFault) (t u : TypeTree) → Makes old new r t → t ≡ u → IfOk r (λ i. Denotes new i u)
made_as old new (Ok i) t u m e = denotes_as m.1 refl e
made_as old new (Err x) t u m e = tt

value_there : {X : Type 0} (x y : X) → Some x ≡ Some y → x ≡ y
value_there x y h = cc

module _ {K X : Type 0} (eq : K → K → Bool) (one : IsOne eq) (P : K × X → Type 0) (k : K) where
  pub holds_of_found : (es : List (K × X)) (x : X) → AllByRecursion P es → lookup (eq k) es ≡ Some x → P (k, x)
  holds_of_found [] x all h = cc
  holds_of_found (e ∷ es) x all h = by (eq k e.0) refl (holds_of_found es x all.1) h
    where
      by : (b : Bool) → eq k e.0 ≡ b → (lookup (eq k) es ≡ Some x → P (k, x)) → cond b (Some e.1) (lookup (eq k) es) ≡ Some x → P (k, x)
      by true same later h = subst P (sym (ap (λ z. (z, e.1)) (one k e.0 same)) ∙ ap (λ z. (k, z)) (value_there e.1 x h)) all.0
      by false same later h = later h

pub holds_of_added : {K X : Type 0} (eq : K → K → Bool) (P : K × X → Type 0) (es : List (K × X)) (k : K) (x : X) → AllByRecursion P es → P (k, x) → AllByRecursion P (with_first eq es k x)
holds_of_added eq P es k x all h = by (is_some (lookup (eq k) es))
  where
    by : (b : Bool) → AllByRecursion P (if b then es else es ++ (k, x) ∷ [])
    by true = all
    by false = AllByRecursion-push P es (k, x) all h

-- what the tables of a scope have denotes the types of their keys
pub id_found : {s : Setting} {scope : List TypeTree} {N : List ℕ → ℕ → Type 0} {O : Type 0} {maps : TypeEncodingMaps} (id : TypeId) (o : Option ℕ) → Faithful s scope N O maps → o ≡ lookup (id_eq.eq-value.it id) maps.id_to_index → IfSome o (λ index. Denotes scope index (OfValues (tree_in s (Some (Id id)))))
id_found id None f e = tt
id_found {s = s} {scope = scope} {maps = maps} id (Some i) f e =
    holds_of_found id_eq.eq-value.it one_id (λ p. Denotes scope p.1 (OfValues (tree_in s (Some (Id p.0))))) id maps.id_to_index i f.ids (sym e)

pub kind_found : {s : Setting} {scope : List TypeTree} {N : List ℕ → ℕ → Type 0} {O : Type 0} {maps : TypeEncodingMaps} (kind : TypeDefKind) (o : Option ℕ) → Faithful s scope N O maps → o ≡ lookup (kind_eq.eq-value.it kind) maps.def_to_index → IfSome o (λ index. (n : ℕ) → Denotes scope index (OfValues (kind_tree s.origin n kind (map (tree_in s) (parts kind)))))
kind_found kind None f e = tt
kind_found {s = s} {scope = scope} {maps = maps} kind (Some i) f e =
    holds_of_found kind_eq.eq-value.it one_kind (λ p. (n : ℕ) → Denotes scope p.1 (OfValues (kind_tree s.origin n p.0 (map (tree_in s) (parts p.0))))) kind maps.def_to_index i f.kinds (sym e)

-- what is found is still found when an entry is added
still_there : {K X : Type 0} (eq : K → K → Bool) (es : List (K × X)) (k j : K) (x : X) → is_some (lookup (eq j) es) ≡ true → is_some (lookup (eq j) (with_first eq es k x)) ≡ true
still_there eq es k j x h = by (is_some (lookup (eq k) es))
  where
    at_end : (ds : List (_ × _)) → is_some (lookup (eq j) ds) ≡ true → is_some (lookup (eq j) (ds ++ (k, x) ∷ [])) ≡ true
    at_end [] e = absurd (true≢false (sym e))
    at_end (d ∷ ds) e = later (eq j d.0) e (at_end ds)
      where
        later : (b : Bool) → is_some (cond b (Some d.1) (lookup (eq j) ds)) ≡ true → (is_some (lookup (eq j) ds) ≡ true → is_some (lookup (eq j) (ds ++ (k, x) ∷ [])) ≡ true) → is_some (cond b (Some d.1) (lookup (eq j) (ds ++ (k, x) ∷ []))) ≡ true
        later true e g = refl
        later false e g = g e

    by : (b : Bool) → is_some (lookup (eq j) (if b then es else es ++ (k, x) ∷ [])) ≡ true
    by true = h
    by false = at_end es h

-- a type that is not in the tables is none of those that are said to be
pub id_unmet : {s : Setting} {scope : List TypeTree} {N : List ℕ → ℕ → Type 0} {O : Type 0} {maps : TypeEncodingMaps} (id : TypeId) (o : Option ℕ) → Faithful s scope N O maps → o ≡ lookup (id_eq.eq-value.it id) maps.id_to_index → o ≡ None → s.met id ≡ false
id_unmet {s = s} id o f e none = by (s.met id) (λ m. true≢false (sym (f.met id m).there ∙ ap is_some (sym e ∙ none)))
  where
    by : (b : Bool) → (b ≡ true → ⊥) → b ≡ false
    by true h = absurd (h refl)
    by false h = refl

-- tables of nothing are right, where no type is said to be in them
pub faithful_new : (s : Setting) (scope : List TypeTree) (N : List ℕ → ℕ → Type 0) (O : Type 0) → ((id : TypeId) → s.met id ≡ false) → O → Faithful s scope N O no_maps
faithful_new s scope N O none known = record { ids = tt; named = tt; kinds = tt; functions = tt; met = λ id e. absurd (true≢false (sym e ∙ none id)); offers = known }

pub id_added : {s : Setting} {scope : List TypeTree} {N : List ℕ → ℕ → Type 0} {O : Type 0} {maps : TypeEncodingMaps} (id : TypeId) (index : ℕ) → Faithful s scope N O maps → Denotes scope index (OfValues (tree_in s (Some (Id id)))) → IsNamed s N id index → Faithful s scope N O (record maps { id_to_index = with_first id_eq.eq-value.it maps.id_to_index id index })
id_added {s = s} {scope = scope} {N = N} {maps = maps} id index f d named =
    record {
      named = holds_of_added id_eq.eq-value.it (λ p. IsNamed s N p.0 p.1) maps.id_to_index id index f.named named;
      ids = holds_of_added id_eq.eq-value.it (λ p. Denotes scope p.1 (OfValues (tree_in s (Some (Id p.0))))) maps.id_to_index id index f.ids d;
      kinds = f.kinds;
      functions = f.functions;
      met = λ j m. record { there = still_there id_eq.eq-value.it maps.id_to_index id j index (f.met j m).there };
      offers = f.offers;
    }

pub kind_added : {s : Setting} {scope : List TypeTree} {N : List ℕ → ℕ → Type 0} {O : Type 0} {maps : TypeEncodingMaps} (kind : TypeDefKind) (index : ℕ) → Faithful s scope N O maps → ((n : ℕ) → Denotes scope index (OfValues (kind_tree s.origin n kind (map (tree_in s) (parts kind))))) → Faithful s scope N O (record maps { def_to_index = with_first kind_eq.eq-value.it maps.def_to_index kind index })
kind_added {s = s} {scope = scope} {maps = maps} kind index f d =
    record {
      named = f.named;
      ids = f.ids;
      kinds = holds_of_added kind_eq.eq-value.it (λ p. (n : ℕ) → Denotes scope p.1 (OfValues (kind_tree s.origin n p.0 (map (tree_in s) (parts p.0))))) maps.def_to_index kind index f.kinds d;
      functions = f.functions;
      met = λ j m. record { there = (f.met j m).there };
      offers = f.offers;
    }

pub function_found : {s : Setting} {scope : List TypeTree} {N : List ℕ → ℕ → Type 0} {O : Type 0} {maps : TypeEncodingMaps} (key : FuncTypeKey) (o : Option ℕ) → Faithful s scope N O maps → o ≡ lookup (key_eq.eq-value.it key) maps.func_type_map → IfSome o (λ index. Denotes scope index (OfFunctions (key_tree s key)))
function_found key None f e = tt
function_found {s = s} {scope = scope} {maps = maps} key (Some i) f e =
    holds_of_found key_eq.eq-value.it one_key (λ p. Denotes scope p.1 (OfFunctions (key_tree s p.0))) key maps.func_type_map i f.functions (sym e)

found_in : {K X : Type 0} (eq : K → K → Bool) (es : List (K × X)) (k : K) → eq k k ≡ true → (x : X) → is_some (lookup (eq k) (with_first eq es k x)) ≡ true
found_in eq es k same x = by (is_some (lookup (eq k) es)) refl
  where
    at_end : (ds : List (_ × _)) → is_some (lookup (eq k) (ds ++ (k, x) ∷ [])) ≡ true
    at_end [] = ap (λ b. is_some (cond b (Some x) None)) same
    at_end (d ∷ ds) = later (eq k d.0) (at_end ds)
      where
        later : (b : Bool) → is_some (lookup (eq k) (ds ++ (k, x) ∷ [])) ≡ true → is_some (cond b (Some d.1) (lookup (eq k) (ds ++ (k, x) ∷ []))) ≡ true
        later true h = refl
        later false h = h

    by : (b : Bool) → is_some (lookup (eq k) es) ≡ b → is_some (lookup (eq k) (if b then es else es ++ (k, x) ∷ [])) ≡ true
    by true h = h
    by false h = at_end es

id_itself : (id : TypeId) → id_eq.eq-value.it id id ≡ true
id_itself id = (Decides-eqb id.index id.index).1 refl

pub id_there : (maps now : TypeEncodingMaps) (id : TypeId) (index : ℕ) → now ≡ record maps { id_to_index = with_first id_eq.eq-value.it maps.id_to_index id index } → HasIndex now id
id_there maps now id index is = record { there = ap (λ (m : TypeEncodingMaps). is_some (lookup (id_eq.eq-value.it id) m.id_to_index)) is ∙ found_in id_eq.eq-value.it maps.id_to_index id (id_itself id) index }

pub recorded_there : {A E : Type 0} (r : Result A E) (maps now view : TypeEncodingMaps) (id : TypeId) (index : ℕ) → OnOk r (now ≡ record maps { id_to_index = with_first id_eq.eq-value.it maps.id_to_index id index }) → view ≡ now → OnOk r (HasIndex view id)
recorded_there (Ok u) maps now view id index is seen = id_there maps view id index (seen ∙ is)
recorded_there (Err e) maps now view id index is seen = tt

-- after tables were changed: what was added is right, and the scope is another one
pub faithful_as : (s t : Setting) (scope new : List TypeTree) (N M : List ℕ → ℕ → Type 0) (O P : Type 0) (maps now : TypeEncodingMaps) → Faithful s scope N O maps → t ≡ s → new ≡ scope → ((name : List ℕ) (i : ℕ) → N name i → M name i) → (O → P) → now ≡ maps → Faithful t new M P now
faithful_as s t scope new N M O P maps now f same kept names known is =
    faithful_after s t scope new N M O P maps now f (subst (λ ts. Longer scope ts) (sym kept) (longer_none scope)) same is names known

pub recorded_faithful : {A E : Type 0} (r : Result A E) (s t : Setting) (scope new : List TypeTree) (N M : List ℕ → ℕ → Type 0) (O P : Type 0) (first maps now view : TypeEncodingMaps) (id : TypeId) (index : ℕ) → Faithful s scope N O first → Denotes scope index (OfValues (tree_in s (Some (Id id)))) → IsNamed s N id index → maps ≡ first → OnOk r (now ≡ record maps { id_to_index = with_first id_eq.eq-value.it maps.id_to_index id index }) → OnErr r (now ≡ maps) → t ≡ s → new ≡ scope → ((name : List ℕ) (i : ℕ) → N name i → M name i) → (O → P) → view ≡ now → Faithful t new M P view
recorded_faithful (Ok u) s t scope new N M O P first maps now view id index f d named begun is failed same kept names known seen =
    faithful_as s t scope new N M O P (record maps { id_to_index = with_first id_eq.eq-value.it maps.id_to_index id index }) view
    (id_added id index (subst (λ m. Faithful s scope N O m) (sym begun) f) d named) same kept names known (seen ∙ is)
recorded_faithful (Err e) s t scope new N M O P first maps now view id index f d named begun is failed same kept names known seen =
    faithful_as s t scope new N M O P first view f same kept names known (seen ∙ (failed ∙ begun))

pub kind_faithful : {A E : Type 0} (r : Result A E) (s t : Setting) (scope new : List TypeTree) (N M : List ℕ → ℕ → Type 0) (O P : Type 0) (first maps now view : TypeEncodingMaps) (kind : TypeDefKind) (index : ℕ) → Faithful s scope N O first → ((n : ℕ) → Denotes scope index (OfValues (kind_tree s.origin n kind (map (tree_in s) (parts kind))))) → maps ≡ first → OnOk r (now ≡ record maps { def_to_index = with_first kind_eq.eq-value.it maps.def_to_index kind index }) → OnErr r (now ≡ maps) → t ≡ s → new ≡ scope → ((name : List ℕ) (i : ℕ) → N name i → M name i) → (O → P) → view ≡ now → Faithful t new M P view
kind_faithful (Ok u) s t scope new N M O P first maps now view kind index f d begun is failed same kept names known seen =
    faithful_as s t scope new N M O P (record maps { def_to_index = with_first kind_eq.eq-value.it maps.def_to_index kind index }) view
    (kind_added kind index (subst (λ m. Faithful s scope N O m) (sym begun) f) d) same kept names known (seen ∙ is)
kind_faithful (Err e) s t scope new N M O P first maps now view kind index f d begun is failed same kept names known seen =
    faithful_as s t scope new N M O P first view f same kept names known (seen ∙ (failed ∙ begun))

pub key_added : {s : Setting} {scope : List TypeTree} {N : List ℕ → ℕ → Type 0} {O : Type 0} {maps : TypeEncodingMaps} (key : FuncTypeKey) (index : ℕ) → Faithful s scope N O maps → Denotes scope index (OfFunctions (key_tree s key)) → Faithful s scope N O (record maps { func_type_map = with_first key_eq.eq-value.it maps.func_type_map key index })
key_added {s = s} {scope = scope} {maps = maps} key index f d =
    record {
      named = f.named;
      ids = f.ids;
      kinds = f.kinds;
      functions = holds_of_added key_eq.eq-value.it (λ p. Denotes scope p.1 (OfFunctions (key_tree s p.0))) maps.func_type_map key index f.functions d;
      met = λ j m. record { there = (f.met j m).there };
      offers = f.offers;
    }

pub key_faithful : {A E : Type 0} (r : Result A E) (s t : Setting) (scope new : List TypeTree) (N M : List ℕ → ℕ → Type 0) (O P : Type 0) (first maps now view : TypeEncodingMaps) (key : FuncTypeKey) (index : ℕ) → Faithful s scope N O first → Denotes scope index (OfFunctions (key_tree s key)) → maps ≡ first → OnOk r (now ≡ record maps { func_type_map = with_first key_eq.eq-value.it maps.func_type_map key index }) → OnErr r (now ≡ maps) → t ≡ s → new ≡ scope → ((name : List ℕ) (i : ℕ) → N name i → M name i) → (O → P) → view ≡ now → Faithful t new M P view
key_faithful (Ok u) s t scope new N M O P first maps now view key index f d begun is failed same kept names known seen =
    faithful_as s t scope new N M O P (record maps { func_type_map = with_first key_eq.eq-value.it maps.func_type_map key index }) view
    (key_added key index (subst (λ m. Faithful s scope N O m) (sym begun) f) d) same kept names known (seen ∙ is)
key_faithful (Err e) s t scope new N M O P first maps now view key index f d begun is failed same kept names known seen =
    faithful_as s t scope new N M O P first view f same kept names known (seen ∙ (failed ∙ begun))

pub id_named : {s : Setting} {scope : List TypeTree} {N : List ℕ → ℕ → Type 0} {O : Type 0} {maps : TypeEncodingMaps} (M : List ℕ → ℕ → Type 0) (id : TypeId) (o : Option ℕ) → ((name : List ℕ) (i : ℕ) → N name i → M name i) → Faithful s scope N O maps → o ≡ lookup (id_eq.eq-value.it id) maps.id_to_index → IfSome o (λ index. IsNamed s M id index)
id_named M id None names f e = tt
id_named {s = s} {N = N} {maps = maps} M id (Some i) names f e =
    named_on s N M id i names (holds_of_found id_eq.eq-value.it one_id (λ p. IsNamed s N p.0 p.1) id maps.id_to_index i f.named (sym e))
