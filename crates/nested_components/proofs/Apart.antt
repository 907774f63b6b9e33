-- The names of the imports of a nested component are distinct.
use Rattle.std.proofs.Common.{◌≡◌, ◌∙◌, ◌||◌, ℕ, Bool, true, false, true≢false, List, [], ◌∷◌, ◌++◌, map, refl, ap, ap₂, sym, subst, append_assoc}
use Rattle.std.specs.List.{AllByRecursion, IsDistinct, flat_map}
use Rattle.std.specs.Map.{keys_of}
use Rattle.std.specs.Str.{bytes_eq}
use Rattle.std.proofs.lemmas.List.{map-append}
use Rattle.std.proofs.lemmas.Slice.Eq.{bytes_eq-Decides}
use Rattle.wit_data.specs.declared.functions.Function.{Function}
use Rattle.wit_data.specs.declared.ids.TypeId.{TypeId}
use Rattle.wit_data.specs.declared.types.TypeDef.{TypeDef}
use Rattle.comp_bytes.specs.ScopeNames.{item_import}
use Rattle.comp_bytes.specs.declared.types.Description.TheVariants as descriptions
use Rattle.comp_bytes.specs.declared.def.Item.{Item}
use Rattle.comp_bytes.specs.declared.def.Item.TheVariants as items
use Rattle.comp_trees.specs.Trees.{Resource}
use Rattle.comp_trees.specs.DefinedTrees.{TypeTree}
use Rattle.nested_terms.specs.Naming.{is_taken, AreNamesAfter, AreNames}
use Rattle.nested_terms.specs.Nested.{NestedScope, NestedFunction, empty_scope, function_import, type_import, with_item, functions_imported, types_imported, imports_after, AreItemsRight}
use Rattle.nested_components.specs.declared.contents.Contents.{Contents}
use Rattle.nested_components.specs.declared.type_import.TypeImport.{TypeImport}
use Rattle.nested_components.specs.Functions.{functions_of, nested_functions, PassesOn}
use Rattle.nested_components.specs.Types.{type_given}
use Rattle.nested_components.specs.Growing.{function_entry, type_entry, planned_among, met_among, all_among, ArePassedOn}

taken_first : (taken more : List (List ℕ)) (name : List ℕ) → is_taken taken name ≡ true → is_taken (taken ++ more) name ≡ true
taken_first [] more name h = absurd (true≢false (sym h))
taken_first (t ∷ ts) more name h = by (bytes_eq name t) (taken_first ts more name) h
  where
    by : (b : Bool) → (is_taken ts name ≡ true → is_taken (ts ++ more) name ≡ true) → (b || is_taken ts name) ≡ true → (b || is_taken (ts ++ more) name) ≡ true
    by true rest e = refl
    by false rest e = rest e

taken_last : (taken : List (List ℕ)) (name : List ℕ) → is_taken (taken ++ name ∷ []) name ≡ true
taken_last [] name = ap (λ b. b || false) ((bytes_eq-Decides name name).1 refl)
taken_last (t ∷ ts) name = by (bytes_eq name t) (taken_last ts name)
  where
    by : (b : Bool) → is_taken (ts ++ name ∷ []) name ≡ true → (b || is_taken (ts ++ name ∷ []) name) ≡ true
    by true rest = refl
    by false rest = rest

-- a name that is taken is none that is free
apart : (taken : List (List ℕ)) (t name : List ℕ) → is_taken taken t ≡ true → is_taken taken name ≡ false → bytes_eq t name ≡ false
apart taken t name there free = by (bytes_eq t name) refl
  where
    by : (b : Bool) → bytes_eq t name ≡ b → b ≡ false
    by false e = refl
    by true e = absurd (true≢false (sym there ∙ (ap (is_taken taken) ((bytes_eq-Decides t name).0 e) ∙ free)))

others : (t : List ℕ) (taken : List (List ℕ)) (fs : List Function) (names : List (List ℕ)) → is_taken taken t ≡ true → AreNamesAfter taken fs names → AllByRecursion (λ n. bytes_eq t n ≡ false) names
others t taken fs [] there h = tt
others t taken (f ∷ fs) (n ∷ ns) there h = (apart taken t n there h.0.is_free, others t (taken ++ n ∷ []) fs ns (taken_first taken (n ∷ []) t there) h.1)
others t taken [] (n ∷ ns) there h = absurd h

apart_after : (taken : List (List ℕ)) (fs : List Function) (names : List (List ℕ)) → AreNamesAfter taken fs names → IsDistinct bytes_eq names
unfolding IsDistinct
apart_after taken fs [] h = tt
apart_after taken (f ∷ fs) (n ∷ ns) h = (others n (taken ++ n ∷ []) fs ns (taken_last taken n) h.1, apart_after (taken ++ n ∷ []) fs ns h.1)
apart_after taken [] (n ∷ ns) h = absurd h

pub names_apart : (fs : List Function) (names : List (List ℕ)) → AreNames fs names → IsDistinct bytes_eq names
names_apart fs names h = apart_after [] fs names h

-- ---- functions and types, one among the other

all_but_one : (P : List ℕ → Type 0) (before : List (List ℕ)) (t : List ℕ) (after : List (List ℕ)) → AllByRecursion P (before ++ t ∷ after) → P t × AllByRecursion P (before ++ after)
all_but_one P [] t after h = h
all_but_one P (x ∷ xs) t after h = let rest = all_but_one P xs t after h.1 in (rest.0, (h.0, rest.1))

other_way : (x y : List ℕ) → bytes_eq x y ≡ false → bytes_eq y x ≡ false
other_way x y e = by (bytes_eq y x) refl
  where
    by : (b : Bool) → bytes_eq y x ≡ b → b ≡ false
    by false h = refl
    by true h = absurd (true≢false (sym ((bytes_eq-Decides x y).1 (sym ((bytes_eq-Decides y x).0 h))) ∙ e))

distinct_but_one : (before : List (List ℕ)) (t : List ℕ) (after : List (List ℕ)) → IsDistinct bytes_eq (before ++ t ∷ after) → AllByRecursion (λ y. bytes_eq t y ≡ false) (before ++ after) × IsDistinct bytes_eq (before ++ after)
unfolding IsDistinct
distinct_but_one [] t after h = h
distinct_but_one (x ∷ xs) t after h =
    let first = all_but_one (λ y. bytes_eq x y ≡ false) xs t after h.0 in
    let rest = distinct_but_one xs t after h.1 in
    ((other_way x t first.0, rest.0), (first.1, rest.1))

all_with_one : (P : List ℕ → Type 0) (before : List (List ℕ)) (x : List ℕ) (after : List (List ℕ)) → P x → AllByRecursion P (before ++ after) → AllByRecursion P (before ++ x ∷ after)
all_with_one P [] x after p h = (p, h)
all_with_one P (y ∷ ys) x after p h = (h.0, all_with_one P ys x after p h.1)

distinct_with_one : (before : List (List ℕ)) (t : List ℕ) (after : List (List ℕ)) → AllByRecursion (λ y. bytes_eq t y ≡ false) (before ++ after) → IsDistinct bytes_eq (before ++ after) → IsDistinct bytes_eq (before ++ t ∷ after)
unfolding IsDistinct
distinct_with_one [] t after others h = (others, h)
distinct_with_one (x ∷ xs) t after others h = (all_with_one (λ y. bytes_eq x y ≡ false) xs t after (other_way t x others.0) h.0, distinct_with_one xs t after others.1 h.1)

-- ---- types whose names were chosen before, and others, one among the other

abbrev import_name : TypeImport → List ℕ
import_name t = t.name

abbrev names_in : List TypeImport → List (List ℕ)
names_in ts = map import_name ts

merged_all : (P : List ℕ → Type 0) (before : List (List ℕ)) (ts : List (Bool × TypeImport)) → AllByRecursion P (before ++ (names_in (planned_among ts) ++ names_in (met_among ts))) → AllByRecursion P (before ++ names_in (all_among ts))
merged_all P before [] h = h
merged_all P before ((true, t) ∷ ts) h =
    let planned = names_in (planned_among ts) in
    let met = names_in (met_among ts) in
    let one = all_but_one P before t.name (planned ++ met) h in
    all_with_one P before t.name (names_in (all_among ts)) one.0 (merged_all P before ts one.1)
merged_all P before ((false, t) ∷ ts) h =
    let planned = names_in (planned_among ts) in
    let met = names_in (met_among ts) in
    let one = all_but_one P (before ++ planned) t.name met (subst (AllByRecursion P) (sym (append_assoc before planned (t.name ∷ met))) h) in
    all_with_one P before t.name (names_in (all_among ts)) one.0 (merged_all P before ts (subst (AllByRecursion P) (append_assoc before planned met) one.1))

merged_apart : (before : List (List ℕ)) (ts : List (Bool × TypeImport)) → IsDistinct bytes_eq (before ++ (names_in (planned_among ts) ++ names_in (met_among ts))) → IsDistinct bytes_eq (before ++ names_in (all_among ts))
merged_apart before [] h = h
merged_apart before ((true, t) ∷ ts) h =
    let planned = names_in (planned_among ts) in
    let met = names_in (met_among ts) in
    let one = distinct_but_one before t.name (planned ++ met) h in
    distinct_with_one before t.name (names_in (all_among ts)) (merged_all (λ y. bytes_eq t.name y ≡ false) before ts one.0) (merged_apart before ts one.1)
merged_apart before ((false, t) ∷ ts) h =
    let planned = names_in (planned_among ts) in
    let met = names_in (met_among ts) in
    let one = distinct_but_one (before ++ planned) t.name met (subst (IsDistinct bytes_eq) (sym (append_assoc before planned (t.name ∷ met))) h) in
    distinct_with_one before t.name (names_in (all_among ts)) (merged_all (λ y. bytes_eq t.name y ≡ false) before ts (subst (AllByRecursion (λ y. bytes_eq t.name y ≡ false)) (append_assoc before planned met) one.0))
    (merged_apart before ts (subst (IsDistinct bytes_eq) (append_assoc before planned met) one.1))

module _ (given : List ℕ → TypeTree) where
  -- the names of imports are those of functions, and those of types
  names_all : (P : List ℕ → Type 0) (s : NestedScope) (is : List Item) → AreItemsRight given s is → AllByRecursion P (flat_map function_import is ++ flat_map type_import is) → AllByRecursion P (flat_map item_import is)
  names_all P s [] right h = tt
  names_all P s (items.Import name (descriptions.Func kind) ∷ is) right h = (h.0, names_all P (with_item given s (items.Import name (descriptions.Func kind))) is right.1 h.1)
  names_all P s (items.Import name (descriptions.TypeEqual index) ∷ is) right h =
      let one = all_but_one P (flat_map function_import is) name.name (flat_map type_import is) h in
      (one.0, names_all P (with_item given s (items.Import name (descriptions.TypeEqual index))) is right.1 one.1)
  names_all P s (items.Import name descriptions.SubResource ∷ is) right h =
      let one = all_but_one P (flat_map function_import is) name.name (flat_map type_import is) h in
      (one.0, names_all P (with_item given s (items.Import name descriptions.SubResource)) is right.1 one.1)
  names_all P s (items.Import name d ∷ is) right h = absurd right.0
  names_all P s (i ∷ is) right h = names_all P (with_item given s i) is right.1 h

  imports_apart : (s : NestedScope) (is : List Item) → AreItemsRight given s is → IsDistinct bytes_eq (flat_map function_import is ++ flat_map type_import is) → IsDistinct bytes_eq (flat_map item_import is)
  unfolding IsDistinct
  imports_apart s [] right h = tt
  imports_apart s (items.Import name (descriptions.Func kind) ∷ is) right h =
      let next = with_item given s (items.Import name (descriptions.Func kind)) in
      (names_all (λ y. bytes_eq name.name y ≡ false) next is right.1 h.0, imports_apart next is right.1 h.1)
  imports_apart s (items.Import name (descriptions.TypeEqual index) ∷ is) right h =
      let next = with_item given s (items.Import name (descriptions.TypeEqual index)) in
      let one = distinct_but_one (flat_map function_import is) name.name (flat_map type_import is) h in
      (names_all (λ y. bytes_eq name.name y ≡ false) next is right.1 one.0, imports_apart next is right.1 one.1)
  imports_apart s (items.Import name descriptions.SubResource ∷ is) right h =
      let next = with_item given s (items.Import name descriptions.SubResource) in
      let one = distinct_but_one (flat_map function_import is) name.name (flat_map type_import is) h in
      (names_all (λ y. bytes_eq name.name y ≡ false) next is right.1 one.0, imports_apart next is right.1 one.1)
  imports_apart s (items.Import name d ∷ is) right h = absurd right.0
  imports_apart s (i ∷ is) right h = imports_apart (with_item given s i) is right.1 h

  -- the names, from what is imported
  function_names : (s : NestedScope) (is : List Item) → flat_map function_import is ≡ map (λ (f : NestedFunction). f.argument) (functions_imported (imports_after given s is))
  function_names s [] = refl
  function_names s (items.Import name (descriptions.Func kind) ∷ is) = ap (λ ns. name.name ∷ ns) (function_names (with_item given s (items.Import name (descriptions.Func kind))) is)
  function_names s (items.Import name (descriptions.TypeEqual index) ∷ is) = function_names (with_item given s (items.Import name (descriptions.TypeEqual index))) is
  function_names s (items.Import name descriptions.SubResource ∷ is) = function_names (with_item given s (items.Import name descriptions.SubResource)) is
  function_names s (i ∷ is) = function_names (with_item given s i) is

  type_names : (s : NestedScope) (is : List Item) → flat_map type_import is ≡ map (λ (t : List ℕ × TypeTree). t.0) (types_imported (imports_after given s is))
  type_names s [] = refl
  type_names s (items.Import name (descriptions.Func kind) ∷ is) = type_names (with_item given s (items.Import name (descriptions.Func kind))) is
  type_names s (items.Import name (descriptions.TypeEqual index) ∷ is) = ap (λ ns. name.name ∷ ns) (type_names (with_item given s (items.Import name (descriptions.TypeEqual index))) is)
  type_names s (items.Import name descriptions.SubResource ∷ is) = ap (λ ns. name.name ∷ ns) (type_names (with_item given s (items.Import name descriptions.SubResource)) is)
  type_names s (i ∷ is) = type_names (with_item given s i) is

-- ---- the table of names that are taken

type_keys : (ts : List TypeImport) → keys_of (map type_entry ts) ≡ map (λ (t : TypeImport). t.name) ts
type_keys [] = refl
type_keys (t ∷ ts) = ap (λ ns. t.name ∷ ns) (type_keys ts)

taken_keys : (names : List (List ℕ)) (ts : List TypeImport) → keys_of (map function_entry names ++ map type_entry ts) ≡ names ++ map (λ (t : TypeImport). t.name) ts
taken_keys [] ts = type_keys ts
taken_keys (n ∷ ns) ts = ap (λ ms. n ∷ ms) (taken_keys ns ts)

arguments_named : (origin : TypeId → Resource) (types : List TypeDef) (taken : List (List ℕ)) (fs : List Function) (names : List (List ℕ)) → AreNamesAfter taken fs names → map (λ (f : NestedFunction). f.argument) (nested_functions origin types fs names) ≡ names
arguments_named origin types taken [] [] h = refl
arguments_named origin types taken (f ∷ fs) (n ∷ ns) h = ap (λ ms. n ∷ ms) (arguments_named origin types (taken ++ n ∷ []) fs ns h.1)
arguments_named origin types taken [] (n ∷ ns) h = absurd h
arguments_named origin types taken (f ∷ fs) [] h = absurd h

given_names : (origin : TypeId → Resource) (types : List TypeDef) (ts : List TypeImport) → map (λ (t : List ℕ × TypeTree). t.0) (map (type_given origin types) ts) ≡ map (λ (t : TypeImport). t.name) ts
given_names origin types [] = refl
given_names origin types (t ∷ ts) = ap (λ ns. t.name ∷ ns) (given_names origin types ts)

module _ (given : List ℕ → TypeTree) (origin : TypeId → Resource) (all : List TypeDef) (named : List (List ℕ × TypeId)) (entries : List (List ℕ × Function)) (names : List (List ℕ)) (c : Contents) (p : ArePassedOn given origin all named entries names c) where
  abbrev gs : List NestedFunction
  gs = nested_functions origin all (functions_of entries) names

  pub passed_imports : AreNames (functions_of entries) names → IsDistinct bytes_eq (keys_of c.taken) → IsDistinct bytes_eq (flat_map item_import c.items)
  passed_imports chosen apart =
      let functions = function_names given empty_scope c.items ∙ (ap (map (λ (f : NestedFunction). f.argument)) p.passes.functions ∙ arguments_named origin all [] (functions_of entries) names chosen) in
      let types = type_names given empty_scope c.items ∙ (ap (map (λ (t : List ℕ × TypeTree). t.0)) p.passes.types ∙ given_names origin all (all_among p.imports)) in
      let planned = planned_among p.imports in
      let met = met_among p.imports in
      let keys : keys_of c.taken ≡ names ++ (names_in planned ++ names_in met) = ap keys_of p.taken ∙ (taken_keys names (planned ++ met) ∙ ap (λ ns. names ++ ns) (map-append import_name planned met)) in
      imports_apart given empty_scope c.items p.passes.right
      (subst (λ ns. IsDistinct bytes_eq ns) (sym (ap₂ (λ ns ms. ns ++ ms) functions types)) (merged_apart names p.imports (subst (λ ns. IsDistinct bytes_eq ns) keys apart)))

  pub passed_all : (types : List TypeImport) (out : List Item) → types ≡ c.types → out ≡ c.items → PassesOn given origin all named entries gs types out
  passed_all types out are is =
      subst (λ ts. PassesOn given origin all named entries gs ts out) (sym (are ∙ p.typed))
      (subst (λ os. PassesOn given origin all named entries gs (all_among p.imports) os) (sym is) p.passes)
