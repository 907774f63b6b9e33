-- The functions that an instance type exports, found by their names.
use Rattle.std.proofs.Common.{◌≡◌, ◌∙◌, ◌||◌, ◌&&◌, ap, ap₂, sym, subst, refl, ℕ, Bool, true, false, cond, List, [], ◌∷◌, ◌++◌, map, filter, get_or, Option, Some, None, is_some, if◌then◌else◌, true≢false}
use Rattle.std.specs.List.{AllByRecursion, AllZip, list_any}
use Rattle.std.specs.Str.{bytes_eq}
use Rattle.std.proofs.lemmas.Option.{same_Some, none-some}
use Rattle.std.proofs.lemmas.Slice.Eq.{bytes_eq-Decides}
use Rattle.comp_lists.specs.Found.{found}
use Rattle.comp_bytes.specs.declared.space.Space.TheVariants as spaces
use Rattle.comp_bytes.specs.declared.types.Member.{Member}
use Rattle.comp_bytes.specs.declared.types.Member.TheVariants as members
use Rattle.comp_bytes.specs.declared.types.Description.TheVariants as descriptions
use Rattle.comp_trees.specs.DefinedTrees.{TypeTree, OfOthers, OfFunctions}
use Rattle.comp_trees.specs.DefinedScopes.{Denotes}
use Rattle.comp_trees.specs.Members.{Surroundings, member_trees, exports_name, function_exported}
use Rattle.comp_trees.specs.WitTrees.{wit_function_tree}
use Rattle.wit_data.specs.declared.functions.Function.{Function}
use Rattle.wit_types.specs.Settings.{Setting}
use Rattle.type_scopes.specs.Exports.{function_exports}
use Rattle.type_scopes.specs.Interfaces.{FunctionIn, FunctionsIn, used_among}
use Rattle.wit_data.specs.declared.ids.InterfaceId.{InterfaceId}
use Rattle.world_values.specs.Items.{functions_of}
use Rattle.comp_worlds.specs.Worlds.{IsNamedFunction}
use Rattle.comp_worlds.specs.declared.world.ComponentWorld.{ComponentWorld}
use Rattle.comp_links.specs.Lists.{resource_of}
use Rattle.comp_links.specs.Roles.{is_used_of}
use Rattle.interface_needs.specs.Needs.{AreUsedNames}
use Rattle.root_imports.specs.Interfaces.{ExportsUsed}
use Rattle.comp_lists.proofs.Lists.{AllByRecursion-weaker}

-- a function is exported where it is found
pub exports_are : (ms : List Member) (name : List ℕ) → list_any (exports_name spaces.Func name) ms ≡ is_some (found name (function_exports ms))
exports_are [] name = refl
exports_are (members.Export n (descriptions.Func index) ∷ ms) name = by (bytes_eq name n.name) (exports_are ms name)
  where
    by : (b : Bool) → list_any (exports_name spaces.Func name) ms ≡ is_some (found name (function_exports ms)) → (b || list_any (exports_name spaces.Func name) ms) ≡ is_some (cond b (Some index) (found name (function_exports ms)))
    by true h = refl
    by false h = h
exports_are (m ∷ ms) name = exports_are ms name

-- what the type index that was found denotes, or nothing
abbrev denoted : List TypeTree → Option ℕ → TypeTree
denoted all None = OfOthers
denoted all (Some index) = get_or all index OfOthers

pub exported_is : (all : List TypeTree) (ms : List Member) (name : List ℕ) → function_exported all name ms ≡ denoted all (found name (function_exports ms))
exported_is all [] name = refl
exported_is all (members.Export n (descriptions.Func index) ∷ ms) name = by (bytes_eq name n.name) (exported_is all ms name)
  where
    by : (b : Bool) → function_exported all name ms ≡ denoted all (found name (function_exports ms)) → (if b then get_or all index OfOthers else function_exported all name ms) ≡ denoted all (cond b (Some index) (found name (function_exports ms)))
    by true h = refl
    by false h = h
exported_is all (m ∷ ms) name = exported_is all ms name

-- the export of a function of this type
pub record IsFoundAs (scope : List TypeTree) (es : List (List ℕ × ℕ)) (name : List ℕ) (type : TypeTree) : Type 0 where
  pub index : ℕ
  pub at : found name es ≡ Some index
  pub denotes : Denotes scope index type

module _ (s : Setting) (scope : List TypeTree) (used : List (List ℕ × Unit {0})) (name : List ℕ) where
  abbrev type : Function → TypeTree
  type f = OfFunctions (wit_function_tree s.origin s.types f)

  -- the first export has the name, or a later one is found
  at_front : (k : List ℕ) (x : ℕ) (es : List (List ℕ × ℕ)) (t : TypeTree) → bytes_eq name k ≡ true → Denotes scope x t → IsFoundAs scope ((k, x) ∷ es) name t
  at_front k x es t e h = record { index = x; at = ap (λ b. cond b (Some x) (found name es)) e; denotes = h }

  behind : (e : List ℕ × ℕ) (es : List (List ℕ × ℕ)) (t : TypeTree) → bytes_eq name e.0 ≡ false → IsFoundAs scope es name t → IsFoundAs scope (e ∷ es) name t
  behind e es t apart h = record { index = h.index; at = ap (λ b. cond b (Some e.1) (found name es)) apart ∙ h.at; denotes = h.denotes }

  -- the first function, where it has the name and is used
  first : (k : List ℕ) (g : Function) (fs : List (List ℕ × Function)) (f : Function) → k ≡ g.name → found name ((k, g) ∷ fs) ≡ Some f → bytes_eq name k ≡ true → (xs : List (List ℕ × ℕ)) (gs : List Function) → AllZip (FunctionIn s scope) xs (g ∷ gs) → IsFoundAs scope xs name (type f)
  first k g fs f named e same [] gs z = absurd z
  first k g fs f named e same (x ∷ xs) gs z =
      let is : g ≡ f = same_Some g f (sym (ap (λ b. cond b (Some g) (found name fs)) same) ∙ e) in
      let here : bytes_eq name x.0 ≡ true = ap (bytes_eq name) (z.0.name ∙ sym named) ∙ same in
      at_front x.0 x.1 xs (type f) here (subst (λ q. Denotes scope x.1 (type q)) is z.0.denotes)

  -- a later one
  later : (k : List ℕ) (g f : Function) → k ≡ g.name → bytes_eq name k ≡ false → (xs : List (List ℕ × ℕ)) (gs : List Function) → AllZip (FunctionIn s scope) xs (g ∷ gs) → ((ys : List (List ℕ × ℕ)) → AllZip (FunctionIn s scope) ys gs → IsFoundAs scope ys name (type f)) →
      IsFoundAs scope xs name (type f)
  later k g f named apart [] gs z rest = absurd z
  later k g f named apart (x ∷ xs) gs z rest = behind x xs (type f) (ap (bytes_eq name) (z.0.name ∙ sym named) ∙ apart) (rest xs z.1)

  -- a used function is exported
  pub used_found : (fs : List (List ℕ × Function)) (es : List (List ℕ × ℕ)) → AllByRecursion (λ e. e.0 ≡ e.1.name) fs → AllZip (FunctionIn s scope) es (used_among used fs) → (f : Function) → found name fs ≡ Some f → is_some (found name used) ≡ true →
      IsFoundAs scope es name (type f)
  used_found [] es named h f e u = absurd (none-some f e)
  used_found ((k, g) ∷ fs) es named h f e u =
      by (bytes_eq name k) refl (is_some (found k used)) refl h (λ apart ys z. used_found fs ys named.1 z f (sym (ap (λ b. cond b (Some g) (found name fs)) apart) ∙ e) u)
    where
      by : (a : Bool) → bytes_eq name k ≡ a → (b : Bool) → is_some (found k used) ≡ b → AllZip (FunctionIn s scope) es ((if b then g ∷ [] else []) ++ used_among used fs) →
          (bytes_eq name k ≡ false → (ys : List (List ℕ × ℕ)) → AllZip (FunctionIn s scope) ys (used_among used fs) → IsFoundAs scope ys name (type f)) → IsFoundAs scope es name (type f)
      by true same true c z rest = first k g fs f named.0 e same es (used_among used fs) z
      by false apart true c z rest = later k g f named.0 apart es (used_among used fs) z (rest apart)
      by true same false c z rest = absurd (true≢false (sym u ∙ (ap (λ n. is_some (found n used)) ((bytes_eq-Decides name k).0 same) ∙ c)))
      by false apart false c z rest = rest apart es z

-- the names of the used functions are those that pass a test
pub used_names : (used : List (List ℕ × Unit {0})) (p : List ℕ → Bool) (fs : List (List ℕ × Function)) → AllByRecursion (λ e. e.0 ≡ e.1.name) fs → AllByRecursion (λ e. is_some (found e.0 used) ≡ p e.0) fs → map (λ f. f.name) (used_among used fs) ≡ filter p (map (λ e. e.0) fs)
used_names used p [] named same = refl
used_names used p ((k, f) ∷ fs) named same = by (is_some (found k used)) same.0 (used_names used p fs named.1 same.1)
  where
    by : (b : Bool) → b ≡ p k → map (λ (f : Function). f.name) (used_among used fs) ≡ filter p (map (λ e. e.0) fs) →
        map (λ (f : Function). f.name) ((if b then f ∷ [] else []) ++ used_among used fs) ≡ (if p k then k ∷ filter p (map (λ e. e.0) fs) else filter p (map (λ e. e.0) fs))
    by true e h = ap₂ (λ n l. n ∷ l) (sym named.0) h ∙ ap (λ b. if b then k ∷ filter p (map (λ e. e.0) fs) else filter p (map (λ e. e.0) fs)) e
    by false e h = h ∙ ap (λ b. if b then k ∷ filter p (map (λ e. e.0) fs) else filter p (map (λ e. e.0) fs)) e

-- a function that is found and passes a test
any_found : (fs : List (List ℕ × Function)) (p : List ℕ → Bool) (name : List ℕ) (f : Function) → found name fs ≡ Some f → p name ≡ true → list_any (λ f. bytes_eq name f.0 && p f.0) fs ≡ true
any_found [] p name f e u = absurd (none-some f e)
any_found ((k, g) ∷ fs) p name f e u = by (bytes_eq name k) refl e (any_found fs p name f)
  where
    by : (b : Bool) → bytes_eq name k ≡ b → cond b (Some g) (found name fs) ≡ Some f → (found name fs ≡ Some f → p name ≡ true → list_any (λ f. bytes_eq name f.0 && p f.0) fs ≡ true) →
        ((b && p k) || list_any (λ f. bytes_eq name f.0 && p f.0) fs) ≡ true
    by true same e rest = ap (λ q. q || list_any (λ f. bytes_eq name f.0 && p f.0) fs) (ap p (sym ((bytes_eq-Decides name k).0 same)) ∙ u)
    by false apart e rest = rest e u

-- each function of an interface that core imports use is exported, with its type
pub exports_used : (w : ComponentWorld) (id : InterfaceId) (s : Surroundings) (t : Setting) (ms : List Member) (used : List (List ℕ × Unit {0})) → t.types ≡ w.resolve.types → t.origin ≡ resource_of w → AllByRecursion IsNamedFunction (functions_of w.resolve id) → AreUsedNames w id used →
    FunctionsIn t (member_trees s [] ms) (function_exports ms) (used_among used (functions_of w.resolve id)) → ExportsUsed w id s ms
exports_used w id s t ms used types origin plain names h = record {
  each = λ name f e u.
      let there : is_some (found name used) ≡ true = names.each name ∙ any_found (functions_of w.resolve id) (is_used_of w id) name f e u in
      let is = used_found t (member_trees s [] ms) used name (functions_of w.resolve id) (function_exports ms) plain h.each f e there in
      record {
        there = exports_are ms name ∙ ap is_some is.at;
        typed = exported_is (member_trees s [] ms) ms name ∙ (ap (denoted (member_trees s [] ms)) is.at ∙ (is.denotes.tree ∙ ap₂ (λ o ts. OfFunctions (wit_function_tree o ts f)) origin types));
      };
}
