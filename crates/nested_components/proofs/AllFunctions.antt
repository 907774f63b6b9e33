-- Functions that are imported, and exported again, one after the other.
use Rattle.std.proofs.Common.{◌≡◌, ◌∙◌, ◌+◌, ◌<◌, arith, ℕ, zero, suc, List, [], ◌∷◌, ◌++◌, length, drop, refl, ap, sym, subst, get_or, append_assoc, append-nil}
use Rattle.std.specs.List.{AllZip}
use Rattle.std.proofs.Math.Seq.{drop-cons}
use Rattle.std.proofs.lemmas.List.{length-append, get_or_append_left}
use Rattle.wit_data.specs.declared.ids.TypeId.{TypeId}
use Rattle.wit_data.specs.declared.types.TypeDef.{TypeDef}
use Rattle.wit_data.specs.declared.functions.Function.{Function}
use Rattle.comp_trees.specs.Trees.{Resource}
use Rattle.comp_trees.specs.DefinedTrees.{TypeTree}
use Rattle.nested_terms.specs.Nested.{NestedFunction, ExportedFunction, no_function}
use Rattle.nested_components.specs.declared.contents.Contents.{Contents}
use Rattle.nested_components.specs.declared.stage.Stage.{Stage}
use Rattle.nested_components.specs.Functions.{type_of, nested_functions, exported, IsTyped}
use Rattle.nested_components.specs.Homes.{Home}
use Rattle.nested_components.specs.Growing.{scope_of, Grows, Exports, ExportsOne, function_at, IsTypedAt}
use Rattle.nested_components.specs.Following.{exports_none, exports_on, grows_none, grows_on}

-- once some functions were imported, what imports the rest imports all
pub record AreImportedTo (given : List ℕ → TypeTree) (origin : TypeId → Resource) (home : Home) (stage : Stage) (first now : Contents) (rest all : List Function) (others names : List (List ℕ)) : Type 0 where
  pub whole : (new : Contents) → Grows given origin home stage now new (nested_functions origin home.types rest others) → Grows given origin home stage first new (nested_functions origin home.types all names)

module _ (given : List ℕ → TypeTree) (origin : TypeId → Resource) (home : Home) (stage : Stage) (first : Contents) where
  pub imported_more : (old now : Contents) (f : Function) (rest all : List Function) (name : List ℕ) (others names : List (List ℕ)) → AreImportedTo given origin home stage first old (f ∷ rest) all (name ∷ others) names →
      (here : Home) (there : Stage) → here ≡ home → there ≡ stage → Grows given origin here there old now (record { argument = name; type = type_of origin here.types f } ∷ []) → AreImportedTo given origin home stage first now rest all others names
  imported_more old now f rest all name others names s here there same still one =
      let g : NestedFunction = record { argument = name; type = type_of origin home.types f } in
      let first_one : Grows given origin home stage old now (g ∷ []) =
      subst (λ (t : Stage). Grows given origin home t old now (g ∷ [])) still (subst (λ (h : Home). Grows given origin h there old now (record { argument = name; type = type_of origin h.types f } ∷ [])) same one) in
      record { whole = λ new h. s.whole new (grows_on given origin home stage old now new (g ∷ []) (nested_functions origin home.types rest others) first_one h) }

  pub imported_none : (all : List Function) (names : List (List ℕ)) → AreImportedTo given origin home stage first first all all names names
  imported_none all names = record { whole = λ new h. h }

  -- no function is left, or no name
  pub imported_all : (now : Contents) (all : List Function) (others names : List (List ℕ)) → AreImportedTo given origin home stage first now [] all others names → Grows given origin home stage first now (nested_functions origin home.types all names)
  imported_all now all others names s = s.whole now (grows_none given origin home stage now)

  pub imported_named : (now : Contents) (rest all : List Function) (names : List (List ℕ)) → AreImportedTo given origin home stage first now rest all [] names → Grows given origin home stage first now (nested_functions origin home.types all names)
  imported_named now [] all names s = s.whole now (grows_none given origin home stage now)
  imported_named now (f ∷ fs) all names s = s.whole now (grows_none given origin home stage now)

-- ---- exports

-- the functions of a scope from an index on are of the types of these, so the first is there
module _ {A B : Type 0} (R : A → B → Type 0) where
  pub next_within : (xs : List A) (k : ℕ) (y : B) (ys : List B) → AllZip R (drop k xs) (y ∷ ys) → k < length xs
  next_within [] zero y ys h = absurd h
  next_within [] (suc k) y ys h = absurd h
  next_within (x ∷ xs) zero y ys h = omega arith
  next_within (x ∷ xs) (suc k) y ys h = let l = next_within xs k y ys h in omega (arith, l)

  pub next_is : (d : A) (xs : List A) (k : ℕ) (y : B) (ys : List B) → AllZip R (drop k xs) (y ∷ ys) → drop k xs ≡ get_or xs k d ∷ drop (k + 1) xs
  next_is d xs k y ys h =
      let one : suc k ≡ k + 1 = omega arith in
      drop-cons xs k d (next_within xs k y ys h) ∙ ap (λ n. get_or xs k d ∷ drop n xs) one

  pub none_left : (xs : List A) → AllZip R xs [] → xs ≡ []
  none_left [] h = refl
  none_left (x ∷ xs) h = absurd h

-- once some of the functions that there were are exported, what exports the rest exports all
pub record AreExportedTo (given : List ℕ → TypeTree) (origin : TypeId → Resource) (types : List TypeDef) (gs : List NestedFunction) (first now : Contents) (index : ℕ) (rest all : List Function) : Type 0 where
  pub whole : (new : Contents) → Exports given now new (exported rest (drop index gs)) (drop index gs) → Exports given first new (exported all gs) gs
  pub typed : AllZip (IsTyped origin types) (drop index gs) rest
  pub more : List NestedFunction
  pub kept : (scope_of given now.items).functions ≡ gs ++ more

module _ (origin : TypeId → Resource) (types : List TypeDef) (gs : List NestedFunction) (index : ℕ) (f : Function) (rest : List Function) (typed : AllZip (IsTyped origin types) (drop index gs) (f ∷ rest)) where
  within : index < length gs
  within = next_within (IsTyped origin types) gs index f rest typed

  next : drop index gs ≡ get_or gs index no_function ∷ drop (index + 1) gs
  next = next_is (IsTyped origin types) no_function gs index f rest typed

  typed_next : IsTyped origin types (get_or gs index no_function) f × AllZip (IsTyped origin types) (drop (index + 1) gs) rest
  typed_next = subst (λ fs. AllZip (IsTyped origin types) fs (f ∷ rest)) next typed

  within_more : (all more : List NestedFunction) → all ≡ gs ++ more → index < length all
  within_more all more kept = subst (λ (fs : List NestedFunction). index < length fs) (sym kept) (let l = within in omega (arith, l, length-append gs more))

  there : (all more : List NestedFunction) → all ≡ gs ++ more → get_or all index no_function ≡ get_or gs index no_function
  there all more kept = ap (λ (fs : List NestedFunction). get_or fs index no_function) kept ∙ get_or_append_left gs more no_function index within

module _ (given : List ℕ → TypeTree) (origin : TypeId → Resource) (types : List TypeDef) (gs : List NestedFunction) (first : Contents) where
  module _ (old : Contents) (index : ℕ) (f : Function) (rest all : List Function) (s : AreExportedTo given origin types gs first old index (f ∷ rest) all) where
    -- the next function is in the scope
    pub next_typed : IsTypedAt origin types (scope_of given old.items) index f
    next_typed =
        record {
          within = within_more origin types gs index f rest s.typed (scope_of given old.items).functions s.more s.kept;
          typed = ap (λ (g : NestedFunction). g.type) (there origin types gs index f rest s.typed (scope_of given old.items).functions s.more s.kept) ∙ (typed_next origin types gs index f rest s.typed).0;
        }

    pub exported_more : (now : Contents) → ExportsOne given old now f.name (function_at (scope_of given old.items) index) → AreExportedTo given origin types gs first now (index + 1) rest all
    exported_more now one =
        let g = get_or gs index no_function in
        let those = drop (index + 1) gs in
        let here : ExportsOne given old now f.name g = subst (λ (x : NestedFunction). ExportsOne given old now f.name x) (there origin types gs index f rest s.typed (scope_of given old.items).functions s.more s.kept) one in
        record {
          whole = λ new h. s.whole new
              (subst (λ (fs : List NestedFunction). Exports given old new (exported (f ∷ rest) fs) fs) (sym (next origin types gs index f rest s.typed))
              (exports_on given old now new (ExportedFunction f.name g ∷ []) (exported rest those) (g ∷ []) those here h));
          typed = (typed_next origin types gs index f rest s.typed).1;
          more = s.more ++ g ∷ [];
          kept = here.items.made ∙ (ap (λ fs. fs ++ g ∷ []) s.kept ∙ append_assoc gs s.more (g ∷ []));
        }

  pub exported_none : (all : List Function) → (scope_of given first.items).functions ≡ gs → AllZip (IsTyped origin types) gs all → AreExportedTo given origin types gs first first 0 all all
  exported_none all made typed = record { whole = λ new h. h; typed = typed; more = []; kept = made ∙ sym (append-nil gs) }

  pub exported_all : (now : Contents) (index : ℕ) (all : List Function) → AreExportedTo given origin types gs first now index [] all → Exports given first now (exported all gs) gs
  exported_all now index all s =
      s.whole now (subst (λ (fs : List NestedFunction). Exports given now now (exported [] fs) fs) (sym (none_left (IsTyped origin types) (drop index gs) s.typed)) (exports_none given now))
