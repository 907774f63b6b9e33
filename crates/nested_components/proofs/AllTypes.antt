-- Types of the interface that are exported, one after the other, in ascending order.
use Rattle.std.proofs.Common.{◌≡◌, ◌∙◌, ◌<◌, ◌≤◌, ◌==◌, ◌||◌, arith, ℕ, suc, Bool, true, false, true≢false, List, [], ◌∷◌, map, refl, ap, sym, subst, Some, None}
use Rattle.std.specs.List.{AllByRecursion}
use Rattle.std.proofs.lemmas.Bool.{or_left, or_right}
use Rattle.std.proofs.lemmas.Bool.Decides.{Decides-eqb}
use Rattle.wit_data.specs.declared.ids.TypeId.{TypeId}
use Rattle.wit_data.specs.declared.types.Type.TheVariants.{Id}
use Rattle.wit_data.specs.declared.types.TypeDef.{TypeDef}
use Rattle.wit_data.specs.Parts.{RefersBack}
use Rattle.wit_data.specs.Values.{value, kind_at}
use Rattle.comp_trees.specs.Trees.{Resource}
use Rattle.comp_trees.specs.DefinedTrees.{TypeTree}
use Rattle.wit_types.specs.Settings.{owner_at}
use Rattle.type_scopes.specs.Needs.{each_passes, is_at_home}
use Rattle.type_scopes.specs.Titles.{IsTitled, AscendFrom, is_one_of}
use Rattle.foreign_types.specs.Foreign.{is_covered}
use Rattle.foreign_types.proofs.Covering.{parts_of_own}
use Rattle.nested_components.specs.declared.contents.Contents.{Contents}
use Rattle.nested_components.specs.declared.stage.Stage.{Stage}
use Rattle.nested_components.specs.declared.stage.Stage.TheVariants as stages
use Rattle.nested_components.specs.Foreign.{HasParts}
use Rattle.nested_components.specs.Homes.{Home, IsHome, CanExportTypes, IsExporting, IsNextOf, AreAllPassed, next_of, last_of, nested_setting}
use Rattle.nested_components.specs.Types.{listed_ids, exported_type}
use Rattle.nested_components.specs.Growing.{Exports, ExportsTypes}
use Rattle.nested_components.specs.Following.{exports_none, exports_on}
use Rattle.nested_components.proofs.AtHome.{own_owner, parts_defined, known_exporting}

-- once some types were exported, what exports the rest exports all
pub record AreTypesTo (given : List ℕ → TypeTree) (origin : TypeId → Resource) (home : Home) (first now : Contents) (stage : Stage) (rest : List (List ℕ × TypeId)) : Type 0 where
  pub lent : ℕ → Bool
  pub known : IsHome lent home
  pub whole : (new : Contents) → ExportsTypes given origin home.types now new rest → ExportsTypes given origin home.types first new home.named
  pub exporting : IsExporting stage
  pub ascend : AscendFrom (next_of (last_of stage)) (listed_ids rest)
  pub passed : (n : ℕ) → is_one_of (listed_ids home.named) n ≡ true → is_one_of (listed_ids rest) n ≡ false → n < next_of (last_of stage)
  pub titled : AllByRecursion (λ t. IsTitled home.types home.here t.1 t.0) rest
  pub types : AllByRecursion (λ t. value (each_passes (is_at_home home.types lent home.here)) home.types (Some (Id t.1)) ≡ true) rest
  pub covered : AllByRecursion (λ t. is_covered home.types home.here home.foreign (Some (Id t.1)) ≡ true) rest
  pub listed : (n : ℕ) → is_one_of (listed_ids rest) n ≡ true → is_one_of (listed_ids home.named) n ≡ true

at_least : (k : ℕ) (ids : List TypeId) (n : ℕ) → AscendFrom k ids → is_one_of ids n ≡ true → k ≤ n
at_least k [] n a e = absurd (true≢false (sym e))
at_least k (x ∷ xs) n a e = by (n == x.index) refl (at_least (suc x.index) xs n a.1) e
  where
    by : (b : Bool) → (n == x.index) ≡ b → (is_one_of xs n ≡ true → suc x.index ≤ n) → (b || is_one_of xs n) ≡ true → k ≤ n
    by true same later e = let first = a.0 in let is = (Decides-eqb n x.index).0 same in omega (arith, first, is)
    by false same later e = let first = a.0 in let l = later e in omega (arith, first, l)

module _ (given : List ℕ → TypeTree) (origin : TypeId → Resource) (home : Home) (first : Contents) where
  pub types_none : (stage : Stage) → stage ≡ stages.Exporting None → CanExportTypes home → AreTypesTo given origin home first first stage home.named
  types_none stage is can = record {
    lent = can.lent;
    known = can.known;
    whole = λ new h. h;
    exporting = record { last = None; same = is };
    ascend = subst (λ (q : Stage). AscendFrom (next_of (last_of q)) (listed_ids home.named)) (sym is) can.known.ascend;
    passed = λ n e f. absurd (true≢false (sym e ∙ f));
    titled = can.known.titled;
    types = can.known.types;
    covered = can.covered;
    listed = λ n e. e;
  }

  module _ (old : Contents) (stage : Stage) (t : List ℕ × TypeId) (rest : List (List ℕ × TypeId)) (s : AreTypesTo given origin home first old stage (t ∷ rest)) where
    -- the type comes next
    pub comes_next : IsNextOf home stage t.1
    comes_next = record { least = s.ascend.0; none_left = none_left }
      where
        none_left : (n : ℕ) → n < t.1.index → is_one_of (listed_ids home.named) n ≡ true → n < next_of (last_of stage)
        none_left n l e = by (is_one_of (listed_ids (t ∷ rest)) n) refl
          where
            by : (b : Bool) → is_one_of (listed_ids (t ∷ rest)) n ≡ b → n < next_of (last_of stage)
            by false f = s.passed n e f
            by true f = let low = at_least t.1.index (listed_ids (t ∷ rest)) n (omega arith, s.ascend.1) f in absurd (omega (arith, l, low))

    pub next_listed : is_one_of (listed_ids home.named) t.1.index ≡ true
    next_listed = s.listed t.1.index (or_left (t.1.index == t.1.index) (is_one_of (listed_ids rest) t.1.index) ((Decides-eqb t.1.index t.1.index).1 refl))

    -- its parts may be defined
    pub next_parts : (types : List TypeDef) → home.types ≡ types → RefersBack types → HasParts (nested_setting origin home stage) (kind_at types t.1.index)
    next_parts types same back =
        subst (λ (ts : List TypeDef). HasParts (nested_setting origin home stage) (kind_at ts t.1.index)) same
        (let refers = subst RefersBack (sym same) back in
        let own = own_owner home.here (owner_at home.types t.1.index) s.titled.0.owner in
        parts_defined origin s.lent home stage (is_at_home home.types s.lent home.here) (λ m kind e. e) refers t.1 s.titled.0.present (known_exporting origin s.lent home s.known stage s.exporting t.1.index comes_next.none_left) s.types.0
        (parts_of_own home.types home.here refers home.foreign t.1 s.titled.0.present own s.covered.0))

    pub types_more : (now : Contents) (after : Stage) → after ≡ stages.Exporting (Some t.1) → Exports given old now (exported_type origin home.types t ∷ []) [] → AreTypesTo given origin home first now after rest
    types_more now after is one = record {
      lent = s.lent;
      known = s.known;
      whole = λ new h. s.whole new (exports_on given old now new (exported_type origin home.types t ∷ []) (map (exported_type origin home.types) rest) [] [] one h);
      exporting = record { last = Some t.1; same = is };
      ascend = subst (λ (q : Stage). AscendFrom (next_of (last_of q)) (listed_ids rest)) (sym is) s.ascend.1;
      passed = λ n e f. subst (λ (q : Stage). n < next_of (last_of q)) (sym is) (below n e f (n == t.1.index) refl);
      titled = s.titled.1;
      types = s.types.1;
      covered = s.covered.1;
      listed = λ n e. s.listed n (or_right (n == t.1.index) (is_one_of (listed_ids rest) n) e);
    }
      where
        below : (n : ℕ) → is_one_of (listed_ids home.named) n ≡ true → is_one_of (listed_ids rest) n ≡ false → (b : Bool) → (n == t.1.index) ≡ b → n < suc t.1.index
        below n e f true same = let is_it = (Decides-eqb n t.1.index).0 same in omega (arith, is_it)
        below n e f false same =
            let l = s.passed n e (ap (λ b. b || is_one_of (listed_ids rest) n) same ∙ f) in
            let least = s.ascend.0 in
            omega (arith, l, least)

  pub types_all : (now : Contents) (stage : Stage) → AreTypesTo given origin home first now stage [] → ExportsTypes given origin home.types first now home.named
  types_all now stage s = s.whole now (exports_none given now)

  pub all_passed : (now : Contents) (stage : Stage) → AreTypesTo given origin home first now stage [] → AreAllPassed home stage
  all_passed now stage s = record { exporting = s.exporting; each = λ n e. s.passed n e refl }

-- an export of a type of an interface that is known by another name
pub exports_as : (given : List ℕ → TypeTree) (origin : TypeId → Resource) (home here : Home) (old new : Contents) (t : List ℕ × TypeId) → here ≡ home → Exports given old new (exported_type origin here.types t ∷ []) [] →
    Exports given old new (exported_type origin home.types t ∷ []) []
exports_as given origin home here old new t same h = subst (λ (x : Home). Exports given old new (exported_type origin x.types t ∷ []) []) same h
