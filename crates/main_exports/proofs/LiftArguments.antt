-- The arguments for the functions of an interface, one after the other.
use Rattle.std.proofs.Common.{◌≡◌, ◌∙◌, ℕ, suc, List, [], ◌∷◌, ◌++◌, refl, sym, ap, subst, append_assoc, append-nil, Contains, arith, ◌⊎◌, inl, inr}
use Rattle.std.specs.Prelude.{length}
use Rattle.std.specs.List.{AllByRecursion}
use Rattle.comp_bytes.specs.declared.def.Argument.{Argument}
use Rattle.comp_bytes.specs.declared.def.Def.{Def}
use Rattle.wit_data.specs.declared.functions.Function.{Function}
use Rattle.wit_data.specs.declared.worlds.WorldKey.{WorldKey}
use Rattle.comp_worlds.specs.declared.world.ComponentWorld.{ComponentWorld}
use Rattle.comp_links.specs.Lists.{RequiredFunction}
use Rattle.comp_links.specs.Targets.{UserModule as User}
use Rattle.comp_terms.specs.Rules.{Grows}
use Rattle.comp_items.proofs.Kept.{Longer}
use Rattle.root_imports.specs.Growing.{Grows-none, Grows-then}
use Rattle.core_options.specs.Causes.{IsEncodedExport}
use Rattle.core_options.specs.MainOptions.{HasLiftOptions}
use Rattle.interface_needs.proofs.Lists.{contains_cons, contains_first, contains_later, contains_none}
use Rattle.root_imports.specs.Keeping.{Root, RootKept}
use Rattle.main_exports.specs.Exports.{at_key, function_of, functions_at, AreModuleFunctions, IsLiftArgument, AreLiftArguments}
use Rattle.root_imports.proofs.Keeping.{kept_then}
use Rattle.main_exports.proofs.Growth.{argument-kept}

abbrev Entries : Type 0
Entries = List (List ℕ × Function)

-- Once the functions before the rest have their arguments, the arguments of the rest behind these
-- are those of all; what holds of the rest holds of all; and the rest is among all.
pub record ArgumentsSoFar (w : ComponentWorld) (of : User) (old new : Root) (key : WorldKey) (all : Entries) (names : List (List ℕ)) (rest : Entries) (left : List (List ℕ)) (done : List Argument) : Type 0 where
  pub kept : RootKept w old new
  pub grows : Grows w old.items.defs new.items.defs []
  pub whole : (ds : List Def) (more : List Argument) → Longer new.items.defs ds → AreLiftArguments w of ds key rest left more → AreLiftArguments w of ds key all names (done ++ more)
  pub has : AllByRecursion (HasLiftOptions w) (functions_at of key rest) → AllByRecursion (HasLiftOptions w) (functions_at of key all)
  pub encoded : AllByRecursion (IsEncodedExport w) (functions_at of key rest) → AllByRecursion (IsEncodedExport w) (functions_at of key all)
  pub among : (r : RequiredFunction) → Contains (functions_at of key rest) r → Contains (functions_at of key all) r
  pub functions : AreModuleFunctions w of key rest

pub so_far_start : (w : ComponentWorld) (of : User) (root : Root) (key : WorldKey) (all : Entries) (names : List (List ℕ)) → RootKept w root root → AreModuleFunctions w of key all → ArgumentsSoFar w of root root key all names all names []
so_far_start w of root key all names kept functions = record {
  kept = kept;
  grows = Grows-none w root.items.defs;
  whole = λ ds more g h. h;
  has = λ h. h;
  encoded = λ h. h;
  among = λ r c. c;
  functions = functions;
}

pub so_far_step : (w : ComponentWorld) (of : User) (old mid new : Root) (key : WorldKey) (all : Entries) (names : List (List ℕ)) (e : List ℕ × Function) (rest : Entries) (name : List ℕ) (left : List (List ℕ)) (done : List Argument) (a : Argument) →
    ArgumentsSoFar w of old mid key all names (e ∷ rest) (name ∷ left) done → RootKept w mid new → Grows w mid.items.defs new.items.defs [] → IsLiftArgument w of new.items.defs key e name a → HasLiftOptions w (function_of of (at_key key e.0)) →
    IsEncodedExport w (function_of of (at_key key e.0)) → ArgumentsSoFar w of old new key all names rest left (done ++ a ∷ [])
so_far_step w of old mid new key all names e rest name left done a h kept grows lifted has encoded = record {
  kept = kept_then w old mid new h.kept kept;
  grows = Grows-then h.grows grows;
  whole = λ ds more g k.
      subst (λ l. AreLiftArguments w of ds key all names l) (sym (append_assoc done (a ∷ []) more))
      (h.whole ds (a ∷ more) (record { more = longer_more grows g; grown = longer_grown grows g }) (argument-kept w of new.items.defs ds g key e name a lifted, k));
  has = λ k. h.has (has, k);
  encoded = λ k. h.encoded (encoded, k);
  among = λ r c. h.among r (contains_later (function_of of (at_key key e.0)) (functions_at of key rest) r c);
  functions = h.functions.1;
}
  where
    longer_more : Grows w mid.items.defs new.items.defs [] → {ds : List Def} → Longer new.items.defs ds → List Def
    longer_more grows g = grows.more ++ g.more

    longer_grown : (grows : Grows w mid.items.defs new.items.defs []) → {ds : List Def} → (g : Longer new.items.defs ds) → ds ≡ mid.items.defs ++ (grows.more ++ g.more)
    longer_grown grows g = g.grown ∙ (ap (λ l. l ++ g.more) grows.extended ∙ append_assoc mid.items.defs grows.more g.more)

pub so_far_end : (w : ComponentWorld) (of : User) (old new : Root) (key : WorldKey) (all : Entries) (names : List (List ℕ)) (done : List Argument) → ArgumentsSoFar w of old new key all names [] [] done → AreLiftArguments w of new.items.defs key all names done
so_far_end w of old new key all names done h = subst (λ l. AreLiftArguments w of new.items.defs key all names l) (append-nil done) (h.whole new.items.defs [] (record { more = []; grown = sym (append-nil new.items.defs) }) tt)

-- the function of the next one is one of them
pub one_among : (w : ComponentWorld) (of : User) (old new : Root) (key : WorldKey) (all : Entries) (names : List (List ℕ)) (e : List ℕ × Function) (rest : Entries) (left : List (List ℕ)) (done : List Argument) →
    ArgumentsSoFar w of old new key all names (e ∷ rest) left done → (r : RequiredFunction) → Contains (function_of of (at_key key e.0) ∷ []) r → Contains (functions_at of key all) r
one_among w of old new key all names e rest left done h r c = h.among r (first_of (function_of of (at_key key e.0)) (functions_at of key rest) r c)
  where
    first_of : (x : RequiredFunction) (xs : List RequiredFunction) (r : RequiredFunction) → Contains (x ∷ []) r → Contains (x ∷ xs) r
    first_of x xs r c = by (contains_cons x [] r c)
      where
        by : (x ≡ r) ⊎ Contains [] r → Contains (x ∷ xs) r
        by (inl is) = subst (λ y. Contains (x ∷ xs) y) is (contains_first x xs)
        by (inr none) = contains_none r none

-- a list without elements
pub empty_when : (l : List (List ℕ)) → length l ≡ 0 → l ≡ []
empty_when [] h = refl
empty_when (x ∷ xs) h = absurd (never (length xs) h)
  where
    never : (n : ℕ) → suc n ≡ 0 → ⊥
    never n h = omega (arith, h)
