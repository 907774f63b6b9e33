-- The names of imports, one after the other.
use Rattle.std.proofs.Common.{◌≡◌, ◌∙◌, ℕ, false, List, [], ◌∷◌, ◌++◌, map, refl, ap, subst, append-nil, Option, Some, None, is_some}
use Rattle.std.specs.Prelude.{Result, Ok, Err, OnOk}
use Rattle.std.specs.Map.{keys_of, lookup}
use Rattle.std.specs.Str.{bytes_eq}
use Rattle.std.proofs.lemmas.Map.Made.{is_some-lookup}
use Rattle.wit_data.specs.declared.functions.Function.{Function}
use Rattle.nested_terms.specs.Naming.{IsFirstFree, AreNamesAfter}
use Rattle.wit_data.specs.declared.ids.TypeId.{TypeId}
use Rattle.nested_components.specs.Functions.{functions_of}
use Rattle.nested_components.specs.Growing.{function_entry}
use Rattle.nested_components.specs.Names.{AddsName}

none_of : {X : Type 0} (o : Option X) → is_some o ≡ false → o ≡ None
none_of None e = refl
none_of (Some x) e = cc

-- a table has no entry of a name that is free
pub free_absent : {X : Type 0} (table : List (List ℕ × X)) (plain name : List ℕ) → IsFirstFree (keys_of table) plain name → lookup (bytes_eq name) table ≡ None
free_absent table plain name h = none_of (lookup (bytes_eq name) table) (is_some-lookup (bytes_eq name) table ∙ h.is_free)

-- the keys of a table that has these names of functions
pub keys_of_functions : (names : List (List ℕ)) → keys_of (map function_entry names) ≡ names
keys_of_functions [] = refl
keys_of_functions (name ∷ names) = ap (λ ns. name ∷ ns) (keys_of_functions names)

pub free_of_names : (table : List (List ℕ × Option TypeId)) (names : List (List ℕ)) (plain name : List ℕ) → table ≡ map function_entry names → IsFirstFree (keys_of table) plain name → IsFirstFree names plain name
free_of_names table names plain name is h = subst (λ ns. IsFirstFree ns plain name) (ap keys_of is ∙ keys_of_functions names) h

-- one name more
pub adds_name : {A E : Type 0} (r : Result A E) (table : List (List ℕ × Option TypeId)) (names new : List (List ℕ)) (plain text name item : List ℕ) → table ≡ map function_entry names → plain ≡ text → IsFirstFree (keys_of table) plain name → item ≡ name → new ≡ names ++ item ∷ [] →
    OnOk r (AddsName names new text)
adds_name (Err e) table names new plain text name item same is free kept added = tt
adds_name (Ok x) table names new plain text name item same is free kept added =
    record { name = name; free = subst (λ p. IsFirstFree names p name) is (free_of_names table names plain name same free); added = added ∙ ap (λ n. names ++ n ∷ []) kept }

-- once these were named, the names of the rest behind them are the names of all
pub record AreNamedTo (names : List (List ℕ)) (rest all : List (List ℕ × Function)) : Type 0 where
  pub whole : (more : List (List ℕ)) → AreNamesAfter names (functions_of rest) more → AreNamesAfter [] (functions_of all) (names ++ more)

pub named_all : (names : List (List ℕ)) (all : List (List ℕ × Function)) → AreNamedTo names [] all → AreNamesAfter [] (functions_of all) names
named_all names all h = subst (AreNamesAfter [] (functions_of all)) (append-nil names) (h.whole [] tt)
