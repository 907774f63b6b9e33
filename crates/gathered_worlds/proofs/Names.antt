-- The names of adapters, taken one after the other.
use Rattle.std.proofs.Common.{◌≡◌, ◌∙◌, ℕ, List, [], ◌∷◌, ◌++◌, None, refl, sym, ap, subst, append_assoc, append-nil}
use Rattle.std.specs.Prelude.{⊤}
use Rattle.std.specs.List.{IsDistinct}
use Rattle.std.specs.Map.{lookup, keys_of}
use Rattle.std.specs.Str.{bytes_eq}
use Rattle.comp_lists.proofs.TableLemmas.{absent}
use Rattle.record_faults.proofs.Chains.{equivalence}
use Rattle.record_merge.specs.declared.bindgen.Bindgen.{Bindgen}
use Rattle.world_values.specs.declared.gathered.GatheredAdapter.{GatheredAdapter}
use Rattle.gathered_worlds.specs.Arguments.{Adapters}
use Rattle.gathered_worlds.specs.Reach.{names_of}

-- some names were taken, and those of the rest are still to be
pub record NamesSoFar (all rest : Adapters) (names : List (List ℕ × ⊤)) : Type 0 where
  pub is : names ++ names_of rest ≡ names_of all

pub start : (all : Adapters) → NamesSoFar all all []
start all = record { is = refl }

pub step : (all rest : Adapters) (name : List ℕ) (a : GatheredAdapter Bindgen) (old new : List (List ℕ × ⊤)) → NamesSoFar all ((name, a) ∷ rest) old → new ≡ old ++ (name, tt) ∷ [] → NamesSoFar all rest new
step all rest name a old new h put = record { is = ap (λ (x : List (List ℕ × ⊤)). x ++ names_of rest) put ∙ append_assoc old ((name, tt) ∷ []) (names_of rest) ∙ h.is }

pub end : (all : Adapters) (names : List (List ℕ × ⊤)) → NamesSoFar all [] names → names ≡ names_of all
end all names h = sym (append-nil names) ∙ h.is

same_keys : (all : Adapters) → keys_of (names_of all) ≡ keys_of all
same_keys [] = refl
same_keys (a ∷ all) = ap (λ (ns : List (List ℕ)). a.0 ∷ ns) (same_keys all)

-- a name that comes is none of those that were taken
pub is_new : (all rest : Adapters) (name : List ℕ) (a : GatheredAdapter Bindgen) (names : List (List ℕ × ⊤)) → NamesSoFar all ((name, a) ∷ rest) names → IsDistinct bytes_eq (keys_of all) → lookup (bytes_eq name) names ≡ None
is_new all rest name a names h d = absent bytes_eq equivalence names (names_of rest) (names_of all) name tt h.is (subst (IsDistinct bytes_eq) (sym (same_keys all)) d)
