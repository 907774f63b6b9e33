-- Whether types are within the limits.
use Rattle.std.proofs.Common.{◌≡◌, ℕ, zero, suc, ◌+◌, ◌<◌, ◌≤◌, List, [], ◌∷◌, refl, length, drop, get_or, min, ap, sym, subst, ◌∙◌, arith, Option, None}
use Rattle.std.specs.Prelude.{◌↔◌}
use Rattle.std.specs.List.{AllByRecursion}
use Rattle.std.proofs.lemmas.List.{length-map}
use Rattle.wit_data.specs.declared.types.Type.{«Type» as Ty}
use Rattle.wit_data.specs.declared.types.TypeDef.{TypeDef}
use Rattle.wit_data.specs.Parts.{parts, RefersBack}
use Rattle.wit_data.specs.Values.{Making, values, value, part_value, part_values, kind_at}
use Rattle.wit_data.specs.Sizes.{sum, greatest, counting_nodes, counting_levels}
use Rattle.wit_data.proofs.Values.{made_whole, part_value_at, length_values}
use Rattle.wit_data.proofs.Counts.{drop_all}

-- the types before the n-th are within the limits
pub record WithinSoFar (types : List TypeDef) (n : ℕ) : Type 0 where
  pub nodes : AllByRecursion (λ n. n ≤ 10000) (values counting_nodes types) ↔ AllByRecursion (λ n. n ≤ 10000) (drop n (values counting_nodes types))
  pub levels : AllByRecursion (λ n. n ≤ 100) (values counting_levels types) ↔ AllByRecursion (λ n. n ≤ 100) (drop n (values counting_levels types))

-- the last type was tested
pub within_all : (types : List TypeDef) (n : ℕ) → length types ≤ n → WithinSoFar types n → AllByRecursion (λ n. n ≤ 10000) (values counting_nodes types) × AllByRecursion (λ n. n ≤ 100) (values counting_levels types)
within_all types n l w =
    let node_end : length (values counting_nodes types) ≤ n = omega (arith, l, length_values counting_nodes [] types) in
    let level_end : length (values counting_levels types) ≤ n = omega (arith, l, length_values counting_levels [] types) in (
      w.nodes.1 (subst (λ ns. AllByRecursion (λ n. n ≤ 10000) ns) (sym (drop_all (values counting_nodes types) n node_end)) tt),
      w.levels.1 (subst (λ ns. AllByRecursion (λ n. n ≤ 100) ns) (sym (drop_all (values counting_levels types) n level_end)) tt),
    )

-- the counts of a type's parts
pub length_counts : (m : Making ℕ) (types : List TypeDef) (id : ℕ) → length (part_values m types id) ≡ length (parts (kind_at types id))
length_counts m types id = length-map (parts (kind_at types id)) (part_value m (values m types))

-- at an index in range the default value doesn't matter
get_or-any : {X : Type 0} (xs : List X) (n : ℕ) (d e : X) → n < length xs → get_or xs n d ≡ get_or xs n e
get_or-any [] n d e l = absurd (omega (arith, l))
get_or-any (x ∷ xs) zero d e l = refl
get_or-any (x ∷ xs) (suc n) d e l = get_or-any xs n d e (omega (arith, l))

pub counted_at : (m : Making ℕ) (cap : ℕ) (types : List TypeDef) (id n count : ℕ) (p : Option Ty) → n < length (parts (kind_at types id)) → count ≡ min (value m types p) cap → p ≡ get_or (parts (kind_at types id)) n None → count ≡ min (get_or (part_values m types id) n 0) cap
counted_at m cap types id n count p l c e =
    let within : n < length (part_values m types id) = omega (arith, l, length_counts m types id) in
    c ∙ ap (λ k. min k cap) (ap (λ q. value m types q) e ∙ (sym (part_value_at m types id n l) ∙ get_or-any (part_values m types id) n m.absent 0 within))

-- the count of a type
pub nodes_at : (types : List TypeDef) (id : ℕ) → RefersBack types → id < length types → get_or (values counting_nodes types) id 1 ≡ 1 + sum (part_values counting_nodes types id)
nodes_at types id b l = made_whole counting_nodes types id b l

pub levels_at : (types : List TypeDef) (id : ℕ) → RefersBack types → id < length types → get_or (values counting_levels types) id 0 ≡ 1 + greatest (part_values counting_levels types id)
levels_at types id b l = made_whole counting_levels types id b l
