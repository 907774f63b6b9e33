-- How large types are. (The component model sets no limit; these limits are this project's own, except for the
-- labels of flags.)
use Rattle.std.specs.Prelude.{ℕ, ◌+◌, ◌≤◌, max, length, List, [], ◌∷◌}
use Rattle.std.specs.List.{AllByRecursion}
use Rattle.wit_data.specs.declared.types.TypeDefKind.{TypeDefKind}
use Rattle.wit_data.specs.declared.types.TypeDefKind.TheVariants as kinds
use Rattle.wit_data.specs.declared.types.TypeDef.{TypeDef}
use Rattle.wit_data.specs.Values.{Making, values}

abbrev pub sum : List ℕ → ℕ
sum [] = 0
sum (n ∷ ns) = n + sum ns

abbrev pub greatest : List ℕ → ℕ
greatest [] = 0
greatest (n ∷ ns) = max n (greatest ns)

-- the nodes of a type's tree: its own, and those of its parts; an alias is a node, and so is a
-- case without a type, so that no walk takes more steps than there are nodes
abbrev pub node_count : ℕ → TypeDefKind → List ℕ → ℕ
node_count n kind counts = 1 + sum counts

abbrev pub counting_nodes : Making ℕ
counting_nodes = record { absent = 1; simple = λ p. 1; made = node_count }

-- how deep types are nested; an alias counts as a level, so that no chain of aliases is long
abbrev pub level_count : ℕ → TypeDefKind → List ℕ → ℕ
level_count n kind counts = 1 + greatest counts

abbrev pub counting_levels : Making ℕ
counting_levels = record { absent = 0; simple = λ p. 1; made = level_count }

-- flags have at most 32 labels (component model, explainer: `flags`)
abbrev pub HasFewLabels : TypeDefKind → Type 0
HasFewLabels (kinds.Flags names) = length names ≤ 32
HasFewLabels kind = Unit {0}

-- no type has more than 10,000 nodes, or more than 100 levels
pub record AreSmall (types : List TypeDef) : Type 0 where
  pub labels : AllByRecursion (λ t. HasFewLabels t.kind) types
  pub nodes : AllByRecursion (λ n. n ≤ 10000) (values counting_nodes types)
  pub levels : AllByRecursion (λ n. n ≤ 100) (values counting_levels types)
