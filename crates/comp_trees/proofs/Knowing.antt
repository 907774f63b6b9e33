-- Nothing in the tree of a type of a resolve is unknown.
use Rattle.std.proofs.Common.{◌≡◌, ℕ, Bool, true, ◌&&◌, List, [], ◌∷◌, refl, ap, ◌∙◌}
use Rattle.std.specs.List.{AllByRecursion}
use Rattle.wit_data.specs.declared.ids.TypeId.{TypeId}
use Rattle.wit_data.specs.declared.types.TypeDefKind.{TypeDefKind}
use Rattle.wit_data.specs.declared.types.TypeDefKind.TheVariants as kinds
use Rattle.comp_trees.specs.Trees.{Resource, Tree, trees_of, is_known, are_known}
use Rattle.comp_trees.specs.WitTrees.{first, second, kind_tree, making_trees}
use Rattle.comp_trees.specs.Laws.{TreesAreKnown}
use Rattle.comp_trees.proofs.Folds.{holds}

abbrev pub IsKnown : Tree → Type 0
IsKnown t = is_known t ≡ true

pub both : {a b : Bool} → a ≡ true → b ≡ true → a && b ≡ true
both {b = b} e f = ap (λ x. x && b) e ∙ f

all_known : (ts : List Tree) → AllByRecursion IsKnown ts → are_known (trees_of ts) ≡ true
all_known [] h = refl
all_known (t ∷ ts) h = both h.0 (all_known ts h.1)

first_known : (ts : List Tree) → AllByRecursion IsKnown ts → IsKnown (first ts)
first_known [] h = refl
first_known (t ∷ ts) h = h.0

second_known : (ts : List Tree) → AllByRecursion IsKnown ts → IsKnown (second ts)
second_known [] h = refl
second_known (t ∷ ts) h = first_known ts h.1

pub kind_known : (origin : TypeId → Resource) (index : ℕ) (kind : TypeDefKind) (ts : List Tree) → AllByRecursion IsKnown ts → IsKnown (kind_tree origin index kind ts)
kind_known origin index (kinds.Record fields) ts h = all_known ts h
kind_known origin index (kinds.Variant cases) ts h = all_known ts h
kind_known origin index (kinds.Enum names) ts h = refl
kind_known origin index (kinds.Flags names) ts h = refl
kind_known origin index (kinds.Tuple types) ts h = all_known ts h
kind_known origin index (kinds.«Option» t) ts h = second_known ts h
kind_known origin index (kinds.«Result» r) ts h = both (first_known ts h) (second_known ts h)
kind_known origin index (kinds.«List» t) ts h = first_known ts h
kind_known origin index (kinds.Own id) ts h = first_known ts h
kind_known origin index (kinds.Borrow id) ts h = first_known ts h
kind_known origin index kinds.Resource ts h = refl
kind_known origin index (kinds.Stream t) ts h = first_known ts h
kind_known origin index (kinds.Future t) ts h = first_known ts h
kind_known origin index (kinds.Alias t) ts h = first_known ts h

pub trees_are_known : TreesAreKnown
trees_are_known origin types part = holds (making_trees origin) IsKnown (record { absent = refl; simple = λ p. refl; made = kind_known origin }) types part
