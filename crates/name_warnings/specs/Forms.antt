-- Names that are not in kebab case (component model, explainer: labels, plain names, interface names).
use Rattle.std.specs.Prelude.{ℕ, Bool, List, [], ◌∷◌, ◌++◌, ◌||◌, not}
use Rattle.comp_names.specs.Tests.{is_label, is_plain_name, is_unversioned}
use Rattle.name_warnings.specs.Warnings.{warned}
use Rattle.name_warnings.specs.declared.warning.Warning.{Warning}
use Rattle.name_warnings.specs.declared.warning.WarningKind.TheVariants as kinds

abbrev pub label_warnings : List (List ℕ) → List ℕ → List Warning
label_warnings path name = warned (not (is_label name)) kinds.NotKebab (path ++ name ∷ [])

-- of a function: a label, or what says that it is one of a resource
abbrev pub plain_name_warnings : List (List ℕ) → List ℕ → List Warning
plain_name_warnings path name = warned (not (is_plain_name name)) kinds.NotKebab (path ++ name ∷ [])

-- of an interface that has an id
abbrev pub interface_name_warnings : List (List ℕ) → List ℕ → List Warning
interface_name_warnings path name = warned (not (is_unversioned name)) kinds.NotKebab (path ++ name ∷ [])

-- of a function or a type that a world has itself, which may also have the name of an interface
abbrev pub is_world_name : List ℕ → Bool
is_world_name name = is_plain_name name || is_unversioned name

abbrev pub world_name_warnings : List (List ℕ) → List ℕ → List Warning
world_name_warnings path name = warned (not (is_world_name name)) kinds.NotKebab (path ++ name ∷ [])
