-- Tests of names: the grammar of `NameForm`, as functions. (Component model, explainer: labels, plain
-- names, interface names without their versions.)
use Rattle.std.specs.Prelude.{ℕ, ◌==◌, List, [], ◌∷◌, length, slice_index, codes, Bool, false, not, ◌&&◌, ◌||◌, Option, Some, None, if◌then◌else◌}
use Rattle.std.specs.List.{list_all, slice_split}
use Rattle.std.specs.Char.{is_ascii_alphabetic}
use Rattle.comp_lists.specs.Splits.{split_once}
use Rattle.comp_names.specs.NameForm.{in_lower_word, in_upper_word, hyphen, dot, slash, colon}

abbrev pub is_word : List ℕ → Bool
is_word word = not (length word == 0) && (list_all in_lower_word word || list_all in_upper_word word)

abbrev pub is_label : List ℕ → Bool
is_label text = is_ascii_alphabetic (slice_index text 0) && list_all is_word (slice_split (λ byte. byte == hyphen) text)

abbrev pub is_pair_by : Option (List ℕ × List ℕ) → Bool
is_pair_by None = false
is_pair_by (Some p) = is_label p.0 && is_label p.1

-- two labels with this character between them
abbrev pub is_pair : ℕ → List ℕ → Bool
is_pair mark text = is_pair_by (split_once mark text)

-- what is behind this beginning
abbrev pub behind : List ℕ → List ℕ → Option (List ℕ)
behind [] text = Some text
behind (b ∷ bs) [] = None
behind (b ∷ bs) (c ∷ cs) = if b == c then behind bs cs else None

abbrev pub passes : (List ℕ → Bool) → Option (List ℕ) → Bool
passes test None = false
passes test (Some rest) = test rest

-- a label, or what says that a function is of a resource
abbrev pub is_plain_name : List ℕ → Bool
is_plain_name name =
    is_label name
    || (passes is_label (behind (codes "[constructor]") name)
    || (passes (is_pair dot) (behind (codes "[method]") name)
    || passes (is_pair dot) (behind (codes "[static]") name)))

abbrev pub is_interface_by : Option (List ℕ × List ℕ) → Bool
is_interface_by None = false
is_interface_by (Some p) = is_label p.0 && is_pair slash p.1

abbrev pub before_version_by : List ℕ → Option (List ℕ × List ℕ) → List ℕ
before_version_by name None = name
before_version_by name (Some p) = p.0

-- the name of an interface without its version, if it has one: a namespace, a package and an interface
abbrev pub is_unversioned : List ℕ → Bool
is_unversioned name = is_interface_by (split_once colon (before_version_by name (split_once 64 name)))
