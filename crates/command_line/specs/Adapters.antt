-- The adapters of `new`, and how their words stand among the flags. (The program's own: its command line.)
use Rattle.std.specs.Prelude.{ℕ, Bool, List, [], ◌∷◌, codes, Option, Some, None, option_map, filter_map, if◌then◌else◌}
use Rattle.std.specs.List.{list_all}
use Rattle.std.specs.Option.{is_some}
use Rattle.std.specs.Str.{bytes_eq}
use Rattle.comp_lists.specs.Splits.{split_once}
use Rattle.command_line.specs.declared.adapters.Adapter.{Adapter}

abbrev pub is_adapt : List ℕ → Bool
is_adapt word = bytes_eq word (codes "--adapt")

-- the words behind an `--adapt`; one that is last has none
abbrev pub adapter_words : List (List ℕ) → List (List ℕ)
adapter_words (option ∷ word ∷ words) = if is_adapt option then word ∷ adapter_words words else adapter_words (word ∷ words)
adapter_words words = []

-- the other words, without each `--adapt` that has a word behind it
abbrev pub flag_words : List (List ℕ) → List (List ℕ)
flag_words (option ∷ word ∷ words) = if is_adapt option then flag_words words else option ∷ flag_words (word ∷ words)
flag_words words = words

-- the adapter that a word names, NAME=FILE: the name ends at the first `=`
abbrev pub adapter_of : List ℕ → Option Adapter
adapter_of word = option_map (λ p. record { name = p.0; file = p.1 }) (split_once 61 word)

abbrev pub is_adapter : List ℕ → Bool
is_adapter word = is_some (adapter_of word)

-- the adapters that words name, where all name one
abbrev pub adapters_of : List (List ℕ) → Option (List Adapter)
adapters_of words = if list_all is_adapter words then Some (filter_map adapter_of words) else None
