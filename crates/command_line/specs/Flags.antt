-- The flags of `new`. (The program's own: its command line.)
use Rattle.std.specs.Prelude.{ℕ, Bool, true, List, [], ◌∷◌, ◌&&◌, ◌||◌, not, codes, Option, Some, None, if◌then◌else◌}
use Rattle.std.specs.List.{list_any}
use Rattle.std.specs.Str.{bytes_eq}
use Rattle.command_line.specs.declared.flags.Flags.{Flags}

-- whether a word is among these
abbrev pub has : List (List ℕ) → List ℕ → Bool
has words flag = list_any (λ word. bytes_eq word flag) words

abbrev pub is_flag : List ℕ → Bool
is_flag word =
    bytes_eq word (codes "--canonical")
    || (bytes_eq word (codes "--no-merge") || (bytes_eq word (codes "--no-names") || bytes_eq word (codes "--validate")))

-- whether words are flags, none there twice
abbrev pub are_flags : List (List ℕ) → Bool
are_flags [] = true
are_flags (word ∷ words) = is_flag word && (not (has words word) && are_flags words)

-- the flags that words are, in any order, each at most once
abbrev pub flags_of : List (List ℕ) → Option Flags
flags_of words =
    if are_flags words
    then Some (record {
      canonical = has words (codes "--canonical");
      no_merge = has words (codes "--no-merge");
      no_names = has words (codes "--no-names");
      validate = has words (codes "--validate");
    })
    else None

-- whether there are none
abbrev pub are_unset : Flags → Bool
are_unset f = not (f.canonical || (f.no_merge || (f.no_names || f.validate)))
