-- What the program's arguments ask for. (The program's own: its command line.)
use Rattle.std.specs.Prelude.{ℕ, Bool, true, false, List, [], ◌∷◌, codes, ⊤, Option, Some, None, option_map, option_and_then, if◌then◌else◌}
use Rattle.std.specs.Str.{bytes_eq}
use Rattle.explanations.specs.Codes.{explanation}
use Rattle.found_links.specs.declared.forms.Form.{Form}
use Rattle.found_links.specs.declared.forms.Form.TheVariants as forms
use Rattle.command_line.specs.Adapters.{adapter_words, flag_words, adapters_of}
use Rattle.command_line.specs.Flags.{flags_of, are_unset}
use Rattle.command_line.specs.declared.adapters.Adapter.{Adapter}
use Rattle.command_line.specs.declared.arguments.Request.{Request}
use Rattle.command_line.specs.declared.arguments.Request.TheVariants as requests
use Rattle.command_line.specs.declared.flags.Flags.{Flags}

abbrev pub making : List ℕ → List ℕ → List Adapter → Flags → Request
making out main adapters flags = requests.New (record { out = out; main = main; adapters = adapters; flags = flags })

-- what `new` asks for with the component's file, the module's and these words behind them: flags
-- and adapters, in any order
abbrev pub of_new : List ℕ → List ℕ → List (List ℕ) → Option Request
of_new out main words =
    option_and_then (λ adapters. option_map (making out main adapters) (flags_of (flag_words words))) (adapters_of (adapter_words words))

-- what one word asks for
abbrev pub of_one_word : List ℕ → Option Request
of_one_word word =
    if bytes_eq word (codes "--help") then Some requests.Help
    else (if bytes_eq word (codes "-h") then Some requests.Help
    else (if bytes_eq word (codes "help") then Some requests.Help
    else (if bytes_eq word (codes "--version") then Some requests.Version else None)))

-- the form of links that a flag names
abbrev pub form_of : List ℕ → Option Form
form_of flag = if bytes_eq flag (codes "--mermaid") then Some forms.Mermaid else (if bytes_eq flag (codes "--dot") then Some forms.Dot else None)

-- what `defs` and `links` ask for with a file, and `explain` with a code that has a text
abbrev pub of_two_words : List ℕ → List ℕ → Option Request
of_two_words command word =
    if bytes_eq command (codes "defs") then Some (requests.Defs word)
    else (if bytes_eq command (codes "links") then Some (requests.Links word forms.Text)
    else (if bytes_eq command (codes "explain") then option_map requests.Explain (explanation word) else None))

-- what `record` asks for with the file that is written, the module's, and no words behind them
abbrev pub of_record : List ℕ → List ℕ → List (List ℕ) → Option Request
of_record out file [] = Some (requests.Record out file)
of_record out file _ = None

-- what `links` asks for with a file, the flag of a form, and no words behind them
abbrev pub of_links : List ℕ → List ℕ → List (List ℕ) → Option Request
of_links file flag [] = option_map (requests.Links file) (form_of flag)
of_links file flag _ = None

-- what a command asks for with two words, and these behind them
abbrev pub of_files : List ℕ → List ℕ → List ℕ → List (List ℕ) → Option Request
of_files command first second words =
    if bytes_eq command (codes "new") then of_new first second words
    else (if bytes_eq command (codes "record") then of_record first second words
    else (if bytes_eq command (codes "links") then of_links first second words else None))

-- what words ask for: help or the version; or `defs` with a file, or `explain` with a code; or `new`
-- with the component's file and the module's, and then flags and adapters; or `record` with the file
-- that is written and the module's; or `links` with a file, and the flag of a form
abbrev pub other_request : List (List ℕ) → Option Request
other_request (word ∷ []) = of_one_word word
other_request (command ∷ word ∷ []) = of_two_words command word
other_request (command ∷ first ∷ second ∷ words) = of_files command first second words
other_request _ = None

abbrev pub linting : List ℕ → List Adapter → Flags → Option Request
linting main adapters flags = if are_unset flags then Some (requests.Lint main adapters) else None

-- what `lint` asks for with the module's file and these words behind it: adapters
abbrev pub of_main : List ℕ → List (List ℕ) → Option Request
of_main main words = option_and_then (λ adapters. option_and_then (linting main adapters) (flags_of (flag_words words))) (adapters_of (adapter_words words))

-- the same, where the file is the first of the words
abbrev pub behind_lint : List (List ℕ) → Option Request
behind_lint [] = None
behind_lint (main ∷ words) = of_main main words

-- the same with `lint` before it
abbrev pub of_lint : List (List ℕ) → Option Request
of_lint [] = None
of_lint (command ∷ words) = behind_lint words

abbrev pub is_lint : List (List ℕ) → Bool
is_lint [] = false
is_lint (command ∷ words) = bytes_eq command (codes "lint")

-- what the words after the program's name ask for: `lint` with a module's file and adapters, or another command
abbrev pub request_of : List (List ℕ) → Option Request
request_of words = if is_lint words then of_lint words else other_request words

-- files are named, or a text is asked for, so that memory is needed for the names or the text
abbrev pub NeedsMemory : Option Request → Type 0
NeedsMemory (Some (requests.New names)) = ⊤
NeedsMemory (Some (requests.Defs file)) = ⊤
NeedsMemory (Some (requests.Record out file)) = ⊤
NeedsMemory (Some (requests.Links file form)) = ⊤
NeedsMemory (Some (requests.Explain text)) = ⊤
NeedsMemory (Some (requests.Lint main adapters)) = ⊤
NeedsMemory _ = ⊥

-- whether the definitions of a component are asked for
abbrev pub is_listing : Option Request → Bool
is_listing (Some (requests.Defs file)) = true
is_listing _ = false
