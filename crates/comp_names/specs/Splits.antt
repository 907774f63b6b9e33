-- Texts that are split at a character, or lack a prefix. (No standard defines these.)
use Rattle.std.specs.Prelude.{ℕ, ◌≡◌, ◌≢◌, ◌==◌, ◌||◌, Bool, false, List, ◌∷◌, ◌++◌}
use Rattle.std.specs.List.{AllByRecursion}
use Rattle.comp_names.specs.NameForm.{dot, slash, colon, at_sign}

abbrev pub Lacks : ℕ → List ℕ → Type 0
Lacks mark text = AllByRecursion (λ byte. (byte == mark) ≡ false) text

-- the text is split at the first occurrence of the character
pub record IsSplit (mark : ℕ) (text left right : List ℕ) : Type 0 where
  pub parts : text ≡ left ++ mark ∷ right
  pub first : Lacks mark left

-- a separator of the parts of a name, which occurs in no label
abbrev pub is_mark : ℕ → Bool
is_mark byte = byte == dot || byte == slash || byte == colon || byte == at_sign

-- the text has another beginning
abbrev pub BeginsElse : List ℕ → List ℕ → Type 0
BeginsElse beginning text = (rest : List ℕ) → text ≢ beginning ++ rest
