-- The grammar of the names of imports and exports.
-- Component model, explainer: plain names and interface names, with their labels and versions. Where the
-- standard narrows further (the words of a namespace, canonical versions), this grammar does not.
use Rattle.std.specs.Prelude.{ℕ, ◌<◌, ◌≡◌, Bool, ◌||◌, IsTrue, List, ◌∷◌, ◌++◌, length, slice_index, codes, ◌⊎◌}
use Rattle.std.specs.List.{list_all, flat_map, AllByRecursion}
use Rattle.std.specs.Char.{is_ascii_alphabetic, is_ascii_digit, is_ascii_lowercase, is_ascii_uppercase}
use Rattle.semver.specs.Grammar.{IsValid}
use Rattle.semver.specs.Identifiers.{parts_text}
use Rattle.semver.specs.Parse.{Parts}

-- ---- parts

-- a part, a separator and a part
pub record Joined (Left : List ℕ → Type 0) (mark : ℕ) (Right : List ℕ → Type 0) (text : List ℕ) : Type 0 where
  pub left : List ℕ
  pub right : List ℕ
  pub parts : text ≡ left ++ mark ∷ right
  pub left_is : Left left
  pub right_is : Right right

-- a part after a fixed prefix
pub record Prefixed (beginning : List ℕ) (Rest : List ℕ → Type 0) (text : List ℕ) : Type 0 where
  pub rest : List ℕ
  pub parts : text ≡ beginning ++ rest
  pub rest_is : Rest rest

-- ---- characters

-- the separators of the parts of a name
abbrev pub hyphen : ℕ
hyphen = 45

abbrev pub dot : ℕ
dot = 46

abbrev pub slash : ℕ
slash = 47

abbrev pub colon : ℕ
colon = 58

abbrev pub at_sign : ℕ
at_sign = 64

-- the characters of words
abbrev pub in_lower_word : ℕ → Bool
in_lower_word byte = is_ascii_lowercase byte || is_ascii_digit byte

abbrev pub in_upper_word : ℕ → Bool
in_upper_word byte = is_ascii_uppercase byte || is_ascii_digit byte

-- ---- labels

-- a word: letters of one case, and digits
pub record IsWord (word : List ℕ) : Type 0 where
  pub some : 0 < length word
  pub one_case : IsTrue (list_all in_lower_word word || list_all in_upper_word word)

-- words joined by hyphens, the first of which begins with a letter
pub record IsLabel (label : List ℕ) : Type 0 where
  pub first : List ℕ
  pub more : List (List ℕ)
  pub parts : label ≡ first ++ flat_map (λ word. hyphen ∷ word) more
  pub first_is : IsWord first
  pub letter : IsTrue (is_ascii_alphabetic (slice_index first 0))
  pub more_are : AllByRecursion IsWord more

-- ---- plain names

abbrev pub IsConstructor : List ℕ → Type 0
IsConstructor name = Prefixed (codes "[constructor]") IsLabel name

-- a function of a resource
abbrev pub IsMember : List ℕ → List ℕ → Type 0
IsMember kind name = Prefixed kind (Joined IsLabel dot IsLabel) name

abbrev pub IsPlainName : List ℕ → Type 0
IsPlainName name = IsLabel name ⊎ IsConstructor name ⊎ IsMember (codes "[method]") name ⊎ IsMember (codes "[static]") name

-- ---- versions

-- a version of SemVer 2.0 whose numbers fit 64 bits
pub record IsVersion (version : List ℕ) : Type 0 where
  pub parts : Parts
  pub text : version ≡ parts_text parts
  pub valid : IsValid parts

-- a number: one digit or more
pub record IsNumber (number : List ℕ) : Type 0 where
  pub some : 0 < length number
  pub digits : IsTrue (list_all is_ascii_digit number)

-- the text after the @ of a name: a whole version, or one that ends after its first or second number
abbrev pub IsVersionText : List ℕ → Type 0
IsVersionText version = IsVersion version ⊎ IsNumber version ⊎ Joined IsNumber dot IsNumber version

-- ---- names of interfaces

-- a namespace, a package and an interface
abbrev pub IsUnversioned : List ℕ → Type 0
IsUnversioned name = Joined IsLabel colon (Joined IsLabel slash IsLabel) name

abbrev pub IsInterfaceName : List ℕ → Type 0
IsInterfaceName name = IsUnversioned name ⊎ Joined IsUnversioned at_sign IsVersionText name

-- The names that an import or an export may have.
abbrev pub IsFormed : List ℕ → Type 0
IsFormed name = IsPlainName name ⊎ IsInterfaceName name
