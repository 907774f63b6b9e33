-- The names under which a nested component imports the functions of an interface (this project's
-- own, as `wit-component` has them). A name that is taken already is lengthened by numbers.
use Rattle.std.specs.Prelude.{ℕ, zero, suc, ◌≡◌, ◌==◌, ◌||◌, ◌<◌, ◌^◌, Bool, true, false, List, [], ◌∷◌, ◌++◌, length, codes, if◌then◌else◌}
use Rattle.std.specs.Fmt.{decimal}
use Rattle.std.specs.List.{flat_map, list_any, range_with_len}
use Rattle.std.specs.Str.{bytes_eq}
use Rattle.wit_data.specs.declared.functions.Function.{Function}
use Rattle.wit_data.specs.declared.functions.FunctionKind.{FunctionKind}
use Rattle.wit_data.specs.declared.functions.FunctionKind.TheVariants as kinds

abbrev pub is_free : FunctionKind → Bool
is_free kinds.Freestanding = true
is_free kinds.AsyncFreestanding = true
is_free kind = false

-- a name of a method, a static function or a constructor without its brackets and dots: `[method]a.b` is `method-a-b`
abbrev pub letter : ℕ → List ℕ
letter c = if c == 0x5b then [] else if c == 0x5d || c == 0x2e then 0x2d ∷ [] else c ∷ []

abbrev pub plain_import_name : Function → List ℕ
plain_import_name f = elim (is_free f.kind) [ true ↦ codes "import-func-" ++ f.name | false ↦ codes "import-" ++ flat_map letter f.name ]

-- the name of the import of a type of this name
abbrev pub type_import_name : List ℕ → List ℕ
type_import_name name = codes "import-type-" ++ name

-- a name with the first so many numbers behind it
abbrev pub numbered : ℕ → List ℕ → List ℕ
numbered count name = name ++ flat_map decimal (range_with_len 0 count)

abbrev pub is_taken : List (List ℕ) → List ℕ → Bool
is_taken taken name = list_any (bytes_eq name) taken

-- the name, with as few numbers behind it as it takes for it to be free; their count has 64 bits
pub record IsFirstFree (taken : List (List ℕ)) (name free : List ℕ) : Type 0 where
  pub count : ℕ
  pub few : count < 2 ^ 64
  pub same : free ≡ numbered count name
  pub is_free : is_taken taken free ≡ false
  pub fewer : (n : ℕ) → n < count → is_taken taken (numbered n name) ≡ true

-- the names of these functions, behind those that are taken
abbrev pub AreNamesAfter : List (List ℕ) → List Function → List (List ℕ) → Type 0
AreNamesAfter taken [] [] = Unit {0}
AreNamesAfter taken (f ∷ fs) (name ∷ names) = IsFirstFree taken (plain_import_name f) name × AreNamesAfter (taken ++ name ∷ []) fs names
AreNamesAfter taken fs names = ⊥

abbrev pub AreNames : List Function → List (List ℕ) → Type 0
AreNames fs names = AreNamesAfter [] fs names

-- ---- the names as a function

-- the name, with numbers from this one on behind it, at most so many, as long as it is taken
abbrev pub lengthened : ℕ → ℕ → List (List ℕ) → List ℕ → List ℕ
lengthened zero count taken name = name
lengthened (suc more) count taken name = if is_taken taken name then lengthened more (suc count) taken (name ++ decimal count) else name

-- the first name that is free. No more numbers are behind it than letters are in the names that are taken.
abbrev pub first_free : List (List ℕ) → List ℕ → List ℕ
first_free taken name = lengthened (suc (length (flat_map (λ n. n) taken))) 0 taken name

abbrev pub names_after : List (List ℕ) → List Function → List (List ℕ)
names_after taken [] = []
names_after taken (f ∷ fs) = first_free taken (plain_import_name f) ∷ names_after (taken ++ first_free taken (plain_import_name f) ∷ []) fs

-- the names under which functions are imported
abbrev pub import_names : List Function → List (List ℕ)
import_names fs = names_after [] fs
