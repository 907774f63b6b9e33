-- A set of options as the list of them (component model, binary format: `canonopt`), and which are missing.
use Rattle.std.specs.Prelude.{ℕ, List, [], ◌∷◌, ◌++◌, Bool, true, false, ◌&&◌, not, Option, Some, None, is_some}
use Rattle.comp_bytes.specs.declared.canon.CanonicalOption.{CanonicalOption}
use Rattle.comp_bytes.specs.declared.canon.CanonicalOption.TheVariants as canonical
use Rattle.standard_kinds.specs.declared.kinds.StringEncoding.{StringEncoding}
use Rattle.standard_kinds.specs.declared.kinds.StringEncoding.TheVariants as encodings
use Rattle.comp_options.specs.Options.{needs, memory_bit, realloc_bit, encoding_bit, async_bit}

-- a value, if there is one, as one option
abbrev pub one_if : {A : Type 0} → (A → CanonicalOption) → Option A → List CanonicalOption
one_if f (Some x) = f x ∷ []
one_if f None = []

abbrev pub async_if : Bool → List CanonicalOption
async_if true = canonical.Async ∷ []
async_if false = []

abbrev pub encoding_option : StringEncoding → CanonicalOption
encoding_option encodings.UTF8 = canonical.Utf8
encoding_option encodings.UTF16 = canonical.Utf16
encoding_option encodings.CompactUTF16 = canonical.CompactUtf16

-- the four options, in order
abbrev pub in_order : Option ℕ → Option ℕ → Option StringEncoding → Bool → List CanonicalOption
in_order memory realloc encoding is_async = one_if canonical.Memory memory ++ (one_if canonical.Realloc realloc ++ (one_if encoding_option encoding ++ async_if is_async))

-- a value, if the set needs it
abbrev pub when : {A : Type 0} → Bool → Option A → Option A
when true x = x
when false x = None

-- memory, realloc, encoding, asynchronous: each if it is in the set
abbrev pub options_of : ℕ → StringEncoding → Option ℕ → Option ℕ → List CanonicalOption
options_of set encoding memory realloc = in_order (when (needs set memory_bit) memory) (when (needs set realloc_bit) realloc) (when (needs set encoding_bit) (Some encoding)) (needs set async_bit)

-- an option that is needed and missing
abbrev pub lacks_memory : ℕ → Option ℕ → Bool
lacks_memory set memory = needs set memory_bit && not (is_some memory)

abbrev pub lacks_realloc : ℕ → Option ℕ → Bool
lacks_realloc set realloc = needs set realloc_bit && not (is_some realloc)
