-- A name without its brackets and dots, character by character.
use Rattle.std.proofs.Common.{◌≡◌, ◌==◌, ◌||◌, ℕ, ◌≤◌, ◌<◌, List, [], ◌∷◌, ◌++◌, arith, append-nil, refl, false}
use Rattle.std.specs.List.{flat_map}
use Rattle.std.proofs.lemmas.Str.{encode_ascii}
use Rattle.std.proofs.lemmas.Grind.{common_steps, flat_map-append}
use lib.Utf8.{encode}
use Rattle.nested_terms.specs.Naming.{letter}

-- bytes past ASCII, and those of characters past it
high_is_kept : (b : ℕ) → 128 ≤ b → letter b ≡ b ∷ []
high_is_kept b h = grind arith

pub wide_is_kept : (c : ℕ) → 128 ≤ c → flat_map letter (encode c) ≡ encode c
unfolding encode
wide_is_kept c h = grind (arith, high_is_kept)

pub ascii_letter : (c : ℕ) → c < 128 → flat_map letter (encode c) ≡ letter c
ascii_letter c h = rw (encode_ascii c h) (append-nil (letter c))

pub ascii_kept : (c : ℕ) → c < 128 → (c == 0x5b) ≡ false → (c == 0x5d || c == 0x2e) ≡ false → flat_map letter (encode c) ≡ encode c
ascii_kept c h a b = rw (encode_ascii c h) (rw (a, b) refl)

pub letter_next : (done rest now after : List ℕ) (c : ℕ) → rest ≡ encode c ++ after → now ≡ done ++ flat_map letter (encode c) → now ++ flat_map letter after ≡ done ++ flat_map letter rest
letter_next done rest now after c e f = grind (arith, common_steps, e, f, flat_map-append letter (encode c) after)

pub ruleset letters = (wide_is_kept, ascii_letter, ascii_kept)
