-- The UTF-8 bytes of characters past ASCII are written without escapes.
use Rattle.std.proofs.Common.{◌≡◌, ℕ, ◌≤◌, ◌<◌, List, [], ◌∷◌, ◌++◌, arith, append-nil}
use Rattle.std.specs.List.{flat_map}
use Rattle.std.proofs.lemmas.Str.{encode_ascii}
use Rattle.std.proofs.lemmas.Grind.{common_steps, flat_map-append}
use lib.Utf8.{encode}
use Rattle.comp_lines.specs.Texts.{escaped}

pub high_is_unescaped : (b : ℕ) → 128 ≤ b → escaped b ≡ b ∷ []
high_is_unescaped b h = grind arith

pub wide_is_unescaped : (c : ℕ) → 128 ≤ c → flat_map escaped (encode c) ≡ encode c
unfolding encode
wide_is_unescaped c h = grind (arith, high_is_unescaped)

pub ascii_escaped : (c : ℕ) → c < 128 → flat_map escaped (encode c) ≡ escaped c
ascii_escaped c h = rw (encode_ascii c h) (append-nil (escaped c))

pub escaped_next : (done rest now after : List ℕ) (c : ℕ) → rest ≡ encode c ++ after → now ≡ done ++ flat_map escaped (encode c) → now ++ flat_map escaped after ≡ done ++ flat_map escaped rest
escaped_next done rest now after c e f = grind (arith, common_steps, e, f, flat_map-append escaped (encode c) after)

pub ruleset escapes = (wide_is_unescaped, ascii_escaped)
