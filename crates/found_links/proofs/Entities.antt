-- The UTF-8 bytes of characters past ASCII are no entities.
use Rattle.std.proofs.Common.{◌≡◌, ℕ, ◌≤◌, ◌<◌, List, [], ◌∷◌, ◌++◌, arith, append-nil}
use Rattle.std.specs.List.{flat_map}
use Rattle.std.proofs.lemmas.Str.{encode_ascii}
use Rattle.std.proofs.lemmas.Grind.{common_steps, flat_map-append}
use lib.Utf8.{encode}
use Rattle.found_links.specs.Forms.{entity}

high_is_no_entity : (b : ℕ) → 128 ≤ b → entity b ≡ b ∷ []
high_is_no_entity b h = grind arith

pub wide_is_no_entity : (c : ℕ) → 128 ≤ c → flat_map entity (encode c) ≡ encode c
unfolding encode
wide_is_no_entity c h = grind (arith, high_is_no_entity)

pub ascii_entity : (c : ℕ) → c < 128 → flat_map entity (encode c) ≡ entity c
ascii_entity c h = rw (encode_ascii c h) (append-nil (entity c))

pub entity_next : (done rest now after : List ℕ) (c : ℕ) → rest ≡ encode c ++ after → now ≡ done ++ flat_map entity (encode c) → now ++ flat_map entity after ≡ done ++ flat_map entity rest
entity_next done rest now after c e f = grind (arith, common_steps, e, f, flat_map-append entity (encode c) after)

pub ruleset unchanged = (wide_is_no_entity, ascii_entity)
