-- What `split_once` returns.
use Rattle.std.proofs.Common.{◌≡◌, ℕ, ◌<◌, List, length, Option, Some, None, Bor, refl, arith, eqb}
use Rattle.std.specs.Prelude.{option_map}
use Rattle.std.specs.List.{position_or_len}
use Rattle.std.proofs.lemmas.Bool.{le-ltb, lt-ltb}
use Rattle.std.proofs.lemmas.Str.Pattern.{IsSplitOnceResult, split_once_first}
use Rattle.comp_lists.specs.Splits.{split_once}

pub splits_once : (c : ℕ) (bs : List ℕ) (r : Option (Bor (List ℕ) × Bor (List ℕ))) → IsSplitOnceResult c bs r → c < 128 → option_map (λ p. (p.0.now, p.1.now)) r ≡ split_once c bs
splits_once c bs None h lt =
    let p = split_once_first c bs None h lt in
    rw (le-ltb (position_or_len (λ b. eqb b c) bs) (length bs) (omega arith)) refl
splits_once c bs (Some x) h lt =
    let p = split_once_first c bs (Some x) h lt in
    rw (lt-ltb (position_or_len (λ b. eqb b c) bs) (length bs) p.0, p.1, p.2) refl
