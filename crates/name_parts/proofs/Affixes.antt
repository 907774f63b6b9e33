-- What `strip_prefix` and `strip_suffix` return.
use Rattle.std.proofs.Common.{◌≡◌, ℕ, ◌-◌, ◌≤◌, List, length, Option, Some, None, Bor, true, false, refl, sym, ap, subst, arith}
use Rattle.std.specs.Option.{MatchOption, option_copied}
use Rattle.std.specs.Str.{IsCharBoundary}
use Rattle.std.specs.Str.Pattern.{FindsTextPrefix, FindsTextSuffix, StripsPrefix, StripsSuffix}
use Rattle.std.proofs.lemmas.Str.Pattern.{starts_text, ends_text}
use Rattle.name_parts.specs.Texts.{after, before}

pub strips_prefix : (prefix text : List ℕ) (r : Option (Bor (List ℕ))) → MatchOption r (FindsTextPrefix prefix text None) (λ x. StripsPrefix (FindsTextPrefix prefix) text x.now)
    → option_copied r ≡ after prefix text
unfolding after
strips_prefix prefix text None h = rw (sym (starts_text false prefix text h)) refl
strips_prefix prefix text (Some x) h =
    let boundary : IsCharBoundary text h.0 = subst (λ k. IsCharBoundary text k) (sym h.1.0) h.1.2 in
    rw (sym (starts_text true prefix text (h.0, h.1, boundary)), sym h.1.0) (ap (λ t. Some t) h.2)

pub strips_suffix : (suffix text : List ℕ) (r : Option (Bor (List ℕ))) → MatchOption r (FindsTextSuffix suffix text None) (λ x. StripsSuffix (FindsTextSuffix suffix) text x.now)
    → option_copied r ≡ before suffix text
unfolding before
strips_suffix suffix text None h = rw (sym (ends_text false suffix text h)) refl
strips_suffix suffix text (Some x) h =
    let within : h.0 ≤ length text = omega (arith, h.3) in
    let boundary : IsCharBoundary text (length text - h.0) = subst (λ k. IsCharBoundary text (length text - k)) (sym h.1.0) h.1.2 in
    rw (sym (ends_text true suffix text (h.0, h.1, within, boundary)), sym h.1.0) (ap (λ t. Some t) h.2)
