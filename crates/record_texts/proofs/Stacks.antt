-- A list of values whose last one counts first.
use Rattle.std.proofs.Common.{◌≡◌, refl, ap, ◌∙◌, sym, List, [], ◌∷◌, ◌++◌, map, reverse, ℕ}
use Rattle.std.proofs.lemmas.List.{map-append, reverse-append}
use Rattle.serde_json.specs.Data.{Data}
use Rattle.serde_json.specs.View.{view}
use Rattle.serde_json.specs.declared.value.Value.{Value}
use Rattle.record_texts.specs.Types.{top, rest}

pub pushed : (vs : List Value) (v : Value) → reverse (map view (vs ++ v ∷ [])) ≡ view v ∷ reverse (map view vs)
pushed vs v = ap reverse (map-append view vs (v ∷ [])) ∙ reverse-append (map view vs) (view v ∷ [])

pub popped : (old new : List Value) (v : Value) → old ≡ new ++ v ∷ [] → reverse (map view old) ≡ view v ∷ reverse (map view new)
popped old new v h = ap (λ vs. reverse (map view vs)) h ∙ pushed new v

pub popped_top : (old new : List Value) (v : Value) → old ≡ new ++ v ∷ [] → view v ≡ top (reverse (map view old))
popped_top old new v h = sym (ap top (popped old new v h))

pub popped_rest : (old new : List Value) (v : Value) → old ≡ new ++ v ∷ [] → reverse (map view new) ≡ rest (reverse (map view old))
popped_rest old new v h = sym (ap rest (popped old new v h))

pub turned : (vs : List Value) → map view (reverse vs) ≡ reverse (map view vs)
turned [] = refl
turned (v ∷ vs) =
    ap (map view) (reverse-append (v ∷ []) vs)
    ∙ (map-append view (reverse vs) (v ∷ [])
    ∙ (ap (λ ds. ds ++ view v ∷ []) (turned vs) ∙ sym (reverse-append (view v ∷ []) (map view vs))))
