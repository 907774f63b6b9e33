-- What is read is in the grammar, and what is in the grammar is read.
use Rattle.std.proofs.Common.{◌≡◌, ◌⊎◌, inl, inr, ℕ, zero, suc, ◌+◌, ◌-◌, ◌*◌, ◌/◌, ◌≤◌, ◌^◌, Bool, true, false, cond, ltb, leb, List, [], ◌∷◌, ◌++◌, length, take, drop, Option, Some, None, refl, sym, ap, subst, ◌∙◌, append_assoc, arith}
use Rattle.std.specs.Prelude.{option_map, option_and_then}
use Rattle.std.proofs.lemmas.Bool.{ltb-true, ltb-false, lt-ltb, le-ltb, leb-false, lt-leb}
use Rattle.std.proofs.lemmas.Option.{some_pair_parts, cond_some, same_Some}
use Rattle.std.proofs.lemmas.List.{take_at, drop_at, take-append-drop, length-append, length-take}
use Rattle.std.specs.Str.{IsUtf8, is_utf8}
use Rattle.std.proofs.lemmas.Str.{is_utf8-from_IsUtf8, IsUtf8-from_is_utf8}
use Rattle.core_sections.specs.Sections.{Body, custom, Piece, body_of, section_at}
use Rattle.core_sections.specs.Numbers.{leb_at, bytes_at, name_at}
use Rattle.core_sections.specs.Grammar.{IsNumber, IsCounted, Holds, holds_custom, holds_coded, IsSection}

chosen : {A : Type 0} (b : Bool) (x y z : A) → cond b x y ≡ z → ((b ≡ true) × (x ≡ z)) ⊎ ((b ≡ false) × (y ≡ z))
chosen true x y z e = inl (refl, e)
chosen false x y z e = inr (refl, e)

map_some : {A B : Type 0} (f : A → B) (o : Option A) (y : B) → option_map f o ≡ Some y → (x : A) × (o ≡ Some x) × (f x ≡ y)
map_some f None y e = absurd cc
map_some f (Some x) y e = (x, refl, cc)

pub number_takes : (limit : ℕ) (bytes : List ℕ) (n : ℕ) (rest : List ℕ) → leb_at limit bytes ≡ Some (n, rest) → (text : List ℕ) × IsNumber limit text n × (bytes ≡ text ++ rest)
unfolding leb_at
number_takes limit [] n rest e = absurd cc
number_takes limit (b ∷ bytes) n rest e =
    let f = λ (x : ℕ × List ℕ). let y : ℕ × List ℕ = (b - 128 + 128 * x.0, x.1) in y in
    elim (chosen (ltb b 128) (cond (ltb b limit) (Some (b, bytes)) None) (cond (leb limit 128) None (option_map f (leb_at (limit / 128) bytes))) (Some (n, rest)) e) [
      | inl h ↦ elim (chosen (ltb b limit) (Some (b, bytes)) None (Some (n, rest)) h.1) [
        | inl k ↦ let p = some_pair_parts b n bytes rest k.1 in (b ∷ [], inl (ltb-true _ _ h.0, ltb-true _ _ k.0, refl, sym p.0), ap (λ (w : List ℕ). b ∷ w) p.1)
        | inr k ↦ absurd cc
      ]
      | inr h ↦ elim (chosen (leb limit 128) None (option_map f (leb_at (limit / 128) bytes)) (Some (n, rest)) h.1) [
        | inl k ↦ absurd cc
        | inr k ↦
            let m = map_some f (leb_at (limit / 128) bytes) (n, rest) k.1 in
            let t = number_takes (limit / 128) bytes m.0.0 m.0.1 m.1 in
            let is_n : b - 128 + 128 * m.0.0 ≡ n = ap (λ (p : ℕ × List ℕ). p.0) m.2 in
            let is_rest : m.0.1 ≡ rest = ap (λ (p : ℕ × List ℕ). p.1) m.2 in
            (b ∷ t.0, inr (ltb-false _ _ h.0, leb-false _ _ k.0, m.0.0, t.1, sym is_n), ap (λ (w : List ℕ). b ∷ w) (t.2 ∙ ap (λ (w : List ℕ). t.0 ++ w) is_rest))
      ]
    ]

pub number_again : (limit : ℕ) (text : List ℕ) (n : ℕ) (rest : List ℕ) → IsNumber limit text n → leb_at limit (text ++ rest) ≡ Some (n, rest)
unfolding leb_at
number_again limit [] n rest h = absurd h
number_again limit (b ∷ text) n rest (inl h) = rw (lt-ltb _ _ h.0, lt-ltb _ _ h.1, h.2, h.3) refl
number_again limit (b ∷ text) n rest (inr h) =
    rw (le-ltb _ _ h.0, lt-leb _ _ h.1, number_again (limit / 128) text h.2 rest h.3, h.4) refl

then_some : {A B : Type 0} (o : Option A) (f : A → Option B) (y : B) → option_and_then f o ≡ Some y → (x : A) × (o ≡ Some x) × (f x ≡ Some y)
then_some None f y e = absurd cc
then_some (Some x) f y e = (x, refl, e)

guard_some : {A : Type 0} (b : Bool) (x y : A) → cond b None (Some x) ≡ Some y → (b ≡ false) × (x ≡ y)
guard_some true x y e = absurd cc
guard_some false x y e = (refl, cc)

pub bytes_take : (bytes front rest : List ℕ) → bytes_at bytes ≡ Some (front, rest) → (text : List ℕ) × IsCounted text front × (bytes ≡ text ++ rest)
unfolding bytes_at
bytes_take bytes front rest e =
    let a = then_some (leb_at (2 ^ 32) bytes) (λ n. cond (ltb (length n.1) n.0) None (Some (take n.0 n.1, drop n.0 n.1))) (front, rest) e in
    let g = guard_some (ltb (length a.0.1) a.0.0) (take a.0.0 a.0.1, drop a.0.0 a.0.1) (front, rest) a.2 in
    let t = number_takes (2 ^ 32) bytes a.0.0 a.0.1 a.1 in
    let long : a.0.0 ≤ length a.0.1 = ltb-false _ _ g.0 in
    let is_front : take a.0.0 a.0.1 ≡ front = ap (λ (p : List ℕ × List ℕ). p.0) g.1 in
    let is_rest : drop a.0.0 a.0.1 ≡ rest = ap (λ (p : List ℕ × List ℕ). p.1) g.1 in
    let len : a.0.0 ≡ length front = omega (arith, length-take a.0.0 a.0.1, ap length is_front) in
    let cut : a.0.1 ≡ front ++ rest = sym (take-append-drop a.0.0 a.0.1) ∙ ap (λ (w : List ℕ). w ++ drop a.0.0 a.0.1) is_front ∙ ap (λ (w : List ℕ). front ++ w) is_rest in
    (t.0 ++ front, record { count = t.0; number = subst (λ (k : ℕ). IsNumber (2 ^ 32) t.0 k) len t.1; encoded = refl }, t.2 ∙ ap (λ (w : List ℕ). t.0 ++ w) cut ∙ sym (append_assoc t.0 front rest))

pub bytes_again : (text front rest : List ℕ) → IsCounted text front → bytes_at (text ++ rest) ≡ Some (front, rest)
unfolding bytes_at
bytes_again text front rest h =
    let regrouped : text ++ rest ≡ h.count ++ (front ++ rest) = ap (λ (w : List ℕ). w ++ rest) h.encoded ∙ append_assoc h.count front rest in
    let long : ltb (length (front ++ rest)) (length front) ≡ false = le-ltb _ _ (omega (arith, length-append front rest)) in
    ap bytes_at regrouped ∙ rw (number_again (2 ^ 32) h.count (length front) (front ++ rest) h.number, long, take_at front rest (length front) refl, drop_at front rest (length front) refl) refl

choose_some : {A : Type 0} (b : Bool) (x y : A) → cond b (Some x) None ≡ Some y → (b ≡ true) × (x ≡ y)
choose_some b x y e = cond_some b x y e

pub name_takes : (bytes name rest : List ℕ) → name_at bytes ≡ Some (name, rest) → (text : List ℕ) × IsCounted text name × IsUtf8 name × (bytes ≡ text ++ rest)
unfolding name_at
name_takes bytes name rest e =
    let a = then_some (bytes_at bytes) (λ n. cond (is_utf8 n.0) (Some n) None) (name, rest) e in
    let g = choose_some (is_utf8 a.0.0) a.0 (name, rest) a.2 in
    let t = bytes_take bytes a.0.0 a.0.1 a.1 in
    let is_name : a.0.0 ≡ name = ap (λ (p : List ℕ × List ℕ). p.0) g.1 in
    let is_rest : a.0.1 ≡ rest = ap (λ (p : List ℕ × List ℕ). p.1) g.1 in
    (t.0, subst (λ (w : List ℕ). IsCounted t.0 w) is_name t.1, subst IsUtf8 is_name (IsUtf8-from_is_utf8 a.0.0 g.0), t.2 ∙ ap (λ (w : List ℕ). t.0 ++ w) is_rest)

pub name_again : (text name rest : List ℕ) → IsCounted text name → IsUtf8 name → name_at (text ++ rest) ≡ Some (name, rest)
unfolding name_at
name_again text name rest h u = rw (bytes_again text name rest h, is_utf8-from_IsUtf8 name u) refl

pub body_takes : (id : ℕ) (contents : List ℕ) (b : Body) → body_of id contents ≡ Some b → Holds id contents b
body_takes zero contents b e =
    let m = map_some (λ (n : List ℕ × List ℕ). custom n.0 n.1) (name_at contents) b e in
    let t = name_takes contents m.0.0 m.0.1 m.1 in
    subst (λ (w : List ℕ). Holds 0 w b) (sym t.3) (subst (λ (c : Body). Holds 0 (t.0 ++ m.0.1) c) m.2 (holds_custom m.0.0 t.0 m.0.1 t.1 t.2))
body_takes (suc id) contents b e = subst (λ (c : Body). Holds (suc id) contents c) (same_Some _ _ e) (holds_coded (suc id) contents (omega arith))

pub body_again : (id : ℕ) (contents : List ℕ) (b : Body) → Holds id contents b → body_of id contents ≡ Some b
body_again id contents b (holds_custom name text bytes counted text8) = rw (name_again text name bytes counted text8) refl
body_again (suc id) contents b (holds_coded id' bytes pos) = refl
body_again zero contents b (holds_coded id' bytes pos) = absurd (omega arith)

-- the bytes before this rest
front_is : (bytes x y : List ℕ) → bytes ≡ x ++ y → take (length bytes - length y) bytes ≡ x
front_is bytes x y e =
    let len : length x ≡ length bytes - length y = omega (arith, ap length e, length-append x y) in
    ap (λ (w : List ℕ). take (length bytes - length y) w) e ∙ take_at x y (length bytes - length y) len

pub section_takes : (bytes : List ℕ) (p : Piece) (rest : List ℕ) → section_at bytes ≡ Some (p, rest) → IsSection p × (bytes ≡ p.whole ++ rest)
unfolding section_at
section_takes [] p rest e = absurd cc
section_takes (id ∷ bytes) p rest e =
    let made = λ (c : List ℕ × List ℕ) (b : Body). let y : Piece × List ℕ = (record { whole = take (length (id ∷ bytes) - length c.1) (id ∷ bytes); body = b }, c.1) in y in
    let a = then_some (bytes_at bytes) (λ c. option_map (made c) (body_of id c.0)) (p, rest) e in
    let m = map_some (made a.0) (body_of id a.0.0) (p, rest) a.2 in
    let t = bytes_take bytes a.0.0 a.0.1 a.1 in
    let holds = body_takes id a.0.0 m.0 m.1 in
    let cut : id ∷ bytes ≡ (id ∷ t.0) ++ a.0.1 = ap (λ (w : List ℕ). id ∷ w) t.2 in
    let whole : take (length (id ∷ bytes) - length a.0.1) (id ∷ bytes) ≡ id ∷ t.0 = front_is (id ∷ bytes) (id ∷ t.0) a.0.1 cut in
    let is_section : IsSection (record { whole = take (length (id ∷ bytes) - length a.0.1) (id ∷ bytes); body = m.0 }) =
    record { id = id; size = t.1.count; contents = a.0.0; number = t.1.number; encoded = whole ∙ ap (λ (w : List ℕ). id ∷ w) t.1.encoded; holds = holds } in
    subst (λ (y : Piece × List ℕ). IsSection y.0 × (id ∷ bytes ≡ y.0.whole ++ y.1)) m.2 (is_section, cut ∙ ap (λ (w : List ℕ). w ++ a.0.1) (sym whole))

pub section_again : (p : Piece) (rest : List ℕ) → IsSection p → section_at (p.whole ++ rest) ≡ Some (p, rest)
unfolding section_at
section_again p rest h =
    let bytes : List ℕ = (h.size ++ h.contents) ++ rest in
    let counted : IsCounted (h.size ++ h.contents) h.contents = record { count = h.size; number = h.number; encoded = refl } in
    let regrouped : p.whole ++ rest ≡ h.id ∷ bytes = ap (λ (w : List ℕ). w ++ rest) h.encoded in
    let whole : take (length (h.id ∷ bytes) - length rest) (h.id ∷ bytes) ≡ p.whole = front_is (h.id ∷ bytes) (h.id ∷ (h.size ++ h.contents)) rest refl ∙ sym h.encoded in
    ap section_at regrouped ∙ rw (bytes_again (h.size ++ h.contents) h.contents rest counted, body_again h.id h.contents p.body h.holds, whole) refl
