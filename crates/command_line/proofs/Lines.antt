-- A text that is written in parts.
use Rattle.std.proofs.Common.{◌≡◌, ℕ, ◌+◌, ◌-◌, ◌≤◌, Bool, true, false, true≢false, List, ◌++◌, [], ◌∷◌, ◌<◌, map, get_or, length, take, drop, Option, Some, None, refl, sym, ap, ap₂, subst, ◌∙◌, append_assoc, append-nil, arith, IsTrue}
use Rattle.std.specs.Prelude.{codes}
use Rattle.std.specs.Io.KnownBytes.{Appends, Keeps}
use Rattle.std.proofs.Math.Seq.{take-add}
use Rattle.std.proofs.lemmas.Grind.{flat_map-append}
use Rattle.std.proofs.lemmas.List.{length-drop, take_all, take-append-drop, drop_all, take_more, map-append}
use Rattle.command_line.specs.Listing.{printed}
use Rattle.command_line.specs.Messages.{Puts, Says}

-- the parts one after another
pub both : (a b c : Option (List ℕ)) (xs ys zs : List ℕ) → zs ≡ xs ++ ys → Appends a b xs → Appends b c ys → Appends a c zs
both None b c xs ys zs e h k = tt
both (Some ls) None c xs ys zs e h k = absurd h
both (Some ls) (Some ms) None xs ys zs e h k = absurd k
both (Some ls) (Some ms) (Some ns) xs ys zs e h k = k ∙ ap (λ (w : List ℕ). w ++ ys) h ∙ append_assoc ls xs ys ∙ ap (λ (w : List ℕ). ls ++ w) (sym e)

pub more : (a b c : Option (List ℕ)) (text : List ℕ) (i n : ℕ) → Appends a b (take i text) → Appends b c (take n (take (length text - i) (drop i text))) → Appends a c (take (i + n) text)
more a b c text i n h k =
    let all : take (length text - i) (drop i text) ≡ drop i text = take_all _ _ (omega (arith, length-drop i text)) in
    both a b c (take i text) (take n (drop i text)) (take (i + n) text) (take-add i n text) h (rw all at k)

-- a front of a text, and the rest of it
pub front_of : (before after : Option (List ℕ)) (text : List ℕ) (n : ℕ) (whole : Bool) → Appends before after (take n text) → (IsTrue whole → length text ≤ n) → Puts before after text whole
front_of before after text n whole h ends =
    record { front = take n text; rest = drop n text; split = sym (take-append-drop n text); appended = h; ends = λ w. drop_all n text (ends w) }

-- a text after one that was written whole, and one after which nothing more was written
pub puts_both : (a b c : Option (List ℕ)) (x y : List ℕ) (whole : Bool) → Puts a b x true → Puts b c y whole → Puts a c (x ++ y) whole
puts_both a b c x y whole h k =
    let all : x ≡ h.front = h.split ∙ (ap (λ r. h.front ++ r) (h.ends refl) ∙ append-nil h.front) in
    record {
      front = h.front ++ k.front;
      rest = k.rest;
      split = ap₂ (λ u v. u ++ v) all k.split ∙ sym (append_assoc h.front k.front k.rest);
      appended = both a b c h.front k.front (h.front ++ k.front) refl h.appended k.appended;
      ends = k.ends;
    }

pub puts_first : (a b : Option (List ℕ)) (x y : List ℕ) → Puts a b x false → Puts a b (x ++ y) false
puts_first a b x y h =
    record { front = h.front; rest = h.rest ++ y; split = ap (λ u. u ++ y) h.split ∙ append_assoc h.front h.rest y; appended = h.appended; ends = λ w. absurd (true≢false (sym w)) }

-- a text that was put, as a line that was said
pub said : (a b : Option (List ℕ)) (text : List ℕ) (whole : Bool) (IsLine : List ℕ → Type 0) → Puts a b text whole → IsLine text → Says a b IsLine
said a b text whole IsLine h is = record { line = text; is_line = is; front = h.front; rest = h.rest; split = h.split; appended = h.appended }

keeps_on : (a b c : Option (List ℕ)) (text : List ℕ) → Appends a b text → Keeps b c → Appends a c text
keeps_on None b c text h k = tt
keeps_on (Some xs) None c text h k = absurd h
keeps_on (Some xs) (Some ys) None text h k = absurd k
keeps_on (Some xs) (Some ys) (Some zs) text h k = k ∙ h

-- a writer that fails after a front of a text
pub fails_after : (a b c : Option (List ℕ)) (text : List ℕ) (n : ℕ) (whole : Bool) → whole ≡ false → Appends a b (take n text) → Keeps b c → Puts a c text whole
fails_after a b c text n whole e h k =
    subst (λ v. Puts a c text v) (sym e) (front_of a c text n false (keeps_on a b c (take n text) h k) (λ w. absurd (true≢false (sym w))))

-- a writer that accepts nothing
pub stops_after : (a b c : Option (List ℕ)) (text : List ℕ) (i n : ℕ) → Appends a b (take i text) → Appends b c (take n (take (length text - i) (drop i text))) → Puts a c text false
stops_after a b c text i n h k = front_of a c text (i + n) false (more a b c text i n h k) (λ w. absurd (true≢false (sym w)))

-- ---- lines

pub no_lines : (a : Option (List ℕ)) → Puts a a [] true
no_lines a = record { front = []; rest = []; split = refl; appended = same a; ends = λ w. refl }
  where
    same : (a : Option (List ℕ)) → Appends a a []
    same None = tt
    same (Some xs) = sym (append-nil xs)

-- a line and its end
pub puts_line : (a b c : Option (List ℕ)) (line : List ℕ) (first whole : Bool) → first ≡ true → Puts a b line first → Puts b c (codes "\n") whole → Puts a c (printed (line ∷ [])) whole
puts_line a b c line first whole e h k =
    subst (λ t. Puts a c t whole) (sym (append-nil (line ++ codes "\n")))
    (puts_both a b c line (codes "\n") whole (subst (λ v. Puts a b line v) e h) k)

-- a line that was cut
pub puts_cut : (a b : Option (List ℕ)) (line : List ℕ) (whole : Bool) → whole ≡ false → Puts a b line whole → Puts a b (printed (line ∷ [])) whole
puts_cut a b line whole e h =
    subst (λ t. Puts a b t whole) (sym (append-nil (line ++ codes "\n")))
    (subst (λ v. Puts a b (line ++ codes "\n") v) (sym e) (puts_first a b line (codes "\n") (subst (λ v. Puts a b line v) e h)))

module _ {X : Type 0} (f : X → List ℕ) (xs : List X) where
  printed_step : (i : ℕ) (x : X) → i < length xs → x ≡ get_or xs i x → printed (map f (take (i + 1) xs)) ≡ printed (map f (take i xs)) ++ printed (f x ∷ [])
  printed_step i x l e =
      ap (λ (ys : List X). printed (map f ys)) (take_more xs i x l ∙ ap (λ y. take i xs ++ y ∷ []) (sym e))
      ∙ (ap printed (map-append f (take i xs) (x ∷ [])) ∙ flat_map-append (λ l. l ++ codes "\n") (map f (take i xs)) (f x ∷ []))

  printed_rest : (n : ℕ) → printed (map f xs) ≡ printed (map f (take n xs)) ++ printed (map f (drop n xs))
  printed_rest n =
      ap (λ (ys : List X). printed (map f ys)) (sym (take-append-drop n xs))
      ∙ (ap printed (map-append f (take n xs) (drop n xs)) ∙ flat_map-append (λ l. l ++ codes "\n") (map f (take n xs)) (map f (drop n xs)))

  pub line_more : (a b c : Option (List ℕ)) (i : ℕ) (x : X) → i < length xs → x ≡ get_or xs i x → Puts a b (printed (map f (take i xs))) true → (whole : Bool) → whole ≡ true → Puts b c (printed (f x ∷ [])) whole →
      Puts a c (printed (map f (take (i + 1) xs))) true
  line_more a b c i x l e h whole w k =
      subst (λ (t : List ℕ). Puts a c t true) (sym (printed_step i x l e))
      (puts_both a b c (printed (map f (take i xs))) (printed (f x ∷ [])) true h (subst (λ v. Puts b c (printed (f x ∷ [])) v) w k))

  pub line_cut : (a b c : Option (List ℕ)) (i : ℕ) (x : X) → i < length xs → x ≡ get_or xs i x → Puts a b (printed (map f (take i xs))) true → (whole : Bool) → whole ≡ false → Puts b c (printed (f x ∷ [])) whole →
      Puts a c (printed (map f xs)) whole
  line_cut a b c i x l e h whole w k =
      let part : Puts a c (printed (map f (take (i + 1) xs))) false =
      subst (λ (t : List ℕ). Puts a c t false) (sym (printed_step i x l e)) (puts_both a b c (printed (map f (take i xs))) (printed (f x ∷ [])) false h (subst (λ v. Puts b c (printed (f x ∷ [])) v) w k)) in
      subst (λ v. Puts a c (printed (map f xs)) v) (sym w)
      (subst (λ (t : List ℕ). Puts a c t false) (sym (printed_rest (i + 1))) (puts_first a c (printed (map f (take (i + 1) xs))) (printed (map f (drop (i + 1) xs))) part))
