-- Look-ups by name in a list of pairs.
use Rattle.std.proofs.Common.{◌∙◌, ap, append_assoc, is_some, true≢false, if◌then◌else◌, ◌≡◌, ℕ, ◌+◌, ◌<◌, ◌⊎◌, inl, inr, List, [], ◌∷◌, ◌++◌, length, get_or, drop, refl, sym, add-one, map, Option, Some, None, cond, Bool, true, false, IsSome, ◌||◌, Bor}
use Rattle.std.proofs.Math.Seq.{drop-cons}
use Rattle.std.proofs.lemmas.Option.{cond_some, same_Some}
use Rattle.std.proofs.Math.Bool.{or-true}
use Rattle.std.specs.List.{list_any}
use Rattle.std.proofs.lemmas.Slice.Eq.{bytes_eq-Decides}
use Rattle.std.specs.Str.{bytes_eq}
use Rattle.std.specs.Option.{option_copied}
use Rattle.comp_lists.specs.Tables.{with_first}
use Rattle.comp_lists.specs.Found.{found}

-- a loop that looks for a name: the entry at i, or one after it
pub found-drop : {E X : Type 0} (f : E → List ℕ × X) (name : List ℕ) (es : List E) (i : ℕ) (e : E) → i < length es → e ≡ get_or es i e →
    found name (map f (drop i es)) ≡ cond (bytes_eq name (f e).0) (Some (f e).1) (found name (map f (drop (i + 1) es)))
found-drop f name es i e l is = rw (drop-cons es i e l, ← is, add-one) refl

later : {X : Type 0} (b : Bool) (x y z : Option X) (i : X) → (y ≡ Some i → z ≡ Some i) → cond b x y ≡ Some i → cond b x z ≡ Some i
later true x y z i f h = h
later false x y z i f h = f h

-- what is found is still found when entries follow
pub found-append : {X : Type 0} (name : List ℕ) (es more : List (List ℕ × X)) (i : X) → found name es ≡ Some i → found name (es ++ more) ≡ Some i
found-append name [] more i h = cc
found-append name (e ∷ es) more i h =
    later (bytes_eq name e.0) (Some e.1) (found name es) (found name (es ++ more)) i (found-append name es more i) h

or_later : {X Q : Type 0} (b : Bool) (x y z : Option X) (i : X) → (z ≡ Some i → (y ≡ Some i) ⊎ Q) → cond b x z ≡ Some i → (cond b x y ≡ Some i) ⊎ Q
or_later true x y z i f h = inl h
or_later false x y z i f h = f h

-- what is found was there, or is the new entry
pub found-push_cases : {X : Type 0} (name k : List ℕ) (v : X) (es : List (List ℕ × X)) (i : X) → found name (es ++ (k, v) ∷ []) ≡ Some i →
    (found name es ≡ Some i) ⊎ ((name ≡ k) × (v ≡ i))
found-push_cases name k v [] i h =
    let e : (bytes_eq name k ≡ true) × (v ≡ i) = cond_some (bytes_eq name k) v i h in inr ((bytes_eq-Decides name k).0 e.0, e.1)
found-push_cases name k v (e ∷ es) i h =
    or_later (bytes_eq name e.0) (Some e.1) (found name es) (found name (es ++ (k, v) ∷ [])) i (found-push_cases name k v es i) h

some_later : {X : Type 0} (b : Bool) (x : X) (y : Option X) → IsSome y → IsSome (cond b (Some x) y)
some_later true x y h = refl
some_later false x y h = h

-- a new entry's name is found
pub found-pushed : {X : Type 0} (k : List ℕ) (v : X) (es : List (List ℕ × X)) → IsSome (found k (es ++ (k, v) ∷ []))
found-pushed k v [] = rw ((bytes_eq-Decides k k).1 refl) refl
found-pushed k v (e ∷ es) = some_later (bytes_eq k e.0) e.1 (found k (es ++ (k, v) ∷ [])) (found-pushed k v es)

later_some : {X : Type 0} (b : Bool) (x y z : Option X) → (IsSome y → IsSome z) → IsSome (cond b x y) → IsSome (cond b x z)
later_some true x y z f h = h
later_some false x y z f h = f h

pub IsSome-found-append : {X : Type 0} (name : List ℕ) (es more : List (List ℕ × X)) → IsSome (found name es) → IsSome (found name (es ++ more))
IsSome-found-append name [] more h = cc
IsSome-found-append name (e ∷ es) more h =
    later_some (bytes_eq name e.0) (Some e.1) (found name es) (found name (es ++ more)) (IsSome-found-append name es more) h

head_or_tail : (b : Bool) (x : List ℕ) (y : Option (List ℕ)) (name : List ℕ) (there : Bool) → (y ≡ Some name → there ≡ true) → cond b (Some x) y ≡ Some name →
    (bytes_eq name x || there) ≡ true
head_or_tail true x y name there f h = let e : bytes_eq name x ≡ true = (bytes_eq-Decides name x).1 (sym (same_Some x name h)) in rw e refl
head_or_tail false x y name there f h = rw (f h) (or-true (bytes_eq name x))

-- what is found by a function is a name of the exports
pub found-named : {E : Type 0} (function_of name_of : E → List ℕ) (function name : List ℕ) (es : List E) → found function (map (λ e. (function_of e, name_of e)) es) ≡ Some name →
    list_any (bytes_eq name) (map name_of es) ≡ true
found-named function_of name_of function name [] h = cc
found-named function_of name_of function name (e ∷ es) h =
    head_or_tail (bytes_eq function (function_of e)) (name_of e) (found function (map (λ e. (function_of e, name_of e)) es)) name (list_any (bytes_eq name) (map name_of es))
    (found-named function_of name_of function name es) h

pub IsSome-copied : {X : Type 0} (o : Option (Bor X)) (x : X) → option_copied o ≡ Some x → IsSome o
IsSome-copied None x h = cc
IsSome-copied (Some b) x h = refl

pub some_of : {X : Type 0} (o : Option X) → IsSome o → (x : X) × (o ≡ Some x)
some_of None h = cc
some_of (Some x) h = (x, refl)

-- an entry of another name is skipped
pub found-skip : {X : Type 0} (name k : List ℕ) (v : X) (table rest : List (List ℕ × X)) → bytes_eq name k ≡ false → found name (table ++ (k, v) ∷ rest) ≡ found name (table ++ rest)
found-skip name k v [] rest apart = ap (λ b. cond b (Some v) (found name rest)) apart
found-skip name k v (e ∷ es) rest apart = ap (λ o. cond (bytes_eq name e.0) (Some e.1) o) (found-skip name k v es rest apart)

-- what is found at the front doesn't depend on what follows
pub found-front : {X : Type 0} (name : List ℕ) (table more : List (List ℕ × X)) → is_some (found name table) ≡ true → found name (table ++ more) ≡ found name table
found-front name [] more h = absurd (true≢false (sym h))
found-front {X} name (e ∷ es) more h = by (bytes_eq name e.0) (found-front name es more) h
  where
    by : (b : Bool) → (is_some (found name es) ≡ true → found name (es ++ more) ≡ found name es) →
        is_some (cond b (Some e.1) (found name es)) ≡ true → cond b (Some e.1) (found name (es ++ more)) ≡ cond b (Some e.1) (found name es)
    by true rest h = refl
    by false rest h = rest h

-- an entry that is added unless its name is there finds what an entry at the end finds
pub found-with_first : {X : Type 0} (name k : List ℕ) (v : X) (table rest : List (List ℕ × X)) → found name (with_first bytes_eq table k v ++ rest) ≡ found name (table ++ (k, v) ∷ rest)
found-with_first name k v table rest = by (is_some (found k table)) refl
  where
    same : (c : Bool) → bytes_eq name k ≡ c → is_some (found k table) ≡ true → found name (table ++ rest) ≡ found name (table ++ (k, v) ∷ rest)
    same false apart h = sym (found-skip name k v table rest apart)
    same true alike h =
        let e : name ≡ k = (bytes_eq-Decides name k).0 alike in
        let there : is_some (found name table) ≡ true = rw e h in
        found-front name table rest there ∙ sym (found-front name table ((k, v) ∷ rest) there)

    by : (b : Bool) → is_some (found k table) ≡ b → found name ((if b then table else table ++ (k, v) ∷ []) ++ rest) ≡ found name (table ++ (k, v) ∷ rest)
    by false h = ap (found name) (append_assoc table ((k, v) ∷ []) rest)
    by true h = same (bytes_eq name k) refl h
