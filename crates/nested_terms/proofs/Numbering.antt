-- Numbers behind a name: a name that is taken is no longer than all that is taken, so that few numbers make one free.
use Rattle.std.proofs.Common.{◌≡◌, ◌∙◌, ◌<◌, ◌≤◌, ◌+◌, ◌^◌, ◌||◌, arith, ℕ, zero, suc, Bool, true, false, true≢false, List, [], ◌∷◌, ◌++◌, length, refl, ap, ap₂, sym, append_assoc, append-nil, if◌then◌else◌}
use Rattle.std.specs.Fmt.{decimal}
use Rattle.std.specs.Str.{bytes_eq}
use Rattle.std.specs.List.{flat_map, range_with_len}
use Rattle.std.proofs.lemmas.Fmt.{decimal_nonempty}
use Rattle.std.proofs.lemmas.Grind.{flat_map-append}
use Rattle.std.proofs.lemmas.List.{length-append}
use Rattle.std.proofs.lemmas.Slice.Eq.{bytes_eq-Decides}
use Rattle.wit_data.specs.declared.functions.Function.{Function}
use Rattle.nested_terms.specs.Naming.{plain_import_name, numbered, is_taken, IsFirstFree, AreNamesAfter, lengthened, first_free, names_after}

range_push : (a n : ℕ) → range_with_len a (suc n) ≡ range_with_len a n ++ (a + n) ∷ []
range_push a zero = ap (λ b. b ∷ []) (omega arith)
range_push a (suc n) = ap (λ xs. a ∷ xs) (range_push (a + 1) n ∙ ap (λ b. range_with_len (a + 1) n ++ b ∷ []) (omega arith))

pub numbered_more : (count : ℕ) (name : List ℕ) → numbered (count + 1) name ≡ numbered count name ++ decimal count
numbered_more count name =
    let front = flat_map decimal (range_with_len 0 count) in
    let e : count + 1 ≡ suc count = omega arith in
    ap (λ n. name ++ flat_map decimal (range_with_len 0 n)) e
    ∙ (ap (λ xs. name ++ flat_map decimal xs) (range_push 0 count ∙ ap (λ b. range_with_len 0 count ++ b ∷ []) (omega arith))
    ∙ (ap (λ bs. name ++ bs) (flat_map-append decimal (range_with_len 0 count) (count ∷ []) ∙ ap (λ bs. front ++ bs) (append-nil (decimal count)))
    ∙ sym (append_assoc name front (decimal count))))

longer_by_one : (count : ℕ) (name : List ℕ) → count < 2 ^ 64 → length (numbered count name) < length (numbered (count + 1) name)
longer_by_one count name h =
    let more = ap (λ (xs : List ℕ). length xs) (numbered_more count name) ∙ length-append (numbered count name) (decimal count) in
    let some = decimal_nonempty count h in
    omega (arith, more, some)

pub at_least : (count : ℕ) (name : List ℕ) → count ≤ 2 ^ 64 → count ≤ length (numbered count name)
at_least zero name h = omega arith
at_least (suc n) name h =
    let l = longer_by_one n name (omega (arith, h)) in
    let before = at_least n name (omega (arith, h)) in
    let one : n + 1 ≡ suc n = omega arith in
    let same : length (numbered (n + 1) name) ≡ length (numbered (suc n) name) = ap (λ k. length (numbered k name)) one in
    omega (arith, l, before, same)

-- how many letters these names have
abbrev pub letters_in : List (List ℕ) → ℕ
letters_in taken = length (flat_map (λ n. n) taken)

-- a name that is taken has no more
pub within_letters : (taken : List (List ℕ)) (name : List ℕ) → is_taken taken name ≡ true → length name ≤ letters_in taken
within_letters [] name h = absurd (true≢false (sym h))
within_letters (t ∷ ts) name h = by (bytes_eq name t) refl (within_letters ts name) h
  where
    sums : letters_in (t ∷ ts) ≡ length t + letters_in ts
    sums = length-append t (flat_map (λ n. n) ts)

    by : (b : Bool) → bytes_eq name t ≡ b → (is_taken ts name ≡ true → length name ≤ letters_in ts) → (b || is_taken ts name) ≡ true → length name ≤ letters_in (t ∷ ts)
    by true same later e = let is = ap (λ (xs : List ℕ). length xs) ((bytes_eq-Decides name t).0 same) in omega (arith, sums, is)
    by false same later e = let l = later e in omega (arith, sums, l)

-- ---- the first free name

module _ (taken : List (List ℕ)) (name free : List ℕ) (h : IsFirstFree taken name free) where
  -- as many numbers are behind it as it takes
  reaches : (more count left : ℕ) → h.count ≡ count + left → left ≤ more → lengthened more count taken (numbered count name) ≡ free
  reaches zero count left e l =
      let same : count ≡ h.count = omega (arith, e, l) in
      ap (λ n. numbered n name) same ∙ sym h.same
  reaches (suc more) count zero e l =
      let same : count ≡ h.count = omega (arith, e) in
      let is : numbered count name ≡ free = ap (λ n. numbered n name) same ∙ sym h.same in
      ap (λ b. if b then lengthened more (suc count) taken (numbered count name ++ decimal count) else numbered count name) (ap (is_taken taken) is ∙ h.is_free) ∙ is
  reaches (suc more) count (suc left) e l =
      let before : is_taken taken (numbered count name) ≡ true = h.fewer count (omega (arith, e)) in
      let one : count + 1 ≡ suc count = omega arith in
      let next : numbered count name ++ decimal count ≡ numbered (suc count) name = sym (numbered_more count name) ∙ ap (λ n. numbered n name) one in
      ap (λ b. if b then lengthened more (suc count) taken (numbered count name ++ decimal count) else numbered count name) before
      ∙ (ap (lengthened more (suc count) taken) next ∙ reaches more (suc count) left (omega (arith, e)) (omega (arith, l)))

  within : (count : ℕ) → h.count ≡ count → count ≤ suc (letters_in taken)
  within zero e = omega arith
  within (suc n) e =
      let few = h.few in
      let there : is_taken taken (numbered n name) ≡ true = h.fewer n (omega (arith, e)) in
      let short = within_letters taken (numbered n name) there in
      let long = at_least n name (omega (arith, e, few)) in
      omega (arith, short, long)

  pub is_first_free : free ≡ first_free taken name
  is_first_free =
      sym (ap (lengthened (suc (letters_in taken)) 0 taken) (sym (append-nil name)) ∙ reaches (suc (letters_in taken)) 0 h.count (omega arith) (within h.count refl))

-- the names of functions are these
pub names_are : (taken : List (List ℕ)) (fs : List Function) (names : List (List ℕ)) → AreNamesAfter taken fs names → names ≡ names_after taken fs
names_are taken [] [] h = refl
names_are taken (f ∷ fs) (name ∷ names) h =
    let first : name ≡ first_free taken (plain_import_name f) = is_first_free taken (plain_import_name f) name h.0 in
    ap₂ (λ x xs. x ∷ xs) first (names_are (taken ++ name ∷ []) fs names h.1 ∙ ap (λ x. names_after (taken ++ x ∷ []) fs) first)
names_are taken [] (name ∷ names) h = absurd h
names_are taken (f ∷ fs) [] h = absurd h
