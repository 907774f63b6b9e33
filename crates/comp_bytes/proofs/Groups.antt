-- A component's bytes encode at most one list of definitions, where the bytes of each definition in its section do.
use Rattle.std.proofs.Common.{◌≡◌, ℕ, List, [], ◌∷◌, ◌++◌, length, map, Bool, true, false, refl, sym, ap, ap₂, ◌∙◌, subst}
use Rattle.std.specs.Prelude.{◌==◌, ◌&&◌, if◌then◌else◌}
use Rattle.std.specs.List.{flat_map, AllByRecursion}
use Rattle.std.proofs.lemmas.List.{append-nil}
use Rattle.std.proofs.lemmas.Bool.{eqb-true}
use Rattle.byte_encoding.specs.Encoding.{Encoding}
use Rattle.comp_bytes.specs.Sections.{Entry, Section, shares, before, sections, section, contents, section_of, component}
use Rattle.byte_encoding.proofs.Unique.{one_number, one_name}

-- The bytes of two definitions of one section say which they are: where a section is shared, whatever follows.
pub record OneEntry {A : Type 0} (f : A → Entry) : Type 0 where
  pub shared : (x y : A) (u v : List ℕ) → (f x).id ≡ (f y).id → shares (f x).id ≡ true → (f x).text.bytes ++ u ≡ (f y).text.bytes ++ v → (x ≡ y) × (u ≡ v)
  pub whole : (x y : A) → (f x).id ≡ (f y).id → shares (f x).id ≡ false → (f x).text.bytes ≡ (f y).text.bytes → x ≡ y

-- ---- definitions by sections

abbrev pub OfId : {A : Type 0} → (A → Entry) → ℕ → List A → Type 0
OfId f id xs = AllByRecursion (λ x. (f x).id ≡ id) xs

-- the contents of one section
abbrev pub IsGroup : {A : Type 0} → (A → Entry) → List A → Type 0
IsGroup f [] = ⊥
IsGroup f (x ∷ xs) = OfId f (f x).id xs × (shares (f x).id ≡ false → xs ≡ [])

abbrev pub group_section : {A : Type 0} → (A → Entry) → List A → Section
group_section f xs = section_of (map f xs)

pub record Grouped {A : Type 0} (f : A → Entry) (xs : List A) (ss : List Section) : Type 0 where
  pub groups : List (List A)
  pub good : AllByRecursion (IsGroup f) groups
  pub are : ss ≡ map (group_section f) groups
  pub join : flat_map (λ g. g) groups ≡ xs

and_left : (a b : Bool) → (a && b) ≡ true → a ≡ true
and_left true b e = refl
and_left false b e = cc

and_right : (a b : Bool) → (a && b) ≡ true → b ≡ true
and_right true b e = e
and_right false b e = cc

of_id_as : {A : Type 0} (f : A → Entry) (m n : ℕ) (xs : List A) → m ≡ n → OfId f m xs → OfId f n xs
of_id_as f m n xs e h = subst (λ (i : ℕ). OfId f i xs) e h

both_ways : (a : Bool) → a ≡ true → a ≡ false → ⊥
both_ways a p q = let r : true ≡ false = sym p ∙ q in cc

group_more : {A : Type 0} (f : A → Entry) (x : A) (xs : List A) (y : A) (ys : List A) (gs : List (List A)) → AllByRecursion (IsGroup f) ((y ∷ ys) ∷ gs) → flat_map (λ g. g) ((y ∷ ys) ∷ gs) ≡ xs → (t : Bool) → (shares (f x).id && (f x).id == (f y).id) ≡ t
    → Grouped f (x ∷ xs) (if t then record { id = (f x).id; texts = (f x).text ∷ map (λ e. e.text) (map f (y ∷ ys)) } ∷ map (group_section f) gs else record { id = (f x).id; texts = (f x).text ∷ [] } ∷ map (group_section f) ((y ∷ ys) ∷ gs))
group_more f x xs y ys gs good join true e =
    let same : (f x).id ≡ (f y).id = eqb-true (f x).id (f y).id (and_right (shares (f x).id) ((f x).id == (f y).id) e) in
    record {
      groups = (x ∷ y ∷ ys) ∷ gs;
      good = (((sym same, of_id_as f (f y).id (f x).id ys (sym same) good.0.0), λ h. absurd (both_ways (shares (f x).id) (and_left (shares (f x).id) ((f x).id == (f y).id) e) h)), good.1);
      are = refl;
      join = ap (λ l. x ∷ l) join;
    }
group_more f x xs y ys gs good join false e = record { groups = (x ∷ []) ∷ (y ∷ ys) ∷ gs; good = ((tt, λ h. refl), good); are = refl; join = ap (λ l. x ∷ l) join }

group_before : {A : Type 0} (f : A → Entry) (x : A) (xs : List A) (gs : List (List A)) → AllByRecursion (IsGroup f) gs → flat_map (λ g. g) gs ≡ xs → Grouped f (x ∷ xs) (before (f x) (map (group_section f) gs))
group_before f x xs [] good join = record { groups = (x ∷ []) ∷ []; good = ((tt, λ h. refl), tt); are = refl; join = ap (λ l. x ∷ l) join }
group_before f x xs ([] ∷ gs) good join = absurd good.0
group_before f x xs ((y ∷ ys) ∷ gs) good join = group_more f x xs y ys gs good join (shares (f x).id && (f x).id == (f y).id) refl

pub grouped : {A : Type 0} (f : A → Entry) (xs : List A) → Grouped f xs (sections (map f xs))
grouped f [] = record { groups = []; good = tt; are = refl; join = refl }
grouped f (x ∷ xs) =
    let g = grouped f xs in
    subst (λ (ss : List Section). Grouped f (x ∷ xs) (before (f x) ss)) (sym g.are) (group_before f x xs g.groups g.good g.join)

-- ---- one section

abbrev texts : {A : Type 0} → (A → Entry) → List A → List Encoding
texts f xs = map (λ e. e.text) (map f xs)

abbrev text_bytes : {A : Type 0} → (A → Entry) → List A → List ℕ
text_bytes f xs = flat_map (λ t. t.bytes) (texts f xs)

members_one : {A : Type 0} (f : A → Entry) → OneEntry f → (id : ℕ) → shares id ≡ true → (xs ys : List A) → OfId f id xs → OfId f id ys → length (texts f xs) ≡ length (texts f ys) → text_bytes f xs ≡ text_bytes f ys → xs ≡ ys
members_one f one id s [] [] p q l e = refl
members_one f one id s [] (y ∷ ys) p q l e = cc
members_one f one id s (x ∷ xs) [] p q l e = cc
members_one f one id s (x ∷ xs) (y ∷ ys) p q l e =
    let r = one.shared x y (text_bytes f xs) (text_bytes f ys) (p.0 ∙ sym q.0) (ap shares p.0 ∙ s) e in
    let h = members_one f one id s xs ys p.1 q.1 (cc) r.1 in
    ap₂ (λ z zs. z ∷ zs) r.0 h

abbrev group_contents : {A : Type 0} → (A → Entry) → Bool → List A → List ℕ
group_contents f t xs = (contents (λ s. s) t (texts f xs)).bytes

contents_one : {A : Type 0} (f : A → Entry) → OneEntry f → (id : ℕ) (t : Bool) → shares id ≡ t → (x : A) (xs : List A) (y : A) (ys : List A) → (f x).id ≡ id → (f y).id ≡ id → IsGroup f (x ∷ xs) → IsGroup f (y ∷ ys) → group_contents f t (x ∷ xs) ≡ group_contents f t (y ∷ ys) → x ∷ xs ≡ y ∷ ys
contents_one f one id true s x xs y ys p q g h e =
    let r = one_number (length (texts f (x ∷ xs))) (length (texts f (y ∷ ys))) (text_bytes f (x ∷ xs)) (text_bytes f (y ∷ ys)) e in
    members_one f one id s (x ∷ xs) (y ∷ ys) (p, of_id_as f (f x).id id xs p g.0) (q, of_id_as f (f y).id id ys q h.0) r.0 r.1
contents_one f one id false s x xs y ys p q g h e =
    let xs_none : xs ≡ [] = g.1 (ap shares p ∙ s) in
    let ys_none : ys ≡ [] = h.1 (ap shares q ∙ s) in
    let alone : (f x).text.bytes ++ text_bytes f [] ≡ (f y).text.bytes ++ text_bytes f [] = ap (λ l. (f x).text.bytes ++ text_bytes f l) (sym xs_none) ∙ e ∙ ap (λ l. (f y).text.bytes ++ text_bytes f l) ys_none in
    let same : x ≡ y = one.whole x y (p ∙ sym q) (ap shares p ∙ s) (sym (append-nil (f x).text.bytes) ∙ alone ∙ append-nil (f y).text.bytes) in
    ap₂ (λ z zs. z ∷ zs) same (xs_none ∙ sym ys_none)

head : (a b : ℕ) (x y : List ℕ) → a ∷ x ≡ b ∷ y → a ≡ b
head a b x y e = cc

tail : (a b : ℕ) (x y : List ℕ) → a ∷ x ≡ b ∷ y → x ≡ y
tail a b x y e = cc

section_one : {A : Type 0} (f : A → Entry) → OneEntry f → (x : A) (xs : List A) (y : A) (ys : List A) (u v : List ℕ) → IsGroup f (x ∷ xs) → IsGroup f (y ∷ ys) → (section (group_section f (x ∷ xs))).bytes ++ u ≡ (section (group_section f (y ∷ ys))).bytes ++ v → (x ∷ xs ≡ y ∷ ys) × (u ≡ v)
section_one f one x xs y ys u v g h e =
    let c = group_contents f (shares (f x).id) (x ∷ xs) in
    let d = group_contents f (shares (f y).id) (y ∷ ys) in
    let same : (f x).id ≡ (f y).id = head _ _ _ _ e in
    let r = one_name c d u v (tail _ _ _ _ e) in
    let k : group_contents f (shares (f y).id) (x ∷ xs) ≡ d = ap (λ i. group_contents f (shares i) (x ∷ xs)) (sym same) ∙ r.0 in
    (contents_one f one (f y).id (shares (f y).id) refl x xs y ys same refl g h k, r.1)

-- ---- a component

abbrev group_bytes : {A : Type 0} → (A → Entry) → List (List A) → List ℕ
group_bytes f gs = flat_map (λ s. (section s).bytes) (map (group_section f) gs)

groups_one : {A : Type 0} (f : A → Entry) → OneEntry f → (gs hs : List (List A)) → AllByRecursion (IsGroup f) gs → AllByRecursion (IsGroup f) hs → group_bytes f gs ≡ group_bytes f hs → gs ≡ hs
groups_one f one [] [] p q e = refl
groups_one f one [] (h ∷ hs) p q e = cc
groups_one f one (g ∷ gs) [] p q e = cc
groups_one f one ([] ∷ gs) (h ∷ hs) p q e = absurd p.0
groups_one f one ((x ∷ xs) ∷ gs) ([] ∷ hs) p q e = absurd q.0
groups_one f one ((x ∷ xs) ∷ gs) ((y ∷ ys) ∷ hs) p q e =
    let r = section_one f one x xs y ys (group_bytes f gs) (group_bytes f hs) p.0 q.0 e in
    ap₂ (λ z zs. z ∷ zs) r.0 (groups_one f one gs hs p.1 q.1 r.1)

preamble_tail : (a b c d e f g h : ℕ) (x y : List ℕ) → a ∷ b ∷ c ∷ d ∷ e ∷ f ∷ g ∷ h ∷ x ≡ a ∷ b ∷ c ∷ d ∷ e ∷ f ∷ g ∷ h ∷ y → x ≡ y
preamble_tail a b c d e f g h x y p = cc

abbrev section_bytes : List Section → List ℕ
section_bytes ss = flat_map (λ s. (section s).bytes) ss

pub component_one : {A : Type 0} (f : A → Entry) → OneEntry f → (a b : List A) → (component (map f a)).bytes ≡ (component (map f b)).bytes → a ≡ b
component_one f one a b e =
    let g = grouped f a in
    let h = grouped f b in
    let k : section_bytes (sections (map f a)) ≡ section_bytes (sections (map f b)) = preamble_tail _ _ _ _ _ _ _ _ _ _ e in
    let same = groups_one f one g.groups h.groups g.good h.good (ap section_bytes (sym g.are) ∙ k ∙ ap section_bytes h.are) in
    sym g.join ∙ ap (flat_map (λ g. g)) same ∙ h.join
