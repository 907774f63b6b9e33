-- What a component encodes is read again.
use Rattle.std.proofs.Common.{◌≡◌, ℕ, zero, suc, ◌+◌, ◌-◌, ◌<◌, ◌≤◌, ◌^◌, Bool, true, false, eqb, List, [], ◌∷◌, ◌++◌, length, take, map, Some, refl, sym, ap, ap₂, subst, ◌∙◌, arith, ◌&&◌}
use Rattle.std.specs.Prelude.{Ok, if◌then◌else◌}
use Rattle.std.specs.List.{flat_map, AllByRecursion}
use Rattle.std.proofs.lemmas.Bool.{eq-eqb, eqb-true, ne_eqb}
use Rattle.std.proofs.lemmas.List.{append-nil, length-append}
use Rattle.std.proofs.lemmas.Slice.Eq.{bytes_eq-Decides}
use Rattle.core_types.specs.Core.{core_preamble}
use Rattle.byte_encoding.specs.Encoding.{Encoding, Fits, ◌⊕◌, octet, leb, each, listed, sized}
use Rattle.comp_bytes.specs.Sections.{Entry, Section, shares, before, sections, contents, section, component}
use Rattle.comp_bytes.specs.Grammar.{item, definition, Encodes}
use Rattle.comp_bytes.specs.declared.def.Item.{Item}
use Rattle.comp_bytes.specs.declared.def.Item.TheVariants as items
use Rattle.comp_bytes.specs.declared.def.Def.{Def}
use Rattle.comp_bytes.specs.declared.def.Def.TheVariants as defs
use Rattle.comp_bytes.proofs.Runs.{section_is}
use Rattle.comp_bytes.proofs.Groups.{IsGroup, group_section, grouped}
use Rattle.part_readers.specs.Reading.{number_at, items_at}
use Rattle.comp_read.specs.ItemReaders.{item_at, counted_at, custom_at, module_at, contents_at}
use Rattle.comp_read.specs.SectionReaders.{ReadResult, ◌>>>◌, ok_or_at, Contents, repeats, header_at, section_at, sections_at, component_at, item_contents_at, definition_contents_at}
use Rattle.comp_read.specs.Writable.{IsItem, IsDefinition, IsWritable}
use Rattle.part_readers.proofs.Exact.{fits_left, fits_right, number_again, sized_exact, name_exact, items_again}
use Rattle.comp_read.proofs.ItemLaws.{item_exact, Inside}
use Rattle.comp_read.proofs.SectionLoop.{one_step, at_end}
use Rattle.comp_read.proofs.SectionLaws.{Apart, wrap, wrapped_contents, wrapped_length}

-- ---- neighbouring sections

-- no two neighbouring sections should be one section
abbrev pub Links : List Section → Type 0
Links [] = Unit {0}
Links (s ∷ ss) = Apart s.id ss × Links ss

apart_as : (m n : ℕ) (ss : List Section) → m ≡ n → Apart n ss → Apart m ss
apart_as m n ss e h = subst (λ (i : ℕ). Apart i ss) (sym e) h

pub and_right : (a b : Bool) → (a && b) ≡ true → b ≡ true
and_right true b e = e
and_right false b e = absurd cc

and_one : (a : Bool) → (a && true) ≡ false → a ≡ false
and_one true e = e
and_one false e = e

unmerged : (m n : ℕ) (t : Bool) → eqb m n ≡ t → (shares m && eqb m n) ≡ false → repeats m n ≡ false
unmerged m n false e h = rw e refl
unmerged m n true e h =
    let same : m ≡ n = eqb-true _ _ e in
    let one : (shares n && true) ≡ false = ap₂ (λ i b. shares i && b) (sym same) (sym e) ∙ h in
    rw e (and_one (shares n) one)

links_before : (e : Entry) (s : Section) (ss : List Section) (t : Bool) → (shares e.id && eqb e.id s.id) ≡ t → Links (s ∷ ss) → Links (if t then record { id = e.id; texts = e.text ∷ s.texts } ∷ ss else record { id = e.id; texts = e.text ∷ [] } ∷ (s ∷ ss))
links_before e s ss true h l = (apart_as e.id s.id ss (eqb-true _ _ (and_right (shares e.id) (eqb e.id s.id) h)) l.0, l.1)
links_before e s ss false h l = (unmerged e.id s.id (eqb e.id s.id) refl h, l)

before_links : (e : Entry) (ss : List Section) → Links ss → Links (before e ss)
before_links e [] l = (tt, tt)
before_links e (s ∷ ss) l = links_before e s ss (shares e.id && eqb e.id s.id) refl l

pub sections_link : (es : List Entry) → Links (sections es)
sections_link [] = tt
sections_link (e ∷ es) = before_links e (sections es) (sections_link es)

from_zero : (n : ℕ) (t : Bool) → eqb 0 n ≡ t → repeats 0 n ≡ false
from_zero n false e = rw e refl
from_zero n true e = let same : 0 ≡ n = eqb-true _ _ e in subst (λ (i : ℕ). repeats 0 i ≡ false) same refl

pub first_apart : (ss : List Section) → Apart 0 ss
first_apart [] = tt
first_apart (s ∷ ss) = from_zero s.id (eqb 0 s.id) refl

-- ---- sections

pub record ReadsAgain {A : Type 0} (f : A → Entry) (W : A → Type 0) (at : Contents A) : Type 0 where
  pub again : (id offset start : ℕ) (inner : List ℕ) (xs : List A) → Inside f id inner xs → AllByRecursion W xs → at id offset start inner ≡ Ok xs

pub all_left : {A : Type 0} (W : A → Type 0) (xs ys : List A) → AllByRecursion W (xs ++ ys) → AllByRecursion W xs
all_left W [] ys h = tt
all_left W (x ∷ xs) ys h = (h.0, all_left W xs ys h.1)

pub all_right : {A : Type 0} (W : A → Type 0) (xs ys : List A) → AllByRecursion W (xs ++ ys) → AllByRecursion W ys
all_right W [] ys h = h
all_right W (x ∷ xs) ys h = all_right W xs ys h.1

pub header_again : (last id : ℕ) (inner rest : List ℕ) → repeats last id ≡ false → length inner < 2 ^ 32 → header_at last (id ∷ (leb (length inner) ++ inner) ++ rest) ≡ Some (id, inner, rest)
unfolding header_at
header_again last id inner rest apart lt = rw (apart, sized_exact.again inner rest tt (lt, tt)) refl

pub section_again : {A : Type 0} (f : A → Entry) (W : A → Type 0) (at : Contents A) → ReadsAgain f W at → (offset last id : ℕ) (inner rest : List ℕ) (xs : List A) → repeats last id ≡ false → length inner < 2 ^ 32 → Inside f id inner xs → AllByRecursion W xs
    → section_at at offset last (id ∷ (leb (length inner) ++ inner) ++ rest) ≡ Ok (id, xs, rest)
unfolding section_at
section_again f W at reads offset last id inner rest xs apart lt inside w =
    let bytes = id ∷ (leb (length inner) ++ inner) ++ rest in
    let found : at id offset (offset + (length bytes - length rest - length inner)) inner ≡ Ok xs = reads.again id offset (offset + (length bytes - length rest - length inner)) inner xs inside w in
    rw (header_again last id inner rest apart lt, found) refl

abbrev pub groups_text : {A : Type 0} → (A → Entry) → List (List A) → Encoding
groups_text f gs = each section (map (group_section f) gs)

abbrev pub joined : {A : Type 0} → List (List A) → List A
joined gs = flat_map (λ g. g) gs

abbrev pub group_contents : {A : Type 0} → (A → Entry) → A → List A → Encoding
group_contents f x xs = contents (λ y. (f y).text) (shares (f x).id) (x ∷ xs)

abbrev pub group_text : {A : Type 0} → (A → Entry) → A → List A → Encoding
group_text f x xs = octet (f x).id ⊕ sized (group_contents f x xs)

pub inside_of : {A : Type 0} (f : A → Entry) (x : A) (xs : List A) → IsGroup f (x ∷ xs) → Fits (group_contents f x xs).counts → Inside f (f x).id (group_contents f x xs).bytes (x ∷ xs)
inside_of {A} f x xs g fits = record {
  each_of = (refl, g.0);
  some = omega arith;
  alone = λ s. ap (λ (l : List A). suc (length l)) (g.1 s);
  text = refl;
  fits = fits;
}

-- one group more
group_step : {A : Type 0} (f : A → Entry) (W : A → Type 0) (at : Contents A) → ReadsAgain f W at → (x : A) (xs rest_of : List A) (most offset last : ℕ) (rest : List ℕ) → IsGroup f (x ∷ xs) → repeats last (f x).id ≡ false → AllByRecursion W (x ∷ xs) → Fits (group_text f x xs).counts → length ((group_text f x xs).bytes ++ rest) ≤ most
    → ((fewer next : ℕ) → length rest ≤ fewer → sections_at at fewer next (f x).id rest ≡ Ok rest_of) → sections_at at most offset last ((group_text f x xs).bytes ++ rest) ≡ Ok ((x ∷ xs) ++ rest_of)
group_step f W at reads x xs rest_of zero offset last rest g apart w fits enough ih = absurd (omega arith)
group_step {A} f W at reads x xs rest_of (suc most) offset last rest g apart w fits enough ih =
    let bytes = (group_text f x xs).bytes ++ rest in
    let inner = (group_contents f x xs).bytes in
    let one = section_again f W at reads offset last (f x).id inner rest (x ∷ xs) apart fits.0 (inside_of f x xs g fits.1) w in
    one_step at most offset last bytes (f x).id (x ∷ xs) rest (omega arith) one
    ∙ rw (ih most (offset + (length bytes - length rest)) (omega (arith, enough, length-append (leb (length inner) ++ inner) rest))) refl

groups_again : {A : Type 0} (f : A → Entry) (W : A → Type 0) (at : Contents A) → ReadsAgain f W at → (gs : List (List A)) (most offset last : ℕ) → AllByRecursion (IsGroup f) gs → Apart last (map (group_section f) gs) → Links (map (group_section f) gs) → AllByRecursion W (joined gs) → Fits (groups_text f gs).counts → length (groups_text f gs).bytes ≤ most
    → sections_at at most offset last (groups_text f gs).bytes ≡ Ok (joined gs)
groups_again f W at reads [] most offset last g apart links w fits enough = at_end at most offset last [] refl
groups_again f W at reads ([] ∷ gs) most offset last g apart links w fits enough = absurd g.0
groups_again {A} f W at reads ((x ∷ xs) ∷ gs) most offset last g apart links w fits enough =
    let is : section (group_section f (x ∷ xs)) ≡ group_text f x xs = section_is f (x ∷ xs) (f x).id refl in
    let rest = (groups_text f gs).bytes in
    let text : (groups_text f ((x ∷ xs) ∷ gs)).bytes ≡ (group_text f x xs).bytes ++ rest = ap (λ (s : Encoding). s.bytes ++ rest) is in
    let all_fit : Fits ((group_text f x xs).counts ++ (groups_text f gs).counts) = subst (λ (s : Encoding). Fits (s.counts ++ (groups_text f gs).counts)) is fits in
    let step = group_step f W at reads x xs (joined gs) most offset last rest g.0 apart (all_left W (x ∷ xs) (joined gs) w) (fits_left (group_text f x xs).counts (groups_text f gs).counts all_fit) (subst (λ (l : List ℕ). length l ≤ most) text enough)
    (λ fewer next le. groups_again f W at reads gs fewer next (f x).id g.1 links.0 links.1 (all_right W (x ∷ xs) (joined gs) w) (fits_right (group_text f x xs).counts (groups_text f gs).counts all_fit) le) in
    ap (sections_at at most offset last) text ∙ step

-- ---- components

pub component_again : {A : Type 0} (f : A → Entry) (W : A → Type 0) (at : Contents A) → ReadsAgain f W at → (offset start : ℕ) (xs : List A) → AllByRecursion W xs → Fits (component (map f xs)).counts → component_at at offset start (component (map f xs)).bytes ≡ Ok xs
unfolding component_at
component_again {A} f W at reads offset start xs w fits =
    let g = grouped f xs in
    let body : List ℕ = (each section (sections (map f xs))).bytes in
    let link : Links (map (group_section f) g.groups) = subst (λ (ss : List Section). Links ss) g.are (sections_link (map f xs)) in
    let all : AllByRecursion W (joined g.groups) = subst (λ (ys : List A). AllByRecursion W ys) (sym g.join) w in
    let fit : Fits (groups_text f g.groups).counts = subst (λ (ss : List Section). Fits (each section ss).counts) g.are fits in
    let same : body ≡ (groups_text f g.groups).bytes = ap (λ (ss : List Section). (each section ss).bytes) g.are in
    let read = groups_again f W at reads g.groups (length body) (start + 8) 0 g.good (first_apart (map (group_section f) g.groups)) link all fit (omega (arith, ap length same)) in
    ap (sections_at at (length body) (start + 8) 0) same ∙ read ∙ ap (λ (ys : List A). Ok ys) g.join

-- ---- the contents of a section of items

not_nested : (x : Item) → (item x).id ≡ 4 → ⊥
not_nested (items.CoreModule bytes) p = omega (arith, p)
not_nested (items.CoreInstantiate made args) p = omega (arith, p)
not_nested (items.CoreExports entries) p = omega (arith, p)
not_nested (items.Instantiate made args) p = omega (arith, p)
not_nested (items.Alias a) p = omega (arith, p)
not_nested (items.Type t) p = omega (arith, p)
not_nested (items.InstanceType t) p = omega (arith, p)
not_nested (items.Lift func options ty) p = omega (arith, p)
not_nested (items.Lower func options) p = omega (arith, p)
not_nested (items.Intrinsic i) p = omega (arith, p)
not_nested (items.Import name description) p = omega (arith, p)
not_nested (items.Export name sort index description) p = omega (arith, p)
not_nested (items.Custom name contents) p = omega (arith, p)

custom_again : (xs : List Item) → length xs ≡ 1 → AllByRecursion (λ x. (item x).id ≡ 0) xs → AllByRecursion IsItem xs → Fits (each (λ x. (item x).text) xs).counts → custom_at (each (λ x. (item x).text) xs).bytes ≡ Some xs
unfolding custom_at
custom_again [] one ids w fits = absurd (omega arith)
custom_again (x ∷ y ∷ xs) one ids w fits = absurd (omega arith)
custom_again (items.Custom name contents ∷ []) one ids w fits =
    let text : ((leb (length name) ++ name) ++ contents) ++ [] ≡ (leb (length name) ++ name) ++ contents = append-nil _ in
    ap custom_at text ∙ rw (name_exact.again name contents w.0 (fits.0, tt)) refl
custom_again (x ∷ []) one ids w fits = absurd (omega (arith, ids.0))

module_again : (xs : List Item) → length xs ≡ 1 → AllByRecursion (λ x. (item x).id ≡ 1) xs → AllByRecursion IsItem xs → module_at (each (λ x. (item x).text) xs).bytes ≡ Some xs
unfolding module_at
module_again [] one ids w = absurd (omega arith)
module_again (x ∷ y ∷ xs) one ids w = absurd (omega arith)
module_again (items.CoreModule bytes ∷ []) one ids w = ap module_at (append-nil bytes) ∙ rw ((bytes_eq-Decides (take 8 bytes) core_preamble).1 w.0) refl
module_again (x ∷ []) one ids w = absurd (omega (arith, ids.0))

both_hold : {A : Type 0} (P Q : A → Type 0) (xs : List A) → AllByRecursion P xs → AllByRecursion Q xs → AllByRecursion (λ x. P x × Q x) xs
both_hold P Q [] p q = tt
both_hold P Q (x ∷ xs) p q = ((p.0, q.0), both_hold P Q xs p.1 q.1)

counted_again : (id : ℕ) (xs : List Item) → shares id ≡ true → 0 < length xs → AllByRecursion (λ x. (item x).id ≡ id) xs → AllByRecursion IsItem xs → Fits (listed (λ x. (item x).text) xs).counts → counted_at id (listed (λ x. (item x).text) xs).bytes ≡ Some xs
unfolding counted_at
counted_again id xs shared some ids w fits =
    let text = (each (λ x. (item x).text) xs).bytes in
    let n : number_at (leb (length xs) ++ text) ≡ Some (length xs, text) = number_again (length xs) text fits.0 in
    let positive : eqb (length xs) 0 ≡ false = ne_eqb _ _ (λ e. omega arith) in
    let all : items_at (item_at id) (length xs) text ≡ Some (xs, []) =
    ap (items_at (item_at id) (length xs)) (sym (append-nil text)) ∙ items_again (item_exact id shared) xs [] (both_hold (λ x. (item x).id ≡ id) IsItem xs ids w) fits.1 in
    rw (n, positive, all) refl

first_not_nested : (xs : List Item) → 0 < length xs → AllByRecursion (λ x. (item x).id ≡ 4) xs → ⊥
first_not_nested [] some ids = omega (arith, some)
first_not_nested (x ∷ xs) some ids = not_nested x ids.0

contents_by : (id : ℕ) (inner : List ℕ) (xs : List Item) → Inside item id inner xs → AllByRecursion IsItem xs → (a b c : Bool) → eqb id 0 ≡ a → eqb id 1 ≡ b → eqb id 4 ≡ c → contents_at id inner ≡ Some xs
unfolding contents_at
contents_by id inner xs h w true b c p q r =
    subst (λ (n : ℕ). Inside item n inner xs → contents_at n inner ≡ Some xs) (sym (eqb-true _ _ p)) (λ i. ap custom_at i.text ∙ custom_again xs (i.alone refl) i.each_of w i.fits) h
contents_by id inner xs h w false true c p q r =
    subst (λ (n : ℕ). Inside item n inner xs → contents_at n inner ≡ Some xs) (sym (eqb-true _ _ q)) (λ i. ap module_at i.text ∙ module_again xs (i.alone refl) i.each_of w) h
contents_by id inner xs h w false false true p q r =
    absurd (first_not_nested xs h.some (subst (λ (n : ℕ). AllByRecursion (λ x. (item x).id ≡ n) xs) (eqb-true _ _ r) h.each_of))
contents_by id inner xs h w false false false p q r =
    let shared : shares id ≡ true = rw (p, q, r) refl in
    let text : inner ≡ (listed (λ x. (item x).text) xs).bytes = h.text ∙ ap (λ (t : Bool). (contents (λ x. (item x).text) t xs).bytes) shared in
    let fits : Fits (listed (λ x. (item x).text) xs).counts = subst (λ (t : Bool). Fits (contents (λ x. (item x).text) t xs).counts) shared h.fits in
    rw (p, q) (ap (counted_at id) text ∙ counted_again id xs shared h.some h.each_of w fits)

pub contents_again : (id : ℕ) (inner : List ℕ) (xs : List Item) → Inside item id inner xs → AllByRecursion IsItem xs → contents_at id inner ≡ Some xs
contents_again id inner xs h w = contents_by id inner xs h w (eqb id 0) (eqb id 1) (eqb id 4) refl refl refl

pub items_again_in : ReadsAgain item IsItem item_contents_at
items_again_in = record { again = λ id offset start inner xs h w. ap (ok_or_at offset) (contents_again id inner xs h w) }

-- ---- the contents of a section of definitions

-- definitions that are items
record Unwrapped (xs : List Def) : Type 0 where
  inner : List Item
  is : xs ≡ wrap inner
  writable : AllByRecursion IsItem inner

same_cons_of : (a b : Def) (xs ys : List Def) → a ≡ b → xs ≡ ys → a ∷ xs ≡ b ∷ ys
same_cons_of a b xs ys p q = cc

unwrapped : (id : ℕ) (xs : List Def) → (id ≡ 4 → ⊥) → AllByRecursion (λ x. (definition x).id ≡ id) xs → AllByRecursion IsDefinition xs → Unwrapped xs
unwrapped id [] other ids w = record { inner = []; is = refl; writable = tt }
unwrapped id (defs.Component c ∷ xs) other ids w = absurd (other (sym ids.0))
unwrapped id (defs.Item i ∷ xs) other ids w =
    let u = unwrapped id xs other ids.1 w.1 in
    record { inner = i ∷ u.inner; is = ap (λ (l : List Def). defs.Item i ∷ l) u.is; writable = (w.0, u.writable) }

unwrapped_ids : (id : ℕ) (xs : List Item) → AllByRecursion (λ x. (definition x).id ≡ id) (wrap xs) → AllByRecursion (λ x. (item x).id ≡ id) xs
unwrapped_ids id [] h = tt
unwrapped_ids id (x ∷ xs) h = (h.0, unwrapped_ids id xs h.1)

unwrapped_inside : (id : ℕ) (inner : List ℕ) (xs : List Item) → Inside definition id inner (wrap xs) → Inside item id inner xs
unwrapped_inside id inner xs h = record {
  each_of = unwrapped_ids id xs h.each_of;
  some = omega (arith, wrapped_length xs, h.some);
  alone = λ s. sym (wrapped_length xs) ∙ h.alone s;
  text = h.text ∙ ap (λ (s : Encoding). s.bytes) (wrapped_contents (shares id) xs);
  fits = subst (λ (s : Encoding). Fits s.counts) (wrapped_contents (shares id) xs) h.fits;
}

component_alone : (offset start : ℕ) (inner : List ℕ) (xs : List Def) → Inside definition 4 inner xs → length xs ≡ 1 → AllByRecursion IsDefinition xs → (component_at item_contents_at offset start inner >>> λ found. Ok (defs.Component found ∷ [])) ≡ Ok xs
component_alone offset start inner [] h one w = absurd (omega arith)
component_alone offset start inner (x ∷ y ∷ xs) h one w = absurd (omega arith)
component_alone offset start inner (defs.Item i ∷ []) h one w = absurd (not_nested i h.each_of.0)
component_alone offset start inner (defs.Component c ∷ []) h one w =
    let text : inner ≡ (component (map item c)).bytes = h.text ∙ append-nil _ in
    let fits : Fits (component (map item c)).counts = fits_left (component (map item c)).counts [] h.fits in
    let read : component_at item_contents_at offset start inner ≡ Ok c = ap (component_at item_contents_at offset start) text ∙ component_again item IsItem item_contents_at items_again_in offset start c w.0 fits in
    rw read refl

true_false : true ≡ false → ⊥
true_false e = cc

definitions_by : (id offset start : ℕ) (inner : List ℕ) (xs : List Def) → Inside definition id inner xs → AllByRecursion IsDefinition xs → (t : Bool) → eqb id 4 ≡ t → definition_contents_at id offset start inner ≡ Ok xs
definitions_by id offset start inner xs h w true e =
    subst (λ (n : ℕ). Inside definition n inner xs → definition_contents_at n offset start inner ≡ Ok xs) (sym (eqb-true _ _ e)) (λ i. component_alone offset start inner xs i (i.alone refl) w) h
definitions_by id offset start inner xs h w false e =
    let u = unwrapped id xs (λ p. true_false (sym (eq-eqb _ _ p) ∙ e)) h.each_of w in
    let i : Inside item id inner u.inner = unwrapped_inside id inner u.inner (subst (λ (ys : List Def). Inside definition id inner ys) u.is h) in
    rw (e, contents_again id inner u.inner i u.writable) (ap (λ (ys : List Def). let r : ReadResult (List Def) = Ok ys in r) (sym u.is))

pub definitions_again : ReadsAgain definition IsDefinition definition_contents_at
definitions_again = record { again = λ id offset start inner xs h w. definitions_by id offset start inner xs h w (eqb id 4) refl }

-- a list that a program can hold is read from its bytes
pub again : (bytes : List ℕ) (ds : List Def) → IsWritable ds → Encodes bytes ds → component_at definition_contents_at 0 0 bytes ≡ Ok ds
again bytes ds w s =
    ap (component_at definition_contents_at 0 0) s.1 ∙ component_again definition IsDefinition definition_contents_at definitions_again 0 0 ds w s.0
