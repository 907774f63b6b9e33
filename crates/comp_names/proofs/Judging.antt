-- Verdicts on parts make a verdict on the whole.
use Rattle.std.proofs.Common.{ℕ, ◌≡◌, ◌+◌, ◌<◌, Bool, true, false, true≢false, List, [], ◌∷◌, ◌++◌, length, take, get_or, refl, sym, subst, arith, Result, Ok, Err}
use Rattle.std.specs.Prelude.{◌↔◌, IsTrue, Contains}
use Rattle.std.specs.List.{flat_map, IsDistinct, AllByRecursion}
use Rattle.std.specs.Str.{bytes_eq}
use Rattle.std.proofs.lemmas.List.Elements.{Contains-append_left, Contains-append_right}
use Rattle.comp_bytes.specs.ScopeNames.{Names}
use Rattle.comp_names.specs.declared.fault.NameFault.{NameFault}
use Rattle.comp_names.specs.declared.fault.NameFault.TheVariants as faults
use Rattle.comp_names.specs.NameForm.{IsFormed}
use Rattle.comp_names.specs.Names.{IsFaultOf}
use Rattle.comp_names.specs.Judged.{AreRight, Judges}
use Rattle.comp_names.proofs.Parts.{all-append}
use Rattle.comp_names.proofs.Meeting.{front_and_rest, one_more}
use Rattle.std.proofs.Common.{map, ◌∙◌, ap}
use Rattle.std.specs.Prelude.{IfErr}
use Rattle.std.proofs.lemmas.List.Concat.{flat_map_single}
use Rattle.std.proofs.lemmas.Slice.Eq.{bytes_eq-Decides}
use Rattle.comp_lists.proofs.Lists.{AllByRecursion-contains}
use Rattle.comp_bytes.specs.ScopeNames.{names, member_export}
use Rattle.comp_bytes.specs.declared.types.Member.{Member}
use Rattle.comp_bytes.specs.declared.def.Def.{Def}
use Rattle.comp_names.specs.Names.{NamesOk, extern_names}

-- ---- names of imports and exports

pub one_formed : {b : Bool} (name text : List ℕ) → text ≡ name → b ≡ true → IsTrue b ↔ IsFormed text → AreRight [] (name ∷ [])
one_formed name text e t h = record { apart = tt; formed = (subst IsFormed e (h.0 t), tt) }

-- ---- faults

wider : (a b : List Names) (x y : Names) (fault : NameFault) → ((l : Names) → Contains a l → Contains b l) → ((n : List ℕ) → Contains x n → Contains y n) → IsFaultOf a x fault → IsFaultOf b y fault
wider a b x y faults.Memory f g h = tt
wider a b x y (faults.Twice n) f g h = (h.0, f h.0 h.1, h.2)
wider a b x y (faults.Form n) f g h = (g n h.0, h.1)

of_nothing : {X : Type 0} (ys : List X) (x : X) → Contains [] x → Contains ys x
of_nothing ys x c = absurd (let l = c.1 in omega arith)

-- ---- loops over entries

pub each_more : {T : Type 0} (lists : T → List Names) (externs : T → Names) (xs : List T) (i : ℕ) (x : T) → AreRight (flat_map lists (take i xs)) (flat_map externs (take i xs)) →
    i < length xs → x ≡ get_or xs i x → AreRight (lists x) (externs x) → AreRight (flat_map lists (take (i + 1) xs)) (flat_map externs (take (i + 1) xs))
each_more lists externs xs i x h l e k = record {
  apart = subst (AllByRecursion (IsDistinct bytes_eq)) (sym (one_more lists xs i x l e)) (all-append (IsDistinct bytes_eq) (flat_map lists (take i xs)) (lists x) h.apart k.apart);
  formed = subst (AllByRecursion IsFormed) (sym (one_more externs xs i x l e)) (all-append IsFormed (flat_map externs (take i xs)) (externs x) h.formed k.formed);
}

in_flat_map : {T A : Type 0} (f : T → List A) (xs : List T) (i : ℕ) (x : T) → i < length xs → x ≡ get_or xs i x → (v : A) → Contains (f x) v → Contains (flat_map f xs) v
in_flat_map f xs i x l e v c =
    let p = front_and_rest f xs i x l e in
    subst (λ t. Contains t v) (sym p.1) (Contains-append_right (flat_map f (take i xs)) (f x ++ p.0) v (Contains-append_left (f x) p.0 v c))

pub each_fault : {T : Type 0} (lists : T → List Names) (externs : T → Names) (xs : List T) (i : ℕ) (x : T) (fault : NameFault) →
    i < length xs → x ≡ get_or xs i x → IsFaultOf (lists x) (externs x) fault → IsFaultOf (flat_map lists xs) (flat_map externs xs) fault
each_fault lists externs xs i x fault l e h = wider (lists x) (flat_map lists xs) (externs x) (flat_map externs xs) fault (in_flat_map lists xs i x l e) (in_flat_map externs xs i x l e) h

-- ---- a list, and the lists after it

pub first_fault : (list : Names) (lists : List Names) (externs : Names) (fault : NameFault) → IsFaultOf (list ∷ []) [] fault → IsFaultOf (list ∷ lists) externs fault
first_fault list lists externs fault h = wider (list ∷ []) (list ∷ lists) [] externs fault (λ l c. Contains-append_left (list ∷ []) lists l c) (λ n c. of_nothing externs n c) h

pub later_fault : (list : Names) (lists : List Names) (externs : Names) (fault : NameFault) → IsFaultOf lists externs fault → IsFaultOf (list ∷ lists) externs fault
later_fault list lists externs fault h = wider lists (list ∷ lists) externs externs fault (λ l c. Contains-append_right (list ∷ []) lists l c) (λ n c. c) h

pub and_rest : {A : Type 0} (list : Names) (lists : List Names) (externs : Names) (r : Result A NameFault) → AreRight (list ∷ []) [] → Judges lists externs r → Judges (list ∷ lists) externs r
and_rest list lists externs (Ok d) h k = record { apart = (h.apart.0, k.apart); formed = k.formed }
and_rest list lists externs (Err e) h k = later_fault list lists externs e k

-- elements that have no list of names
pub no_lists : {T : Type 0} (xs : List T) → flat_map {A = Names} (λ x. []) xs ≡ []
no_lists [] = refl
no_lists (x ∷ xs) = no_lists xs

-- the names of all entries, each of which has one
pub entries_judged : {T A : Type 0} (f : T → List ℕ) (xs slice : List T) (r : Result A NameFault) → slice ≡ xs → Judges (flat_map (λ x. f x ∷ []) slice ∷ []) [] r → Judges (map f xs ∷ []) [] r
entries_judged f xs slice r e h = subst (λ l. Judges (l ∷ []) [] r) (flat_map_single f slice ∙ ap (map f) e) h

pub type_judged : {A : Type 0} (members slice : List Member) (r : Result A NameFault) → slice ≡ members → AreRight (flat_map member_export slice ∷ []) [] →
    Judges (flat_map {A = Names} (λ m. []) slice) (flat_map member_export slice) r → Judges (flat_map member_export members ∷ []) (flat_map member_export members) r
type_judged members slice r e h k =
    let exports = and_rest (flat_map member_export slice) [] (flat_map member_export slice) r h (subst (λ ls. Judges ls (flat_map member_export slice) r) (no_lists slice) k) in
    subst (λ ms. Judges (flat_map member_export ms ∷ []) (flat_map member_export ms) r) e exports

-- ---- where there is a fault, not all names are right

not_apart : (name : List ℕ) (between after : Names) → AllByRecursion (λ y. bytes_eq name y ≡ false) (between ++ name ∷ after) → ⊥
not_apart name [] after h = true≢false (sym ((bytes_eq-Decides name name).1 refl) ∙ h.0)
not_apart name (x ∷ between) after h = not_apart name between after h.1

pub not_distinct : (name : List ℕ) (before between after : Names) → IsDistinct bytes_eq (before ++ name ∷ between ++ name ∷ after) → ⊥
unfolding IsDistinct
not_distinct name [] between after h = not_apart name between after h.0
not_distinct name (x ∷ before) between after h = not_distinct name before between after h.1

pub excludes : {A : Type 0} (definitions : List Def) (r : Result A NameFault) → Judges (names definitions) (extern_names definitions) r → NamesOk definitions → IfErr r (λ fault. fault ≡ faults.Memory)
excludes definitions (Ok d) h ok = tt
excludes definitions (Err faults.Memory) h ok = refl
excludes definitions (Err (faults.Twice n)) h ok =
    let d = AllByRecursion-contains (IsDistinct bytes_eq) (names definitions) h.0 ok.0 h.1 in
    absurd (not_distinct n h.2.before h.2.between h.2.after (subst (IsDistinct bytes_eq) h.2.parts d))
excludes definitions (Err (faults.Form n)) h ok = absurd (h.1 (AllByRecursion-contains IsFormed (extern_names definitions) n ok.1 h.0))
