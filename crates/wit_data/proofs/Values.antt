-- A value of a type, in the list of all values, is made of the values of its parts in the same list.
use Rattle.std.proofs.Common.{◌≡◌, ℕ, zero, suc, ◌+◌, ◌<◌, ◌≤◌, List, [], ◌∷◌, ◌++◌, length, get_or, map, refl, ap, subst, ◌∙◌, sym, arith, Option, Some, None}
use Rattle.std.specs.List.{AllByRecursion}
use Rattle.std.proofs.lemmas.List.{length-append, get_or_append_left, get_or-map}
use Rattle.std.proofs.Math.Seq.{get_or-append_seam}
use Rattle.wit_data.specs.declared.types.Type.{«Type» as Ty}
use Rattle.wit_data.specs.declared.types.Type.TheVariants.{Primitive, Id}
use Rattle.wit_data.specs.declared.types.TypeDef.{TypeDef}
use Rattle.wit_data.specs.Parts.{parts, IsBelow, RefersBackFrom, RefersBack, height}
use Rattle.wit_data.specs.Values.{Making, part_value, next_value, values_from, values, kind_at, part_values}

nothing_more : (n : ℕ) → 0 + n ≡ n
nothing_more n = omega arith

-- Values once made are unchanged.
pub kept : {A : Type 0} (m : Making A) (done : List A) (ts : List TypeDef) (k : ℕ) (d : A) → k < length done → get_or (values_from m done ts) k d ≡ get_or done k d
unfolding values_from
kept m done [] k d l = refl
kept m done (t ∷ ts) k d l =
    let v = next_value m done t.kind in
    let longer : k < length (done ++ v ∷ []) = omega (arith, l, length-append done (v ∷ [])) in
    kept m (done ++ v ∷ []) ts k d longer ∙ get_or_append_left done (v ∷ []) d k l

pub same_part : {A : Type 0} (m : Making A) (done : List A) (ts : List TypeDef) (p : Option Ty) → IsBelow (length done) p → part_value m done p ≡ part_value m (values_from m done ts) p
same_part m done ts None b = refl
same_part m done ts (Some (Primitive q)) b = refl
same_part m done ts (Some (Id id)) b = sym (kept m done ts id.index m.absent b)

pub same_parts : {A : Type 0} (m : Making A) (done : List A) (ts : List TypeDef) (ps : List (Option Ty)) → AllByRecursion (IsBelow (length done)) ps → map (part_value m done) ps ≡ map (part_value m (values_from m done ts)) ps
same_parts m done ts [] b = refl
same_parts m done ts (p ∷ ps) b = ap (λ x. x ∷ map (part_value m done) ps) (same_part m done ts p b.0) ∙ ap (λ xs. part_value m (values_from m done ts) p ∷ xs) (same_parts m done ts ps b.1)

-- The value at an index.
pub made_at : {A : Type 0} (m : Making A) (done : List A) (ts : List TypeDef) (n : ℕ) → RefersBackFrom (length done) ts → n < length ts → get_or (values_from m done ts) (length done + n) m.absent ≡ m.made (length done + n) (kind_at ts n) (map (part_value m (values_from m done ts)) (parts (kind_at ts n)))
unfolding values_from
made_at m done [] n s l = absurd (omega (arith, l))
made_at m done (t ∷ ts) zero s l =
    let v = next_value m done t.kind in
    let all = values_from m (done ++ v ∷ []) ts in
    let here : length done < length (done ++ v ∷ []) = omega (arith, length-append done (v ∷ [])) in
    ap (λ k. get_or all k m.absent) (omega arith) ∙ (kept m (done ++ v ∷ []) ts (length done) m.absent here ∙ (get_or-append_seam done v [] m.absent ∙ (ap (λ k. m.made k t.kind (map (part_value m done) (parts t.kind))) (omega arith) ∙ ap (λ fs. m.made (length done + 0) t.kind fs) (same_parts m done (t ∷ ts) (parts t.kind) s.0))))
made_at m done (t ∷ ts) (suc n) s l =
    let v = next_value m done t.kind in
    let all = values_from m (done ++ v ∷ []) ts in
    let one : length (done ++ v ∷ []) ≡ suc (length done) = omega (arith, length-append done (v ∷ [])) in
    let same_index : length (done ++ v ∷ []) + n ≡ length done + suc n = omega (arith, one) in
    let later : RefersBackFrom (length (done ++ v ∷ [])) ts = subst (λ b. RefersBackFrom b ts) (sym one) s.1 in
    subst (λ k. get_or all k m.absent ≡ m.made k (kind_at ts n) (map (part_value m all) (parts (kind_at ts n)))) same_index (made_at m (done ++ v ∷ []) ts n later (omega (arith, l)))

pub made_whole : {A : Type 0} (m : Making A) (types : List TypeDef) (n : ℕ) → RefersBack types → n < length types → get_or (values m types) n m.absent ≡ m.made n (kind_at types n) (part_values m types n)
made_whole m types n s l = subst (λ k. get_or (values m types) k m.absent ≡ m.made k (kind_at types n) (part_values m types n)) (nothing_more n) (made_at m [] types n s l)

pub length_values : {A : Type 0} (m : Making A) (done : List A) (ts : List TypeDef) → length (values_from m done ts) ≡ length done + length ts
unfolding values_from
length_values m done [] = omega arith
length_values m done (t ∷ ts) = let v = next_value m done t.kind in omega (arith, length_values m (done ++ v ∷ []) ts, length-append done (v ∷ []))

-- A type refers to earlier types.
pub parts_below_from : (b : ℕ) (ts : List TypeDef) (n : ℕ) → RefersBackFrom b ts → n < length ts → AllByRecursion (IsBelow (b + n)) (parts (kind_at ts n))
parts_below_from b [] n s l = absurd (omega (arith, l))
parts_below_from b (t ∷ ts) zero s l = subst (λ k. AllByRecursion (IsBelow k) (parts t.kind)) (omega arith) s.0
parts_below_from b (t ∷ ts) (suc n) s l = subst (λ k. AllByRecursion (IsBelow k) (parts (kind_at ts n))) (omega arith) (parts_below_from (suc b) ts n s.1 (omega (arith, l)))

pub parts_below : (types : List TypeDef) (n : ℕ) → RefersBack types → n < length types → AllByRecursion (IsBelow n) (parts (kind_at types n))
parts_below types n s l = subst (λ k. AllByRecursion (IsBelow k) (parts (kind_at types n))) (nothing_more n) (parts_below_from 0 types n s l)

pub all_at : {X : Type 0} (P : X → Type 0) (xs : List X) (k : ℕ) (d : X) → AllByRecursion P xs → k < length xs → P (get_or xs k d)
all_at P [] k d a l = absurd (omega (arith, l))
all_at P (x ∷ xs) zero d a l = a.0
all_at P (x ∷ xs) (suc k) d a l = all_at P xs k d a.1 (omega (arith, l))

pub below_later : (b c : ℕ) (p : Option Ty) → b < c → IsBelow b p → IsBelow c p
below_later b c None l h = tt
below_later b c (Some (Primitive q)) l h = tt
below_later b c (Some (Id id)) l h = omega (arith, l, h)

pub kind_there : (types : List TypeDef) (n : ℕ) (d : TypeDef) → n < length types → (get_or types n d).kind ≡ kind_at types n
kind_there [] n d l = absurd (omega (arith, l))
kind_there (t ∷ ts) zero d l = refl
kind_there (t ∷ ts) (suc n) d l = kind_there ts n d (omega (arith, l))

-- The index of a part among the values.
pub part_value_at : {A : Type 0} (m : Making A) (types : List TypeDef) (id n : ℕ) → n < length (parts (kind_at types id)) → get_or (part_values m types id) n m.absent ≡ part_value m (values m types) (get_or (parts (kind_at types id)) n None)
part_value_at m types id n l = get_or-map (part_value m (values m types)) (parts (kind_at types id)) n None m.absent l

pub height_below : (b : ℕ) (p : Option Ty) → IsBelow b p → height p ≤ b
height_below b None h = omega arith
height_below b (Some (Primitive q)) h = omega arith
height_below b (Some (Id id)) h = omega (arith, h)

-- What a type names at an index is an earlier type.
pub part_below : (types : List TypeDef) (id n : ℕ) → RefersBack types → id < length types → n < length (parts (kind_at types id)) → IsBelow id (get_or (parts (kind_at types id)) n None)
part_below types id n b l h = all_at (IsBelow id) (parts (kind_at types id)) n None (parts_below types id b l) h
