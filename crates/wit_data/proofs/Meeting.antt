-- What is found in the parts of a type, one after the other.
use Rattle.std.proofs.Common.{◌≡◌, ℕ, zero, suc, ◌+◌, ◌<◌, Bool, true, false, ◌||◌, List, [], ◌∷◌, length, get_or, drop, refl, ap, ◌∙◌, sym, arith, Option, None, if◌then◌else◌}
use Rattle.std.specs.List.{list_any}
use Rattle.std.proofs.lemmas.List.{length-map}
use Rattle.wit_data.specs.declared.types.Type.{«Type» as Ty}
use Rattle.wit_data.specs.declared.types.TypeDefKind.{TypeDefKind}
use Rattle.wit_data.specs.declared.types.TypeDef.{TypeDef}
use Rattle.wit_data.specs.Parts.{parts, RefersBack}
use Rattle.wit_data.specs.Contents.{is_entered, is_list, finding_texts, finding_lists}
use Rattle.wit_data.specs.Values.{Making, part_value, values, part_values, kind_at, value}
use Rattle.wit_data.proofs.Values.{made_whole, part_value_at}

pub drop_next : {X : Type 0} (xs : List X) (n : ℕ) (d : X) → n < length xs → drop n xs ≡ get_or xs n d ∷ drop (n + 1) xs
drop_next [] n d l = absurd (omega (arith, l))
drop_next (x ∷ xs) zero d l = refl
drop_next (x ∷ xs) (suc n) d l =
    let e : suc (n + 1) ≡ suc n + 1 = omega arith in
    drop_next xs n d (omega (arith, l)) ∙ ap (λ k. get_or xs n d ∷ drop k (x ∷ xs)) e

pub drop_all : {X : Type 0} (xs : List X) (n : ℕ) → n ≡ length xs → drop n xs ≡ []
drop_all [] zero e = refl
drop_all [] (suc n) e = refl
drop_all (x ∷ xs) zero e = absurd (omega (arith, e))
drop_all (x ∷ xs) (suc n) e = drop_all xs n (omega (arith, e))

pub or_assoc : (a b c : Bool) → ((a || b) || c) ≡ (a || (b || c))
or_assoc true b c = refl
or_assoc false b c = refl

pub or_false : (a : Bool) → (a || false) ≡ a
or_false true = refl
or_false false = refl

-- What was found before, and in the first so many parts, is found.
pub record MetSoFar (before met : Bool) (n : ℕ) (found : List Bool) : Type 0 where
  pub so_far : (met || list_any (λ b. b) (drop n found)) ≡ (before || list_any (λ b. b) found)

pub met_start : (before : Bool) (found : List Bool) → MetSoFar before before 0 found
met_start before found = record { so_far = refl }

pub met_step : (before met next : Bool) (n : ℕ) (found : List Bool) → n < length found → next ≡ get_or found n false → MetSoFar before met n found → MetSoFar before (met || next) (n + 1) found
met_step before met next n found l e s =
    let here : list_any (λ b. b) (drop n found) ≡ (next || list_any (λ b. b) (drop (n + 1) found)) = ap (λ bs. list_any (λ b. b) bs) (drop_next found n false l) ∙ ap (λ b. b || list_any (λ b. b) (drop (n + 1) found)) (sym e) in
    record { so_far = or_assoc met next (list_any (λ b. b) (drop (n + 1) found)) ∙ (ap (λ b. met || b) (sym here) ∙ s.so_far) }

pub met_end : (before met : Bool) (n : ℕ) (found : List Bool) → n ≡ length found → MetSoFar before met n found → met ≡ (before || list_any (λ b. b) found)
met_end before met n found e s = sym (or_false met) ∙ (ap (λ bs. met || list_any (λ b. b) bs) (sym (drop_all found n e)) ∙ s.so_far)

-- Where it is found already, the rest changes nothing.
pub met_early : (before met : Bool) (n : ℕ) (found : List Bool) → met ≡ true → MetSoFar before met n found → met ≡ (before || list_any (λ b. b) found)
met_early before met n found e s = e ∙ (ap (λ b. b || list_any (λ b. b) (drop n found)) (sym e) ∙ s.so_far)

pub parts_long : {A : Type 0} (m : Making A) (types : List TypeDef) (id : ℕ) → length (part_values m types id) ≡ length (parts (kind_at types id))
parts_long m types id = length-map (parts (kind_at types id)) (part_value m (values m types))

pub met_at : {A : Type 0} (m : Making A) (types : List TypeDef) (id n : ℕ) (b : A) (p : Option Ty) → n < length (parts (kind_at types id)) → b ≡ value m types p → p ≡ get_or (parts (kind_at types id)) n None → b ≡ get_or (part_values m types id) n m.absent
met_at m types id n b p l c e = c ∙ (ap (λ q. value m types q) e ∙ sym (part_value_at m types id n l))

-- What is found in a type whose values contain those of its parts, and in other types.
pub texts_entered : (types : List TypeDef) (id : ℕ) (k : TypeDefKind) (entered met : Bool) → RefersBack types → id < length types → k ≡ kind_at types id → entered ≡ is_entered k → entered ≡ true → met ≡ (false || list_any (λ b. b) (part_values finding_texts types id)) → met ≡ get_or (values finding_texts types) id false
texts_entered types id k entered met s l e is is_inside found =
    let test : is_entered (kind_at types id) ≡ true = ap is_entered (sym e) ∙ (sym is ∙ is_inside) in
    found ∙ sym (made_whole finding_texts types id s l ∙ ap (λ b. if b then list_any (λ b. b) (part_values finding_texts types id) else false) test)

pub texts_closed : (types : List TypeDef) (id : ℕ) (k : TypeDefKind) (entered : Bool) → RefersBack types → id < length types → k ≡ kind_at types id → entered ≡ is_entered k → entered ≡ false → false ≡ get_or (values finding_texts types) id false
texts_closed types id k entered s l e is is_outside =
    let test : is_entered (kind_at types id) ≡ false = ap is_entered (sym e) ∙ (sym is ∙ is_outside) in
    sym (made_whole finding_texts types id s l ∙ ap (λ b. if b then list_any (λ b. b) (part_values finding_texts types id) else false) test)

pub lists_entered : (types : List TypeDef) (id : ℕ) (k : TypeDefKind) (entered list met : Bool) → RefersBack types → id < length types → k ≡ kind_at types id → entered ≡ is_entered k → entered ≡ true → list ≡ is_list k → met ≡ (list || list_any (λ b. b) (part_values finding_lists types id)) → met ≡ get_or (values finding_lists types) id false
lists_entered types id k entered list met s l e is is_inside own found =
    let test : is_entered (kind_at types id) ≡ true = ap is_entered (sym e) ∙ (sym is ∙ is_inside) in
    let one : list ≡ is_list (kind_at types id) = own ∙ ap is_list e in
    found ∙ (ap (λ b. b || list_any (λ b. b) (part_values finding_lists types id)) one ∙ sym (made_whole finding_lists types id s l ∙ ap (λ b. is_list (kind_at types id) || (if b then list_any (λ b. b) (part_values finding_lists types id) else false)) test))

pub lists_closed : (types : List TypeDef) (id : ℕ) (k : TypeDefKind) (entered list : Bool) → RefersBack types → id < length types → k ≡ kind_at types id → entered ≡ is_entered k → entered ≡ false → list ≡ is_list k → list ≡ get_or (values finding_lists types) id false
lists_closed types id k entered list s l e is is_outside own =
    let test : is_entered (kind_at types id) ≡ false = ap is_entered (sym e) ∙ (sym is ∙ is_outside) in
    let one : list ≡ is_list (kind_at types id) = own ∙ ap is_list e in
    one ∙ (sym (or_false (is_list (kind_at types id))) ∙ sym (made_whole finding_lists types id s l ∙ ap (λ b. is_list (kind_at types id) || (if b then list_any (λ b. b) (part_values finding_lists types id) else false)) test))
