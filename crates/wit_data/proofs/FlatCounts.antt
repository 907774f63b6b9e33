-- How many core values types have.
use Rattle.std.proofs.Common.{◌≡◌, ℕ, ◌+◌, ◌<◌, List, [], ◌∷◌, ◌++◌, length, get_or, map, drop, refl, ap, ◌∙◌, sym, arith, min, max, append_assoc, Option, None}
use Rattle.std.specs.List.{flat_map}
use Rattle.std.proofs.lemmas.List.{length-append, length-map, get_or-map}
use Rattle.wit_data.specs.declared.signatures.WasmType.{WasmType}
use Rattle.wit_data.specs.declared.flattening.Shape.{Shape}
use Rattle.wit_data.specs.declared.types.Type.{«Type» as Ty}
use Rattle.wit_data.specs.declared.types.TypeDef.{TypeDef}
use Rattle.wit_data.specs.Parts.{parts, RefersBack}
use Rattle.wit_data.specs.Values.{part_value, values, part_values, kind_at}
use Rattle.wit_data.specs.Sizes.{sum, greatest}
use Rattle.wit_data.specs.Flat.{join_lists, joined, flat, flattening, shape, flat_shape}
use Rattle.wit_data.proofs.Values.{made_whole, kind_there, part_value_at}
use Rattle.wit_data.proofs.Counts.{drop_next}

-- the counts of lists of core values
abbrev pub lengths : List (List WasmType) → List ℕ
lengths fs = map (λ (f : List WasmType). length f) fs

pub length_together : (fs : List (List WasmType)) → length (flat_map (λ (f : List WasmType). f) fs) ≡ sum (lengths fs)
length_together [] = refl
length_together (f ∷ fs) = length-append f (flat_map (λ (g : List WasmType). g) fs) ∙ ap (λ n. length f + n) (length_together fs)

pub length_join : (a b : List WasmType) → length (join_lists a b) ≡ max (length a) (length b)
length_join [] b = omega arith
length_join (x ∷ a) [] = omega arith
length_join (x ∷ a) (y ∷ b) = omega (arith, length_join a b)

pub length_joined : (so_far : List WasmType) (fs : List (List WasmType)) → length (joined so_far fs) ≡ max (length so_far) (greatest (lengths fs))
length_joined so_far [] = omega arith
length_joined so_far (f ∷ fs) = omega (arith, length_joined (join_lists so_far f) fs, length_join so_far f)

pub longest_joined : (fs : List (List WasmType)) → length (joined [] fs) ≡ greatest (lengths fs)
longest_joined fs = omega (arith, length_joined [] fs)

-- the counts of a type's parts
abbrev pub part_counts : List TypeDef → ℕ → List ℕ
part_counts types id = lengths (part_values flattening types id)

pub length_part_counts : (types : List TypeDef) (id : ℕ) → length (part_counts types id) ≡ length (parts (kind_at types id))
length_part_counts types id = length-map (part_values flattening types id) (λ (f : List WasmType). length f) ∙ length-map (parts (kind_at types id)) (part_value flattening (values flattening types))

pub part_count_at : (types : List TypeDef) (id n count : ℕ) (p : Option Ty) → n < length (parts (kind_at types id)) → count ≡ min (length (flat types p)) 17 → p ≡ get_or (parts (kind_at types id)) n None → count ≡ min (get_or (part_counts types id) n 0) 17
part_count_at types id n count p l c e =
    let l2 : n < length (part_values flattening types id) = omega (arith, l, length-map (parts (kind_at types id)) (part_value flattening (values flattening types))) in
    c ∙ (ap (λ q. min (length (part_value flattening (values flattening types) q)) 17) e ∙ (ap (λ (f : List WasmType). min (length f) 17) (sym (part_value_at flattening types id n l)) ∙ ap (λ k. min k 17) (sym (get_or-map (λ (f : List WasmType). length f) (part_values flattening types id) n [] 0 l2))))

-- the core values of a type by its shape
pub flat_at : (types : List TypeDef) (id : ℕ) (d : TypeDef) (s : Shape) → RefersBack types → id < length types → shape (get_or types id d).kind ≡ s → get_or (values flattening types) id [] ≡ flat_shape s (part_values flattening types id)
flat_at types id d s b l e = made_whole flattening types id b l ∙ ap (λ g. flat_shape g (part_values flattening types id)) (sym (ap shape (kind_there types id d l)) ∙ e)

-- the core values of a part, among those of all parts
pub flat_part_at : (types : List TypeDef) (id n : ℕ) (p : Option Ty) → n < length (parts (kind_at types id)) → p ≡ get_or (parts (kind_at types id)) n None → flat types p ≡ get_or (part_values flattening types id) n []
flat_part_at types id n p l e = ap (λ q. flat types q) e ∙ sym (part_value_at flattening types id n l)

-- one more part's core values
pub together_step : (old now new : List WasmType) (fs : List (List WasmType)) (n : ℕ) (f : List WasmType) → n < length fs → f ≡ get_or fs n [] → new ≡ now ++ f → now ++ flat_map (λ (f : List WasmType). f) (drop n fs) ≡ old ++ flat_map (λ (f : List WasmType). f) fs → new ++ flat_map (λ (f : List WasmType). f) (drop (n + 1) fs) ≡ old ++ flat_map (λ (f : List WasmType). f) fs
together_step old now new fs n f l e g h =
    ap (λ xs. xs ++ flat_map (λ (f : List WasmType). f) (drop (n + 1) fs)) g
    ∙ (append_assoc now f (flat_map (λ (f : List WasmType). f) (drop (n + 1) fs))
    ∙ (ap (λ xs. now ++ (xs ++ flat_map (λ (f : List WasmType). f) (drop (n + 1) fs))) e
    ∙ (sym (ap (λ xs. now ++ flat_map (λ (f : List WasmType). f) xs) (drop_next fs n [] l)) ∙ h)))

pub cases_step : (now new : List WasmType) (fs : List (List WasmType)) (n : ℕ) (f : List WasmType) → n < length fs → f ≡ get_or fs n [] → new ≡ join_lists now f → joined now (drop n fs) ≡ joined [] fs → joined new (drop (n + 1) fs) ≡ joined [] fs
cases_step now new fs n f l e g h =
    ap (λ xs. joined xs (drop (n + 1) fs)) g
    ∙ (ap (λ xs. joined (join_lists now xs) (drop (n + 1) fs)) e
    ∙ (sym (ap (λ xs. joined now xs) (drop_next fs n [] l)) ∙ h))

pub length_parts : (types : List TypeDef) (id : ℕ) → length (part_values flattening types id) ≡ length (parts (kind_at types id))
length_parts types id = length-map (parts (kind_at types id)) (part_value flattening (values flattening types))
