-- The core values of a function's parameters.
use Rattle.std.proofs.Common.{◌≡◌, ℕ, ◌+◌, ◌<◌, List, [], ◌∷◌, length, get_or, map, min, refl, ap, sym, ◌∙◌, Some}
use Rattle.std.specs.List.{flat_map}
use Rattle.std.proofs.lemmas.List.{length-append, length-map, get_or-map}
use Rattle.wit_data.specs.declared.functions.Param.{Param}
use Rattle.wit_data.specs.declared.types.TypeDef.{TypeDef}
use Rattle.wit_data.specs.Sizes.{sum}
use Rattle.wit_data.specs.Flat.{flat}

abbrev pub param_counts : List TypeDef → List Param → List ℕ
param_counts types params = map (λ p. length (flat types (Some p.ty))) params

pub length_params : (types : List TypeDef) (params : List Param) → length (flat_map (λ p. flat types (Some p.ty)) params) ≡ sum (param_counts types params)
length_params types [] = refl
length_params types (p ∷ ps) = length-append (flat types (Some p.ty)) (flat_map (λ q. flat types (Some q.ty)) ps) ∙ ap (λ n. length (flat types (Some p.ty)) + n) (length_params types ps)

pub length_param_counts : (types : List TypeDef) (params : List Param) → length (param_counts types params) ≡ length params
length_param_counts types params = length-map params (λ p. length (flat types (Some p.ty)))

pub param_count_at : (types : List TypeDef) (params : List Param) (n count : ℕ) (p : Param) → n < length params → count ≡ min (length (flat types (Some (get_or params n p).ty))) 17 → count ≡ min (get_or (param_counts types params) n 0) 17
param_count_at types params n count p l c =
    c ∙ ap (λ k. min k 17) (sym (get_or-map (λ q. length (flat types (Some q.ty))) params n p 0 l))
