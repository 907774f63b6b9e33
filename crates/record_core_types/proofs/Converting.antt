-- Lists that are converted item by item, all of them or none.
use Rattle.std.proofs.Common.{◌≡◌, List, [], ◌∷◌, ◌++◌, Option, Some, None, refl, sym, ap}
use Rattle.std.specs.Prelude.{option_map}
use Rattle.std.proofs.lemmas.List.{append_assoc}
use Rattle.core_sections.specs.Reading.{◌>>=◌}

-- what was converted, followed by the rest once it is converted
abbrev pub after : {A : Type 0} → List A → Option (List A) → Option (List A)
after done rest = option_map (λ more. done ++ more) rest

pub after_one : {A : Type 0} (done : List A) (x : A) (rest : Option (List A)) → after done (rest >>= λ more. Some (x ∷ more)) ≡ after (done ++ x ∷ []) rest
after_one done x None = refl
after_one done x (Some more) = ap Some (sym (append_assoc done (x ∷ []) more))
