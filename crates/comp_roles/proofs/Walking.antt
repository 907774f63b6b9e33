-- The steps of walks that append to a list.
use Rattle.std.proofs.Common.{◌≡◌, ◌∙◌, ap, List, ◌∷◌, ◌++◌}
use Rattle.std.proofs.lemmas.List.{append_assoc}
use Rattle.std.specs.List.{flat_map}

-- a list with the result of one item, and the results of those that follow
pub item_step : {X A : Type 0} (f : X → List A) (done new : List A) (x : X) (rest : List X)
    → new ≡ done ++ f x → new ++ flat_map f rest ≡ done ++ flat_map f (x ∷ rest)
item_step f done new x rest added = ap (λ n. n ++ flat_map f rest) added ∙ append_assoc done (f x) (flat_map f rest)
