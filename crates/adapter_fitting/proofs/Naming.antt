-- Names of several sections, one after the other.
use Rattle.std.proofs.Common.{◌≡◌, ◌∙◌, ℕ, ◌<◌, ◌+◌, List, [], ◌∷◌, ◌++◌, length, map, drop, get_or, Result, Ok, Err, refl, sym, ap, append_assoc}
use Rattle.core_parts.specs.Names.{Named}
use Rattle.adapter_fitting.specs.declared.fault.Refusal.{Refusal}
use Rattle.std.proofs.lemmas.List.{append-nil}
use Rattle.adapter_fitting.specs.declared.fault.Stop.{Stop}
use Rattle.adapter_fitting.specs.declared.fault.Stop.TheVariants as stops
use Rattle.adapter_fitting.specs.Faults.{◌>>=◌, Gives}
use Rattle.module_edits.proofs.Remaining.{next_at}
use Rattle.adapter_fitting.specs.declared.places.PlacedSection.{PlacedSection}
use Rattle.adapter_fitting.specs.Places.{Placed, placed_view}
use Rattle.adapter_fitting.specs.Stack.{names_in, names_of}

-- what was read before, and what is still read
abbrev pub behind : List Named → Result (List Named) Refusal → Result (List Named) Refusal
behind front read = read >>= λ more. Ok (front ++ more)

regroup : (front here : List Named) (read : Result (List Named) Refusal) → behind front (read >>= λ more. Ok (here ++ more)) ≡ behind (front ++ here) read
regroup front here (Err e) = refl
regroup front here (Ok more) = ap (λ (x : List Named). Ok x) (sym (append_assoc front here more))

-- the names of the next section were read
pub names_next : (front here : List Named) (s : Placed) (rest ss : List Placed) (total : Result (List Named) Refusal) → rest ≡ s ∷ ss → names_in s ≡ Ok here → behind front (names_of rest) ≡ total
    → behind (front ++ here) (names_of ss) ≡ total
names_next front here s rest ss total e h so_far =
    sym (regroup front here (names_of ss)) ∙ ap (λ r. behind front (r >>= λ hs. names_of ss >>= λ more. Ok (hs ++ more))) (sym h) ∙ ap (λ r. behind front (names_of r)) (sym e) ∙ so_far

-- the names of the next section can't be read
pub names_stop : (front : List Named) (s : Placed) (rest ss : List Placed) (total : Result (List Named) Refusal) (r : Refusal) → rest ≡ s ∷ ss → names_in s ≡ Err r → behind front (names_of rest) ≡ total → total ≡ Err r
names_stop front s rest ss total r e h so_far = sym so_far ∙ ap (λ t. behind front (names_of t)) e ∙ ap (λ x. behind front (x >>= λ hs. names_of ss >>= λ more. Ok (hs ++ more))) h

pub behind_nothing : (read : Result (List Named) Refusal) → behind [] read ≡ read
behind_nothing (Err e) = refl
behind_nothing (Ok ns) = refl

pub names_fail : {X : Type 0} (view : X → List Named) (e : Stop) (front : List Named) (s : Placed) (rest ss : List Placed) (total : Result (List Named) Refusal) → rest ≡ s ∷ ss → Gives view (Err e) (names_in s)
    → behind front (names_of rest) ≡ total → Gives view (Err e) total
names_fail view stops.Memory front s rest ss total e h so_far = tt
names_fail view (stops.Refused r) front s rest ss total e h so_far = names_stop front s rest ss total r e h so_far

pub names_end : (front : List Named) (rest : List Placed) (total : Result (List Named) Refusal) → rest ≡ [] → behind front (names_of rest) ≡ total → total ≡ Ok front
names_end front rest total e so_far = sym so_far ∙ ap (λ r. behind front (names_of r)) e ∙ ap (λ (x : List Named). Ok x) (append-nil front)

-- ---- the same, at a turn of a loop

pub names_next_at : (xs : List PlacedSection) (k : ℕ) (d : PlacedSection) (front here : List Named) (total : Result (List Named) Refusal) → k < length xs → names_in (placed_view (get_or xs k d)) ≡ Ok here
    → behind front (names_of (map placed_view (drop k xs))) ≡ total → behind (front ++ here) (names_of (map placed_view (drop (k + 1) xs))) ≡ total
names_next_at xs k d front here total lt h so_far = names_next front here (placed_view (get_or xs k d)) (map placed_view (drop k xs)) (map placed_view (drop (k + 1) xs)) total (next_at placed_view xs k d lt) h so_far

pub names_fail_at : {X : Type 0} (view : X → List Named) (e : Stop) (xs : List PlacedSection) (k : ℕ) (d : PlacedSection) (front : List Named) (total : Result (List Named) Refusal) → k < length xs → Gives view (Err e) (names_in (placed_view (get_or xs k d)))
    → behind front (names_of (map placed_view (drop k xs))) ≡ total → Gives view (Err e) total
names_fail_at view e xs k d front total lt h so_far = names_fail view e front (placed_view (get_or xs k d)) (map placed_view (drop k xs)) (map placed_view (drop (k + 1) xs)) total (next_at placed_view xs k d lt) h so_far
