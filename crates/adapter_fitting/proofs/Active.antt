-- Whether one of several sections has an active segment.
use Rattle.std.proofs.Common.{◌≡◌, ◌∙◌, ℕ, Bool, true, false, if◌then◌else◌, List, [], ◌∷◌, Result, Ok, Err, refl, sym, ap}
use Rattle.core_sections.specs.Sections.{Piece}
use Rattle.core_sections.specs.declared.fault.SectionFault.{SectionFault}
use Rattle.adapter_fitting.specs.declared.fault.Refusal.{Refusal}
use Rattle.adapter_fitting.specs.declared.fault.Stop.{Stop}
use Rattle.adapter_fitting.specs.declared.fault.Stop.TheVariants as stops
use Rattle.adapter_fitting.specs.Faults.{◌>>=◌, Gives, Told, of_sections, of_stop}
use Rattle.adapter_fitting.specs.Places.{Placed, placed}
use Rattle.adapter_fitting.specs.Segments.{has_active, one_has_active}

-- the next section can't be read
pub active_fail : (e : Stop) (s : Placed) (rest ss : List Placed) (total : Result Bool Refusal) → rest ≡ s ∷ ss → Gives {X = Bool} {Y = Bool} (λ b. b) (Err e) (has_active s) → one_has_active rest ≡ total → Gives {X = Bool} {Y = Bool} (λ b. b) (Err e) total
active_fail stops.Memory s rest ss total e h so_far = tt
active_fail (stops.Refused r) s rest ss total e h so_far = sym so_far ∙ ap one_has_active e ∙ ap (λ x. x >>= λ here. if here then Ok true else one_has_active ss) h

-- the next section has one, or has none
pub active_here : (s : Placed) (rest ss : List Placed) (total : Result Bool Refusal) → rest ≡ s ∷ ss → has_active s ≡ Ok true → one_has_active rest ≡ total → total ≡ Ok true
active_here s rest ss total e h so_far = sym so_far ∙ ap one_has_active e ∙ ap (λ x. x >>= λ here. if here then Ok true else one_has_active ss) h

pub active_later : (s : Placed) (rest ss : List Placed) (total : Result Bool Refusal) → rest ≡ s ∷ ss → has_active s ≡ Ok false → one_has_active rest ≡ total → one_has_active ss ≡ total
active_later s rest ss total e h so_far = sym (ap (λ x. x >>= λ here. if here then Ok true else one_has_active ss) h) ∙ sym (ap one_has_active e) ∙ so_far

-- ---- of a module

abbrev pub told_of : Result (List Piece) SectionFault → Result Bool Refusal
told_of pieces = of_sections pieces >>= λ ps. one_has_active (placed 8 ps)

by_pieces : (pieces : Result (List Piece) SectionFault) (ps : List Piece) (ss : List Placed) → pieces ≡ Ok ps → ss ≡ placed 8 ps → one_has_active ss ≡ told_of pieces
by_pieces pieces ps ss e s = ap one_has_active s ∙ ap told_of (sym e)

pub active_stopped : {X : Type 0} (view : X → Bool) (f : Stop) (pieces : Result (List Piece) SectionFault) (ps : List Piece) (ss : List Placed) → pieces ≡ Ok ps → ss ≡ placed 8 ps → Gives view (Err f) (one_has_active ss) → Told (Err (of_stop f)) (told_of pieces)
active_stopped view stops.Memory pieces ps ss e s g = tt
active_stopped view (stops.Refused r) pieces ps ss e s g = sym (by_pieces pieces ps ss e s) ∙ g

pub active_told : (b : Bool) (pieces : Result (List Piece) SectionFault) (ps : List Piece) (ss : List Placed) → pieces ≡ Ok ps → ss ≡ placed 8 ps → one_has_active ss ≡ Ok b → Told (Ok b) (told_of pieces)
active_told b pieces ps ss e s g = sym (by_pieces pieces ps ss e s) ∙ g
