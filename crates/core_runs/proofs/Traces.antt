-- Deeds make exactly their events, in order.
use Rattle.std.proofs.Common.{◌≡◌, ℕ, suc, List, [], ◌∷◌, ◌++◌, take, Option, Some, None, refl, sym, ap, ◌∙◌, append_assoc}
use Rattle.std.proofs.lemmas.List.{append-nil}
use Rattle.std.specs.Prelude.{slice_get}
use Rattle.core_types.specs.declared.types.ValType.{ValType}
use Rattle.core_runs.specs.Values.{Value, I32Value, Function, fits, fit}
use Rattle.core_runs.specs.Store.{Cell, Kept, Foreign, Answer, Gives, Traps, Event, Called, SetForeign, Stored, Now, Outcome, Returned, Trapped, Open, Stuck}
use Rattle.core_runs.specs.Execution.{with_item, and_then, answered, seen, write_cell}
use Rattle.core_runs.specs.Starts.{Deed, Fills, Calls, Sets, Sums, Stores, write_at, deed_done, deeds_done, Written, Makes, MakesEach, Traced}
use Rattle.core_runs.specs.LawsOfStarts.{DeedsAreTraced}
use Rattle.core_runs.proofs.Throughout.{if_meets, sum_meets, where_meets}

-- a run that ended early has made the events of the first few
abbrev Early : List Deed → List Event → Now → Type 0
Early deeds old now = (count : ℕ) × (new : List Event) × (now.events ≡ old ++ new) × MakesEach (take count deeds) new

-- the same of one deed, before others
abbrev FirstTraced : Deed → List Deed → List Event → Outcome → Type 0
FirstTraced d ds old (Returned results now) = (first : List Event) × (now.events ≡ old ++ first) × Makes d first
FirstTraced d ds old (Trapped cause now) = Early (d ∷ ds) old now
FirstTraced d ds old (Open now) = Early (d ∷ ds) old now
FirstTraced d ds old Stuck = Unit {0}

none_yet : (d : Deed) (ds : List Deed) (old : List Event) (now : Now) → now.events ≡ old → Early (d ∷ ds) old now
none_yet d ds old now e = (0, [], e ∙ sym (append-nil old), refl)

one_yet : (d : Deed) (ds : List Deed) (old : List Event) (now : Now) (event : Event) → now.events ≡ old ++ event ∷ [] → Makes d (event ∷ []) → Early (d ∷ ds) old now
one_yet d ds old now event e makes = (1, event ∷ [], e, (event ∷ [], [], refl, makes, refl))

more : (d : Deed) (ds : List Deed) (old first : List Event) (now : Now) (o : Outcome) → now.events ≡ old ++ first → Makes d first → Traced ds now.events o → Traced (d ∷ ds) old o
more d ds old first now (Returned rs after) e makes h =
    (first ++ h.0, h.1 ∙ ap (λ l. l ++ h.0) e ∙ append_assoc old first h.0, (first, h.0, refl, makes, h.2))
more d ds old first now (Trapped cause after) e makes h =
    (suc h.0, first ++ h.1, h.2 ∙ ap (λ l. l ++ h.1) e ∙ append_assoc old first h.1, (first, h.1, refl, makes, h.3))
more d ds old first now (Open after) e makes h =
    (suc h.0, first ++ h.1, h.2 ∙ ap (λ l. l ++ h.1) e ∙ append_assoc old first h.1, (first, h.1, refl, makes, h.3))
more d ds old first now Stuck e makes h = tt

then_traced : (d : Deed) (ds : List Deed) (old : List Event) (o : Outcome) (k : List Value → Now → Outcome) → FirstTraced d ds old o → ((rs : List Value) (after : Now) → Traced ds after.events (k rs after)) → Traced (d ∷ ds) old (and_then o k)
then_traced d ds old (Returned rs now) k h f = more d ds old h.0 now (k rs now) h.1 h.2 (f rs now)
then_traced d ds old (Trapped cause now) k h f = h
then_traced d ds old (Open now) k h f = h
then_traced d ds old Stuck k h f = tt

-- a call from outside
answered_traced : (d : Deed) (ds : List Deed) (old : List Event) (event : Event) (ts : List ValType) (answers : List Answer) (now : Now) → now.events ≡ old ++ event ∷ [] → Makes d (event ∷ []) → FirstTraced d ds old (answered ts answers now)
answered_traced d ds old event ts [] now e makes = one_yet d ds old now event e makes
answered_traced d ds old event ts (Traps ∷ answers) now e makes = one_yet d ds old (record now { answers = answers }) event e makes
answered_traced d ds old event ts (Gives rs number ∷ answers) now e makes =
    if_meets (FirstTraced d ds old) tt (fit ts rs) _ (Open now) (event ∷ [], e, makes) (one_yet d ds old now event e makes)

-- a write
write_traced : (d : Deed) (ds : List Deed) (g : ℕ) (v : Value) (now : Now) (cell : Option Cell) → ((events : List Event) → Written v events → Makes d events) → FirstTraced d ds now.events (with_item cell (λ c. write_cell g c v now (λ after. Returned [] after)))
write_traced d ds g v now None makes = tt
write_traced d ds g v now (Some (Kept t old)) makes =
    where_meets (FirstTraced d ds now.events) tt (fits t v) _ (λ fine. ([], sym (append-nil now.events), makes [] tt))
write_traced d ds g v now (Some (Foreign what t)) makes =
    where_meets (FirstTraced d ds now.events) tt (fits t v) _ (λ fine. (SetForeign what v ∷ [], refl, makes (SetForeign what v ∷ []) refl))

deed_traced : (d : Deed) (ds : List Deed) (now : Now) → FirstTraced d ds now.events (deed_done d now)
deed_traced (Fills g f) ds now = write_traced (Fills g f) ds g (Function f) now (slice_get now.globals g) (λ events h. h)
deed_traced (Calls target arguments) ds now =
    let call = Called target.address arguments in
    where_meets (FirstTraced (Calls target arguments) ds now.events) tt (fit target.signature.params arguments) _ (λ fine.
    answered_traced (Calls target arguments) ds now.events call target.signature.results now.answers (seen now call) refl refl)
deed_traced (Sets g number) ds now =
    write_traced (Sets g number) ds g (I32Value number) now (slice_get now.globals g) (λ events h. h)
deed_traced (Sums b o g) ds now =
    let d = Sums b o g in
    sum_meets (FirstTraced d ds now.events) tt b o now (λ s after. write_at g (I32Value s) after) (λ left. none_yet d ds now.events (record now { answers = left }) refl) (λ s left. write_traced d ds g (I32Value s) (record now { answers = left }) (slice_get now.globals g) (λ events h. (s, h)))
deed_traced (Stores b o m a) ds now =
    let d = Stores b o m a in
    sum_meets (FirstTraced d ds now.events) tt b o now (λ s after. Returned [] (seen after (Stored m a s))) (λ left. none_yet d ds now.events (record now { answers = left }) refl) (λ s left. (Stored m a s ∷ [], refl, (s, refl)))

pub deeds_are_traced : DeedsAreTraced
deeds_are_traced [] now = ([], sym (append-nil now.events), refl)
deeds_are_traced (d ∷ ds) now =
    then_traced d ds now.events (deed_done d now) (λ rs after. deeds_done ds after) (deed_traced d ds now) (λ rs after. deeds_are_traced ds after)
