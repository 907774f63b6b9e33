-- Adapters one after the other, as a loop does.
use Rattle.std.proofs.Common.{◌≡◌, ◌∙◌, ℕ, Bool, true, false, List, [], ◌∷◌, ◌++◌, Result, Ok, Err, refl, sym, ap, subst, append_assoc}
use Rattle.std.specs.Result.{IsErrAnd}
use Rattle.std.specs.Prelude.{◌||◌}
use Rattle.std.proofs.lemmas.List.{append-nil}
use Rattle.fitted_modules.specs.Modules.{◌>>=◌, Fitted, GivesAll, refused_adapter, adapter_of, adapters_of, fitted_view}
use Rattle.fitted_modules.specs.declared.changes.Outcome.{Outcome}
use Rattle.fitted_modules.specs.declared.fault.ModulesFault.{ModulesFault}
use Rattle.fitted_modules.specs.declared.fault.ModulesFault.TheVariants as faults
use Rattle.fitted_modules.specs.declared.modules.NamedModule.{NamedModule}

-- those that are done, and those that are still to come
abbrev pub behind : List NamedModule → Bool → Result Fitted ModulesFault → Result Fitted ModulesFault
behind done wanted read = read >>= λ more. Ok (record { adapters = done ++ more.adapters; wanted = wanted || more.wanted })

either_then : (a b c : Bool) → (a || (b || c)) ≡ ((a || b) || c)
either_then true b c = refl
either_then false b c = refl

either_none : (a : Bool) → (a || false) ≡ a
either_none true = refl
either_none false = refl

pub behind_nothing : (read : Result Fitted ModulesFault) → behind [] false read ≡ read
behind_nothing (Err e) = refl
behind_nothing (Ok f) = refl

abbrev done_with : List NamedModule → Bool → Result Fitted ModulesFault
done_with xs w = Ok (record { adapters = xs; wanted = w })

made : (xs ys : List NamedModule) (v w : Bool) → xs ≡ ys → v ≡ w → done_with xs v ≡ done_with ys w
made xs ys v w e h = ap (λ (zs : List NamedModule). done_with zs v) e ∙ ap (done_with ys) h

regroup : (done : List NamedModule) (wanted : Bool) (x : NamedModule) (b : Bool) (read : Result Fitted ModulesFault)
    → behind done wanted (read >>= λ more. Ok (record { adapters = x ∷ more.adapters; wanted = b || more.wanted })) ≡ behind (done ++ x ∷ []) (wanted || b) read
regroup done wanted x b (Err e) = refl
regroup done wanted x b (Ok f) = made _ _ _ _ (sym (append_assoc done (x ∷ []) f.adapters)) (either_then wanted b f.wanted)

pub next_done : (renames : Bool) (done new : List NamedModule) (wanted is_new : Bool) (a : NamedModule) (rest : List NamedModule) (o : Outcome) (total : Result Fitted ModulesFault)
    → refused_adapter a.name (adapter_of renames a.bytes) ≡ Ok o → new ≡ done ++ record { name = a.name; bytes = o.bytes } ∷ [] → is_new ≡ o.is_new
    → behind done wanted (adapters_of renames (a ∷ rest)) ≡ total → behind new (wanted || is_new) (adapters_of renames rest) ≡ total
next_done renames done new wanted is_new a rest o total h e k so_far =
    ap (λ n. behind n (wanted || is_new) (adapters_of renames rest)) e
    ∙ ap (λ b. behind (done ++ record { name = a.name; bytes = o.bytes } ∷ []) (wanted || b) (adapters_of renames rest)) k
    ∙ sym (regroup done wanted (record { name = a.name; bytes = o.bytes }) o.is_new (adapters_of renames rest))
    ∙ sym (ap (λ r. behind done wanted (r >>= λ out. adapters_of renames rest >>= λ more. Ok (record { adapters = record { name = a.name; bytes = out.bytes } ∷ more.adapters; wanted = out.is_new || more.wanted }))) h)
    ∙ so_far

stopped : (renames : Bool) (done : List NamedModule) (wanted : Bool) (a : NamedModule) (rest : List NamedModule) (f : ModulesFault) (total : Result Fitted ModulesFault)
    → refused_adapter a.name (adapter_of renames a.bytes) ≡ Err f → behind done wanted (adapters_of renames (a ∷ rest)) ≡ total → total ≡ Err f
stopped renames done wanted a rest f total h so_far =
    sym so_far
    ∙ ap (λ r. behind done wanted (r >>= λ out. adapters_of renames rest >>= λ more. Ok (record { adapters = record { name = a.name; bytes = out.bytes } ∷ more.adapters; wanted = out.is_new || more.wanted }))) h

pub not_done : {X : Type 0} (view : X → Fitted) (renames : Bool) (done : List NamedModule) (wanted : Bool) (a : NamedModule) (rest : List NamedModule) (f : ModulesFault) (total : Result Fitted ModulesFault)
    → GivesAll {X = Outcome} (λ o. o) (Err f) (refused_adapter a.name (adapter_of renames a.bytes)) → behind done wanted (adapters_of renames (a ∷ rest)) ≡ total → GivesAll view (Err f) total
not_done view renames done wanted a rest faults.Memory total h so_far = tt
not_done view renames done wanted a rest (faults.TooMany n) total h so_far = h
not_done view renames done wanted a rest (faults.Main r) total h so_far = stopped renames done wanted a rest (faults.Main r) total h so_far
not_done view renames done wanted a rest (faults.Adapter name r) total h so_far = stopped renames done wanted a rest (faults.Adapter name r) total h so_far

pub all_done : (renames : Bool) (done : List NamedModule) (wanted : Bool) (rest : List NamedModule) (total : Result Fitted ModulesFault) → rest ≡ []
    → behind done wanted (adapters_of renames rest) ≡ total → total ≡ Ok (record { adapters = done; wanted = wanted })
all_done renames done wanted rest total none so_far =
    sym so_far ∙ ap (λ r. behind done wanted (adapters_of renames r)) none ∙ made _ _ _ _ (append-nil done) (either_none wanted)

-- a call that gives a fault on
pub exits : {X Y : Type 0} (view : X → Y) (r : Result X ModulesFault) (e : ModulesFault) (read : Result Y ModulesFault) → IsErrAnd r (λ y. y ≡ e) → GivesAll view (Err e) read → GivesAll view r read
exits view (Ok x) e read h g = absurd h
exits view (Err y) e read h g = subst (λ (d : ModulesFault). GivesAll view (Err d) read) (sym h) g
