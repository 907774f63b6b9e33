-- One step after another, of calls that read and of those that write.
use Rattle.std.proofs.Common.{◌≡◌, ◌∙◌, ℕ, Bool, List, Option, Some, None, Result, Ok, Err, refl, sym, ap, subst}
use Rattle.std.specs.Result.{IsErrAnd}
use Rattle.byte_encoding.specs.Encoding.{Encoding, Fits}
use Rattle.byte_encoding.specs.Written.{Refused}
use Rattle.byte_encoding.specs.declared.fault.BuildFault.{BuildFault}
use Rattle.byte_encoding.specs.declared.fault.BuildFault.TheVariants as builds
use Rattle.core_sections.specs.declared.fault.SectionFault.{SectionFault}
use Rattle.core_sections.specs.declared.fault.SectionFault.TheVariants as sections
use Rattle.core_sections.specs.Sections.{Gives as GivesSections}
use Rattle.adapter_fitting.specs.declared.fault.Refusal.{Refusal}
use Rattle.adapter_fitting.specs.declared.fault.Stop.{Stop}
use Rattle.adapter_fitting.specs.declared.fault.Stop.TheVariants as stops
use Rattle.adapter_fitting.specs.declared.fault.FitFault.{FitFault}
use Rattle.adapter_fitting.specs.declared.fault.FitFault.TheVariants as faults
use Rattle.adapter_fitting.specs.Faults.{◌>>=◌, Gives, Fitted, Told, of_section, of_sections, of_stop, of_build}

-- ---- a call that gives a fault on

pub read_exits : {X Y : Type 0} (view : X → Y) (r : Result X Stop) (e : Stop) (read : Result Y Refusal) → IsErrAnd r (λ y. y ≡ e) → Gives view (Err e) read → Gives view r read
read_exits view (Ok x) e read h g = absurd h
read_exits view (Err y) e read h g = subst (λ (d : Stop). Gives view (Err d) read) (sym h) g

pub fit_exits : {X : Type 0} (view : X → List ℕ) (r : Result (Option X) FitFault) (e : FitFault) (read : Result (Option Encoding) Refusal) → IsErrAnd r (λ y. y ≡ e) → Fitted view (Err e) read → Fitted view r read
fit_exits view (Ok x) e read h g = absurd h
fit_exits view (Err y) e read h g = subst (λ (d : FitFault). Fitted view (Err d) read) (sym h) g

pub told_exits : (r : Result Bool FitFault) (e : FitFault) (read : Result Bool Refusal) → IsErrAnd r (λ y. y ≡ e) → Told (Err e) read → Told r read
told_exits (Ok x) e read h g = absurd h
told_exits (Err y) e read h g = subst (λ (d : FitFault). Told (Err d) read) (sym h) g

-- ---- reading that was stopped

-- what comes after it isn't reached
pub stops_then : {X Y Z W : Type 0} (view : X → Y) (other : Z → W) (e : Stop) (read : Result Y Refusal) (next : Y → Result W Refusal) → Gives view (Err e) read → Gives other (Err e) (read >>= next)
stops_then view other stops.Memory read next g = tt
stops_then view other (stops.Refused r) read next g = ap (λ x. x >>= next) g

pub fit_stops : {X Y Z : Type 0} (view : X → Y) (other : Z → List ℕ) (e : Stop) (read : Result Y Refusal) (next : Y → Result (Option Encoding) Refusal) → Gives view (Err e) read → Fitted other (Err (of_stop e)) (read >>= next)
fit_stops view other stops.Memory read next g = tt
fit_stops view other (stops.Refused r) read next g = ap (λ x. x >>= next) g

pub told_stops : {X Y : Type 0} (view : X → Y) (e : Stop) (read : Result Y Refusal) (next : Y → Result Bool Refusal) → Gives view (Err e) read → Told (Err (of_stop e)) (read >>= next)
told_stops view stops.Memory read next g = tt
told_stops view (stops.Refused r) read next g = ap (λ x. x >>= next) g

-- ---- sections that can't be read

pub unread_sections : {X Y Z W : Type 0} (view : X → Y) (other : Z → W) (e : SectionFault) (read : Result Y SectionFault) (next : Y → Result W Refusal) → GivesSections view (Err e) read → Gives other (Err (of_section e)) (of_sections read >>= next)
unread_sections view other sections.Memory read next g = tt
unread_sections view other sections.NotModule read next g = ap (λ x. of_sections x >>= next) (g (λ q. absurd cc))
unread_sections view other (sections.Section place) read next g = ap (λ x. of_sections x >>= next) (g (λ q. absurd cc))
unread_sections view other sections.PackageBinary read next g = ap (λ x. of_sections x >>= next) (g (λ q. absurd cc))

pub fit_unread : {X Y Z : Type 0} (view : X → Y) (other : Z → List ℕ) (e : SectionFault) (read : Result Y SectionFault) (next : Y → Result (Option Encoding) Refusal) → GivesSections view (Err e) read → Fitted other (Err (of_stop (of_section e))) (of_sections read >>= next)
fit_unread view other sections.Memory read next g = tt
fit_unread view other sections.NotModule read next g = ap (λ x. of_sections x >>= next) (g (λ q. absurd cc))
fit_unread view other (sections.Section place) read next g = ap (λ x. of_sections x >>= next) (g (λ q. absurd cc))
fit_unread view other sections.PackageBinary read next g = ap (λ x. of_sections x >>= next) (g (λ q. absurd cc))

pub told_unread : {X Y : Type 0} (view : X → Y) (e : SectionFault) (read : Result Y SectionFault) (next : Y → Result Bool Refusal) → GivesSections view (Err e) read → Told (Err (of_stop (of_section e))) (of_sections read >>= next)
told_unread view sections.Memory read next g = tt
told_unread view sections.NotModule read next g = ap (λ x. of_sections x >>= next) (g (λ q. absurd cc))
told_unread view (sections.Section place) read next g = ap (λ x. of_sections x >>= next) (g (λ q. absurd cc))
told_unread view sections.PackageBinary read next g = ap (λ x. of_sections x >>= next) (g (λ q. absurd cc))

-- ---- what was written, or refused to be

pub fit_written : {X : Type 0} (view : X → List ℕ) (x : X) (e : Encoding) (read : Result (Option Encoding) Refusal) → read ≡ Ok (Some e) → view x ≡ e.bytes → Fits e.counts → Fitted view (Ok (Some x)) read
fit_written view x e read h b f = (e, h, b, f)

pub fit_refused : {X : Type 0} (view : X → List ℕ) (b : BuildFault) (e : Encoding) (read : Result (Option Encoding) Refusal) → read ≡ Ok (Some e) → Refused e.counts b → Fitted view (Err (of_build b)) read
fit_refused view builds.Memory e read h r = tt
fit_refused view (builds.TooMany n) e read h r = (e, h, r.0, r.1)
