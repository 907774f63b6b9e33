-- A module that is read, and then written, if something is to be written.
use Rattle.std.proofs.Common.{◌≡◌, ◌∙◌, ℕ, List, [], ◌++◌, Option, Some, None, Result, Ok, Err, refl, sym, ap, subst}
use Rattle.byte_encoding.specs.Encoding.{Encoding, Fits}
use Rattle.byte_encoding.specs.Written.{Refused}
use Rattle.byte_encoding.specs.declared.fault.BuildFault.{BuildFault}
use Rattle.core_sections.specs.Sections.{Piece}
use Rattle.core_sections.specs.declared.fault.SectionFault.{SectionFault}
use Rattle.core_parts.specs.declared.exports.ExportedIndex.{ExportedIndex}
use Rattle.adapter_fitting.specs.declared.fault.Refusal.{Refusal}
use Rattle.adapter_fitting.specs.declared.fault.Stop.{Stop}
use Rattle.adapter_fitting.specs.declared.fault.FitFault.{FitFault}
use Rattle.adapter_fitting.specs.declared.indices.Indices.{Indices}
use Rattle.adapter_fitting.specs.Faults.{◌>>=◌, Gives, Fitted, of_sections, of_stop, of_build}
use Rattle.adapter_fitting.specs.Places.{Placed, placed}
use Rattle.adapter_fitting.specs.Fitting.{exports_of}
use Rattle.adapter_fitting.proofs.Chains.{fit_stops, fit_written, fit_refused}

-- ---- what is needed, and what comes of it

abbrev pub chain : {A : Type 0} → (List Placed → Result (Option A) Refusal) → (List Piece → Option A → Result (Option Encoding) Refusal) → Result (List Piece) SectionFault → Result (Option Encoding) Refusal
chain needed next pieces = of_sections pieces >>= λ ps. needed (placed 8 ps) >>= next ps

by_pieces : {A : Type 0} (needed : List Placed → Result (Option A) Refusal) (next : List Piece → Option A → Result (Option Encoding) Refusal) (pieces : Result (List Piece) SectionFault) (ps : List Piece) (ss : List Placed)
    → pieces ≡ Ok ps → ss ≡ placed 8 ps → (needed ss >>= next ps) ≡ chain needed next pieces
by_pieces needed next pieces ps ss e s = ap (λ z. needed z >>= next ps) s ∙ ap (λ r. of_sections r >>= λ qs. needed (placed 8 qs) >>= next qs) (sym e)

pub stopped : {A X Y : Type 0} (view : X → Option A) (other : Y → List ℕ) (f : Stop) (needed : List Placed → Result (Option A) Refusal) (next : List Piece → Option A → Result (Option Encoding) Refusal) (pieces : Result (List Piece) SectionFault) (ps : List Piece) (ss : List Placed)
    → pieces ≡ Ok ps → ss ≡ placed 8 ps → Gives view (Err f) (needed ss) → Fitted other (Err (of_stop f)) (chain needed next pieces)
stopped view other f needed next pieces ps ss e s g =
    subst (λ (r : Result (Option Encoding) Refusal). Fitted other (Err (of_stop f)) r) (by_pieces needed next pieces ps ss e s) (fit_stops view other f (needed ss) (next ps) g)

pub nothing : {A Y : Type 0} (other : Y → List ℕ) (needed : List Placed → Result (Option A) Refusal) (next : List Piece → Option A → Result (Option Encoding) Refusal) (pieces : Result (List Piece) SectionFault) (ps : List Piece) (ss : List Placed)
    → pieces ≡ Ok ps → ss ≡ placed 8 ps → needed ss ≡ Ok None → next ps None ≡ Ok None → Fitted other (Ok None) (chain needed next pieces)
nothing other needed next pieces ps ss e s n none = sym (by_pieces needed next pieces ps ss e s) ∙ ap (λ r. r >>= next ps) n ∙ none

pub something : {A Y : Type 0} (other : Y → List ℕ) (result : Result (Option Y) FitFault) (needed : List Placed → Result (Option A) Refusal) (next : List Piece → Option A → Result (Option Encoding) Refusal) (pieces : Result (List Piece) SectionFault) (ps : List Piece) (ss : List Placed) (x : A)
    → pieces ≡ Ok ps → ss ≡ placed 8 ps → needed ss ≡ Ok (Some x) → Fitted other result (next ps (Some x)) → Fitted other result (chain needed next pieces)
something other result needed next pieces ps ss x e s n w =
    subst (λ (r : Result (Option Encoding) Refusal). Fitted other result r) (ap (λ r. r >>= next ps) (sym n) ∙ by_pieces needed next pieces ps ss e s) w

-- ---- what is written, once the exports are known

abbrev pub with_exports : ℕ → Indices → (List ExportedIndex → Encoding) → List Placed → Result (Option Encoding) Refusal
with_exports end_place x written ss = exports_of end_place x ss >>= λ es. Ok (Some (written es))

pub no_exports : {X Y : Type 0} (view : X → List ExportedIndex) (other : Y → List ℕ) (f : Stop) (end_place : ℕ) (x : Indices) (written : List ExportedIndex → Encoding) (ss all : List Placed) → ss ≡ all
    → Gives view (Err f) (exports_of end_place x ss) → Fitted other (Err (of_stop f)) (with_exports end_place x written all)
no_exports view other f end_place x written ss all s g =
    subst (λ (z : List Placed). Fitted other (Err (of_stop f)) (with_exports end_place x written z)) s (fit_stops view other f (exports_of end_place x ss) (λ es. Ok (Some (written es))) g)

made : (end_place : ℕ) (x : Indices) (written : List ExportedIndex → Encoding) (ss all : List Placed) (es : List ExportedIndex) → ss ≡ all → exports_of end_place x ss ≡ Ok es → with_exports end_place x written all ≡ Ok (Some (written es))
made end_place x written ss all es s e = ap (with_exports end_place x written) (sym s) ∙ ap (λ r. r >>= λ ds. Ok (Some (written ds))) e

pub not_written : {Y : Type 0} (other : Y → List ℕ) (b : BuildFault) (end_place : ℕ) (x : Indices) (written : List ExportedIndex → Encoding) (ss all : List Placed) (es : List ExportedIndex) → ss ≡ all → exports_of end_place x ss ≡ Ok es
    → Refused (written es).counts b → Fitted other (Err (of_build b)) (with_exports end_place x written all)
not_written other b end_place x written ss all es s e r = fit_refused other b (written es) (with_exports end_place x written all) (made end_place x written ss all es s e) r

pub all_written : {Y : Type 0} (other : Y → List ℕ) (out : Y) (old : List ℕ) (end_place : ℕ) (x : Indices) (written : List ExportedIndex → Encoding) (ss all : List Placed) (es : List ExportedIndex) → ss ≡ all → exports_of end_place x ss ≡ Ok es
    → old ≡ [] → (other out ≡ old ++ (written es).bytes) × Fits (written es).counts → Fitted other (Ok (Some out)) (with_exports end_place x written all)
all_written other out old end_place x written ss all es s e o w =
    fit_written other out (written es) (with_exports end_place x written all) (made end_place x written ss all es s e) (w.0 ∙ ap (λ (l : List ℕ). l ++ (written es).bytes) o) w.1
