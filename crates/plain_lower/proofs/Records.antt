-- When decoding is refused: a refusal has a cause, and what is decoded has none.
use Rattle.std.proofs.Common.{◌≡◌, ◌⊎◌, inl, inr, arith, ℕ, Bool, true, false, cond, ◌||◌, List, [], ◌∷◌, ◌++◌, Result, Ok, Err, refl, sym, ap, subst, ◌∙◌, true≢false}
use Rattle.std.specs.Prelude.{◌≢◌, Contains, IfOk, IfErr, IsOk}
use Rattle.std.specs.Result.{IsErrAnd}
use Rattle.std.specs.List.{AllZip, AllByRecursion, flat_map, list_any}
use Rattle.std.proofs.lemmas.List.Elements.{Contains-append_right}
use Rattle.comp_lists.proofs.Lists.{AllByRecursion-contains}
use Rattle.core_sections.specs.declared.fault.SectionFault.{SectionFault}
use Rattle.core_sections.specs.declared.fault.SectionFault.TheVariants as section_faults
use Rattle.core_sections.specs.Sections.{◌>>=◌ as ◌>>>=◌, Piece, preamble, pieces_of}
use Rattle.core_sections.specs.Stripping.{kept, removed, is_package, stripped}
use Rattle.core_sections.specs.Grammar.{IsModule}
use Rattle.core_sections.proofs.Modules.{module_takes, module_again}
use Rattle.core_sections.proofs.Cuts.{is_cut}
use Rattle.core_sections.proofs.Refusals.{stripped_no_module, stripped_package, whole_is_not_cut}
use Rattle.json_paths.specs.declared.fault.Failure.{Failure as RecordFailure}
use Rattle.json_paths.specs.declared.fault.Failure.TheVariants as record_failures
use Rattle.json_paths.specs.declared.fault.Refusal.{Refusal as RecordRefusal}
use Rattle.json_paths.specs.Faults.{◌>>=◌ as ◌>>+=◌}
use Rattle.record_merge.specs.Causes.{RecordsConflict}
use Rattle.record_merge.specs.declared.bindgen.Bindgen.{Bindgen}
use Rattle.record_merge.specs.Tables.{conflict as conflict_of}
use Rattle.records.specs.Records.{record_in}
use Rattle.record_values.specs.declared.record.Record.{Record}
use Rattle.record_faults.specs.declared.fault.Failure.{Failure}
use Rattle.record_faults.specs.declared.fault.Failure.TheVariants as failures
use Rattle.record_faults.specs.declared.fault.Refusal.{Refusal}
use Rattle.record_faults.specs.declared.fault.Refusal.TheVariants as refusals
use Rattle.record_faults.specs.declared.fault.PlainFault.{PlainFault}
use Rattle.record_faults.specs.Faults.{lifted, of_section, of_record, of_record_refusal, flat, flat_refusal}
use Rattle.plain_lower.specs.ModuleRecords.{records_in}
use Rattle.plain_lower.specs.Causes.{SaidCause, misread, conflicting, AreApart, DecodeCause, not_module, cut, binary, misspelt, conflict}
use Rattle.record_faults.proofs.Chains.{refused, same_refusal}

abbrev IsRead : List ℕ → Record → Type 0
IsRead text r = record_in text ≡ Ok r

-- ---- sections

any_split : (xs : List (List ℕ)) → list_any is_package xs ≡ true → (x : List ℕ) × Contains xs x × (is_package x ≡ true)
any_split [] h = absurd (true≢false (sym h))
any_split (x ∷ xs) h = by (is_package x) refl h (λ k. any_split xs k)
  where
    by : (b : Bool) → is_package x ≡ b → (b || list_any is_package xs) ≡ true → (list_any is_package xs ≡ true → (y : List ℕ) × Contains xs y × (is_package y ≡ true)) → (y : List ℕ) × Contains (x ∷ xs) y × (is_package y ≡ true)
    by true is h more = (x, Contains-append_right [] (x ∷ xs) x (0, omega arith, refl), is)
    by false is h more = let k = more h in (k.0, Contains-append_right (x ∷ []) xs k.0 k.1, k.2)

none_of : (xs : List (List ℕ)) → list_any is_package xs ≡ false → AllByRecursion (λ x. is_package x ≡ false) xs
none_of [] h = tt
none_of (x ∷ xs) h = by (is_package x) refl h (λ k. none_of xs k)
  where
    by : (b : Bool) → is_package x ≡ b → (b || list_any is_package xs) ≡ false → (list_any is_package xs ≡ false → AllByRecursion (λ y. is_package y ≡ false) xs) → AllByRecursion (λ y. is_package y ≡ false) (x ∷ xs)
    by true is h more = absurd (true≢false h)
    by false is h more = (is, more h)

unlifted : {A : Type 0} (r : Result A SectionFault) (x : A) → lifted r ≡ Ok x → r ≡ Ok x
unlifted (Ok y) x e = cc
unlifted (Err f) x e = absurd cc

section_caused : (bytes : List ℕ) (f : SectionFault) (r : Refusal) → stripped bytes ≡ Err f → of_section f ≡ failures.Refused r → DecodeCause bytes (flat_refusal r)
section_caused bytes section_faults.Memory r e h = absurd cc
section_caused bytes section_faults.NotModule r e h =
    subst (λ (x : Refusal). DecodeCause bytes (flat_refusal x)) (same_refusal refusals.NotModule r h) (not_module (stripped_no_module bytes e))
section_caused bytes (section_faults.Section place) r e h =
    subst (λ (x : Refusal). DecodeCause bytes (flat_refusal x)) (same_refusal (refusals.Section place) r h)
    (cut place (is_cut (λ (s : List ℕ × List (List ℕ)). s) bytes (Err (section_faults.Section place)) (λ _. e) place refl))
section_caused bytes section_faults.PackageBinary r e h =
    let p = stripped_package bytes e in
    let t = any_split (removed p.0) p.2 in
    subst (λ (x : Refusal). DecodeCause bytes (flat_refusal x)) (same_refusal refusals.PackageBinary r h) (binary t.0 (record { pieces = p.0; whole = p.1; there = t.1 }) t.2)

lifted_caused : (bytes : List ℕ) (r : Refusal) → lifted (stripped bytes) ≡ refused r → DecodeCause bytes (flat_refusal r)
lifted_caused bytes r e = by (stripped bytes) refl e
  where
    by : (s : Result (List ℕ × List (List ℕ)) SectionFault) → stripped bytes ≡ s → lifted s ≡ refused r → DecodeCause bytes (flat_refusal r)
    by (Ok x) is e = absurd cc
    by (Err f) is e = section_caused bytes f r is (cc (e))

ended : (b : Bool) (s t : List ℕ × List (List ℕ)) → cond b (Err section_faults.PackageBinary) (Ok s) ≡ Ok t → (b ≡ false) × (s ≡ t)
ended true s t e = absurd cc
ended false s t e = (refl, cc)

taken : (bytes : List ℕ) (s : List ℕ × List (List ℕ)) → stripped bytes ≡ Ok s → (ps : List Piece) × IsModule bytes ps × (list_any is_package (removed ps) ≡ false) × (s.1 ≡ removed ps)
unfolding stripped
taken bytes s e = by (pieces_of bytes) refl e
  where
    by : (r : Result (List Piece) SectionFault) → pieces_of bytes ≡ r → (r >>>= λ ps. cond (list_any is_package (removed ps)) (Err section_faults.PackageBinary) (Ok (preamble ++ kept ps, removed ps))) ≡ Ok s
        → (ps : List Piece) × IsModule bytes ps × (list_any is_package (removed ps) ≡ false) × (s.1 ≡ removed ps)
    by (Ok ps) is e =
        let g = ended (list_any is_package (removed ps)) (preamble ++ kept ps, removed ps) s e in
        (ps, module_takes bytes ps is, g.0, ap (λ (p : List ℕ × List (List ℕ)). p.1) (sym g.1))
    by (Err f) is e = absurd cc

same_pieces : (bytes : List ℕ) (ps qs : List Piece) → IsModule bytes ps → IsModule bytes qs → ps ≡ qs
same_pieces bytes ps qs a b = let both : Ok ps ≡ Ok qs = sym (module_again bytes ps a) ∙ module_again bytes qs b in cc (both)

-- ---- records

-- what is read from a first text and from the others
one_more : (x : Result Record RecordFailure) (rest : Result (List Record) RecordFailure) (rs : List Record) → (x >>+= λ r. rest >>+= λ more. Ok (r ∷ more)) ≡ Ok rs
    → (r : Record) × (more : List Record) × (x ≡ Ok r) × (rest ≡ Ok more) × (r ∷ more ≡ rs)
one_more (Ok r) (Ok more) rs e = (r, more, refl, refl, cc (e))
one_more (Ok r) (Err f) rs e = absurd cc
one_more (Err f) rest rs e = absurd cc

each_read : (texts : List (List ℕ)) (rs : List Record) → records_in texts ≡ Ok rs → AllZip IsRead texts rs
each_read [] [] e = tt
each_read [] (r ∷ rs) e = absurd cc
each_read (t ∷ texts) rs e =
    let a = one_more (record_in t) (records_in texts) rs e in
    subst (λ (xs : List Record). AllZip IsRead (t ∷ texts) xs) a.4 (a.2, each_read texts a.1 a.3)

none_misspelt : (texts : List (List ℕ)) (rs : List Record) → AllZip IsRead texts rs → AllByRecursion (λ text. (r : Record) × (record_in text ≡ Ok r)) texts
none_misspelt [] [] h = tt
none_misspelt (t ∷ texts) (r ∷ rs) h = ((r, h.0), none_misspelt texts rs h.1)
none_misspelt [] (r ∷ rs) h = absurd h
none_misspelt (t ∷ texts) [] h = absurd h

same_lists : (texts : List (List ℕ)) (rs qs : List Record) → AllZip IsRead texts rs → AllZip IsRead texts qs → rs ≡ qs
same_lists [] [] [] h k = refl
same_lists [] (r ∷ rs) qs h k = absurd h
same_lists [] [] (q ∷ qs) h k = absurd k
same_lists (t ∷ texts) [] qs h k = absurd h
same_lists (t ∷ texts) (r ∷ rs) [] h k = absurd k
same_lists (t ∷ texts) (r ∷ rs) (q ∷ qs) h k =
    let one : Ok r ≡ Ok q = sym h.0 ∙ k.0 in
    let first : r ≡ q = cc (one) in
    ap (λ (x : Record). x ∷ rs) first ∙ ap (λ (xs : List Record). q ∷ xs) (same_lists texts rs qs h.1 k.1)

-- where reading stops
first_stop : (x : Result Record RecordFailure) (rest : Result (List Record) RecordFailure) (d : RecordFailure) → (x >>+= λ r. rest >>+= λ more. Ok (r ∷ more)) ≡ Err d → (x ≡ Err d) ⊎ (rest ≡ Err d)
first_stop (Ok r) (Ok more) d e = absurd cc
first_stop (Ok r) (Err f) d e = inr (cc (e))
first_stop (Err f) rest d e = inl (cc (e))

stops : (texts : List (List ℕ)) (r : RecordRefusal) → records_in texts ≡ Err (record_failures.Refused r) → (text : List ℕ) × Contains texts text × (record_in text ≡ Err (record_failures.Refused r))
stops [] r e = absurd cc
stops (t ∷ texts) r e =
    elim (first_stop (record_in t) (records_in texts) (record_failures.Refused r) e) [
      | inl h ↦ (t, Contains-append_right [] (t ∷ texts) t (0, omega arith, refl), h)
      | inr h ↦ let s = stops texts r h in (s.0, Contains-append_right (t ∷ []) texts s.0 s.1, s.2)
    ]

-- ---- decoding

-- a failure to read or to merge the module's records is a cause
pub said_caused : (bytes : List ℕ) (s : List ℕ × List (List ℕ)) (e : RecordFailure) → stripped bytes ≡ Ok s → SaidCause s.1 e → (e ≢ record_failures.Memory) → DecodeCause bytes (flat (of_record e))
said_caused bytes s record_failures.Memory is c other = absurd (other refl)
said_caused bytes s (record_failures.Refused r) is c other =
    let t = taken bytes s is in by t.0 t.1 t.3 c
  where
    by : (ps : List Piece) → IsModule bytes ps → s.1 ≡ removed ps → SaidCause s.1 (record_failures.Refused r) → DecodeCause bytes (flat_refusal (of_record_refusal r))
    by ps m are (misread e) =
        let x = stops s.1 r e in
        misspelt x.0 r (record { pieces = ps; whole = m; there = subst (λ (xs : List (List ℕ)). Contains xs x.0) are x.1 }) x.2
    by ps m are (conflicting records name read_so c reported) =
        let whole : AllZip IsRead (removed ps) records = subst (λ (xs : List (List ℕ)). AllZip IsRead xs records) are (each_read s.1 records read_so) in
        let is_r : of_record (conflict_of name) ≡ of_record (record_failures.Refused r) = ap of_record (sym reported) in
        subst (λ (f : Failure). DecodeCause bytes (flat f)) is_r (conflict records name (record { pieces = ps; whole = m; read = whole }) c)

-- a refusal of the sections has a cause
pub sections_caused : (bytes : List ℕ) (f : SectionFault) → (f ≢ section_faults.Memory → stripped bytes ≡ Err f) → (of_section f ≢ failures.Memory) → DecodeCause bytes (flat (of_section f))
sections_caused bytes f h other = by (of_section f) refl
  where
    by : (d : Failure) → of_section f ≡ d → DecodeCause bytes (flat d)
    by failures.Memory is = absurd (other is)
    by (failures.Refused r) is = section_caused bytes f r (h (λ m. other (ap of_section m))) is

-- what was read and merged has no cause of a refusal
pub no_cause : (bytes : List ℕ) (s : List ℕ × List (List ℕ)) (rs : List Record) → stripped bytes ≡ Ok s → records_in s.1 ≡ Ok rs → ((name : List ℕ) → RecordsConflict rs name → ⊥)
    → (f : PlainFault) → DecodeCause bytes f → ⊥
no_cause bytes s rs is read_so apart f c = let t = taken bytes s is in by t.0 t.1 t.2 t.3 f c
  where
    by : (ps : List Piece) → IsModule bytes ps → list_any is_package (removed ps) ≡ false → s.1 ≡ removed ps → (f : PlainFault) → DecodeCause bytes f → ⊥
    by ps m clean are f (not_module none) = none (flat_map (λ p. p.whole) ps) m.encoded
    by ps m clean are f (cut place c) = whole_is_not_cut bytes ps place m c
    by ps m clean are f (binary text x is) =
        let there : Contains (removed ps) text = subst (λ (qs : List Piece). Contains (removed qs) text) (same_pieces bytes x.pieces ps x.whole m) x.there in
        true≢false (sym is ∙ AllByRecursion-contains (λ t. is_package t ≡ false) (removed ps) text (none_of (removed ps) clean) there)
    by ps m clean are f (misspelt text r x is) =
        let there : Contains (removed ps) text = subst (λ (qs : List Piece). Contains (removed qs) text) (same_pieces bytes x.pieces ps x.whole m) x.there in
        let all : AllZip IsRead (removed ps) rs = subst (λ (xs : List (List ℕ)). AllZip IsRead xs rs) are (each_read s.1 rs read_so) in
        let t = AllByRecursion-contains (λ t. (r : Record) × (record_in t ≡ Ok r)) (removed ps) text (none_misspelt (removed ps) rs all) there in
        let clash : Ok t.0 ≡ Err (record_failures.Refused r) = sym t.1 ∙ is in cc
    by ps m clean are f (conflict records name x c) =
        let all : AllZip IsRead (removed ps) rs = subst (λ (xs : List (List ℕ)). AllZip IsRead xs rs) are (each_read s.1 rs read_so) in
        let same : records ≡ rs = same_lists (removed ps) records rs (subst (λ (qs : List Piece). AllZip IsRead (removed qs) records) (same_pieces bytes x.pieces ps x.whole m) x.read) all in
        apart name (subst (λ (qs : List Record). RecordsConflict qs name) same c)

-- ---- the steps, as calls return them

pub said_by_reading : {A : Type 0} (texts : List (List ℕ)) (r : Result A RecordFailure) (d : RecordFailure) → IsErrAnd r (λ e. e ≡ d) → (d ≢ record_failures.Memory → records_in texts ≡ Err d)
    → IfErr r (λ e. e ≢ record_failures.Memory → SaidCause texts e)
said_by_reading texts (Ok x) d is h = tt
said_by_reading texts (Err e) d is h = subst (λ (x : RecordFailure). x ≢ record_failures.Memory → SaidCause texts x) (sym is) (λ other. misread (h other))

pub said_by_merging : (texts : List (List ℕ)) (records : List Record) (r : Result Bindgen RecordFailure) → records_in texts ≡ Ok records
    → IfErr r (λ e. e ≢ record_failures.Memory → (name : List ℕ) × (e ≡ conflict_of name) × RecordsConflict records name) → IfErr r (λ e. e ≢ record_failures.Memory → SaidCause texts e)
said_by_merging texts records (Ok b) are h = tt
said_by_merging texts records (Err e) are h = λ other. let c = h other in conflicting records c.0 are c.2 c.1

pub said_apart : (texts : List (List ℕ)) (records : List Record) (r : Result Bindgen RecordFailure) → records_in texts ≡ Ok records
    → (IsOk r → (name : List ℕ) → RecordsConflict records name → ⊥) → IfOk r (λ _. AreApart texts)
said_apart texts records (Ok b) are h = record { records = records; are_read = are; no_conflict = h refl }
said_apart texts records (Err e) are h = tt

-- ---- decoding, with the texts as the calls pass them on

pub decode_caused : (bytes kept : List ℕ) (texts held : List (List ℕ)) (e : RecordFailure) → stripped bytes ≡ Ok (kept, held) → texts ≡ held → (e ≢ record_failures.Memory → SaidCause texts e)
    → (of_record e ≢ failures.Memory) → DecodeCause bytes (flat (of_record e))
decode_caused bytes kept texts held e is same h other =
    let not_memory : e ≢ record_failures.Memory = λ m. other (ap of_record m) in
    said_caused bytes (kept, held) e is (subst (λ (ts : List (List ℕ)). SaidCause ts e) same (h not_memory)) not_memory

pub decode_has_none : (bytes kept : List ℕ) (texts held : List (List ℕ)) → stripped bytes ≡ Ok (kept, held) → texts ≡ held → AreApart texts → (f : PlainFault) → DecodeCause bytes f → ⊥
decode_has_none bytes kept texts held is same a f c =
    no_cause bytes (kept, held) a.records is (ap records_in (sym same) ∙ a.are_read) a.no_conflict f c
