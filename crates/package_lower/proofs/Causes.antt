-- When decoding is refused: a refusal has a cause, and what is decoded has none.
use Rattle.std.proofs.Common.{◌≡◌, ◌⊎◌, inl, inr, arith, ℕ, zero, suc, ◌+◌, Bool, true, false, cond, ◌||◌, List, [], ◌∷◌, ◌++◌, map, length, Option, Some, None, Result, Ok, Err, refl, sym, ap, subst, ◌∙◌, true≢false}
use Rattle.std.specs.Prelude.{⊤, ◌≢◌, IfErr, is_some, slice_get, if◌then◌else◌}
use Rattle.std.specs.Result.{IsErrAnd}
use Rattle.std.specs.List.{flat_map, list_any}
use Rattle.std.specs.Map.{lookup}
use Rattle.std.specs.Str.{bytes_eq}
use Rattle.std.proofs.lemmas.List.{length-append}
use Rattle.core_sections.specs.declared.core_module.CoreModule.{CoreModule}
use Rattle.core_sections.specs.declared.entries.CoreImport.{CoreImport}
use Rattle.core_sections.specs.declared.entries.ExportedItem.{ExportedItem}
use Rattle.core_sections.specs.declared.fault.SectionFault.{SectionFault}
use Rattle.core_sections.specs.declared.fault.SectionFault.TheVariants as section_faults
use Rattle.core_sections.specs.Entries.{module_of}
use Rattle.core_sections.specs.Grammar.{IsModule}
use Rattle.core_sections.specs.Sections.{◌>>=◌ as ◌>>>=◌, Piece, preamble, pieces_of}
use Rattle.core_sections.specs.Stripping.{kept, removed, is_package, stripped}
use Rattle.core_sections.proofs.Cuts.{is_cut}
use Rattle.core_sections.proofs.Modules.{module_takes, module_again}
use Rattle.core_sections.proofs.Refusals.{stripped_no_module, stripped_package, whole_is_not_cut}
use Rattle.gathered_worlds.specs.Equalities.{tests, role_tests}
use Rattle.record_faults.specs.Faults.{of_section, of_record}
use Rattle.record_faults.specs.declared.fault.Refusal.TheVariants as plain_refusals
use Rattle.record_merge.specs.Causes.{RecordsConflict}
use Rattle.record_merge.specs.declared.bindgen.Bindgen.{Bindgen}
use Rattle.record_merge.specs.declared.bindgen.Roles.{Roles}
use Rattle.record_merge.specs.ModuleRecords.{bindgen_of}
use Rattle.record_merge.specs.Tables.{conflict as conflict_of}
use Rattle.record_values.specs.declared.record.Record.{Record}
use Rattle.record_values.specs.declared.roles.ExportRole.{ExportRole}
use Rattle.record_values.specs.declared.roles.ImportRole.{ImportRole}
use Rattle.record_values.specs.Names.{is_same_import}
use Rattle.world_names.specs.declared.tables.WorldNames.{WorldNames}
use Rattle.world_names.specs.WorldNames.{names_of}
use Rattle.json_paths.specs.declared.fault.Failure.{Failure as RecordFailure}
use Rattle.json_paths.specs.declared.fault.Failure.TheVariants as record_failures
use Rattle.package_lower.specs.declared.fault.Failure.{Failure}
use Rattle.package_lower.specs.declared.fault.Failure.TheVariants as failures
use Rattle.package_lower.specs.declared.fault.LowerFault.{LowerFault}
use Rattle.package_lower.specs.declared.fault.Refusal.{Refusal}
use Rattle.package_lower.specs.declared.fault.Refusal.TheVariants as refusals
use Rattle.package_lower.specs.Faults.{◌>>=◌, Gives, lifted, read, of_plain, flat}
use Rattle.package_lower.specs.Sections.{divided, once_after}
use Rattle.package_lower.specs.Reading.{of_text, text_step, records_after}
use Rattle.package_lower.specs.Roles.{Imports, Exports, import_name, named_import, named_export, import_step, export_step, imports_after, exports_after, with_role, with_export_role}
use Rattle.package_lower.specs.Decoding.{said_in, names_count, with_named, named, with_names, said_of, decoding}
use Rattle.package_lower.specs.Causes.{SaidCause, unreadable, conflicting, AreApart, SaidOfCause, of_texts, of_names, distinct, IsMisread, AreRecords, AreNamesRead, IsImportMisread, IsExportMisread, DecodeCause, not_module, cut, misread, conflict, unread, import_misread, export_misread}

-- ---- chains of steps

abbrev refused : {A : Type 0} → Refusal → Result A Failure
refused r = Err (failures.Refused r)

same_refusal : (a b : Refusal) → failures.Refused a ≡ failures.Refused b → a ≡ b
same_refusal a b e = cc

bind_ok : {A B : Type 0} (r : Result A Failure) (f : A → Result B Failure) (y : B) → (r >>= f) ≡ Ok y → (x : A) × (r ≡ Ok x) × (f x ≡ Ok y)
bind_ok (Ok x) f y e = (x, refl, e)
bind_ok (Err d) f y e = absurd cc

bind_err : {A B : Type 0} (r : Result A Failure) (f : A → Result B Failure) (d : Failure) → (r >>= f) ≡ Err d → (r ≡ Err d) ⊎ ((x : A) × (r ≡ Ok x) × (f x ≡ Err d))
bind_err (Ok x) f d e = inr (x, refl, e)
bind_err (Err c) f d e = inl cc

bound : {A B : Type 0} (r : Result A Failure) (f : A → Result B Failure) (x : A) → r ≡ Ok x → (r >>= f) ≡ f x
bound r f x e = ap (λ (q : Result _ Failure). q >>= f) e

same_ok : {A E : Type 0} (r : Result A E) (x y : A) → r ≡ Ok x → r ≡ Ok y → x ≡ y
same_ok r x y a b = let both : Ok x ≡ Ok y = sym a ∙ b in cc (both)

clash : {A : Type 0} (r : Result A Failure) (x : A) (d : Failure) → r ≡ Ok x → r ≡ Err d → ⊥
clash r x d a b = let both : Ok x ≡ Err d = sym a ∙ b in cc

-- ---- sections

stripped_err : (bytes : List ℕ) (f : SectionFault) → pieces_of bytes ≡ Err f → stripped bytes ≡ Err f
unfolding stripped
stripped_err bytes f e = ap (λ (r : Result (List Piece) SectionFault). r >>>= λ ps. cond (list_any is_package (removed ps)) (Err section_faults.PackageBinary) (Ok (preamble ++ kept ps, removed ps))) e

section_caused : (older : Bool) (bytes : List ℕ) (f : SectionFault) (r : Refusal) → pieces_of bytes ≡ Err f → of_plain (of_section f) ≡ failures.Refused r → DecodeCause older bytes (flat (failures.Refused r))
section_caused older bytes section_faults.Memory r e h = absurd cc
section_caused older bytes section_faults.NotModule r e h =
    subst (λ (x : Refusal). DecodeCause older bytes (flat (failures.Refused x))) (same_refusal (refusals.Plain plain_refusals.NotModule) r h)
    (not_module (stripped_no_module bytes (stripped_err bytes section_faults.NotModule e)))
section_caused older bytes (section_faults.Section place) r e h =
    let s = stripped_err bytes (section_faults.Section place) e in
    subst (λ (x : Refusal). DecodeCause older bytes (flat (failures.Refused x))) (same_refusal (refusals.Plain (plain_refusals.Section place)) r h)
    (cut place (is_cut (λ (s : List ℕ × List (List ℕ)). s) bytes (Err (section_faults.Section place)) (λ _. s) place refl))
section_caused older bytes section_faults.PackageBinary r e h =
    let p = stripped_package bytes (stripped_err bytes section_faults.PackageBinary e) in
    let both : Ok p.0 ≡ Err section_faults.PackageBinary = sym (module_again bytes p.0 p.1) ∙ e in
    absurd cc

lifted_err : {A : Type 0} (r : Result A SectionFault) (x : Refusal) → lifted r ≡ refused x → (f : SectionFault) × (r ≡ Err f) × (of_plain (of_section f) ≡ failures.Refused x)
lifted_err (Ok y) x e = absurd cc
lifted_err (Err f) x e = (f, refl, cc (e))

lifted_ok : {A : Type 0} (r : Result A SectionFault) (x : A) → lifted r ≡ Ok x → r ≡ Ok x
lifted_ok (Ok y) x e = cc
lifted_ok (Err f) x e = absurd cc

divided_caused : (older : Bool) (bytes : List ℕ) (x : Refusal) → divided bytes ≡ refused x → DecodeCause older bytes (flat (failures.Refused x))
unfolding divided
divided_caused older bytes x e =
    elim (bind_err (lifted (pieces_of bytes)) (λ ps. Ok (preamble ++ kept ps, removed ps)) (failures.Refused x) e) [
      | inl h ↦ let l = lifted_err (pieces_of bytes) x h in section_caused older bytes l.0 x l.1 l.2
      | inr a ↦ absurd cc
    ]

divided_pieces : (bytes : List ℕ) (d : List ℕ × List (List ℕ)) → divided bytes ≡ Ok d → (ps : List Piece) × IsModule bytes ps × (d.1 ≡ removed ps)
unfolding divided
divided_pieces bytes d e =
    let t = bind_ok (lifted (pieces_of bytes)) (λ ps. Ok (preamble ++ kept ps, removed ps)) d e in
    let same : (preamble ++ kept t.0, removed t.0) ≡ d = cc (t.2) in
    (t.0, module_takes bytes t.0 (lifted_ok (pieces_of bytes) t.0 t.1), ap (λ (p : List ℕ × List (List ℕ)). p.1) (sym same))

same_pieces : (bytes : List ℕ) (ps qs : List Piece) → IsModule bytes ps → IsModule bytes qs → ps ≡ qs
same_pieces bytes ps qs a b = let both : Ok ps ≡ Ok qs = sym (module_again bytes ps a) ∙ module_again bytes qs b in cc (both)

-- ---- records

abbrev firsts : List (List ℕ × ⊤) → List (List ℕ)
firsts texts = map (λ (t : List ℕ × ⊤). t.0) texts

step_stops : (rs : List Record) (text : List ℕ) (d : Failure) → text_step rs text ≡ Err d → of_text (length rs) text ≡ Err d
step_stops rs text d e =
    elim (bind_err (of_text (length rs) text) (λ r. Ok (rs ++ r ∷ [])) d e) [
      | inl h ↦ h
      | inr a ↦ absurd cc
    ]

step_reads : (rs : List Record) (text : List ℕ) (us : List Record) → text_step rs text ≡ Ok us → (r : Record) × (of_text (length rs) text ≡ Ok r) × (rs ++ r ∷ [] ≡ us)
step_reads rs text us e = let t = bind_ok (of_text (length rs) text) (λ r. Ok (rs ++ r ∷ [])) us e in (t.0, t.1, cc (t.2))

one_further : (rs us : List Record) (r : Record) (place : ℕ) → rs ++ r ∷ [] ≡ us → length us + place ≡ length rs + suc place
one_further rs us r place e = omega (arith, ap length e, length-append rs (r ∷ []))

no_further : (rs : List Record) → length rs + 0 ≡ length rs
no_further rs = omega arith

stops : (rs : List Record) (texts : List (List ℕ × ⊤)) (d : Failure) → records_after rs texts ≡ Err d
    → (place : ℕ) × (text : List ℕ) × (slice_get (firsts texts) place ≡ Some text) × (of_text (length rs + place) text ≡ Err d)
stops rs [] d e = absurd cc
stops rs (t ∷ ts) d e =
    elim (bind_err (text_step rs t.0) (λ us. records_after us ts) d e) [
      | inl h ↦ (zero, t.0, refl, ap (λ (n : ℕ). of_text n t.0) (no_further rs) ∙ step_stops rs t.0 d h)
      | inr a ↦
          let m = stops a.0 ts d a.2 in
          let s = step_reads rs t.0 a.0 a.1 in
          (suc m.0, m.1, m.2, ap (λ (n : ℕ). of_text n m.1) (sym (one_further rs a.0 s.0 m.0 s.2)) ∙ m.3)
    ]

reads : (rs : List Record) (texts : List (List ℕ × ⊤)) (us : List Record) → records_after rs texts ≡ Ok us → (place : ℕ) (text : List ℕ) → slice_get (firsts texts) place ≡ Some text
    → (r : Record) × (of_text (length rs + place) text ≡ Ok r)
reads rs [] us e place text is = absurd cc
reads rs (t ∷ ts) us e zero text is =
    let a = bind_ok (text_step rs t.0) (λ us. records_after us ts) us e in
    let s = step_reads rs t.0 a.0 a.1 in
    let same : t.0 ≡ text = cc (is) in
    (s.0, ap (λ (n : ℕ). of_text n text) (no_further rs) ∙ ap (λ (x : List ℕ). of_text (length rs) x) (sym same) ∙ s.1)
reads rs (t ∷ ts) us e (suc place) text is =
    let a = bind_ok (text_step rs t.0) (λ us. records_after us ts) us e in
    let s = step_reads rs t.0 a.0 a.1 in
    let m = reads a.0 ts us a.2 place text is in
    (m.0, ap (λ (n : ℕ). of_text n text) (sym (one_further rs a.0 s.0 place s.2)) ∙ m.1)

-- ---- names

imports_joined : (n : WorldNames) (older : Bool) (table : Imports) (is js : List CoreImport) (t : Imports) → imports_after n older table is ≡ Ok t → imports_after n older table (is ++ js) ≡ imports_after n older t js
imports_joined n older table [] js t e = let same : table ≡ t = cc (e) in ap (λ (x : Imports). imports_after n older x js) same
imports_joined n older table (i ∷ is) js t e =
    let a = bind_ok (import_step n older table i) (λ u. imports_after n older u is) t e in
    bound (import_step n older table i) (λ u. imports_after n older u (is ++ js)) a.0 a.1 ∙ imports_joined n older a.0 is js t a.2

not_some : {X : Type 0} (o : Option X) → is_some o ≡ false → o ≡ None
not_some None e = refl
not_some (Some x) e = absurd (true≢false e)

import_stops : (n : WorldNames) (older : Bool) (table : Imports) (i : CoreImport) (d : Failure) → import_step n older table i ≡ Err d
    → (lookup (is_same_import (import_name i)) table ≡ None) × (named_import n older i ≡ Err d)
import_stops n older table i d e = by (is_some (lookup (is_same_import (import_name i)) table)) refl e
  where
    by : (b : Bool) → is_some (lookup (is_same_import (import_name i)) table) ≡ b
        → (if b then Ok table else (named_import n older i >>= λ role. Ok (with_role table (import_name i) role))) ≡ Err d
        → (lookup (is_same_import (import_name i)) table ≡ None) × (named_import n older i ≡ Err d)
    by true is h = absurd cc
    by false is h =
        elim (bind_err (named_import n older i) (λ role. Ok (with_role table (import_name i) role)) d h) [
          | inl k ↦ (not_some (lookup (is_same_import (import_name i)) table) is, k)
          | inr a ↦ absurd cc
        ]

import_refused : (n : WorldNames) (older : Bool) (table : Imports) (i : CoreImport) (d : Failure) → lookup (is_same_import (import_name i)) table ≡ None → named_import n older i ≡ Err d
    → import_step n older table i ≡ Err d
import_refused n older table i d free e =
    ap (λ (b : Bool). if b then Ok table else (named_import n older i >>= λ role. Ok (with_role table (import_name i) role))) (ap is_some free)
    ∙ ap (λ (q : Result (Option ImportRole) Failure). q >>= λ role. Ok (with_role table (import_name i) role)) e

imports_stop : (n : WorldNames) (older : Bool) (table : Imports) (is : List CoreImport) (x : Refusal) → imports_after n older table is ≡ refused x → IsImportMisread n older table is x
imports_stop n older table [] x e = absurd cc
imports_stop n older table (i ∷ is) x e =
    elim (bind_err (import_step n older table i) (λ u. imports_after n older u is) (failures.Refused x) e) [
      | inl h ↦
          let s = import_stops n older table i (failures.Refused x) h in
          record { before = []; import = i; after = is; listed = refl; so_far = table; named = refl; free = s.0; refused = s.1 }
      | inr a ↦
          let m = imports_stop n older a.0 is x a.2 in
          record {
            before = i ∷ m.before;
            import = m.import;
            after = m.after;
            listed = ap (λ (js : List CoreImport). i ∷ js) m.listed;
            so_far = m.so_far;
            named = bound (import_step n older table i) (λ u. imports_after n older u m.before) a.0 a.1 ∙ m.named;
            free = m.free;
            refused = m.refused;
          }
    ]

no_import_stops : (n : WorldNames) (older : Bool) (table t : Imports) (is : List CoreImport) (x : Refusal) → imports_after n older table is ≡ Ok t → IsImportMisread n older table is x → ⊥
no_import_stops n older table t is x e m =
    let joined = imports_joined n older table m.before (m.import ∷ m.after) m.so_far m.named in
    let here : imports_after n older m.so_far (m.import ∷ m.after) ≡ refused x =
    ap (λ (q : Result Imports Failure). q >>= λ u. imports_after n older u m.after) (import_refused n older m.so_far m.import (failures.Refused x) m.free m.refused) in
    clash (imports_after n older table is) t (failures.Refused x) e (ap (λ (js : List CoreImport). imports_after n older table js) m.listed ∙ joined ∙ here)

abbrev Export : Type 0
Export = List ℕ × ExportedItem

exports_joined : (n : WorldNames) (older : Bool) (table : Exports) (is js : List Export) (t : Exports) → exports_after n older table is ≡ Ok t → exports_after n older table (is ++ js) ≡ exports_after n older t js
exports_joined n older table [] js t e = let same : table ≡ t = cc (e) in ap (λ (x : Exports). exports_after n older x js) same
exports_joined n older table (i ∷ is) js t e =
    let a = bind_ok (export_step n older table i.0 i.1) (λ u. exports_after n older u is) t e in
    bound (export_step n older table i.0 i.1) (λ u. exports_after n older u (is ++ js)) a.0 a.1 ∙ exports_joined n older a.0 is js t a.2

export_stops : (n : WorldNames) (older : Bool) (table : Exports) (name : List ℕ) (item : ExportedItem) (d : Failure) → export_step n older table name item ≡ Err d
    → (lookup (bytes_eq name) table ≡ None) × (named_export n older name item ≡ Err d)
export_stops n older table name item d e = by (is_some (lookup (bytes_eq name) table)) refl e
  where
    by : (b : Bool) → is_some (lookup (bytes_eq name) table) ≡ b
        → (if b then Ok table else (named_export n older name item >>= λ role. Ok (with_export_role table name role))) ≡ Err d
        → (lookup (bytes_eq name) table ≡ None) × (named_export n older name item ≡ Err d)
    by true is h = absurd cc
    by false is h =
        elim (bind_err (named_export n older name item) (λ role. Ok (with_export_role table name role)) d h) [
          | inl k ↦ (not_some (lookup (bytes_eq name) table) is, k)
          | inr a ↦ absurd cc
        ]

export_refused : (n : WorldNames) (older : Bool) (table : Exports) (name : List ℕ) (item : ExportedItem) (d : Failure) → lookup (bytes_eq name) table ≡ None → named_export n older name item ≡ Err d
    → export_step n older table name item ≡ Err d
export_refused n older table name item d free e =
    ap (λ (b : Bool). if b then Ok table else (named_export n older name item >>= λ role. Ok (with_export_role table name role))) (ap is_some free)
    ∙ ap (λ (q : Result (Option ExportRole) Failure). q >>= λ role. Ok (with_export_role table name role)) e

exports_stop : (n : WorldNames) (older : Bool) (table : Exports) (is : List Export) (x : Refusal) → exports_after n older table is ≡ refused x → IsExportMisread n older table is x
exports_stop n older table [] x e = absurd cc
exports_stop n older table (i ∷ is) x e =
    elim (bind_err (export_step n older table i.0 i.1) (λ u. exports_after n older u is) (failures.Refused x) e) [
      | inl h ↦
          let s = export_stops n older table i.0 i.1 (failures.Refused x) h in
          record { before = []; export = i; after = is; listed = refl; so_far = table; named = refl; free = s.0; refused = s.1 }
      | inr a ↦
          let m = exports_stop n older a.0 is x a.2 in
          record {
            before = i ∷ m.before;
            export = m.export;
            after = m.after;
            listed = ap (λ (js : List Export). i ∷ js) m.listed;
            so_far = m.so_far;
            named = bound (export_step n older table i.0 i.1) (λ u. exports_after n older u m.before) a.0 a.1 ∙ m.named;
            free = m.free;
            refused = m.refused;
          }
    ]

no_export_stops : (n : WorldNames) (older : Bool) (table t : Exports) (is : List Export) (x : Refusal) → exports_after n older table is ≡ Ok t → IsExportMisread n older table is x → ⊥
no_export_stops n older table t is x e m =
    let joined = exports_joined n older table m.before (m.export ∷ m.after) m.so_far m.named in
    let here : exports_after n older m.so_far (m.export ∷ m.after) ≡ refused x =
    ap (λ (q : Result Exports Failure). q >>= λ u. exports_after n older u m.after) (export_refused n older m.so_far m.export.0 m.export.1 (failures.Refused x) m.free m.refused) in
    clash (exports_after n older table is) t (failures.Refused x) e (ap (λ (js : List Export). exports_after n older table js) m.listed ∙ joined ∙ here)

-- roles, with those that names give
abbrev with_both : Roles → Imports → Exports → Result Roles Failure
with_both roles imports exports = Ok (record {
  import_roles = imports;
  export_roles = exports;
  import_encodings = roles.import_encodings;
  export_encodings = roles.export_encodings;
  context_slot_1 = roles.context_slot_1;
})

named_stops : (n : WorldNames) (older : Bool) (core : CoreModule) (roles : Roles) (x : Refusal) → with_named n older core roles ≡ refused x
    → IsImportMisread n older roles.import_roles core.imports x ⊎ IsExportMisread n older roles.export_roles core.exports x
unfolding with_named
named_stops n older core roles x e =
    elim (bind_err (imports_after n older roles.import_roles core.imports) (λ imports. exports_after n older roles.export_roles core.exports >>= λ exports. with_both roles imports exports) (failures.Refused x) e) [
      | inl h ↦ inl (imports_stop n older roles.import_roles core.imports x h)
      | inr a ↦
          elim (bind_err (exports_after n older roles.export_roles core.exports) (λ exports. with_both roles a.0 exports) (failures.Refused x) a.2) [
            | inl k ↦ inr (exports_stop n older roles.export_roles core.exports x k)
            | inr b ↦ absurd cc
          ]
    ]

named_reads : (n : WorldNames) (older : Bool) (core : CoreModule) (roles made : Roles) → with_named n older core roles ≡ Ok made
    → (is : Imports) × (es : Exports) × (imports_after n older roles.import_roles core.imports ≡ Ok is) × (exports_after n older roles.export_roles core.exports ≡ Ok es)
unfolding with_named
named_reads n older core roles made e =
    let a = bind_ok (imports_after n older roles.import_roles core.imports) (λ imports. exports_after n older roles.export_roles core.exports >>= λ exports. with_both roles imports exports) made e in
    let b = bind_ok (exports_after n older roles.export_roles core.exports) (λ exports. with_both roles a.0 exports) made a.2 in
    (a.0, b.0, a.1, b.1)

abbrev finished : Bindgen → Roles → Result Bindgen Failure
finished said roles = Ok (record { wit = said.wit; roles = roles })

names_caused : (older : Bool) (bytes : List ℕ) (said : Bindgen) (x : Refusal) → AreNamesRead bytes said → with_names older bytes said ≡ refused x → DecodeCause older bytes (flat (failures.Refused x))
unfolding with_names
names_caused older bytes said x nr e =
    elim (bind_err (lifted (module_of bytes)) (λ core. named older core said) (failures.Refused x) e) [
      | inl h ↦ unread said x nr h
      | inr a ↦
          elim (bind_err (with_named (names_of said.wit) older a.0 said.roles) (finished said) (failures.Refused x) a.2) [
            | inl k ↦
                elim (named_stops (names_of said.wit) older a.0 said.roles x k) [
                  | inl m ↦ import_misread said a.0 x nr (lifted_ok (module_of bytes) a.0 a.1) m
                  | inr m ↦ export_misread said a.0 x nr (lifted_ok (module_of bytes) a.0 a.1) m
                ]
            | inr b ↦ absurd cc
          ]
    ]

-- what was read of a module whose names give roles
record AreRead (older : Bool) (bytes : List ℕ) (said : Bindgen) : Type 0 where
  core : CoreModule
  whole : module_of bytes ≡ Ok core
  is : Imports
  es : Exports
  imports_are : imports_after (names_of said.wit) older said.roles.import_roles core.imports ≡ Ok is
  exports_are : exports_after (names_of said.wit) older said.roles.export_roles core.exports ≡ Ok es

names_read : (older : Bool) (bytes : List ℕ) (said b : Bindgen) → with_names older bytes said ≡ Ok b → AreRead older bytes said
unfolding with_names
names_read older bytes said b e =
    let a = bind_ok (lifted (module_of bytes)) (λ core. named older core said) b e in
    let w = bind_ok (with_named (names_of said.wit) older a.0 said.roles) (finished said) b a.2 in
    let r = named_reads (names_of said.wit) older a.0 said.roles w.0 w.1 in
    record { core = a.0; whole = lifted_ok (module_of bytes) a.0 a.1; is = r.0; es = r.1; imports_are = r.2; exports_are = r.3 }

read_ok : {A : Type 0} (r : Result A RecordFailure) (x : A) → read r ≡ Ok x → r ≡ Ok x
read_ok (Ok y) x e = cc
read_ok (Err f) x e = absurd cc

said_together : (texts : List (List ℕ × ⊤)) (said : Bindgen) → said_in texts ≡ Ok said → (records : List Record) × (records_after [] texts ≡ Ok records) × (bindgen_of tests role_tests records ≡ Ok said)
unfolding said_in
said_together texts said e =
    let a = bind_ok (records_after [] texts) (λ rs. read (bindgen_of tests role_tests rs)) said e in
    (a.0, a.1, read_ok (bindgen_of tests role_tests a.0) said a.2)

-- ---- decoding

from_nothing : (place : ℕ) → 0 + place ≡ place
from_nothing place = omega arith

pub said_caused : (older : Bool) (bytes : List ℕ) (d : List ℕ × List (List ℕ)) (e : Failure) → divided bytes ≡ Ok d → SaidOfCause older bytes d.1 e → e ≢ failures.Memory → DecodeCause older bytes (flat e)
said_caused older bytes d failures.Memory is c other = absurd (other refl)
said_caused older bytes d (failures.Refused x) is c other =
    let p = divided_pieces bytes d is in by p.0 p.1 (subst (λ (ts : List (List ℕ)). SaidOfCause older bytes ts (failures.Refused x)) p.2 c)
  where
    by : (ps : List Piece) → IsModule bytes ps → SaidOfCause older bytes (removed ps) (failures.Refused x) → DecodeCause older bytes (flat (failures.Refused x))
    by ps m (of_texts (unreadable e)) =
        let s = stops [] (once_after [] (removed ps)) (failures.Refused x) e in
        misread x (record { pieces = ps; whole = m; place = s.0; text = s.1; there = s.2; refused = ap (λ (n : ℕ). of_text n s.1) (sym (from_nothing s.0)) ∙ s.3 })
    by ps m (of_texts (conflicting records name are c reported)) =
        subst (λ (f : Failure). DecodeCause older bytes (flat f)) (sym reported) (conflict records name (record { pieces = ps; whole = m; read = are }) c)
    by ps m (of_names said is_said count e) =
        let t = said_together (once_after [] (removed ps)) said is_said in
        names_caused older bytes said x (record { records = t.0; are = record { pieces = ps; whole = m; read = t.1 }; together = t.2; count = count }) e

pub sections_caused : (older : Bool) (bytes : List ℕ) (e : Failure) → divided bytes ≡ Err e → e ≢ failures.Memory → DecodeCause older bytes (flat e)
sections_caused older bytes failures.Memory is other = absurd (other refl)
sections_caused older bytes (failures.Refused x) is other = divided_caused older bytes x is

-- what a module says whose sections hold these texts, and what was read for that
record IsSaid (older : Bool) (bytes : List ℕ) (texts : List (List ℕ)) : Type 0 where
  said : Bindgen
  together : said_in (once_after [] texts) ≡ Ok said
  by_names : names_count texts ≡ true → AreRead older bytes said

said_read : (older : Bool) (bytes : List ℕ) (texts : List (List ℕ)) (b : Bindgen) → said_of older bytes texts ≡ Ok b → IsSaid older bytes texts
unfolding said_of
said_read older bytes texts b e =
    let a = bind_ok (said_in (once_after [] texts)) (λ said. if names_count texts then with_names older bytes said else Ok said) b e in
    record { said = a.0; together = a.1; by_names = λ count. names_read older bytes a.0 b (by (names_count texts) count a.0 a.2) }
  where
    by : (c : Bool) → c ≡ true → (said : Bindgen) → (if c then with_names older bytes said else Ok said) ≡ Ok b → with_names older bytes said ≡ Ok b
    by true is said h = h
    by false is said h = absurd (true≢false (sym is))

records_so : (bytes : List ℕ) (ps : List Piece) (records : List Record) → IsModule bytes ps → (a : AreRecords bytes records) → records_after [] (once_after [] (removed ps)) ≡ Ok records
records_so bytes ps records m a = subst (λ (qs : List Piece). records_after [] (once_after [] (removed qs)) ≡ Ok records) (same_pieces bytes a.pieces ps a.whole m) a.read

-- what names say in a module that is decoded is what its sections say
same_said : (older : Bool) (bytes : List ℕ) (ps : List Piece) (said : Bindgen) → IsModule bytes ps → (s : IsSaid older bytes (removed ps)) → AreNamesRead bytes said → s.said ≡ said
same_said older bytes ps said m s nr =
    let t = said_together (once_after [] (removed ps)) s.said s.together in
    let one : t.0 ≡ nr.records = same_ok (records_after [] (once_after [] (removed ps))) t.0 nr.records t.1 (records_so bytes ps nr.records m nr.are) in
    same_ok (bindgen_of tests role_tests nr.records) s.said said (subst (λ (rs : List Record). bindgen_of tests role_tests rs ≡ Ok s.said) one t.2) nr.together

are_read : (older : Bool) (bytes : List ℕ) (ps : List Piece) (said : Bindgen) → IsModule bytes ps → IsSaid older bytes (removed ps) → AreNamesRead bytes said → AreRead older bytes said
are_read older bytes ps said m s nr =
    let count : names_count (removed ps) ≡ true = subst (λ (qs : List Piece). names_count (removed qs) ≡ true) (same_pieces bytes nr.are.pieces ps nr.are.whole m) nr.count in
    subst (λ (b : Bindgen). AreRead older bytes b) (same_said older bytes ps said m s nr) (s.by_names count)

lifted_clash : {A : Type 0} (r : Result A SectionFault) (x : A) (d : Failure) → r ≡ Ok x → lifted r ≡ Err d → ⊥
lifted_clash r x d a b = clash (lifted r) x d (ap lifted a) b

core_same : (bytes : List ℕ) (a b : CoreModule) → module_of bytes ≡ Ok a → module_of bytes ≡ Ok b → a ≡ b
core_same bytes a b h k = let both : Ok a ≡ Ok b = sym h ∙ k in cc (both)

-- what is decoded has no cause of a refusal
pub decode_has_none : (older : Bool) (bytes : List ℕ) (d : List ℕ × List (List ℕ)) (b : Bindgen) → divided bytes ≡ Ok d → said_of older bytes d.1 ≡ Ok b → AreApart (once_after [] d.1)
    → (f : LowerFault) → DecodeCause older bytes f → ⊥
decode_has_none older bytes d b is e apart f c =
    let p = divided_pieces bytes d is in
    by p.0 p.1 (subst (λ (ts : List (List ℕ)). IsSaid older bytes ts) p.2 (said_read older bytes d.1 b e)) (subst (λ (ts : List (List ℕ)). AreApart (once_after [] ts)) p.2 apart) f c
  where
    by : (ps : List Piece) → IsModule bytes ps → IsSaid older bytes (removed ps) → AreApart (once_after [] (removed ps)) → (f : LowerFault) → DecodeCause older bytes f → ⊥
    by ps m s apart f (not_module none) = none (flat_map (λ p. p.whole) ps) m.encoded
    by ps m s apart f (cut place c) = whole_is_not_cut bytes ps place m c
    by ps m s apart f (misread r x) =
        let there : slice_get (distinct (removed ps)) x.place ≡ Some x.text = subst (λ (qs : List Piece). slice_get (distinct (removed qs)) x.place ≡ Some x.text) (same_pieces bytes x.pieces ps x.whole m) x.there in
        let t = reads [] (once_after [] (removed ps)) apart.records apart.are_read x.place x.text there in
        clash (of_text x.place x.text) t.0 (failures.Refused r) (ap (λ (n : ℕ). of_text n x.text) (sym (from_nothing x.place)) ∙ t.1) x.refused
    by ps m s apart f (conflict records name a c) =
        let same : records ≡ apart.records = same_ok (records_after [] (once_after [] (removed ps))) records apart.records (records_so bytes ps records m a) apart.are_read in
        apart.no_conflict name (subst (λ (rs : List Record). RecordsConflict rs name) same c)
    by ps m s apart f (unread said r nr h) = let k = are_read older bytes ps said m s nr in lifted_clash (module_of bytes) k.core (failures.Refused r) k.whole h
    by ps m s apart f (import_misread said core r nr h x) =
        let k = are_read older bytes ps said m s nr in
        let same : core ≡ k.core = core_same bytes core k.core h k.whole in
        no_import_stops (names_of said.wit) older said.roles.import_roles k.is k.core.imports r k.imports_are
        (subst (λ (x : CoreModule). IsImportMisread (names_of said.wit) older said.roles.import_roles x.imports r) same x)
    by ps m s apart f (export_misread said core r nr h x) =
        let k = are_read older bytes ps said m s nr in
        let same : core ≡ k.core = core_same bytes core k.core h k.whole in
        no_export_stops (names_of said.wit) older said.roles.export_roles k.es k.core.exports r k.exports_are
        (subst (λ (x : CoreModule). IsExportMisread (names_of said.wit) older said.roles.export_roles x.exports r) same x)

-- ---- the steps, as calls return them

pub said_by_reading : {A : Type 0} (texts : List (List ℕ × ⊤)) (r : Result A Failure) (d : Failure) → IsErrAnd r (λ e. e ≡ d) → (d ≢ failures.Memory → records_after [] texts ≡ Err d)
    → IfErr r (λ e. e ≢ failures.Memory → SaidCause texts e)
said_by_reading texts (Ok x) d is h = tt
said_by_reading texts (Err e) d is h = subst (λ (x : Failure). x ≢ failures.Memory → SaidCause texts x) (sym is) (λ other. unreadable (h other))

pub said_by_merging : {A : Type 0} (texts : List (List ℕ × ⊤)) (records : List Record) (r : Result A Failure) (d : RecordFailure) → records_after [] texts ≡ Ok records
    → IsErrAnd r (λ e. e ≡ of_plain (of_record d)) → (d ≢ record_failures.Memory → (name : List ℕ) × (d ≡ conflict_of name) × RecordsConflict records name) → IfErr r (λ e. e ≢ failures.Memory → SaidCause texts e)
said_by_merging texts records (Ok b) d are is h = tt
said_by_merging texts records (Err e) d are is h = subst (λ (x : Failure). x ≢ failures.Memory → SaidCause texts x) (sym is) (by d h)
  where
    by : (d : RecordFailure) → (d ≢ record_failures.Memory → (name : List ℕ) × (d ≡ conflict_of name) × RecordsConflict records name) → of_plain (of_record d) ≢ failures.Memory → SaidCause texts (of_plain (of_record d))
    by record_failures.Memory h other = absurd (other refl)
    by (record_failures.Refused x) h other = let c = h (λ m. cc) in conflicting records c.0 are c.2 (ap (λ (d : RecordFailure). of_plain (of_record d)) c.1)

pub said_apart : (texts : List (List ℕ × ⊤)) (records : List Record) → records_after [] texts ≡ Ok records → ((name : List ℕ) → RecordsConflict records name → ⊥) → AreApart texts
said_apart texts records are h = record { records = records; are_read = are; no_conflict = h }

pub handed_on : {A : Type 0} (P : Failure → Type 0) (r : Result A Failure) (d : Failure) → IsErrAnd r (λ e. e ≡ d) → (d ≢ failures.Memory → P d) → IfErr r (λ e. e ≢ failures.Memory → P e)
handed_on P (Ok x) d is h = tt
handed_on P (Err e) d is h = subst (λ (x : Failure). x ≢ failures.Memory → P x) (sym is) h

pub said_of_texts : (older : Bool) (bytes : List ℕ) (texts : List (List ℕ)) (ts : List (List ℕ × ⊤)) (e : Failure) → ts ≡ once_after [] texts → (e ≢ failures.Memory → SaidCause ts e) → e ≢ failures.Memory → SaidOfCause older bytes texts e
said_of_texts older bytes texts ts e same h other = of_texts (subst (λ (xs : List (List ℕ × ⊤)). SaidCause xs e) same (h other))

pub said_of_names : (older : Bool) (bytes : List ℕ) (texts : List (List ℕ)) (ts : List (List ℕ × ⊤)) (said : Bindgen) (r : Result Bindgen Failure) → ts ≡ once_after [] texts → said_in ts ≡ Ok said → names_count texts ≡ true
    → Gives (λ b. b) r (with_names older bytes said) → IfErr r (λ e. e ≢ failures.Memory → SaidOfCause older bytes texts e)
said_of_names older bytes texts ts said (Ok b) same is count h = tt
said_of_names older bytes texts ts said (Err e) same is count h =
    λ other. of_names said (subst (λ (xs : List (List ℕ × ⊤)). said_in xs ≡ Ok said) same is) count (h other)

pub decode_caused : (older : Bool) (bytes given kept : List ℕ) (texts held : List (List ℕ)) (e : Failure) → divided bytes ≡ Ok (kept, held) → given ≡ bytes → texts ≡ held → (e ≢ failures.Memory → SaidOfCause older given texts e)
    → e ≢ failures.Memory → DecodeCause older bytes (flat e)
decode_caused older bytes given kept texts held e is same_bytes same_texts h other =
    said_caused older bytes (kept, held) e is
    (subst (λ (b : List ℕ). SaidOfCause older b held e) same_bytes (subst (λ (ts : List (List ℕ)). SaidOfCause older given ts e) same_texts (h other))) other

pub decode_refused : (older : Bool) (bytes given kept : List ℕ) (texts held : List (List ℕ)) (said : Bindgen) → divided bytes ≡ Ok (kept, held) → given ≡ bytes → texts ≡ held → said_of older given texts ≡ Ok said
    → AreApart (once_after [] texts) → (f : LowerFault) → DecodeCause older bytes f → ⊥
decode_refused older bytes given kept texts held said is same_bytes same_texts e apart f c =
    decode_has_none older bytes (kept, held) said is
    (subst (λ (b : List ℕ). said_of older b held ≡ Ok said) same_bytes (subst (λ (ts : List (List ℕ)). said_of older given ts ≡ Ok said) same_texts e))
    (subst (λ (ts : List (List ℕ)). AreApart (once_after [] ts)) same_texts apart) f c
