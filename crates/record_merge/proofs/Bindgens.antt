-- Why the records of one module contradict each other: worlds or roles.
use Rattle.std.proofs.Common.{◌≡◌, ℕ, List, [], Result, Ok, Err, refl, sym, ap, subst, inl, inr, true≢false, is_ok}
use Rattle.std.specs.Prelude.{◌≢◌, IfErr, IsErrAnd}
use Rattle.std.specs.List.{list_any}
use Rattle.std.specs.Str.{bytes_eq}
use Rattle.json_paths.specs.declared.fault.Failure.{Failure}
use Rattle.json_paths.specs.declared.fault.Failure.TheVariants as failures
use Rattle.json_paths.specs.Faults.{◌>>=◌}
use Rattle.record_values.specs.declared.record.Assigned.{Assigned}
use Rattle.record_values.specs.declared.record.ImportName.{ImportName}
use Rattle.record_values.specs.declared.record.Record.{Record}
use Rattle.record_values.specs.declared.roles.ImportRole.{ImportRole}
use Rattle.record_values.specs.declared.roles.ExportRole.{ExportRole}
use Rattle.record_values.specs.declared.world.Wit.{Wit}
use Rattle.record_values.specs.Names.{is_same_import}
use Rattle.record_values.specs.contracts.roles.ImportRolePartialEq.TheImpl as import_eq
use Rattle.record_values.specs.contracts.roles.ExportRolePartialEq.TheImpl as export_eq
use Rattle.record_merge.specs.declared.bindgen.Roles.{Roles}
use Rattle.record_merge.specs.declared.assigning.RoleTables.{RoleTables}
use Rattle.record_merge.specs.Said.{no_wit}
use Rattle.record_merge.specs.Tables.{conflict}
use Rattle.record_merge.specs.ModuleRecords.{RoleTests, worlds_after, roles_after, one_field_each, role_tables, roles_of}
use Rattle.record_merge.specs.Encodings.{encodings_after}
use Rattle.record_merge.specs.Causes.{Named, Unless, memory, caused, TwoWorlds, TwoFields, first_roles, all_import_roles, all_export_roles, RecordsConflict, worlds, import_roles, export_roles, two_fields}
use Rattle.record_merge.proofs.Chains.{bind_ok, bind_err}
use Rattle.record_merge.proofs.Conflicts.{reported}
use Rattle.record_merge.proofs.EqualRoles.{one_import_role, one_export_role, import_role_itself, export_role_itself}
use Rattle.record_merge.proofs.Agreeing.{world_tests}
use Rattle.record_merge.proofs.Records.{no_two_worlds}
use Rattle.record_merge.proofs.RoleConflicts.{roles_refused, no_two_roles, fields_refused, no_two_fields_in, fields_are, import_name_laws, text_laws}

abbrev pub role_tests : RoleTests
role_tests = record { import_role = import_eq.eq-value.it; export_role = export_eq.eq-value.it }

abbrev merged_import_roles : List (Assigned ImportName ImportRole) → Result (List (ImportName × ImportRole)) Failure
merged_import_roles all = roles_after is_same_import import_eq.eq-value.it (λ n. n.field) [] all

abbrev merged_export_roles : List (Assigned (List ℕ) ExportRole) → Result (List (List ℕ × ExportRole)) Failure
merged_export_roles all = roles_after bytes_eq export_eq.eq-value.it (λ f. f) [] all

-- what roles without a conflict were merged to
record AreMerged (imports : List (Assigned ImportName ImportRole)) (exports : List (Assigned (List ℕ) ExportRole)) : Type 0 where
  is : List (ImportName × ImportRole)
  es : List (List ℕ × ExportRole)
  fields : List (ExportRole × List ℕ)
  imports_are : merged_import_roles imports ≡ Ok is
  exports_are : merged_export_roles exports ≡ Ok es
  fields_are : one_field_each export_eq.eq-value.it es ≡ Ok fields

tables_merged : (imports : List (Assigned ImportName ImportRole)) (exports : List (Assigned (List ℕ) ExportRole)) (r : RoleTables) → role_tables role_tests imports exports ≡ Ok r → AreMerged imports exports
unfolding role_tables
tables_merged imports exports r e =
    let i = bind_ok (merged_import_roles imports) (λ is. merged_export_roles exports >>= λ es. one_field_each export_eq.eq-value.it es >>= λ _. Ok (record { imports = is; exports = es })) r e in
    let x = bind_ok (merged_export_roles exports) (λ es. one_field_each export_eq.eq-value.it es >>= λ _. Ok (record { imports = i.0; exports = es })) r i.2 in
    let f = bind_ok (one_field_each export_eq.eq-value.it x.0) (λ _. Ok (record { imports = i.0; exports = x.0 })) r x.2 in
    record { is = i.0; es = x.0; fields = f.0; imports_are = i.1; exports_are = x.1; fields_are = f.1 }

tables_refused : (records : List Record) (f : Failure) → role_tables role_tests (all_import_roles records) (all_export_roles records) ≡ Err f → Named (RecordsConflict records) f
unfolding role_tables
tables_refused records f e =
    elim (bind_err (merged_import_roles (all_import_roles records)) (λ is. merged_export_roles (all_export_roles records) >>= λ es. one_field_each export_eq.eq-value.it es >>= λ _. Ok (record { imports = is; exports = es })) f e) [
      | inl h ↦
          let t = roles_refused is_same_import import_eq.eq-value.it (λ (n : ImportName). n.field) import_role_itself (all_import_roles records) [] (all_import_roles records) [] f (λ k s x. absurd cc) refl h in
          record { name = t.name; is = t.is; why = import_roles t.why }
      | inr i ↦
          elim (bind_err (merged_export_roles (all_export_roles records)) (λ es. one_field_each export_eq.eq-value.it es >>= λ _. Ok (record { imports = i.0; exports = es })) f i.2) [
            | inl h ↦
                let t = roles_refused bytes_eq export_eq.eq-value.it (λ (n : List ℕ). n) export_role_itself (all_export_roles records) [] (all_export_roles records) [] f (λ k s x. absurd cc) refl h in
                record { name = t.name; is = t.is; why = export_roles t.why }
            | inr x ↦
                elim (bind_err (one_field_each export_eq.eq-value.it x.0) (λ _. Ok (record { imports = i.0; exports = x.0 })) f x.2) [
                  | inl h ↦
                      let t = fields_refused export_eq.eq-value.it one_export_role x.0 [] x.0 [] f refl refl h in
                      let same : x.0 ≡ first_roles (all_export_roles records) = fields_are export_eq.eq-value.it [] x.0 (all_export_roles records) x.1 in
                      record { name = t.name; is = t.is; why = two_fields (subst (λ (es : List (List ℕ × ExportRole)). TwoFields es t.name) same t.why) }
                  | inr y ↦ absurd (true≢false (ap is_ok y.2))
                ]
          ]
    ]

abbrev whole_roles : List Record → RoleTables → Result Roles Failure
whole_roles rs r = Ok (record {
  import_roles = r.imports;
  export_roles = r.exports;
  import_encodings = encodings_after (λ w. w.imports) [] rs;
  export_encodings = encodings_after (λ w. w.exports) [] rs;
  context_slot_1 = list_any (λ r. r.context_slot_1) rs;
})

pub of_worlds : (records : List Record) (f : Failure) → Unless (Named (TwoWorlds records)) f → f ≢ failures.Memory → (name : List ℕ) × (f ≡ conflict name) × RecordsConflict records name
of_worlds records f (memory e) m = absurd (m e)
of_worlds records f (caused c) m = (c.name, c.is, worlds c.why)

pub of_roles : (records : List Record) (f : Failure) → (f ≢ failures.Memory → roles_of role_tests records ≡ Err f) → f ≢ failures.Memory → (name : List ℕ) × (f ≡ conflict name) × RecordsConflict records name
unfolding roles_of
of_roles records f e m =
    elim (bind_err (role_tables role_tests (all_import_roles records) (all_export_roles records)) (whole_roles records) f (e m)) [
      | inl h ↦ let t = tables_refused records f h in (t.name, t.is, t.why)
      | inr x ↦ absurd (true≢false (ap is_ok x.2))
    ]

roles_merged : (records : List Record) (r : Roles) → roles_of role_tests records ≡ Ok r → AreMerged (all_import_roles records) (all_export_roles records)
unfolding roles_of
roles_merged records r e =
    let t = bind_ok (role_tables role_tests (all_import_roles records) (all_export_roles records)) (whole_roles records) r e in
    tables_merged (all_import_roles records) (all_export_roles records) t.0 t.1

pub no_conflicts : (records : List Record) (w : Wit) (r : Roles) → worlds_after world_tests no_wit records ≡ Ok w → roles_of role_tests records ≡ Ok r → (name : List ℕ) → RecordsConflict records name → ⊥
no_conflicts records w r e h name (worlds two) = no_two_worlds records no_wit w name e two
no_conflicts records w r e h name (import_roles two) =
    let j = roles_merged records r h in
    no_two_roles is_same_import import_eq.eq-value.it (λ (n : ImportName). n.field) import_name_laws one_import_role (all_import_roles records) j.is name two j.imports_are
no_conflicts records w r e h name (export_roles two) =
    let j = roles_merged records r h in
    no_two_roles bytes_eq export_eq.eq-value.it (λ (n : List ℕ). n) text_laws one_export_role (all_export_roles records) j.es name two j.exports_are
no_conflicts records w r e h name (two_fields two) =
    let j = roles_merged records r h in
    no_two_fields_in export_eq.eq-value.it export_role_itself j.es j.fields name (subst (λ (es : List (List ℕ × ExportRole)). TwoFields es name) (sym (fields_are export_eq.eq-value.it [] j.es (all_export_roles records) j.exports_are)) two) j.fields_are

pub roles_caused : (records : List Record) (f : Failure) → (f ≢ failures.Memory → roles_of role_tests records ≡ Err f) → Unless (Named (RecordsConflict records)) f
roles_caused records failures.Memory e = memory refl
roles_caused records (failures.Refused r) e =
    let t = of_roles records (failures.Refused r) e (λ m. cc) in
    caused (record { name = t.0; is = t.1; why = t.2 })

pub if_reported : {A : Type 0} (cause : List ℕ → Type 0) (r : Result A Failure) → IfErr r (Unless (Named cause)) → IfErr r (λ f. f ≢ failures.Memory → (name : List ℕ) × (f ≡ conflict name) × cause name)
if_reported cause (Ok x) h = h
if_reported cause (Err f) h = reported cause f h

pub err_so : {A : Type 0} (P : Failure → Type 0) (f : Failure) (r : Result A Failure) → IsErrAnd r (λ e. e ≡ f) → P f → IfErr r P
err_so P f (Ok x) h p = absurd h
err_so P f (Err e) h p = subst P (sym h) p
