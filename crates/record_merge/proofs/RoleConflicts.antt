-- Why roles contradict each other.
use Rattle.std.proofs.Common.{◌≡◌, ◌⊎◌, inl, inr, ℕ, Bool, true, false, List, [], ◌∷◌, ◌++◌, Option, None, Some, Ok, Err, cond, if◌then◌else◌, map, refl, sym, ap, ◌∙◌, append_assoc, true≢false, is_some, is_ok, rules}
use Rattle.std.specs.Cmp.{IsEquivalence}
use Rattle.std.specs.Cmp.Lexicographic.{lists_equiv}
use Rattle.std.specs.Cmp.Rules.{comparing}
use Rattle.std.specs.Map.{lookup}
use Rattle.std.specs.Option.{option_map_or}
use Rattle.std.specs.Str.{bytes_eq}
use Rattle.std.proofs.lemmas.Cmp.{nat_eq_equiv}
use Rattle.std.proofs.lemmas.List.{map_push}
use Rattle.comp_lists.specs.Tables.{with_first}
use Rattle.json_paths.specs.declared.fault.Failure.{Failure}
use Rattle.record_values.specs.declared.record.Assigned.{Assigned}
use Rattle.record_values.specs.declared.roles.ExportRole.{ExportRole}
use Rattle.record_values.specs.Names.{is_same_import}
use Rattle.record_merge.specs.Tables.{conflict, with_entry, apart}
use Rattle.record_merge.specs.ModuleRecords.{roles_after, without_abi, one_field_each}
use Rattle.record_merge.specs.Causes.{Named, TwoRoles, TwoFields, with_first_roles}
use Rattle.record_merge.proofs.Chains.{bind_ok, bind_err}
use Rattle.record_merge.proofs.Equal.{IsOne}
use Rattle.record_merge.proofs.Saying.{lookup_alike}
use Rattle.record_merge.proofs.Agreeing.{same_some, lookup_pushed, some_kept, entry_ok, entry_keeps}

pub import_name_laws : IsEquivalence is_same_import
import_name_laws = Prim.search (comparing, rules)

pub text_laws : IsEquivalence bytes_eq
text_laws = lists_equiv nat_eq_equiv

push_cases : {K X : Type 0} (eq : K → K → Bool) (k x : K) (v r : X) (es : List (K × X)) → lookup (eq k) (es ++ (x, v) ∷ []) ≡ Some r → (lookup (eq k) es ≡ Some r) ⊎ ((eq k x ≡ true) × (v ≡ r))
push_cases eq k x v r [] h = by (eq k x) refl h
  where
    by : (b : Bool) → eq k x ≡ b → cond b (Some v) None ≡ Some r → (lookup (eq k) [] ≡ Some r) ⊎ ((eq k x ≡ true) × (v ≡ r))
    by true is h = inr (is, cc)
    by false is h = absurd cc
push_cases eq k x v r (e ∷ es) h = by (eq k e.0) h (λ later. push_cases eq k x v r es later)
  where
    by : (b : Bool) → cond b (Some e.1) (lookup (eq k) (es ++ (x, v) ∷ [])) ≡ Some r → (lookup (eq k) (es ++ (x, v) ∷ []) ≡ Some r → (lookup (eq k) es ≡ Some r) ⊎ ((eq k x ≡ true) × (v ≡ r)))
        → (cond b (Some e.1) (lookup (eq k) es) ≡ Some r) ⊎ ((eq k x ≡ true) × (v ≡ r))
    by true h more = inl h
    by false h more = more h

entry_err : {K X : Type 0} (eq : K → K → Bool) (same : X → X → Bool) (text : K → List ℕ) (table : List (K × X)) (k : K) (x : X) (f : Failure) → with_entry eq same text table k x ≡ Err f
    → (y : X) × (lookup (eq k) table ≡ Some y) × (same y x ≡ false) × (f ≡ conflict (text k))
entry_err {K} {X} eq same text table k x f e = by (lookup (eq k) table) refl e
  where
    choose : (y : X) (b : Bool) → same y x ≡ b → lookup (eq k) table ≡ Some y → (if b then Ok table else Err (conflict (text k))) ≡ Err f
        → (y : X) × (lookup (eq k) table ≡ Some y) × (same y x ≡ false) × (f ≡ conflict (text k))
    choose y true is there e = absurd (true≢false (ap is_ok e))
    choose y false is there e = (y, there, is, cc (e))

    by : (o : Option X) → lookup (eq k) table ≡ o → option_map_or (λ y. if same y x then Ok table else Err (conflict (text k))) o (Ok (table ++ (k, x) ∷ [])) ≡ Err f
        → (y : X) × (lookup (eq k) table ≡ Some y) × (same y x ≡ false) × (f ≡ conflict (text k))
    by None there e = absurd (true≢false (ap is_ok e))
    by (Some y) there e = choose y (same y x) refl there e

-- a role of the table was given to this name
pub record RoleFrom {K R : Type 0} (eq : K → K → Bool) (seen : List (Assigned K R)) (k : K) (r : R) : Type 0 where
  before : List (Assigned K R)
  a : Assigned K R
  between : List (Assigned K R)
  is : seen ≡ before ++ a ∷ between
  same : eq k a.key ≡ true
  role : a.role ≡ r

abbrev pub From : {K R : Type 0} → (K → K → Bool) → List (Assigned K R) → List (K × R) → Type 0
From {K} {R} eq seen table = (k : K) (r : R) → lookup (eq k) table ≡ Some r → RoleFrom eq seen k r

from_more : {K R : Type 0} (eq : K → K → Bool) (same : R → R → Bool) (field : K → List ℕ) (seen : List (Assigned K R)) (table more : List (K × R)) (a : Assigned K R) → From eq seen table
    → with_entry eq same field table a.key a.role ≡ Ok more → From eq (seen ++ a ∷ []) more
from_more {K} {R} eq same field seen table more a from e k r there =
    elim (entry_ok eq same field table more a.key a.role e) [
      | inl x ↦ again (from k r (ap (λ (t : List (K × R)). lookup (eq k) t) (sym x.3) ∙ there))
      | inr x ↦
          elim (push_cases eq k a.key a.role r table (ap (λ (t : List (K × R)). lookup (eq k) t) (sym x.1) ∙ there)) [
            | inl h ↦ again (from k r h)
            | inr h ↦ record { before = seen; a = a; between = []; is = refl; same = h.0; role = h.1 }
          ]
    ]
  where
    again : RoleFrom eq seen k r → RoleFrom eq (seen ++ a ∷ []) k r
    again f = record {
      before = f.before;
      a = f.a;
      between = f.between ++ a ∷ [];
      is = ap (λ (x : List (Assigned K R)). x ++ a ∷ []) f.is ∙ append_assoc f.before (f.a ∷ f.between) (a ∷ []);
      same = f.same;
      role = f.role;
    }

module _ {K R : Type 0} (eq : K → K → Bool) (same : R → R → Bool) (field : K → List ℕ) where
  -- where roles can't be merged, a name has two
  pub roles_refused : (reflexive : (r : R) → same r r ≡ true) (all seen more : List (Assigned K R)) (table : List (K × R)) (f : Failure) → From eq seen table → all ≡ seen ++ more
      → roles_after eq same field table more ≡ Err f → Named (TwoRoles eq field all) f
  roles_refused reflexive all seen [] table f from whole e = absurd (true≢false (ap is_ok e))
  roles_refused reflexive all seen (a ∷ more) table f from whole e =
      elim (bind_err (with_entry eq same field table a.key a.role) (λ t. roles_after eq same field t more) f e) [
        | inl h ↦
            let w = entry_err eq same field table a.key a.role f h in
            let g = from a.key w.0 w.1 in
            let two : TwoRoles eq field all (field a.key) = record {
              before = g.before;
              first = g.a;
              between = g.between;
              second = a;
              after = more;
              is = whole ∙ ap (λ (x : List (Assigned K R)). x ++ a ∷ more) g.is;
              same_key = g.same;
              differ = λ one. true≢false (sym (reflexive a.role) ∙ ap (λ (x : R). same x a.role) (sym one ∙ g.role) ∙ w.2);
              reported = refl;
            } in
            record { name = field a.key; is = w.3; why = two }
        | inr t ↦ roles_refused reflexive all (seen ++ a ∷ []) more t.0 f (from_more eq same field seen table t.0 a from t.1) (whole ∙ sym (append_assoc seen (a ∷ []) more)) t.2
      ]

  module _ (laws : IsEquivalence eq) (one : IsOne same) where
    -- once a role is in the table, no other one of the name is taken
    none_other : (table merged_entries : List (K × R)) (between after : List (Assigned K R)) (second : Assigned K R) (k : K) (r : R) → lookup (eq k) table ≡ Some r → eq second.key k ≡ true
        → roles_after eq same field table (between ++ second ∷ after) ≡ Ok merged_entries → r ≡ second.role
    none_other table merged_entries [] after second k r there alike e =
        let t = bind_ok (with_entry eq same field table second.key second.role) (λ x. roles_after eq same field x after) merged_entries e in
        let here : lookup (eq second.key) table ≡ Some r = lookup_alike eq laws second.key k alike table ∙ there in
        elim (entry_ok eq same field table t.0 second.key second.role t.1) [
          | inl x ↦ same_some r x.0 (sym here ∙ x.1) ∙ one x.0 second.role x.2
          | inr x ↦ absurd (true≢false (ap is_some (sym here ∙ x.0)))
        ]
    none_other table merged_entries (b ∷ between) after second k r there alike e =
        let t = bind_ok (with_entry eq same field table b.key b.role) (λ x. roles_after eq same field x (between ++ second ∷ after)) merged_entries e in
        none_other t.0 merged_entries between after second k r (entry_keeps eq same field table t.0 b.key b.role k r t.1 there) alike t.2

    -- roles of one name that were merged are one
    roles_agree : (table merged_entries : List (K × R)) (before between after : List (Assigned K R)) (first second : Assigned K R) → eq second.key first.key ≡ true
        → roles_after eq same field table (before ++ (first ∷ (between ++ second ∷ after))) ≡ Ok merged_entries → first.role ≡ second.role
    roles_agree table merged_entries [] between after first second alike e =
        let t = bind_ok (with_entry eq same field table first.key first.role) (λ x. roles_after eq same field x (between ++ second ∷ after)) merged_entries e in
        elim (entry_ok eq same field table t.0 first.key first.role t.1) [
          | inl x ↦
              let there : lookup (eq first.key) t.0 ≡ Some x.0 = ap (λ (y : List (K × R)). lookup (eq first.key) y) x.3 ∙ x.1 in
              sym (one x.0 first.role x.2) ∙ none_other t.0 merged_entries between after second first.key x.0 there alike t.2
          | inr x ↦
              let there : lookup (eq first.key) t.0 ≡ Some first.role = ap (λ (y : List (K × R)). lookup (eq first.key) y) x.1 ∙ lookup_pushed eq first.key first.role table (laws.refl first.key) x.0 in
              none_other t.0 merged_entries between after second first.key first.role there alike t.2
        ]
    roles_agree table merged_entries (b ∷ before) between after first second alike e =
        let t = bind_ok (with_entry eq same field table b.key b.role) (λ x. roles_after eq same field x (before ++ (first ∷ (between ++ second ∷ after)))) merged_entries e in
        roles_agree t.0 merged_entries before between after first second alike t.2

    pub no_two_roles : (all : List (Assigned K R)) (merged_entries : List (K × R)) (name : List ℕ) → TwoRoles eq field all name → roles_after eq same field [] all ≡ Ok merged_entries → ⊥
    no_two_roles all merged_entries name two e =
        let whole : all ≡ two.before ++ (two.first ∷ (two.between ++ two.second ∷ two.after)) = two.is ∙ append_assoc two.before (two.first ∷ two.between) (two.second ∷ two.after) in
        two.differ (roles_agree [] merged_entries two.before two.between two.after two.first two.second two.same_key (ap (λ (xs : List (Assigned K R)). roles_after eq same field [] xs) (sym whole) ∙ e))

-- ---- fields

abbrev by_role : List ℕ × ExportRole → ExportRole × List ℕ
by_role e = (without_abi e.1, e.0)

module _ (same : ExportRole → ExportRole → Bool) (one : IsOne same) where
  role_split : (n : ExportRole) (seen : List (List ℕ × ExportRole)) → is_some (lookup (same n) (map by_role seen)) ≡ true
      → (before after : List (List ℕ × ExportRole)) × (e : List ℕ × ExportRole) × (seen ≡ before ++ e ∷ after) × (without_abi e.1 ≡ n)
  role_split n [] h = absurd (true≢false (sym h))
  role_split n (e ∷ es) h = by (same n (without_abi e.1)) refl h (λ k. role_split n es k)
    where
      by : (b : Bool) → same n (without_abi e.1) ≡ b → is_some (cond b (Some e.0) (lookup (same n) (map by_role es))) ≡ true
          → (is_some (lookup (same n) (map by_role es)) ≡ true → (before after : List (List ℕ × ExportRole)) × (x : List ℕ × ExportRole) × (es ≡ before ++ x ∷ after) × (without_abi x.1 ≡ n))
          → (before after : List (List ℕ × ExportRole)) × (x : List ℕ × ExportRole) × (e ∷ es ≡ before ++ x ∷ after) × (without_abi x.1 ≡ n)
      by true is h more = ([], es, e, refl, sym (one n (without_abi e.1) is))
      by false is h more = let k = more h in (e ∷ k.0, k.1, k.2, ap (λ (t : List (List ℕ × ExportRole)). e ∷ t) k.3, k.4)

  pub fields_refused : (all seen es : List (List ℕ × ExportRole)) (table : List (ExportRole × List ℕ)) (f : Failure) → table ≡ map by_role seen → all ≡ seen ++ es
      → apart same (λ e. e.1) table (map by_role es) ≡ Err f → Named (TwoFields all) f
  fields_refused all seen [] table f are whole e = absurd (true≢false (ap is_ok e))
  fields_refused all seen (x ∷ es) table f are whole e =
      by (is_some (lookup (same (without_abi x.1)) table)) refl e (λ later. fields_refused all (seen ++ x ∷ []) es (table ++ by_role x ∷ []) f
      (ap (λ (t : List (ExportRole × List ℕ)). t ++ by_role x ∷ []) are ∙ sym (map_push by_role seen x)) (whole ∙ sym (append_assoc seen (x ∷ []) es)) later)
    where
      by : (b : Bool) → is_some (lookup (same (without_abi x.1)) table) ≡ b → (if b then Err (conflict x.0) else apart same (λ e. e.1) (table ++ by_role x ∷ []) (map by_role es)) ≡ Err f
          → (apart same (λ e. e.1) (table ++ by_role x ∷ []) (map by_role es) ≡ Err f → Named (TwoFields all) f) → Named (TwoFields all) f
      by true there e more =
          let s = role_split (without_abi x.1) seen (ap (λ (t : List (ExportRole × List ℕ)). is_some (lookup (same (without_abi x.1)) t)) (sym are) ∙ there) in
          let two : TwoFields all x.0 = record {
            before = s.0;
            first = s.2;
            between = s.1;
            second = x;
            after = es;
            is = whole ∙ ap (λ (t : List (List ℕ × ExportRole)). t ++ x ∷ es) s.3;
            same_role = s.4;
            reported = refl;
          } in
          record { name = x.0; is = cc (e); why = two }
      by false there e more = more e

some_pushed : {K X : Type 0} (eq : K → K → Bool) (k : K) (x : X) (es : List (K × X)) → eq k k ≡ true → is_some (lookup (eq k) (es ++ (k, x) ∷ [])) ≡ true
some_pushed eq k x [] same = ap (λ b. is_some (cond b (Some x) None)) same
some_pushed eq k x (e ∷ es) same = by (eq k e.0) (some_pushed eq k x es same)
  where
    by : (b : Bool) → is_some (lookup (eq k) (es ++ (k, x) ∷ [])) ≡ true → is_some (cond b (Some e.1) (lookup (eq k) (es ++ (k, x) ∷ []))) ≡ true
    by true h = refl
    by false h = h

module _ (same : ExportRole → ExportRole → Bool) (reflexive : (r : ExportRole) → same r r ≡ true) (merged_entries : List (ExportRole × List ℕ)) (after : List (List ℕ × ExportRole)) (first second : List ℕ × ExportRole)
    (alike : without_abi first.1 ≡ without_abi second.1) where
  next : (x : List ℕ × ExportRole) (table : List (ExportRole × List ℕ)) (rest : List (List ℕ × ExportRole)) (b : Bool)
      → (if b then Err (conflict x.0) else apart same (λ e. e.1) (table ++ by_role x ∷ []) (map by_role rest)) ≡ Ok merged_entries
      → (b ≡ false) × (apart same (λ e. e.1) (table ++ by_role x ∷ []) (map by_role rest) ≡ Ok merged_entries)
  next x table rest true e = absurd (true≢false (sym (ap is_ok e)))
  next x table rest false e = (refl, e)

  no_second : (table : List (ExportRole × List ℕ)) (between : List (List ℕ × ExportRole)) → is_some (lookup (same (without_abi first.1)) table) ≡ true
      → apart same (λ e. e.1) table (map by_role (between ++ second ∷ after)) ≡ Ok merged_entries → ⊥
  no_second table [] there e =
      let n = next second table after (is_some (lookup (same (without_abi second.1)) table)) e in
      true≢false (sym there ∙ ap (λ (r : ExportRole). is_some (lookup (same r) table)) alike ∙ n.0)
  no_second table (x ∷ between) there e =
      let n = next x table (between ++ second ∷ after) (is_some (lookup (same (without_abi x.1)) table)) e in
      no_second (table ++ by_role x ∷ []) between (some_kept same (without_abi first.1) table (by_role x ∷ []) there) n.1

  no_two_fields : (table : List (ExportRole × List ℕ)) (before between : List (List ℕ × ExportRole)) → apart same (λ e. e.1) table (map by_role (before ++ (first ∷ (between ++ second ∷ after)))) ≡ Ok merged_entries → ⊥
  no_two_fields table [] between e =
      let n = next first table (between ++ second ∷ after) (is_some (lookup (same (without_abi first.1)) table)) e in
      no_second (table ++ by_role first ∷ []) between (some_pushed same (without_abi first.1) first.0 table (reflexive (without_abi first.1))) n.1
  no_two_fields table (x ∷ before) between e =
      let n = next x table (before ++ (first ∷ (between ++ second ∷ after))) (is_some (lookup (same (without_abi x.1)) table)) e in
      no_two_fields (table ++ by_role x ∷ []) before between n.1

-- the table of fields has the first role of each
first_is : (same : ExportRole → ExportRole → Bool) (table more : List (List ℕ × ExportRole)) (k : List ℕ) (x : ExportRole) → with_entry bytes_eq same (λ f. f) table k x ≡ Ok more → more ≡ with_first bytes_eq table k x
first_is same table more k x e =
    elim (entry_ok bytes_eq same (λ f. f) table more k x e) [
      | inl h ↦ h.3 ∙ ap (λ (o : Option ExportRole). if is_some o then table else table ++ (k, x) ∷ []) (sym h.1)
      | inr h ↦ h.1 ∙ ap (λ (o : Option ExportRole). if is_some o then table else table ++ (k, x) ∷ []) (sym h.0)
    ]

pub fields_are : (same : ExportRole → ExportRole → Bool) (table merged_entries : List (List ℕ × ExportRole)) (all : List (Assigned (List ℕ) ExportRole)) → roles_after bytes_eq same (λ f. f) table all ≡ Ok merged_entries → merged_entries ≡ with_first_roles table all
fields_are same table merged_entries [] e = same_ok table merged_entries e
  where
    same_ok : (a b : List (List ℕ × ExportRole)) → roles_after bytes_eq same (λ f. f) a [] ≡ Ok b → b ≡ a
    same_ok a b e = cc (e)
fields_are same table merged_entries (a ∷ more) e =
    let t = bind_ok (with_entry bytes_eq same (λ f. f) table a.key a.role) (λ x. roles_after bytes_eq same (λ f. f) x more) merged_entries e in
    fields_are same t.0 merged_entries more t.2 ∙ ap (λ (x : List (List ℕ × ExportRole)). with_first_roles x more) (first_is same table t.0 a.key a.role t.1)

pub no_two_fields_in : (same : ExportRole → ExportRole → Bool) (reflexive : (r : ExportRole) → same r r ≡ true) (fields : List (List ℕ × ExportRole)) (merged_entries : List (ExportRole × List ℕ)) (name : List ℕ) → TwoFields fields name
    → one_field_each same fields ≡ Ok merged_entries → ⊥
no_two_fields_in same reflexive fields merged_entries name two e =
    let whole : fields ≡ two.before ++ (two.first ∷ (two.between ++ two.second ∷ two.after)) = two.is ∙ append_assoc two.before (two.first ∷ two.between) (two.second ∷ two.after) in
    no_two_fields same reflexive merged_entries two.after two.first two.second two.same_role [] two.before two.between (ap (λ (xs : List (List ℕ × ExportRole)). one_field_each same xs) (sym whole) ∙ e)
