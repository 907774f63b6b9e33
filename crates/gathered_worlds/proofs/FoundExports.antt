-- Main offers each core export that has a role with the type that the role requires, if that is known.
use Rattle.std.proofs.Common.{◌≡◌, ◌∙◌, ◌<◌, ◌⊎◌, inl, inr, ℕ, Bool, true, false, cond, List, [], ◌∷◌, ◌++◌, Option, Some, None, Ok, length, refl, sym, ap, subst, append_assoc, append-nil, true≢false}
use Rattle.std.specs.Prelude.{get_or, ok_or, is_some, option_map, if◌then◌else◌, ⊤}
use Rattle.std.specs.List.{AllByRecursion, flat_map}
use Rattle.std.specs.Option.{option_to_list}
use Rattle.std.specs.Str.{bytes_eq}
use Rattle.std.proofs.lemmas.Option.{none-some}
use Rattle.comp_lists.specs.Found.{found}
use Rattle.comp_lists.specs.Tables.{with_first}
use Rattle.comp_lists.proofs.Lists.{AllByRecursion-weaker, AllByRecursion-push}
use Rattle.comp_lists.proofs.Lookups.{found-append, found-push_cases, found-pushed, IsSome-found-append, some_of}
use Rattle.core_sections.specs.declared.core_module.CoreModule.{CoreModule}
use Rattle.core_sections.specs.declared.entries.ExportedItem.{ExportedItem}
use Rattle.comp_roles.specs.declared.exports.Export.{Export}
use Rattle.comp_roles.specs.declared.offered.ExternType.{ExternType}
use Rattle.record_core_types.specs.Fitting.{fits_export}
use Rattle.record_core_types.specs.Offered.{item_type, offered_export}
use Rattle.record_exports.specs.Exporting.{Roles, with_role, exports_after, exports_of}
use Rattle.record_exports.specs.Functions.{Exports}
use Rattle.record_exports.specs.Meaning.{world_id, unfit, fitting, export_of}
use Rattle.record_exports.specs.Taking.{all_taken}
use Rattle.record_faults.specs.Faults.{◌>>=◌}
use Rattle.record_faults.proofs.Chains.{bind_ok, passed}
use Rattle.record_merge.specs.declared.bindgen.Bindgen.{Bindgen}
use Rattle.record_resolve.specs.declared.resolving.Resolved.{Resolved}
use Rattle.record_role_targets.specs.Exports.{resolved_export}
use Rattle.record_values.specs.declared.roles.ExportRole.{ExportRole}
use Rattle.supported_worlds.specs.Guarantees.{OffersExport}
use Rattle.world_values.specs.Items.{no_items}
use Rattle.world_values.specs.declared.gathered.Part.{Part}
use Rattle.gathered_worlds.specs.declared.checking.CheckedRoles.{CheckedRoles}
use Rattle.gathered_worlds.specs.Preparing.{parts_of}
use Rattle.gathered_worlds.proofs.FoundTypes.{export_typed}
use Rattle.gathered_worlds.proofs.FoundImports.{found_last}

abbrev Items : Type 0
Items = List (List ℕ × ExportedItem)

-- ---- exports that were read

-- a name that is found once an entry was added was found before, or is that of the entry
pushed : (seen : Items) (e : List ℕ × ExportedItem) (name : List ℕ) → is_some (found name (seen ++ e ∷ [])) ≡ true → (is_some (found name seen) ≡ true) ⊎ (name ≡ e.0)
pushed seen e name h =
    let item = some_of (found name (seen ++ e ∷ [])) h in
    elim (found-push_cases name e.0 e.1 seen item.0 item.1) [ inl k ↦ inl (ap (λ (o : Option ExportedItem). is_some o) k) | inr k ↦ inr k.0 ]

module _ (r : Resolved) (roles : Roles) (core : CoreModule) where
  fitted : (name : List ℕ) (item : ExportedItem) (role : ExportRole) (export : Export) → export_of r core name item role ≡ Ok export → fits_export r.resolve world_id core export item ≡ true
  unfolding export_of
  fitted name item role export e =
      let a = bind_ok (ok_or (resolved_export r role (item_type core item)) (unfit name)) (fitting r core name item) export e in
      let p = passed (fits_export r.resolve world_id core a.0 item) a.0 export (unfit name) a.2 in
      ap (λ (x : Export). fits_export r.resolve world_id core x item) (sym p.1) ∙ p.0

  -- the first item of this name fits the role of the export
  record IsFirst (seen : Items) (x : List ℕ × Export) : Type 0 where
    item : ExportedItem
    first : found x.0 seen ≡ Some item
    fits : fits_export r.resolve world_id core x.1 item ≡ true

  -- what holds of exports that were read of the items so far
  record AreFirst (seen : Items) (all : Exports) : Type 0 where
    each : AllByRecursion (IsFirst seen) all
    known : (name : List ℕ) (role : ExportRole) → is_some (found name seen) ≡ true → found name roles ≡ Some role → is_some (found name all) ≡ true

  first_kept : (seen : Items) (e : List ℕ × ExportedItem) (x : List ℕ × Export) → IsFirst seen x → IsFirst (seen ++ e ∷ []) x
  first_kept seen e x h = record { item = h.item; first = found-append x.0 seen (e ∷ []) h.item h.first; fits = h.fits }

  each_kept : (seen : Items) (e : List ℕ × ExportedItem) (all : Exports) → AllByRecursion (IsFirst seen) all → AllByRecursion (IsFirst (seen ++ e ∷ [])) all
  each_kept seen e all h = AllByRecursion-weaker (first_kept seen e) all h

  -- an item that has no role
  passed_over : (seen : Items) (e : List ℕ × ExportedItem) (all : Exports) → AreFirst seen all → found e.0 roles ≡ None → AreFirst (seen ++ e ∷ []) all
  passed_over seen e all h none = record {
    each = each_kept seen e all h.each;
    known = λ name role there has. elim (pushed seen e name there) [
      | inl k ↦ h.known name role k has
      | inr k ↦ absurd (none-some role (sym none ∙ ap (λ (n : List ℕ). found n roles) (sym k) ∙ has))
    ];
  }

  -- an item whose role is that of the first item of its name, or its own
  added : (seen : Items) (e : List ℕ × ExportedItem) (all : Exports) (role : ExportRole) (export : Export) → AreFirst seen all → found e.0 roles ≡ Some role
      → fits_export r.resolve world_id core export e.1 ≡ true → AreFirst (seen ++ e ∷ []) (with_first bytes_eq all e.0 export)
  added seen e all role export h has fits = by (is_some (found e.0 all)) refl
    where
      is_new : is_some (found e.0 all) ≡ false → (b : Bool) → is_some (found e.0 seen) ≡ b → is_some (found e.0 seen) ≡ false
      is_new lacked true there = absurd (true≢false (sym (h.known e.0 role there has) ∙ lacked))
      is_new lacked false there = there

      by : (b : Bool) → is_some (found e.0 all) ≡ b → AreFirst (seen ++ e ∷ []) (if b then all else all ++ (e.0, export) ∷ [])
      by true there = record {
        each = each_kept seen e all h.each;
        known = λ name other seen_there said. elim (pushed seen e name seen_there) [
          | inl k ↦ h.known name other k said
          | inr k ↦ ap (λ (n : List ℕ). is_some (found n all)) k ∙ there
        ];
      }
      by false lacked = record {
        each = AllByRecursion-push (IsFirst (seen ++ e ∷ [])) all (e.0, export) (each_kept seen e all h.each)
            (record { item = e.1; first = found_last e.0 e.1 seen (is_new lacked (is_some (found e.0 seen)) refl); fits = fits });
        known = λ name other seen_there said. elim (pushed seen e name seen_there) [
          | inl k ↦ IsSome-found-append name all ((e.0, export) ∷ []) (h.known name other k said)
          | inr k ↦ ap (λ (n : List ℕ). is_some (found n (all ++ (e.0, export) ∷ []))) k ∙ found-pushed e.0 export all
        ];
      }

  one_more : (seen : Items) (e : List ℕ × ExportedItem) (all more : Exports) (role : Option ExportRole) → AreFirst seen all → found e.0 roles ≡ role → with_role r core all e.0 e.1 role ≡ Ok more
      → AreFirst (seen ++ e ∷ []) more
  one_more seen e all more None h said is = let same : all ≡ more = cc (is) in subst (AreFirst (seen ++ e ∷ [])) same (passed_over seen e all h said)
  one_more seen e all more (Some role) h said is =
      let a = bind_ok (export_of r core e.0 e.1 role) (λ export. Ok (with_first bytes_eq all e.0 export)) more is in
      let same : with_first bytes_eq all e.0 a.0 ≡ more = cc (a.2) in
      subst (AreFirst (seen ++ e ∷ [])) same (added seen e all role a.0 h said (fitted e.0 e.1 role a.0 a.1))

  all_more : (seen es : Items) (all made : Exports) → AreFirst seen all → exports_after r roles core all es ≡ Ok made → AreFirst (seen ++ es) made
  all_more seen [] all made h is =
      let same : all ≡ made = cc (is) in
      subst (λ (xs : Items). AreFirst xs made) (sym (append-nil seen)) (subst (AreFirst seen) same h)
  all_more seen (e ∷ es) all made h is =
      let a = bind_ok (with_role r core all e.0 e.1 (found e.0 roles)) (λ more. exports_after r roles core more es) made is in
      subst (λ (xs : Items). AreFirst xs made) (append_assoc seen (e ∷ []) es) (all_more (seen ++ e ∷ []) es a.0 made (one_more seen e all a.0 (found e.0 roles) h refl a.1) a.2)

  are_first : (made : Exports) → exports_of r roles core ≡ Ok made → AllByRecursion (IsFirst core.exports) made
  unfolding exports_of
  are_first made is =
      let a = bind_ok (exports_after r roles core [] core.exports) (λ (all : Exports). all_taken all >>= λ _. Ok all) made is in
      let b = bind_ok (all_taken a.0) (λ (_ : ⊤). Ok a.0) made a.2 in
      let same : a.0 ≡ made = cc (b.2) in
      let none : AreFirst [] [] = record { each = tt; known = λ name role there has. there } in
      let all = all_more [] core.exports [] a.0 none a.1 in
      subst (λ (xs : Exports). AllByRecursion (IsFirst core.exports) xs) same all.each

  -- the first item of a name is offered as that name, where it has a type
  first_offered : (es : Items) (name : List ℕ) (item : ExportedItem) (ty : ExternType) → found name es ≡ Some item → item_type core item ≡ Some ty → found name (flat_map (offered_export core) es) ≡ Some ty
  first_offered [] name item ty h typed = absurd (none-some item h)
  first_offered (e ∷ es) name item ty h typed = by (bytes_eq name e.0) refl h (λ more. first_offered es name item ty more typed)
    where
      rest : List (List ℕ × ExternType)
      rest = flat_map (offered_export core) es

      after : (o : Option ExternType) → bytes_eq name e.0 ≡ false → found name (option_to_list (option_map (λ t. (e.0, t)) o) ++ rest) ≡ found name rest
      after None other = refl
      after (Some t) other = ap (λ b. cond b (Some t) (found name rest)) other

      by : (b : Bool) → bytes_eq name e.0 ≡ b → cond b (Some e.1) (found name es) ≡ Some item → (found name es ≡ Some item → found name rest ≡ Some ty) → found name (offered_export core e ++ rest) ≡ Some ty
      by true same h more =
          let is : e.1 ≡ item = cc (h) in
          ap (λ (o : Option ExternType). found name (option_to_list (option_map (λ t. (e.0, t)) o) ++ rest)) (ap (item_type core) is ∙ typed)
          ∙ ap (λ b. cond b (Some ty) (found name rest)) same
      by false other h more = after (item_type core e.1) other ∙ more h

-- ---- exports that are offered

module _ (r : Resolved) (main : Part Bindgen) (core : CoreModule) (m : CheckedRoles) (present : 0 < length r.resolve.worlds) where
  abbrev table : Roles
  table = main.own.roles.export_roles

  is_offered : (x : List ℕ × Export) → IsFirst r table core core.exports x → OffersExport r.resolve (get_or r.resolve.worlds 0 no_items) (parts_of r main core m).info x
  is_offered x h = record { offered = λ ty is. first_offered r table core core.exports x.0 h.item ty h.first (export_typed r.resolve present core x.1 h.item ty h.fits is) }

  -- of the exports whose roles these are
  pub all_offered : exports_of r table core ≡ Ok m.exports → AllByRecursion (OffersExport r.resolve (get_or r.resolve.worlds 0 no_items) (parts_of r main core m).info) m.exports
  all_offered is = AllByRecursion-weaker is_offered m.exports (are_first r table core m.exports is)
