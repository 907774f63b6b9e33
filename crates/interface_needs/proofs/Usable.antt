-- Of which interface a type is that an exported interface may use.
use Rattle.std.proofs.Common.{◌≡◌, ◌∙◌, ◌⊎◌, ◌==◌, Contains, ◌&&◌, ◌||◌, inl, inr, ℕ, Bool, true, false, true≢false, List, map, refl, ap, sym, Option, Some, None, is_some, is_none, if◌then◌else◌}
use Rattle.std.specs.List.{list_all}
use Rattle.std.proofs.lemmas.Bool.{and_parts, or_cases}
use Rattle.wit_data.specs.declared.ids.InterfaceId.{InterfaceId}
use Rattle.wit_data.specs.declared.ids.TypeId.{TypeId}
use Rattle.wit_data.specs.declared.types.TypeDefKind.{TypeDefKind}
use Rattle.wit_data.specs.Parts.{parts}
use Rattle.wit_data.specs.Values.{kind_at, value}
use Rattle.wit_data.proofs.Values.{made_whole}
use Rattle.wit_types.specs.Allowing.{foreign, is_resource}
use Rattle.wit_types.specs.Settings.{owner_at}
use Rattle.wit_types.specs.Settings as settings
use Rattle.type_scopes.specs.Needs.{each_passes, is_at_home}
use Rattle.comp_worlds.specs.Encodable.{IsEncodable}
use Rattle.comp_worlds.specs.ExportOrder.{used_exports}
use Rattle.comp_worlds.specs.WorldContents.{interface_at}
use Rattle.comp_worlds.specs.declared.world.ComponentWorld.{ComponentWorld}
use Rattle.comp_links.specs.Lists.{IsNeededType, IsExportedType}
use Rattle.interface_needs.specs.Needs.{IsNeeded}
use Rattle.interface_needs.specs.RootNeeds.{is_lent_type, IsExportedInterface, IsUsableType}
use Rattle.interface_needs.proofs.Lending.{lent_from, same_self, used_exported}
use Rattle.interface_needs.proofs.Owners.{own_or_none, of_other, at_root, same_name}

unnamed : (o : Option (List ℕ)) → is_some o ≡ true → is_none o ≡ true → ⊥
unnamed None some none = true≢false (sym some)
unnamed (Some x) some none = true≢false (sym none)

module _ (w : ComponentWorld) (ok : IsEncodable w) (id : InterfaceId) (t : TypeId) (h : IsUsableType w id t) where
  abbrev n : ℕ
  n = t.index

  abbrev kind : TypeDefKind
  kind = kind_at w.resolve.types n

  -- whether it is at home, by the interface that owns it, where that is another one
  abbrev here : Bool
  here =
      if is_resource kind then is_lent_type w id n && (is_some (settings.name_at w.resolve.types n) && is_some (foreign None (owner_at w.resolve.types n)))
      else is_none (settings.name_at w.resolve.types n) || is_some (foreign None (owner_at w.resolve.types n))

  abbrev by_owner : Option InterfaceId → Bool
  by_owner o = elim o [ Some other ↦ is_lent_type w id n && is_some (settings.name_at w.resolve.types n) | None ↦ here ]

  is_home : by_owner (foreign (Some id) (owner_at w.resolve.types n)) ≡ true
  is_home =
      let test : ℕ → TypeDefKind → Bool = is_at_home w.resolve.types (is_lent_type w id) id in
      let whole = sym (made_whole (each_passes test) w.resolve.types n ok.sound.back h.within) ∙ h.passes in
      (and_parts (test n kind) (list_all (λ b. b) (map (value (each_passes test) w.resolve.types) (parts kind))) whole).0

  named : is_some (settings.name_at w.resolve.types n) ≡ true
  named = ap is_some (same_name w.resolve.types n) ∙ h.named

  -- a type of no interface has no name
  owned : here ≡ true → interface_at w.resolve.types n ≡ None → ⊥
  owned e none =
      let root : is_some (foreign None (owner_at w.resolve.types n)) ≡ false = ap is_some (at_root w.resolve.types n ∙ none) in
      by (is_resource kind) (is_some (foreign None (owner_at w.resolve.types n))) root e
    where
      by : (resource owner : Bool) → owner ≡ false → (if resource then is_lent_type w id n && (is_some (settings.name_at w.resolve.types n) && owner) else is_none (settings.name_at w.resolve.types n) || owner) ≡ true → ⊥
      by true owner none e =
          let b = and_parts (is_lent_type w id n) (is_some (settings.name_at w.resolve.types n) && owner) e in
          true≢false (sym (and_parts (is_some (settings.name_at w.resolve.types n)) owner b.1).1 ∙ none)
      by false owner none e = elim (or_cases (is_none (settings.name_at w.resolve.types n)) owner e) [
        | inl nameless ↦ unnamed (settings.name_at w.resolve.types n) named nameless
        | inr has ↦ true≢false (sym has ∙ none)
      ]

  -- one of another interface is one of an exported interface that this one uses, or one that a
  -- component needs of an imported one
  pub usable_lent : (other : InterfaceId) → foreign (Some id) (owner_at w.resolve.types t.index) ≡ Some other → Contains (used_exports w id) other ⊎ IsNeeded w other t
  usable_lent other is =
      let b = and_parts (is_lent_type w id n) (is_some (settings.name_at w.resolve.types n)) (ap by_owner (sym is) ∙ is_home) in
      let owner = of_other w.resolve.types n id other is in
      elim (lent_from w ok id h.exported n other owner.0 b.0) [
        | inl own ↦ absurd (true≢false (sym (ap (λ (i : InterfaceId). id.index == i.index) (sym own) ∙ same_self id) ∙ owner.1))
        | inr from ↦ from
      ]

  -- so a type is one of the interface, one that a component needs of an imported interface, or one
  -- of another exported interface
  pub usable_from : (interface_at w.resolve.types t.index ≡ Some id) ⊎ (IsNeededType w t ⊎ IsExportedType w t)
  usable_from = by (foreign (Some id) (owner_at w.resolve.types n)) refl
    where
      by : (o : Option InterfaceId) → foreign (Some id) (owner_at w.resolve.types n) ≡ o → (interface_at w.resolve.types t.index ≡ Some id) ⊎ (IsNeededType w t ⊎ IsExportedType w t)
      by (Some other) is =
          let owner = (of_other w.resolve.types n id other is).0 in
          elim (usable_lent other is) [
            | inl used ↦ let e : IsExportedInterface w other = used_exported w ok id h.exported other used in inr (inr (record { key = e.key; other = other; item = e.of; owner = owner }))
            | inr needed ↦ inr (inl (record { other = other; owner = owner; needed = needed.listed }))
          ]
      by None is = elim (own_or_none w.resolve.types n id is) [
        | inl none ↦ absurd (owned (ap by_owner (sym is) ∙ is_home) none)
        | inr own ↦ inl own
      ]
