-- Tables with an entry for each interface among imports or exports, whose value follows from the interface.
use Rattle.std.proofs.Common.{◌≡◌, ◌==◌, Bool, true, false, cond, List, [], ◌∷◌, ◌++◌, Contains, inl, inr, refl, sym, ap, subst, Some, is_some}
use Rattle.std.specs.List.{AllByRecursion, flat_map}
use Rattle.std.specs.Map.{lookup}
use Rattle.std.proofs.lemmas.Bool.{eq-eqb}
use Rattle.wit_data.specs.declared.ids.InterfaceId.{InterfaceId}
use Rattle.wit_data.specs.declared.worlds.WorldItem.{WorldItem}
use Rattle.wit_data.specs.declared.worlds.WorldItem.TheVariants as items
use Rattle.wit_data.specs.declared.worlds.WorldKey.{WorldKey}
use Rattle.world_values.specs.Mentions.{same_interface}
use Rattle.world_values.specs.Tables.{with_all}
use Rattle.comp_worlds.specs.Encodable.{Entries}
use Rattle.interface_needs.proofs.Lists.{contains_none, contains_cons}
use Rattle.interface_needs.proofs.Owners.{same_id}
use Rattle.interface_needs.proofs.Tables.{made_finds}

-- the entry of an item, where it is an interface
abbrev pub entered : {X : Type 0} → (InterfaceId → X) → WorldItem → List (InterfaceId × X)
entered value (items.Interface id) = (id, value id) ∷ []
entered value item = []

module _ {X : Type 0} (value : InterfaceId → X) where
  entries_valued : (es : Entries) → AllByRecursion (λ e. e.1 ≡ value e.0) (flat_map (λ e. entered value e.1) es)
  entries_valued [] = tt
  entries_valued ((key, items.Interface id) ∷ es) = (refl, entries_valued es)
  entries_valued ((key, items.Function f) ∷ es) = entries_valued es
  entries_valued ((key, items.NamedType t) ∷ es) = entries_valued es

  entry_later : (id : InterfaceId) (item : WorldItem) (rest : List (InterfaceId × X)) → is_some (lookup (λ (other : InterfaceId). id.index == other.index) rest) ≡ true →
      is_some (lookup (λ (other : InterfaceId). id.index == other.index) (entered value item ++ rest)) ≡ true
  entry_later id (items.Interface other) rest h = by (id.index == other.index)
    where
      by : (b : Bool) → is_some (cond b (Some (value other)) (lookup (λ (other : InterfaceId). id.index == other.index) rest)) ≡ true
      by true = refl
      by false = h
  entry_later id (items.Function f) rest h = h
  entry_later id (items.NamedType t) rest h = h

  entry_there : (id : InterfaceId) (key : WorldKey) (es : Entries) → Contains es (key, items.Interface id) → is_some (lookup (λ (other : InterfaceId). id.index == other.index) (flat_map (λ e. entered value e.1) es)) ≡ true
  entry_there id key [] c = contains_none (key, items.Interface id) c
  entry_there id key (e ∷ es) c =
      let rest = flat_map (λ e. entered value e.1) es in
      elim (contains_cons e es (key, items.Interface id) c) [
        | inl same ↦ subst (λ x. is_some (lookup (λ (other : InterfaceId). id.index == other.index) (entered value x.1 ++ rest)) ≡ true) (sym same)
            (ap (λ b. is_some (cond b (Some (value id)) (lookup (λ (other : InterfaceId). id.index == other.index) rest))) (eq-eqb id.index id.index refl))
        | inr later ↦ entry_later id e.1 rest (entry_there id key es later)
      ]

  -- what such a table finds
  pub entered_found : (id : InterfaceId) (key : WorldKey) (es : Entries) → Contains es (key, items.Interface id) → lookup (λ (other : InterfaceId). id.index == other.index) (with_all same_interface [] (flat_map (λ e. entered value e.1) es)) ≡ Some (value id)
  entered_found id key es c =
      made_finds same_interface value (λ (other : InterfaceId). id.index == other.index) id (flat_map (λ e. entered value e.1) es) (λ j e. sym (same_id id j e)) (λ j t e. e) (entries_valued es) (entry_there id key es c)
