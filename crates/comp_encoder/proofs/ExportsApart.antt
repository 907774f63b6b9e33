-- The names of exported interfaces are apart: the keys of two that have one name are one key.
use Rattle.std.proofs.Common.{◌≡◌, ◌∙◌, ◌++◌, ◌==◌, ◌||◌, ◌<◌, ℕ, zero, suc, Bool, true, false, true≢false, List, [], ◌∷◌, length, refl, sym, ap, subst, arith, inl, inr, Option, Some, None, append_assoc}
use Rattle.std.specs.Prelude.{◌⊎◌, Contains, IsSome, option_map, slice_index_or}
use Rattle.std.specs.List.{IsDistinct, flat_map, list_any}
use Rattle.std.specs.Str.{bytes_eq}
use Rattle.std.proofs.lemmas.Grind.{flat_map-append}
use Rattle.std.proofs.lemmas.Map.Views.{Contains-from_lookup}
use Rattle.comp_lists.proofs.Lists.{AllByRecursion-contains}
use Rattle.comp_names.proofs.Judging.{not_distinct}
use Rattle.comp_links.specs.Lists.{AreExportsApart}
use Rattle.comp_links.specs.Naming.{Naming, name_of}
use Rattle.comp_worlds.specs.WorldContents.{items_of, exported_item}
use Rattle.comp_worlds.specs.Worlds.{IsWorld, IsExportNamed, interface_text}
use Rattle.comp_worlds.specs.declared.world.ComponentWorld.{ComponentWorld}
use Rattle.wit_data.specs.Names.{canonical_id_text, canonical_key_text, id_name_of, id_text, key_text, version_part}
use Rattle.wit_data.specs.Versions.{canonical_version}
use Rattle.wit_data.specs.declared.ids.InterfaceId.{InterfaceId}
use Rattle.wit_data.specs.declared.names.IdName.{IdName}
use Rattle.wit_data.specs.declared.worlds.WorldItem.{WorldItem}
use Rattle.wit_data.specs.declared.worlds.WorldItem.TheVariants as items
use Rattle.wit_data.specs.declared.worlds.WorldKey.{WorldKey}
use Rattle.wit_data.specs.declared.worlds.WorldKey.TheVariants as keys
use Rattle.link_laws.proofs.Plain.{key_same}
use Rattle.comp_encoder.specs.CanonicalNames.{names_of_id, names_of_key}
use Rattle.comp_encoder.specs.Outputs.{NoSharedName}

-- ---- two places in a list

record IsBefore {X : Type 0} (xs : List X) (x y : X) : Type 0 where
  before : List X
  between : List X
  after : List X
  parts : xs ≡ before ++ x ∷ (between ++ y ∷ after)

cut : {X : Type 0} (xs : List X) (i : ℕ) (x : X) → i < length xs → slice_index_or xs i x ≡ x → (before : List X) × (after : List X) × (xs ≡ before ++ x ∷ after)
cut [] i x l e = absurd (omega arith)
cut (z ∷ zs) zero x l e = ([], zs, ap (λ h. h ∷ zs) e)
cut (z ∷ zs) (suc i) x l e = let c = cut zs i x (omega arith) e in (z ∷ c.0, c.1, ap (λ t. z ∷ t) c.2)

first_before : {X : Type 0} (z x y : X) (zs : List X) (j : ℕ) → z ≡ x → j < length zs → slice_index_or zs j y ≡ y → IsBefore (z ∷ zs) x y
first_before z x y zs j e l f = let c = cut zs j y l f in record { before = []; between = c.0; after = c.1; parts = ap (λ h. h ∷ zs) e ∙ ap (λ t. x ∷ t) c.2 }

later_before : {X : Type 0} (z x y : X) (zs : List X) → IsBefore zs x y → IsBefore (z ∷ zs) x y
later_before z x y zs h = record { before = z ∷ h.before; between = h.between; after = h.after; parts = ap (λ t. z ∷ t) h.parts }

-- two items of a list are one, or one comes before the other
two_places : {X : Type 0} (xs : List X) (i j : ℕ) (x y : X) → i < length xs → j < length xs → slice_index_or xs i x ≡ x → slice_index_or xs j y ≡ y → (x ≡ y) ⊎ IsBefore xs x y ⊎ IsBefore xs y x
two_places [] i j x y l m e f = absurd (omega arith)
two_places (z ∷ zs) zero zero x y l m e f = inl (sym e ∙ f)
two_places (z ∷ zs) zero (suc j) x y l m e f = inr (inl (first_before z x y zs j e (omega arith) f))
two_places (z ∷ zs) (suc i) zero x y l m e f = inr (inr (first_before z y x zs i f (omega arith) e))
two_places (z ∷ zs) (suc i) (suc j) x y l m e f = elim (two_places zs i j x y (omega arith) (omega arith) e f) [
  | inl same ↦ inl same
  | inr (inl h) ↦ inr (inl (later_before z x y zs h))
  | inr (inr h) ↦ inr (inr (later_before z y x zs h))
]

-- what is read of two of them
read_both : {X Y : Type 0} (f : X → List Y) (xs : List X) (x y : X) (a b : Y) → f x ≡ a ∷ [] → f y ≡ b ∷ [] → (h : IsBefore xs x y) →
    flat_map f xs ≡ flat_map f h.before ++ a ∷ (flat_map f h.between ++ b ∷ flat_map f h.after)
read_both f xs x y a b ea eb h =
    ap (flat_map f) h.parts
    ∙ (flat_map-append f h.before (x ∷ (h.between ++ y ∷ h.after))
    ∙ ap (λ l. flat_map f h.before ++ l) (rw (ea, flat_map-append f h.between (y ∷ h.after), eb) refl))

-- ---- names

has_colon : (before after rest version : List ℕ) → list_any (λ c. c == 0x3a) (((before ++ 58 ∷ after) ++ rest) ++ version) ≡ true
has_colon [] after rest version = refl
has_colon (x ∷ xs) after rest version = by (x == 0x3a) (has_colon xs after rest version)
  where
    by : (b : Bool) → list_any (λ c. c == 0x3a) (((xs ++ 58 ∷ after) ++ rest) ++ version) ≡ true → (b || list_any (λ c. c == 0x3a) (((xs ++ 58 ∷ after) ++ rest) ++ version)) ≡ true
    by true h = refl
    by false h = h

name_there : (o : Option IdName) → IsSome o → (name : IdName) × (o ≡ Some name)
name_there None h = absurd (true≢false (sym h))
name_there (Some name) h = (name, refl)

module _ (w : ComponentWorld) (valid : IsWorld w) where
  -- an exported interface, in the list of all exports
  listed : (key : WorldKey) (id : InterfaceId) → exported_item w key ≡ Some (items.Interface id) → Contains (items_of w).exports (key, items.Interface id)
  listed key id e = Contains-from_lookup key_same key (items.Interface id) (items_of w).exports e

  named : (key : WorldKey) (id : InterfaceId) → exported_item w key ≡ Some (items.Interface id) → IsExportNamed w.resolve (key, items.Interface id)
  named key id e = AllByRecursion-contains (IsExportNamed w.resolve) (items_of w).exports (key, items.Interface id) valid.exports_named (listed key id e)

  module _ (a b : WorldKey) (i j : InterfaceId) (ea : exported_item w a ≡ Some (items.Interface i)) (eb : exported_item w b ≡ Some (items.Interface j)) where
    -- two exported interfaces are at one key, or at two places among the exports
    places : (a ≡ b) ⊎ IsBefore (items_of w).exports (a, items.Interface i) (b, items.Interface j) ⊎ IsBefore (items_of w).exports (b, items.Interface j) (a, items.Interface i)
    places =
        let ha = listed a i ea in
        let hb = listed b j eb in
        elim (two_places (items_of w).exports ha.0 hb.0 (a, items.Interface i) (b, items.Interface j) ha.1 hb.1 ha.2 hb.2) [
          | inl same ↦ inl (ap (λ (e : WorldKey × WorldItem). e.0) same)
          | inr h ↦ inr h
        ]

  -- not at two places, where their texts are the same
  not_twice : (a b : WorldKey) (i j : InterfaceId) → key_text w.resolve a ≡ key_text w.resolve b → IsBefore (items_of w).exports (a, items.Interface i) (b, items.Interface j) → ⊥
  not_twice a b i j same h =
      let f : WorldKey × WorldItem → List (List ℕ) = interface_text w.resolve in
      let text = key_text w.resolve a in
      let read = read_both f (items_of w).exports (a, items.Interface i) (b, items.Interface j) text text refl (ap (λ t. t ∷ []) (sym same)) h in
      not_distinct text (flat_map f h.before) (flat_map f h.between) (flat_map f h.after)
      (subst (IsDistinct bytes_eq) (read ∙ sym (append_assoc (flat_map f h.before) (text ∷ flat_map f h.between) (text ∷ flat_map f h.after))) valid.exported_interfaces_apart)

  one_text : (a b : WorldKey) (i j : InterfaceId) → exported_item w a ≡ Some (items.Interface i) → exported_item w b ≡ Some (items.Interface j) → key_text w.resolve a ≡ key_text w.resolve b → a ≡ b
  one_text a b i j ea eb same = elim (places a b i j ea eb) [
    | inl e ↦ e
    | inr (inl h) ↦ absurd (not_twice a b i j same h)
    | inr (inr h) ↦ absurd (not_twice b a j i (sym same) h)
  ]

  module _ (none : NoSharedName true w) where
    -- nor where their canonical texts are
    not_shared : (a b i j : InterfaceId) (p q : IdName) → id_name_of w.resolve a ≡ Some p → id_name_of w.resolve b ≡ Some q → canonical_id_text p ≡ canonical_id_text q →
        IsBefore (items_of w).exports (keys.Interface a, items.Interface i) (keys.Interface b, items.Interface j) → ⊥
    not_shared a b i j p q ep eq same h =
        let f : WorldKey × WorldItem → List (List ℕ × List ℕ) = λ e. names_of_key w.resolve e.0 in
        let second : names_of_key w.resolve (keys.Interface b) ≡ (canonical_id_text p, id_text q) ∷ [] = ap names_of_id eq ∙ ap (λ t. (t, id_text q) ∷ []) (sym same) in
        none refl (id_text p) (id_text q) (canonical_id_text p) (inr (record {
          before = flat_map f h.before;
          between = flat_map f h.between;
          after = flat_map f h.after;
          parts =
              read_both f (items_of w).exports (keys.Interface a, items.Interface i) (keys.Interface b, items.Interface j) (canonical_id_text p, id_text p) (canonical_id_text p, id_text q) (ap names_of_id ep) second h;
        }))

    -- a plain name is no canonical text, since it has no colon
    not_canonical : (text : List ℕ) (p : IdName) → list_any (λ c. c == 0x3a) text ≡ false → text ≡ canonical_id_text p → ⊥
    not_canonical text p no_colon same =
        true≢false
        (sym (has_colon p.namespace p.package (47 ∷ p.interface) (version_part (option_map (λ v. (canonical_version v).version) p.version)))
        ∙ (ap (list_any (λ c. c == 0x3a)) (sym same) ∙ no_colon))

    canonical_of : (b : InterfaceId) (q : IdName) → id_name_of w.resolve b ≡ Some q → canonical_key_text w.resolve (keys.Interface b) ≡ canonical_id_text q
    canonical_of b q e = rw e refl

    one_canonical_text : (a b : WorldKey) (i j : InterfaceId) → exported_item w a ≡ Some (items.Interface i) → exported_item w b ≡ Some (items.Interface j) →
        canonical_key_text w.resolve a ≡ canonical_key_text w.resolve b → a ≡ b
    one_canonical_text (keys.Name s) (keys.Name t) i j ea eb same = ap keys.Name same
    one_canonical_text (keys.Name s) (keys.Interface b) i j ea eb same =
        let q = name_there (id_name_of w.resolve b) (named (keys.Interface b) j eb) in
        absurd (not_canonical s q.0 (named (keys.Name s) i ea) (same ∙ canonical_of b q.0 q.1))
    one_canonical_text (keys.Interface a) (keys.Name t) i j ea eb same =
        let p = name_there (id_name_of w.resolve a) (named (keys.Interface a) i ea) in
        absurd (not_canonical t p.0 (named (keys.Name t) j eb) (sym same ∙ canonical_of a p.0 p.1))
    one_canonical_text (keys.Interface a) (keys.Interface b) i j ea eb same =
        let p = name_there (id_name_of w.resolve a) (named (keys.Interface a) i ea) in
        let q = name_there (id_name_of w.resolve b) (named (keys.Interface b) j eb) in
        let alike : canonical_id_text p.0 ≡ canonical_id_text q.0 = sym (canonical_of a p.0 p.1) ∙ (same ∙ canonical_of b q.0 q.1) in
        elim (places (keys.Interface a) (keys.Interface b) i j ea eb) [
          | inl e ↦ e
          | inr (inl h) ↦ absurd (not_shared a b i j p.0 q.0 p.1 q.1 alike h)
          | inr (inr h) ↦ absurd (not_shared b a j i q.0 p.0 q.1 p.1 (sym alike) h)
        ]

-- whatever the naming, where canonical names are not shared if they are on
pub exports_apart : (n : Naming) (w : ComponentWorld) → IsWorld w → NoSharedName n.canonical w → AreExportsApart n w
exports_apart n w valid none a b x y same = by n.canonical none same
  where
    by : (c : Bool) → NoSharedName c w → (name_of (record n { canonical = c }) w.resolve a).name ≡ (name_of (record n { canonical = c }) w.resolve b).name → a ≡ b
    by true none same = one_canonical_text w valid none a b x.0 y.0 x.1 y.1 same
    by false none same = one_text w valid a b x.0 y.0 x.1 y.1 same
