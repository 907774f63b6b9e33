-- What is read of the landmarks of the core modules, of their instances and of the resources.
use Rattle.std.proofs.Common.{◌≡◌, ◌∙◌, Bool, ℕ, List, [], ◌∷◌, ◌++◌, length, map, refl, ap, ap₂, Option, Some, None}
use Rattle.std.proofs.lemmas.Grind.{flat_map-append}
use Rattle.std.specs.List.{flat_map, range_with_len}
use Rattle.comp_worlds.specs.declared.world.ComponentWorld.{ComponentWorld}
use Rattle.comp_links.specs.Modules.{user_modules}
use Rattle.comp_links.specs.Lists.{ProvidedType, provided_resources}
use Rattle.comp_terms.specs.Generated.{shims_number, fixup_number, GeneratedBytes}
use Rattle.comp_terms.specs.Rules.{Landmark, ResourceDefined, resources_marked, bytes_marked, users_marked, shims_marked, fixup_marked, modules_marked}

-- the bytes of a generated module, and its number, where there is one
abbrev pub bytes_if : Option (List ℕ) → List (List ℕ)
bytes_if None = []
bytes_if (Some bytes) = bytes ∷ []

abbrev pub number_if : ℕ → Option (List ℕ) → List ℕ
number_if number None = []
number_if number (Some bytes) = number ∷ []

-- the generated modules, by their bytes; and the modules in the order of their instances
abbrev pub bytes_listed : GeneratedBytes → List (List ℕ)
bytes_listed b = bytes_if b.shims ++ bytes_if b.fixup

abbrev pub user_range : ComponentWorld → List ℕ
user_range w = range_with_len 0 (length (user_modules w))

abbrev pub numbers_listed : ComponentWorld → GeneratedBytes → List ℕ
numbers_listed w b = number_if (shims_number w) b.shims ++ (user_range w ++ number_if (fixup_number w) b.fixup)

module _ {A : Type 0} (g : Landmark → List A) where
  pub mapped_nothing : {X : Type 0} (f : X → Landmark) → ((x : X) → g (f x) ≡ []) → (xs : List X) → flat_map g (map f xs) ≡ []
  mapped_nothing f none [] = refl
  mapped_nothing f none (x ∷ xs) = ap₂ (λ ys zs. ys ++ zs) (none x) (mapped_nothing f none xs)

  pub mapped_each : {X : Type 0} (f : X → Landmark) (k : X → A) → ((x : X) → g (f x) ≡ k x ∷ []) → (xs : List X) → flat_map g (map f xs) ≡ map k xs
  mapped_each f k each [] = refl
  mapped_each f k each (x ∷ xs) = ap₂ (λ ys zs. ys ++ zs) (each x) (mapped_each f k each xs)

  behind_resources : g ResourceDefined ≡ [] → (ids : List ProvidedType) (rest : List Landmark) → flat_map g (map (λ id. ResourceDefined) ids ++ rest) ≡ flat_map g rest
  behind_resources none ids rest = flat_map-append g (map (λ id. ResourceDefined) ids) rest ∙ ap (λ l. l ++ flat_map g rest) (mapped_nothing (λ (id : ProvidedType). ResourceDefined) (λ id. none) ids)

  -- what is read of all, where nothing is read of resources
  abbrev pub read_of : Bool → ComponentWorld → GeneratedBytes → List A
  read_of named w b = flat_map g (bytes_marked named w) ++ (flat_map g (shims_marked w b.shims) ++ (flat_map g (users_marked w) ++ flat_map g (fixup_marked w b.fixup)))

  pub reads_users : g ResourceDefined ≡ [] → (named : Bool) (w : ComponentWorld) (b : GeneratedBytes) → flat_map g (modules_marked named w b) ≡ read_of named w b
  reads_users none named w b =
      let shims : List Landmark = shims_marked w b.shims in
      let fixup : List Landmark = fixup_marked w b.fixup in
      flat_map-append g (bytes_marked named w) (shims ++ (resources_marked w ++ (users_marked w ++ fixup)))
      ∙ ap (λ l. flat_map g (bytes_marked named w) ++ l)
      (flat_map-append g shims (resources_marked w ++ (users_marked w ++ fixup))
      ∙ ap (λ l. flat_map g shims ++ l) (behind_resources none (provided_resources w) (users_marked w ++ fixup) ∙ flat_map-append g (users_marked w) fixup))
