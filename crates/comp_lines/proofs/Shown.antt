-- Definitions that some bytes encode: none of the counts and sizes that are shown passes 32 bits.
use Rattle.std.proofs.Common.{◌≡◌, ℕ, List, [], ◌∷◌, ◌++◌, Bool, true, false, map, refl, sym, ap, subst, Result, Ok, Err, arith}
use Rattle.std.specs.Prelude.{IfErr, ◌<◌, ◌^◌}
use Rattle.std.specs.List.{flat_map}
use Rattle.std.proofs.lemmas.Grind.{flat_map-append}
use Rattle.comp_lists.proofs.Lists.{AllByRecursion-front, AllByRecursion-back, AllByRecursion-contains}
use Rattle.byte_encoding.specs.Encoding.{Encoding, Fits, each}
use Rattle.comp_bytes.specs.Sections.{Entry, Section, shares, first_id, section, contents, component}
use Rattle.comp_bytes.specs.Grammar.{item, definition, extern_name, description_bytes, Encodes}
use Rattle.byte_encoding.specs.Written.{Refused}
use Rattle.comp_bytes.specs.declared.def.Item.{Item}
use Rattle.comp_bytes.specs.declared.def.Item.TheVariants as items
use Rattle.comp_bytes.specs.declared.def.Def.{Def}
use Rattle.comp_bytes.specs.declared.def.Def.TheVariants as defs
use Rattle.byte_encoding.specs.declared.fault.BuildFault.{BuildFault}
use Rattle.byte_encoding.specs.declared.fault.BuildFault.TheVariants.{Memory, TooMany}
use Rattle.comp_bytes.proofs.Groups.{group_section, grouped}
use Rattle.comp_lines.specs.Lines.{shown, shown_counts}

fits_front : (a b : List ℕ) → Fits (a ++ b) → Fits a
fits_front a b h = AllByRecursion-front (λ n. n < 2 ^ 32) a b h

fits_back : (a b : List ℕ) → Fits (a ++ b) → Fits b
fits_back a b h = AllByRecursion-back (λ n. n < 2 ^ 32) a b h

fits_both : (a b : List ℕ) → Fits a → Fits b → Fits (a ++ b)
fits_both [] b h k = k
fits_both (n ∷ a) b h k = (h.0, fits_both a b h.1 k)

flat_fits : {A : Type 0} (p q : A → List ℕ) → ((x : A) → Fits (p x) → Fits (q x)) → (xs : List A) → Fits (flat_map p xs) → Fits (flat_map q xs)
flat_fits p q f [] h = tt
flat_fits p q f (x ∷ xs) h = fits_both (q x) (flat_map q xs) (f x (fits_front (p x) (flat_map p xs) h)) (flat_fits p q f xs (fits_back (p x) (flat_map p xs) h))

contents_fit : (shared : Bool) (texts : List Encoding) → Fits (contents (λ t. t) shared texts).counts → Fits (flat_map (λ t. t.counts) texts)
contents_fit true texts h = h.1
contents_fit false texts h = h

section_fits : (id : ℕ) (texts : List Encoding) → Fits (section (record { id = id; texts = texts })).counts → Fits (flat_map (λ t. t.counts) texts)
section_fits id texts h = contents_fit (shares id) texts h.1

counts_of : {A : Type 0} (f : A → Entry) (xs : List A) → flat_map (λ t. t.counts) (map (λ e. e.text) (map f xs)) ≡ flat_map (λ x. (f x).text.counts) xs
counts_of f [] = refl
counts_of f (x ∷ xs) = ap (λ l. (f x).text.counts ++ l) (counts_of f xs)

groups_fit : {A : Type 0} (f : A → Entry) (gs : List (List A)) → Fits (each section (map (group_section f) gs)).counts → Fits (flat_map (λ x. (f x).text.counts) (flat_map (λ g. g) gs))
groups_fit f [] h = tt
groups_fit f (g ∷ gs) h =
    let own : List ℕ = (section (group_section f g)).counts in
    let rest : List ℕ = (each section (map (group_section f) gs)).counts in
    let first : Fits (flat_map (λ x. (f x).text.counts) g) =
    subst (λ (l : List ℕ). Fits l) (counts_of f g) (section_fits (first_id (map f g)) (map (λ e. e.text) (map f g)) (fits_front own rest h)) in
    subst (λ (l : List ℕ). Fits l) (sym (flat_map-append (λ x. (f x).text.counts) g (flat_map (λ g. g) gs)))
    (fits_both (flat_map (λ x. (f x).text.counts) g) (flat_map (λ x. (f x).text.counts) (flat_map (λ g. g) gs)) first (groups_fit f gs (fits_back own rest h)))

component_fits : {A : Type 0} (f : A → Entry) (xs : List A) → Fits (component (map f xs)).counts → Fits (flat_map (λ x. (f x).text.counts) xs)
component_fits {A} f xs h =
    let g = grouped f xs in
    let whole : Fits (each section (map (group_section f) g.groups)).counts = subst (λ (ss : List Section). Fits (each section ss).counts) g.are h in
    subst (λ (l : List A). Fits (flat_map (λ x. (f x).text.counts) l)) g.join (groups_fit f g.groups whole)

item_fits : (i : Item) → Fits (item i).text.counts → Fits (shown i).counts
item_fits (items.CoreModule bytes) h = tt
item_fits (items.CoreInstantiate made args) h = tt
item_fits (items.CoreExports entries) h = tt
item_fits (items.Instantiate made args) h = tt
item_fits (items.Alias a) h = tt
item_fits (items.Type t) h = h
item_fits (items.InstanceType t) h = h
item_fits (items.Lift func options ty) h = tt
item_fits (items.Lower func options) h = tt
item_fits (items.Intrinsic i) h = h
item_fits (items.Import name description) h = fits_back (extern_name name).counts (description_bytes description).counts h
item_fits (items.Export name sort index description) h = tt
item_fits (items.Custom name contents) h = tt

definition_fits : (d : Def) → Fits (definition d).text.counts → Fits (shown_counts d)
definition_fits (defs.Item i) h = item_fits i h
definition_fits (defs.Component inner) h = flat_fits (λ i. (item i).text.counts) (λ i. (shown i).counts) item_fits inner (component_fits item inner h)

pub encoded_fits : (bytes : List ℕ) (ds : List Def) → Encodes bytes ds → Fits (flat_map shown_counts ds)
encoded_fits bytes ds h = flat_fits (λ d. (definition d).text.counts) shown_counts definition_fits ds (component_fits definition ds h.0)

-- the only error of definitions that some bytes encode is out of memory
pub only_memory : {A : Type 0} (ds : List Def) (r : Result A BuildFault) → IfErr r (Refused (flat_map shown_counts ds)) → IfErr r (λ e. (bytes : List ℕ) → Encodes bytes ds → e ≡ Memory)
only_memory ds (Ok x) h = tt
only_memory ds (Err Memory) h = λ bytes s. refl
only_memory ds (Err (TooMany n)) h =
    λ bytes s. let small : n < 2 ^ 32 = AllByRecursion-contains (λ m. m < 2 ^ 32) (flat_map shown_counts ds) n (encoded_fits bytes ds s) h.1 in absurd (omega (arith, small, h.0))
