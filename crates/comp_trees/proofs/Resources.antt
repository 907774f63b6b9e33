-- The test of whether two resources are one decides it.
use Rattle.std.proofs.Common.{◌≡◌, ◌∙◌, ℕ, Bool, true, false, ◌&&◌, List, Option, Some, None, refl, ap, sym, true≢false}
use Rattle.std.specs.Prelude.{◌==◌}
use Rattle.std.specs.Option.{option_eq}
use Rattle.std.specs.Str.{bytes_eq}
use Rattle.std.proofs.lemmas.Bool.Decides.{Decides-eqb}
use Rattle.std.proofs.lemmas.Slice.Eq.{bytes_eq-Decides}
use Rattle.comp_trees.specs.Trees.{Origin, Resource, ImportedAt, DefinedAt, same_origin, same_resource}
use Rattle.comp_trees.proofs.Knowing.{both}

parts_of_both : (a b : Bool) → (a && b) ≡ true → (a ≡ true) × (b ≡ true)
parts_of_both true b e = (refl, e)
parts_of_both false b e = absurd (true≢false (sym e))

one_inner : (a b : Option (List ℕ)) → option_eq bytes_eq a b ≡ true → a ≡ b
one_inner None None e = refl
one_inner (Some a) (Some b) e = ap Some ((bytes_eq-Decides a b).0 e)
one_inner None (Some b) e = absurd (true≢false (sym e))
one_inner (Some a) None e = absurd (true≢false (sym e))

inner_itself : (a : Option (List ℕ)) → option_eq bytes_eq a a ≡ true
inner_itself None = refl
inner_itself (Some a) = (bytes_eq-Decides a a).1 refl

abbrev origin_of : ℕ → Option (List ℕ) → Origin
origin_of number inner = record { number = number; inner = inner }

one_origin : (a b : Origin) → same_origin a b ≡ true → a ≡ b
one_origin a b e =
    let parts = parts_of_both (a.number == b.number) (option_eq bytes_eq a.inner b.inner) e in
    ap (λ n. origin_of n a.inner) ((Decides-eqb a.number b.number).0 parts.0) ∙ ap (λ i. origin_of b.number i) (one_inner a.inner b.inner parts.1)

pub one_resource : (a b : Resource) → same_resource a b ≡ true → a ≡ b
one_resource (ImportedAt a) (ImportedAt b) e = ap ImportedAt (one_origin a b e)
one_resource (DefinedAt a) (DefinedAt b) e = ap DefinedAt ((Decides-eqb a b).0 e)
one_resource (ImportedAt a) (DefinedAt b) e = absurd (true≢false (sym e))
one_resource (DefinedAt a) (ImportedAt b) e = absurd (true≢false (sym e))

pub resource_itself : (a : Resource) → same_resource a a ≡ true
resource_itself (ImportedAt a) = both ((Decides-eqb a.number a.number).1 refl) (inner_itself a.inner)
resource_itself (DefinedAt a) = (Decides-eqb a a).1 refl
