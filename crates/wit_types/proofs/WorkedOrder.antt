-- Worked examples: parts of trees, and what is added for a function.
use Rattle.std.proofs.Common.{◌≡◌, inl, inr, false, List, [], ◌∷◌, ◌++◌, refl, ap, sym, subst, ◌∙◌, append_assoc, arith, Some}
use Rattle.std.specs.Prelude.{codes}
use Rattle.std.specs.List.{AllByRecursion}
use Rattle.standard_kinds.specs.declared.kinds.Primitive.TheVariants as prims
use Rattle.comp_bytes.specs.declared.types.ComponentValType.{ComponentValType}
use Rattle.comp_bytes.specs.declared.types.ComponentValType.TheVariants as values
use Rattle.wit_types.specs.Denoting.{ValueDenotes}
use Rattle.comp_trees.specs.Trees.{Tree, PrimitiveOf, RecordOf, ListOf, OptionOf, Nil, Cons, FunctionTree}
use Rattle.comp_trees.specs.DefinedTrees.{TypeTree, OfValues, OfFunctions}
use Rattle.wit_types.specs.Order.{PartOf, IsPart, named_types, AddsFunction}

abbrev text : Tree
text = PrimitiveOf prims.String

abbrev texts : Tree
texts = ListOf text

-- record { a: list<string>, b: option<string> }
abbrev fields : Tree
fields = RecordOf (codes "a" ∷ codes "b" ∷ []) (Cons texts (Cons (OptionOf text) Nil))

itself : PartOf fields fields
itself = inl refl

field : PartOf texts fields
field = inr (inl (inl refl))

-- the second field's, two steps down
inner : PartOf text fields
inner = inr (inr (inl (inr (inl refl))))

-- a list of lists is no part of a list of texts
not_inside : PartOf (ListOf texts) texts → ⊥
not_inside (inl e) = cc
not_inside (inr (inl e)) = cc
not_inside (inr (inr i)) = absurd i

-- f: func(a: list<string>) -> option<string>
abbrev f : FunctionTree
f = record { is_async = false; params = record { name = codes "a"; tree = texts } ∷ []; result = Some (OptionOf text) }

named : named_types f ≡ texts ∷ OptionOf text ∷ []
named = refl

abbrev in_order : List TypeTree
in_order = OfValues texts ∷ OfValues (OptionOf text) ∷ OfFunctions f ∷ []

-- the parameter's, the result's, and the type of the function
param_first : AddsFunction [] in_order f
param_first = record {
  before = OfValues texts ∷ OfValues (OptionOf text) ∷ [];
  encoded = (
    OfValues texts ∷ [],
    record {
      adds = record { more = OfValues texts ∷ []; longer = refl; only = (inl refl, tt) };
      value = values.Defined 0;
      denotes = record { is = record { within = omega arith; tree = refl } };
    },
    (
      OfValues texts ∷ OfValues (OptionOf text) ∷ [],
      record {
        adds = record { more = OfValues (OptionOf text) ∷ []; longer = refl; only = (inl refl, tt) };
        value = values.Defined 1;
        denotes = record { is = record { within = omega arith; tree = refl } };
      },
      refl,
    ),
  );
  last = record { added = refl };
}

-- the result's first is another order
abbrev result_first : List TypeTree
result_first = OfValues (OptionOf text) ∷ OfValues texts ∷ OfFunctions f ∷ []

head_is : {A : Type 0} (a x : A) (bs xs : List A) → a ∷ bs ≡ x ∷ xs → a ≡ x
head_is a x bs xs e = cc

not_part : PartOf (OptionOf text) texts → ⊥
not_part (inl e) = cc
not_part (inr (inl e)) = cc
not_part (inr (inr i)) = absurd i

not_there : (v : ComponentValType) → ValueDenotes [] v texts → ⊥
not_there (values.Primitive p) d = let e = d.is in cc
not_there (values.Defined i) d = let within = d.is.within in omega (arith, within)

not_first : (more rest : List TypeTree) (v : ComponentValType) → result_first ≡ more ++ rest → AllByRecursion (IsPart texts) more → ValueDenotes more v texts → ⊥
not_first [] rest v e only d = not_there v d
not_first (x ∷ xs) rest v e only d = not_part (subst (IsPart texts) (sym (head_is (OfValues (OptionOf text)) x (OfValues texts ∷ OfFunctions f ∷ []) (xs ++ rest) e)) only.0)

result_refused : AddsFunction [] result_first f → ⊥
result_refused h =
    let param = h.encoded.1 in
    let result = h.encoded.2.1 in
    let rest = result.adds.more ++ OfFunctions f ∷ [] in
    let before : h.before ≡ param.adds.more ++ result.adds.more = h.encoded.2.2 ∙ (result.adds.longer ∙ ap (λ ts. ts ++ result.adds.more) param.adds.longer) in
    not_first param.adds.more rest param.value
    (h.last.added ∙ (ap (λ ts. ts ++ OfFunctions f ∷ []) before ∙ append_assoc param.adds.more result.adds.more (OfFunctions f ∷ [])))
    param.adds.only (subst (λ ts. ValueDenotes ts param.value texts) param.adds.longer param.denotes)
