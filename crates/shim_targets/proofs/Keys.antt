-- Keys of a world's items, of its table of imports and of lowerings: those that are the same are one.
use Rattle.std.proofs.Common.{◌≡◌, ◌∙◌, ℕ, suc, nat_eq, Bool, true, false, true≢false, ◌&&◌, List, [], Option, Some, None, refl, sym, ap, arith, rules}
use Rattle.std.specs.Str.{bytes_eq}
use Rattle.std.specs.Cmp.{IsEquivalence}
use Rattle.std.specs.Cmp.Rules.{comparing}
use Rattle.std.proofs.lemmas.Slice.Eq.{bytes_eq-Decides}
use Rattle.wit_data.specs.Keys.{is_same_key}
use Rattle.wit_data.specs.declared.functions.AbiVariant.{AbiVariant}
use Rattle.wit_data.specs.declared.worlds.WorldKey.{WorldKey}
use Rattle.wit_data.specs.declared.worlds.WorldKey.TheVariants as keys
use Rattle.comp_worlds.specs.Imported.{is_same_import_key}
use Rattle.comp_worlds.specs.Lowerings.{abi_number, is_same_lowering}
use Rattle.comp_worlds.specs.Uses.{is_same_call}
use Rattle.comp_worlds.specs.declared.lowerings.LoweringKey.{LoweringKey}

pub both_true : (a b : Bool) → (a && b) ≡ true → (a ≡ true) × (b ≡ true)
both_true true b e = (refl, e)
both_true false b e = absurd (true≢false (sym e))

pub same_text : (t : List ℕ) → bytes_eq t t ≡ true
same_text t = (bytes_eq-Decides t t).1 refl

-- ---- equalities

pub key_laws : IsEquivalence is_same_key
key_laws = search (comparing, rules)

pub import_key_laws : IsEquivalence is_same_import_key
import_key_laws = search (comparing, rules)

pub lowering_laws : IsEquivalence is_same_lowering
lowering_laws = search (comparing, rules)

pub call_laws : IsEquivalence is_same_call
call_laws = search (comparing, rules) depth 12

-- ---- what is the same is one

pub one_key : (a b : WorldKey) → is_same_key a b ≡ true → a ≡ b
one_key (keys.Name x) (keys.Name y) e = ap keys.Name ((bytes_eq-Decides x y).0 (both_true (bytes_eq x y) true e).0)
one_key (keys.Interface i) (keys.Interface j) e = by (nat_eq (suc i.index) (suc j.index)) refl e
  where
    by : (b : Bool) → nat_eq (suc i.index) (suc j.index) ≡ b → b ≡ true → keys.Interface i ≡ keys.Interface j
    by true is e = let same : i.index ≡ j.index = grind (arith, is) in ap (λ (n : ℕ). keys.Interface (record { index = n })) same
    by false is e = absurd (true≢false (sym e))
one_key (keys.Name x) (keys.Interface j) e = by (nat_eq 0 (suc j.index)) refl (both_true (bytes_eq x []) (nat_eq 0 (suc j.index)) e).1
  where
    by : (b : Bool) → nat_eq 0 (suc j.index) ≡ b → b ≡ true → keys.Name x ≡ keys.Interface j
    by true is e = absurd (grind (arith, is))
    by false is e = absurd (true≢false (sym e))
one_key (keys.Interface i) (keys.Name y) e = by (nat_eq (suc i.index) 0) refl (both_true (bytes_eq [] y) (nat_eq (suc i.index) 0) e).1
  where
    by : (b : Bool) → nat_eq (suc i.index) 0 ≡ b → b ≡ true → keys.Interface i ≡ keys.Name y
    by true is e = absurd (grind (arith, is))
    by false is e = absurd (true≢false (sym e))

pub one_import_key : (a b : Option WorldKey) → is_same_import_key a b ≡ true → a ≡ b
one_import_key None None e = refl
one_import_key (Some a) (Some b) e = ap Some (one_key a b e)
one_import_key None (Some b) e = absurd (true≢false (sym e))
one_import_key (Some a) None e = absurd (true≢false (sym e))

one_abi : (a b : AbiVariant) → nat_eq (abi_number a) (abi_number b) ≡ true → a ≡ b
one_abi a b e = search rules

pub one_lowering : (a b : LoweringKey) → is_same_lowering a b ≡ true → a ≡ b
one_lowering a b e =
    let both = both_true (bytes_eq a.name b.name) (nat_eq (abi_number a.abi) (abi_number b.abi)) e in
    ap (λ name. record { name = name; abi = a.abi }) ((bytes_eq-Decides a.name b.name).0 both.0) ∙ ap (λ abi. record { name = b.name; abi = abi }) (one_abi a.abi b.abi both.1)
