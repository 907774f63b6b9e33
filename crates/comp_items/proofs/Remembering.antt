-- What a component under construction remembers holds while it grows, and with a new entry.
use Rattle.std.proofs.Common.{◌≡◌, ◌∙◌, ◌==◌, ◌&&◌, ◌⊎◌, inl, inr, ℕ, Bool, true, false, List, [], ◌∷◌, ◌++◌, refl, sym, ap, subst, Option, Some, None, cond, if◌then◌else◌, is_some}
use Rattle.std.specs.Map.{lookup}
use Rattle.std.specs.Str.{bytes_eq}
use Rattle.std.proofs.lemmas.Bool.Decides.{Decides-eqb}
use Rattle.std.proofs.lemmas.Option.{same_Some}
use Rattle.std.proofs.lemmas.Slice.Eq.{bytes_eq-Decides}
use Rattle.comp_lists.specs.Tables.{with_first}
use Rattle.standard_kinds.specs.declared.kinds.ExportKind.{ExportKind}
use Rattle.standard_kinds.specs.declared.kinds.ExportKind.TheVariants as kinds
use Rattle.comp_bytes.specs.ItemIndices.{IsAt}
use Rattle.comp_bytes.specs.Spaces.{kind_space}
use Rattle.comp_bytes.specs.declared.def.Def.{Def}
use Rattle.comp_builder.specs.Built.{Built}
use Rattle.comp_terms.specs.Terms.{IsInstanceOf, IsExported}
use Rattle.comp_items.specs.AliasKeys.{kind_number, is_same_alias}
use Rattle.comp_items.specs.Items.{Extends, alias_of, IsItems}
use Rattle.comp_items.specs.declared.alias_key.AliasKey.{AliasKey}
use Rattle.comp_items.proofs.Kept.{Longer, at-kept, instance-kept}

pub longer : {old new : Built} → Extends old new → Longer old.defs new.defs
longer g = record { more = g.more_defs; grown = g.defs }

pub items-kept : {old new : Built} {aliased : List (AliasKey × ℕ)} → Extends old new → IsItems old.defs aliased → IsItems new.defs aliased
items-kept g h = record { aliases = λ k i e. at-kept (longer g) (h.aliases k i e) }

-- one definition more
pub items-by : {old new : List Def} {aliased : List (AliasKey × ℕ)} (d : Def) → new ≡ old ++ d ∷ [] → IsItems old aliased → IsItems new aliased
items-by {old} {new} d grown h =
    let g : Longer old new = record { more = d ∷ []; grown = grown } in record { aliases = λ k i e. at-kept g (h.aliases k i e) }

-- ---- aliases

left_of : (b c : Bool) → (b && c) ≡ true → b ≡ true
left_of true c e = refl
left_of false c e = cc

right_of : (b c : Bool) → (b && c) ≡ true → c ≡ true
right_of true c e = e
right_of false c e = cc

same_kind : (k l : ExportKind) → (kind_number k == kind_number l) ≡ true → k ≡ l
same_kind kinds.Func kinds.Func e = refl
same_kind kinds.Func kinds.Table e = cc
same_kind kinds.Func kinds.Memory e = cc
same_kind kinds.Func kinds.Global e = cc
same_kind kinds.Table kinds.Func e = cc
same_kind kinds.Table kinds.Table e = refl
same_kind kinds.Table kinds.Memory e = cc
same_kind kinds.Table kinds.Global e = cc
same_kind kinds.Memory kinds.Func e = cc
same_kind kinds.Memory kinds.Table e = cc
same_kind kinds.Memory kinds.Memory e = refl
same_kind kinds.Memory kinds.Global e = cc
same_kind kinds.Global kinds.Func e = cc
same_kind kinds.Global kinds.Table e = cc
same_kind kinds.Global kinds.Memory e = cc
same_kind kinds.Global kinds.Global e = refl

-- keys that are the same name the same export
same_key : (k l : AliasKey) → is_same_alias k l ≡ true → k ≡ l
same_key k l e =
    let pair : ((k.instance == l.instance) && (kind_number k.kind == kind_number l.kind)) ≡ true =
    left_of ((k.instance == l.instance) && (kind_number k.kind == kind_number l.kind)) (bytes_eq k.name l.name) e in
    let instance : k.instance ≡ l.instance =
    (Decides-eqb k.instance l.instance).0 (left_of (k.instance == l.instance) (kind_number k.kind == kind_number l.kind) pair) in
    let kind : k.kind ≡ l.kind = same_kind k.kind l.kind (right_of (k.instance == l.instance) (kind_number k.kind == kind_number l.kind) pair) in
    let name : k.name ≡ l.name = (bytes_eq-Decides k.name l.name).0 (right_of ((k.instance == l.instance) && (kind_number k.kind == kind_number l.kind)) (bytes_eq k.name l.name) e) in
    ap (λ n. record { instance = n; kind = k.kind; name = k.name }) instance
    ∙ (ap (λ n. record { instance = l.instance; kind = n; name = k.name }) kind ∙ ap (λ n. record { instance = l.instance; kind = l.kind; name = n }) name)

last_of : {X : Type 0} (b : Bool) (x i : X) → cond b (Some x) None ≡ Some i → (b ≡ true) × (x ≡ i)
last_of true x i e = (refl, same_Some x i e)
last_of false x i e = cc

earlier : {X : Type 0} {Q : Type 0} (b : Bool) (x y z : Option X) (i : X) → (z ≡ Some i → (y ≡ Some i) ⊎ Q) → cond b x z ≡ Some i → (cond b x y ≡ Some i) ⊎ Q
earlier true x y z i f h = inl h
earlier false x y z i f h = f h

-- what is found behind a new entry was there, or is that entry
found_last : (q k : AliasKey) (v i : ℕ) (es : List (AliasKey × ℕ)) → lookup (is_same_alias q) (es ++ (k, v) ∷ []) ≡ Some i → (lookup (is_same_alias q) es ≡ Some i) ⊎ ((is_same_alias q k ≡ true) × (v ≡ i))
found_last q k v i [] h = inr (last_of (is_same_alias q k) v i h)
found_last q k v i (e ∷ es) h = earlier (is_same_alias q e.0) (Some e.1) (lookup (is_same_alias q) es) (lookup (is_same_alias q) (es ++ (k, v) ∷ [])) i (found_last q k v i es) h

found_cases : (q k : AliasKey) (v i : ℕ) (es : List (AliasKey × ℕ)) → lookup (is_same_alias q) (with_first is_same_alias es k v) ≡ Some i →
    (lookup (is_same_alias q) es ≡ Some i) ⊎ ((is_same_alias q k ≡ true) × (v ≡ i))
found_cases q k v i es h = by (is_some (lookup (is_same_alias k) es)) h
  where
    by : (b : Bool) → lookup (is_same_alias q) (if b then es else es ++ (k, v) ∷ []) ≡ Some i → (lookup (is_same_alias q) es ≡ Some i) ⊎ ((is_same_alias q k ≡ true) × (v ≡ i))
    by true e = inl e
    by false e = found_last q k v i es e

pub items-aliased : {ds : List Def} {aliased : List (AliasKey × ℕ)} (new : List (AliasKey × ℕ)) (key : AliasKey) (index : ℕ) → new ≡ with_first is_same_alias aliased key index →
    IsAt ds (kind_space key.kind) index (alias_of key) → IsItems ds aliased → IsItems ds new
items-aliased {ds} {aliased} new key index pushed at h = record {
  aliases = λ q i e. elim (found_cases q key index i aliased (subst (λ l. lookup (is_same_alias q) l ≡ Some i) pushed e)) [
    | inl before ↦ h.aliases q i before
    | inr p ↦ subst (λ (k : AliasKey). IsAt ds (kind_space k.kind) i (alias_of k)) (sym (same_key q key p.0)) (subst (λ n. IsAt ds (kind_space key.kind) n (alias_of key)) p.1 at)
  ];
}

-- an alias of the instance of a module
pub alias_exported : (old new : List Def) → Longer old new → (key : AliasKey) (index number : ℕ) → IsAt new (kind_space key.kind) index (alias_of key) → IsInstanceOf old key.instance number →
    IsExported new index (record { of = number; kind = key.kind; name = key.name })
alias_exported old new g key index number at of = record { instance = key.instance; made = at; of = instance-kept g of }
