-- Tables by name that are made of a list: each entry of the list is added, unless its name is there.
use Rattle.std.proofs.Common.{◌≡◌, ℕ, ◌+◌, ◌<◌, Bool, true, false, cond, List, [], ◌∷◌, ◌++◌, length, get_or, drop, add-one, append-nil, Option, Some, None, Bor, refl, sym, ap, subst, ◌∙◌}
use Rattle.std.proofs.Math.Seq.{drop-cons}
use Rattle.std.specs.Option.{option_or, option_copied}
use Rattle.std.specs.Str.{bytes_eq}
use Rattle.comp_lists.specs.Found.{found}
use Rattle.comp_lists.specs.Tables.{with_first}
use Rattle.comp_lists.proofs.Lookups.{found-with_first}
use Rattle.comp_roles.specs.declared.libraries.Instance.{Instance}
use Rattle.comp_roles.specs.declared.libraries.Item.{Item}
use Rattle.comp_roles.specs.declared.libraries.LibraryArgument.{LibraryArgument}
use Rattle.record_imports.specs.Arguments.{Arguments, argument_for, item_under}

-- ---- one entry more

found_either : {X : Type 0} (name k : List ℕ) (v : X) (table : List (List ℕ × X)) → found name (table ++ (k, v) ∷ []) ≡ option_or (found name table) (cond (bytes_eq name k) (Some v) None)
found_either name k v [] = refl
found_either name k v (e ∷ es) = by (bytes_eq name e.0) (found_either name k v es)
  where
    by : (b : Bool) → found name (es ++ (k, v) ∷ []) ≡ option_or (found name es) (cond (bytes_eq name k) (Some v) None)
        → cond b (Some e.1) (found name (es ++ (k, v) ∷ [])) ≡ option_or (cond b (Some e.1) (found name es)) (cond (bytes_eq name k) (Some v) None)
    by true h = refl
    by false h = h

added : {X : Type 0} (name k : List ℕ) (v : X) (table : List (List ℕ × X)) → found name (with_first bytes_eq table k v) ≡ option_or (found name table) (cond (bytes_eq name k) (Some v) None)
added name k v table =
    ap (λ t. found name t) (sym (append-nil (with_first bytes_eq table k v))) ∙ found-with_first name k v table [] ∙ found_either name k v table

either : {X : Type 0} (o : Option X) (b : Bool) (v : X) (rest : Option X) → option_or (option_or o (cond b (Some v) None)) rest ≡ option_or o (cond b (Some v) rest)
either None true v rest = refl
either None false v rest = refl
either (Some x) b v rest = refl

either_copied : {X : Type 0} (o : Option (Bor X)) (b : Bool) (v : Bor X) (rest : Option X) → option_or (option_copied (option_or o (cond b (Some v) None))) rest ≡ option_or (option_copied o) (cond b (Some v.now) rest)
either_copied None true v rest = refl
either_copied None false v rest = refl
either_copied (Some x) b v rest = refl

-- ---- the entry at an index

drop_at : {E : Type 0} (es : List E) (i : ℕ) (e : E) → i < length es → e ≡ get_or es i e → drop i es ≡ e ∷ drop (i + 1) es
drop_at es i e l is = rw (drop-cons es i e l, ← is, add-one) refl

-- ---- items

-- the table has the items before these
pub record ItemsSoFar (table : List (List ℕ × Bor Item)) (left all : List Item) : Type 0 where
  pub finds : (alias : List ℕ) → option_or (option_copied (found alias table)) (item_under left alias) ≡ item_under all alias

items_step : (table : List (List ℕ × Bor Item)) (alias : List ℕ) (item : Bor Item) (left all : List Item) → alias ≡ item.now.alias → ItemsSoFar table (item.now ∷ left) all → ItemsSoFar (with_first bytes_eq table alias item) left all
items_step table alias item left all same h = record {
  finds = λ name.
      ap (λ o. option_or (option_copied o) (item_under left name)) (added name alias item table)
      ∙ either_copied (found name table) (bytes_eq name alias) item (item_under left name)
      ∙ ap (λ (k : List ℕ). option_or (option_copied (found name table)) (cond (bytes_eq name k) (Some item.now) (item_under left name))) same
      ∙ h.finds name;
}

pub items_next : (table next : List (List ℕ × Bor Item)) (items : List Item) (i : ℕ) (alias : List ℕ) (item : Bor Item) → i < length items → item.now ≡ get_or items i item.now → alias ≡ item.now.alias → next ≡ with_first bytes_eq table alias item
    → ItemsSoFar table (drop i items) items → ItemsSoFar next (drop (i + 1) items) items
items_next table next items i alias item l is same made h =
    subst (λ (t : List (List ℕ × Bor Item)). ItemsSoFar t (drop (i + 1) items) items) (sym made)
    (items_step table alias item (drop (i + 1) items) items same (subst (λ (left : List Item). ItemsSoFar table left items) (drop_at items i item.now l is) h))

-- ---- arguments

-- the table has the arguments before these
pub record ArgumentsSoFar (table : List (List ℕ × Instance)) (left all : Arguments) : Type 0 where
  pub finds : (name : List ℕ) → option_or (found name table) (argument_for left name) ≡ argument_for all name

arguments_step : (table : List (List ℕ × Instance)) (name : List ℕ) (instance : Instance) (argument : LibraryArgument) (left all : Arguments) → name ≡ argument.name → instance ≡ argument.instance
    → ArgumentsSoFar table (argument ∷ left) all → ArgumentsSoFar (with_first bytes_eq table name instance) left all
arguments_step table name instance argument left all same is h = record {
  finds = λ n.
      ap (λ o. option_or o (argument_for left n)) (added n name instance table)
      ∙ either (found n table) (bytes_eq n name) instance (argument_for left n)
      ∙ ap (λ (k : List ℕ). option_or (found n table) (cond (bytes_eq n k) (Some instance) (argument_for left n))) same
      ∙ ap (λ (i : Instance). option_or (found n table) (cond (bytes_eq n argument.name) (Some i) (argument_for left n))) is
      ∙ h.finds n;
}

pub arguments_next : (table next : List (List ℕ × Instance)) (all : Arguments) (i : ℕ) (name : List ℕ) (instance : Instance) (argument : LibraryArgument) → i < length all → argument ≡ get_or all i argument → name ≡ argument.name
    → instance ≡ argument.instance → next ≡ with_first bytes_eq table name instance → ArgumentsSoFar table (drop i all) all → ArgumentsSoFar next (drop (i + 1) all) all
arguments_next table next all i name instance argument l is same given made h =
    subst (λ (t : List (List ℕ × Instance)). ArgumentsSoFar t (drop (i + 1) all) all) (sym made)
    (arguments_step table name instance argument (drop (i + 1) all) all same given (subst (λ (left : Arguments). ArgumentsSoFar table left all) (drop_at all i argument l is) h))
