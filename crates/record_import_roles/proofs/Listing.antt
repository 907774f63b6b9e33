-- Lists of functions: what is found under a name is the list of that function.
use Rattle.std.proofs.Common.{◌≡◌, ℕ, Bool, true, false, cond, List, [], ◌∷◌, ◌++◌, Option, Some, None, is_some, refl, sym, ap, ◌∙◌, true≢false, ◌&&◌}
use Rattle.std.specs.Prelude.{nat_eq}
use Rattle.std.specs.Option.{option_eq, option_map_or}
use Rattle.std.specs.List.{slice_get}
use Rattle.std.specs.Map.{lookup}
use Rattle.std.specs.Bool.{beq}
use Rattle.std.specs.Str.{bytes_eq}
use Rattle.std.specs.Cmp.{booleans_Decides}
use Rattle.std.proofs.lemmas.Slice.Eq.{bytes_eq-Decides}
use Rattle.std.proofs.lemmas.Bool.Decides.{Decides-eqb}
use Rattle.record_values.specs.declared.roles.PayloadKind.{PayloadKind}
use Rattle.record_values.specs.declared.types.Func.{Func}
use Rattle.record_sides.specs.Sides.{function_at}
use Rattle.record_sides.specs.declared.indexed.RecordWorld.{RecordWorld}
use Rattle.record_import_roles.specs.declared.met_world.FunctionName.{FunctionName}
use Rattle.record_import_roles.specs.FunctionNames.{is_same_function}
use Rattle.record_import_roles.specs.ImportRoles.{side_of, is_kind, is_met}
use Rattle.record_import_roles.specs.Listed.{kinds_of, is_among, AreListed}
use Rattle.record_import_roles.specs.Payloads.{Met, met_in_function}

-- ---- names that are the same are one

both : (a b : Bool) → (a && b) ≡ true → (a ≡ true) × (b ≡ true)
both true b e = (refl, e)
both false b e = absurd (true≢false (sym e))

one_owner : (x y : Option ℕ) → option_eq nat_eq x y ≡ true → x ≡ y
one_owner None None e = refl
one_owner (Some x) (Some y) e = ap Some ((Decides-eqb x y).0 e)
one_owner None (Some y) e = absurd (true≢false (sym e))
one_owner (Some x) None e = absurd (true≢false (sym e))

function_by : (f g : FunctionName) → f.imported ≡ g.imported → f.owner_index ≡ g.owner_index → f.name ≡ g.name → f ≡ g
function_by f g i o n =
    let build : Bool → Option ℕ → List ℕ → FunctionName = λ a b c. record { imported = a; owner_index = b; name = c } in
    ap (λ z. build z f.owner_index f.name) i ∙ (ap (λ z. build g.imported z f.name) o ∙ ap (λ z. build g.imported g.owner_index z) n)

one_function : (f g : FunctionName) → is_same_function f g ≡ true → f ≡ g
one_function f g e =
    let b = both (beq f.imported g.imported) (option_eq nat_eq f.owner_index g.owner_index && bytes_eq f.name g.name) e in
    let c = both (option_eq nat_eq f.owner_index g.owner_index) (bytes_eq f.name g.name) b.1 in
    function_by f g ((booleans_Decides f.imported g.imported).0 b.0) (one_owner f.owner_index g.owner_index c.0) ((bytes_eq-Decides f.name g.name).0 c.1)

same_owner : (x : Option ℕ) → option_eq nat_eq x x ≡ true
same_owner None = refl
same_owner (Some x) = (Decides-eqb x x).1 refl

same_function : (f : FunctionName) → is_same_function f f ≡ true
same_function f = rw ((booleans_Decides f.imported f.imported).1 refl, same_owner f.owner_index, (bytes_eq-Decides f.name f.name).1 refl) refl

-- ---- what is found is the list of the function

pub found_listed : (w : RecordWorld) (met : Met) (lists : List (FunctionName × List PayloadKind)) (f : FunctionName) → AreListed w met lists → is_some (lookup (is_same_function f) lists) ≡ true
    → lookup (is_same_function f) lists ≡ Some (kinds_of w met f)
found_listed w met [] f a h = absurd (true≢false (sym h))
found_listed w met (e ∷ es) f a h = by (is_same_function f e.0) refl (found_listed w met es f a.1) h
  where
    by : (b : Bool) → is_same_function f e.0 ≡ b → (is_some (lookup (is_same_function f) es) ≡ true → lookup (is_same_function f) es ≡ Some (kinds_of w met f))
        → is_some (cond b (Some e.1) (lookup (is_same_function f) es)) ≡ true → cond b (Some e.1) (lookup (is_same_function f) es) ≡ Some (kinds_of w met f)
    by true same later p = ap Some (a.0 ∙ ap (kinds_of w met) (sym (one_function f e.0 same)))
    by false apart later p = later p

-- a list that is added is found
pub found_added : (w : RecordWorld) (met : Met) (old new : List (FunctionName × List PayloadKind)) (f name : FunctionName) (kinds : List PayloadKind) → lookup (is_same_function f) old ≡ None
    → name ≡ f → kinds ≡ kinds_of w met f → new ≡ old ++ (name, kinds) ∷ [] → lookup (is_same_function f) new ≡ Some (kinds_of w met f)
found_added w met old new f name kinds h n k e = ap (lookup (is_same_function f)) (e ∙ ap (λ x. old ++ x ∷ []) (ap (λ g. (g, kinds)) n ∙ ap (λ ks. (f, ks)) k)) ∙ at_end old h
  where
    at_end : (lists : List (FunctionName × List PayloadKind)) → lookup (is_same_function f) lists ≡ None → lookup (is_same_function f) (lists ++ (f, kinds_of w met f) ∷ []) ≡ Some (kinds_of w met f)
    at_end [] p = ap (λ b. cond b (Some (kinds_of w met f)) None) (same_function f)
    at_end (x ∷ xs) p = by (is_same_function f x.0) (at_end xs) p
      where
        by : (b : Bool) → (lookup (is_same_function f) xs ≡ None → lookup (is_same_function f) (xs ++ (f, kinds_of w met f) ∷ []) ≡ Some (kinds_of w met f))
            → cond b (Some x.1) (lookup (is_same_function f) xs) ≡ None → cond b (Some x.1) (lookup (is_same_function f) (xs ++ (f, kinds_of w met f) ∷ [])) ≡ Some (kinds_of w met f)
        by true later q = cc
        by false later q = later q

one_listed : (w : RecordWorld) (met : Met) (lists : List (FunctionName × List PayloadKind)) (f : FunctionName) (kinds : List PayloadKind) → AreListed w met lists → kinds ≡ kinds_of w met f
    → AreListed w met (lists ++ (f, kinds) ∷ [])
one_listed w met [] f kinds a k = (k, tt)
one_listed w met (e ∷ es) f kinds a k = (a.0, one_listed w met es f kinds a.1 k)

-- and all lists are still right
pub still_listed : (w : RecordWorld) (met : Met) (old new : List (FunctionName × List PayloadKind)) (f name : FunctionName) (kinds : List PayloadKind) → AreListed w met old → name ≡ f
    → kinds ≡ kinds_of w met f → new ≡ old ++ (name, kinds) ∷ [] → AreListed w met new
still_listed w met old new f name kinds a n k e = rw (e, n) (one_listed w met old f kinds a k)

-- ---- what occurs at an index, by the list

by_function : (met : Met) (kind : PayloadKind) (index : ℕ) (f : Option Func) → option_map_or (is_kind kind) (slice_get (option_map_or (met_in_function met) f []) index) false
    ≡ option_map_or (λ g. option_map_or (is_kind kind) (slice_get (met_in_function met g) index) false) f false
by_function met kind index None = refl
by_function met kind index (Some f) = refl

pub met_by_list : (w : RecordWorld) (met : Met) (lists : List (FunctionName × List PayloadKind)) (kind : PayloadKind) (f : FunctionName) (index : ℕ)
    → lookup (is_same_function f) lists ≡ Some (kinds_of w met f) → is_among kind (lookup (is_same_function f) lists) index ≡ is_met w met kind (side_of f.imported) f.owner_index f.name index
met_by_list w met lists kind f index h =
    ap (λ o. is_among kind o index) h ∙ by_function met kind index (function_at w (side_of f.imported) f.owner_index f.name)
