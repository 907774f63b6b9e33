-- A fault is reported at its definition, and where there is one, not every index names an earlier item.
use Rattle.std.proofs.Common.{◌≡◌, ℕ, zero, suc, ◌+◌, ◌<◌, List, [], ◌∷◌, ◌++◌, length, get_or, take, Option, inl, inr, refl, sym, ap, subst, ◌∙◌, append_assoc, append-nil, arith}
use Rattle.std.specs.Prelude.{slice_get, Result, Ok, Err, IfErr}
use Rattle.std.specs.List.{AllByRecursion, sum_by}
use Rattle.std.proofs.lemmas.List.Elements.{All-from_recursion, All-contains}
use Rattle.comp_bytes.specs.Spaces.{member_space, item_space, space_of}
use Rattle.comp_bytes.specs.References.{Reference, member_references, item_references}
use Rattle.comp_bytes.specs.Scopes.{Scope, no_items, scope_of, InScope, EachIn, MemberScoped, InsideScoped, ItemScoped, DefScoped, Scoped}
use Rattle.comp_bytes.specs.declared.space.Space.{Space}
use Rattle.comp_bytes.specs.declared.def.Item.{Item}
use Rattle.comp_bytes.specs.declared.def.Item.TheVariants as items
use Rattle.comp_bytes.specs.declared.def.Def.{Def}
use Rattle.comp_bytes.specs.declared.def.Def.TheVariants as defs
use Rattle.comp_check.specs.Indexes.{MissingIn, ReferenceFault, FaultAfter, MemberFault, InsideFault, ItemFault, DefFault, IsIndexFault, lines}
use Rattle.comp_check.specs.declared.fault.IndexFault.{IndexFault}
use Rattle.comp_check.specs.declared.scope.Counts.{Counts}
use Rattle.comp_check.specs.Lacking.{counted, AroundFault, FaultFrom}
use Rattle.comp_check.proofs.CheckedPrefix.{CheckedPrefix, prefix_fault}

-- ---- a fault excludes the rule

missing_no : (scopes : List Scope) (outward : ℕ) (r : Reference) (space : Space) (index : ℕ) → MissingIn (slice_get scopes outward) r space index → r.index < get_or scopes outward no_items r.space → ⊥
missing_no [] outward r space index m lt = omega arith
missing_no (s ∷ ss) zero r space index m lt = let le = m.2 in omega (arith, le, lt)
missing_no (s ∷ ss) (suc k) r space index m lt = missing_no ss k r space index m lt

reference_no : (scopes : List Scope) (rs : List Reference) (space : Space) (index : ℕ) → ReferenceFault scopes rs space index → AllByRecursion (InScope scopes) rs → ⊥
reference_no scopes rs space index f all =
    missing_no scopes f.reference.outward f.reference space index f.missing (All-contains (InScope scopes) rs f.reference (All-from_recursion (InScope scopes) rs all) f.named)

kept_at : {A : Type 0} (made : A → Option Space) (Rule : Scope → A → Type 0) (done before : List A) (x : A) (after : List A) → EachIn made Rule done (before ++ x ∷ after) → Rule (scope_of made (done ++ before)) x
kept_at {A} made Rule done [] x after h = subst (λ (all : List A). Rule (scope_of made all) x) (sym (append-nil done)) h.0
kept_at {A} made Rule done (y ∷ ys) x after h = subst (λ (all : List A). Rule (scope_of made all) x) (append_assoc done (y ∷ []) ys) (kept_at made Rule (done ++ y ∷ []) ys x after h.1)

after_no : {A : Type 0} (made : A → Option Space) (Fault Rule : Scope → A → Type 0) (xs before : List A) → ((scope : Scope) (x : A) → Fault scope x → Rule scope x → ⊥) → FaultAfter made Fault xs before → EachIn made Rule [] xs → ⊥
after_no made Fault Rule xs before never f all =
    never (scope_of made before) f.faulty f.fault (kept_at made Rule [] before f.faulty f.after (subst (EachIn made Rule []) f.parts all))

inside_no : (outer : List Scope) (space : Space) (index : ℕ) (i : Item) → InsideFault outer space index i → InsideScoped outer i → ⊥
inside_no outer space index (items.InstanceType t) f all =
    after_no member_space (MemberFault outer space index) (MemberScoped outer) t.members f.0 (λ scope m g k. reference_no (scope ∷ outer) (member_references m) space index g k) f.1 all
inside_no outer space index _ f all = absurd f

item_no : (outer : List Scope) (space : Space) (index : ℕ) (scope : Scope) (i : Item) → ItemFault outer space index scope i → ItemScoped outer scope i → ⊥
item_no outer space index scope i (inl f) all = reference_no (scope ∷ outer) (item_references i) space index f all.0
item_no outer space index scope i (inr f) all = inside_no (scope ∷ outer) space index i f all.1

def_no : (line : ℕ) (space : Space) (index : ℕ) (scope : Scope) (d : Def) → DefFault line space index scope d → DefScoped scope d → ⊥
def_no line space index scope (defs.Item i) f all = item_no [] space index scope i f.1 all
def_no line space index scope (defs.Component inner) f all =
    after_no item_space (ItemFault (scope ∷ []) space index) (ItemScoped (scope ∷ [])) inner f.0 (λ own i g k. item_no (scope ∷ []) space index own i g k) f.1 all

pub fault_no : (ds : List Def) (line : ℕ) (space : Space) (index : ℕ) → IsIndexFault ds line space index → Scoped ds → ⊥
fault_no ds line space index f all =
    after_no space_of (DefFault f.within space index) DefScoped ds f.before (λ scope d g k. def_no f.within space index scope d g k) f.fault all

pub refuses : (ds : List Def) (r : Result (Unit {0}) IndexFault) → IfErr r (λ e. IsIndexFault ds e.definition e.space e.index) → IfErr r (λ e. Scoped ds → ⊥)
refuses ds (Ok x) h = tt
refuses ds (Err e) h = λ all. fault_no ds e.definition e.space e.index h all

-- ---- the position of a fault

pub on_own_line : (line : ℕ) (scope : Scope) (i : Item) (r : Result (Unit {0}) IndexFault) → IfErr r (λ e. AroundFault (scope ∷ []) i e.space e.index × (e.definition ≡ line)) → IfErr r (λ e. FaultFrom line scope (defs.Item i) e)
on_own_line line scope i (Ok x) h = tt
on_own_line line scope i (Err e) h = let is = h.1 in (0, (refl, h.0), omega (arith, is))

pub shown : (own : Counts) (ds : List Def) (i line : ℕ) (d : Def) (e : IndexFault) → CheckedPrefix space_of DefScoped own ds i → line ≡ sum_by lines (take i ds) → i < length ds → d ≡ get_or ds i d → FaultFrom line (counted own) d e → IsIndexFault ds e.definition e.space e.index
shown own ds i line d e h l lt is f = record {
  before = take i ds;
  within = f.0;
  fault = prefix_fault space_of DefScoped (DefFault f.0 e.space e.index) own ds i d h lt is f.1;
  line_is = f.2 ∙ ap (λ (n : ℕ). n + f.0) l;
}
