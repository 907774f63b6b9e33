-- Groups of imports, and the position of the group of each module.
use Rattle.std.proofs.Common.{◌≡◌, ℕ, zero, suc, ◌+◌, ◌<◌, Bool, true, false, cond, List, [], ◌∷◌, ◌++◌, length, get_or, Some, None, Result, Ok, Err, refl, sym, ap, subst, ◌∙◌, arith}
use Rattle.std.specs.Prelude.{slice_set, IfOk}
use Rattle.std.specs.List.{slice_get, IsDistinct}
use Rattle.std.specs.Map.{lookup, keys_of}
use Rattle.std.specs.Str.{bytes_eq}
use Rattle.comp_lists.specs.Found.{found}
use Rattle.comp_lists.proofs.TableLemmas.{absent}
use Rattle.comp_roles.specs.declared.imports.Import.{Import}
use Rattle.comp_roles.specs.declared.imports.ImportInstance.{ImportInstance}
use Rattle.record_faults.proofs.Chains.{equivalence}
use Rattle.record_imports.specs.Arguments.{Arguments, argument_for, instance_given}
use Rattle.record_imports.specs.declared.grouping.Group.{Group}
use Rattle.record_imports.specs.declared.grouping.Grouping.{Grouping}
use Rattle.record_imports.specs.Grouping.{positions_of, fields_in, with_field, names_of, instances_of}

abbrev pub with_fields : Group → List (List ℕ × Import) → Group
with_fields g fs = record { name = g.name; fields = fs }

-- the group of a module is at this position
pub record GroupAt (gs : List Group) (m : List ℕ) (k : ℕ) : Type 0 where
  pub below : k < length gs
  pub group : Group
  pub there : slice_get gs k ≡ Some group
  pub fields : fields_in gs m ≡ group.fields
  pub put : (f : List ℕ) (import : Import) → with_field gs m f import ≡ slice_set gs k (with_fields group (group.fields ++ (f, import) ∷ []))
  pub kept : (i : ℕ) (fs : List (List ℕ × Import)) → positions_of i (slice_set gs k (with_fields group fs)) ≡ positions_of i gs

first_at : (g : Group) (gs : List Group) (m : List ℕ) → bytes_eq m g.name ≡ true → GroupAt (g ∷ gs) m 0
first_at g gs m h = record {
  below = omega arith;
  group = g;
  there = refl;
  fields = ap (λ b. cond b g.fields (fields_in gs m)) h;
  put = λ f import. ap (λ b. cond b (with_fields g (g.fields ++ (f, import) ∷ []) ∷ gs) (g ∷ with_field gs m f import)) h;
  kept = λ i fs. refl;
}

later_at : (g : Group) (gs : List Group) (m : List ℕ) (k : ℕ) → bytes_eq m g.name ≡ false → GroupAt gs m k → GroupAt (g ∷ gs) m (suc k)
later_at g gs m k h t = record {
  below = let b = t.below in omega arith;
  group = t.group;
  there = t.there;
  fields = ap (λ b. cond b g.fields (fields_in gs m)) h ∙ t.fields;
  put = λ f import. ap (λ b. cond b (with_fields g (g.fields ++ (f, import) ∷ []) ∷ gs) (g ∷ with_field gs m f import)) h ∙ ap (λ (r : List Group). g ∷ r) (t.put f import);
  kept = λ i fs. ap (λ (r : List (List ℕ × ℕ)). (g.name, i) ∷ r) (t.kept (i + 1) fs);
}

at_from : (i : ℕ) (gs : List Group) (m : List ℕ) (k : ℕ) → found m (positions_of i gs) ≡ Some k → (j : ℕ) × (k ≡ i + j) × GroupAt gs m j
at_from i [] m k e = absurd cc
at_from i (g ∷ gs) m k e = by (bytes_eq m g.name) refl e (λ later. at_from (i + 1) gs m k later)
  where
    by : (b : Bool) → bytes_eq m g.name ≡ b → cond b (Some i) (found m (positions_of (i + 1) gs)) ≡ Some k
        → (found m (positions_of (i + 1) gs) ≡ Some k → (j : ℕ) × (k ≡ (i + 1) + j) × GroupAt gs m j) → (j : ℕ) × (k ≡ i + j) × GroupAt (g ∷ gs) m j
    by true h e more = let same : i ≡ k = cc in (0, omega arith, first_at g gs m h)
    by false h e more =
        let t = more e in
        let n = t.1 in (suc t.0, omega arith, later_at g gs m t.0 h t.2)

-- where a module's position is known, its group is there
pub group_at : (gs : List Group) (m : List ℕ) (k : ℕ) → found m (positions_of 0 gs) ≡ Some k → GroupAt gs m k
group_at gs m k e =
    let t = at_from 0 gs m k e in
    let n = t.1 in
    let same : t.0 ≡ k = omega arith in
    subst (λ (j : ℕ). GroupAt gs m j) same t.2

-- a module that has no position has no group
pub record NoGroup (gs : List Group) (m : List ℕ) : Type 0 where
  pub fields : fields_in gs m ≡ []
  pub put : (f : List ℕ) (import : Import) → with_field gs m f import ≡ gs ++ record { name = m; fields = (f, import) ∷ [] } ∷ []

none_from : (i : ℕ) (gs : List Group) (m : List ℕ) → found m (positions_of i gs) ≡ None → NoGroup gs m
none_from i [] m e = record { fields = refl; put = λ f import. refl }
none_from i (g ∷ gs) m e = by (bytes_eq m g.name) refl e (λ later. none_from (i + 1) gs m later)
  where
    by : (b : Bool) → bytes_eq m g.name ≡ b → cond b (Some i) (found m (positions_of (i + 1) gs)) ≡ None
        → (found m (positions_of (i + 1) gs) ≡ None → NoGroup gs m) → NoGroup (g ∷ gs) m
    by true h e more = absurd cc
    by false h e more =
        let t = more e in
        record {
          fields = ap (λ b. cond b g.fields (fields_in gs m)) h ∙ t.fields;
          put = λ f import. ap (λ b. cond b (with_fields g (g.fields ++ (f, import) ∷ []) ∷ gs) (g ∷ with_field gs m f import)) h ∙ ap (λ (r : List Group). g ∷ r) (t.put f import);
        }

pub no_group : (gs : List Group) (m : List ℕ) → found m (positions_of 0 gs) ≡ None → NoGroup gs m
no_group gs m e = none_from 0 gs m e

positions_push : (i : ℕ) (gs : List Group) (g : Group) → positions_of i (gs ++ g ∷ []) ≡ positions_of i gs ++ (g.name, i + length gs) ∷ []
positions_push i [] g = ap (λ (n : ℕ). (g.name, n) ∷ []) (let n : i ≡ i + 0 = omega arith in n)
positions_push i (h ∷ gs) g =
    let n : (i + 1) + length gs ≡ i + length (h ∷ gs) = omega arith in
    ap (λ (r : List (List ℕ × ℕ)). (h.name, i) ∷ r) (positions_push (i + 1) gs g ∙ ap (λ (n : ℕ). positions_of (i + 1) gs ++ (g.name, n) ∷ []) n)

-- a new group's position is the next
pub new_position : (gs : List Group) (g : Group) → positions_of 0 (gs ++ g ∷ []) ≡ positions_of 0 gs ++ (g.name, length gs) ∷ []
new_position gs g = let n : 0 + length gs ≡ length gs = omega arith in positions_push 0 gs g ∙ ap (λ (n : ℕ). positions_of 0 gs ++ (g.name, n) ∷ []) n

-- ---- what adding a field preserves

got_group : (gs : List Group) (k : ℕ) (x y : Group) → slice_get gs k ≡ Some x → slice_get gs k ≡ Some y → x ≡ y
got_group gs k x y a b = cc

-- the field is the last of its module's group
pub put_known : {E : Type 0} (r : Result Grouping E) (positions : List (List ℕ × ℕ)) (gs : List Group) (m f f' : List ℕ) (k : ℕ) (role : Import)
    → Some k ≡ found m positions → positions ≡ positions_of 0 gs → f' ≡ f
    → IfOk r (λ x. x.positions ≡ positions)
    → IfOk r (λ x. (g : Group) → slice_get gs k ≡ Some g → x.groups.items ≡ slice_set gs k (record { name = g.name; fields = g.fields ++ (f', role) ∷ [] }))
    → IfOk r (λ x. x.groups.items ≡ with_field gs m f role) × IfOk r (λ x. x.positions ≡ positions_of 0 x.groups.items)
put_known (Err e) positions gs m f f' k role known indexed same kept set = (tt, tt)
put_known (Ok x) positions gs m f f' k role known indexed same kept set =
    let at : found m (positions_of 0 gs) ≡ Some k = ap (found m) (sym indexed) ∙ sym known in
    let t = group_at gs m k at in
    let is : x.groups.items ≡ slice_set gs k (with_fields t.group (t.group.fields ++ (f', role) ∷ [])) = set t.group t.there in
    let put : x.groups.items ≡ with_field gs m f role =
    is ∙ ap (λ (w : List ℕ). slice_set gs k (with_fields t.group (t.group.fields ++ (w, role) ∷ []))) same ∙ sym (t.put f role) in
    let positions' : positions_of 0 x.groups.items ≡ positions_of 0 gs = ap (positions_of 0) is ∙ t.kept 0 (t.group.fields ++ (f', role) ∷ []) in
    (put, kept ∙ indexed ∙ sym positions')

-- the field is that of a new group
pub put_new : {E : Type 0} (r : Result Grouping E) (positions : List (List ℕ × ℕ)) (gs : List Group) (m m' f f' : List ℕ) (role : Import)
    → None ≡ found m positions → positions ≡ positions_of 0 gs → f' ≡ f → m' ≡ m
    → IfOk r (λ x. x.positions ≡ positions ++ (m', length gs) ∷ [])
    → IfOk r (λ x. x.groups.items ≡ gs ++ record { name = m'; fields = (f', role) ∷ [] } ∷ [])
    → IfOk r (λ x. x.groups.items ≡ with_field gs m f role) × IfOk r (λ x. x.positions ≡ positions_of 0 x.groups.items)
put_new (Err e) positions gs m m' f f' role known indexed same same' kept set = (tt, tt)
put_new (Ok x) positions gs m m' f f' role known indexed same same' kept set =
    let at : found m (positions_of 0 gs) ≡ None = ap (found m) (sym indexed) ∙ sym known in
    let t = no_group gs m at in
    let made = λ (n w : List ℕ). let g : Group = record { name = n; fields = (w, role) ∷ [] } in g in
    let put : x.groups.items ≡ with_field gs m f role =
    set ∙ ap (λ (n : List ℕ). gs ++ made n f' ∷ []) same' ∙ ap (λ (w : List ℕ). gs ++ made m w ∷ []) same ∙ sym (t.put f role) in
    let positions' : positions_of 0 x.groups.items ≡ positions_of 0 gs ++ (m', length gs) ∷ [] = ap (positions_of 0) set ∙ new_position gs (made m' f') in
    (put, kept ∙ ap (λ (p : List (List ℕ × ℕ)). p ++ (m', length gs) ∷ []) indexed ∙ sym positions')

-- the group at a known position has no such field if its module has none
pub lacks : (positions : List (List ℕ × ℕ)) (gs : List Group) (m f f' : List ℕ) (k : ℕ) → Some k ≡ found m positions → positions ≡ positions_of 0 gs → f' ≡ f
    → found f (fields_in gs m) ≡ None → (k < length gs) × ((g : Group) → slice_get gs k ≡ Some g → found f' g.fields ≡ None)
lacks positions gs m f f' k known indexed same none =
    let at : found m (positions_of 0 gs) ≡ Some k = ap (found m) (sym indexed) ∙ sym known in
    let t = group_at gs m k at in (
      t.below,
      λ g there.
          let is : t.group ≡ g = got_group gs k t.group g t.there there in
          ap (λ (w : List ℕ). found w g.fields) same ∙ ap (λ (x : Group). found f x.fields) (sym is) ∙ ap (found f) (sym t.fields) ∙ none,
    )

pub has_none : (positions : List (List ℕ × ℕ)) (gs : List Group) (m : List ℕ) → None ≡ found m positions → positions ≡ positions_of 0 gs → fields_in gs m ≡ []
has_none positions gs m known indexed =
    let at : found m (positions_of 0 gs) ≡ None = ap (found m) (sym indexed) ∙ sym known in
    let t = no_group gs m at in
    t.fields

pub at_position : (positions : List (List ℕ × ℕ)) (gs : List Group) (m : List ℕ) (k : ℕ) → Some k ≡ found m positions → positions ≡ positions_of 0 gs → k < length gs
at_position positions gs m k known indexed =
    let at : found m (positions_of 0 gs) ≡ Some k = ap (found m) (sym indexed) ∙ sym known in
    let t = group_at gs m k at in
    t.below

at_index : (gs : List Group) (k : ℕ) (x d : Group) → slice_get gs k ≡ Some x → get_or gs k d ≡ x
at_index [] k x d e = absurd cc
at_index (g ∷ gs) zero x d e = cc
at_index (g ∷ gs) (suc k) x d e = at_index gs k x d e

pub has_at : (positions : List (List ℕ × ℕ)) (gs : List Group) (m : List ℕ) (k : ℕ) (g : Group) → Some k ≡ found m positions → positions ≡ positions_of 0 gs → g ≡ get_or gs k g → fields_in gs m ≡ g.fields
has_at positions gs m k g known indexed is =
    let at : found m (positions_of 0 gs) ≡ Some k = ap (found m) (sym indexed) ∙ sym known in
    let t = group_at gs m k at in
    t.fields ∙ ap (λ (x : Group). x.fields) (sym (is ∙ at_index gs k t.group g t.there))

names-positions : (i : ℕ) (gs : List Group) → keys_of (positions_of i gs) ≡ names_of gs
names-positions i [] = refl
names-positions i (g ∷ gs) = ap (λ (r : List (List ℕ)). g.name ∷ r) (names-positions (i + 1) gs)

-- no two groups are of one module
pub groups_apart : (positions : List (List ℕ × ℕ)) (gs : List Group) → positions ≡ positions_of 0 gs → IsDistinct bytes_eq (keys_of positions) → IsDistinct bytes_eq (names_of gs)
groups_apart positions gs indexed apart =
    subst (λ (ks : List (List ℕ)). IsDistinct bytes_eq ks) (ap (λ (p : List (List ℕ × ℕ)). keys_of p) indexed ∙ names-positions 0 gs) apart

pub keys-names : (all : Arguments) (gs : List Group) → keys_of (instances_of all gs) ≡ names_of gs
keys-names all [] = refl
keys-names all (g ∷ gs) = ap (λ (r : List (List ℕ)). g.name ∷ r) (keys-names all gs)

-- a group's module is not among those of the groups before it
pub not_yet : (all : Arguments) (done : List (List ℕ × ImportInstance)) (left after gs : List Group) (g : Group) → done ++ instances_of all left ≡ instances_of all gs → left ≡ g ∷ after
    → IsDistinct bytes_eq (names_of gs) → lookup (bytes_eq g.name) done ≡ None
not_yet all done left after gs g is taken apart =
    let here : done ++ instances_of all (g ∷ after) ≡ instances_of all gs = subst (λ (x : List Group). done ++ instances_of all x ≡ instances_of all gs) taken is in
    absent bytes_eq equivalence done (instances_of all after) (instances_of all gs) g.name (instance_given (argument_for all g.name) g.fields) here
    (subst (λ (ks : List (List ℕ)). IsDistinct bytes_eq ks) (sym (keys-names all gs)) apart)
