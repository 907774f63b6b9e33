-- What an instance is made of.
use Rattle.std.proofs.Common.{◌≡◌, ℕ, zero, suc, ◌+◌, List, [], ◌∷◌, ◌++◌, length, Bool, true, false, Option, Some, None, refl, sym, ap, ◌∙◌, append_assoc}
use Rattle.std.specs.Prelude.{slice_get, if◌then◌else◌, option_map}
use Rattle.core_types.specs.declared.types.FuncType.{FuncType}
use Rattle.core_bytes.specs.declared.code.Body.{Body}
use Rattle.core_bytes.specs.declared.entry.DataSegment.{DataSegment}
use Rattle.core_runs.specs.Store.{Frame, Func, Generated, Store, Cell, Now}
use Rattle.core_runs.specs.Instances.{Parts, Given, Made, bind, cons_if, own_functions, own_globals, own_tables, elements_done, data_done, made_of, new_frame, instance_of, matches_each}
use Rattle.core_runs.specs.LawsOfInstances.{InstancesDefine}
use Rattle.core_runs.proofs.Instances.{slice_get-behind, slice_get-front}

pub bind_some : {X Y : Type 0} (o : Option X) (go : X → Option Y) (y : Y) → bind o go ≡ Some y → (x : X) × (o ≡ Some x) × (go x ≡ Some y)
bind_some None go y e = cc
bind_some (Some x) go y e = (x, refl, e)

if_some : {X : Type 0} (b : Bool) (x : Option X) (y : X) → (if b then x else None) ≡ Some y → x ≡ Some y
if_some true x y e = e
if_some false x y e = cc

-- data changes no global
data_keeps : (frame : Frame) (ds : List DataSegment) (now after : Now) → data_done frame ds now ≡ Some after → after.globals ≡ now.globals
data_keeps frame [] now after e = let same : now ≡ after = cc in ap (λ (n : Now). n.globals) (sym same)
data_keeps frame (d ∷ ds) now after e =
    let more = bind_some (slice_get frame.memories 0) _ after e in
    data_keeps frame ds _ after more.2

-- The parts of what is made.
pub record Making (m : Parts) (given : List Given) (store : Store) (now : Now) (made : Made) : Type 0 where
  pub own : List Func
  pub cells : List Cell
  pub own_is : own_functions (new_frame m given store now) m.functions m.bodies ≡ Some own
  pub cells_is : own_globals (new_frame m given store now) m.globals ≡ Some cells
  pub frame : made.frame ≡ new_frame m given store now
  pub functions : made.store.functions ≡ store.functions ++ own
  pub globals : made.now.globals ≡ now.globals ++ cells

made_parts : (m : Parts) (given : List Given) (store : Store) (now : Now) (made : Made) (own : Option (List Func)) (cells : Option (List Cell)) → own_functions (new_frame m given store now) m.functions m.bodies ≡ own → own_globals (new_frame m given store now) m.globals ≡ cells → made_of m (new_frame m given store now) store now own cells ≡ Some made → Making m given store now made
made_parts m given store now made None cells eo ec e = cc
made_parts m given store now made (Some own) None eo ec e = cc
made_parts m given store now made (Some own) (Some cells) eo ec e =
    let frame = new_frame m given store now in
    let tables = bind_some (elements_done frame m.elements (store.tables ++ own_tables m.tables)) _ made e in
    let after = bind_some (data_done frame m.segments (record now { globals = now.globals ++ cells })) _ made tables.2 in
    let same : (record { frame = frame; store = record { functions = store.functions ++ own; tables = tables.0; memories = store.memories ++ m.memories }; now = after.0 }) ≡ made = cc in
    record {
      own = own;
      cells = cells;
      own_is = eo;
      cells_is = ec;
      frame = ap (λ (x : Made). x.frame) (sym same);
      functions = ap (λ (x : Made). x.store.functions) (sym same);
      globals = ap (λ (x : Made). x.now.globals) (sym same) ∙ data_keeps frame m.segments _ after.0 after.1;
    }

pub making : (m : Parts) (given : List Given) (store : Store) (now : Now) (made : Made) → instance_of m given store now ≡ Some made → Making m given store now made
making m given store now made e =
    made_parts m given store now made _ _ refl refl (if_some (matches_each m.types store now m.imports given) _ made e)

-- a list with at least one item is its first item and the rest
pub cons_split : {X : Type 0} (o : Option X) (r : Option (List X)) (l : List X) → cons_if o r ≡ Some l → (x : X) × (xs : List X) × (o ≡ Some x) × (r ≡ Some xs) × (l ≡ x ∷ xs)
cons_split None r l e = cc
cons_split (Some x) None l e = cc
cons_split (Some x) (Some xs) l e = (x, xs, refl, refl, (let same : x ∷ xs ≡ l = cc in sym same))

-- a function of an instance, from its module's lists
own_at : (frame : Frame) (ts : List ℕ) (bs : List Body) (own : List Func) (i t : ℕ) (type : FuncType) (b : Body) → own_functions frame ts bs ≡ Some own → slice_get ts i ≡ Some t → slice_get frame.types t ≡ Some type → slice_get bs i ≡ Some b → slice_get own i ≡ Some (Generated frame type b.locals b.instructions)
own_at frame [] bs own i t type b e ht hy hb = cc
own_at frame (u ∷ ts) [] own i t type b e ht hy hb = cc
own_at frame (u ∷ ts) (c ∷ bs) own zero t type b e ht hy hb =
    let split = cons_split (option_map (λ y. Generated frame y c.locals c.instructions) (slice_get frame.types u)) (own_functions frame ts bs) own e in
    let same_t : u ≡ t = cc in
    let same_b : c ≡ b = cc in
    let typed : slice_get frame.types u ≡ Some type = ap (λ n. slice_get frame.types n) same_t ∙ hy in
    ap (λ l. slice_get l 0) split.4
    ∙ sym split.2
    ∙ ap (λ o. option_map (λ y. Generated frame y c.locals c.instructions) o) typed
    ∙ ap (λ (x : Body). Some (Generated frame type x.locals x.instructions)) same_b
own_at frame (u ∷ ts) (c ∷ bs) own (suc i) t type b e ht hy hb =
    let split = cons_split (option_map (λ y. Generated frame y c.locals c.instructions) (slice_get frame.types u)) (own_functions frame ts bs) own e in
    ap (λ l. slice_get l (suc i)) split.4 ∙ own_at frame ts bs split.1 i t type b split.3 ht hy hb

pub instances_define : InstancesDefine
instances_define m given store now made e =
    let parts = making m given store now made e in (
      parts.frame,
      λ f index type code later defines more.
          let frame = new_frame m given store now in
          let at = own_at frame m.functions m.bodies parts.own f index type code parts.own_is defines.0 defines.1 defines.2 in
          let functions : later.functions ≡ store.functions ++ (parts.own ++ more.more_functions) = more.functions ∙ ap (λ l. l ++ more.more_functions) parts.functions ∙ append_assoc store.functions parts.own more.more_functions in
          ap (λ l. slice_get l (length store.functions + f)) functions
          ∙ slice_get-behind store.functions (parts.own ++ more.more_functions) f
          ∙ slice_get-front parts.own more.more_functions f _ at
          ∙ ap (λ (x : Frame). Some (Generated x type code.locals code.instructions)) (sym parts.frame),
    )
