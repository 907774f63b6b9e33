-- Why records contradict each other.
use Rattle.std.proofs.Common.{◌≡◌, ◌⊎◌, inl, inr, ℕ, true, List, [], ◌∷◌, ◌++◌, Option, None, Some, Result, Ok, refl, sym, ap, subst, ◌∙◌, append_assoc, true≢false, is_some, take, drop, length, get_or, ◌+◌, ◌<◌}
use Rattle.std.proofs.lemmas.List.{take_more, take-append-drop, drop_more}
use Rattle.std.specs.Map.{lookup}
use Rattle.json_paths.specs.declared.fault.Failure.{Failure}
use Rattle.json_paths.specs.Faults.{◌>>=◌}
use Rattle.record_values.specs.declared.names.InterfaceName.{InterfaceName}
use Rattle.record_values.specs.declared.types.Interface.{Interface}
use Rattle.record_values.specs.declared.world.Item.{Item}
use Rattle.record_values.specs.declared.world.ItemKey.{ItemKey}
use Rattle.record_values.specs.declared.record.Record.{Record}
use Rattle.record_values.specs.declared.world.Wit.{Wit}
use Rattle.record_values.specs.Names.{is_same_interface, is_same_item, name_text, key_text}
use Rattle.record_values.specs.contracts.types.InterfacePartialEq.TheImpl as interfaces
use Rattle.record_values.specs.contracts.world.ItemPartialEq.TheImpl as items
use Rattle.record_merge.specs.Said.{no_wit}
use Rattle.record_merge.specs.Tables.{or_else}
use Rattle.record_merge.specs.Merging.{Says, merged_wit}
use Rattle.record_merge.specs.ModuleRecords.{worlds_after}
use Rattle.record_merge.specs.Causes.{Named, Unless, memory, caused, WorldConflict, interface_differs, import_differs, exported_twice, TwoWorlds}
use Rattle.record_merge.proofs.Chains.{bind_ok}
use Rattle.record_merge.proofs.Equal.{one_interface, one_item}
use Rattle.record_merge.proofs.Saying.{merged_says, interface_laws, item_laws}
use Rattle.record_merge.proofs.Agreeing.{world_tests, merged_is, entries_agree, no_conflict}

or_cases : {X : Type 0} (o p : Option X) (x : X) → or_else o p ≡ Some x → (o ≡ Some x) ⊎ (p ≡ Some x)
or_cases None p x h = inr h
or_cases (Some y) p x h = inl h

some_or_cases : {X : Type 0} (o p : Option X) → is_some (or_else o p) ≡ true → (is_some o ≡ true) ⊎ (is_some p ≡ true)
some_or_cases None p h = inr h
some_or_cases (Some y) p h = inl h

-- one of these records has such a world
record HasWorld (P : Wit → Type 0) (seen : List Record) : Type 0 where
  before : List Record
  one : Record
  after : List Record
  is : seen ≡ before ++ one ∷ after
  has : P one.wit

has_more : (P : Wit → Type 0) (seen : List Record) (r : Record) → HasWorld P seen → HasWorld P (seen ++ r ∷ [])
has_more P seen r h = record {
  before = h.before;
  one = h.one;
  after = h.after ++ r ∷ [];
  is = ap (λ (x : List Record). x ++ r ∷ []) h.is ∙ append_assoc h.before (h.one ∷ h.after) (r ∷ []);
  has = h.has;
}

has_now : (P : Wit → Type 0) (seen : List Record) (r : Record) → P r.wit → HasWorld P (seen ++ r ∷ [])
has_now P seen r h = record { before = seen; one = r; after = []; is = refl; has = h }

-- what a merged world says, one of the records says
pub record WorldsFrom (seen : List Record) (w : Wit) : Type 0 where
  interfaces : (k : InterfaceName) (x : Interface) → lookup (is_same_interface k) w.interfaces ≡ Some x → HasWorld (λ v. lookup (is_same_interface k) v.interfaces ≡ Some x) seen
  imports : (k : ItemKey) (x : Item) → lookup (is_same_item k) w.imports ≡ Some x → HasWorld (λ v. lookup (is_same_item k) v.imports ≡ Some x) seen
  exports : (k : ItemKey) → is_some (lookup (is_same_item k) w.exports) ≡ true → HasWorld (λ v. is_some (lookup (is_same_item k) v.exports) ≡ true) seen

pub start : WorldsFrom [] no_wit
start = record { interfaces = λ k x h. absurd cc; imports = λ k x h. absurd cc; exports = λ k h. absurd (true≢false (sym h)) }

pub step : (seen : List Record) (w v : Wit) (r : Record) → WorldsFrom seen w → merged_wit world_tests w r.wit ≡ Ok v → WorldsFrom (seen ++ r ∷ []) v
step seen w v r from e =
    let s : Says w r.wit v = merged_says world_tests w r.wit v e in
    record {
      interfaces = λ k x h. elim (or_cases (lookup (is_same_interface k) w.interfaces) (lookup (is_same_interface k) r.wit.interfaces) x (sym (s.interfaces k) ∙ h)) [
        | inl o ↦ has_more (λ v. lookup (is_same_interface k) v.interfaces ≡ Some x) seen r (from.interfaces k x o)
        | inr n ↦ has_now (λ v. lookup (is_same_interface k) v.interfaces ≡ Some x) seen r n
      ];
      imports = λ k x h. elim (or_cases (lookup (is_same_item k) w.imports) (lookup (is_same_item k) r.wit.imports) x (sym (s.imports k) ∙ h)) [
        | inl o ↦ has_more (λ v. lookup (is_same_item k) v.imports ≡ Some x) seen r (from.imports k x o)
        | inr n ↦ has_now (λ v. lookup (is_same_item k) v.imports ≡ Some x) seen r n
      ];
      exports = λ k h. elim (some_or_cases (lookup (is_same_item k) w.exports) (lookup (is_same_item k) r.wit.exports) (ap is_some (sym (s.exports k)) ∙ h)) [
        | inl o ↦ has_more (λ v. is_some (lookup (is_same_item k) v.exports) ≡ true) seen r (from.exports k o)
        | inr n ↦ has_now (λ v. is_some (lookup (is_same_item k) v.exports) ≡ true) seen r n
      ];
    }

-- a conflict with the merged world is one with a record's
two_worlds : (all seen more : List Record) (r : Record) (w : Wit) (name : List ℕ) → WorldsFrom seen w → all ≡ seen ++ r ∷ more → WorldConflict w r.wit name → TwoWorlds all name
two_worlds all seen more r w name from whole (interface_differs c) =
    let h = from.interfaces c.key c.one c.first in
    record {
      before = h.before;
      first = h.one;
      between = h.after;
      second = r;
      after = more;
      is = whole ∙ ap (λ (x : List Record). x ++ r ∷ more) h.is;
      clash = interface_differs (record { key = c.key; one = c.one; other = c.other; first = h.has; second = c.second; unequal = c.unequal; reported = c.reported });
    }
two_worlds all seen more r w name from whole (import_differs c) =
    let h = from.imports c.key c.one c.first in
    record {
      before = h.before;
      first = h.one;
      between = h.after;
      second = r;
      after = more;
      is = whole ∙ ap (λ (x : List Record). x ++ r ∷ more) h.is;
      clash = import_differs (record { key = c.key; one = c.one; other = c.other; first = h.has; second = c.second; unequal = c.unequal; reported = c.reported });
    }
two_worlds all seen more r w name from whole (exported_twice c) =
    let h = from.exports c.key c.first in
    record {
      before = h.before;
      first = h.one;
      between = h.after;
      second = r;
      after = more;
      is = whole ∙ ap (λ (x : List Record). x ++ r ∷ more) h.is;
      clash = exported_twice (record { key = c.key; first = h.has; second = c.second; reported = c.reported });
    }

pub worlds_caused : (all seen more : List Record) (r : Record) (w : Wit) (f : Failure) → WorldsFrom seen w → all ≡ seen ++ r ∷ more → Unless (Named (WorldConflict w r.wit)) f → Unless (Named (TwoWorlds all)) f
worlds_caused all seen more r w f from whole (memory e) = memory e
worlds_caused all seen more r w f from whole (caused c) = caused (record { name = c.name; is = c.is; why = two_worlds all seen more r w c.name from whole c.why })

-- ---- the converse

-- a merged world says what this one says
record Holds (w a : Wit) : Type 0 where
  interfaces : (k : InterfaceName) (x : Interface) → lookup (is_same_interface k) a.interfaces ≡ Some x → lookup (is_same_interface k) w.interfaces ≡ Some x
  imports : (k : ItemKey) (x : Item) → lookup (is_same_item k) a.imports ≡ Some x → lookup (is_same_item k) w.imports ≡ Some x
  exports : (k : ItemKey) → is_some (lookup (is_same_item k) a.exports) ≡ true → is_some (lookup (is_same_item k) w.exports) ≡ true

or_kept : {X : Type 0} (o p : Option X) (x : X) → o ≡ Some x → or_else o p ≡ Some x
or_kept None p x h = absurd cc
or_kept (Some y) p x h = h

some_or_kept : {X : Type 0} (o p : Option X) → is_some o ≡ true → is_some (or_else o p) ≡ true
some_or_kept None p h = absurd (true≢false (sym h))
some_or_kept (Some y) p h = refl

or_new : {X : Type 0} (o p : Option X) (x : X) → ((y : X) → o ≡ Some y → y ≡ x) → p ≡ Some x → or_else o p ≡ Some x
or_new None p x same h = h
or_new (Some y) p x same h = ap Some (same y refl)

some_or_new : {X : Type 0} (o p : Option X) → is_some p ≡ true → is_some (or_else o p) ≡ true
some_or_new None p h = h
some_or_new (Some y) p h = refl

holds_still : (w b v a : Wit) → merged_wit world_tests w b ≡ Ok v → Holds w a → Holds v a
holds_still w b v a e h =
    let s : Says w b v = merged_says world_tests w b v e in
    record {
      interfaces = λ k x there. s.interfaces k ∙ or_kept (lookup (is_same_interface k) w.interfaces) (lookup (is_same_interface k) b.interfaces) x (h.interfaces k x there);
      imports = λ k x there. s.imports k ∙ or_kept (lookup (is_same_item k) w.imports) (lookup (is_same_item k) b.imports) x (h.imports k x there);
      exports = λ k there. ap is_some (s.exports k) ∙ some_or_kept (lookup (is_same_item k) w.exports) (lookup (is_same_item k) b.exports) (h.exports k there);
    }

holds_now : (w b v : Wit) → merged_wit world_tests w b ≡ Ok v → Holds v b
holds_now w b v e =
    let s : Says w b v = merged_says world_tests w b v e in
    let j = merged_is world_tests w b v e in
    record {
      interfaces = λ k x there. s.interfaces k ∙ or_new (lookup (is_same_interface k) w.interfaces) (lookup (is_same_interface k) b.interfaces) x
          (λ y first. entries_agree is_same_interface interfaces.eq-value.it name_text interface_laws one_interface w.interfaces b.interfaces v.interfaces j.interfaces k y x first there) there;
      imports = λ k x there. s.imports k ∙ or_new (lookup (is_same_item k) w.imports) (lookup (is_same_item k) b.imports) x
          (λ y first. entries_agree is_same_item items.eq-value.it key_text item_laws one_item w.imports b.imports v.imports j.imports k y x first there) there;
      exports = λ k there. ap is_some (s.exports k) ∙ some_or_new (lookup (is_same_item k) w.exports) (lookup (is_same_item k) b.exports) there;
    }

-- what conflicts with a world conflicts with one that says the same
conflict_held : (w a b : Wit) (name : List ℕ) → Holds w a → WorldConflict a b name → WorldConflict w b name
conflict_held w a b name h (interface_differs c) = interface_differs (record { key = c.key; one = c.one; other = c.other; first = h.interfaces c.key c.one c.first; second = c.second; unequal = c.unequal; reported = c.reported })
conflict_held w a b name h (import_differs c) = import_differs (record { key = c.key; one = c.one; other = c.other; first = h.imports c.key c.one c.first; second = c.second; unequal = c.unequal; reported = c.reported })
conflict_held w a b name h (exported_twice c) = exported_twice (record { key = c.key; first = h.exports c.key c.first; second = c.second; reported = c.reported })

no_second : (w v a : Wit) (between after : List Record) (second : Record) (name : List ℕ) → Holds w a → worlds_after world_tests w (between ++ second ∷ after) ≡ Ok v → WorldConflict a second.wit name → ⊥
no_second w v a [] after second name h e clash =
    let t = bind_ok (merged_wit world_tests w second.wit) (λ u. worlds_after world_tests u after) v e in
    no_conflict w second.wit t.0 t.1 name (conflict_held w a second.wit name h clash)
no_second w v a (r ∷ between) after second name h e clash =
    let t = bind_ok (merged_wit world_tests w r.wit) (λ u. worlds_after world_tests u (between ++ second ∷ after)) v e in
    no_second t.0 v a between after second name (holds_still w r.wit t.0 a t.1 h) t.2 clash

no_clash : (w v : Wit) (before between after : List Record) (first second : Record) (name : List ℕ) → worlds_after world_tests w (before ++ (first ∷ (between ++ second ∷ after))) ≡ Ok v
    → WorldConflict first.wit second.wit name → ⊥
no_clash w v [] between after first second name e clash =
    let t = bind_ok (merged_wit world_tests w first.wit) (λ u. worlds_after world_tests u (between ++ second ∷ after)) v e in
    no_second t.0 v first.wit between after second name (holds_now w first.wit t.0 t.1) t.2 clash
no_clash w v (r ∷ before) between after first second name e clash =
    let t = bind_ok (merged_wit world_tests w r.wit) (λ u. worlds_after world_tests u (before ++ (first ∷ (between ++ second ∷ after)))) v e in
    no_clash t.0 v before between after first second name t.2 clash

pub no_two_worlds : (records : List Record) (w v : Wit) (name : List ℕ) → worlds_after world_tests w records ≡ Ok v → TwoWorlds records name → ⊥
no_two_worlds records w v name e two =
    let whole : records ≡ two.before ++ (two.first ∷ (two.between ++ two.second ∷ two.after)) = two.is ∙ append_assoc two.before (two.first ∷ two.between) (two.second ∷ two.after) in
    no_clash w v two.before two.between two.after two.first two.second name (ap (λ (xs : List Record). worlds_after world_tests w xs) (sym whole) ∙ e) two.clash

seen_more : (records : List Record) (i : ℕ) (r : Record) → i < length records → get_or records i r ≡ r → take (i + 1) records ≡ take i records ++ r ∷ []
seen_more records i r below is = take_more records i r below ∙ ap (λ (x : Record). take i records ++ x ∷ []) is

pub loop_step : (records : List Record) (i : ℕ) (r : Record) (w v : Wit) → i < length records → get_or records i r ≡ r → WorldsFrom (take i records) w → merged_wit world_tests w r.wit ≡ Ok v → WorldsFrom (take (i + 1) records) v
loop_step records i r w v below is from e = subst (λ (s : List Record). WorldsFrom s v) (sym (seen_more records i r below is)) (step (take i records) w v r from e)

pub loop_caused : (records : List Record) (i : ℕ) (r : Record) (w : Wit) (f : Failure) → i < length records → get_or records i r ≡ r → WorldsFrom (take i records) w → Unless (Named (WorldConflict w r.wit)) f → Unless (Named (TwoWorlds records)) f
loop_caused records i r w f below is from c =
    worlds_caused records (take i records) (drop (i + 1) records) r w f from
    (sym (take-append-drop i records) ∙ ap (λ (x : List Record). take i records ++ x) (drop_more records i r below ∙ ap (λ (x : Record). x ∷ drop (i + 1) records) is)) c

pub loop_exact : (records : List Record) (i : ℕ) (r : Record) (w v : Wit) (whole : Result Wit Failure) → i < length records → get_or records i r ≡ r → merged_wit world_tests w r.wit ≡ Ok v
    → worlds_after world_tests w (drop i records) ≡ whole → worlds_after world_tests v (drop (i + 1) records) ≡ whole
loop_exact records i r w v whole below is e h =
    sym (ap (λ (x : List Record). worlds_after world_tests w x) (drop_more records i r below ∙ ap (λ (x : Record). x ∷ drop (i + 1) records) is)
    ∙ ap (λ (m : Result Wit Failure). m >>= λ u. worlds_after world_tests u (drop (i + 1) records)) e) ∙ h
