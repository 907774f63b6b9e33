-- Functions that are made of types without names alone need nothing at hand, where an interface has no types.
use Rattle.std.proofs.Common.{◌≡◌, ◌∙◌, ◌<◌, ◌&&◌, not, arith, ℕ, zero, suc, Bool, true, false, true≢false, List, [], ◌∷◌, ◌++◌, length, map, get_or, refl, ap, sym, subst, Option, Some, None, is_none}
use Rattle.std.specs.List.{AllByRecursion, flat_map, list_all}
use Rattle.wit_data.specs.declared.functions.Function.{Function}
use Rattle.wit_data.specs.declared.functions.Param.{Param}
use Rattle.wit_data.specs.declared.ids.InterfaceId.{InterfaceId}
use Rattle.wit_data.specs.declared.ids.TypeId.{TypeId}
use Rattle.wit_data.specs.declared.resolve.Resolve.{Resolve}
use Rattle.wit_data.specs.declared.types.Type.{«Type» as Ty}
use Rattle.wit_data.specs.declared.types.Type.TheVariants.{Primitive, Id}
use Rattle.wit_data.specs.declared.types.TypeDef.{TypeDef}
use Rattle.wit_data.specs.declared.types.TypeDefKind.{TypeDefKind}
use Rattle.wit_data.specs.declared.types.TypeOwner.{TypeOwner}
use Rattle.wit_data.specs.declared.types.TypeOwner.TheVariants as owners
use Rattle.wit_data.specs.Parts.{parts, IsBelow}
use Rattle.wit_data.specs.Sound.{IsSound, HasFunction}
use Rattle.wit_data.specs.Values.{kind_at, value, values, part_value, part_values}
use Rattle.wit_data.proofs.Values.{made_whole, parts_below}
use Rattle.wit_types.specs.Settings.{owner_at, name_at}
use Rattle.wit_types.specs.Allowing.{foreign, is_resource}
use Rattle.type_scopes.specs.Foreign.{meeting, met_in, met_in_function}
use Rattle.type_scopes.specs.Interfaces.{used_among}
use Rattle.type_scopes.specs.Needs.{IsOwn, IsLive, IsLiveFunction, HasNoTitle, AreLiveClosed, AreNeedsMet, each_passes, function_passes, is_unnamed}
use Rattle.type_scopes.specs.Offers.{IsOfferedType}
use Rattle.type_scopes.specs.Titles.{AreTitlesApart}
use Rattle.type_scopes.proofs.Allowed.{used_have}

both : (a b : Bool) → (a && b) ≡ true → (a ≡ true) × (b ≡ true)
both true b e = (refl, e)
both false b e = absurd (true≢false (sym e))

-- none of no types has the name of another
pub none_apart : (types : List TypeDef) (here : InterfaceId) → AreTitlesApart types here []
none_apart types here = record { each = λ a b name l m t u. absurd (true≢false (sym l)) }

-- Where each type that passes a test has no name, is no resource and is owned by no other interface
module _ (r : Resolve) (here : InterfaceId) (test : ℕ → TypeDefKind → Bool) (sound : IsSound r) (own : (n : ℕ) → n < length r.types → test n (kind_at r.types n) ≡ true → IsOwn r.types here n)
    (plain : (n : ℕ) → n < length r.types → test n (kind_at r.types n) ≡ true → HasNoTitle r.types n) where
  abbrev types : List TypeDef
  types = r.types

  abbrev passes : Option Ty → Bool
  passes p = value (each_passes test) types p

  abbrev live : ℕ → Bool
  live n = get_or (values (each_passes test) types) n true

  -- a type that passes, and its parts
  whole : (n : ℕ) → n < length types → live n ≡ true → (test n (kind_at types n) ≡ true) × (list_all (λ b. b) (part_values (each_passes test) types n) ≡ true)
  whole n l e = both (test n (kind_at types n)) (list_all (λ b. b) (part_values (each_passes test) types n)) (sym (made_whole (each_passes test) types n sound.back l) ∙ e)

  is_live : (p : Option Ty) → passes p ≡ true → IsLive live p
  is_live None e = tt
  is_live (Some (Primitive p)) e = tt
  is_live (Some (Id id)) e = e

  are_live : (ps : List (Option Ty)) → list_all (λ b. b) (map (part_value (each_passes test) (values (each_passes test) types)) ps) ≡ true → AllByRecursion (IsLive live) ps
  are_live [] e = tt
  are_live (p ∷ ps) e =
      let b = both (passes p) (list_all (λ b. b) (map (part_value (each_passes test) (values (each_passes test) types)) ps)) e in
      (is_live p b.0, are_live ps b.1)

  -- nothing of another interface is met in it
  none_in : (n : ℕ) → ((j : TypeId) → j.index < n → live j.index ≡ true → met_in types here (Some (Id j)) ≡ []) → (p : Option Ty) → IsBelow n p → IsLive live p → met_in types here p ≡ []
  none_in n go None l i = refl
  none_in n go (Some (Primitive p)) l i = refl
  none_in n go (Some (Id j)) l i = go j l i

  none_in_each : (n : ℕ) → ((j : TypeId) → j.index < n → live j.index ≡ true → met_in types here (Some (Id j)) ≡ []) → (ps : List (Option Ty)) → AllByRecursion (IsBelow n) ps → AllByRecursion (IsLive live) ps → flat_map (λ ts. ts) (map (part_value (meeting types here) (values (meeting types here) types)) ps) ≡ []
  none_in_each n go [] l i = refl
  none_in_each n go (p ∷ ps) l i =
      let rest = flat_map (λ ts. ts) (map (part_value (meeting types here) (values (meeting types here) types)) ps) in
      ap (λ ts. ts ++ rest) (none_in n go p l.0 i.0) ∙ none_in_each n go ps l.1 i.1

  none_below : (bound : ℕ) (id : TypeId) → id.index < bound → id.index < length types → live id.index ≡ true → met_in types here (Some (Id id)) ≡ []
  none_below zero id l m e = absurd (omega (arith, l))
  none_below (suc bound) id l m e =
      let w = whole id.index m e in
      let ps = part_values (meeting types here) types id.index in
      made_whole (meeting types here) types id.index sound.back m
      ∙ (ap (λ (q : Option InterfaceId). elim q [ None ↦ flat_map (λ ts. ts) ps | Some other ↦ record { interface = other; id = record { index = id.index } } ∷ [] ]) (own id.index m w.0)
      ∙ none_in_each id.index (λ j n a. none_below bound j (omega (arith, l, n)) (omega (arith, n, m)) a) (parts (kind_at types id.index)) (parts_below types id.index sound.back m) (are_live (parts (kind_at types id.index)) w.1))

  none_met : (p : Option Ty) → IsBelow (length types) p → IsLive live p → met_in types here p ≡ []
  none_met p l i = none_in (length types) (λ j m a. none_below (length types) j m m a) p l i

  params_live : (ps : List Param) (rest : Bool) → (list_all (λ (p : Param). passes (Some p.ty)) ps && rest) ≡ true → AllByRecursion (λ p. IsLive live (Some p.ty)) ps
  params_live ps rest e = each ps (both (list_all (λ (p : Param). passes (Some p.ty)) ps) rest e).0
    where
      each : (ps : List Param) → list_all (λ (p : Param). passes (Some p.ty)) ps ≡ true → AllByRecursion (λ p. IsLive live (Some p.ty)) ps
      each [] e = tt
      each (p ∷ ps) e = let b = both (passes (Some p.ty)) (list_all (λ (q : Param). passes (Some q.ty)) ps) e in (is_live (Some p.ty) b.0, each ps b.1)

  function_live : (f : Function) → function_passes test types f ≡ true → IsLiveFunction live f
  function_live f e =
      let b = both (list_all (λ (p : Param). passes (Some p.ty)) f.params) (passes f.result) e in
      record { params = params_live f.params (passes f.result) e; result = is_live f.result b.1 }

  none_in_params : (ps : List Param) → AllByRecursion (λ p. IsBelow (length types) (Some p.ty)) ps → AllByRecursion (λ p. IsLive live (Some p.ty)) ps → flat_map (λ (p : Param). met_in types here (Some p.ty)) ps ≡ []
  none_in_params [] l i = refl
  none_in_params (p ∷ ps) l i = ap (λ ts. ts ++ flat_map (λ (q : Param). met_in types here (Some q.ty)) ps) (none_met (Some p.ty) l.0 i.0) ∙ none_in_params ps l.1 i.1

  none_in_function : (f : Function) → HasFunction r f → IsLiveFunction live f → met_in_function types here f ≡ []
  none_in_function f has h = ap (λ ts. ts ++ met_in types here f.result) (none_in_params f.params has.params h.params) ∙ none_met f.result has.result h.result

  all_live : (fs : List Function) → AllByRecursion (λ f. function_passes test types f ≡ true) fs → AllByRecursion (IsLiveFunction live) fs
  all_live [] h = tt
  all_live (f ∷ fs) h = (function_live f h.0, all_live fs h.1)

  none_in_all : (fs : List Function) → AllByRecursion (HasFunction r) fs → AllByRecursion (IsLiveFunction live) fs → flat_map (met_in_function types here) fs ≡ []
  none_in_all [] has h = refl
  none_in_all (f ∷ fs) has h = ap (λ ts. ts ++ flat_map (met_in_function types here) fs) (none_in_function f has.0 h.0) ∙ none_in_all fs has.1 h.1

  closed : AreLiveClosed types here [] live
  closed = record {
    made = λ n l e o. are_live (parts (kind_at types n)) (whole n l e).1;
    known = λ n l e o not_given. plain n l (whole n l e).0;
  }

  pub passing_needs : (used : List (List ℕ × Unit {0})) (functions : List (List ℕ × Function)) → AllByRecursion (λ e. HasFunction r e.1) functions → AllByRecursion (λ f. function_passes test r.types f ≡ true) (used_among used functions) → AreNeedsMet (record { types = r.types; table = [] }) here [] (used_among used functions)
  passing_needs used functions has passing =
      let fs = used_among used functions in
      record {
        live = live;
        types = tt;
        functions = all_live fs passing;
        closed = closed;
        met = subst (λ ts. AllByRecursion (IsOfferedType (record { types = r.types; table = [] })) ts) (sym (none_in_all fs (used_have (HasFunction r) used functions has) (all_live fs passing))) tt;
      }

not_foreign : (here : InterfaceId) (owner : TypeOwner) → is_none (foreign None owner) ≡ true → foreign (Some here) owner ≡ None
not_foreign here (owners.World w) e = refl
not_foreign here owners.«None» e = refl
not_foreign here (owners.Interface i) e = absurd (true≢false (sym e))

none_of : {X : Type 0} (o : Option X) → is_none o ≡ true → o ≡ None
none_of None e = refl
none_of (Some x) e = absurd (true≢false (sym e))

not_true : (b : Bool) → not b ≡ true → b ≡ false
not_true true e = absurd (true≢false (sym e))
not_true false e = refl

module _ (types : List TypeDef) (here : InterfaceId) (n : ℕ) (e : is_unnamed types n (kind_at types n) ≡ true) where
  unnamed_own : IsOwn types here n
  unnamed_own =
      let a = both (is_none (name_at types n)) (is_none (foreign None (owner_at types n)) && not (is_resource (kind_at types n))) e in
      not_foreign here (owner_at types n) (both (is_none (foreign None (owner_at types n))) (not (is_resource (kind_at types n))) a.1).0

  unnamed_plain : HasNoTitle types n
  unnamed_plain =
      let a = both (is_none (name_at types n)) (is_none (foreign None (owner_at types n)) && not (is_resource (kind_at types n))) e in
      record {
        unnamed = none_of (name_at types n) a.0;
        values = not_true (is_resource (kind_at types n)) (both (is_none (foreign None (owner_at types n))) (not (is_resource (kind_at types n))) a.1).1;
      }

-- so it is of types without a name and an owner
pub unnamed_needs : (r : Resolve) (here : InterfaceId) → IsSound r → (used : List (List ℕ × Unit {0})) (functions : List (List ℕ × Function)) → AllByRecursion (λ e. HasFunction r e.1) functions →
    AllByRecursion (λ f. function_passes (is_unnamed r.types) r.types f ≡ true) (used_among used functions) → AreNeedsMet (record { types = r.types; table = [] }) here [] (used_among used functions)
unnamed_needs r here sound used functions has passing =
    passing_needs r here (is_unnamed r.types) sound (λ n l e. unnamed_own r.types here n e) (λ n l e. unnamed_plain r.types here n e) used functions has passing
