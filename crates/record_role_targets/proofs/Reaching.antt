-- A function reaches each stream and each future that occurs in it.
use Rattle.std.proofs.Common.{◌≡◌, ◌∙◌, ◌<◌, ◌≤◌, ◌==◌, ℕ, zero, suc, Bool, true, false, true≢false, List, [], ◌∷◌, ◌++◌, length, map, inl, inr, refl, sym, ap, ap₂, subst, arith, Option, Some, None, if◌then◌else◌}
use Rattle.std.specs.Prelude.{slice_get, option_map}
use Rattle.std.specs.Option.{option_and_then}
use Rattle.std.specs.List.{AllByRecursion, flat_map, list_any}
use Rattle.std.proofs.lemmas.Bool.{cases_lt, eq-eqb, or_left, or_right}
use Rattle.std.proofs.lemmas.List.{get_or_past}
use Rattle.std.proofs.lemmas.Option.{same_Some}
use Rattle.wit_data.specs.Live.{reaching, is_live}
use Rattle.wit_data.specs.Parts.{parts, IsBelow, RefersBack}
use Rattle.wit_data.specs.Sound.{IsSound}
use Rattle.wit_data.specs.Values.{kind_at, value, values}
use Rattle.wit_data.proofs.Values.{made_whole, length_values, parts_below}
use Rattle.wit_data.specs.declared.functions.Function.{Function}
use Rattle.wit_data.specs.declared.functions.Param.{Param}
use Rattle.wit_data.specs.declared.ids.TypeId.{TypeId}
use Rattle.wit_data.specs.declared.types.Type.{«Type» as Ty}
use Rattle.wit_data.specs.declared.types.Type.TheVariants.{Primitive, Id}
use Rattle.wit_data.specs.declared.types.TypeDef.{TypeDef}
use Rattle.wit_data.specs.declared.types.TypeDefKind.{TypeDefKind}
use Rattle.wit_data.specs.declared.types.TypeDefKind.TheVariants as kinds
use Rattle.wit_data.specs.declared.worlds.WorldKey.{WorldKey}
use Rattle.world_values.specs.Mentions.{at_most_one, passed_types}
use Rattle.comp_roles.specs.declared.payloads.PayloadInfo.{PayloadInfo}
use Rattle.comp_roles.specs.declared.payloads.PayloadType.{PayloadType}
use Rattle.comp_roles.specs.declared.payloads.PayloadType.TheVariants as types_of
use Rattle.record_values.specs.declared.roles.Payload.{Payload}
use Rattle.record_values.specs.declared.roles.Payload.TheVariants as payloads
use Rattle.record_values.specs.declared.roles.PayloadKind.{PayloadKind}
use Rattle.record_values.specs.declared.roles.PayloadKind.TheVariants as payload_kinds
use Rattle.record_resolve.specs.declared.resolving.Resolved.{Resolved}
use Rattle.record_role_targets.specs.declared.positions.Position.{Position}
use Rattle.record_role_targets.specs.declared.sides.Side.TheVariants as sides
use Rattle.record_role_targets.specs.Positions.{function_at_key, position_of}
use Rattle.record_role_targets.specs.Payloads.{itself, is_handle, meeting, met_in, met_in_function, unit_info, typed_info, side_of, type_met, resolved_payload}
use Rattle.record_role_targets.proofs.Existence.{IfThere, at_number}

-- ---- types

all_joined : {X : Type 0} (P : X → Type 0) (xs ys : List X) → AllByRecursion P xs → AllByRecursion P ys → AllByRecursion P (xs ++ ys)
all_joined P [] ys h more = more
all_joined P (x ∷ xs) ys h more = (h.0, all_joined P xs ys h.1 more)

all_weaker : {X : Type 0} (P Q : X → Type 0) (xs : List X) → ((x : X) → P x → Q x) → AllByRecursion P xs → AllByRecursion Q xs
all_weaker P Q [] weaker h = tt
all_weaker P Q (x ∷ xs) weaker h = (weaker x h.0, all_weaker P Q xs weaker h.1)

module _ (types : List TypeDef) (back : RefersBack types) where
  -- a part reaches these types
  abbrev AreReached : Option Ty → List TypeId → Type 0
  AreReached p ids = AllByRecursion (λ (id : TypeId). value (reaching id.index) types p ≡ true) ids

  -- each part of a type reaches those that occur in it
  abbrev PartsReach : List (Option Ty) → Type 0
  PartsReach ps = AllByRecursion (λ p. AreReached p (met_in types p)) ps

  -- what a part of a type reaches, the type reaches
  reach_whole : (n target : ℕ) → n < length types → list_any (λ b. b) (map (value (reaching target) types) (parts (kind_at types n))) ≡ true → value (reaching target) types (Some (Id (record { index = n }))) ≡ true
  reach_whole n target l h =
      made_whole (reaching target) types n back l ∙ or_right (n == target) (list_any (λ b. b) (map (value (reaching target) types) (parts (kind_at types n)))) h

  reach_itself : (n : ℕ) → n < length types → value (reaching n) types (Some (Id (record { index = n }))) ≡ true
  reach_itself n l =
      made_whole (reaching n) types n back l ∙ or_left (n == n) (list_any (λ b. b) (map (value (reaching n) types) (parts (kind_at types n)))) (eq-eqb n n refl)

  -- what one of some parts reaches
  abbrev AnyReach : List (Option Ty) → List TypeId → Type 0
  AnyReach ps ids = AllByRecursion (λ (id : TypeId). list_any (λ b. b) (map (value (reaching id.index) types) ps) ≡ true) ids

  here_any : (p : Option Ty) (ps : List (Option Ty)) (ids : List TypeId) → AreReached p ids → AnyReach (p ∷ ps) ids
  here_any p ps [] h = tt
  here_any p ps (id ∷ ids) h = (or_left (value (reaching id.index) types p) (list_any (λ b. b) (map (value (reaching id.index) types) ps)) h.0, here_any p ps ids h.1)

  later_any : (p : Option Ty) (ps : List (Option Ty)) (ids : List TypeId) → AnyReach ps ids → AnyReach (p ∷ ps) ids
  later_any p ps [] h = tt
  later_any p ps (id ∷ ids) h = (or_right (value (reaching id.index) types p) (list_any (λ b. b) (map (value (reaching id.index) types) ps)) h.0, later_any p ps ids h.1)

  parts_any : (ps : List (Option Ty)) → PartsReach ps → AnyReach ps (flat_map (λ f. f) (map (met_in types) ps))
  parts_any [] h = tt
  parts_any (p ∷ ps) h =
      let rest : List TypeId = flat_map (λ f. f) (map (met_in types) ps) in
      all_joined (λ (id : TypeId). list_any (λ b. b) (map (value (reaching id.index) types) (p ∷ ps)) ≡ true) (met_in types p) rest (here_any p ps (met_in types p) h.0) (later_any p ps rest (parts_any ps h.1))

  -- a type that is a stream or a future itself
  itself_reached : (n : ℕ) (kind : TypeDefKind) → n < length types → AreReached (Some (Id (record { index = n }))) (itself n kind)
  itself_reached n (kinds.Stream t) l = (reach_itself n l, tt)
  itself_reached n (kinds.Future t) l = (reach_itself n l, tt)
  itself_reached n kind l = tt

  unless_handle : (p : Option Ty) (handle : Bool) (ids : List TypeId) → AreReached p ids → AreReached p (if handle then [] else ids)
  unless_handle p true ids h = tt
  unless_handle p false ids h = h

  -- a type reaches those that occur in it, where its parts do
  made_reached : (n : ℕ) → n < length types → PartsReach (parts (kind_at types n)) → AreReached (Some (Id (record { index = n }))) (met_in types (Some (Id (record { index = n }))))
  made_reached n l h =
      let kind = kind_at types n in
      let ps = parts kind in
      let whole : Option Ty = Some (Id (record { index = n })) in
      let inner : List TypeId = flat_map (λ f. f) (map (met_in types) ps) in
      let inside : AreReached whole inner =
      all_weaker (λ (id : TypeId). list_any (λ b. b) (map (value (reaching id.index) types) ps) ≡ true) (λ (id : TypeId). value (reaching id.index) types whole ≡ true) inner (λ id any. reach_whole n id.index l any) (parts_any ps h) in
      subst (AreReached whole) (sym (made_whole meeting types n back l))
      (unless_handle whole (is_handle kind) (inner ++ itself n kind) (all_joined (λ (id : TypeId). value (reaching id.index) types whole ≡ true) inner (itself n kind) inside (itself_reached n kind l)))

  -- nothing occurs in a type that isn't there
  past_reached : (n : ℕ) → length types ≤ n → AreReached (Some (Id (record { index = n }))) (met_in types (Some (Id (record { index = n }))))
  past_reached n l =
      let whole : Option Ty = Some (Id (record { index = n })) in
      subst (AreReached whole) (sym (let k = length_values meeting [] types in get_or_past (values meeting types) n [] (omega (arith, l, k)))) tt

  part_reached : (k : ℕ) → ((j : ℕ) → j < k → AreReached (Some (Id (record { index = j }))) (met_in types (Some (Id (record { index = j }))))) → (p : Option Ty) → IsBelow k p → AreReached p (met_in types p)
  part_reached k each None b = tt
  part_reached k each (Some (Primitive q)) b = tt
  part_reached k each (Some (Id id)) b = each id.index b

  parts_reached : (k : ℕ) → ((j : ℕ) → j < k → AreReached (Some (Id (record { index = j }))) (met_in types (Some (Id (record { index = j }))))) → (ps : List (Option Ty)) → AllByRecursion (IsBelow k) ps → PartsReach ps
  parts_reached k each [] b = tt
  parts_reached k each (p ∷ ps) b = (part_reached k each p b.0, parts_reached k each ps b.1)

  reached : (bound n : ℕ) → n < bound → n < length types → AreReached (Some (Id (record { index = n }))) (met_in types (Some (Id (record { index = n }))))
  reached zero n b l = absurd (omega (arith, b))
  reached (suc bound) n b l = made_reached n l (parts_reached n (λ j i. reached bound j (omega (arith, b, i)) (omega (arith, l, i))) (parts (kind_at types n)) (parts_below types n back l))

  -- so does each type
  type_reached : (p : Option Ty) → AreReached p (met_in types p)
  type_reached None = tt
  type_reached (Some (Primitive q)) = tt
  type_reached (Some (Id id)) = elim (cases_lt id.index (length types)) [
    | inl l ↦ reached (suc id.index) id.index (omega arith) l
    | inr past ↦ past_reached id.index past
  ]

  -- ---- functions

  -- what one of some types reaches
  abbrev AreLive : List Ty → List TypeId → Type 0
  AreLive given ids = AllByRecursion (λ (id : TypeId). is_live types given id.index ≡ true) ids

  first_live : (t : Ty) (given : List Ty) (ids : List TypeId) → AreReached (Some t) ids → AreLive (t ∷ given) ids
  first_live t given [] h = tt
  first_live t given (id ∷ ids) h = (or_left (value (reaching id.index) types (Some t)) (is_live types given id.index) h.0, first_live t given ids h.1)

  later_live : (more given : List Ty) (ids : List TypeId) → AreLive given ids → AreLive (more ++ given) ids
  later_live [] given ids h = h
  later_live (t ∷ more) given ids h =
      all_weaker (λ (id : TypeId). is_live types (more ++ given) id.index ≡ true) (λ (id : TypeId). is_live types (t ∷ more ++ given) id.index ≡ true) ids
      (λ id live. or_right (value (reaching id.index) types (Some t)) (is_live types (more ++ given) id.index) live) (later_live more given ids h)

  params_live : (ps : List Param) (given : List Ty) → AreLive (map (λ (p : Param). p.ty) ps ++ given) (flat_map (λ (p : Param). met_in types (Some p.ty)) ps)
  params_live [] given = tt
  params_live (p ∷ ps) given =
      let rest : List Ty = map (λ (p : Param). p.ty) ps ++ given in
      all_joined (λ (id : TypeId). is_live types (p.ty ∷ rest) id.index ≡ true) (met_in types (Some p.ty)) (flat_map (λ (p : Param). met_in types (Some p.ty)) ps) (first_live p.ty rest (met_in types (Some p.ty)) (type_reached (Some p.ty)))
      (later_live (p.ty ∷ []) rest (flat_map (λ (p : Param). met_in types (Some p.ty)) ps) (params_live ps given))

  result_live : (result : Option Ty) → AreLive (at_most_one result) (met_in types result)
  result_live None = tt
  result_live (Some t) = first_live t [] (met_in types (Some t)) (type_reached (Some t))

  -- a function reaches those that occur in it
  function_live : (f : Function) → AreLive (passed_types f) (met_in_function types f)
  function_live f =
      let params : List Ty = map (λ (p : Param). p.ty) f.params in
      let result : List Ty = at_most_one f.result in
      let met : List TypeId = flat_map (λ (p : Param). met_in types (Some p.ty)) f.params in
      all_joined (λ (id : TypeId). is_live types (params ++ result) id.index ≡ true) met (met_in types f.result) (params_live f.params result) (later_live params result (met_in types f.result) (result_live f.result))

  met_live : (f : Function) (n : ℕ) → IfThere (λ (id : TypeId). is_live types (passed_types f) id.index ≡ true) (slice_get (met_in_function types f) n)
  met_live f n = at_number (λ (id : TypeId). is_live types (passed_types f) id.index ≡ true) (met_in_function types f) n (function_live f)

-- ---- payloads

-- the exported function of which a stream or a future is, where there is one, is made of it
pub record IsMet (r : Resolved) (p : PayloadInfo) : Type 0 where
  pub reached : (key : WorldKey) (id : TypeId) (name : List ℕ) (f : Function) → p.imported ≡ false → p.key ≡ Some key → p.ty ≡ types_of.Typed id name → function_at_key sides.Exported r key p.interface name ≡ Some f → is_live r.resolve.types (passed_types f) id.index ≡ true

abbrev id_in : PayloadType → TypeId → TypeId
id_in (types_of.Typed id name) other = id
id_in unit other = other

abbrev name_in : PayloadType → List ℕ
name_in (types_of.Typed id name) = name
name_in unit = []

abbrev is_typed : PayloadType → Bool
is_typed (types_of.Typed id name) = true
is_typed unit = false

met_at : (r : Resolved) → RefersBack r.resolve.types → (position : Position) (name : List ℕ) (n : ℕ) (id : TypeId) (f : Function) → type_met r sides.Exported position name n ≡ Some id → function_at_key sides.Exported r position.key position.interface name ≡ Some f →
    is_live r.resolve.types (passed_types f) id.index ≡ true
met_at r back position name n id f met there =
    let at : slice_get (met_in_function r.resolve.types f) n ≡ Some id = ap (λ (o : Option Function). option_and_then (λ f. slice_get (met_in_function r.resolve.types f) n) o) (sym there) ∙ met in
    subst (IfThere (λ (id : TypeId). is_live r.resolve.types (passed_types f) id.index ≡ true)) at (met_live r.resolve.types back f n)

typed_met : (r : Resolved) → RefersBack r.resolve.types → (field : List ℕ) (imported : Bool) (position : Position) (function : List ℕ) (n : ℕ) (id : TypeId) → type_met r (side_of imported) position function n ≡ Some id → IsMet r (typed_info field imported position function id)
typed_met r back field true position function n id met = record { reached = λ key other name f unimported keyed typed there. absurd (true≢false unimported) }
typed_met r back field false position function n id met = record {
  reached = λ key other name f unimported keyed typed there.
      let at : function_at_key sides.Exported r position.key position.interface function ≡ Some f = ap₂ (λ k m. function_at_key sides.Exported r k position.interface m) (same_Some position.key key keyed) (ap name_in typed) ∙ there in
      subst (λ (i : TypeId). is_live r.resolve.types (passed_types f) i.index ≡ true) (ap (λ (t : PayloadType). id_in t id) typed) (met_at r back position function n id f met at);
}

unit_met : (r : Resolved) (field : List ℕ) (kind : PayloadKind) → IsMet r (unit_info field kind)
unit_met r field payload_kinds.Stream = record { reached = λ key id name f unimported keyed typed there. absurd (true≢false (sym (ap is_typed typed))) }
unit_met r field payload_kinds.Future = record { reached = λ key id name f unimported keyed typed there. absurd (true≢false (sym (ap is_typed typed))) }

with_met : (r : Resolved) → RefersBack r.resolve.types → (field : List ℕ) (imported : Bool) (position : Position) (function : List ℕ) (n : ℕ) (o : Option TypeId) → type_met r (side_of imported) position function n ≡ o → IfThere (IsMet r) (option_map (typed_info field imported position function) o)
with_met r back field imported position function n None e = tt
with_met r back field imported position function n (Some id) e = typed_met r back field imported position function n id e

met_there : (r : Resolved) → RefersBack r.resolve.types → (field : List ℕ) (imported : Bool) (function : List ℕ) (n : ℕ) (o : Option Position) → IfThere (IsMet r) (option_and_then (λ p. option_map (typed_info field imported p function) (type_met r (side_of imported) p function n)) o)
met_there r back field imported function n None = tt
met_there r back field imported function n (Some p) = with_met r back field imported p function n (type_met r (side_of imported) p function n) refl

pub payload_is_met : (r : Resolved) (field : List ℕ) (kind : PayloadKind) (payload : Payload) → IsSound r.resolve → IfThere (IsMet r) (resolved_payload r field kind payload)
payload_is_met r field kind payloads.Unit sound = unit_met r field kind
payload_is_met r field kind (payloads.Met imported owner function n) sound = met_there r sound.back field imported function n (position_of (side_of imported) r owner function)
