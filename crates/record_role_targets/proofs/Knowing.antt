-- Tables have what roles name of streams and futures.
use Rattle.std.proofs.Common.{◌≡◌, ℕ, Bool, true, false, cond, List, [], ◌∷◌, ◌++◌, Option, Some, None, refl, sym, ap, ◌∙◌, subst, rules}
use Rattle.std.specs.Prelude.{nat_eq, slice_get, option_map}
use Rattle.std.specs.Cmp.{IsEquivalence}
use Rattle.std.specs.Cmp.Rules.{comparing}
use Rattle.std.specs.List.{IsDistinct}
use Rattle.std.specs.Map.{lookup, keys_of}
use Rattle.std.specs.Option.{option_and_then, option_map_or}
use Rattle.std.proofs.lemmas.Option.{same_Some}
use Rattle.comp_lists.proofs.TableLemmas.{absent}
use Rattle.wit_data.specs.declared.functions.Function.{Function}
use Rattle.wit_data.specs.declared.ids.TypeId.{TypeId}
use Rattle.record_values.specs.Names.{is_same_import}
use Rattle.record_values.specs.declared.names.Owner.{Owner}
use Rattle.record_values.specs.declared.record.ImportName.{ImportName}
use Rattle.record_values.specs.declared.roles.ImportRole.{ImportRole}
use Rattle.record_values.specs.declared.roles.ImportRole.TheVariants as roles
use Rattle.record_values.specs.declared.roles.Payload.{Payload}
use Rattle.record_values.specs.declared.roles.Payload.TheVariants as payloads
use Rattle.record_resolve.specs.declared.resolving.Resolved.{Resolved}
use Rattle.record_role_targets.specs.declared.positions.Position.{Position}
use Rattle.record_role_targets.specs.declared.wanted.Wanted.{Wanted}
use Rattle.record_role_targets.specs.Known.{types_met, Tables, AreTables, type_known, IsPayloadKnown, IsKnown, AreKnown}
use Rattle.record_role_targets.specs.Payloads.{met_in_function, side_of, type_met, typed_info, payload_met}
use Rattle.record_role_targets.specs.Positions.{position_of, function_at}
use Rattle.record_role_targets.specs.Walks.{FindsNumbers}
use Rattle.record_role_targets.specs.Wanted.{NamedFunction, named_function, is_same_function, Functions, IsNumber, HasNumber, IsPayloadWanted, IsWanted, AreWanted}
use Rattle.record_role_targets.proofs.Existence.{IfThere, looked_up}
use Rattle.record_role_targets.proofs.Wanting.{one_function}

-- ---- a table for each function

function_laws : IsEquivalence is_same_function
function_laws = Prim.search (comparing, rules) depth 12

-- the tables so far, of all functions
pub record TablesSoFar (r : Resolved) (tables : Tables) (rest functions : Functions) : Type 0 where
  pub done : Functions
  pub whole : done ++ rest ≡ functions
  pub are : AreTables r done tables

pub tables_start : (r : Resolved) (functions : Functions) → TablesSoFar r [] functions functions
tables_start r functions = record { done = []; whole = refl; are = tt }

one_more : (r : Resolved) (done : Functions) (f : NamedFunction × Wanted) (tables : Tables) (name : NamedFunction) (table : List (ℕ × TypeId)) → AreTables r done tables → name ≡ f.0 → FindsNumbers (types_met r f.0) f.1 table
    → AreTables r (done ++ f ∷ []) (tables ++ (name, table) ∷ [])
one_more r [] f [] name table h e finds = (e, finds, tt)
one_more r (d ∷ done) f (t ∷ tables) name table h e finds = (h.0, h.1, one_more r done f tables name table h.2 e finds)
one_more r [] f (t ∷ tables) name table h e finds = absurd h
one_more r (d ∷ done) f [] name table h e finds = absurd h

joined : (done : Functions) (f : NamedFunction × Wanted) (rest : Functions) → (done ++ f ∷ []) ++ rest ≡ done ++ f ∷ rest
joined [] f rest = refl
joined (d ∷ done) f rest = ap (λ fs. d ∷ fs) (joined done f rest)

pub tables_step : (r : Resolved) (old new : Tables) (f : NamedFunction × Wanted) (rest functions : Functions) (name : NamedFunction) (table : List (ℕ × TypeId)) → TablesSoFar r old (f ∷ rest) functions → name ≡ f.0 → FindsNumbers (types_met r f.0) f.1 table
    → new ≡ old ++ (name, table) ∷ [] → TablesSoFar r new rest functions
tables_step r old new f rest functions name table s e finds is =
    record { done = s.done ++ f ∷ []; whole = joined s.done f rest ∙ s.whole; are = subst (AreTables r (s.done ++ f ∷ [])) (sym is) (one_more r s.done f old name table s.are e finds) }

nothing_more : (done : Functions) → done ++ [] ≡ done
nothing_more [] = refl
nothing_more (d ∷ done) = ap (λ fs. d ∷ fs) (nothing_more done)

pub tables_end : (r : Resolved) (tables : Tables) (rest functions : Functions) → rest ≡ [] → TablesSoFar r tables rest functions → AreTables r functions tables
tables_end r tables rest functions e s = subst (λ fs. AreTables r fs tables) (sym (nothing_more s.done) ∙ (ap (λ fs. s.done ++ fs) (sym e) ∙ s.whole)) s.are

none_in : (r : Resolved) (functions : Functions) (tables : Tables) (test : NamedFunction → Bool) → AreTables r functions tables → lookup test functions ≡ None → lookup test tables ≡ None
none_in r [] [] test h none = refl
none_in r (f ∷ fs) (t ∷ ts) test h none = ap (λ g. cond (test g) (Some t.1) (lookup test ts)) h.0 ∙ by (test f.0) none (none_in r fs ts test h.2)
  where
    by : (b : Bool) → cond b (Some f.1) (lookup test fs) ≡ None → (lookup test fs ≡ None → lookup test ts ≡ None) → cond b (Some t.1) (lookup test ts) ≡ None
    by true p more = cc
    by false p more = more p
none_in r [] (t ∷ ts) test h none = absurd h
none_in r (f ∷ fs) [] test h none = absurd h

pub not_yet : (r : Resolved) (tables : Tables) (f : NamedFunction × Wanted) (rest functions : Functions) (name : NamedFunction) → TablesSoFar r tables (f ∷ rest) functions → name ≡ f.0 → IsDistinct is_same_function (keys_of functions) → lookup (is_same_function name) tables ≡ None
not_yet r tables f rest functions name s e apart =
    ap (λ g. lookup (is_same_function g) tables) e ∙ none_in r s.done tables (is_same_function f.0) s.are (absent is_same_function function_laws s.done rest functions f.0 f.1 s.whole apart)

-- ---- what roles name

number_known : (r : Resolved) (functions : Functions) (tables : Tables) (f : NamedFunction) (n : ℕ) → AreTables r functions tables → HasNumber functions f n → type_known tables f n ≡ slice_get (types_met r f) n
number_known r [] ts f n h has = cc
number_known r (g ∷ fs) [] f n h has = absurd h
number_known r (g ∷ fs) (t ∷ ts) f n h has =
    ap (λ k. option_and_then (lookup (nat_eq n)) (cond (is_same_function f k) (Some t.1) (lookup (is_same_function f) ts))) h.0
    ∙ by (is_same_function f g.0) refl has.named (λ is. number_known r fs ts f n h.2 (record { wanted = has.wanted; named = is; number = has.number }))
  where
    by : (b : Bool) → is_same_function f g.0 ≡ b → cond b (Some g.1) (lookup (is_same_function f) fs) ≡ Some has.wanted
        → (lookup (is_same_function f) fs ≡ Some has.wanted → type_known ts f n ≡ slice_get (types_met r f) n)
        → option_and_then (lookup (nat_eq n)) (cond b (Some t.1) (lookup (is_same_function f) ts)) ≡ slice_get (types_met r f) n
    by true same is later =
        let w : g.1 ≡ has.wanted = same_Some g.1 has.wanted is in
        h.1.found n (subst (λ x. IsNumber x n) (sym w) has.number) ∙ ap (λ k. slice_get (types_met r k) n) (sym (one_function f g.0 same))
    by false apart is later = later is

payload_known : (r : Resolved) (functions : Functions) (tables : Tables) (payload : Payload) → AreTables r functions tables → IsPayloadWanted functions payload → IsPayloadKnown r tables payload
payload_known r functions tables payloads.Unit h wanted = tt
payload_known r functions tables (payloads.Met imported owner function n) h wanted = number_known r functions tables (named_function imported owner function) n h wanted

one_known : (r : Resolved) (functions : Functions) (tables : Tables) (role : ImportRole) → AreTables r functions tables → IsWanted functions role → IsKnown r tables role
one_known r functions tables (roles.Payload kind operation payload is_async) h wanted = payload_known r functions tables payload h wanted
one_known r functions tables role h wanted = tt

pub all_known : (r : Resolved) (functions : Functions) (tables : Tables) (table : List (ImportName × ImportRole)) → AreTables r functions tables → AreWanted functions table → AreKnown r tables table
all_known r functions tables [] h wanted = tt
all_known r functions tables (e ∷ es) h wanted = (one_known r functions tables e.1 h wanted.0, all_known r functions tables es h wanted.1)

-- ---- one role

pub role_known : (r : Resolved) (tables : Tables) (table : List (ImportName × ImportRole)) (name : ImportName) (role : ImportRole) → AreKnown r tables table → lookup (is_same_import name) table ≡ Some role → IsKnown r tables role
role_known r tables table name role known is = subst (IfThere (IsKnown r tables)) is (looked_up (IsKnown r tables) (is_same_import name) table known)

met_at_position : (r : Resolved) (f : NamedFunction) (p : Position) (n : ℕ) → position_of (side_of f.imported) r f.owner f.name ≡ Some p → slice_get (types_met r f) n ≡ type_met r (side_of f.imported) p f.name n
met_at_position r f p n is =
    ap (λ o. slice_get (option_map_or (met_in_function r.resolve.types) (option_and_then (λ q. function_at (side_of f.imported) r q f.name) o) []) n) is
    ∙ by (function_at (side_of f.imported) r p f.name)
  where
    by : (o : Option Function) → slice_get (option_map_or (met_in_function r.resolve.types) o []) n ≡ option_and_then (λ g. slice_get (met_in_function r.resolve.types g) n) o
    by None = refl
    by (Some g) = refl

-- what a role names, by the tables
pub met_known : (r : Resolved) (tables : Tables) (field : List ℕ) (imported : Bool) (owner : Owner) (function : List ℕ) (n : ℕ) (position : Option Position) (p : Position) (known : Option TypeId)
    → type_known tables (named_function imported owner function) n ≡ slice_get (types_met r (named_function imported owner function)) n
    → position ≡ position_of (side_of imported) r owner function → position ≡ Some p → known ≡ type_known tables (named_function imported owner function) n
    → option_map (typed_info field imported p function) known ≡ payload_met r field imported owner function n
met_known r tables field imported owner function n position p known has at is found =
    let place = sym at ∙ is in
    let met : known ≡ type_met r (side_of imported) p function n = found ∙ (has ∙ met_at_position r (named_function imported owner function) p n place) in
    ap (λ o. option_map (typed_info field imported p function) o) met
    ∙ sym (ap (λ o. option_and_then (λ q. option_map (typed_info field imported q function) (type_met r (side_of imported) q function n)) o) place)
