-- Sets of interfaces that are made from lists, and these lists.
use Rattle.std.proofs.Common.{◌≡◌, ◌<◌, ◌+◌, ◌∙◌, ℕ, Bool, true, false, cond, ◌&&◌, ◌||◌, List, [], ◌∷◌, ◌++◌, length, get_or, drop, Option, Some, None, refl, sym, ap, subst, append_assoc, append-nil}
use Rattle.std.specs.Prelude.{is_some}
use Rattle.std.specs.List.{list_any}
use Rattle.std.specs.Map.{lookup, keys_of}
use Rattle.std.specs.Option.{option_and_then}
use Rattle.std.proofs.lemmas.List.{map-append}
use Rattle.std.proofs.lemmas.Option.{none-some, same_Some}
use Rattle.comp_lists.specs.Tables.{with_first}
use Rattle.wit_data.specs.Keys.{is_same_key}
use Rattle.wit_data.specs.declared.functions.Function.{Function}
use Rattle.wit_data.specs.declared.ids.InterfaceId.{InterfaceId}
use Rattle.wit_data.specs.declared.ids.TypeId.{TypeId}
use Rattle.wit_data.specs.declared.worlds.World.{World}
use Rattle.wit_data.specs.declared.worlds.WorldItem.{WorldItem}
use Rattle.wit_data.specs.declared.worlds.WorldItem.TheVariants as items
use Rattle.wit_data.specs.declared.worlds.WorldKey.{WorldKey}
use Rattle.wit_data.proofs.Meeting.{drop_next, drop_all}
use Rattle.world_values.specs.Mentions.{same_interface, interface_in, interfaces_of}
use Rattle.comp_worlds.specs.Encodable.{Entries}
use Rattle.comp_worlds.specs.ExportOrder.{interface_among}
use Rattle.supported_worlds.specs.Distinct.{are_apart, is_new, are_new}
use Rattle.supported_worlds.specs.LeftOut.{are_interfaces_apart, required_of}
use Rattle.supported_worlds.specs.Lent.{InterfaceSet}
use Rattle.supported_worlds.specs.Sets.{IsSetOf}
use Rattle.supported_worlds.proofs.Fresh.{added, start, step, stop}
use Rattle.supported_worlds.proofs.InterfacePlaces.{flipped}

-- ---- sets

-- what a set has is one of its keys
pub has_any : (set : InterfaceSet) (id : InterfaceId) (there : Bool) → there ≡ is_some (lookup (same_interface id) set) → there ≡ list_any (same_interface id) (keys_of set)
has_any set id there is = is ∙ same set
  where
    same : (es : InterfaceSet) → is_some (lookup (same_interface id) es) ≡ list_any (same_interface id) (keys_of es)
    same [] = refl
    same (e ∷ es) = by (same_interface id e.0) (same es)
      where
        by : (b : Bool) → is_some (lookup (same_interface id) es) ≡ list_any (same_interface id) (keys_of es) → is_some (cond b (Some e.1) (lookup (same_interface id) es)) ≡ (b || list_any (same_interface id) (keys_of es))
        by true h = refl
        by false h = h

-- the set has the interfaces before the remaining ones, which are apart if those are that are left
pub record SetSoFar (all rest : List InterfaceId) (set : InterfaceSet) : Type 0 where
  pub keys : keys_of set ++ rest ≡ all
  pub apart : are_apart same_interface all ≡ (are_new same_interface set rest && are_apart same_interface rest)

pub set_start : (all : List InterfaceId) → SetSoFar all all []
set_start all = record { keys = refl; apart = start (Unit {0}) same_interface all }

module _ (all : List InterfaceId) (n : ℕ) (d : InterfaceId) (set : InterfaceSet) (h : SetSoFar all (drop n all) set) (l : n < length all) where
  opened : SetSoFar all (get_or all n d ∷ drop (n + 1) all) set
  opened = subst (λ (rest : List InterfaceId). SetSoFar all rest set) (drop_next all n d l) h

one_more : (all rest : List InterfaceId) (id : InterfaceId) (set : InterfaceSet) → SetSoFar all (id ∷ rest) set → is_new same_interface set id ≡ true → SetSoFar all rest (set ++ (id, tt) ∷ [])
one_more all rest id set h fresh = record {
  keys = ap (λ ks. ks ++ rest) (map-append (λ (e : InterfaceId × Unit {0}). e.0) set ((id, tt) ∷ [])) ∙ (append_assoc (keys_of set) (id ∷ []) rest ∙ h.keys);
  apart = h.apart ∙ step same_interface flipped id tt set rest fresh;
}

pub set_step : (all : List InterfaceId) (n : ℕ) (d : InterfaceId) (set new : InterfaceSet) (fresh : Bool) → SetSoFar all (drop n all) set → n < length all → fresh ≡ is_new same_interface set (get_or all n d) → new ≡ with_first same_interface set (get_or all n d) tt → fresh ≡ true → SetSoFar all (drop (n + 1) all) new
set_step all n d set new fresh h l is made passes =
    let id = get_or all n d in
    let new_one : is_new same_interface set id ≡ true = sym is ∙ passes in
    subst (SetSoFar all (drop (n + 1) all)) (sym (made ∙ added (lookup (same_interface id) set) set (set ++ (id, tt) ∷ []) new_one))
    (one_more all (drop (n + 1) all) id set (opened all n d set h l) new_one)

pub set_twice : (all : List InterfaceId) (n : ℕ) (d : InterfaceId) (set : InterfaceSet) (fresh : Bool) → SetSoFar all (drop n all) set → n < length all → fresh ≡ is_new same_interface set (get_or all n d) → fresh ≡ false → are_apart same_interface all ≡ false
set_twice all n d set fresh h l is fails =
    let o = opened all n d set h l in
    o.apart ∙ stop same_interface flipped (get_or all n d) set (drop (n + 1) all) (sym is ∙ fails)

pub set_end : (all : List InterfaceId) (n : ℕ) (set : InterfaceSet) → SetSoFar all (drop n all) set → n ≡ length all → IsSetOf all set
set_end all n set h e =
    let whole = subst (λ (rest : List InterfaceId). SetSoFar all rest set) (drop_all all n e) h in
    record { apart = whole.apart; keys = sym (append-nil (keys_of set)) ∙ whole.keys }

-- ---- imports and exports

-- the interfaces among the items before the remaining ones
pub record LineSoFar (all rest : Entries) (line : List InterfaceId) : Type 0 where
  pub is : line ++ interfaces_of rest ≡ interfaces_of all

pub line_start : (all : Entries) → LineSoFar all all []
line_start all = record { is = refl }

pub line_interface : (all rest : Entries) (key : WorldKey) (id : InterfaceId) (line new : List InterfaceId) → LineSoFar all ((key, items.Interface id) ∷ rest) line → new ≡ line ++ id ∷ [] → LineSoFar all rest new
line_interface all rest key id line new h made = record { is = ap (λ l. l ++ interfaces_of rest) made ∙ (append_assoc line (id ∷ []) (interfaces_of rest) ∙ h.is) }

pub line_function : (all rest : Entries) (key : WorldKey) (f : Function) (line : List InterfaceId) → LineSoFar all ((key, items.Function f) ∷ rest) line → LineSoFar all rest line
line_function all rest key f line h = record { is = h.is }

pub line_type : (all rest : Entries) (key : WorldKey) (id : TypeId) (line : List InterfaceId) → LineSoFar all ((key, items.NamedType id) ∷ rest) line → LineSoFar all rest line
line_type all rest key id line h = record { is = h.is }

pub line_end : (all : Entries) (line : List InterfaceId) → LineSoFar all [] line → line ≡ interfaces_of all
line_end all line h = sym (append-nil line) ∙ h.is

pub is_apart : (w : World) (line : List InterfaceId) (set : InterfaceSet) → line ≡ interfaces_of w.imports ++ interfaces_of w.exports → IsSetOf line set → true ≡ are_interfaces_apart w
is_apart w line set is h = sym h.apart ∙ ap (are_apart same_interface) is

pub is_twice : (w : World) (line : List InterfaceId) → line ≡ interfaces_of w.imports ++ interfaces_of w.exports → are_apart same_interface line ≡ false → false ≡ are_interfaces_apart w
is_twice w line is h = sym h ∙ ap (are_apart same_interface) is

-- ---- required exports

-- the interfaces that are exported at the keys before the remaining ones
pub record RequiredSoFar (es : Entries) (all rest : List WorldKey) (line : List InterfaceId) : Type 0 where
  pub is : line ++ required_of es rest ≡ required_of es all

pub required_start : (es : Entries) (all : List WorldKey) → RequiredSoFar es all all []
required_start es all = record { is = refl }

among_some : (o : Option WorldItem) (id : InterfaceId) → option_and_then interface_in o ≡ Some id → interface_among o ≡ id ∷ []
among_some None id e = absurd (none-some id e)
among_some (Some (items.Interface other)) id e = ap (λ i. i ∷ []) (same_Some other id e)
among_some (Some (items.Function f)) id e = absurd (none-some id e)
among_some (Some (items.NamedType t)) id e = absurd (none-some id e)

among_none : (o : Option WorldItem) → option_and_then interface_in o ≡ None → interface_among o ≡ []
among_none None e = refl
among_none (Some (items.Interface other)) e = absurd (none-some other (sym e))
among_none (Some (items.Function f)) e = refl
among_none (Some (items.NamedType t)) e = refl

module _ (es : Entries) (all : List WorldKey) (n : ℕ) (d : WorldKey) (line : List InterfaceId) (h : RequiredSoFar es all (drop n all) line) (l : n < length all) where
  key_opened : RequiredSoFar es all (get_or all n d ∷ drop (n + 1) all) line
  key_opened = subst (λ (rest : List WorldKey). RequiredSoFar es all rest line) (drop_next all n d l) h

pub required_some : (es : Entries) (all : List WorldKey) (n : ℕ) (d key : WorldKey) (id : InterfaceId) (line new : List InterfaceId) → RequiredSoFar es all (drop n all) line → n < length all → key ≡ get_or all n d → Some id ≡ option_and_then interface_in (lookup (is_same_key key) es) → new ≡ line ++ id ∷ [] → RequiredSoFar es all (drop (n + 1) all) new
required_some es all n d key id line new h l same is made =
    let rest = required_of es (drop (n + 1) all) in
    let o = key_opened es all n d line h l in
    let at : interface_among (lookup (is_same_key (get_or all n d)) es) ≡ id ∷ [] = ap (λ k. interface_among (lookup (is_same_key k) es)) (sym same) ∙ among_some (lookup (is_same_key key) es) id (sym is) in
    record { is = ap (λ l. l ++ rest) made ∙ (append_assoc line (id ∷ []) rest ∙ (ap (λ is. line ++ (is ++ rest)) (sym at) ∙ o.is)) }

pub required_none : (es : Entries) (all : List WorldKey) (n : ℕ) (d key : WorldKey) (line : List InterfaceId) → RequiredSoFar es all (drop n all) line → n < length all → key ≡ get_or all n d → None ≡ option_and_then interface_in (lookup (is_same_key key) es) → RequiredSoFar es all (drop (n + 1) all) line
required_none es all n d key line h l same is =
    let rest = required_of es (drop (n + 1) all) in
    let o = key_opened es all n d line h l in
    let at : interface_among (lookup (is_same_key (get_or all n d)) es) ≡ [] = ap (λ k. interface_among (lookup (is_same_key k) es)) (sym same) ∙ among_none (lookup (is_same_key key) es) (sym is) in
    record { is = ap (λ is. line ++ (is ++ rest)) (sym at) ∙ o.is }

pub required_end : (es : Entries) (all : List WorldKey) (n : ℕ) (line : List InterfaceId) → RequiredSoFar es all (drop n all) line → n ≡ length all → line ≡ required_of es all
required_end es all n line h e =
    let whole = subst (λ (rest : List WorldKey). RequiredSoFar es all rest line) (drop_all all n e) h in
    sym (append-nil line) ∙ whole.is
