-- Warnings of several modules, one after the other.
use Rattle.std.proofs.Common.{◌≡◌, ◌∙◌, ℕ, Bool, false, List, [], ◌∷◌, ◌++◌, Result, Ok, Err, refl, sym, ap, ap₂, subst, append_assoc, append-nil, inl, inr}
use Rattle.std.specs.Prelude.{⊤}
use Rattle.std.specs.List.{flat_map}
use Rattle.std.specs.Result.{IsErrAnd}
use Rattle.fitted_modules.specs.declared.modules.Modules.{Modules}
use Rattle.fitted_modules.specs.declared.modules.NamedModule.{NamedModule}
use Rattle.name_warnings.specs.declared.warning.Warning.{Warning}
use Rattle.package_lower.specs.declared.lower.PackageLower.{PackageLower}
use Rattle.module_warnings.specs.Linting.{listed, warnings_of, all_warnings, AreRead, IsCaused, IsFound, IsAdded, LintsOne, AreAdded, LintsEach}
use Rattle.module_warnings.specs.Modules.{warnings_in, LintCause, NoRefusal}
use Rattle.module_warnings.specs.declared.fault.LintFault.{LintFault}
use Rattle.module_warnings.specs.declared.fault.LintFault.TheVariants as faults

abbrev fresh : PackageLower
fresh = record { reject_legacy_names = false }

abbrev rejects : PackageLower → Bool
rejects lower = lower.reject_legacy_names

-- ---- one module

pub one_found : (lower : PackageLower) (m : NamedModule) (name bytes : List ℕ) (found : List Warning) → lower ≡ fresh → name ≡ m.name → bytes ≡ m.bytes → found ≡ warnings_in lower.reject_legacy_names name bytes →
    NoRefusal lower.reject_legacy_names bytes → IsFound m found
one_found lower m name bytes found new n b h k = record {
  is = h ∙ (ap (λ (r : Bool). warnings_in r name bytes) (ap rejects new) ∙ ap₂ (λ (x y : List ℕ). warnings_in false x y) n b);
  read = subst (λ (y : List ℕ). NoRefusal false y) b (subst (λ (r : Bool). NoRefusal r bytes) (ap rejects new) k);
}

pub one_caused : (lower : PackageLower) (m : NamedModule) (bytes : List ℕ) (e : LintFault) → lower ≡ fresh → bytes ≡ m.bytes → LintCause lower.reject_legacy_names bytes e → LintCause false m.bytes e
one_caused lower m bytes e new b h = subst (λ (y : List ℕ). LintCause false y e) b (subst (λ (r : Bool). LintCause r bytes e) (ap rejects new) h)

pub one_added : (m : NamedModule) (before after found : List Warning) → IsFound m found → after ≡ before ++ found → IsAdded before after m
one_added m before after found h k = record { found = k ∙ ap (λ (ws : List Warning). before ++ ws) h.is; read = h.read }

pub one_lacks : (m : NamedModule) (before after : List Warning) (e : LintFault) (r : Result ⊤ LintFault) → IsErrAnd r (λ y. y ≡ e) → LintCause false m.bytes e → LintsOne before after m r
one_lacks m before after e (Ok x) ends h = absurd ends
one_lacks m before after e (Err f) ends h = subst (λ (y : LintFault). LintCause false m.bytes y) (sym ends) h

-- ---- one after the other

caused_first : (m : NamedModule) (ms : List NamedModule) (e : LintFault) → LintCause false m.bytes e → IsCaused (m ∷ ms) e
caused_first m ms faults.Memory h = tt
caused_first m ms (faults.Decode f) h = inl h
caused_first m ms (faults.Core f) h = inl h

caused_later : (m : NamedModule) (ms : List NamedModule) (e : LintFault) → IsCaused ms e → IsCaused (m ∷ ms) e
caused_later m ms faults.Memory h = tt
caused_later m ms (faults.Decode f) h = inr h
caused_later m ms (faults.Core f) h = inr h

-- What was found so far: what is found of the rest is found of all.
pub record LintedSoFar (before now : List Warning) (all rest : List NamedModule) : Type 0 where
  pub found : now ++ flat_map warnings_of rest ≡ before ++ flat_map warnings_of all
  pub read : AreRead rest → AreRead all
  pub caused : (e : LintFault) → IsCaused rest e → IsCaused all e

pub none_linted : (before : List Warning) (all : List NamedModule) → LintedSoFar before before all all
none_linted before all = record { found = refl; read = λ h. h; caused = λ e h. h }

-- one more
pub one_linted : (before now new : List Warning) (all rest : List NamedModule) (m : NamedModule) → LintedSoFar before now all (m ∷ rest) → IsAdded now new m → LintedSoFar before new all rest
one_linted before now new all rest m h k = record {
  found = ap (λ (ws : List Warning). ws ++ flat_map warnings_of rest) k.found ∙ (append_assoc now (warnings_of m) (flat_map warnings_of rest) ∙ h.found);
  read = λ r. h.read (record { each = (k.read, r.each) });
  caused = λ e c. h.caused e (caused_later m rest e c);
}

-- one isn't read
pub one_unread : (before now new : List Warning) (all rest : List NamedModule) (m : NamedModule) (e : LintFault) (r : Result ⊤ LintFault) → IsErrAnd r (λ y. y ≡ e) → LintedSoFar before now all (m ∷ rest) →
    LintCause false m.bytes e → LintsEach before new all r
one_unread before now new all rest m e (Ok x) ends h k = absurd ends
one_unread before now new all rest m e (Err f) ends h k = subst (λ (y : LintFault). IsCaused all y) (sym ends) (h.caused e (caused_first m rest e k))

-- all
pub all_linted : (before now : List Warning) (all rest : List NamedModule) → rest ≡ [] → LintedSoFar before now all rest → AreAdded before now all
all_linted before now all [] none h = record { found = sym (append-nil now) ∙ h.found; read = h.read (record { each = tt }) }
all_linted before now all (m ∷ rest) none h = absurd (cc)

-- ---- of a main module and its adapters

pub all_found : (m : Modules) (ms : List NamedModule) (before after : List Warning) → ms ≡ listed m → before ≡ [] → AreAdded before after ms → after ≡ all_warnings m
all_found m ms before after e none h =
    h.found ∙ (ap (λ (ws : List Warning). ws ++ flat_map warnings_of ms) none ∙ ap (λ (xs : List NamedModule). flat_map warnings_of xs) e)

pub all_read : (m : Modules) (ms : List NamedModule) (before after : List Warning) → ms ≡ listed m → AreAdded before after ms → AreRead (listed m)
all_read m ms before after e h = subst (λ (xs : List NamedModule). AreRead xs) e h.read

pub all_caused : (m : Modules) (ms : List NamedModule) (f : LintFault) → ms ≡ listed m → IsCaused ms f → IsCaused (listed m) f
all_caused m ms f e h = subst (λ (xs : List NamedModule). IsCaused xs f) e h
