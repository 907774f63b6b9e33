-- A text is a version exactly if the semver parser accepts it.
use Rattle.std.proofs.Common.{ℕ, ◌≡◌, List, Option, Some, None, Ok, Err, refl, sym, ◌∙◌, ap}
use Rattle.std.specs.Prelude.{◌↔◌, IsTrue, is_some, IfSome, IfNone}
use Rattle.semver.specs.Parse.{Parts, version_parts}
use Rattle.semver.specs.declared.error.Error.{Error}
use Rattle.semver.proofs.Grammar.{version_parts-sound, version_parts-complete}
use Rattle.semver.specs.Identifiers.{parts_of}
use Rattle.semver.specs.declared.Version.{Version}
use Rattle.version_texts.specs.Versions.{IsNoVersion}
use Rattle.comp_names.specs.NameForm.{IsVersion}
use Rattle.comp_names.proofs.Deciding.{nowhere}

pub read : {text : List ℕ} {p : Parts} → version_parts text ≡ Ok p → IsVersion text
read {text} {p} e = let s = version_parts-sound text p e in record { parts = p; text = sym s.0; valid = s.1 }

pub unread : {text : List ℕ} {e : Error} → version_parts text ≡ Err e → IsVersion text → ⊥
unread {text} {e} f v = let c = ap version_parts v.text ∙ version_parts-complete v.parts v.valid in cc

pub is_found : (text : List ℕ) (found : Option Version) → IfSome found (λ v. version_parts text ≡ Ok (parts_of v)) → IfNone found (IsNoVersion text) → IsTrue (is_some found) ↔ IsVersion text
is_found text (Some v) some none = (λ h. read some, λ it. refl)
is_found text None some none = nowhere (λ it. unread none.1 it)
