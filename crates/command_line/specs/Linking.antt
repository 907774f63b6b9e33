-- The links of a component, printed on standard output. (The program's own; the text is that of
-- `found_links`, and why bytes are not read is said by `comp_check`.)
use Rattle.std.specs.Prelude.{◌≡◌, ◌⊎◌, ℕ, List, [], ◌∷◌, ⊤, Option, Result, Err}
use Rattle.std.specs.Result.{IsErrAnd}
use Rattle.comp_bytes.specs.Grammar.{Encodes}
use Rattle.comp_bytes.specs.declared.def.Def.{Def}
use Rattle.comp_check.specs.Faults.{IsUnread}
use Rattle.comp_check.specs.declared.fault.CheckFault.TheVariants as checks
use Rattle.found_links.specs.Forms.{shown}
use Rattle.found_links.specs.Links.{links}
use Rattle.found_links.specs.declared.forms.Form.{Form}
use Rattle.command_line.specs.Faults.{no_memory}
use Rattle.command_line.specs.Messages.{PrintsText}
use Rattle.command_line.specs.declared.fault.RunFault.{RunFault}
use Rattle.command_line.specs.declared.fault.RunFault.TheVariants as faults
use Rattle.command_line.specs.declared.store.Event.{Event}
use Rattle.command_line.specs.declared.store.Event.TheVariants.{Read, NotRead}

-- the text of the links of the definitions that the bytes encode
pub record IsLinksText (bytes : List ℕ) (form : Form) (text : List ℕ) : Type 0 where
  pub definitions : List Def
  pub encoded : Encodes bytes definitions
  pub is : text ≡ shown form (links definitions)

-- a text is printed, which is that of the links
pub record PrintsLinks {F : Type 0} (bytes : List ℕ) (form : Form) (before after : Option (List ℕ)) (r : Result ⊤ (RunFault F)) : Type 0 where
  pub text : List ℕ
  pub is_text : IsLinksText bytes form text
  pub printed : PrintsText text before after r

-- out of memory, or why the bytes are not read
abbrev pub IsUnreadFault : {F : Type 0} → List ℕ → RunFault F → Type 0
IsUnreadFault bytes (faults.Check checks.Memory) = ⊥
IsUnreadFault bytes (faults.Check f) = IsUnread bytes f
IsUnreadFault bytes f = f ≡ no_memory

-- the links of the definitions that the bytes encode are printed; or nothing is, and this is why
abbrev pub ShowsLinks : {F : Type 0} → List ℕ → Form → Option (List ℕ) → Option (List ℕ) → Result ⊤ (RunFault F) → Type 0
ShowsLinks bytes form before after r = PrintsLinks bytes form before after r ⊎ (IsErrAnd r (IsUnreadFault bytes) × (after ≡ before))

-- What was read, and how the run ended: the file is read, once, and the links of the definitions that
-- its bytes encode are printed, or nothing. The first case is out of memory before the file was read.
abbrev pub Linked : {F : Type 0} → List ℕ → Form → List Event → Option (List ℕ) → Option (List ℕ) → Result ⊤ (RunFault F) → Type 0
Linked file form [] before after r = (r ≡ Err no_memory) × (after ≡ before)
Linked file form (NotRead name ∷ []) before after r = (name ≡ file) × (r ≡ Err (faults.Read file)) × (after ≡ before)
Linked file form (Read name bytes ∷ []) before after r = (name ≡ file) × ShowsLinks bytes form before after r
Linked file form _ before after r = ⊥
