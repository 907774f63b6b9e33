-- The links of a component, or why there are none.
use Rattle.std.proofs.Common.{◌≡◌, ◌⊎◌, ℕ, false, List, [], ◌∷◌, Option, Result, Ok, Err, refl, sym, ap, subst, inl, inr}
use Rattle.std.specs.Prelude.{⊤}
use Rattle.std.specs.Result.{IsErrAnd}
use Rattle.comp_check.specs.Faults.{IsUnread}
use Rattle.comp_check.specs.declared.fault.CheckFault.{CheckFault}
use Rattle.comp_check.specs.declared.fault.CheckFault.TheVariants as checks
use Rattle.found_links.specs.declared.forms.Form.{Form}
use Rattle.command_line.specs.Events.{events_of_read, device_faults}
use Rattle.command_line.specs.Faults.{of_read, of_unread, reported_fault, reported_faults}
use Rattle.command_line.specs.Linking.{IsLinksText, PrintsLinks, IsUnreadFault, ShowsLinks, Linked}
use Rattle.command_line.specs.Messages.{PrintsText}
use Rattle.command_line.specs.declared.fault.RunFault.{RunFault}
use Rattle.command_line.specs.declared.fault.RunFault.TheVariants as faults
use Rattle.command_line.specs.declared.store.Event.{Event}
use Rattle.command_line.specs.declared.store.Event.TheVariants.{Read, NotRead, Put, NotPut}
use Rattle.command_line.specs.declared.store.StoreFault.{StoreFault}
use Rattle.command_line.specs.declared.store.StoreFault.TheVariants as store_faults
use Rattle.command_line.proofs.Steps.{reported_text}

-- why a component is not read is why there are no links of it
unread : (F : Type 0) (bytes : List ℕ) (f : CheckFault) → IsUnread bytes f → IsUnreadFault {F = F} bytes (of_unread f)
unread F bytes checks.Memory h = refl
unread F bytes (checks.Grammar place) h = h
unread F bytes (checks.Index definition space index) h = h
unread F bytes (checks.NameTwice name) h = h
unread F bytes (checks.NameForm name) h = h

module _ {F : Type 0} where
  -- the text is printed
  pub links_shown : (bytes : List ℕ) (form : Form) (text printed : List ℕ) (before after : Option (List ℕ)) (r : Result ⊤ (RunFault F)) → printed ≡ text → IsLinksText bytes form text → PrintsText printed before after r →
      ShowsLinks bytes form before after r
  links_shown bytes form text printed before after r e h k =
      inl (record { text = text; is_text = h; printed = subst (λ (t : List ℕ). PrintsText t before after r) e k })

  -- there are none
  pub none_shown : (bytes : List ℕ) (form : Form) (out : Option (List ℕ)) (f : CheckFault) (r : RunFault F) → r ≡ of_unread f → IsUnread bytes f → ShowsLinks bytes form out out (Err r)
  none_shown bytes form out f r e h = inr (subst (λ (x : RunFault F). IsUnreadFault bytes x) (sym e) (unread F bytes f h), refl)

  -- the file can't be read
  pub not_linked : (file name : List ℕ) (form : Form) (out : Option (List ℕ)) (f : StoreFault) (r : RunFault F) → name ≡ file → r ≡ of_read false file f → Linked file form (events_of_read name (Err f)) out out (Err r)
  not_linked file name form out store_faults.Device r e h = (e, ap (λ x. Err x) h, refl)
  not_linked file name form out store_faults.Memory r e h = (ap (λ x. Err x) h, refl)

  -- ---- refusals of the device

  none_of_reading : (bytes : List ℕ) (f : RunFault F) → IsUnreadFault bytes f → 0 ≡ reported_fault f
  none_of_reading bytes (faults.Check f) h = refl
  none_of_reading bytes (faults.Record f) h = refl
  none_of_reading bytes (faults.Fit f) h = refl
  none_of_reading bytes (faults.Encode f) h = refl
  none_of_reading bytes faults.Usage h = refl
  none_of_reading bytes (faults.Read name) h = absurd (cc)
  none_of_reading bytes (faults.Write name) h = absurd (cc)
  none_of_reading bytes faults.Out h = refl
  none_of_reading bytes faults.Closed h = refl
  none_of_reading bytes (faults.Lint f) h = refl
  none_of_reading bytes faults.Warned h = refl

  none_of_unread : (bytes : List ℕ) (r : Result ⊤ (RunFault F)) → IsErrAnd r (IsUnreadFault bytes) → 0 ≡ reported_faults r
  none_of_unread bytes (Ok x) h = absurd h
  none_of_unread bytes (Err f) h = none_of_reading bytes f h

  reported_shown : (bytes : List ℕ) (form : Form) (before after : Option (List ℕ)) (r : Result ⊤ (RunFault F)) → ShowsLinks bytes form before after r → 0 ≡ reported_faults r
  reported_shown bytes form before after r (inl h) = reported_text h.text before after r h.printed
  reported_shown bytes form before after r (inr h) = none_of_unread bytes r h.0

  -- each is reported
  pub reported_linked : (file : List ℕ) (form : Form) (es : List Event) (before after : Option (List ℕ)) (r : Result ⊤ (RunFault F)) → Linked file form es before after r → device_faults es ≡ reported_faults r
  reported_linked file form [] before after r h = rw h.0 refl
  reported_linked file form (NotRead name ∷ []) before after r h = rw h.1 refl
  reported_linked file form (NotRead name ∷ e ∷ es) before after r h = absurd h
  reported_linked file form (Read name bytes ∷ []) before after r h = reported_shown bytes form before after r h.1
  reported_linked file form (Read name bytes ∷ e ∷ es) before after r h = absurd h
  reported_linked file form (Put to component ∷ es) before after r h = absurd h
  reported_linked file form (NotPut to component ∷ es) before after r h = absurd h
