-- What was read to print a text, and how often the device refused.
use Rattle.std.proofs.Common.{◌≡◌, ℕ, List, [], ◌∷◌, Option, None, Some, Result, Ok, Err, refl, ap, sym, append-nil}
use Rattle.std.specs.Prelude.{⊤}
use Rattle.command_line.specs.Events.{happen, device_faults}
use Rattle.command_line.specs.Faults.{reported_faults}
use Rattle.command_line.specs.Listing.{Listed, Prints}
use Rattle.command_line.specs.Messages.{PrintsText}
use Rattle.command_line.specs.declared.store.Event.{Event}
use Rattle.command_line.specs.declared.store.Event.TheVariants.{Read, NotRead, Put, NotPut}
use Rattle.command_line.specs.declared.fault.RunFault.{RunFault}
use Rattle.command_line.specs.declared.fault.RunFault.TheVariants as faults

pub nothing_happened : (known : Option (List Event)) → known ≡ happen known []
nothing_happened None = refl
nothing_happened (Some es) = ap (λ x. Some x) (sym (append-nil es))

module _ {F : Type 0} where
  pub reported_text : (text : List ℕ) (before after : Option (List ℕ)) (r : Result ⊤ (RunFault F)) → PrintsText text before after r → 0 ≡ reported_faults r
  reported_text text before after (Ok x) h = refl
  reported_text text before after (Err faults.Usage) h = absurd h
  reported_text text before after (Err (faults.Read name)) h = absurd h
  reported_text text before after (Err (faults.Write name)) h = absurd h
  reported_text text before after (Err faults.Out) h = refl
  reported_text text before after (Err faults.Closed) h = refl
  reported_text text before after (Err (faults.Lint f)) h = absurd h
  reported_text text before after (Err faults.Warned) h = absurd h
  reported_text text before after (Err (faults.Check f)) h = absurd h
  reported_text text before after (Err (faults.Fit f)) h = absurd h
  reported_text text before after (Err (faults.Record f)) h = absurd h
  reported_text text before after (Err (faults.Encode f)) h = absurd h

  -- each refusal of the device is reported
  pub reported_listed : (file : List ℕ) (es : List Event) (before after : Option (List ℕ)) (r : Result ⊤ (RunFault F)) → Listed file es before after r → device_faults es ≡ reported_faults r
  reported_listed file [] before after r h = rw h.0 refl
  reported_listed file (NotRead name ∷ []) before after r h = rw h.1 refl
  reported_listed file (NotRead name ∷ e ∷ es) before after r h = absurd h
  reported_listed file (Read name bytes ∷ e ∷ es) before after r h = absurd h
  reported_listed file (Read name bytes ∷ []) before after r h = reported r h.1
    where
      reported : (r : Result ⊤ (RunFault F)) → Prints bytes before after r → 0 ≡ reported_faults r
      reported (Ok x) h = refl
      reported (Err faults.Usage) h = absurd h
      reported (Err (faults.Read name)) h = absurd h
      reported (Err (faults.Write name)) h = absurd h
      reported (Err faults.Out) h = refl
      reported (Err faults.Closed) h = refl
      reported (Err (faults.Lint f)) h = absurd h
      reported (Err faults.Warned) h = absurd h
      reported (Err (faults.Check f)) h = refl
      reported (Err (faults.Fit f)) h = absurd h
      reported (Err (faults.Record f)) h = absurd h
      reported (Err (faults.Encode f)) h = absurd h
  reported_listed file (Put to component ∷ es) before after r h = absurd h
  reported_listed file (NotPut to component ∷ es) before after r h = absurd h
