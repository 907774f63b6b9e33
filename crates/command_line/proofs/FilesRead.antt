-- Files that are read one after the other.
use Rattle.std.proofs.Common.{◌≡◌, ◌+◌, ℕ, false, List, [], ◌∷◌, ◌++◌, Option, None, Some, Result, Ok, Err, refl, sym, ap, subst, ◌∙◌, append_assoc, append-nil, arith, inl, inr}
use Rattle.std.specs.Prelude.{⊤, ◌⊎◌}
use Rattle.std.specs.Result.{IsErrAnd}
use Rattle.atomic_files.specs.Files.{Node, Known}
use Rattle.atomic_files.specs.Steps.{Unchanged}
use Rattle.fitted_modules.specs.declared.modules.Modules.{Modules}
use Rattle.fitted_modules.specs.declared.modules.NamedModule.{NamedModule}
use Rattle.command_line.specs.Events.{happen, events_of_read, device_faults}
use Rattle.command_line.specs.Faults.{no_memory, of_read, reported_faults}
use Rattle.command_line.specs.Files.{AfterRead, AdaptersRead, FilesRead, Leads}
use Rattle.command_line.specs.declared.adapters.Adapter.{Adapter}
use Rattle.command_line.specs.declared.store.Event.{Event}
use Rattle.command_line.specs.declared.store.Event.TheVariants.{Read, NotRead, Put, NotPut}
use Rattle.command_line.specs.declared.store.StoreFault.{StoreFault}
use Rattle.command_line.specs.declared.store.StoreFault.TheVariants as store_faults
use Rattle.command_line.specs.declared.fault.RunFault.{RunFault}

pub two_happened : (known one two : Option (List Event)) (a b : List Event) → one ≡ happen known a → two ≡ happen one b → two ≡ happen known (a ++ b)
two_happened None one two a b h k = k ∙ ap (λ o. happen o b) h
two_happened (Some es) one two a b h k = k ∙ ap (λ o. happen o b) h ∙ ap (λ x. Some x) (append_assoc es a b)

pub never_changed : (a : Option (List ℕ → Node)) → Known Unchanged a a
never_changed None = tt
never_changed (Some x) = λ name. refl

-- the files, where nothing was changed twice
pub twice_unchanged : (a b c : Option (List ℕ → Node)) → Known Unchanged a b → Known Unchanged b c → Known Unchanged a c
twice_unchanged None None None h k = tt
twice_unchanged (Some x) (Some y) (Some z) h k = λ name. k name ∙ h name
twice_unchanged None None (Some z) h k = absurd k
twice_unchanged None (Some y) c h k = absurd h
twice_unchanged (Some x) None c h k = absurd h
twice_unchanged (Some x) (Some y) None h k = absurd k

-- what a step returned that failed as an earlier one did
pub failed_as : {A E : Type 0} (r : Result A E) (e : E) → IsErrAnd r (λ x. x ≡ e) → r ≡ Err e
failed_as (Ok a) e h = absurd h
failed_as (Err x) e h = ap (λ y. Err y) h

module _ {T U V F : Type 0} where
  -- one beginning of a run after the other
  pub leads_on : (Whole : List Event → Result V (RunFault F) → Type 0) (Mid : T → List Event → Result V (RunFault F) → Type 0) (Rest : U → List Event → Result V (RunFault F) → Type 0)
      (t : T) (a b : List Event) (r : Result U (RunFault F)) → Leads Whole Mid a (Ok t) → Leads (Mid t) Rest b r → Leads Whole Rest (a ++ b) r
  leads_on Whole Mid Rest t a b (Ok u) first second =
      λ more r h. subst (λ es. Whole es r) (sym (append_assoc a b more)) (first (b ++ more) r (second more r h))
  leads_on Whole Mid Rest t a b (Err f) first second = first b (Err f) second

module _ {V F : Type 0} where
  pub not_read : (file name : List ℕ) (Next : List ℕ → List Event → Result V (RunFault F) → Type 0) (f : StoreFault) (r : RunFault F) → name ≡ file → r ≡ of_read false file f →
      AfterRead file Next (events_of_read name (Err f)) (Err r)
  not_read file name Next store_faults.Device r e h = (e, ap (λ x. Err x) h)
  not_read file name Next store_faults.Memory r e h = ap (λ x. Err x) h

  -- each refusal of the device is reported
  pub reported_read : (file : List ℕ) (Next : List ℕ → List Event → Result V (RunFault F) → Type 0) (es : List Event) (r : Result V (RunFault F)) →
      ((bytes : List ℕ) (more : List Event) (ended : Result V (RunFault F)) → Next bytes more ended → device_faults more ≡ reported_faults ended) →
      AfterRead file Next es r → device_faults es ≡ reported_faults r
  reported_read file Next [] r next h = rw h refl
  reported_read file Next (NotRead name ∷ []) r next h = rw h.1 refl
  reported_read file Next (NotRead name ∷ e ∷ es) r next h = absurd h
  reported_read file Next (Read name bytes ∷ es) r next h = omega (arith, next bytes es r h.1)
  reported_read file Next (Put to bytes ∷ es) r next h = absurd h
  reported_read file Next (NotPut to bytes ∷ es) r next h = absurd h

no_memory_left : (F : Type 0) (main : List ℕ) (read : List NamedModule) (rest : List Adapter) → AdaptersRead {F = F} main read rest [] (Err no_memory)
no_memory_left F main read [] = (refl, inr refl)
no_memory_left F main read (a ∷ rest) = refl

module _ {F : Type 0} where
  -- the main module was read
  pub main_read : (adapters : List Adapter) (file name bytes main : List ℕ) → name ≡ file → main ≡ bytes →
      Leads {U = List ℕ} {V = Modules} {F = F} (FilesRead file adapters) (λ m. AdaptersRead m [] adapters) (Read name bytes ∷ []) (Ok main)
  main_read adapters file name bytes main k h = λ more r then. (k, subst (λ (m : List ℕ). AdaptersRead m [] adapters more r) h then)

  pub main_not_read : (adapters : List Adapter) (file : List ℕ) (es : List Event) (f : RunFault F) (r : Result Modules (RunFault F)) → IsErrAnd r (λ x. x ≡ f) →
      FilesRead file adapters es (Err f) → FilesRead file adapters es r
  main_not_read adapters file es f r ends h = subst (λ (x : Result Modules (RunFault F)). FilesRead file adapters es x) (sym (failed_as r f ends)) h

  -- an adapter was read, and added to those before it
  pub adapter_read : (main : List ℕ) (rest : List Adapter) (old new : List NamedModule) (a : Adapter) (name bytes read : List ℕ) → name ≡ a.file → read ≡ bytes →
      new ≡ old ++ record { name = a.name; bytes = read } ∷ [] →
      Leads {U = ⊤} {V = Modules} {F = F} (AdaptersRead main old (a ∷ rest)) (λ _. AdaptersRead main new rest) (Read name bytes ∷ []) (Ok tt)
  adapter_read main rest old new a name bytes read k h added = λ more r then. (
    k,
    subst (λ (b : List ℕ). AdaptersRead main (old ++ record { name = a.name; bytes = b } ∷ []) rest more r) h
        (subst (λ (ms : List NamedModule). AdaptersRead main ms rest more r) added then),
  )

  -- an adapter was read, and there was no memory to add it
  pub adapter_not_added : (main : List ℕ) (rest : List Adapter) (old new : List NamedModule) (a : Adapter) (name bytes : List ℕ) (f : RunFault F) → name ≡ a.file → f ≡ no_memory →
      Leads {U = ⊤} {V = Modules} {F = F} (AdaptersRead main old (a ∷ rest)) (λ _. AdaptersRead main new rest) (Read name bytes ∷ []) (Err f)
  adapter_not_added main rest old new a name bytes f k h = (
    k,
    subst (λ (x : RunFault F). AdaptersRead {F = F} main (old ++ record { name = a.name; bytes = bytes } ∷ []) rest [] (Err x)) (sym h)
        (no_memory_left F main (old ++ record { name = a.name; bytes = bytes } ∷ []) rest),
  )

-- What was read so far of a list of adapters: with these events, and what holds of the rest holds of all.
pub record ReadSoFar (F : Type 0) (main : List ℕ) (all rest : List Adapter) (read : List NamedModule) (before after : Option (List Event)) : Type 0 where
  pub events : List Event
  pub happened : after ≡ happen before events
  pub onward : Leads {U = ⊤} {V = Modules} {F = F} (AdaptersRead main [] all) (λ _. AdaptersRead main read rest) events (Ok tt)

abbrev modules_of : List ℕ → List NamedModule → Modules
modules_of main read = record { main = main; adapters = read }

module _ {F : Type 0} (main : List ℕ) where
  pub none_read : (all : List Adapter) (before : Option (List Event)) → ReadSoFar F main all all [] before before
  none_read all None = record { events = []; happened = refl; onward = λ more r h. h }
  none_read all (Some es) = record { events = []; happened = ap (λ x. Some x) (sym (append-nil es)); onward = λ more r h. h }

  -- one more is read
  pub one_read : (all rest : List Adapter) (a : Adapter) (read new : List NamedModule) (before between after : Option (List Event)) (es : List Event) →
      ReadSoFar F main all (a ∷ rest) read before between → after ≡ happen between es →
      Leads {U = ⊤} {V = Modules} {F = F} (AdaptersRead main read (a ∷ rest)) (λ _. AdaptersRead main new rest) es (Ok tt) →
      ReadSoFar F main all rest new before after
  one_read all rest a read new before between after es h k leads = record {
    events = h.events ++ es;
    happened = two_happened before between after h.events es h.happened k;
    onward = leads_on {T = ⊤} {U = ⊤} {V = Modules} {F = F} (AdaptersRead main [] all) (λ _. AdaptersRead main read (a ∷ rest)) (λ _. AdaptersRead main new rest) tt h.events es (Ok tt) h.onward leads;
  }

  -- the run ends while one is read
  pub one_fails : (all rest : List Adapter) (a : Adapter) (read new : List NamedModule) (before between after : Option (List Event)) (es : List Event) (fault : RunFault F) (r : Result Modules (RunFault F)) →
      IsErrAnd r (λ y. y ≡ fault) → ReadSoFar F main all (a ∷ rest) read before between → after ≡ happen between es →
      Leads {U = ⊤} {V = Modules} {F = F} (AdaptersRead main read (a ∷ rest)) (λ _. AdaptersRead main new rest) es (Err fault) →
      (all_events : List Event) × (after ≡ happen before all_events) × AdaptersRead {F = F} main [] all all_events r
  one_fails all rest a read new before between after es fault (Ok m) ends h k leads = absurd ends
  one_fails all rest a read new before between after es fault (Err f) ends h k leads = (
    h.events ++ es,
    two_happened before between after h.events es h.happened k,
    subst (λ (x : RunFault F). AdaptersRead {F = F} main [] all (h.events ++ es) (Err x)) (sym ends) (h.onward es (Err fault) leads),
  )

  -- all are read
  pub all_read : (all rest : List Adapter) (read : List NamedModule) (before after : Option (List Event)) → rest ≡ [] → ReadSoFar F main all rest read before after →
      (es : List Event) × (after ≡ happen before es) × AdaptersRead {F = F} main [] all es (Ok (modules_of main read))
  all_read all [] read before after none h = (
    h.events,
    h.happened,
    subst (λ (es : List Event). AdaptersRead {F = F} main [] all es (Ok (modules_of main read))) (append-nil h.events) (h.onward [] (Ok (modules_of main read)) (refl, inl refl)),
  )
  all_read all (a ∷ rest) read before after none h = absurd (cc)

-- ---- refusals of the device

module _ {F : Type 0} where
  reported_adapters : (main : List ℕ) (read : List NamedModule) (adapters : List Adapter) (es : List Event) (r : Result Modules (RunFault F)) → AdaptersRead main read adapters es r →
      device_faults es ≡ reported_faults r
  reported_adapters main read [] es r h = ap device_faults h.0 ∙ ended h.1
    where
      ended : ((r ≡ Ok (modules_of main read)) ⊎ (r ≡ Err no_memory)) → 0 ≡ reported_faults r
      ended (inl e) = rw e refl
      ended (inr e) = rw e refl
  reported_adapters main read (a ∷ rest) es r h =
      reported_read a.file _ es r (λ bytes more ended. reported_adapters main (read ++ record { name = a.name; bytes = bytes } ∷ []) rest more ended) h

  -- each is reported
  pub reported_files : (main : List ℕ) (adapters : List Adapter) (es : List Event) (r : Result Modules (RunFault F)) → FilesRead main adapters es r → device_faults es ≡ reported_faults r
  reported_files main adapters es r h = reported_read main _ es r (λ bytes more ended. reported_adapters bytes [] adapters more ended) h
