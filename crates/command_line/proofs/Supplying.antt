-- Modules that are given to an encoder, and the component that is put, step by step.
use Rattle.std.proofs.Common.{◌≡◌, ◌+◌, ℕ, List, [], ◌∷◌, ◌++◌, None, Result, Ok, Err, refl, sym, ap, ap₂, subst, ◌∙◌, append-nil, arith, inl, inr}
use Rattle.std.specs.Prelude.{⊤}
use Rattle.std.specs.Result.{IsErrAnd}
use Rattle.comp_worlds.specs.declared.lower.Lower as lower
use Rattle.comp_encoder.specs.Encoder.{Encoder}
use Rattle.comp_encoder.specs.Calls.{after_module, after_adapter}
use Rattle.comp_encoder.specs.Adapters.{NoAdapterCause, IsAdapterRefusal}
use Rattle.comp_encoder.specs.Refusals.{ModuleCause, IsModuleRefusal, NoEncodeCause, IsEncodeRefusal}
use Rattle.comp_encoder.specs.declared.fault.EncodeFault.{EncodeFault}
use Rattle.comp_encoder.specs.Component.{IsEncoding}
use Rattle.fitted_modules.specs.Modules.{fitted_modules, GivesAll}
use Rattle.fitted_modules.specs.declared.fault.ModulesFault.{ModulesFault}
use Rattle.fitted_modules.specs.declared.fault.ModulesFault.TheVariants as fits
use Rattle.fitted_modules.specs.declared.modules.Modules.{Modules}
use Rattle.fitted_modules.specs.declared.modules.NamedModule.{NamedModule}
use Rattle.command_line.specs.Events.{events_of_put, device_faults}
use Rattle.command_line.specs.Faults.{of_fit, of_put, reported_faults, reported_fault}
use Rattle.command_line.specs.Files.{FilesRead}
use Rattle.command_line.specs.Making.{begun, Then, Continues, AreFitted, IsFitFault, IsEncoded, AdaptersEncoded, ModulesEncoded, Encoded, Composed, IsPut, Made}
use Rattle.command_line.specs.declared.adapters.Adapter.{Adapter}
use Rattle.command_line.specs.declared.arguments.Arguments.{Arguments}
use Rattle.command_line.specs.declared.store.Event.{Event}
use Rattle.command_line.specs.declared.store.Event.TheVariants.{Read, NotRead, Put, NotPut}
use Rattle.command_line.specs.declared.store.StoreFault.{StoreFault}
use Rattle.command_line.specs.declared.store.StoreFault.TheVariants as store_faults
use Rattle.command_line.specs.declared.fault.RunFault.{RunFault}
use Rattle.command_line.specs.declared.fault.RunFault.TheVariants as faults
use Rattle.command_line.proofs.FilesRead.{failed_as, reported_files}

module _ {F : Type 0} where
  -- modules that can't be fitted
  pub not_fitted : (read : Modules) (f : ModulesFault) (r : RunFault F) → r ≡ of_fit f → GivesAll {X = Modules} (λ m. m) (Err f) (fitted_modules read.main read.adapters) → IsFitFault read r
  not_fitted read fits.Memory r k h = subst (λ (x : RunFault F). IsFitFault read x) (sym k) refl
  not_fitted read (fits.TooMany n) r k h = subst (λ (x : RunFault F). IsFitFault read x) (sym k) h
  not_fitted read (fits.Main q) r k h = subst (λ (x : RunFault F). IsFitFault read x) (sym k) h
  not_fitted read (fits.Adapter name q) r k h = subst (λ (x : RunFault F). IsFitFault read x) (sym k) h

  pub not_put : (out to bytes component : List ℕ) (f : StoreFault) (r : RunFault F) → to ≡ out → bytes ≡ component → r ≡ of_put out f →
      IsPut out (Ok component) (events_of_put to bytes (Err f)) (Err r)
  not_put out to bytes component store_faults.Device r k b h = (k, b, ap (λ x. Err x) h)
  not_put out to bytes component store_faults.Memory r k b h = ap (λ x. Err x) h

module _ {L B F : Type 0} (l : lower.Ghosts L B F) where
  -- the encoder took an adapter, or refused it
  pub adapter_given : (rest : List NamedModule) (e new : Encoder L B) (a : NamedModule) (name bytes : List ℕ) → name ≡ a.name → bytes ≡ a.bytes →
      new ≡ after_adapter l e name bytes None → NoAdapterCause l e name bytes None →
      Continues {A = ⊤} {B = List ℕ} {E = EncodeFault F} (AdaptersEncoded l e (a ∷ rest)) (AdaptersEncoded l new rest) (Ok tt)
  adapter_given rest e new a name bytes n b h accepted = λ r then. inr (
    subst (λ (y : List ℕ). NoAdapterCause l e a.name y None) b (subst (λ (x : List ℕ). NoAdapterCause l e x bytes None) n accepted),
    subst (λ (now : Encoder L B). AdaptersEncoded l now rest r) (h ∙ ap₂ (λ x y. after_adapter l e x y None) n b) then,
  )

  pub adapter_refused : (rest : List NamedModule) (e new : Encoder L B) (a : NamedModule) (name bytes : List ℕ) (f : EncodeFault F) → name ≡ a.name → bytes ≡ a.bytes →
      IsAdapterRefusal l e name bytes None f →
      Continues {A = ⊤} {B = List ℕ} {E = EncodeFault F} (AdaptersEncoded l e (a ∷ rest)) (AdaptersEncoded l new rest) (Err f)
  adapter_refused rest e new a name bytes f n b cause =
      inl (subst (λ (y : List ℕ). IsAdapterRefusal l e a.name y None f) b (subst (λ (x : List ℕ). IsAdapterRefusal l e x bytes None f) n cause))

  -- What was given so far of adapters: what is made of the rest is made of all.
  pub record GivenSoFar (e now : Encoder L B) (all rest : List NamedModule) : Type 0 where
    pub onward : (r : Result (List ℕ) (EncodeFault F)) → AdaptersEncoded l now rest r → AdaptersEncoded l e all r

  pub none_given : (e : Encoder L B) (all : List NamedModule) → GivenSoFar e e all all
  none_given e all = record { onward = λ r h. h }

  -- one more is given
  pub one_given : (e now new : Encoder L B) (all rest : List NamedModule) (a : NamedModule) → GivenSoFar e now all (a ∷ rest) →
      Continues {A = ⊤} {B = List ℕ} {E = EncodeFault F} (AdaptersEncoded l now (a ∷ rest)) (AdaptersEncoded l new rest) (Ok tt) → GivenSoFar e new all rest
  one_given e now new all rest a h given = record { onward = λ r k. h.onward r (given r k) }

  -- one is refused
  pub one_refused : (e now new : Encoder L B) (all rest : List NamedModule) (a : NamedModule) (f : EncodeFault F) (r : Result ⊤ (EncodeFault F)) → IsErrAnd r (λ y. y ≡ f) →
      GivenSoFar e now all (a ∷ rest) → Continues {A = ⊤} {B = List ℕ} {E = EncodeFault F} (AdaptersEncoded l now (a ∷ rest)) (AdaptersEncoded l new rest) (Err f) →
      Continues (AdaptersEncoded l e all) (IsEncoded l new) r
  one_refused e now new all rest a f (Ok x) ends h given = absurd ends
  one_refused e now new all rest a f (Err d) ends h given = subst (λ (x : EncodeFault F). AdaptersEncoded l e all (Err x)) (sym ends) (h.onward (Err f) given)

  -- all are given
  pub all_given : (e now : Encoder L B) (all rest : List NamedModule) → rest ≡ [] → GivenSoFar e now all rest →
      Continues {A = ⊤} {B = List ℕ} {E = EncodeFault F} (AdaptersEncoded l e all) (IsEncoded l now) (Ok tt)
  all_given e now all [] none h = λ r made. h.onward r made
  all_given e now all (a ∷ rest) none h = absurd (cc)

  -- the encoder took the main module, and then the adapters were given; or it refused it
  pub module_given : (e now new : Encoder L B) (m : Modules) (bytes : List ℕ) (r : Result ⊤ (EncodeFault F)) → bytes ≡ m.main → now ≡ after_module l e bytes →
      ((f : F) → ¬ ModuleCause l e bytes f) → Continues (AdaptersEncoded l now m.adapters) (IsEncoded l new) r → Continues (ModulesEncoded l e m) (IsEncoded l new) r
  module_given e now new m bytes (Ok x) b h accepted given = λ r made. inr (
    subst (λ (y : List ℕ). (f : F) → ¬ ModuleCause l e y f) b accepted,
    subst (λ (d : Encoder L B). AdaptersEncoded l d m.adapters r) (h ∙ ap (λ y. after_module l e y) b) (given r made),
  )
  module_given e now new m bytes (Err g) b h accepted given = inr (
    subst (λ (y : List ℕ). (f : F) → ¬ ModuleCause l e y f) b accepted,
    subst (λ (d : Encoder L B). AdaptersEncoded l d m.adapters (Err g)) (h ∙ ap (λ y. after_module l e y) b) given,
  )

  pub module_refused : (e new : Encoder L B) (m : Modules) (bytes : List ℕ) (f : EncodeFault F) → bytes ≡ m.main → IsModuleRefusal l e bytes f →
      Continues {A = ⊤} {B = List ℕ} {E = EncodeFault F} (ModulesEncoded l e m) (IsEncoded l new) (Err f)
  module_refused e new m bytes f b cause = inl (subst (λ (y : List ℕ). IsModuleRefusal l e y f) b cause)

  -- the component of what was given, or why there is none
  pub none_encoded : (e start new : Encoder L B) (m : Modules) (f : EncodeFault F) (r : Result (List ℕ) (EncodeFault F)) → start ≡ e → IsErrAnd r (λ y. y ≡ f) →
      Continues {A = ⊤} {B = List ℕ} {E = EncodeFault F} (ModulesEncoded l start m) (IsEncoded l new) (Err f) → ModulesEncoded l e m r
  none_encoded e start new m f (Ok c) k ends given = absurd ends
  none_encoded e start new m f (Err d) k ends given =
      subst (λ (x : EncodeFault F). ModulesEncoded l e m (Err x)) (sym ends) (subst (λ (x : Encoder L B). ModulesEncoded l x m (Err f)) k given)

  pub one_encoded : (e start new : Encoder L B) (m : Modules) (bytes component : List ℕ) → start ≡ e → component ≡ bytes →
      Continues {A = ⊤} {B = List ℕ} {E = EncodeFault F} (ModulesEncoded l start m) (IsEncoded l new) (Ok tt) → NoEncodeCause l new → IsEncoding l new bytes →
      ModulesEncoded l e m (Ok component)
  one_encoded e start new m bytes component k same given clear is =
      subst (λ (x : Encoder L B). ModulesEncoded l x m (Ok component)) k
      (given (Ok component) (record { clear = clear; encoded = subst (λ (c : List ℕ). IsEncoding l new c) (sym same) is }))

  pub not_encoded : (e start new : Encoder L B) (m : Modules) (f : EncodeFault F) → start ≡ e →
      Continues {A = ⊤} {B = List ℕ} {E = EncodeFault F} (ModulesEncoded l start m) (IsEncoded l new) (Ok tt) → IsEncodeRefusal l new f →
      ModulesEncoded l e m (Err f)
  not_encoded e start new m f k given cause = subst (λ (x : Encoder L B). ModulesEncoded l x m (Err f)) k (given (Err f) cause)

  -- ---- the run

  pub unread : (e : Encoder L B) (main : List ℕ) (adapters : List Adapter) (es : List Event) (f : RunFault F) (r : Result (List ℕ) (RunFault F)) → IsErrAnd r (λ y. y ≡ f) →
      FilesRead main adapters es (Err f) → Composed l e main adapters es r
  unread e main adapters es f r ends h = record { read = Err f; are_read = h; fitted = Err f; are_fitted = refl; encoded = failed_as r f ends }

  pub unfitted : (e : Encoder L B) (main : List ℕ) (adapters : List Adapter) (es : List Event) (read : Modules) (f : RunFault F) (r : Result (List ℕ) (RunFault F)) → IsErrAnd r (λ y. y ≡ f) →
      FilesRead {F = F} main adapters es (Ok read) → AreFitted {F = F} read (Err f) → Composed l e main adapters es r
  unfitted e main adapters es read f r ends h k = record { read = Ok read; are_read = h; fitted = Err f; are_fitted = k; encoded = failed_as r f ends }

  pub put_none : (layer : L) (names : Arguments) (es : List Event) (f : RunFault F) (r : Result ⊤ (RunFault F)) → IsErrAnd r (λ y. y ≡ f) →
      Composed l (begun l layer names.flags) names.main names.adapters es (Err f) → Made l layer names es r
  put_none layer names es f r ends h =
      record { reads = es; puts = []; in_order = sym (append-nil es); component = Err f; composed = h; is_put = (refl, failed_as r f ends) }

-- ---- refusals of the device

pub faults_both : (a b : List Event) → device_faults (a ++ b) ≡ device_faults a + device_faults b
faults_both [] b = omega arith
faults_both (e ∷ a) b = omega (arith, faults_both a b)

module _ {F : Type 0} where
  pub reported_put : (out : List ℕ) (component : Result (List ℕ) (RunFault F)) (es : List Event) (r : Result ⊤ (RunFault F)) → IsPut out component es r →
      reported_faults component + device_faults es ≡ reported_faults r
  reported_put out (Ok c) [] r h = rw h refl
  reported_put out (Ok c) (Put to bytes ∷ []) r h = rw h.2 refl
  reported_put out (Ok c) (NotPut to bytes ∷ []) r h = rw h.2 refl
  reported_put out (Ok c) (Put to bytes ∷ e ∷ es) r h = absurd h
  reported_put out (Ok c) (NotPut to bytes ∷ e ∷ es) r h = absurd h
  reported_put out (Ok c) (Read name bytes ∷ es) r h = absurd h
  reported_put out (Ok c) (NotRead name ∷ es) r h = absurd h
  reported_put out (Err f) es r h = omega (arith, ap device_faults h.0, ap (λ (x : Result ⊤ (RunFault F)). reported_faults x) h.1)

  none_of_fitting : (m : Modules) (f : RunFault F) → IsFitFault m f → 0 ≡ reported_fault f
  none_of_fitting m (faults.Fit f) h = refl
  none_of_fitting m (faults.Record f) h = refl
  none_of_fitting m (faults.Encode f) h = refl
  none_of_fitting m faults.Usage h = refl
  none_of_fitting m (faults.Read name) h = absurd (cc)
  none_of_fitting m (faults.Write name) h = absurd (cc)
  none_of_fitting m faults.Out h = refl
  none_of_fitting m faults.Closed h = refl
  none_of_fitting m (faults.Lint f) h = refl
  none_of_fitting m faults.Warned h = refl
  none_of_fitting m (faults.Check f) h = refl

module _ {L B F : Type 0} (l : lower.Ghosts L B F) where
  none_of_encoding : (e : Encoder L B) (m : Modules) (r : Result (List ℕ) (RunFault F)) → Encoded l e m r → 0 ≡ reported_faults r
  none_of_encoding e m (Ok c) h = refl
  none_of_encoding e m (Err (faults.Encode f)) h = refl
  none_of_encoding e m (Err faults.Usage) h = absurd h
  none_of_encoding e m (Err (faults.Read name)) h = absurd h
  none_of_encoding e m (Err (faults.Write name)) h = absurd h
  none_of_encoding e m (Err faults.Out) h = absurd h
  none_of_encoding e m (Err faults.Closed) h = absurd h
  none_of_encoding e m (Err (faults.Lint f)) h = absurd h
  none_of_encoding e m (Err faults.Warned) h = absurd h
  none_of_encoding e m (Err (faults.Fit f)) h = absurd h
  none_of_encoding e m (Err (faults.Record f)) h = absurd h
  none_of_encoding e m (Err (faults.Check f)) h = absurd h

  reported_later : (e : Encoder L B) (read fitted : Result Modules (RunFault F)) (r : Result (List ℕ) (RunFault F)) → Then AreFitted read fitted → Then (Encoded l e) fitted r →
      reported_faults read ≡ reported_faults r
  reported_later e (Err f) fitted r h k =
      sym (ap (λ (x : Result (List ℕ) (RunFault F)). reported_faults x) (subst (λ (x : Result Modules (RunFault F)). Then (Encoded l e) x r) h k))
  reported_later e (Ok m) (Err f) r h k = none_of_fitting m f h ∙ sym (ap (λ (x : Result (List ℕ) (RunFault F)). reported_faults x) k)
  reported_later e (Ok m) (Ok n) r h k = none_of_encoding e n r k

  -- each is reported
  pub reported_made : (layer : L) (names : Arguments) (es : List Event) (r : Result ⊤ (RunFault F)) → Made l layer names es r → device_faults es ≡ reported_faults r
  reported_made layer names es r h =
      let c : Composed l (begun l layer names.flags) names.main names.adapters h.reads h.component = h.composed in
      let read : device_faults h.reads ≡ reported_faults h.component =
      reported_files names.main names.adapters h.reads c.read c.are_read ∙ reported_later (begun l layer names.flags) c.read c.fitted h.component c.are_fitted c.encoded in
      omega (arith, ap device_faults h.in_order, faults_both h.reads h.puts, read, reported_put names.out h.component h.puts r h.is_put)
