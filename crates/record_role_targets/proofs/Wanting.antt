-- What roles name is wanted, and stays so.
use Rattle.std.proofs.Common.{◌≡◌, ℕ, Bool, true, false, cond, List, [], ◌∷◌, ◌++◌, Some, None, is_some, max, refl, sym, ap, ◌∙◌, arith, subst, true≢false, ◌&&◌}
use Rattle.std.specs.Prelude.{nat_eq, if◌then◌else◌}
use Rattle.std.specs.Map.{lookup}
use Rattle.std.specs.Bool.{beq}
use Rattle.std.specs.Str.{bytes_eq}
use Rattle.std.proofs.lemmas.Slice.Eq.{bytes_eq-Decides}
use Rattle.std.proofs.lemmas.Bool.Decides.{Decides-eqb}
use Rattle.std.specs.Cmp.{booleans_Decides}
use Rattle.comp_lists.specs.Tables.{with_first}
use Rattle.record_merge.proofs.Equal.{both, one_truth, one_text, one_owner}
use Rattle.record_values.specs.Names.{is_same_owner, owner_kind, owner_text}
use Rattle.record_values.specs.declared.record.ImportName.{ImportName}
use Rattle.record_values.specs.declared.roles.ImportRole.{ImportRole}
use Rattle.record_values.specs.declared.roles.ImportRole.TheVariants as roles
use Rattle.record_values.specs.declared.roles.Payload.{Payload}
use Rattle.record_values.specs.declared.roles.Payload.TheVariants as payloads
use Rattle.record_role_targets.specs.declared.wanted.Wanted.{Wanted}
use Rattle.record_role_targets.specs.Wanted.{NamedFunction, named_function, is_same_function, Functions, IsNumber, AddsNumber, wanted_if, HasNumber, Keeps, IsPayloadWanted, IsWanted, AreWanted}

-- ---- functions

function_by : (f g : NamedFunction) → f.imported ≡ g.imported → f.owner ≡ g.owner → f.name ≡ g.name → f ≡ g
function_by f g i o n = ap (λ z. named_function z f.owner f.name) i ∙ (ap (λ z. named_function g.imported z f.name) o ∙ ap (λ z. named_function g.imported g.owner z) n)

pub one_function : (f g : NamedFunction) → is_same_function f g ≡ true → f ≡ g
one_function f g e =
    let b = both (beq f.imported g.imported && is_same_owner f.owner g.owner) (bytes_eq f.name g.name) e in
    let c = both (beq f.imported g.imported) (is_same_owner f.owner g.owner) b.0 in
    function_by f g (one_truth f.imported g.imported c.0) (one_owner f.owner g.owner c.1) (one_text f.name g.name b.1)

pub same_function : (f : NamedFunction) → is_same_function f f ≡ true
same_function f =
    rw ((booleans_Decides f.imported f.imported).1 refl, (Decides-eqb (owner_kind f.owner) (owner_kind f.owner)).1 refl, (bytes_eq-Decides (owner_text f.owner) (owner_text f.owner)).1 refl, (bytes_eq-Decides f.name f.name).1 refl) refl

-- ---- numbers

there_last : (numbers : List (ℕ × Unit {0})) (n : ℕ) → is_some (lookup (nat_eq n) (numbers ++ (n, tt) ∷ [])) ≡ true
there_last [] n = ap (λ b. is_some (cond b (Some tt) None)) ((Decides-eqb n n).1 refl)
there_last (e ∷ es) n = by (nat_eq n e.0) (there_last es n)
  where
    by : (b : Bool) → is_some (lookup (nat_eq n) (es ++ (n, tt) ∷ [])) ≡ true → is_some (cond b (Some e.1) (lookup (nat_eq n) (es ++ (n, tt) ∷ []))) ≡ true
    by true later = refl
    by false later = later

there_before : (numbers : List (ℕ × Unit {0})) (n m : ℕ) → is_some (lookup (nat_eq m) numbers) ≡ true → is_some (lookup (nat_eq m) (numbers ++ (n, tt) ∷ [])) ≡ true
there_before [] n m h = absurd (true≢false (sym h))
there_before (e ∷ es) n m h = by (nat_eq m e.0) h (there_before es n m)
  where
    by : (b : Bool) → is_some (cond b (Some e.1) (lookup (nat_eq m) es)) ≡ true → (is_some (lookup (nat_eq m) es) ≡ true → is_some (lookup (nat_eq m) (es ++ (n, tt) ∷ [])) ≡ true)
        → is_some (cond b (Some e.1) (lookup (nat_eq m) (es ++ (n, tt) ∷ []))) ≡ true
    by true p later = refl
    by false p later = later p

there_first : (numbers : List (ℕ × Unit {0})) (n : ℕ) → is_some (lookup (nat_eq n) (with_first nat_eq numbers n tt)) ≡ true
there_first numbers n = by (is_some (lookup (nat_eq n) numbers)) refl
  where
    by : (b : Bool) → is_some (lookup (nat_eq n) numbers) ≡ b → is_some (lookup (nat_eq n) (if b then numbers else numbers ++ (n, tt) ∷ [])) ≡ true
    by true p = p
    by false p = there_last numbers n

there_still : (numbers : List (ℕ × Unit {0})) (n m : ℕ) → is_some (lookup (nat_eq m) numbers) ≡ true → is_some (lookup (nat_eq m) (with_first nat_eq numbers n tt)) ≡ true
there_still numbers n m h = by (is_some (lookup (nat_eq n) numbers))
  where
    by : (b : Bool) → is_some (lookup (nat_eq m) (if b then numbers else numbers ++ (n, tt) ∷ [])) ≡ true
    by true = h
    by false = there_before numbers n m h

pub number_added : (old new : Wanted) (n : ℕ) → new.last ≡ max old.last n → new.numbers ≡ with_first nat_eq old.numbers n tt → AddsNumber old new n
number_added old new n last numbers = record {
  added = record { below = omega (arith, last); listed = ap (λ ns. is_some (lookup (nat_eq n) ns)) numbers ∙ there_first old.numbers n };
  kept = λ m is. record { below = omega (arith, last, is.below); listed = ap (λ ns. is_some (lookup (nat_eq m) ns)) numbers ∙ there_still old.numbers n m is.listed };
}

-- ---- functions with their numbers

pub function_added : (new middle : Functions) (name : NamedFunction) (n : ℕ) (old wanted : Wanted) → AddsNumber old wanted n
    → ((f : NamedFunction) → lookup (is_same_function f) new ≡ cond (is_same_function name f) (Some wanted) (lookup (is_same_function f) middle)) → HasNumber new name n
function_added new middle name n old wanted adds put =
    record { wanted = wanted; named = put name ∙ ap (λ b. cond b (Some wanted) (lookup (is_same_function name) middle)) (same_function name); number = adds.added }

pub functions_kept : (old middle new : Functions) (name : NamedFunction) (n : ℕ) (before wanted : Wanted) → before ≡ wanted_if (lookup (is_same_function name) old)
    → ((f : NamedFunction) → is_same_function name f ≡ false → lookup (is_same_function f) middle ≡ lookup (is_same_function f) old) → AddsNumber before wanted n
    → ((f : NamedFunction) → lookup (is_same_function f) new ≡ cond (is_same_function name f) (Some wanted) (lookup (is_same_function f) middle)) → Keeps old new
functions_kept old middle new name n before wanted took others adds put = record { kept = λ f m h. by f m h (is_same_function name f) refl }
  where
    by : (f : NamedFunction) (m : ℕ) → HasNumber old f m → (b : Bool) → is_same_function name f ≡ b → HasNumber new f m
    by f m h true same =
        let one : name ≡ f = one_function name f same in
        let was : before ≡ h.wanted = took ∙ (ap (λ g. wanted_if (lookup (is_same_function g) old)) one ∙ ap wanted_if h.named) in
        record {
          wanted = wanted;
          named = put f ∙ ap (λ b. cond b (Some wanted) (lookup (is_same_function f) middle)) same;
          number = adds.kept m (subst (λ x. IsNumber x m) (sym was) h.number);
        }
    by f m h false apart = record {
      wanted = h.wanted;
      named = put f ∙ (ap (λ b. cond b (Some wanted) (lookup (is_same_function f) middle)) apart ∙ (others f apart ∙ h.named));
      number = h.number;
    }

pub keeps_all : (functions : Functions) → Keeps functions functions
keeps_all functions = record { kept = λ f n h. h }

-- ---- roles

payload_kept : (old new : Functions) (payload : Payload) → Keeps old new → IsPayloadWanted old payload → IsPayloadWanted new payload
payload_kept old new payloads.Unit k h = tt
payload_kept old new (payloads.Met imported owner function n) k h = k.kept (named_function imported owner function) n h

pub role_kept : (old new : Functions) (role : ImportRole) → Keeps old new → IsWanted old role → IsWanted new role
role_kept old new (roles.Payload kind operation payload is_async) k h = payload_kept old new payload k h
role_kept old new role k h = tt

-- the roles so far, of all of these
pub record WantedSoFar (functions : Functions) (rest table : List (ImportName × ImportRole)) : Type 0 where
  pub done : List (ImportName × ImportRole)
  pub whole : done ++ rest ≡ table
  pub wanted : AreWanted functions done

all_kept : (old new : Functions) (table : List (ImportName × ImportRole)) → Keeps old new → AreWanted old table → AreWanted new table
all_kept old new [] k h = tt
all_kept old new (e ∷ es) k h = (role_kept old new e.1 k h.0, all_kept old new es k h.1)

one_more : (functions : Functions) (done : List (ImportName × ImportRole)) (e : ImportName × ImportRole) → AreWanted functions done → IsWanted functions e.1 → AreWanted functions (done ++ e ∷ [])
one_more functions [] e h is = (is, tt)
one_more functions (d ∷ done) e h is = (h.0, one_more functions done e h.1 is)

joined : (done : List (ImportName × ImportRole)) (e : ImportName × ImportRole) (rest : List (ImportName × ImportRole)) → (done ++ e ∷ []) ++ rest ≡ done ++ e ∷ rest
joined [] e rest = refl
joined (d ∷ done) e rest = ap (λ es. d ∷ es) (joined done e rest)

pub wanted_start : (functions : Functions) (table : List (ImportName × ImportRole)) → WantedSoFar functions table table
wanted_start functions table = record { done = []; whole = refl; wanted = tt }

pub wanted_step : (old new : Functions) (e : ImportName × ImportRole) (rest table : List (ImportName × ImportRole)) → WantedSoFar old (e ∷ rest) table → IsWanted new e.1 → Keeps old new → WantedSoFar new rest table
wanted_step old new e rest table s is k =
    record { done = s.done ++ e ∷ []; whole = joined s.done e rest ∙ s.whole; wanted = one_more new s.done e (all_kept old new s.done k s.wanted) is }

nothing_more : (done : List (ImportName × ImportRole)) → done ++ [] ≡ done
nothing_more [] = refl
nothing_more (d ∷ done) = ap (λ es. d ∷ es) (nothing_more done)

pub wanted_end : (functions : Functions) (rest table : List (ImportName × ImportRole)) → rest ≡ [] → WantedSoFar functions rest table → AreWanted functions table
wanted_end functions rest table e s =
    subst (AreWanted functions) (sym (nothing_more s.done) ∙ (ap (λ es. s.done ++ es) (sym e) ∙ s.whole)) s.wanted
