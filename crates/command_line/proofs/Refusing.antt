-- A run that is out of memory before it reads a file.
use Rattle.std.proofs.Common.{◌≡◌, ℕ, Bool, List, [], Option, None, Some, Err, refl, sym, ap, subst, ◌∙◌, inr}
use Rattle.comp_worlds.specs.declared.lower.Lower as lower
use Rattle.command_line.specs.Arguments.{NeedsMemory, is_listing}
use Rattle.command_line.specs.Faults.{no_memory, out_of_memory}
use Rattle.command_line.specs.Running.{Performed}
use Rattle.command_line.specs.declared.arguments.Request.{Request}
use Rattle.command_line.specs.declared.arguments.Request.TheVariants as requests
use Rattle.command_line.specs.declared.fault.RunFault.{RunFault}
use Rattle.command_line.specs.declared.store.Event.{Event}
use Rattle.command_line.proofs.Steps.{nothing_happened}

module _ {L B F : Type 0} (l : lower.Ghosts L B F) where
  none_performed : (layer : L) (request : Option Request) (events : Option (List Event)) (out : Option (List ℕ)) → NeedsMemory request →
      Performed l layer request events events out out (Err (out_of_memory (is_listing request)))
  none_performed layer None events out h = absurd h
  none_performed layer (Some (requests.New names)) events out h = record {
    events = [];
    happened = nothing_happened events;
    did = (
      record {
        reads = [];
        puts = [];
        in_order = refl;
        component = Err no_memory;
        composed = record { read = Err no_memory; are_read = refl; fitted = Err no_memory; are_fitted = refl; encoded = refl };
        is_put = (refl, refl);
      },
      refl,
    );
    counted = refl;
  }
  none_performed layer (Some (requests.Record to file)) events out h = record {
    events = [];
    happened = nothing_happened events;
    did = (record { reads = []; puts = []; in_order = refl; recorded = Err no_memory; made = refl; is_put = (refl, refl) }, refl);
    counted = refl;
  }
  none_performed layer (Some (requests.Defs file)) events out h =
      record { events = []; happened = nothing_happened events; did = (refl, refl); counted = refl }
  none_performed layer (Some (requests.Links file form)) events out h =
      record { events = []; happened = nothing_happened events; did = (refl, refl); counted = refl }
  none_performed layer (Some (requests.Explain text)) events out h =
      record { events = []; happened = nothing_happened events; did = (refl, inr (refl, refl)); counted = refl }
  none_performed layer (Some (requests.Lint main adapters)) events out h =
      record { events = []; happened = nothing_happened events; did = record { read = Err no_memory; are_read = refl; lints = (refl, refl) }; counted = refl }
  none_performed layer (Some requests.Help) events out h = absurd h
  none_performed layer (Some requests.Version) events out h = absurd h

  pub without_memory : (layer : L) (request : Option Request) (events : Option (List Event)) (out : Option (List ℕ)) (listing : Bool) (f : RunFault F) → NeedsMemory request →
      listing ≡ is_listing request → f ≡ out_of_memory listing → Performed l layer request events events out out (Err f)
  without_memory layer request events out listing f h is e =
      subst (λ (x : RunFault F). Performed l layer request events events out out (Err x)) (sym (e ∙ ap (λ b. out_of_memory b) is)) (none_performed layer request events out h)
