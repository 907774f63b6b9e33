-- What is exported, made after what is imported.
use Rattle.std.proofs.Common.{◌≡◌, Result, Ok, Err, ap, sym, rules}
use Rattle.json_paths.specs.declared.fault.Failure.{Failure}
use Rattle.json_paths.specs.Faults.{◌>>=◌, Gives}
use Rattle.record_resolve.specs.declared.making.Making.{Making}
use Rattle.record_resolve.specs.declared.resolving.Inward.{Inward}
use Rattle.record_resolve.specs.declared.resolving.Resolved.{Resolved}
use Rattle.record_resolve.specs.Steps.{MakesBoth}
use Rattle.record_resolve.specs.declared.interfaces.MadeInterfaces.{MadeInterfaces}
use Rattle.record_resolve.specs.Worlds.{Items}
use Rattle.record_resolve.specs.Resolved.{whole_of, paired}

abbrev first : Inward → Result (Inward × Items) Failure → Inward
first d (Ok p) = p.0
first d (Err e) = d

abbrev second : Items → Result (Inward × Items) Failure → Items
second d (Ok p) = p.1
second d (Err e) = d

pub kept : (v : Inward) (step : Result Items Failure) (outs : Result (Items × MadeInterfaces × Making) Failure) (i : Inward) (items : Items) (r : Result Resolved Failure) →
    MakesBoth step v.kept.made_interfaces v.kept.making outs →
    Ok (i, items) ≡ paired v step →
    Gives (λ r. r) r (Ok (whole_of i.imports items i.kept.made_interfaces i.kept.making i.kept.imported)) →
    Gives (λ r. r) r (outs >>= λ o. Ok (whole_of v.imports o.0 o.1 o.2 v.kept.imported))
kept v (Ok x) outs i items r h e g =
    let same = sym e in
    rw h (rw (ap (first v) same) (rw (ap (second x) same) g))
kept v (Err fault) outs i items r h e g = search rules
