-- What was built only grows at its end.
use Rattle.std.proofs.Common.{◌≡◌, ◌∙◌, ℕ, List, [], ◌∷◌, ◌++◌, sym, ap, append_assoc, append-nil, Option, Result, Ok, Err}
use Rattle.comp_builder.specs.Built.{Built, Adds, name_of}
use Rattle.comp_bytes.specs.Spaces.{items_in}
use Rattle.comp_bytes.specs.declared.def.Def.{Def}
use Rattle.comp_bytes.specs.declared.space.Space.{Space}
use Rattle.byte_encoding.specs.declared.fault.BuildFault.{BuildFault}
use Rattle.comp_items.specs.Items.{Extends}

pub extends_none : (b : Built) → Extends b b
extends_none b = record { more_defs = []; more_names = []; defs = sym (append-nil b.defs); names = sym (append-nil b.names) }

pub extends_same : (a b : Built) → b ≡ a → Extends a b
extends_same a b same = rw same (extends_none a)

pub extends_then : (a b c : Built) → Extends a b → Extends b c → Extends a c
extends_then a b c g h = record {
  more_defs = g.more_defs ++ h.more_defs;
  more_names = g.more_names ++ h.more_names;
  defs = h.defs ∙ (ap (λ l. l ++ h.more_defs) g.defs ∙ append_assoc a.defs g.more_defs h.more_defs);
  names = h.names ∙ (ap (λ l. l ++ h.more_names) g.names ∙ append_assoc a.names g.more_names h.more_names);
}

-- also where the step was refused
pub extends_adds : (old new : Built) (result : Result ℕ BuildFault) (s : Space) (d : Def) (debug : Option (List ℕ)) → Adds old new result s d debug → Extends old new
extends_adds old new (Ok index) s d debug h = record {
  more_defs = d ∷ [];
  more_names = name_of s (items_in s old.defs) debug;
  defs = ap (λ (b : Built). b.defs) h.1;
  names = ap (λ (b : Built). b.names) h.1;
}
extends_adds old new (Err e) s d debug h = extends_same old new h.0

pub ruleset extending = (extends_none, extends_same, extends_then)
