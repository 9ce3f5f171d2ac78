use Rattle.std.proofs.Common.{refl, sym, ◌∙◌}
use Rattle.wasi_fd.specs.Table.{table_of}
use Rattle.wasi_bodies.proofs.OpenEntries.{no_entries}
use Rattle.wasi_calls.proofs.host.wasi_host.WasiHost.new.Goals as goal

pub invariant_of-result : goal.invariant_of-result
invariant_of-result g c = record {
  set_up = record {
    settings = sym c.fits.ensures ∙ c.if-not-fits.false;
    buffers = c.in-Ok-with_capacity.ensures.capacity;
    piece = c.in-Ok-with_capacity-2.ensures.capacity;
    ended = λ never. cc;
    serials = λ fd o is. absurd (no_entries (table_of c.in-Ok.descriptors) c.in-Ok.ensures fd o is);
  };
  known = record {
    numbers = λ fd o is. absurd (no_entries (table_of c.in-Ok.descriptors) c.in-Ok.ensures fd o is);
    there = λ h fd o is. absurd (no_entries (table_of c.in-Ok.descriptors) c.in-Ok.ensures fd o is);
  };
}

pub returns : goal.returns
returns g c = record {
  made = record { fits = sym c.fits.ensures ∙ c.if-not-fits.false; volume = refl; table = c.in-Ok.ensures; input = refl; out = refl; err = refl; settings = refl; interactive = refl; generator = refl };
  hands_back = tt;
  refused = tt;
}

pub returns-then-not-fits : goal.returns-then-not-fits
returns-then-not-fits g c = record {
  made = tt;
  hands_back = refl;
  refused = sym c.fits.ensures ∙ c.if-not-fits.true;
}

pub returns-in_default : goal.returns-in_default
returns-in_default g c = record {
  made = tt;
  hands_back = refl;
  refused = sym c.fits.ensures ∙ c.if-not-fits.false;
}

pub returns-in_default-with_capacity : goal.returns-in_default-with_capacity
returns-in_default-with_capacity g c = record {
  made = tt;
  hands_back = refl;
  refused = sym c.fits.ensures ∙ c.if-not-fits.false;
}

pub returns-in_default-with_capacity-2 : goal.returns-in_default-with_capacity-2
returns-in_default-with_capacity-2 g c = record {
  made = tt;
  hands_back = refl;
  refused = sym c.fits.ensures ∙ c.if-not-fits.false;
}
