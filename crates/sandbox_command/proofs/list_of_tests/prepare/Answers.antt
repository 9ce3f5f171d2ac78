use Rattle.std.proofs.Common.{inl, inr}
use Rattle.sandbox_command.proofs.Chains.{passed}
use Rattle.sandbox_command.proofs.list_of_tests.prepare.Goals as goal

pub returns-in_err-open : goal.returns-in_err-open
returns-in_err-open g c = passed _ _ c.from_residual.result c.in_err-open.field-0.0 c.from_residual.ensures.1 (inl (inl (c.open.ensures.asked, c.in_err-open.ensures.refused)))

pub returns-in_err-make : goal.returns-in_err-make
returns-in_err-make g c = passed _ _ c.from_residual-in_err-make.result c.in_err-make.field-0.0 c.from_residual-in_err-make.ensures.1
    (inl (inr (_, c.open.ensures.asked, inl (c.make.ensures.asked, c.in_err-make.ensures.refused))))

pub returns-in_err-make-2 : goal.returns-in_err-make-2
returns-in_err-make-2 g c = passed _ _ c.from_residual-in_err-make-2.result c.in_err-make-2.field-0.0 c.from_residual-in_err-make-2.ensures.1
    (inl (inr (_, c.open.ensures.asked, inr (_, c.make.ensures.asked, inl (c.make-2.ensures.asked, c.in_err-make-2.ensures.refused)))))

-- the image couldn't be read, or memory was wanting for sectors
pub returns-in_err-device : goal.returns-in_err-device
returns-in_err-device g c = passed _ _ c.from_residual-in_err-device.result c.in_err-device.field-0.0 c.from_residual-in_err-device.ensures.1
    (elim c.in_err-device.ensures.refused [
      | inl refused ↦ inl (inr (_, c.open.ensures.asked, inr (_, c.make.ensures.asked, inr (_, c.make-2.ensures.asked, refused))))
      | inr memory ↦ inr (memory.0, memory.1, (_, c.open.ensures.asked, (_, c.make.ensures.asked, (_, c.make-2.ensures.asked, c.memory_of.ensures.asked))))
    ])

pub returns : goal.returns
returns g c = record {
  asked_for = (_, c.open.ensures.asked, (_, c.make.ensures.asked, (_, c.make-2.ensures.asked, c.memory_of.ensures.asked)));
  input = c.in_ok-open.ensures.input;
  out = c.in_ok-make.ensures.output;
  err = c.in_ok-make-2.ensures.output;
  new = c.in_ok-device.ensures.sectors;
  of_image = c.in_ok-device.ensures.image;
}
