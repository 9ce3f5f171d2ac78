use Rattle.std.proofs.Common.{inl}
use Rattle.sandbox_host.proofs.opening.begin_of.Goals as goal

pub returns-in-Err-clause-refused : goal.returns-in-Err-clause-refused
returns-in-Err-clause-refused c = rw c.in-Plain.is (inl c.in-Err.ensures.refused)
