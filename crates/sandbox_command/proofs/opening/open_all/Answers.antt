use Rattle.std.proofs.Common.{inl, inr}
use Rattle.std.specs.IoError.{error_kind}
use Rattle.std.specs.declared.io.Error.{Error}
use Rattle.sandbox_command.specs.Alone.{IsLedger, IsMedium, Lacks}
use Rattle.sandbox_places.specs.Places.{IsOfName, IsOfRandom, Receives}
use Rattle.sandbox_command.proofs.Both.{if_err, of_error, of_errors, of_ok, of_values}
use Rattle.sandbox_command.proofs.Chains.{all_asked, err_lacks, input_lacks, its_chain, its_refusal, medium_lacks, module_lacks, out_lacks, profile_lacks, random_lacks, receiver_lacks}
use Rattle.sandbox_command.proofs.opening.open_all.Goals as goal

pub returns-in-Ok-clause-asked : goal.returns-in-Ok-clause-asked
returns-in-Ok-clause-asked g c =
    all_asked g.P.Places.asked g.P.Places.refused c.args.run.now _ _ _ _ _ _ _ _ _
    c.bytes-module.ensures.asked c.random_of-random.ensures.asked c.medium_of-medium.ensures.asked c.opened_file-stdin.ensures.asked
    c.made_file-stdout.ensures.asked c.made_file-stderr.ensures.asked c.ledger_of-profile.ensures.asked
    (its_chain g.P.Places.asked Receives _ _ _ _ c.receiver_of.ensures c.receive_file-received.ensures.asked)

pub returns-in-Err-clause-asked : goal.returns-in-Err-clause-asked
returns-in-Err-clause-asked g c =
    all_asked g.P.Places.asked g.P.Places.refused c.args.run.now _ _ _ _ _ _ _ _ _
    c.bytes-module.ensures.asked c.random_of-random.ensures.asked c.medium_of-medium.ensures.asked c.opened_file-stdin.ensures.asked
    c.made_file-stdout.ensures.asked c.made_file-stderr.ensures.asked c.ledger_of-profile.ensures.asked
    (its_chain g.P.Places.asked Receives _ _ _ _ c.receiver_of.ensures c.receive_file-received.ensures.asked)

-- each is what its name gave
pub returns-in-Ok-clause-opened : goal.returns-in-Ok-clause-opened
returns-in-Ok-clause-opened g c =
    let run = c.args.run.now in
    let places = g.P.Places in
    let are = of_ok _ c.both-files.result c.in-Ok.files
    c.in-Ok.ensures.0
    (of_values c.both-read.result c.both-streams.result c.both-files.result c.both-files.ensures _ _
    (of_values c.both-bytes.result c.medium_of-medium.result c.both-read.result c.both-read.ensures _ (IsMedium places g.P.Volume.Device run.volume run.image_from run.image)
    (of_values c.bytes-module.result c.random_of-random.result c.both-bytes.result c.both-bytes.ensures (λ it. places.is_beginning run.«module».now 67108865 it.items)
    (λ it. IsOfRandom (λ name. places.is_beginning name 67108864) run.random it.items) c.bytes-module.ensures.bytes c.random_of-random.ensures.read)
    c.medium_of-medium.ensures.medium)
    (of_values c.opened_file-stdin.result c.both-outputs.result c.both-streams.result c.both-streams.ensures (IsOfName places.is_input run.stdin) _
    c.opened_file-stdin.ensures.file
    (of_values c.made_file-stdout.result c.both-errors.result c.both-outputs.result c.both-outputs.ensures (IsOfName places.is_output run.stdout) _
    c.made_file-stdout.ensures.file
    (of_values c.made_file-stderr.result c.ledger_of-profile.result c.both-errors.result c.both-errors.ensures (IsOfName places.is_output run.stderr) (IsLedger places.is_output run.profile)
    c.made_file-stderr.ensures.file c.ledger_of-profile.ensures.ledger)))) in
    record {
      its_module = are.0.0.0;
      its_random = are.0.0.1;
      its_medium = are.0.1;
      its_input = are.1.0;
      its_out = are.1.1.0;
      its_err = are.1.1.1.0;
      its_profile = are.1.1.1.1;
    }

-- one of them is refused
pub returns-in-Err-clause-refused : goal.returns-in-Err-clause-refused
returns-in-Err-clause-refused g c =
    let run = c.args.run.now in
    let asks = g.P.Places.asked in
    let refuses = g.P.Places.refused in
    let bytes = c.bytes-module.ensures.asked in
    let random = c.random_of-random.ensures.asked in
    let medium = c.medium_of-medium.ensures.asked in
    let input = c.opened_file-stdin.ensures.asked in
    let out = c.made_file-stdout.ensures.asked in
    let err = c.made_file-stderr.ensures.asked in
    let profile = c.ledger_of-profile.ensures.asked in
    let received = its_chain asks Receives _ _ _ _ c.receiver_of.ensures c.receive_file-received.ensures.asked in
    let lacking : Error → Type 0 = λ e. Lacks g.P.Places run (error_kind e) c.args.places.now c.receive_file-received.new.places in
    of_error lacking c.both.result c.in-Err.error c.in-Err.is
    (of_errors c.both-files.result c.receive_file-received.result c.both.result c.both.ensures lacking
    (of_errors c.both-read.result c.both-streams.result c.both-files.result c.both-files.ensures lacking
    (of_errors c.both-bytes.result c.medium_of-medium.result c.both-read.result c.both-read.ensures lacking
    (of_errors c.bytes-module.result c.random_of-random.result c.both-bytes.result c.both-bytes.ensures lacking
    (if_err _ lacking c.bytes-module.result (λ e refused. inl (module_lacks asks refuses run _ _ _ _ _ _ _ _ _ bytes random medium input out err profile received (error_kind e) refused)) c.bytes-module.ensures.refused)
    (if_err _ lacking c.random_of-random.result (λ e refused. inl (random_lacks asks refuses run _ _ _ _ _ _ _ _ _ bytes random medium input out err profile received (error_kind e) refused)) c.random_of-random.ensures.refused))
    (if_err _ lacking c.medium_of-medium.result (λ e why. elim why [
      | inl refused ↦ inl (medium_lacks asks refuses run _ _ _ _ _ _ _ _ _ bytes random medium input out err profile received (error_kind e) refused)
      | inr memory ↦ inr (inl memory.0, memory.1, all_asked asks refuses run _ _ _ _ _ _ _ _ _ bytes random medium input out err profile received)
    ]) c.medium_of-medium.ensures.refused))
    (of_errors c.opened_file-stdin.result c.both-outputs.result c.both-streams.result c.both-streams.ensures lacking
    (if_err _ lacking c.opened_file-stdin.result (λ e refused. inl (input_lacks asks refuses run _ _ _ _ _ _ _ _ _ bytes random medium input out err profile received (error_kind e) refused)) c.opened_file-stdin.ensures.refused)
    (of_errors c.made_file-stdout.result c.both-errors.result c.both-outputs.result c.both-outputs.ensures lacking
    (if_err _ lacking c.made_file-stdout.result (λ e refused. inl (out_lacks asks refuses run _ _ _ _ _ _ _ _ _ bytes random medium input out err profile received (error_kind e) refused)) c.made_file-stdout.ensures.refused)
    (of_errors c.made_file-stderr.result c.ledger_of-profile.result c.both-errors.result c.both-errors.ensures lacking
    (if_err _ lacking c.made_file-stderr.result (λ e refused. inl (err_lacks asks refuses run _ _ _ _ _ _ _ _ _ bytes random medium input out err profile received (error_kind e) refused)) c.made_file-stderr.ensures.refused)
    (if_err _ lacking c.ledger_of-profile.result (λ e why. elim why [
      | inl refused ↦ inl (profile_lacks asks refuses run _ _ _ _ _ _ _ _ _ bytes random medium input out err profile received (error_kind e) refused)
      | inr memory ↦ inr (inr memory.0, memory.1, all_asked asks refuses run _ _ _ _ _ _ _ _ _ bytes random medium input out err profile received)
    ]) c.ledger_of-profile.ensures.refused)))))
    (if_err _ lacking c.receive_file-received.result (λ e refused. inl (receiver_lacks asks refuses run _ _ _ _ _ _ _ _ _ bytes random medium input out err profile received (error_kind e) (its_refusal asks refuses Receives (error_kind e) _ _ _ _ c.receiver_of.ensures refused))) c.receive_file-received.ensures.refused))
