use Rattle.std.proofs.Common.{get_or, Some, ap, ◌∙◌, arith}
use Rattle.std.proofs.lemmas.List.{get_or_default}
use Rattle.std.proofs.lemmas.Option.{slice_get-get_or}
use Rattle.wasi_fd.specs.declared.descriptor.Descriptor.{Descriptor}
use Rattle.wasi_fd.specs.Table.{table_of, with_at}
use Rattle.wasi_calls.specs.host.Making.{preopened}
use Rattle.wasi_calls.proofs.host.Preopens.{no_preopen, none_open, open_more}
use Rattle.wasi_calls.proofs.host.preopening.open_all.Goals as goal

pub loop-i-init : goal.loop-i-init
loop-i-init c = none_open c.args.preopens.now c.args.serials.now (table_of c.args.descriptors.now) c.requires.streams

pub loop-i-preserved : goal.loop-i-preserved
loop-i-preserved c =
    let ps = c.args.preopens.now in
    let i = c.loop-i.i in
    let old = table_of c.loop-i.descriptors in
    open_more ps c.args.serials.now i (get_or ps i no_preopen) old (table_of c.open_next.new.descriptors) (omega arith) (slice_get-get_or ps i no_preopen c.loop-i-test.true) c.loop-i.invariant
    (λ n few free used k.
    c.open_next.ensures n few free used k
    ∙ ap (λ (d : Descriptor). with_at n (Some d) old k) (c.preopened.ensures
    ∙ ap (preopened (get_or ps i no_preopen)) (get_or_default c.args.serials.now i _ 0 (omega arith))))
