use Rattle.std.proofs.Common.{◌≡◌, ◌+◌, ◌++◌, ℕ, List, take, length, ap, ◌∙◌, arith}
use Rattle.std.proofs.lemmas.List.{length-append}
use Rattle.std.proofs.Math.Seq.{take-append-add}
use Rattle.wasi_bodies.specs.internal.Entries.{type_of_entry}
use Rattle.wasi_bodies.specs.internal.files.Listing.{header}
use Rattle.wasi_bodies.proofs.files.DirectoryLists.{same_dirent}
use Rattle.wasi_bodies.proofs.files.listing.describe.Goals as goal

pub returns-clause-told : goal.returns-clause-told
returns-clause-told c = λ e is.
    let s = c.args.stat.now in
    let n = s.name_length in
    let head : List ℕ = header c.args.serial n (type_of_entry s.kind) in
    let first : c.header-beginning.result ≡ head = c.header-beginning.ensures ∙ ap (header c.args.serial n) c.type_of_entry.ensures in
    let all : c.join.new.bytes ≡ head ++ s.name = c.join.ensures ∙ ap (λ (l : List ℕ). l ++ s.name) first in
    let long : length s.name ≡ 255 = (let a = length-append head s.name in let b = ap length all in omega (arith, a, b, c.join.auto.bytes)) in
    ap (take (24 + n)) all ∙ (take-append-add head s.name n ∙ same_dirent c.args.serial e s is long (omega arith))
