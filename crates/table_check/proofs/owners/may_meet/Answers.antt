use Rattle.std.proofs.Common.{length, refl, sym, ◌∙◌, arith}
use Rattle.std.proofs.lemmas.Bool.{false≢true}
use Rattle.std.proofs.lemmas.Option.{slice_get_read}
use Rattle.table_check.proofs.OwnersLemmas.{no_clash_apart}
use Rattle.table_check.proofs.owners.may_meet.Goals as goal

pub returns : goal.returns
returns c = λ no v x clash.
    let sets = c.args.owners.now in
    no_clash_apart c.args.raw.now sets c.args.core c.args.other v x c.index-owners-core.result
    c.index-owners-other.result c.requires
    (slice_get_read sets (length sets) c.args.core c.index-owners-core.result refl (omega arith) c.index-owners-core.is)
    (slice_get_read sets (length sets) c.args.other c.index-owners-other.result refl (omega arith) c.index-owners-other.is)
    (λ w both. false≢true (sym no ∙ c.meets.ensures.1 (w, both))) clash
