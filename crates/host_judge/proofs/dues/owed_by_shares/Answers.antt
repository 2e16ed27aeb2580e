use Rattle.std.proofs.Common.{length, refl, ap, subst, sym, ◌+◌, ◌∙◌}
use Rattle.std.proofs.lemmas.List.{length_push}
use Rattle.std.proofs.lemmas.Option.{slice_get_read}
use Rattle.std.specs.Prelude.{slice_get}
use Rattle.host_judge.specs.Owed.{AreOwedByShares}
use Rattle.host_judge.proofs.OwedLemmas.{none_owed, owed_more}
use Rattle.host_judge.proofs.dues.owed_by_shares.Goals as goal

pub loop-number-init : goal.loop-number-init
loop-number-init c = record {
  many = ap length c.in_ok-owed.ensures.items;
  each = subst (AreOwedByShares c.args.vcpus.now c.args.tick_ns) (sym c.in_ok-owed.ensures.items)
      (none_owed c.args.vcpus.now c.args.tick_ns);
}

pub loop-number-preserved : goal.loop-number-preserved
loop-number-preserved c =
    let before = c.loop-number.invariant in
    let owed = c.loop-number.owed.items in
    let at = slice_get_read c.args.vcpus.now _ c.loop-number.number _ refl c.loop-number-test.true
    c.index-vcpus-number.is in
    let pushed = c.in_ok-push.ensures.items in
    let longer = length_push owed c.owed_of.result in
    record {
      many = ap length pushed ∙ longer ∙ ap (λ n. n + 1) before.many;
      each = rw pushed
          (owed_more c.args.vcpus.now c.args.tick_ns owed c.index-vcpus-number.result c.owed_of.result before.each
          (ap (slice_get c.args.vcpus.now) before.many ∙ at) c.owed_of.ensures);
    }
