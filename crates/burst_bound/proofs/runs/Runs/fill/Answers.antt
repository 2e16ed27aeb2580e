use Rattle.std.proofs.Common.{List, sym, subst, rules}
use Rattle.std.proofs.lemmas.List.Sorted.{IsNonDecreasingBy-from_sort_by_key}
use Rattle.burst_bound.specs.Inside.Runs.{AreInPlace, AreRuns, TellRuns, place_of}
use Rattle.burst_bound.specs.declared.ran.RanPiece.{RanPiece}
use Rattle.burst_bound.proofs.GatherLemmas.{tell_moved}
use Rattle.burst_bound.proofs.runs.Runs.fill.Goals as goal

pub add_up-requires-clause-order : goal.add_up-requires-clause-order
add_up-requires-clause-order c =
    subst AreInPlace (sym c.deref.ensures.value)
    (IsNonDecreasingBy-from_sort_by_key (λ (p : RanPiece). place_of p.vcpu p.from) _
    c.sort_unstable_by_key.ensures.sorted (λ a r q k. search rules))

pub add_up-requires-clause-runs : goal.add_up-requires-clause-runs
add_up-requires-clause-runs c =
    let kept = c.requires.kept in (
      c.args.rounds,
      kept.0,
      c.requires.few,
      subst (TellRuns c.args.rounds kept.0) (sym c.deref.ensures.value)
          (tell_moved c.args.rounds kept.0 _ _ c.sort_unstable_by_key.ensures.permutation
          (c.gather.ensures.pieces kept.0 kept.1)),
    )

pub returns-clause-runs : goal.returns-clause-runs
returns-clause-runs c = λ s kept.
    let tell = tell_moved c.args.rounds s _ _ c.sort_unstable_by_key.ensures.permutation
    (c.gather.ensures.pieces s kept) in
    subst (λ (ps : List RanPiece). AreRuns c.args.rounds s ps c.add_up.new.before.items) c.deref.ensures.value
    (c.add_up.ensures.runs c.args.rounds s c.requires.few
    (subst (TellRuns c.args.rounds s) (sym c.deref.ensures.value) tell))
