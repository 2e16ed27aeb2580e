use Rattle.std.proofs.Common.{◌≤◌, ◌*◌, ◌/◌, ℕ, subst, ap, arith}
use Rattle.std.proofs.lemmas.List.{get_or_read, take_all}
use Rattle.tab_core.specs.declared.TheConstants.{ROUND}
use Rattle.tab_core.specs.declared.piece.Piece.{Piece}
use Rattle.edf_table.specs.Load.{AreUnsplit, IsUnsplit, load_of_pieces}
use Rattle.edf_table.proofs.LoadLemmas.{all_unsplit_more, load_more, unsplit_fits}
use Rattle.edf_table.proofs.light.are_unsplit_and_light.Goals as goal

pub loop-piece-preserved : goal.loop-piece-preserved
loop-piece-preserved c =
    let ps = c.args.pieces.now in
    let i = c.loop-piece.piece-index in
    let p = c.piece-item.result in
    let lt = c.loop-piece-test.true in
    let read = get_or_read ps i p lt c.piece-item.is p in
    let here : IsUnsplit p = record { begins = omega arith; ends = omega arith } in
    let Takes : Piece → ℕ = λ q. q.cost * (ROUND / q.period) in
    record {
      whole = all_unsplit_more ps i p lt c.loop-piece.invariant.whole (subst IsUnsplit read here);
      value = (let more = load_more ps i p lt in let same = ap Takes read in rw
          (c.from.ensures, c.from-in-loop-piece.ensures) (omega arith));
      light = omega arith;
    }

pub returns : goal.returns
returns c told =
    let ps = c.args.pieces.now in
    let all = take_all c.loop-piece.piece-index ps (omega arith) in
    unsplit_fits ps (subst AreUnsplit all c.loop-piece.invariant.whole)
    (subst (λ qs. load_of_pieces qs ≤ ROUND) all (omega arith))
