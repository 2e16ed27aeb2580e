use Rattle.std.proofs.Common.{◌<◌, get_or, set, length, ap, subst, sym, inl, inr, arith, length-set, get_or-set_same, get_or-set_other}
use Rattle.std.proofs.lemmas.Bool.{cases_eq}
use Rattle.std.proofs.lemmas.List.{get_or_default}
use Rattle.tab_core.specs.declared.piece.Piece.{Piece}
use Rattle.edf_table.specs.Inside.Progress.{IsPieceKept}
use Rattle.edf_table.proofs.Kept.{kept_first}
use Rattle.edf_table.proofs.turn.put_first_begins.Goals as goal

pub loop-i-preserved : goal.loop-i-preserved
loop-i-preserved c =
    let ps = c.args.pieces.now in
    let ns = c.loop-i.begins in
    let i = c.loop-i.i in
    let p = c.index-pieces-i.result in
    let from = (get_or ps i p).from in
    let in_ps : i < length ps = c.loop-i-test.true in
    let in_ns : i < length ns = omega (arith, c.loop-i.invariant.a_begin_each) in
    record {
      a_begin_each = omega (arith, length-set ns i from, c.loop-i.invariant.a_begin_each);
      kept = λ k d lt. elim (cases_eq k i) [
        | inl same ↦ subst (λ m. IsPieceKept (get_or ps m d) 0 0 (get_or (set ns i from) m 0)) (sym same)
            (rw (get_or-set_same ns i from 0 in_ns)
            (kept_first (get_or ps i d) from (ap (λ (x : Piece). x.from) (get_or_default ps i p d in_ps))))
        | inr ne ↦ rw (get_or-set_other ns i k from 0 ne) (c.loop-i.invariant.kept k d (omega arith))
      ];
    }
