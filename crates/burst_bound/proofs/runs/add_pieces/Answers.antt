use Rattle.std.proofs.Common.{◌≡◌, ℕ, ◌<◌, List, ◌∷◌, ◌++◌, [], Option, None, Some, length, length-append, take, sym, ap, ◌∙◌, arith, rules}
use Rattle.std.specs.Prelude.{vec_capacity}
use Rattle.std.proofs.lemmas.List.{append-nil}
use Rattle.burst_bound.specs.Inside.Runs.{piece_of, piece_with, pieces_of}
use Rattle.burst_bound.specs.declared.ran.RanPiece.{RanPiece}
use Rattle.burst_bound.proofs.GatherLemmas.{pieces_more}
use Rattle.burst_bound.proofs.runs.add_pieces.Goals as goal
use Rattle.burst_bound.proofs.runs.add_pieces.Goals.{in-Some, in_default}

pub push_reserved-requires : goal.push_reserved-requires
push_reserved-requires c =
    let few = c.loop-stint.invariant.few in
    let cap = c.loop-stint.invariant.capacity in
    let room = c.requires in
    let small : length c.loop-stint.pieces.items < vec_capacity c.loop-stint.pieces = omega arith in
    search (rules, small)

pub loop-stint-init : goal.loop-stint-init
loop-stint-init c = record {
  items = sym (append-nil c.args.pieces.now.items);
  few = omega arith;
  capacity = search rules;
}

pub loop-stint-preserved : goal.loop-stint-preserved
loop-stint-preserved c =
    let inv = c.loop-stint.invariant in
    let st = c.stint-item.result in
    let more = pieces_more c.args.pieces.now.items c.args.stints.now c.loop-stint.stint-index c.stint-item.result
    c.loop-stint-test.true c.stint-item.is in
    elim c.match-stint.branch [
      | in-Some w ↦
          let piece : RanPiece = record { vcpu = w.index.result; from = st.from; end = st.end } in
          let pushed : c.match-stint.pieces.items ≡ c.loop-stint.pieces.items ++ piece ∷ [] = search rules in
          let long = ap length pushed ∙ length-append c.loop-stint.pieces.items (piece ∷ []) in
          let ran : st.ran ≡ Some w.index.result = search rules in
          let of : piece_of st ≡ piece ∷ [] = ap (λ (o : Option ℕ). piece_with o st.from st.end) ran in
          record {
            items = pushed ∙ ap (λ (ps : List RanPiece). ps ++ piece ∷ []) inv.items
                ∙ ap (λ (ps : List RanPiece). (c.args.pieces.now.items ++ pieces_of (take c.loop-stint.stint-index c.args.stints.now)) ++ ps)
                (sym of) ∙ sym more;
            few = (let few = inv.few in omega arith);
            capacity = search rules;
          }
      | in_default w ↦
          let same : c.match-stint.pieces.items ≡ c.loop-stint.pieces.items = search rules in
          let none : st.ran ≡ None = search rules in
          let of : piece_of st ≡ [] = ap (λ (o : Option ℕ). piece_with o st.from st.end) none in
          record {
            items = same ∙ inv.items ∙ sym (append-nil (c.args.pieces.now.items ++ pieces_of (take c.loop-stint.stint-index c.args.stints.now)))
                ∙ ap (λ (ps : List RanPiece). (c.args.pieces.now.items ++ pieces_of (take c.loop-stint.stint-index c.args.stints.now)) ++ ps)
                (sym of) ∙ sym more;
            few = (let few = inv.few in let long = ap length same in omega arith);
            capacity = search rules;
          }
    ]
