use Rattle.std.proofs.Common.{◌≡◌, ℕ, ◌+◌, ◌-◌, ◌/◌, ◌<◌, ◌≤◌, get_or, Some, arith}
use Rattle.std.specs.Prelude.{slice_get}
use Rattle.std.proofs.lemmas.Option.{slice_get-get_or}
use Rattle.burst_bound.specs.Inside.Runs.{after_piece, place_of}
use Rattle.burst_bound.specs.declared.ran.RanPiece.{RanPiece}
use Rattle.burst_bound.proofs.RanLemmas.{before_at, less_to, no_piece, rest_from}
use Rattle.burst_bound.proofs.ran.first_with.Goals as goal

pub loop-low-preserved : goal.loop-low-preserved
loop-low-preserved c =
    let inv = c.loop-low.invariant in
    let runs = c.requires in
    let pieces = c.args.pieces.now in
    let before = c.args.before.now in
    let m : ℕ = c.loop-low.low + (c.loop-low.high - c.loop-low.low) / 2 in
    let q : RanPiece = get_or pieces m no_piece in
    let at : slice_get pieces m ≡ Some q = slice_get-get_or pieces m no_piece (let top = inv.within in omega arith) in
    let after = c.after_piece.ensures q (get_or before m 0) at
    (before_at runs.0 runs.1 pieces before runs.2 runs.3 m q at) in
    let more : place_of c.args.vcpu c.args.ticks ≤ place_of q.vcpu (after_piece (get_or before m 0) q) =
    rw (c.place_of.ensures, after, c.place_of-place.ensures) at c.if-place_of-place.false in
    record {
      order = omega arith;
      within = (let top = inv.within in omega arith);
      less = inv.less;
      rest = λ k b p le here is. rest_from runs.0 runs.1 pieces before runs.2 runs.3 c.args.vcpu c.args.ticks m k b p q
          at more le here is;
    }

pub loop-low-preserved-then-place_of-place : goal.loop-low-preserved-then-place_of-place
loop-low-preserved-then-place_of-place c =
    let inv = c.loop-low.invariant in
    let runs = c.requires in
    let pieces = c.args.pieces.now in
    let before = c.args.before.now in
    let m : ℕ = c.loop-low.low + (c.loop-low.high - c.loop-low.low) / 2 in
    let q : RanPiece = get_or pieces m no_piece in
    let at : slice_get pieces m ≡ Some q = slice_get-get_or pieces m no_piece (let top = inv.within in omega arith) in
    let after = c.after_piece.ensures q (get_or before m 0) at
    (before_at runs.0 runs.1 pieces before runs.2 runs.3 m q at) in
    let less : place_of q.vcpu (after_piece (get_or before m 0) q) < place_of c.args.vcpu c.args.ticks =
    rw (c.place_of.ensures, after, c.place_of-place.ensures) at c.if-place_of-place.true in
    record {
      order = omega arith;
      within = inv.within;
      less = λ k b p lt here is. less_to runs.0 runs.1 pieces before runs.2 runs.3 c.args.vcpu c.args.ticks m k b p q
          at less lt here is;
      rest = inv.rest;
    }
