use Rattle.std.proofs.Common.{get_or, refl, arith}
use Rattle.std.proofs.lemmas.Option.{get_or_from_slice_get, slice_get-get_or}
use Rattle.burst_bound.proofs.RanLemmas.{after_fits, no_piece}
use Rattle.burst_bound.proofs.ran.after_piece.Goals as goal

pub overflow_add-result : goal.overflow_add-result
overflow_add-result c =
    let pieces = c.args.pieces.now in
    let runs = c.requires.runs in
    let fits = after_fits runs.0 runs.1 pieces c.args.before.now runs.2 runs.3 c.args.place
    (get_or pieces c.args.place no_piece) (slice_get-get_or pieces c.args.place no_piece c.requires.within) in
    omega arith

pub returns : goal.returns
returns c = λ p b at is.
    let one = get_or_from_slice_get c.args.pieces.now c.args.place p no_piece at in
    let two = get_or_from_slice_get c.args.before.now c.args.place b 0 is in
    rw (one, two) refl
