use Rattle.std.proofs.Common.{◌≡◌, ◌<◌, get_or, length, Some, arith, rules}
use Rattle.std.specs.Prelude.{slice_get}
use Rattle.std.proofs.lemmas.Bool.Decides.{nat_tests}
use Rattle.std.proofs.lemmas.Grind.{common_steps}
use Rattle.std.proofs.lemmas.Option.{slice_get-get_or}
use Rattle.burst_bound.specs.declared.ran.RanPiece.{RanPiece}
use Rattle.burst_bound.proofs.RanLemmas.{no_piece, none_there, other_there, reached_there}
use Rattle.burst_bound.proofs.ran.reached_at.Goals as goal

pub returns-then-reached-pieces : goal.returns-then-reached-pieces
returns-then-reached-pieces c = λ rounds s few are x.
    let within = c.first_with-reached.ensures.within in
    let end : c.first_with-reached.result ≡ length c.args.pieces.now = omega arith in
    none_there rounds s c.args.pieces.now c.args.before.now c.args.vcpu c.args.ticks
    c.first_with-reached.result few are c.requires.some c.first_with-reached.ensures end x

pub returns-then-piece-vcpu : goal.returns-then-piece-vcpu
returns-then-piece-vcpu c = λ rounds s few are x.
    let pieces = c.args.pieces.now in
    let n = c.first_with-reached.result in
    let inside : n < length pieces = omega arith in
    let q : RanPiece = get_or pieces n no_piece in
    let at : slice_get pieces n ≡ Some q = slice_get-get_or pieces n no_piece inside in
    other_there rounds s pieces c.args.before.now c.args.vcpu c.args.ticks n q few are c.requires.some
    (let fits = c.ranges.ticks.fits in omega arith) c.first_with-reached.ensures at
    (λ same. absurd (let other = c.if-piece-vcpu.true in grind (arith, nat_tests, common_steps))) x

pub overflow_sub-result : goal.overflow_sub-result
overflow_sub-result c =
    let runs = c.requires.runs in
    let pieces = c.args.pieces.now in
    let n = c.first_with-reached.result in
    let inside : n < length pieces = omega arith in
    let q : RanPiece = get_or pieces n no_piece in
    let at : slice_get pieces n ≡ Some q = slice_get-get_or pieces n no_piece inside in
    let there = reached_there runs.0 runs.1 pieces c.args.before.now runs.2 runs.3 c.args.vcpu c.args.ticks n q
    c.requires.some (let fits = c.ranges.ticks.fits in omega arith) c.first_with-reached.ensures at (search rules) in
    omega arith

pub overflow_add-result : goal.overflow_add-result
overflow_add-result c =
    let runs = c.requires.runs in
    let pieces = c.args.pieces.now in
    let n = c.first_with-reached.result in
    let inside : n < length pieces = omega arith in
    let q : RanPiece = get_or pieces n no_piece in
    let at : slice_get pieces n ≡ Some q = slice_get-get_or pieces n no_piece inside in
    let there = reached_there runs.0 runs.1 pieces c.args.before.now runs.2 runs.3 c.args.vcpu c.args.ticks n q
    c.requires.some (let fits = c.ranges.ticks.fits in omega arith) c.first_with-reached.ensures at (search rules) in
    let few = runs.2 in
    let in_run = runs.3.tell.in_run n q at in
    omega arith

pub returns : goal.returns
returns c = λ rounds s few are.
    let pieces = c.args.pieces.now in
    let n = c.first_with-reached.result in
    let inside : n < length pieces = omega arith in
    let q : RanPiece = get_or pieces n no_piece in
    let at : slice_get pieces n ≡ Some q = slice_get-get_or pieces n no_piece inside in
    let there = reached_there rounds s pieces c.args.before.now few are c.args.vcpu c.args.ticks n q
    c.requires.some (let fits = c.ranges.ticks.fits in omega arith) c.first_with-reached.ensures at (search rules) in
    there.2
