use Rattle.std.proofs.Common.{◌≡◌, ◌-◌, get_or, Some, sym, ap, arith, rules}
use Rattle.std.specs.Prelude.{slice_get}
use Rattle.std.proofs.lemmas.Bool.Decides.{nat_tests}
use Rattle.std.proofs.lemmas.Grind.{common_steps}
use Rattle.std.proofs.lemmas.Option.{get_or_from_slice_get, slice_get-get_or}
use Rattle.burst_bound.specs.declared.ran.RanPiece.{RanPiece}
use Rattle.burst_bound.proofs.GatherLemmas.{sum_fits, sum_none, sum_other, sum_same}
use Rattle.burst_bound.proofs.RanLemmas.{no_piece}
use Rattle.burst_bound.proofs.runs.ran_so_far.Goals as goal

pub returns-then-place-eq0 : goal.returns-then-place-eq0
returns-then-place-eq0 c = λ rounds s p few tell ran at.
    sym (sum_none rounds s c.args.pieces.now c.args.place p few tell c.requires.order at (search rules))

pub returns-then-last-pieces : goal.returns-then-last-pieces
returns-then-last-pieces c = λ rounds s p few tell ran at.
    let pieces = c.args.pieces.now in
    let k = c.args.place in
    let within = c.requires.within in
    let last : RanPiece = get_or pieces (k - 1) no_piece in
    let before : slice_get pieces (k - 1) ≡ Some last = slice_get-get_or pieces (k - 1) no_piece (omega arith) in
    let here = ap (λ (q : RanPiece). q.vcpu) (get_or_from_slice_get pieces k p no_piece at) in
    sym (sum_other rounds s pieces k p last few tell c.requires.order at (omega arith) before
    (λ same. absurd (let other = c.if-last-pieces.true in grind (arith, nat_tests, common_steps))))

pub overflow_sub-result-2 : goal.overflow_sub-result-2
overflow_sub-result-2 c =
    let runs = c.requires.runs in
    let pieces = c.args.pieces.now in
    let k = c.args.place in
    let within = c.requires.within in
    let last : RanPiece = get_or pieces (k - 1) no_piece in
    let before : slice_get pieces (k - 1) ≡ Some last = slice_get-get_or pieces (k - 1) no_piece (omega arith) in
    omega (arith, runs.3.some (k - 1) last before)

pub overflow_add-result : goal.overflow_add-result
overflow_add-result c =
    let runs = c.requires.runs in
    let pieces = c.args.pieces.now in
    let k = c.args.place in
    let within = c.requires.within in
    let size = c.requires.size in
    let last : RanPiece = get_or pieces (k - 1) no_piece in
    let before : slice_get pieces (k - 1) ≡ Some last = slice_get-get_or pieces (k - 1) no_piece (omega arith) in
    let fits = sum_fits runs.0 runs.1 pieces (k - 1) last runs.2 runs.3 c.requires.order before in
    let is = runs.4 (k - 1) (get_or c.args.before.now (k - 1) 0) last before
    (slice_get-get_or c.args.before.now (k - 1) 0 (omega arith)) in
    omega arith

pub returns : goal.returns
returns c = λ rounds s p few tell ran at.
    let pieces = c.args.pieces.now in
    let k = c.args.place in
    let within = c.requires.within in
    let size = c.requires.size in
    let last : RanPiece = get_or pieces (k - 1) no_piece in
    let before : slice_get pieces (k - 1) ≡ Some last = slice_get-get_or pieces (k - 1) no_piece (omega arith) in
    let here = ap (λ (q : RanPiece). q.vcpu) (get_or_from_slice_get pieces k p no_piece at) in
    let same : last.vcpu ≡ p.vcpu = (let test = c.if-last-pieces.false in grind (arith, nat_tests, common_steps)) in
    let sum = sum_same rounds s pieces k p last few tell c.requires.order at (omega arith) before same in
    let is = ran (k - 1) (get_or c.args.before.now (k - 1) 0) last before
    (slice_get-get_or c.args.before.now (k - 1) 0 (omega arith)) in
    omega arith
