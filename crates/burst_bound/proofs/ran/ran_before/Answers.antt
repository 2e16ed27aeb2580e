use Rattle.std.proofs.Common.{◌≡◌, ◌-◌, get_or, min, Some, sym, arith, rules}
use Rattle.std.specs.Prelude.{slice_get}
use Rattle.std.proofs.lemmas.Bool.Decides.{nat_tests}
use Rattle.std.proofs.lemmas.Grind.{common_steps}
use Rattle.std.proofs.lemmas.Option.{slice_get-get_or}
use Rattle.burst_bound.specs.declared.ran.RanPiece.{RanPiece}
use Rattle.burst_bound.proofs.RanLemmas.{after_fits, last_begun, no_piece, ran_at_last, ran_at_none, ran_at_other}
use Rattle.burst_bound.proofs.ran.ran_before.Goals as goal

pub returns-then-begun-eq0 : goal.returns-then-begun-eq0
returns-then-begun-eq0 c = λ rounds s few are.
    sym (ran_at_none rounds s c.args.pieces.now c.args.before.now few are c.args.vcpu c.args.tick
    c.begun_before-begun.result c.if-begun-eq0.true c.begun_before-begun.ensures)

pub returns-then-last-vcpu : goal.returns-then-last-vcpu
returns-then-last-vcpu c = λ rounds s few are.
    let pieces = c.args.pieces.now in
    let n = c.begun_before-begun.result in
    let within = c.begun_before-begun.ensures.within in
    let last : RanPiece = get_or pieces (n - 1) no_piece in
    let at : slice_get pieces (n - 1) ≡ Some last = slice_get-get_or pieces (n - 1) no_piece (omega arith) in
    sym (ran_at_other rounds s pieces c.args.before.now few are c.args.vcpu c.args.tick n
    (let fits = c.ranges.tick.fits in omega arith) c.begun_before-begun.ensures last (omega arith) at
    (λ same. absurd (let other = c.if-last-vcpu.true in grind (arith, nat_tests, common_steps))))

-- the last piece that began, which is the vCPU's
pub overflow_sub-result-2 : goal.overflow_sub-result-2
overflow_sub-result-2 c =
    let runs = c.requires in
    let pieces = c.args.pieces.now in
    let n = c.begun_before-begun.result in
    let within = c.begun_before-begun.ensures.within in
    let last : RanPiece = get_or pieces (n - 1) no_piece in
    let at : slice_get pieces (n - 1) ≡ Some last = slice_get-get_or pieces (n - 1) no_piece (omega arith) in
    let of : last.vcpu ≡ c.args.vcpu = search rules in
    let begun = last_begun runs.0 runs.1 pieces c.args.before.now runs.2 runs.3 c.args.vcpu c.args.tick n
    (let fits = c.ranges.tick.fits in omega arith) c.begun_before-begun.ensures last (omega arith) at of in
    let least : c.min.result ≡ min last.end c.args.tick = search (rules, c.min.ensures) in
    omega arith

pub overflow_add-result : goal.overflow_add-result
overflow_add-result c =
    let runs = c.requires in
    let pieces = c.args.pieces.now in
    let n = c.begun_before-begun.result in
    let within = c.begun_before-begun.ensures.within in
    let last : RanPiece = get_or pieces (n - 1) no_piece in
    let at : slice_get pieces (n - 1) ≡ Some last = slice_get-get_or pieces (n - 1) no_piece (omega arith) in
    let fits = after_fits runs.0 runs.1 pieces c.args.before.now runs.2 runs.3 (n - 1) last at in
    let least : c.min.result ≡ min last.end c.args.tick = search (rules, c.min.ensures) in
    omega arith

pub returns : goal.returns
returns c = λ rounds s few are.
    let pieces = c.args.pieces.now in
    let n = c.begun_before-begun.result in
    let within = c.begun_before-begun.ensures.within in
    let last : RanPiece = get_or pieces (n - 1) no_piece in
    let at : slice_get pieces (n - 1) ≡ Some last = slice_get-get_or pieces (n - 1) no_piece (omega arith) in
    let of : last.vcpu ≡ c.args.vcpu = search rules in
    let ran = ran_at_last rounds s pieces c.args.before.now few are c.args.vcpu c.args.tick n
    (let fits = c.ranges.tick.fits in omega arith) c.begun_before-begun.ensures last (omega arith) at of in
    let least : c.min.result ≡ min last.end c.args.tick = search (rules, c.min.ensures) in
    omega arith
