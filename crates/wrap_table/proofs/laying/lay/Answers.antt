use Rattle.std.proofs.Common.{◌≡◌, ◌+◌, ◌-◌, ◌<◌, ◌≤◌, ◌++◌, Some, None, length, replicate, get_or, ap, subst, ◌∙◌, arith}
use Rattle.wrap_table.specs.Inside.Laying.{IsLaidTo, owners}
use Rattle.wrap_table.proofs.LayingLemmas.{laid_next, owners-idle, room_left, row_more, run_is}
use Rattle.wrap_table.proofs.laying.lay.Goals as goal

pub append-requires-clause-room : goal.append-requires-clause-room
append-requires-clause-room c =
    room_left c.args.ticks.now c.loop-vcpu.row c.args.row.now c.args.from c.args.span c.loop-vcpu.left
    c.min-count.result _ c.loop-vcpu.invariant.row c.loop-vcpu.invariant.most
    (omega (arith, c.min-count.ensures)) c.requires.room

pub returns-then-left-eq0-clause-row : goal.returns-then-left-eq0-clause-row
returns-then-left-eq0-clause-row c =
    let ns = c.args.ticks.now in
    let v = c.loop-vcpu.vcpu in
    let n = c.min-count.result in
    let inv = c.loop-vcpu.invariant in
    let h : v < length ns = omega (arith, c.loop-vcpu-test.true) in
    let le : c.loop-vcpu.begun + n ≤ get_or ns v 0 = omega (arith, c.min-count.ensures, inv.at.some h) in
    let all : c.args.span - c.loop-vcpu.left + n ≡ c.args.span
    = omega (arith, c.min-count.ensures, c.if-left-eq0.true, inv.most) in
    c.in_ok-append.ensures
    ∙ row_more ns c.loop-vcpu.row c.args.row.now (replicate n (Some v)) c.args.from
    (c.args.span - c.loop-vcpu.left) n
    inv.row (run_is ns _ v c.loop-vcpu.begun n inv.at h le)
    ∙ ap (λ m. c.args.row.now ++ owners ns c.args.from m) all

pub loop-vcpu-preserved : goal.loop-vcpu-preserved
loop-vcpu-preserved c =
    let ns = c.args.ticks.now in
    let v = c.loop-vcpu.vcpu in
    let n = c.min-count.result in
    let inv = c.loop-vcpu.invariant in
    let h : v < length ns = omega (arith, c.loop-vcpu-test.true) in
    let is : c.loop-vcpu.begun + n ≡ get_or ns v 0
    = omega (arith, c.min-count.ensures, c.if-left-eq0.false, inv.at.some h) in
    let le : n ≤ c.loop-vcpu.left = omega (arith, c.min-count.ensures) in
    let all : c.args.span - c.loop-vcpu.left + n
    ≡ c.args.span - (c.loop-vcpu.left - n) = omega (arith, le, inv.most) in
    let next : c.args.from + (c.args.span - c.loop-vcpu.left) + n
    ≡ c.args.from + (c.args.span - (c.loop-vcpu.left - n))
    = omega (arith, all) in
    record {
      some = omega (arith, c.if-left-eq0.false, le);
      most = omega (arith, inv.most);
      row = c.in_ok-append.ensures
          ∙ row_more ns c.loop-vcpu.row c.args.row.now (replicate n (Some v)) c.args.from
          (c.args.span - c.loop-vcpu.left) n inv.row
          (run_is ns _ v c.loop-vcpu.begun n inv.at h (omega (arith, is)))
          ∙ ap (λ m. c.args.row.now ++ owners ns c.args.from m) all;
      at = subst (λ q. IsLaidTo ns q (record { vcpu = v + 1; ticks = 0 })) next
          (laid_next ns _ v c.loop-vcpu.begun n inv.at h is);
    }

pub push_run-requires-clause-room : goal.push_run-requires-clause-room
push_run-requires-clause-room c =
    room_left c.args.ticks.now c.loop-vcpu.row c.args.row.now c.args.from c.args.span c.loop-vcpu.left
    c.loop-vcpu.left _ c.loop-vcpu.invariant.row c.loop-vcpu.invariant.most (omega arith) c.requires.room

pub returns-clause-row : goal.returns-clause-row
returns-clause-row c =
    let ns = c.args.ticks.now in
    let left = c.loop-vcpu.left in
    let inv = c.loop-vcpu.invariant in
    let end : c.loop-vcpu.vcpu ≡ length ns = omega (arith, c.loop-vcpu-test.false, inv.at.within) in
    let all : c.args.span - left + left ≡ c.args.span = omega (arith, inv.most) in
    c.in_ok-push_run.ensures.ok
    ∙ row_more ns c.loop-vcpu.row c.args.row.now (replicate left None) c.args.from (c.args.span - left) left
    inv.row (owners-idle ns _ left (inv.at.behind end))
    ∙ ap (λ m. c.args.row.now ++ owners ns c.args.from m) all
