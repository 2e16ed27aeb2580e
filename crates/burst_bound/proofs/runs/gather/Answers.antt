use Rattle.std.proofs.Common.{◌≡◌, ℕ, ◌++◌, List, length, take, sym, ap, subst, ◌∙◌, arith}
use Rattle.std.proofs.Math.Seq.{take-length}
use Rattle.table_form.specs.Running.State.{State}
use Rattle.burst_bound.specs.Inside.Runs.{TellRuns, pieces_of, ran_pieces}
use Rattle.burst_bound.specs.KeptRuns.{IsKeptRun}
use Rattle.burst_bound.specs.declared.ran.RanPiece.{RanPiece}
use Rattle.burst_bound.proofs.GatherLemmas.{pieces_on_few, pieces_on_more, pieces_on_room, pieces_tell}
use Rattle.burst_bound.proofs.KeptLemmas.{HasCore, core_of}
use Rattle.burst_bound.proofs.runs.gather.Goals as goal

-- the core of the stints that are read
core_here : (c : goal.After-add_pieces-arg-1) (s : State) → IsKeptRun c.args.course.now c.args.rounds c.args.crew.now s
    → HasCore s c.loop-core.core c.stints-stints.result.now
core_here c s kept = core_of c.args.course.now c.args.rounds c.args.crew.now s c.loop-core.core c.actor.result.now
    c.stints-stints.result.now kept (omega (arith, c.cores-core-end.ensures.cores)) c.actor.ensures c.stints-stints.ensures

pub loop-core-init : goal.loop-core-init
loop-core-init c = record { items = λ s kept. c.clear.ensures.items; capacity = c.clear.ensures.capacity }

pub add_pieces-requires : goal.add_pieces-requires
add_pieces-requires c =
    let kept = c.requires.kept in
    let has = core_here c kept.0 kept.1 in
    let room = pieces_on_room kept.0 c.loop-core.core has.core has.at in
    let items = ap length (c.loop-core.invariant.items kept.0 kept.1) in
    let stints = ap length has.stints_are in
    let cap = c.loop-core.invariant.capacity in
    let enough = kept.2 in
    omega arith

pub loop-core-preserved : goal.loop-core-preserved
loop-core-preserved c = record {
  items = λ s kept. (let has = core_here c.before s kept in
      c.add_pieces.ensures.items
      ∙ ap (λ (ps : List RanPiece). ps ++ pieces_of c.stints-stints.result.now) (c.loop-core.invariant.items s kept)
      ∙ ap (λ ss. ran_pieces (take c.loop-core.core s.cores) ++ pieces_of ss) has.stints_are
      ∙ sym (pieces_on_more s c.loop-core.core has.core has.at));
  capacity = c.add_pieces.ensures.capacity ∙ c.loop-core.invariant.capacity;
}

-- at the end all cores' are there
all_there : (c : goal.After-loop-core) (s : State) → IsKeptRun c.args.course.now c.args.rounds c.args.crew.now s
    → c.loop-core.pieces.items ≡ ran_pieces s.cores
all_there c s kept =
    let last : c.loop-core.core ≡ length s.cores =
    omega (arith, c.loop-core.auto.core-end, c.loop-core-test.false, c.cores-core-end.ensures.cores, kept.invariant.size) in
    c.loop-core.invariant.items s kept
    ∙ ap (λ (n : ℕ). ran_pieces (take n s.cores)) last ∙ ap ran_pieces (take-length s.cores)

pub returns-clause-pieces : goal.returns-clause-pieces
returns-clause-pieces c = λ s kept. subst (TellRuns c.args.rounds s) (sym (all_there c s kept))
    (pieces_tell c.args.course.now c.args.rounds s c.cores-core-end.ensures.kept kept.invariant kept.complete)

pub returns-clause-few : goal.returns-clause-few
returns-clause-few c = λ s kept.
    let all = ap length (all_there c s kept) in
    omega (arith, pieces_on_few s)
