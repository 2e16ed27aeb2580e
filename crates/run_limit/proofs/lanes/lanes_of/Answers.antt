use Rattle.std.proofs.Common.{◌≡◌, ◌<◌, ℕ, [], false, length, get_or, inl, inr, ap, subst, sym, ◌∙◌, arith}
use Rattle.std.proofs.lemmas.Bool.{cases_lt, false≢true}
use Rattle.table_form.specs.Tables.Views.{plan_view}
use Rattle.table_form.proofs.SpotLemmas.{owner_within}
use Rattle.run_limit.specs.declared.lanes.Lane.{Lane}
use Rattle.run_limit.specs.declared.lanes.Lanes.{Lanes}
use Rattle.run_limit.specs.Inside.Walks.{HasLane, IsLane, IsListed}
use Rattle.run_limit.proofs.LaneLemmas.{pushed_cases, pushed_has, pushed_keeps}
use Rattle.run_limit.proofs.lanes.lanes_of.Goals as goal
use Rattle.run_limit.proofs.lanes.lanes_of.Goals.{then-row-core+then-visits-core, else-row-core, else-row-core-via-then-row-core+else-visits-core, else-row-core-via-else-row-core}

pub loop-row-preserved : goal.loop-row-preserved
loop-row-preserved c =
    let plan = plan_view c.args.plan.now in
    let was = c.loop-row.invariant in
    let lanes = c.loop-row.lanes in
    let row = c.loop-row.row in
    elim c.if-row-core.branch [
      | then-row-core+then-visits-core w ↦
          let new : Lane = w.first_lane.result in
          let count = ap (λ (ls : Lanes). ls.count) w.lanes-is in
          let room : lanes.count < length lanes.items = omega (
            arith,
            was.few,
            c.items-row-end.ensures.few,
            c.loop-row-test.true,
            ap length c.items-row-end.ensures.same,
          ) in
          record {
            few = omega (arith, was.few);
            all = λ d v x lt other home stands. subst (λ (ls : Lanes). HasLane ls d) (sym w.lanes-is)
                (elim (cases_lt d row) [
                  | inl before ↦ pushed_keeps lanes d new (was.all d v x before other home stands)
                  | inr last ↦ pushed_has lanes d new room
                      (w.first_lane.ensures.row ∙ (let here : row ≡ d = omega arith in here))
                ]);
            lanes = λ k lane listed.
                elim (pushed_cases lanes k new lane room (subst (λ (ls : Lanes). IsListed ls k lane) w.lanes-is listed)) [
                  | inl here ↦ subst (IsLane plan c.args.core 0) here w.first_lane.ensures.lane
                  | inr old ↦ was.lanes k lane old
                ];
          }
      | else-row-core w ↦
          let count = ap (λ (ls : Lanes). ls.count) w.lanes-is in
          record {
            few = omega (arith, was.few);
            all = λ d v x lt other home stands. elim (cases_lt d row) [
              | inl before ↦ subst (λ (ls : Lanes). HasLane ls d) (sym w.lanes-is)
                  (was.all d v x before other home stands)
              | inr last ↦
                  let here : row ≡ d = omega arith in
                  let seen = c.requires.visits c.args.core d v x other home stands in
                  elim w.else-row-core.branch [
                    | else-row-core-via-then-row-core+else-visits-core w' ↦
                        absurd (false≢true (sym w'.if-visits-core.false
                        ∙ (ap (λ (e : ℕ). get_or (get_or c.args.visits.now.rows c.args.core []) e false) here ∙ seen.row)))
                    | else-row-core-via-else-row-core w' ↦
                        absurd (other (sym w'.if-row-core.false ∙ here))
                  ]
            ];
            lanes = λ k lane listed. was.lanes k lane (subst (λ (ls : Lanes). IsListed ls k lane) w.lanes-is listed);
          }
    ]

pub returns-clause-all : goal.returns-clause-all
returns-clause-all c = λ d v x other home stands. c.loop-row.invariant.all d v x
    (omega (
      arith,
      owner_within c.args.plan.now.tables.rows d x v stands,
      ap length c.items-row-end.ensures.same,
      c.loop-row-test.false,
    ))
    other home stands
