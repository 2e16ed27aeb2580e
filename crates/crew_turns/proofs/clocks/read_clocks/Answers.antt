use Rattle.std.proofs.Common.{◌≡◌, inl, inr, true≢false, sym, ◌∙◌, arith, length-set, get_or}
use Rattle.std.proofs.lemmas.Option.{slice_get-get_or}
use Rattle.std.specs.Prelude.{slice_get, Some}
use Rattle.round_words.specs.declared.view.View.{View}
use Rattle.round_words.specs.Seats.{view_of}
use Rattle.crew_turns.specs.declared.player.Player.{Player}
use Rattle.crew_turns.specs.Inside.Clocks.{IsClockOf}
use Rattle.crew_turns.proofs.RunLemmas.{read_more}
use Rattle.crew_turns.proofs.clocks.read_clocks.Goals.{then-holds, else-holds}
use Rattle.crew_turns.proofs.clocks.read_clocks.Goals as goal

pub loop-core-preserved : goal.loop-core-preserved
loop-core-preserved g c =
    let l = c.loop-core in
    let v : View = view_of c.args.seat.now in
    let here : IsClockOf g.C.Stepper.kind c.args.cores.now v l.core c.if-holds.ticks = elim c.if-holds.branch [
      | then-holds w ↦ (let p : Player g.row.C.Denot = get_or c.args.cores.now l.core w.index-cores-core.result in
          let at : slice_get c.args.cores.now l.core ≡ Some p = slice_get-get_or c.args.cores.now l.core w.index-cores-core.result c.loop-core-test.true in
          let has = sym c.holds.ensures ∙ w.if-holds.true in
          let agrees = c.requires.agree l.core p at has in
          let clock : c.if-holds.ticks ≡ g.C.Stepper.kind.place p.actor = w.ticks-is ∙ w.place.ensures in
          inr (omega (arith, clock, g.C.Stepper.lawful.within p.actor v agrees, g.met.C.CoreStepper.is_short p.actor v agrees), p, at, has, clock))
      | else-holds w ↦ inl (w.ticks-is, λ p at has. absurd (true≢false (sym has ∙ (sym c.holds.ensures ∙ w.if-holds.false))))
    ] in
    record {
      size = length-set l.ticks l.core c.if-holds.ticks ∙ l.invariant.size;
      read = read_more g.C.Stepper.kind c.args.cores.now v l.ticks l.core c.if-holds.ticks (omega (arith, c.loop-core-test.true, l.invariant.size, c.requires.few)) l.invariant.read here;
    }
