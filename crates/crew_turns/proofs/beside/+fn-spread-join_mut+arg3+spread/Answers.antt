use Rattle.std.proofs.Common.{rules, ◌≡◌, ℕ, ◌-◌, ◌<◌, ◌++◌, List, length, sym, subst}
use Rattle.round_words.specs.declared.view.View.{View}
use Rattle.round_words.specs.Seats.{view_of}
use Rattle.crew_turns.specs.declared.player.Player.{Player}
use Rattle.crew_turns.specs.Numbers.{NamesFrom}
use Rattle.crew_turns.specs.Troops.{AreHeld}
use Rattle.crew_turns.proofs.BesideLemmas.{group_few, group_given, have_met, mask_held, rest_kept}
use Rattle.crew_turns.proofs.beside.+fn-spread-join_mut+arg3+spread.Given.{Over}
use Rattle.crew_turns.proofs.beside.+fn-spread-join_mut+arg3+spread.Goals as goal
use Rattle.crew_turns.proofs.beside.+fn-spread-join_mut+arg3+spread.Goals.{After-mask_from}

-- the cores are those of the two parts, and the mask names the second
held : (g : Over) (t : ℕ) (c : After-mask_from g t) → AreHeld g.C.Stepper.kind g.L.Stepper.kind (c.split_at_mut-rest.result.0.now ++ c.split_at_mut-rest.result.1.now) c.args.lead.now (view_of c.args.seat.now)
held g t c = subst (λ (ps : List (Player g.row.C.Denot)). AreHeld g.C.Stepper.kind g.L.Stepper.kind ps c.args.lead.now (view_of c.args.seat.now)) c.split_at_mut-rest.ensures.value c.requires.held

named : (g : Over) (t : ℕ) (c : After-mask_from g t) → NamesFrom (length c.split_at_mut-rest.result.0.now) (length c.split_at_mut-rest.result.1.now) c.mask_from.result
named g t c =
    let cut = c.split_at_mut-rest.ensures in
    let first : length c.args.cores.now - c.div_ceil-size.result ≡ length c.split_at_mut-rest.result.0.now = sym cut.front_len in
    let size : c.div_ceil-size.result ≡ length c.split_at_mut-rest.result.1.now = search rules in
    subst (λ (n : ℕ). NamesFrom n (length c.split_at_mut-rest.result.1.now) c.mask_from.result) first
    (subst (λ (n : ℕ). NamesFrom (length c.args.cores.now - c.div_ceil-size.result) n c.mask_from.result) size c.mask_from.ensures)

pub part-own-requires-clause-holds : goal.part-own-requires-clause-holds
part-own-requires-clause-holds g t c = let at = (goal.at.part-own-requires-clause-holds g t c).After-mask_from in
    mask_held g.C.Stepper.kind g.L.Stepper.kind g.C.Stepper.lawful g.L.Stepper.lawful c.split_at_mut-rest.result.0.now c.split_at_mut-rest.result.1.now c.args.lead.now (view_of c.args.seat.now)
    (held g t at) c.mask_from.result (named g t at)

pub join_mut-requires-after_bounds : goal.join_mut-requires-after_bounds
join_mut-requires-after_bounds g t c κs within =
    let at = (goal.at.join_mut-requires-after_bounds g t c).After-mask_from in
    let v : View = view_of c.args.seat.now in
    let rest : List (Player g.row.C.Denot) = c.split_at_mut-rest.result.0.now in
    let group : List (Player g.row.C.Denot) = c.split_at_mut-rest.result.1.now in
    let few = group_few g.C.Stepper.kind g.L.Stepper.kind g.C.Stepper.lawful g.L.Stepper.lawful rest group c.args.lead.now v (held g t at) c.mask_from.result (named g t at) in
    let one = group_given g.C.Stepper.kind g.L.Stepper.kind g.C.Stepper.lawful g.L.Stepper.lawful rest group c.args.lead.now v (held g t at) c.mask_from.result (named g t at)
    (view_of c.part-own.result) c.part-own.ensures.given in
    let left = rest_kept g.C.Stepper.kind g.L.Stepper.kind g.C.Stepper.lawful g.L.Stepper.lawful rest group c.args.lead.now v (held g t at) c.mask_from.result (named g t at)
    (view_of c.part-own.new.seat) c.part-own.ensures.kept in
    let many : 1 < c.args.threads = search rules in (
      ((search rules, search rules, c.part-own.ensures.board.1, few, one), (search rules, search rules, search rules)),
      (search rules, ((λ a x. x), ((λ a x. x), ((λ a x. x), ((λ a x. x), ((search rules, search rules, c.part-own.ensures.board.0, left, many), (search rules, search rules, search rules, search rules))))))),
    )

pub returns-clause-held : goal.returns-clause-held
returns-clause-held g t c =
    let at = (goal.at.returns-clause-held g t c).After-mask_from in
    let one = c.join_mut.ensures.0.met.1 in
    let two = c.join_mut.ensures.1.met.1 in
    let joined = c.meet.ensures.view in
    let met = have_met g.C.Stepper.kind g.L.Stepper.kind g.C.Stepper.lawful g.L.Stepper.lawful c.split_at_mut-rest.result.0.now c.split_at_mut-rest.result.1.now c.args.lead.now (view_of c.args.seat.now)
    (held g t at) c.mask_from.result (named g t at) c.join_mut.new.g.5.now c.join_mut.new.f.4.now c.join_mut.new.g.6.now (view_of c.part-own.new.seat) (view_of c.part-own.result) (view_of c.join_mut.new.g.4.now) (view_of c.join_mut.new.f.3.now) (view_of c.meet.new.seat)
    c.part-own.ensures.kept c.part-own.ensures.given two.1 two.2 one.1 one.2 two.3 one.3 (search rules) c.args.cores.now c.split_at_mut-rest.ensures.value in
    let held = met.held in
    search rules

pub returns-clause-same : goal.returns-clause-same
returns-clause-same g t c =
    let at = (goal.at.returns-clause-same g t c).After-mask_from in
    let one = c.join_mut.ensures.0.met.1 in
    let two = c.join_mut.ensures.1.met.1 in
    let joined = c.meet.ensures.view in
    let met = have_met g.C.Stepper.kind g.L.Stepper.kind g.C.Stepper.lawful g.L.Stepper.lawful c.split_at_mut-rest.result.0.now c.split_at_mut-rest.result.1.now c.args.lead.now (view_of c.args.seat.now)
    (held g t at) c.mask_from.result (named g t at) c.join_mut.new.g.5.now c.join_mut.new.f.4.now c.join_mut.new.g.6.now (view_of c.part-own.new.seat) (view_of c.part-own.result) (view_of c.join_mut.new.g.4.now) (view_of c.join_mut.new.f.3.now) (view_of c.meet.new.seat)
    c.part-own.ensures.kept c.part-own.ensures.given two.1 two.2 one.1 one.2 two.3 one.3 (search rules) c.args.cores.now c.split_at_mut-rest.ensures.value in
    let same = met.same in
    search rules

pub returns-clause-actors : goal.returns-clause-actors
returns-clause-actors g t c =
    let at = (goal.at.returns-clause-actors g t c).After-mask_from in
    let one = c.join_mut.ensures.0.met.1 in
    let two = c.join_mut.ensures.1.met.1 in
    let joined = c.meet.ensures.view in
    let met = have_met g.C.Stepper.kind g.L.Stepper.kind g.C.Stepper.lawful g.L.Stepper.lawful c.split_at_mut-rest.result.0.now c.split_at_mut-rest.result.1.now c.args.lead.now (view_of c.args.seat.now)
    (held g t at) c.mask_from.result (named g t at) c.join_mut.new.g.5.now c.join_mut.new.f.4.now c.join_mut.new.g.6.now (view_of c.part-own.new.seat) (view_of c.part-own.result) (view_of c.join_mut.new.g.4.now) (view_of c.join_mut.new.f.3.now) (view_of c.meet.new.seat)
    c.part-own.ensures.kept c.part-own.ensures.given two.1 two.2 one.1 one.2 two.3 one.3 (search rules) c.args.cores.now c.split_at_mut-rest.ensures.value in
    let actors = met.actors in
    search rules
