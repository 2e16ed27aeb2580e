use Rattle.std.proofs.Common.{rules, ◌≡◌, ◌-◌, ℕ, true, length, subst, sym, ap, ◌∙◌, arith}
use Rattle.round_words.specs.declared.view.Part.{Part}
use Rattle.round_words.specs.declared.view.View.{View}
use Rattle.round_words.specs.Seats.{view_of}
use Rattle.round_words.specs.Views.{holds, part, with_part}
use Rattle.round_words.specs.Inside.Claims.{HasLag}
use Rattle.round_words.specs.Inside.Known.{AreKnown, HasSeenTo, hears_all_known, raised}
use Rattle.round_words.specs.Inside.Numbers.{NumbersAgree}
use Rattle.round_words.proofs.KnownLemmas.{floor_keeps, here_all, here_kept, here_rises}
use Rattle.round_words.proofs.NumbersLemmas.{agree_hears}
use Rattle.round_words.proofs.board.RoundBoard.hear_floor.Goals as goal

pub load_step-requires-clause-rule : goal.load_step-requires-clause-rule
load_step-requires-clause-rule c =
    let inside = c.seat.inside in
    let v : View = inside.seat.me.0 in
    let was = c.seat.invariant.agrees in
    let vi : v ≡ c.args.seat.now.view = ap (λ t. t.view) c.seat.view_is in
    let started' : v.started ≡ true = subst (λ (x : View). x.started ≡ true) (sym vi) c.requires.started in
    let actor' : holds v c.args.actor ≡ true =
    subst (λ (x : View). holds x c.args.actor ≡ true) (sym vi) c.requires.actor in
    let cores' : v.cores ≡ c.args.cores = ap (λ (x : View). x.cores) vi ∙ c.requires.settings.1 in
    let known : AreKnown inside.numbers.clocks v c.args.cores c.saturating_sub-least.result =
    subst (λ (n : ℕ). AreKnown inside.numbers.clocks v n c.saturating_sub-least.result) cores'
    (c.reach.ensures.known (search rules) v started' was) in
    floor_keeps _ _ _ _ _ v started' (was.limits started').0 actor' cores' known

pub load_step-requires-clause-lag : goal.load_step-requires-clause-lag
load_step-requires-clause-lag c =
    let v : View = c.seat.inside.seat.me.0 in
    let was = c.seat.invariant.agrees in
    λ n w told. subst HasLag (sym told) (λ on. (was.limits on).0)

pub invariant_of-seat : goal.invariant_of-seat
invariant_of-seat c = record {
  no_slot = c.seat.invariant.no_slot;
  shown = c.seat.invariant.shown;
  agrees = c.reach.ensures.kept _ c.seat.invariant.agrees;
}

pub invariant_of-seat-2 : goal.invariant_of-seat-2
invariant_of-seat-2 c =
    let inside = c.seat.inside in
    let v : View = inside.seat.me.0 in
    let vi : v ≡ c.args.seat.now.view = ap (λ t. t.view) c.seat.view_is in
    let a : ℕ = c.args.actor in
    let least : ℕ = c.saturating_sub-least.result in
    let actor' : holds v a ≡ true = subst (λ (x : View). holds x a ≡ true) (sym vi) c.requires.actor in
    let started' : v.started ≡ true = subst (λ (x : View). x.started ≡ true) (sym vi) c.requires.started in
    let cores' : v.cores ≡ c.args.cores = ap (λ (x : View). x.cores) vi ∙ c.requires.settings.1 in
    let q : Part = hears_all_known a least c.args.cores (part v a) in
    let same = here_kept a least c.args.cores (part v a) in
    record {
      no_slot = c.load_step.ensures.seat.2 ∙ c.seat.invariant.no_slot;
      shown = c.load_step.ensures.shown;
      agrees = subst (NumbersAgree _) (sym c.load_step.ensures.claim)
          (agree_hears _ v a q (c.reach.ensures.kept v c.seat.invariant.agrees) actor'
          (λ k. here_rises a least c.args.cores (part v a) k)
          same.clock same.sights same.entries same.floors);
    }

pub returns-clause-seen : goal.returns-clause-seen
returns-clause-seen c = λ did known size knows.
    let inside = c.seat.inside in
    let v : View = view_of c.args.seat.now in
    let vi : inside.seat.me.0 ≡ v = ap (λ t. t.view) c.seat.view_is in
    let w : View = c.load_step.new.seat.me.0 in
    let a : ℕ = c.args.actor in
    let least : ℕ = c.saturating_sub-least.result in
    let cores : ℕ = c.args.cores in
    let lag_is : v.lag ≡ c.args.lag = c.requires.settings.0 in
    let to : w ≡ with_part v a (hears_all_known a least cores (part v a)) =
    subst (λ (x : View). w ≡ with_part x a (hears_all_known a least cores (part x a))) vi c.load_step.ensures.claim in
    let long : length (part v a).heard ≡ 32 =
    subst (λ (x : View). length (part x a).heard ≡ 32) vi
    (c.seat.invariant.shown.lists a (subst (λ (x : View). holds x a ≡ true) (sym vi) c.requires.actor)) in
    let asked : least ≡ c.args.tick - c.args.lag = (let e = c.saturating_sub-least.ensures in omega arith) in
    let is : least ≡ c.args.tick - v.lag = (let e = c.saturating_sub-least.ensures in omega arith) in
    subst (λ (k : ℕ). HasSeenTo v w a c.args.lag c.args.tick cores (raised a k cores known)) asked
    (subst (λ (l : ℕ). HasSeenTo v w a l c.args.tick cores (raised a least cores known)) lag_is
    (subst (λ (x : View). HasSeenTo v x a v.lag c.args.tick cores (raised a least cores known)) (sym to)
    (here_all v a least c.args.tick cores known c.requires.actor is size long c.requires.settings.2 knows)))
