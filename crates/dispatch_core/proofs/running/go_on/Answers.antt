use Rattle.std.proofs.Common.{◌≡◌, ℕ, refl, sym, subst, arith, rules}
use Rattle.table_form.specs.Running.Outlines.{OutlineView}
use Rattle.round_words.specs.declared.view.View.{View}
use Rattle.round_words.specs.Seats.{view_of}
use Rattle.round_words.specs.Views.{part}
use Rattle.round_words.proofs.ChangesLemmas.{changes_more, changes_with, part_with}
use Rattle.dispatch_core.specs.declared.log.CoreLog.{CoreLog}
use Rattle.dispatch_core.specs.Inside.Logs.{log_view}
use Rattle.dispatch_core.specs.Parts.{HasEvents}
use Rattle.dispatch_core.proofs.RunningLemmas.{begins_seen, begun_seen, clock_ran, clock_rises, clock_stays, stands_seen, used_ran, used_stays}
use Rattle.dispatch_core.proofs.StateLemmas.{plans_same}
use Rattle.dispatch_core.proofs.ToldLemmas.{lacks_event, low_told, sees_same}
use Rattle.dispatch_core.proofs.running.go_on.Goals as goal

pub run_at-requires-clause-to_end : goal.run_at-requires-clause-to_end
run_at-requires-clause-to_end c =
    let v : View = view_of c.args.seat.now in
    let u : View = view_of c.see-seen.new.seat in
    let o : OutlineView = c.args.way.now.outline.now in
    let log : CoreLog = c.args.log.now in
    let req = c.requires.to_run in
    let seen : ℕ = c.see-seen.result in
    let saw = part_with v u log.core _ req.stands.core.1 c.see-seen.ensures.view in
    let others = changes_with v u log.core _ req.stands.core.1 c.see-seen.ensures.view in
    let has' : HasEvents o seen log.clock = let n = c.if-not-has_events.false in c.has_events.ensures.known.0 (cc) in
    record {
      board = c.see-seen.ensures.board;
      log = req.log;
      stands = stands_seen o (log_view log) v u seen c.args.way.now.used req.stands others saw;
      begun = begun_seen o (log_view log) v u seen c.args.way.now.used req.stands others saw req.unfinished c.see-seen.ensures.sight
          (subst (HasEvents o seen) req.stands.clock has') req.entered;
    }

pub returns-then-not-has_events : goal.returns-then-not-has_events
returns-then-not-has_events c =
    let v : View = view_of c.args.seat.now in
    let u : View = view_of c.see-seen.new.seat in
    let o : OutlineView = c.args.way.now.outline.now in
    let log : CoreLog = c.args.log.now in
    let req = c.requires.to_run in
    let seen : ℕ = c.see-seen.result in
    let saw = part_with v u log.core _ req.stands.core.1 c.see-seen.ensures.view in
    let others = changes_with v u log.core _ req.stands.core.1 c.see-seen.ensures.view in
    let clock : (part v log.core).clock ≡ log.clock = sym req.stands.clock in
    let same = sees_same (part v log.core) (part u log.core) seen saw in
    record {
      board = c.see-seen.ensures.board;
      log = req.log;
      stands = stands_seen o (log_view log) v u seen c.args.way.now.used req.stands others saw;
      same = record { core = refl; rounds = refl; keep = refl };
      changes = others;
      goes = (
        omega (arith, req.unfinished, clock),
        lacks_event o v u log.core seen c.tick_of.result c.has_events.ensures.kept
            (λ has. (let n = c.if-not-has_events.true in
            let yes = c.has_events.ensures.known.1 (subst (HasEvents o seen) clock has) in absurd cc))
            c.see-seen.ensures.sight req.stands.of_outline.events_are c.tick_of.ensures saw,
      );
      used = refl;
      later = omega arith;
      ends = search rules;
      plans = λ plan shown plans numbers is follows.
          plans_same _ (log_view log) (log_view log) (part v log.core) (part u log.core) refl refl refl same.stints follows;
    }

pub returns-in-Ran : goal.returns-in-Ran
returns-in-Ran c =
    let v : View = view_of c.args.seat.now in
    let u : View = view_of c.see-seen.new.seat in
    let w : View = view_of c.run_at.new.seat in
    let o : OutlineView = c.args.way.now.outline.now in
    let log : CoreLog = c.args.log.now in
    let left : CoreLog = c.run_at.new.log in
    let used : ℕ = c.args.way.now.used in
    let req = c.requires.to_run in
    let seen : ℕ = c.see-seen.result in
    let saw = part_with v u log.core _ req.stands.core.1 c.see-seen.ensures.view in
    let others = changes_with v u log.core _ req.stands.core.1 c.see-seen.ensures.view in
    let has' : HasEvents o seen log.clock = let n = c.if-not-has_events.false in c.has_events.ensures.known.0 (cc) in
    let same = sees_same (part v log.core) (part u log.core) seen saw in
    let e = c.in-Ran.ensures.ends in
    record {
      board = e.board;
      log = e.log;
      stands = e.stands;
      same = e.same;
      changes = changes_more v u w log.core others e.changes;
      goes = (
        seen,
        part u log.core,
        begins_seen o (log_view log) v u seen used req.stands others saw req.unfinished c.see-seen.ensures.sight
            (subst (HasEvents o seen) req.stands.clock has') req.entered,
        e.goes,
      );
      used = used_ran o (log_view log) v u seen used req.stands others saw (log_view left) w e.stands e.same c.in-Ran.stint e.goes;
      later = (let rises = clock_rises o (log_view log) v u seen used req.stands others saw (log_view left) w e.stands e.same c.in-Ran.stint e.goes in omega arith);
      ends = (
        omega (arith, c.in-Ran.ensures.inside, c.requires.start),
        clock_ran o (log_view log) v u seen used req.stands others saw (log_view left) w e.stands e.same c.in-Ran.stint e.goes,
      );
      plans = λ plan shown plans numbers is follows. e.plans plan shown plans numbers is
          (plans_same _ (log_view log) (log_view log) (part v log.core) (part u log.core) refl refl refl same.stints follows);
    }

pub returns-in-Behind : goal.returns-in-Behind
returns-in-Behind c =
    let v : View = view_of c.args.seat.now in
    let u : View = view_of c.see-seen.new.seat in
    let w : View = view_of c.run_at.new.seat in
    let o : OutlineView = c.args.way.now.outline.now in
    let log : CoreLog = c.args.log.now in
    let left : CoreLog = c.run_at.new.log in
    let used : ℕ = c.args.way.now.used in
    let req = c.requires.to_run in
    let seen : ℕ = c.see-seen.result in
    let saw = part_with v u log.core _ req.stands.core.1 c.see-seen.ensures.view in
    let others = changes_with v u log.core _ req.stands.core.1 c.see-seen.ensures.view in
    let has' : HasEvents o seen log.clock = let n = c.if-not-has_events.false in c.has_events.ensures.known.0 (cc) in
    let same = sees_same (part v log.core) (part u log.core) seen saw in
    let e = c.in-Behind.ensures.ends in
    record {
      board = e.board;
      log = e.log;
      stands = e.stands;
      same = e.same;
      changes = changes_more v u w log.core others e.changes;
      goes = (
        seen,
        part u log.core,
        begins_seen o (log_view log) v u seen used req.stands others saw req.unfinished c.see-seen.ensures.sight
            (subst (HasEvents o seen) req.stands.clock has') req.entered,
        e.goes.0,
        low_told log.core v u _ _ others e.goes.0.other e.goes.1,
      );
      used = used_stays o (log_view log) v u seen used req.stands others saw (log_view left) w e.stands e.same e.waits;
      later = (let stays = clock_stays o (log_view log) v u seen used req.stands others saw (log_view left) w e.stands e.same e.waits in omega arith);
      ends = search rules;
      plans = λ plan shown plans numbers is follows. e.plans plan shown plans numbers is
          (plans_same _ (log_view log) (log_view log) (part v log.core) (part u log.core) refl refl refl same.stints follows);
    }
