use Rattle.std.proofs.Common.{ℕ, length, refl, sym, ap, ◌∙◌, subst, arith, rules}
use Rattle.tab_core.specs.declared.stint.Stint.{Stint}
use Rattle.table_form.specs.Running.Courses.{CourseView, with_plans}
use Rattle.table_form.specs.Running.Outlines.{OutlineView}
use Rattle.round_words.specs.declared.view.Part.{Part}
use Rattle.round_words.specs.declared.view.View.{View}
use Rattle.round_words.specs.Hearing.{HearsCores}
use Rattle.round_words.specs.Seats.{view_of}
use Rattle.round_words.specs.Views.{part}
use Rattle.round_words.proofs.ChangesLemmas.{changes_more}
use Rattle.round_words.proofs.HearingLemmas.{heard_same}
use Rattle.dispatch_core.specs.declared.log.CoreLog.{CoreLog}
use Rattle.dispatch_core.specs.declared.way.Way.{Way}
use Rattle.dispatch_core.specs.Inside.Logs.{log_view}
use Rattle.dispatch_core.specs.States.{FollowsPlans}
use Rattle.dispatch_core.specs.Told.{BeginsNext}
use Rattle.dispatch_core.proofs.PartLemmas.{SameRun}
use Rattle.dispatch_core.proofs.StateLemmas.{plans_same, stands_same}
use Rattle.dispatch_core.proofs.StintLemmas.{begins_next, begins_same, plans_ran, stands_ran}
use Rattle.dispatch_core.proofs.ToldLemmas.{heard_seen, hears_same, low_same, low_stays, run_of_same}
use Rattle.dispatch_core.proofs.ending.run_at.Goals as goal

pub advance-requires-clause-sight : goal.advance-requires-clause-sight
advance-requires-clause-sight c =
    let hs = heard_same c.args.log.now.core _ _ _ _ _ c.in-None.ensures.heard in
    omega (arith, ap length hs.sights, c.requires.to_end.begun.sight.some)

pub advance-requires-clause-begins : goal.advance-requires-clause-begins
advance-requires-clause-begins c =
    let log : CoreLog = c.args.log.now in
    let way : Way = c.args.way.now in
    let req = c.requires.to_end in
    let p : Part = part (view_of c.args.seat.now) log.core in
    let q : Part = part (view_of c.hear_all.new.seat) log.core in
    let n = c.next_stint_in-next.ensures in
    begins_same p q c.next_stint_in-next.result.stint (heard_same log.core _ _ _ p q c.in-None.ensures.heard)
    (begins_next p c.next_stint_in-next.result.stint log.clock c.args.seen way.used log.used.items req.stands.used req.begun.entered
    req.stands.clock req.begun.sight.last n.from n.seen n.used)

pub returns-in-Some-clause-ends : goal.returns-in-Some-clause-ends
returns-in-Some-clause-ends c =
    let log : CoreLog = c.args.log.now in
    let way : Way = c.args.way.now in
    let o : OutlineView = way.outline.now in
    let req = c.requires.to_end in
    let s = req.stands in
    let v : View = view_of c.args.seat.now in
    let w : View = view_of c.hear_all.new.seat in
    let p : Part = part v log.core in
    let stint : Stint = c.next_stint_in-next.result.stint in
    let n = c.next_stint_in-next.ensures in
    let begins : BeginsNext p stint = begins_next p stint log.clock c.args.seen way.used log.used.items s.used req.begun.entered
    s.clock req.begun.sight.last n.from n.seen n.used in
    let low = c.in-Some.ensures.low in
    let same : SameRun p (part w log.core) = low_same log.core _ _ _ _ p low.heard (part w log.core) low.near low.becomes in
    let near = subst (λ (l : ℕ). HearsCores log.core l stint.end c.in-Some.low.core p low.heard) c.lag.ensures.lag low.near in
    record {
      board = c.in-Some.ensures.board;
      log = search rules;
      stands = stands_same o (log_view log) v w c.hear_all.new.known s c.in-Some.ensures.changes same c.in-Some.ensures.known;
      same = record { core = refl; rounds = refl; keep = refl };
      changes = c.in-Some.ensures.changes;
      told = λ plan of plans numbers is follows. (
        record {
          stint = stint;
          next = record {
            begins = begins;
            follows = n.follows plan of plans numbers is p.stints follows.last;
          };
          core = omega (arith, low.core, c.cores.ensures.cores);
          other = low.other;
          heard = low.heard;
          near = near;
          low = omega (arith, low.low, c.lag.ensures.lag);
          becomes = low.becomes;
        },
        low.exact,
      );
      waits = low_stays log.core _ _ _ _ p low.heard (part w log.core) low.near low.becomes;
      goes = (
        record {
          end = stint.end;
          core = omega (arith, low.core, c.cores.ensures.cores);
          other = low.other;
          heard = low.heard;
          near = near;
          low = omega (arith, low.low, c.lag.ensures.lag);
          becomes = low.becomes;
        },
        low.exact,
      );
      plans = λ plan of plans numbers is follows.
          plans_same _ (log_view log) _ p (part w log.core) refl refl refl same.stints follows;
    }

pub returns-in-None-clause-ends : goal.returns-in-None-clause-ends
returns-in-None-clause-ends c =
    let log : CoreLog = c.args.log.now in
    let way : Way = c.args.way.now in
    let o : OutlineView = way.outline.now in
    let req = c.requires.to_end in
    let s = req.stands in
    let v : View = view_of c.args.seat.now in
    let u : View = view_of c.hear_all.new.seat in
    let p : Part = part v log.core in
    let q : Part = part u log.core in
    let stint : Stint = c.next_stint_in-next.result.stint in
    let n = c.next_stint_in-next.ensures in
    let begins : BeginsNext p stint = begins_next p stint log.clock c.args.seen way.used log.used.items s.used req.begun.entered
    s.clock req.begun.sight.last n.from n.seen n.used in
    let hs = heard_same log.core _ _ _ p q c.in-None.ensures.heard in
    let near = hears_same log.core c.lag.result o.lag stint.end c.cores.result o.cores p q c.lag.ensures.lag c.cores.ensures.cores c.in-None.ensures.heard in
    let t = c.note.ensures in
    record {
      board = c.advance.ensures.board;
      log = record {
        small = omega (arith, t.same.0, req.log.small);
        few = omega (arith, t.same.1, req.log.few);
        used_room = omega (arith, t.same.1, t.used.1, req.log.used_room);
        stints_room = omega (arith, t.same.2, t.room, req.log.stints_room);
      };
      stands = stands_ran o (record (log_view log) { known = c.hear_all.new.known }) (log_view c.note.new.log) u _ stint c.next_stint_in-next.result.shared c.args.seen
          (stands_same o (log_view log) v u c.hear_all.new.known s c.in-None.ensures.changes (run_of_same p q hs) c.in-None.ensures.known)
          req.begun.unfinished (heard_seen o c.args.seen p q hs req.begun.sight)
          (begins_same p q stint hs begins)
          n.some n.in_round c.advance.ensures.changes c.advance.ensures.becomes t.same.0 t.same.1 t.same.2 t.clock t.used.0 t.stints t.account t.known;
      same = record { core = t.same.0; rounds = t.same.1; keep = t.same.2 };
      changes = changes_more v u _ log.core c.in-None.ensures.changes c.advance.ensures.changes;
      told = λ plan of plans numbers is follows. record {
        next = record {
          begins = begins;
          follows = n.follows plan of plans numbers is p.stints follows.last;
        };
        heard = q;
        near = near;
        becomes = c.advance.ensures.becomes;
      };
      waits = search rules;
      goes = record {
        begins = begins;
        some = n.some;
        heard = q;
        near = near;
        becomes = c.advance.ensures.becomes;
      };
      plans = λ plan of plans numbers is follows.
          let course : CourseView = with_plans o plans numbers in
          let heard : FollowsPlans course (log_view log) q = plans_same course (log_view log) (log_view log) p q refl refl refl hs.stints follows in
          subst (FollowsPlans course (log_view c.note.new.log)) (sym c.advance.ensures.becomes)
          (plans_ran course (log_view log) (log_view c.note.new.log) q stint c.next_stint_in-next.result.shared heard
          (n.follows plan of plans numbers is q.stints heard.last) (n.shared plan of plans numbers is) t.same.0
          (t.last ∙ (sym n.picked ∙ n.last plan of plans numbers is)) t.account);
    }

pub returns-in-None-clause-inside : goal.returns-in-None-clause-inside
returns-in-None-clause-inside c =
    let n = c.next_stint_in-next.ensures in
    omega (arith, n.in_span, n.from, c.requires.start)
