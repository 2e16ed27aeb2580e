use Rattle.std.proofs.Common.{◌≡◌, ◌*◌, ◌<◌, ◌≤◌, ℕ, refl, sym, ap, ◌∙◌, subst, arith, rules}
use Rattle.std.specs.Prelude.{All}
use Rattle.tab_core.specs.declared.TheConstants.{ROUND}
use Rattle.tab_core.specs.declared.entry.Entry.{Entry}
use Rattle.table_form.specs.Running.Outlines.{OutlineView}
use Rattle.round_words.specs.declared.view.Part.{Part}
use Rattle.round_words.specs.declared.view.View.{View}
use Rattle.round_words.specs.Seats.{view_of}
use Rattle.round_words.specs.Views.{part}
use Rattle.round_words.proofs.ChangesLemmas.{changes_more, changes_with, part_with}
use Rattle.dispatch_core.specs.declared.log.CoreLog.{CoreLog}
use Rattle.dispatch_core.specs.Inside.Logs.{log_view}
use Rattle.dispatch_core.specs.Parts.{HasEvents}
use Rattle.dispatch_core.specs.Told.{ComesToEnter}
use Rattle.dispatch_core.proofs.PartLemmas.{entered_same, entered_seen}
use Rattle.dispatch_core.proofs.StateLemmas.{knows_same, plans_same, stands_entered, stands_same}
use Rattle.dispatch_core.proofs.ToldLemmas.{has_seen, lacks_event, sees_same}
use Rattle.dispatch_core.proofs.beginning.begin.Goals as goal

pub returns-then-not-has_events : goal.returns-then-not-has_events
returns-then-not-has_events c =
    let v : View = view_of c.args.seat.now in
    let u : View = view_of c.see-seen.new.seat in
    let o : OutlineView = c.args.outline.now in
    let log : CoreLog = c.args.log.now in
    let s = c.requires.stands in
    let seen : ℕ = c.see-seen.result in
    let sees = part_with v u log.core _ s.core.1 c.see-seen.ensures.view in
    let others = changes_with v u log.core _ s.core.1 c.see-seen.ensures.view in
    let same = sees_same (part v log.core) (part u log.core) seen sees in
    let clock : (part v log.core).clock ≡ log.clock = sym s.clock in
    record {
      board = c.see-seen.ensures.board;
      log = c.requires.log;
      stands = stands_same o (log_view log) v u log.known s others same
          (knows_same log.known (part v log.core) (part u log.core) (ap (λ (p : Part). p.heard) sees) s.known);
      same = record { core = refl; rounds = refl; keep = refl };
      changes = others;
      told = (
        (let f = c.if-log.false in omega (arith, s.timely.in_run, clock)),
        lacks_event o v u log.core seen c.tick_of.result c.has_events.ensures.kept
            (λ has. (let n = c.if-not-has_events.true in
            let yes = c.has_events.ensures.known.1 (subst (HasEvents o seen) clock has) in absurd cc))
            c.see-seen.ensures.sight s.of_outline.events_are c.tick_of.ensures sees,
        refl,
      );
      plans = λ course follows. plans_same course (log_view log) (log_view log) (part v log.core) (part u log.core) refl refl refl same.stints follows;
    }

pub returns : goal.returns
returns c =
    let v : View = view_of c.args.seat.now in
    let u : View = view_of c.see-seen.new.seat in
    let w : View = view_of c.enter-used.new.seat in
    let o : OutlineView = c.args.outline.now in
    let log : CoreLog = c.args.log.now in
    let s = c.requires.stands in
    let seen : ℕ = c.see-seen.result in
    let sighted = c.see-seen.ensures.sight in
    let sees = part_with v u log.core _ s.core.1 c.see-seen.ensures.view in
    let others = changes_with v u log.core _ s.core.1 c.see-seen.ensures.view in
    let same = sees_same (part v log.core) (part u log.core) seen sees in
    let enters = c.enter-used.ensures.enters in
    let entered = entered_same (part u log.core) (part w log.core) enters in
    let unfinished : log.clock < log.rounds * ROUND = let f = c.if-log.false in omega (arith, s.timely.in_run, s.clock) in
    let has' : HasEvents o seen log.clock = let n = c.if-not-has_events.false in c.has_events.ensures.known.0 (cc) in
    let has : HasEvents o seen (part v log.core).clock = subst (HasEvents o seen) s.clock has' in
    let has_all = has_seen o v log.core seen (part u log.core) sees sighted has s.of_outline.events_are in
    record {
      board = c.enter-used.ensures.board;
      log = search rules;
      stands = stands_entered o (log_view log) u w c.enter-used.new.used.items seen
          (stands_same o (log_view log) v u log.known s others same
          (knows_same log.known (part v log.core) (part u log.core) (ap (λ (q : Part). q.heard) sees) s.known))
          unfinished c.enter-used.ensures.changes has_all
          (subst (All (λ (e : Entry). (e.seen ≤ seen) × (e.used ≤ seen))) (sym (ap (λ (q : Part). q.entries) sees)) sighted.counts.entries)
          enters c.enter-used.ensures.used;
      same = record { core = refl; rounds = refl; keep = refl };
      changes = changes_more v u w log.core others c.enter-used.ensures.changes;
      told = (
        record {
          unfinished = omega (arith, unfinished, s.clock);
          sees_all = record { sighted = sighted; has = has };
          enters = subst (λ (p : Part). ComesToEnter p (part w log.core)) sees enters;
        },
        record {
          unfinished = unfinished;
          sight = entered_seen o seen (part u log.core) (part w log.core) has_all enters;
          entered = c.enter-used.ensures.count;
          within = omega (arith, c.enter-used.ensures.within, sighted.within, s.of_outline.events_are, others.events);
        },
      );
      plans = λ course follows. plans_same course (log_view log) _ (part v log.core) _ refl refl refl (entered.stints ∙ same.stints) follows;
    }
