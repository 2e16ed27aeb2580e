use Rattle.std.proofs.Common.{take-add, arith, ◌-◌, ◌≡◌, ◌+◌, take, drop, ◌∙◌, sym, ap, length, ℕ, Some}
use Rattle.std.proofs.lemmas.List.{take-append-drop, length-drop, take_all}
use Rattle.std.proofs.KnownBytes.{Appends-trans, Appends-kept}
use Rattle.tab_io.proofs.SinkLemmas.{rose_since}
use Rattle.tab_io.proofs.sink.write_all.Goals as goal

pub loop-at-preserved : goal.loop-at-preserved
loop-at-preserved g c =
    let w = c.in-Took.ensures in
    record {
      within =
          let rest = ap length c.split_at.ensures.back in
          omega (arith, w.wrote.1, rest, length-drop c.loop-at.at c.args.bytes.now);
      later = omega (arith, c.loop-at.invariant.later, w.later);
      room = λ m is.
          let r = c.loop-at.invariant.room m is in
          let s = w.room (m - c.loop-at.at) r.1 in
          let rest : (m - c.loop-at.at) - c.in-Took.count ≡ m - (c.loop-at.at + c.in-Took.count) =
          omega arith in
          (omega (arith, r.0, s.0), s.1 ∙ ap Some rest);
      came =
          let longer = take-add c.loop-at.at c.in-Took.count c.args.bytes.now in
          rw (longer, ← c.split_at.ensures.back) (Appends-trans _ _ _ _ _ c.loop-at.invariant.came w.wrote.2);
    }

pub returns-in-Failed : goal.returns-in-Failed
returns-in-Failed g c =
    let w = c.in-Failed.ensures in
    record {
      later = omega (arith, c.loop-at.invariant.later, w.later);
      bytes = (
        record {
          front = take c.loop-at.at c.args.bytes.now;
          rest = drop c.loop-at.at c.args.bytes.now;
          whole = sym (take-append-drop c.loop-at.at c.args.bytes.now);
          appends = Appends-kept _ _ _ _ c.loop-at.invariant.came w.wrote.0;
        },
        rose_since _ _ _ c.loop-at.invariant.later w.wrote.1,
      );
      fits = record {
        lacks = λ m is.
            let r = c.loop-at.invariant.room m is in
            omega (arith, r.0, w.room (m - c.loop-at.at) r.1, c.loop-at-test.true);
      };
    }

pub returns : goal.returns
returns g c =
    let all : c.loop-at.at ≡ length c.args.bytes.now =
    omega (arith, c.loop-at.invariant.within, c.loop-at-test.false) in
    record {
      later = c.loop-at.invariant.later;
      bytes = rw (← take_all c.loop-at.at c.args.bytes.now (omega (arith, all))) c.loop-at.invariant.came;
      fits = record {
        uses = λ m is.
            let r = c.loop-at.invariant.room m is in
            (omega (arith, r.0, all), r.1 ∙ ap (λ (n : ℕ). Some (m - n)) all);
      };
    }
