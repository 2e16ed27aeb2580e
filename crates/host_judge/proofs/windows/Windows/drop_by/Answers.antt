use Rattle.std.proofs.Common.{◌∷◌, arith, refl, sym, ap, ◌∙◌}
use Rattle.host_judge.proofs.PlaceLemmas.{places_next}
use Rattle.host_judge.proofs.WindowLemmas.{trail_next}
use Rattle.host_judge.proofs.windows.Windows.drop_by.Goals as goal

pub loop-stretch-preserved : goal.loop-stretch-preserved
loop-stretch-preserved c =
    let is = c.in-Some.ensures ∙ ap (λ rest. c.in-Some.stretch ∷ rest) (sym c.pop_front.ensures.rest) in
    record {
      window = c.loop-stretch.invariant.window;
      least = c.loop-stretch.invariant.least;
      waits = c.loop-stretch.invariant.waits;
      trail = λ cut to has.
          trail_next cut to c.args.time c.loop-stretch.self _ c.in-Some.stretch
          (c.loop-stretch.invariant.trail cut to has) is (omega arith) refl refl;
      placed = λ course to has.
          places_next course to c.loop-stretch.self _ c.in-Some.stretch (c.loop-stretch.invariant.placed course to has) is
          refl refl refl;
    }
