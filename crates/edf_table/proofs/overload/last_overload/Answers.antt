use Rattle.std.proofs.Common.{◌≡◌, ◌<◌, ◌-◌, sym, arith, subst, inl, inr}
use Rattle.std.proofs.lemmas.Bool.{cases_lt}
use Rattle.table_form.specs.Planning.Jobs.{jobs_of}
use Rattle.table_form.specs.Planning.Demand.{demand_in}
use Rattle.edf_table.proofs.Starts.{demand_empty, demand_back, fits_later}
use Rattle.edf_table.proofs.Few.{few_pieces}
use Rattle.edf_table.proofs.OverloadsLemmas.{core_of_first, some_piece}
use Rattle.edf_table.proofs.overload.last_overload.Goals as goal

pub loop-from-init : goal.loop-from-init
loop-from-init c = record {
  within = omega arith;
  value = sym (demand_empty c.args.pieces.now c.args.end);
  small = omega arith;
  fits_after = λ s le over. (let lt = over.some_ticks in omega arith);
}

pub returns-then-demand-from : goal.returns-then-demand-from
returns-then-demand-from c =
    let value = demand_back c.args.pieces.now c.last_begin-from.result c.loop-from.from c.args.end
    c.loop-from.demand c.demand_of_starts-demand.result
    c.last_begin-from.ensures.none c.last_begin-from.ensures.earlier c.loop-from.invariant.value
    c.demand_of_starts-demand.ensures.value in
    let later = fits_later c.args.pieces.now c.last_begin-from.result c.loop-from.from c.args.end
    c.last_begin-from.ensures.none c.loop-from.invariant.within
    (omega (arith, c.loop-from.invariant.value, c.loop-from.invariant.small))
    c.loop-from.invariant.fits_after in
    record {
      on = core_of_first c.args.pieces.now c.index-pieces-0.result
          (some_piece c.args.pieces.now c.requires.end.begin c.args.end c.requires.end.overloaded);
      first = record {
        overloaded = record {
          some_ticks = omega arith;
          within = c.requires.end.within;
          too_much = omega arith;
        };
        least_end = c.requires.end.least;
        greatest_begin = λ s over. elim (cases_lt c.last_begin-from.result s) [
          | inl after ↦ absurd (later s after over)
          | inr here ↦ here
        ];
      };
      asked = value;
    }

pub loop-from-preserved : goal.loop-from-preserved
loop-from-preserved c =
    let value = demand_back c.args.pieces.now c.last_begin-from.result c.loop-from.from c.args.end
    c.loop-from.demand c.demand_of_starts-demand.result
    c.last_begin-from.ensures.none c.last_begin-from.ensures.earlier c.loop-from.invariant.value
    c.demand_of_starts-demand.ensures.value in
    let later = fits_later c.args.pieces.now c.last_begin-from.result c.loop-from.from c.args.end
    c.last_begin-from.ensures.none c.loop-from.invariant.within
    (omega (arith, c.loop-from.invariant.value, c.loop-from.invariant.small))
    c.loop-from.invariant.fits_after in
    record {
      within = omega (arith, c.last_begin-from.ensures.earlier, c.loop-from.invariant.within);
      value = value;
      small = omega arith;
      fits_after = λ s le over. elim (cases_lt c.last_begin-from.result s) [
        | inl after ↦ later s after over
        | inr here ↦ (let at : s ≡ c.last_begin-from.result = omega arith in
            let much =
            subst (λ n. c.args.end - n < demand_in (jobs_of c.args.pieces.now) n c.args.end)
            at over.too_much in omega arith)
      ];
    }

pub demand_of_starts-demand-requires-clause-few : goal.demand_of_starts-demand-requires-clause-few
demand_of_starts-demand-requires-clause-few c = few_pieces c.args.pieces.now c.requires.distinct

pub bounds-pieces-0 : goal.bounds-pieces-0
bounds-pieces-0 c =
    some_piece c.args.pieces.now c.requires.end.begin c.args.end c.requires.end.overloaded

pub bounds-pieces-0-then-demand-from : goal.bounds-pieces-0-then-demand-from
bounds-pieces-0-then-demand-from c = λ d.
    some_piece c.args.pieces.now c.requires.end.begin c.args.end c.requires.end.overloaded
