-- A text that came whole where `finish` then failed.
use Rattle.std.proofs.Common.{arith, subst, sym, refl, ◌≡◌, ℕ, ◌≤◌, [], Some, Result, Ok, append-nil, inr}
use Rattle.std.specs.Io.KnownBytes.{Keeps}
use Rattle.std.proofs.KnownBytes.{Appends-kept}
use Rattle.tab_io.specs.Views.{SinkView}
use Rattle.tab_io.specs.FaultCounts.{Rose}
use Rattle.tab_io.specs.Sinks.{Writes}
use Rattle.tab_io.specs.declared.sink.WriteFault.{WriteFault}
use Rattle.tab_io.proofs.SinkLemmas.{rose_since}
use Rattle.tableau_sim.specs.declared.status.Status.TheVariants as status
use Rattle.tableau_sim.specs.Frame.{WritesReply}
use Rattle.tableau_sim.specs.Outcomes.{CallOutcome, text_of_outcome}

-- the text is out whole and `finish` fails: the answer is a write fault, with the whole text as what was
-- written
pub unsettled : (s t v : SinkView) (due : CallOutcome) (q : Result (Unit {0}) WriteFault)
    (u : Unit {0})
    → Writes s t (text_of_outcome due) q → q ≡ Ok u → Rose t.faults v.faults → ((m : ℕ) → t.room ≡ Some m → ⊥)
    → Keeps t.taken v.taken → t.faults ≤ v.faults
    → WritesReply s v due status.WriteFault
unsettled s t v due q u h is rose works taken later =
    let text = text_of_outcome due in
    let w : Writes s t text (Ok u) = subst (λ (k : Result (Unit {0}) WriteFault). Writes s t text k) is h in
    record {
      later = omega (arith, w.later, later);
      whole = inr (
        refl,
        record {
          front = text;
          rest = [];
          whole = sym (append-nil text);
          appends = Appends-kept _ _ _ text w.bytes taken;
        },
        rose_since s.faults t.faults v.faults w.later rose,
        record { lacks = λ m is. absurd (works _ (w.fits.uses m is).1) },
      );
    }
