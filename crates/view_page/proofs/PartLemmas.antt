-- Parts of a page that are written one after the other.
use Rattle.std.proofs.Common.{◌≡◌, ◌∙◌, ℕ, List, ◌++◌, Result, Ok, Err, ap, append_assoc, refl, subst, sym}
use Rattle.tab_io.proofs.SinkLemmas.{all_left, left_behind, left_broken, left_last, writes_more}
use Rattle.tab_io.specs.Sinks.{IsLeft, Writes}
use Rattle.tab_io.specs.Views.{SinkView}
use Rattle.tab_io.specs.declared.sink.WriteFault.{WriteFault}
use Rattle.view_lanes.specs.declared.fault.ChartFault.{ChartFault}
use Rattle.view_lanes.specs.declared.fault.ChartFault.TheVariants as fault
use Rattle.view_page.specs.Written.{Fronted, WritesPart, part_result}

-- a text is a part
pub part_written : (s t : SinkView) (text : List ℕ) (r : Result (Unit {0}) WriteFault)
    → Writes s t text r → WritesPart s t text (part_result r)
part_written s t text (Ok u) wrote = wrote
part_written s t text (Err f) wrote = wrote

-- where nothing was written yet, a prefix of any text was
pub nothing_fronted : (s : SinkView) (text : List ℕ) → Fronted s s text
nothing_fronted s text = record { left = text; is = all_left s text }

-- a prefix of a part was written: so was a prefix of the text
fronted_more : (s t v : SinkView) (text left part rest : List ℕ)
    → IsLeft s t text left → left ≡ part ++ rest → Fronted t v part → Fronted s v text
fronted_more s t v text left part rest is parts begun = record {
  left = begun.left ++ rest;
  is = record {
    front = is.front ++ begun.is.front;
    whole = is.whole ∙ (ap (λ l. is.front ++ l) (parts ∙ (ap (λ l. l ++ rest) begun.is.whole
        ∙ append_assoc begun.is.front begun.left rest)) ∙ sym (append_assoc is.front begun.is.front (begun.left ++ rest)));
    written = writes_more s t v is.front begun.is.front tt (Ok tt) is.written begun.is.written;
  };
}

-- what was written of the last part is a prefix of the text
fronted_last : (s t v : SinkView) (text left : List ℕ) → IsLeft s t text left → Fronted t v left → Fronted s v text
fronted_last s t v text left is begun = record {
  left = begun.left;
  is = record {
    front = is.front ++ begun.is.front;
    whole = is.whole ∙ (ap (λ l. is.front ++ l) begun.is.whole ∙ sym (append_assoc is.front begun.is.front begun.left));
    written = writes_more s t v is.front begun.is.front tt (Ok tt) is.written begun.is.written;
  };
}

-- a part was written: the rest is left
pub part_behind : (s t v : SinkView) (text left part rest : List ℕ) (r : Result (Unit {0}) ChartFault) (u : Unit {0})
    → IsLeft s t text left → left ≡ part ++ rest → WritesPart t v part r → r ≡ Ok u → IsLeft s v text rest
part_behind s t v text left part rest r u is parts wrote done =
    left_behind s t v text left part rest (Ok u) u is parts (subst (λ k. WritesPart t v part k) done wrote) refl

-- a part failed: so did the text
failed_with : (s t v : SinkView) (text left part rest : List ℕ) (e : ChartFault)
    → IsLeft s t text left → left ≡ part ++ rest → WritesPart t v part (Err e) → WritesPart s v text (Err e)
failed_with s t v text left part rest fault.Nothing is parts wrote = absurd wrote
failed_with s t v text left part rest fault.Write is parts wrote =
    left_broken s t v text left part rest (Err (record {})) (record {}) is parts wrote refl
failed_with s t v text left part rest fault.NoMemory is parts wrote = fronted_more s t v text left part rest is parts wrote

pub part_broken : (s t v : SinkView) (text left part rest : List ℕ) (r : Result (Unit {0}) ChartFault) (e : ChartFault)
    → IsLeft s t text left → left ≡ part ++ rest → WritesPart t v part r → r ≡ Err e → WritesPart s v text (Err e)
part_broken s t v text left part rest r e is parts wrote failed =
    failed_with s t v text left part rest e is parts (subst (λ k. WritesPart t v part k) failed wrote)

-- the last part's answer is the answer for the text
pub part_last : (s t v : SinkView) (text left : List ℕ) (r : Result (Unit {0}) ChartFault)
    → IsLeft s t text left → WritesPart t v left r → WritesPart s v text r
part_last s t v text left (Ok u) is wrote = left_last s t v text left (Ok u) is wrote
part_last s t v text left (Err fault.Nothing) is wrote = absurd wrote
part_last s t v text left (Err fault.Write) is wrote = left_last s t v text left (Err (record {})) is wrote
part_last s t v text left (Err fault.NoMemory) is wrote = fronted_last s t v text left is wrote
