use Rattle.std.proofs.Common.{◌≡◌, ◌∷◌, [], ◌++◌, ◌∙◌, ap, decimal, refl, sym, append-nil, arith}
use Rattle.std.proofs.lemmas.Grind.{common_steps}
use Rattle.view_doc.specs.Inside.Reading.{IsPlainOwner}
use Rattle.view_doc.specs.Lines.{segment, stint}
use Rattle.view_doc.specs.Views.{holder_named, slots_in}
use Rattle.view_doc.specs.declared.view.Stretch.{Stretch}
use Rattle.view_doc.proofs.ReadLemmas.{none_appended, one_appended}
use Rattle.view_doc.proofs.reader.Reader.take_plain.Goals as goal

pub returns-clause-taken : goal.returns-clause-taken
returns-clause-taken c = λ yes.
    let names = c.self.inside.table in
    let by = c.in-Some-plain_owner.by in
    let held = holder_named names by in
    let to = c.in-Some-plain_line.end in
    let owner : IsPlainOwner names c.in-Some-plain_line.word.now by = c.in-Some-plain_owner.ensures in
    let told : slots_in c.self.inside.place (segment to held) ≡ stint c.in-Some.core c.in-Some.from to 0 0 held ∷ [] =
    c.in-Some.ensures' to held in
    let slot : Stretch = record {
      core = c.in-Some.core;
      from = c.in-Some.from;
      end = to;
      used = 0;
      seen = 0;
      by = by;
    } in
    let pushed : c.push.new.self.items ≡ c.self.inside.slots.items ++ slot ∷ [] =
    grind (arith, common_steps) in
    rw (← c.self.view_is) (record {
      told = segment to held;
      says = record {
        written = c.in-Some-plain_line.ensures.1 ∙ ap (λ ws. decimal to ∷ ws) owner.alone;
        good = (c.in-Some-plain_line.ensures.0, owner.good);
      };
      taken = record {
        front = rw (c.in-Some-row_behind.ensures held, owner.known to) refl;
        cores = refl;
        tasks = sym (append-nil _);
        slots = one_appended _ _ _ slot _ pushed told;
        entries = sym (append-nil _);
        stints = none_appended _ _ _ refl;
      };
    })
