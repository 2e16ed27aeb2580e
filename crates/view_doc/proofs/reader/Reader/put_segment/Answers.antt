use Rattle.std.proofs.Common.{◌≡◌, ◌∷◌, [], ◌++◌, inl, refl, sym, subst, append-nil, arith}
use Rattle.std.proofs.lemmas.Grind.{common_steps}
use Rattle.view_doc.specs.Inside.Reading.{CantBePut}
use Rattle.view_doc.specs.Inside.Statements.{held_by}
use Rattle.view_doc.specs.Lines.{segment, stint}
use Rattle.view_doc.specs.Views.{slots_in}
use Rattle.view_doc.specs.declared.view.Stretch.{Stretch}
use Rattle.view_doc.proofs.ReadLemmas.{none_appended, one_appended}
use Rattle.view_doc.proofs.reader.Reader.put_segment.Goals as goal

pub returns-in_default-clause-refused : goal.returns-in_default-clause-refused
returns-in_default-clause-refused c = λ no.
    subst (CantBePut (segment c.args.end (held_by c.args.holder.now))) c.self.view_is
    (inl (c.in_default.ensures c.args.end))

pub returns-in_default-row_at-clause-put : goal.returns-in_default-row_at-clause-put
returns-in_default-row_at-clause-put c = λ yes. rw (← c.self.view_is) (record {
  place = refl;
  names = (c.in-Some.ensures c.args.end).0;
  ends = refl;
  cores = refl;
  tasks = sym (append-nil _);
  slots = none_appended _ _ _ (c.in_default-row_at.ensures c.args.end (held_by c.args.holder.now));
  entries = sym (append-nil _);
  stints = none_appended _ _ _ refl;
})

pub returns-clause-put : goal.returns-clause-put
returns-clause-put c = λ yes.
    let told : slots_in c.self.inside.place (segment c.args.end (held_by c.args.holder.now))
    ≡ stint c.in-Some-row_at.core c.in-Some-row_at.from c.args.end 0 0 (held_by c.args.holder.now) ∷ [] =
    c.in-Some-row_at.ensures' c.args.end (held_by c.args.holder.now) in
    let slot : Stretch = record {
      core = c.in-Some-row_at.core;
      from = c.in-Some-row_at.from;
      end = c.args.end;
      used = 0;
      seen = 0;
      by = c.in-Some.by;
    } in
    let pushed : c.push.new.self.items ≡ c.self.inside.slots.items ++ slot ∷ [] =
    grind (arith, common_steps) in
    rw (← c.self.view_is) (record {
      place = refl;
      names = (c.in-Some.ensures c.args.end).0;
      ends = refl;
      cores = refl;
      tasks = sym (append-nil _);
      slots = one_appended _ _ _ slot _ pushed
          (rw ((c.in-Some.ensures c.args.end).1) told);
      entries = sym (append-nil _);
      stints = none_appended _ _ _ refl;
    })
