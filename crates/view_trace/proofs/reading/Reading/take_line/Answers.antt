use Rattle.std.proofs.Common.{◌≡◌, [], ◌∷◌, ◌++◌, Some, refl, rules}
use Rattle.tab_core.specs.Name.{IsName}
use Rattle.host_trace.specs.declared.mark.Mark.{Mark}
use Rattle.view_trace.specs.Drawable.{HasLane}
use Rattle.view_trace.proofs.DrawableLemmas.{read_more}
use Rattle.view_trace.proofs.reading.Reading.take_line.Goals as goal

pub returns-clause-read : goal.returns-clause-read
returns-clause-read c = λ rows read.
    let told = c.in-Some.told in
    let mark : Mark = record {
      line = c.args.number;
      time_ns = told.time_ns;
      vcpu = Some c.in-Some-found.vcpu;
      state = told.state;
      cpu = told.cpu;
    } in
    let good : IsName told.name.now = search rules in
    let placed : HasLane told.state told.cpu = search rules in
    let pushed : c.push.new.self.items ≡ c.args.self.now.marks.items ++ mark ∷ [] = search rules in
    read_more rows c.args.number c.args.line.now told.name.now mark c.in-Some-found.vcpu c.args.self.now _ read refl
    refl (rw c.in-Some-found.is at c.in-Ok.ensures.found) good c.in-Ok.ensures.few c.in-Some.ensures
    c.if-told-self.false placed pushed refl
