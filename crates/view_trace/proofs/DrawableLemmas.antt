-- Rows that can be drawn, and one more.
use Rattle.std.proofs.Common.{◌≡◌, ℕ, ◌<◌, ◌≤◌, ◌⊎◌, All, List, [], ◌∷◌, ◌++◌, length, length-append, max, suc, refl, sym, ap, ◌∙◌, inl, inr, Some, arith}
use Rattle.std.proofs.lemmas.List.Elements.{All-append}
use Rattle.tab_core.specs.Name.{IsName}
use Rattle.tab_core.specs.declared.TheConstants.{MAX_VCPUS}
use Rattle.host_trace.specs.TraceLines.{AreMarksOf, IsMarkOf, IsNameOf, LineTells, SaysMark, TraceRow}
use Rattle.host_trace.specs.declared.mark.Mark.{Mark}
use Rattle.host_trace.proofs.MarkLemmas.{said}
use Rattle.host_trace.proofs.RowLemmas.{marks_more}
use Rattle.vcpu_names.specs.Names.{name_at}
use Rattle.view_trace.specs.Drawable.{AreDrawable, AreNamesNumbered, AreRising, IsPlacedMark, drawable_row, last_time}
use Rattle.view_trace.specs.Inside.Named.{IsKnownAs, IsNewName, IsOld}
use Rattle.view_trace.specs.Inside.Readings.{HasReadRows}
use Rattle.view_trace.specs.declared.reading.Reading.{Reading}
use Rattle.view_trace.proofs.NameLemmas.{apart_more, good_more, named_more}

-- ---- marks, and one more

says_more : (names : List (List ℕ)) (name : List ℕ) (text : List ℕ) (mark : Mark) (v : ℕ) → mark.vcpu ≡ Some v
    → SaysMark names text mark → SaysMark (names ++ name ∷ []) text mark
says_more names name text mark v own says = record {
  fields = says.fields;
  written = says.written;
  some_name = says.some_name;
  time = says.time;
  vcpu = named_more names name says.fields.name mark.vcpu v own says.vcpu;
  state = says.state;
  cpu = says.cpu;
}

-- marks of vCPUs that are named are theirs among more names
marks_wider : (names : List (List ℕ)) (name : List ℕ) (rows : List TraceRow) (marks : List Mark) (known all : ℕ)
    → AreMarksOf names rows marks → AreNamesNumbered known marks all → AreMarksOf (names ++ name ∷ []) rows marks
marks_wider names name [] [] known all are numbered = tt
marks_wider names name (row ∷ rows) (mark ∷ marks) known all are numbered = (
  record {
    placed = are.0.placed;
    says = says_more names name row.text mark numbered.0 numbered.1 are.0.says;
  },
  marks_wider names name rows marks (max known (suc numbered.0)) all are.1 numbered.3,
)
marks_wider names name [] (mark ∷ marks) known all are numbered = absurd are
marks_wider names name (row ∷ rows) [] known all are numbered = absurd are

numbered_more : (known : ℕ) (marks : List Mark) (all : ℕ) (mark : Mark) (vcpu : ℕ) → AreNamesNumbered known marks all
    → mark.vcpu ≡ Some vcpu → vcpu ≤ all → AreNamesNumbered known (marks ++ mark ∷ []) (max all (suc vcpu))
numbered_more known [] all mark vcpu is own low =
    (vcpu, own, omega (arith, is, low), ap (λ n. max n (suc vcpu)) is)
numbered_more known (first ∷ marks) all mark vcpu are own low = (
  are.0,
  are.1,
  are.2,
  numbered_more (max known (suc are.0)) marks all mark vcpu are.3 own low,
)

pub last_more : (time : ℕ) (marks : List Mark) (mark : Mark) → last_time time (marks ++ mark ∷ []) ≡ mark.time_ns
last_more time [] mark = refl
last_more time (first ∷ marks) mark = last_more first.time_ns marks mark

rising_more : (time : ℕ) (marks : List Mark) (mark : Mark) → AreRising time marks
    → last_time time marks ≤ mark.time_ns → AreRising time (marks ++ mark ∷ [])
rising_more time [] mark are later = (later, tt)
rising_more time (first ∷ marks) mark are later =
    (are.0, rising_more first.time_ns marks mark are.1 later)

placed_more : (marks : List Mark) (mark : Mark) → All IsPlacedMark marks → IsPlacedMark mark
    → All IsPlacedMark (marks ++ mark ∷ [])
placed_more marks mark all placed =
    All-append IsPlacedMark marks (mark ∷ []) all
    (λ k d low. let first : k ≡ 0 = omega arith in rw first placed)

-- ---- rows, and one more

-- among names that stay
row_old : (names : List (List ℕ)) (rows : List TraceRow) (marks : List Mark) (number : ℕ) (text name : List ℕ)
    (mark : Mark) (vcpu : ℕ) → AreDrawable names rows marks → mark.line ≡ number → mark.vcpu ≡ Some vcpu
    → vcpu < length names → name_at names vcpu ≡ name → LineTells text name mark.time_ns mark.state mark.cpu
    → last_time 0 marks ≤ mark.time_ns → IsPlacedMark mark
    → AreDrawable names (rows ++ drawable_row number text ∷ []) (marks ++ mark ∷ [])
row_old names rows marks number text name mark vcpu are line own low at tells later placed =
    let named : IsNameOf names name mark.vcpu = rw own (low, at) in
    let is : IsMarkOf names (drawable_row number text) mark =
    record { placed = line; says = said names text name mark tells named } in
    let count : max (length names) (suc vcpu) ≡ length names = omega (arith, low) in
    record {
      said = marks_more names rows marks (drawable_row number text) mark are.said is;
      numbered = rw (sym count) (numbered_more 0 marks (length names) mark vcpu are.numbered own (omega (arith, low)));
      apart = are.apart;
      good = are.good;
      few = are.few;
      rising = rising_more 0 marks mark are.rising later;
      placed = placed_more marks mark are.placed placed;
    }

-- among names that become one more
row_new : (names : List (List ℕ)) (rows : List TraceRow) (marks : List Mark) (number : ℕ) (text name : List ℕ)
    (mark : Mark) (vcpu : ℕ) → AreDrawable names rows marks → mark.line ≡ number → mark.vcpu ≡ Some vcpu
    → IsNewName names (names ++ name ∷ []) name vcpu → name_at (names ++ name ∷ []) vcpu ≡ name → IsName name
    → length (names ++ name ∷ []) ≤ MAX_VCPUS → LineTells text name mark.time_ns mark.state mark.cpu
    → last_time 0 marks ≤ mark.time_ns → IsPlacedMark mark
    → AreDrawable (names ++ name ∷ []) (rows ++ drawable_row number text ∷ []) (marks ++ mark ∷ [])
row_new names rows marks number text name mark vcpu are line own new at good few tells later placed =
    let many : length (names ++ name ∷ []) ≡ suc (length names) = omega (arith, length-append names (name ∷ [])) in
    let low : vcpu < length (names ++ name ∷ []) = omega (arith, new.next, many) in
    let named : IsNameOf (names ++ name ∷ []) name mark.vcpu = rw own (low, at) in
    let is : IsMarkOf (names ++ name ∷ []) (drawable_row number text) mark =
    record { placed = line; says = said (names ++ name ∷ []) text name mark tells named } in
    let count : max (length names) (suc vcpu) ≡ length (names ++ name ∷ []) = omega (arith, new.next, many) in
    record {
      said = marks_more (names ++ name ∷ []) rows marks (drawable_row number text) mark
          (marks_wider names name rows marks 0 (length names) are.said are.numbered) is;
      numbered = rw (sym count)
          (numbered_more 0 marks (length names) mark vcpu are.numbered own (omega (arith, new.next)));
      apart = apart_more names name are.apart new.unknown;
      good = good_more names name are.good good;
      few = few;
      rising = rising_more 0 marks mark are.rising later;
      placed = placed_more marks mark are.placed placed;
    }

row_either : (names all : List (List ℕ)) (rows : List TraceRow) (marks : List Mark) (number : ℕ) (text name : List ℕ)
    (mark : Mark) (vcpu : ℕ) → AreDrawable names rows marks → mark.line ≡ number → mark.vcpu ≡ Some vcpu
    → (IsOld names all vcpu ⊎ IsNewName names all name vcpu) → name_at all vcpu ≡ name → IsName name
    → length all ≤ MAX_VCPUS → LineTells text name mark.time_ns mark.state mark.cpu
    → last_time 0 marks ≤ mark.time_ns → IsPlacedMark mark
    → AreDrawable all (rows ++ drawable_row number text ∷ []) (marks ++ mark ∷ [])
row_either names all rows marks number text name mark vcpu are line own (inl old) at good few tells later placed =
    rw old.same
    (row_old names rows marks number text name mark vcpu are line own old.known
    (ap (λ held. name_at held vcpu) (sym old.same) ∙ at) tells later placed)
row_either names all rows marks number text name mark vcpu are line own (inr new) at good few tells later placed =
    let wider : IsNewName names (names ++ name ∷ []) name vcpu =
    record { more = refl; unknown = new.unknown; next = new.next } in
    rw new.more
    (row_new names rows marks number text name mark vcpu are line own wider
    (ap (λ held. name_at held vcpu) (sym new.more) ∙ at) good (rw (sym new.more) few) tells later placed)

-- a row was read
pub read_more : (rows : List TraceRow) (number : ℕ) (text name : List ℕ) (mark : Mark) (vcpu : ℕ) (old new : Reading)
    → HasReadRows rows old → mark.line ≡ number → mark.vcpu ≡ Some vcpu
    → IsKnownAs old.names.items new.names.items name vcpu → IsName name → length new.names.items ≤ MAX_VCPUS
    → LineTells text name mark.time_ns mark.state mark.cpu → old.time_ns ≤ mark.time_ns → IsPlacedMark mark
    → new.marks.items ≡ old.marks.items ++ mark ∷ [] → new.time_ns ≡ mark.time_ns
    → HasReadRows (rows ++ drawable_row number text ∷ []) new
read_more rows number text name mark vcpu old new read line own known good few tells later placed marks time =
    let last : last_time 0 old.marks.items ≤ mark.time_ns = rw (sym read.time) later in
    record {
      drawable = rw marks (row_either old.names.items new.names.items rows old.marks.items number text name mark vcpu
          read.drawable line own known.either known.at good few tells last placed);
      time = rw marks (time ∙ sym (last_more 0 old.marks.items mark));
    }
