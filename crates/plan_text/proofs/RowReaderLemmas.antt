-- What has been read of a plan text whose rows come one after the other.
use Rattle.std.proofs.Common.{◌≡◌, ℕ, ◌+◌, ◌-◌, ◌<◌, true, List, [], ◌∷◌, ◌++◌, length, length-append, map, count_by, Option, refl, sym, ap, ◌∙◌, subst, arith}
use Rattle.std.specs.List.{All}
use Rattle.std.proofs.lemmas.List.Elements.{All-nil}
use Rattle.tab_core.specs.declared.periodic.Periodic.{Periodic}
use Rattle.tab_words.specs.Lines.{lines_of}
use Rattle.tab_words.specs.Words.{words_of}
use Rattle.tab_words.specs.Texts.{Line, worded}
use Rattle.table_form.specs.Tables.Homes.{are_housed}
use Rattle.table_form.specs.declared.segment.Segment.{Segment}
use Rattle.plan_text.specs.FirstBad.{IsFirstBadFor}
use Rattle.plan_text.specs.Meaning.{AreFineRows, IsFineSegment, IsPlanText, IsSomePlan, IsTextOfRows, segment_words}
use Rattle.plan_text.specs.PlanLines.{core_lines, core_words, end_words, head_words, is_admitted, vcpu_lines}
use Rattle.plan_text.specs.RowReading.{HasRead, RowsLeft}
use Rattle.plan_text.specs.Inside.Reading.{AreFromCore, AreFromVcpu, IsReadTo, TextLeft}
use Rattle.plan_text.proofs.ReadingHeadLemmas.{bad_in_text, whole_read}
use Rattle.plan_text.proofs.ReadingLemmas.{all_snoc, core_lines_more}

-- after the lines of the vCPUs no row is read
pub front_read : (names own : List (List ℕ)) (tasks these those : List (Option Periodic)) (cores number : ℕ)
    (bytes head : List ℕ) (rest : List (List ℕ)) (lines : List Line) (homes : List (Option ℕ)) (left : TextLeft)
    → own ≡ names → these ≡ tasks → those ≡ tasks → lines_of bytes ≡ head ∷ rest
    → words_of head ≡ head_words cores (count_by is_admitted those)
    → lines ≡ map words_of rest → number ≡ 2 → are_housed cores these homes ≡ true
    → lines ≡ vcpu_lines own these homes ++ left.lines
    → ((bad : ℕ) → IsFirstBadFor (AreFromCore own these 0 cores) left.number left.lines bad
    → IsFirstBadFor (AreFromVcpu own these cores 0) number lines bad)
    → IsReadTo names cores tasks bytes homes [] left
front_read names own tasks these those cores number bytes head rest lines homes left same_names same_tasks
    also at words is two housed vcpus behind = record {
      housed = subst (λ ts. are_housed cores ts homes ≡ true) same_tasks housed;
      fine = All-nil (λ row. All (IsFineSegment tasks) row);
      lines = ap (map words_of) at ∙ (ap (λ l. l ∷ map words_of rest)
          (words ∙ ap (λ ts. head_words cores (count_by is_admitted ts)) also)
          ∙ ap (λ ls. head_words cores (count_by is_admitted tasks) ∷ ls)
          (sym is ∙ subst (λ ns. lines ≡ vcpu_lines ns tasks homes ++ left.lines) same_names
          (subst (λ ts. lines ≡ vcpu_lines own ts homes ++ left.lines) same_tasks vcpus)));
      behind = λ bad bad_here. bad_in_text names own tasks these those cores number bytes head rest lines bad
          same_names same_tasks also at words is two
          (behind bad (subst (λ ns. IsFirstBadFor (AreFromCore ns these 0 cores) left.number left.lines bad)
          (sym same_names)
          (subst (λ ts. IsFirstBadFor (AreFromCore names ts 0 cores) left.number left.lines bad) (sym same_tasks)
          (subst (λ n. IsFirstBadFor (AreFromCore names tasks 0 n) left.number left.lines bad) all bad_here))));
    }
  where
    all : cores - 0 ≡ cores
    all = omega arith

-- with the lines of all cores and the end the text is whole
pub text_behind_front : (names : List (List ℕ)) (cores : ℕ) (tasks : List (Option Periodic)) (bytes : List ℕ)
    (homes : List (Option ℕ)) (rows : List (List Segment)) (left : TextLeft)
    → IsReadTo names cores tasks bytes homes [] left
    → left.lines ≡ core_lines (segment_words names) 0 rows ++ end_words ∷ []
    → length rows ≡ cores → AreFineRows tasks rows
    → IsPlanText names cores tasks bytes (record { homes = homes; rows = rows })
text_behind_front names cores tasks bytes homes rows left read written many fine =
    whole_read names tasks cores (worded bytes) (vcpu_lines names tasks homes ++ left.lines) left.lines homes rows
    read.lines refl written read.housed many fine

-- a bad line of all cores' is the text's
pub bad_behind_front : (names : List (List ℕ)) (cores : ℕ) (tasks : List (Option Periodic)) (bytes : List ℕ)
    (homes : List (Option ℕ)) (left : TextLeft) (bad : ℕ)
    → IsReadTo names cores tasks bytes homes [] left
    → IsFirstBadFor (AreFromCore names tasks 0 cores) left.number left.lines bad
    → IsFirstBadFor (IsSomePlan names cores tasks) 1 (worded bytes) bad
bad_behind_front names cores tasks bytes homes left bad read is =
    read.behind bad (subst (λ n. IsFirstBadFor (AreFromCore names tasks 0 n) left.number left.lines bad) all is)
  where
    all : cores ≡ cores - 0
    all = omega arith

-- a row after those that were read
row_behind : (names : List (List ℕ)) (cores : ℕ) (tasks : List (Option Periodic)) (bytes : List ℕ)
    (homes : List (Option ℕ)) (rows : List (List Segment)) (row : List Segment) (core : ℕ) (old new : TextLeft)
    → length rows ≡ core → core < cores → IsReadTo names cores tasks bytes homes rows old
    → old.lines ≡ core_words core ∷ (map (segment_words names) row ++ new.lines)
    → All (IsFineSegment tasks) row
    → ((count bad : ℕ) → core < count
    → IsFirstBadFor (AreFromCore names tasks (core + 1) (count - (core + 1))) new.number new.lines bad
    → IsFirstBadFor (AreFromCore names tasks core (count - core)) old.number old.lines bad)
    → IsReadTo names cores tasks bytes homes (rows ++ row ∷ []) new
row_behind names cores tasks bytes homes rows row core old new many low read lines fine behind = record {
  housed = read.housed;
  fine = all_snoc (λ r. All (IsFineSegment tasks) r) rows row read.fine fine;
  lines = read.lines ∙ ap (λ ls. head_words cores (count_by is_admitted tasks) ∷ (vcpu_lines names tasks homes ++ ls))
      (core_lines_more names core rows row (core_lines (segment_words names) 0 rows ++ old.lines) old.lines
      (map (segment_words names) row ++ new.lines) new.lines many refl lines refl);
  behind = λ bad is. read.behind bad
      (subst (λ n. IsFirstBadFor (AreFromCore names tasks n (cores - n)) old.number old.lines bad) (sym many)
      (behind cores bad low
      (subst (λ n. IsFirstBadFor (AreFromCore names tasks n (cores - n)) new.number new.lines bad) one_more is)));
}
  where
    one_more : length (rows ++ row ∷ []) ≡ core + 1
    one_more = let sum = length-append rows (row ∷ []) in omega arith

-- the reader has read one row more
pub row_read : (names : List (List ℕ)) (cores : ℕ) (tasks : List (Option Periodic)) (bytes : List ℕ)
    (rows : List (List Segment)) (row : List Segment) (core : ℕ) (old new : RowsLeft)
    → length rows ≡ core → core < cores → HasRead names cores tasks bytes rows old
    → new.names ≡ old.names → new.tasks ≡ old.tasks
    → old.left.lines ≡ core_words core ∷ (map (segment_words old.names) row ++ new.left.lines)
    → All (IsFineSegment old.tasks) row
    → ((count bad : ℕ) → core < count
    → IsFirstBadFor (AreFromCore old.names old.tasks (core + 1) (count - (core + 1))) new.left.number
    new.left.lines bad
    → IsFirstBadFor (AreFromCore old.names old.tasks core (count - core)) old.left.number old.left.lines bad)
    → HasRead names cores tasks bytes (rows ++ row ∷ []) new
row_read names cores tasks bytes rows row core old new many low has same_names same_tasks lines fine behind =
    record {
      own_names = same_names ∙ has.own_names;
      own_tasks = same_tasks ∙ has.own_tasks;
      homes = has.homes;
      read = row_behind names cores tasks bytes has.homes rows row core old.left new.left many low has.read
          (rw has.own_names at lines) (rw has.own_tasks at fine)
          (rw (has.own_names, has.own_tasks) at behind);
    }

-- where a line of what is left is bad, it is the text's first bad line
pub bad_in_rows : (names : List (List ℕ)) (cores : ℕ) (tasks : List (Option Periodic)) (bytes : List ℕ)
    (rows : List (List Segment)) (core : ℕ) (old : RowsLeft) (bad : ℕ)
    → length rows ≡ core → HasRead names cores tasks bytes rows old
    → IsFirstBadFor (AreFromCore old.names old.tasks core (cores - core)) old.left.number old.left.lines bad
    → IsFirstBadFor (IsSomePlan names cores tasks) 1 (worded bytes) bad
bad_in_rows names cores tasks bytes rows core old bad many has is =
    has.read.behind bad
    (subst (λ n. IsFirstBadFor (AreFromCore names tasks n (cores - n)) old.left.number old.left.lines bad)
    (sym many) (rw (has.own_names, has.own_tasks) at is))

-- after the rows of all cores the end alone is left: the text has these rows
pub rows_are_whole : (names : List (List ℕ)) (cores : ℕ) (tasks : List (Option Periodic)) (bytes : List ℕ)
    (rows : List (List Segment)) (reader : RowsLeft)
    → length rows ≡ cores → HasRead names cores tasks bytes rows reader → reader.left.lines ≡ end_words ∷ []
    → IsTextOfRows names cores tasks bytes rows
rows_are_whole names cores tasks bytes rows reader many has end = record {
  raw = record { homes = has.homes; rows = rows };
  own = refl;
  text = whole_read names tasks cores (worded bytes)
      (vcpu_lines names tasks has.homes ++ (core_lines (segment_words names) 0 rows ++ reader.left.lines))
      (core_lines (segment_words names) 0 rows ++ reader.left.lines) has.homes rows has.read.lines refl
      (ap (λ ls. core_lines (segment_words names) 0 rows ++ ls) end) has.read.housed many has.read.fine;
}
