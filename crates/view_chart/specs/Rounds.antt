-- The rounds of a run above its lanes, and below them the counts of events that the rounds' plans include: the glossary's
-- used counts, one for all cores in a round.
use Rattle.std.specs.Prelude.{ℕ, zero, suc, ◌+◌, ◌*◌, ◌==◌, ◌++◌, nat_le, nat_lt, Bool, true, false, List, [], codes, decimal, if◌then◌else◌, min, Option, Some, None}
use Rattle.tab_core.specs.declared.TheConstants.{ROUND}
use Rattle.tab_words.specs.Texts.{texts_below}
use Rattle.view_doc.specs.declared.view.Stretch.{Stretch}
use Rattle.view_svg.specs.Frames.{x_at}
use Rattle.view_chart.specs.Axes.{tick_text}
use Rattle.view_lanes.specs.Rounds.{first_round, rounds_shown, used_count_in}
use Rattle.view_lanes.specs.declared.frame.Frame.{Frame}

-- what is before a round's number where so many are shown, a letter where there is no room
abbrev pub round_word : ℕ → List ℕ
round_word rounds = if nat_le rounds 16 then codes "round " else codes "r"

-- a line where a round begins, or where what is shown begins, and the round's number
unfoldable pub round_text : ℕ → ℕ → List ℕ → ℕ → List ℕ
round_text x foot word r = codes "<path class=\"round\" d=\"M" ++ (decimal x ++ (codes " 9300V" ++ (decimal foot
    ++ (codes "\"/><text x=\"" ++ (decimal (x + 500)
    ++ (codes "\" y=\"7600\" font-size=\"1000\" class=\"label\">" ++ (word ++ (decimal r ++ codes "</text>\n"))))))))

-- the tick at which a round begins, or that ends what is shown, if this is earlier
abbrev pub begin_of : Frame → ℕ → ℕ
begin_of f r = min f.to (r * ROUND)

-- where the round of a number of those that are shown begins
abbrev pub round_begin_at : Frame → ℕ → ℕ
round_begin_at f k = x_at f (begin_of f (first_round f + k))

-- the line and the number of the round of a number of those that are shown
abbrev pub round_mark_at : Frame → ℕ → ℕ → List ℕ
round_mark_at f foot k = round_text (round_begin_at f k) foot (round_word (rounds_shown f)) (first_round f + k)

-- ---- counts of events

-- where the round before that of a number begins, of those that are shown, if that one is shown too
abbrev pub used_before : List Stretch → ℕ → ℕ → Option ℕ
used_before stretches first zero = None
used_before stretches first (suc k) = used_count_in stretches (first + k)

-- a line through the lanes where a plan begins that includes more events
unfoldable pub plan_change_line : ℕ → ℕ → List ℕ
plan_change_line x end = codes "<path stroke=\"#c2410c\" stroke-width=\"140\" d=\"M" ++ (decimal x ++ (codes " 9300V"
    ++ (decimal end ++ codes "\"/>\n")))

-- the line and the count where a round begins whose plan includes another count of events
abbrev pub change_text : ℕ → ℕ → ℕ → List ℕ
change_text x foot count = plan_change_line x (foot + 300) ++ tick_text x (foot + 2400) count

-- the count of the first round below the ticks, and of another where the round before has another count
abbrev pub new_count : ℕ → ℕ → Option ℕ → ℕ → List ℕ
new_count x foot None count = tick_text x (foot + 2400) count
new_count x foot (Some other) count = if other == count then [] else change_text x foot count

-- the mark of a round's count, where the round has stints
abbrev pub count_mark : ℕ → ℕ → Option ℕ → Option ℕ → List ℕ
count_mark x foot other None = []
count_mark x foot other (Some count) = new_count x foot other count

-- the mark of the count of the round of a number of those that are shown
abbrev pub count_mark_at : Frame → List Stretch → ℕ → ℕ → List ℕ
count_mark_at f stretches foot k = count_mark (round_begin_at f k) foot (used_before stretches (first_round f) k)
    (used_count_in stretches (first_round f + k))

-- the word for the counts, left of them
unfoldable pub events_word : ℕ → List ℕ
events_word y = codes "<text x=\"4000\" y=\"" ++ (decimal y
    ++ codes "\" font-size=\"900\" class=\"dim\"><title>how many events the plan of the round includes</title>events</text>\n")

-- ---- both

-- the marks of so many rounds: their numbers above the lanes, and their counts below
abbrev pub marks_text : Frame → List Stretch → ℕ → ℕ → List ℕ
marks_text f stretches foot rounds = texts_below (round_mark_at f foot) rounds
    ++ (texts_below (count_mark_at f stretches foot) rounds ++ events_word (foot + 2400))

-- the marks of a run's rounds, where no more than 24 are shown; nothing of a plan
abbrev pub rounds_text : Frame → Bool → List Stretch → ℕ → List ℕ
rounds_text f false stretches foot = []
rounds_text f true stretches foot =
    if nat_lt 24 (rounds_shown f) then [] else marks_text f stretches foot (rounds_shown f)
