-- The lines of a report are read as a report's.
use Rattle.std.proofs.Common.{◌≡◌, ℕ, zero, suc, ◌<◌, ◌^◌, nat_lt, true, List, [], ◌∷◌, ◌++◌, codes, decimal, flat_map, length, length-append, slice_index_or, refl, sym, ap, ◌∙◌, subst, append_assoc, append-nil, inl, inr, arith}
use Rattle.std.proofs.lemmas.Bool.{and_parts, lt-ltb}
use Rattle.std.proofs.lemmas.Grind.{flat_map-append}
use Rattle.std.proofs.lemmas.List.Elements.{All-append, All-cons, All-head, All-nil, All-tail}
use Rattle.std.proofs.lemmas.List.Folds.{list_all-append}
use Rattle.std.specs.List.{All, list_all}
use Rattle.tab_core.specs.Name.{IsName}
use Rattle.tab_core.specs.declared.host.Host.{Host}
use Rattle.tab_words.specs.Texts.{Line, line_of, text_of, texts_below}
use Rattle.tab_words.proofs.TextLemmas.{decimal_word, is_line, is_plain, is_word}
use Rattle.vcpu_names.specs.Names.{AreNames, name_at, names_of}
use Rattle.plan_text.proofs.MeaningLemmas.{name_word}
use Rattle.run_counts.specs.declared.round_plan.RoundPlan.{RoundPlan}
use Rattle.plan_book.specs.Books.{NamesVcpuBelow}
use Rattle.plan_book.specs.declared.outcome.Outcome.{Outcome}
use Rattle.plan_book.specs.declared.outcome.Outcome.TheVariants.{NoPeriod, NoRoom, Planned}
use Rattle.trace_report.specs.ReportText.{change_at, change_line, core_line, done_line, line_of_change, report_text, round_line, run_line, vcpu_line}
use Rattle.trace_report.specs.ReportViews.{ReportView, core_ticks_at, no_core_ticks, no_vcpu_ticks, vcpu_at}
use Rattle.trace_report.specs.declared.ticks.CoreTicks.{CoreTicks}
use Rattle.trace_report.specs.declared.ticks.VcpuTicks.{VcpuTicks}
use Rattle.view_doc.specs.Items.{FitsForm, IsItem, IsNumber, report_form}
use Rattle.view_laws.specs.ShownTraces.{AreCoreNumbers, AreRoundNumbers, AreVcpuNumbers, HasReportNumbers, IsChangeOf}

-- ---- items

-- a line of a report that can be read
pub record IsGoodItem (words : Line) : Type 0 where
  pub is : IsItem words
  pub line : is_line words ≡ true

-- a number's word
number : (n : ℕ) → n < 2 ^ 64 → IsNumber (decimal n)
number n low = record { value = n; spelled = record { fits = low; digits = refl } }

-- a round's line
round_words : RoundPlan → Line
round_words r = codes "round" ∷ decimal r.round ∷ codes "plan" ∷ decimal r.plan ∷ []

round_good : (r : RoundPlan) → AreRoundNumbers r → IsGoodItem (round_words r)
unfolding round_words
round_good r low =
    let round = low.round in
    let plan = low.plan in
    record {
      is = inl (refl, (number r.round (omega arith), (refl, (number r.plan (omega arith), tt))));
      line = rw (decimal_word r.round (omega arith), decimal_word r.plan (omega arith)) refl;
    }

-- a vCPU's
vcpu_words : List ℕ → VcpuTicks → Line
vcpu_words name t =
    codes "vcpu" ∷ name ∷ codes "offered" ∷ decimal t.offered ∷ codes "slots" ∷ decimal t.slots
    ∷ codes "shared" ∷ decimal t.shared ∷ codes "gap" ∷ decimal t.gap ∷ []

vcpu_good : (name : List ℕ) (t : VcpuTicks) → IsName name → AreVcpuNumbers t → IsGoodItem (vcpu_words name t)
unfolding vcpu_words
vcpu_good name t good low =
    let gap : t.gap < 2 ^ 64 = let small = low.gap in omega arith in
    record {
      is = inr (inl (
        refl,
        (
          good,
          (
            refl,
            (
              number t.offered low.offered,
              (
                refl,
                (
                  number t.slots low.slots,
                  (refl, (number t.shared low.shared, (refl, (number t.gap gap, tt)))),
                ),
              ),
            ),
          ),
        ),
      ));
      line = rw (
        name_word name good,
        decimal_word t.offered low.offered,
        decimal_word t.slots low.slots,
        decimal_word t.shared low.shared,
        decimal_word t.gap gap,
      ) refl;
    }

-- a core's
core_words : ℕ → CoreTicks → Line
core_words c t =
    codes "core" ∷ decimal c ∷ codes "slots" ∷ decimal t.slots ∷ codes "shared" ∷ decimal t.shared
    ∷ codes "idle" ∷ decimal t.idle ∷ []

core_good : (c : ℕ) (t : CoreTicks) → c < 2 ^ 64 → AreCoreNumbers t → IsGoodItem (core_words c t)
unfolding core_words
core_good c t small low = record {
  is = inr (inr (inl (
    refl,
    (
      number c small,
      (
        refl,
        (
          number t.slots low.slots,
          (
            refl,
            (number t.shared low.shared, (refl, (number t.idle low.idle, tt))),
          ),
        ),
      ),
    ),
  )));
  line = rw (
    decimal_word c small,
    decimal_word t.slots low.slots,
    decimal_word t.shared low.shared,
    decimal_word t.idle low.idle,
  ) refl;
}

-- a change's: the tick's word ends in a colon
front_words : ℕ → ℕ → Line → Line
front_words k tick told = codes "change" ∷ decimal k ∷ codes "at" ∷ (decimal tick ++ codes ":") ∷ told

outcome_words : List (List ℕ) → Outcome → Line
outcome_words names Planned = codes "planned" ∷ []
outcome_words names (NoPeriod v) = codes "no" ∷ codes "period" ∷ codes "for" ∷ name_at names v ∷ []
outcome_words names (NoRoom v) = codes "no" ∷ codes "room" ∷ codes "for" ∷ name_at names v ∷ []

-- which is a word
tick_word : (tick : ℕ) → tick < 2 ^ 64 → is_word (decimal tick ++ codes ":") ≡ true
tick_word tick low =
    let parts = and_parts (nat_lt 0 (length (decimal tick))) (list_all is_plain (decimal tick))
    (decimal_word tick low) in
    let size = length-append (decimal tick) (codes ":") in
    let some : nat_lt 0 (length (decimal tick ++ codes ":")) ≡ true = lt-ltb 0 _ (omega arith) in
    let all : list_all is_plain (decimal tick ++ codes ":") ≡ true =
    list_all-append is_plain (decimal tick) (codes ":") ∙ rw parts.1 refl in
    rw (some, all) refl

change_good : (names : List (List ℕ)) (k tick : ℕ) (outcome : Outcome) → AreNames names → k < 2 ^ 64
    → tick < 2 ^ 32 → NamesVcpuBelow (length names) outcome
    → IsGoodItem (front_words k tick (outcome_words names outcome))
unfolding front_words outcome_words
change_good names k tick Planned good small low named = record {
  is = inr (inr (inr (inl (refl, (number k small, (refl, (tt, (refl, tt))))))));
  line = rw (decimal_word k small, tick_word tick (omega arith)) refl;
}
change_good names k tick (NoPeriod v) good small low named = record {
  is = inr (inr (inr (inr (refl, (number k small, (refl, (tt, (refl, (tt, (refl, (good v named, tt)))))))))));
  line = rw (decimal_word k small, tick_word tick (omega arith), name_word (name_at names v) (good v named))
      refl;
}
change_good names k tick (NoRoom v) good small low named = record {
  is = inr (inr (inr (inr (refl, (number k small, (refl, (tt, (refl, (tt, (refl, (good v named, tt)))))))))));
  line = rw (decimal_word k small, tick_word tick (omega arith), name_word (name_at names v) (good v named))
      refl;
}

-- as it is written
change_written : (names : List (List ℕ)) (k tick : ℕ) (outcome : Outcome)
    → change_line names k tick outcome ≡ line_of (front_words k tick (outcome_words names outcome))
unfolding front_words outcome_words line_of_change line_of
change_written names k tick Planned = sym (simp append_assoc)
change_written names k tick (NoPeriod v) = simp append_assoc
change_written names k tick (NoRoom v) = simp append_assoc

-- ---- lines by number

-- the lines of the numbers below n
lines_below : (ℕ → Line) → ℕ → List Line
lines_below words zero = []
lines_below words (suc n) = lines_below words n ++ words n ∷ []

below_written : (text : ℕ → List ℕ) (words : ℕ → Line) (n : ℕ) → ((k : ℕ) → text k ≡ line_of (words k))
    → texts_below text n ≡ text_of (lines_below words n)
unfolding texts_below lines_below
below_written text words zero each = refl
below_written text words (suc n) each =
    ap (λ l. l ++ text n) (below_written text words n each)
    ∙ (ap (λ l. text_of (lines_below words n) ++ l) (each n ∙ sym (append-nil (line_of (words n))))
    ∙ sym (flat_map-append line_of (lines_below words n) (words n ∷ [])))

below_good : (words : ℕ → Line) (n : ℕ) → ((k : ℕ) → k < n → IsGoodItem (words k))
    → All IsGoodItem (lines_below words n)
unfolding lines_below
below_good words zero each = All-nil IsGoodItem
below_good words (suc n) each =
    All-append IsGoodItem (lines_below words n) (words n ∷ [])
    (below_good words n (λ k low. each k (omega arith)))
    (All-cons IsGoodItem (words n) [] (each n (omega arith)) (All-nil IsGoodItem))

-- ---- the report

-- the first line
pub run_words : ℕ → ℕ → ℕ → Line
run_words rounds cores events =
    codes "run" ∷ decimal rounds ∷ codes "rounds" ∷ decimal cores ∷ codes "cores"
    ∷ decimal events ∷ codes "events" ∷ []

pub run_fits : (rounds cores events : ℕ) → rounds < 2 ^ 64 → cores < 2 ^ 64 → events < 2 ^ 64
    → FitsForm (run_words rounds cores events) report_form × (is_line (run_words rounds cores events) ≡ true)
unfolding run_words
run_fits rounds cores events a b c = (
  (refl, (number rounds a, (refl, (number cores b, (refl, (number events c, (refl, tt))))))),
  rw (decimal_word rounds a, decimal_word cores b, decimal_word events c) refl,
)

-- the lines between the first and the last
changes_words : List (List ℕ) → List (ℕ × Outcome) → ℕ → Line
changes_words names changes k =
    (let change = slice_index_or changes k (0, Planned) in
    front_words k change.0 (outcome_words names change.1))

plans_words : List RoundPlan → List Line
plans_words [] = []
plans_words (r ∷ plans) = round_words r ∷ plans_words plans

pub item_lines : List (List ℕ) → ℕ → ℕ → List (ℕ × Outcome) → ReportView → List Line
item_lines names vcpus cores changes told =
    lines_below (changes_words names changes) (length changes)
    ++ (plans_words told.plans
    ++ (lines_below (λ v. vcpu_words (name_at names v) (vcpu_at told.vcpus v)) vcpus
    ++ lines_below (λ c. core_words c (core_ticks_at told.cores c)) cores))

plans_written : (plans : List RoundPlan) → flat_map round_line plans ≡ text_of (plans_words plans)
unfolding plans_words round_line round_words
plans_written [] = refl
plans_written (r ∷ plans) = ap (λ l. line_of (round_words r) ++ l) (plans_written plans)

plans_good : (plans : List RoundPlan) → All AreRoundNumbers plans → All IsGoodItem (plans_words plans)
unfolding plans_words
plans_good [] low = All-nil IsGoodItem
plans_good (r ∷ plans) low =
    All-cons IsGoodItem (round_words r) (plans_words plans)
    (round_good r (All-head AreRoundNumbers r plans low))
    (plans_good plans (All-tail AreRoundNumbers r plans low))

-- four lists of lines and a last one, part by part
in_parts : (first second third fourth : List Line) (last : Line)
    → text_of ((first ++ (second ++ (third ++ fourth))) ++ last ∷ [])
    ≡ text_of first ++ (text_of second ++ (text_of third ++ (text_of fourth ++ line_of last)))
in_parts first second third fourth last =
    flat_map-append line_of (first ++ (second ++ (third ++ fourth))) (last ∷ [])
    ∙ (ap (λ l. text_of (first ++ (second ++ (third ++ fourth))) ++ l) (append-nil (line_of last))
    ∙ (ap (λ l. l ++ line_of last) (flat_map-append line_of first (second ++ (third ++ fourth))
    ∙ ap (λ l. text_of first ++ l) (flat_map-append line_of second (third ++ fourth)
    ∙ ap (λ l. text_of second ++ l) (flat_map-append line_of third fourth)))
    ∙ simp append_assoc))

-- the report as it is written
pub report_written : (host : Host) (changes : List (ℕ × Outcome)) (events rounds : ℕ) (told : ReportView)
    → report_text host changes events rounds told
    ≡ text_of (run_words rounds host.cores events
    ∷ (item_lines (names_of host.vcpus) (length host.vcpus) host.cores changes told
    ++ (codes "done" ∷ []) ∷ []))
unfolding item_lines changes_words run_line run_words vcpu_line vcpu_words core_line core_words done_line
report_written host changes events rounds told =
    let names = names_of host.vcpus in
    let run = run_line rounds host.cores events in
    let first = lines_below (changes_words names changes) (length changes) in
    let second = plans_words told.plans in
    let third = lines_below (λ v. vcpu_words (name_at names v) (vcpu_at told.vcpus v)) (length host.vcpus) in
    let fourth = lines_below (λ c. core_words c (core_ticks_at told.cores c)) host.cores in
    let of_change = λ (k : ℕ). change_written names k (slice_index_or changes k (0, Planned)).0
    (slice_index_or changes k (0, Planned)).1 in
    let vcpus = texts_below (λ v. vcpu_line (name_at names v) (vcpu_at told.vcpus v)) (length host.vcpus) in
    let cores = texts_below (λ c. core_line c (core_ticks_at told.cores c)) host.cores in
    ap (λ l. run ++ (l ++ (flat_map round_line told.plans ++ (vcpus ++ (cores ++ done_line)))))
    (below_written (change_at names changes) (changes_words names changes) (length changes) of_change)
    ∙ (ap (λ l. run ++ (text_of first ++ (l ++ (vcpus ++ (cores ++ done_line))))) (plans_written told.plans)
    ∙ (ap (λ l. run ++ (text_of first ++ (text_of second ++ (l ++ (cores ++ done_line)))))
    (below_written (λ v. vcpu_line (name_at names v) (vcpu_at told.vcpus v))
    (λ v. vcpu_words (name_at names v) (vcpu_at told.vcpus v)) (length host.vcpus) (λ k. refl))
    ∙ (ap (λ l. run ++ (text_of first ++ (text_of second ++ (text_of third ++ (l ++ done_line)))))
    (below_written (λ c. core_line c (core_ticks_at told.cores c)) (λ c. core_words c (core_ticks_at told.cores c))
    host.cores
    (λ k. refl))
    ∙ ap (λ l. run ++ l) (sym (in_parts first second third fourth (codes "done" ∷ []))))))

-- its lines between the first and the last are good
pub items_good : (names : List (List ℕ)) (vcpus cores : ℕ) (changes : List (ℕ × Outcome)) (told : ReportView)
    → AreNames names → length names ≡ vcpus → cores < 2 ^ 64 → length changes < 2 ^ 64
    → All (IsChangeOf vcpus) changes → HasReportNumbers told → length told.vcpus ≡ vcpus → length told.cores ≡ cores
    → All IsGoodItem (item_lines names vcpus cores changes told)
unfolding item_lines changes_words
items_good names vcpus cores changes told good many few small changed low each_vcpu each_core =
    All-append IsGoodItem (lines_below (changes_words names changes) (length changes)) _
    (below_good (changes_words names changes) (length changes)
    (λ k less. let change = changed k (0, Planned) less in
    let of_change : ℕ × Outcome = slice_index_or changes k (0, Planned) in
    change_good names k of_change.0 of_change.1 good (omega arith) change.tick
    (subst (λ n. NamesVcpuBelow n of_change.1) (sym many) change.named)))
    (All-append IsGoodItem (plans_words told.plans) _ (plans_good told.plans low.plans)
    (All-append IsGoodItem (lines_below (λ v. vcpu_words (name_at names v) (vcpu_at told.vcpus v)) vcpus) _
    (below_good (λ v. vcpu_words (name_at names v) (vcpu_at told.vcpus v)) vcpus
    (λ v less. vcpu_good (name_at names v) (vcpu_at told.vcpus v) (good v (omega arith))
    (low.vcpus v no_vcpu_ticks (omega arith))))
    (below_good (λ c. core_words c (core_ticks_at told.cores c)) cores
    (λ c less. core_good c (core_ticks_at told.cores c) (omega arith) (low.cores c no_core_ticks (omega arith))))))
