-- What may follow in an old text, line by line.
use Rattle.std.proofs.Common.{◌≡◌, ◌≢◌, inl, inr, ℕ, ◌+◌, List, [], ◌∷◌, decimal, refl, sym, ap, ◌∙◌, subst, lit<}
use Rattle.std.proofs.lemmas.Fmt.{decimal_injective}
use Rattle.tab_words.specs.Texts.{Line}
use Rattle.plan_text.specs.FirstBad.{BeginsText, IsFirstBadFor}
use Rattle.plan_text.specs.Inside.OldReading.{AreSomeOldVcpus, IsEnd, IsRowLine, IsSomeHomeLine, StartsOtherwise}
use Rattle.plan_text.specs.Inside.Reading.{IsOtherLine}
use Rattle.plan_text.specs.OldText.{AreOldRows, AreOldVcpus, IsHomeLine, IsOldHead, IsOldText, IsSomeOldText, NamedHome}
use Rattle.plan_text.specs.PlanLines.{end_words, head_words}
use Rattle.plan_text.proofs.FirstBadLemmas.{bad_behind, bad_of_both, first_is_bad}

-- ---- lines that differ

row_is_no_end : (line : Line) → IsRowLine line → line ≡ end_words → ⊥
row_is_no_end line (inl core) is = absurd (let words = core.words in cc)
row_is_no_end line (inr segment) is = absurd (let words = segment.words in cc)

home_is_no_end : (line : Line) (vcpu : NamedHome) → IsHomeLine line vcpu → line ≡ end_words → ⊥
home_is_no_end line vcpu home is = absurd (let words = home.words in cc)

home_is_no_row : (line : Line) (vcpu : NamedHome) → IsHomeLine line vcpu → IsRowLine line → ⊥
home_is_no_row line vcpu home (inl core) = absurd (let words = home.words in let other = core.words in cc)
home_is_no_row line vcpu home (inr segment) = absurd (let words = home.words in let other = segment.words in cc)

-- ---- the end

-- no end where it is due
pub no_end_here : (first : ℕ) (lines : List Line) → IsOtherLine end_words lines
    → IsFirstBadFor IsEnd first lines first
no_end_here first lines other = first_is_bad IsEnd first lines (record { rest = end_words ∷ []; text = refl })
    (λ line back at rest end. other back (let same : line ≡ end_words = cc in at ∙ ap (λ l. l ∷ back) same))
    (λ at end. absurd (cc))

-- a line after the end
pub more_behind_end : (first second : ℕ) (lines behind : List Line) → lines ≡ end_words ∷ behind
    → second ≡ first + 1 → behind ≢ [] → IsFirstBadFor IsEnd first lines second
more_behind_end first second lines behind written next some =
    rw written (bad_behind IsEnd (λ ls. ls ≡ []) first end_words behind second
    (λ rest none. ap (λ ls. end_words ∷ ls) none) (λ rest end. cc)
    (rw next (first_is_bad (λ ls. ls ≡ []) (first + 1) behind (record { rest = []; text = refl })
    (λ line back at rest none. absurd (cc)) (λ at none. some at))))

-- ---- lines of cores

rows_go : (line : Line) (lines : List Line) → IsRowLine line → AreOldRows (line ∷ lines) → AreOldRows lines
rows_go line lines is (inl more) = more.1
rows_go line lines is (inr last) = absurd (row_is_no_end line is last.0)

-- the line of a core before others
pub rows_back : (line : Line) (all lines : List Line) → IsRowLine line → all ≡ line ∷ lines → AreOldRows lines
    → AreOldRows all
rows_back line all lines is written rows = subst AreOldRows (sym written) (inl (is, rows))

-- the first bad line after a core's
pub bad_behind_row_line : (first number bad : ℕ) (line : Line) (all lines : List Line) → IsRowLine line
    → all ≡ line ∷ lines → number ≡ first + 1 → IsFirstBadFor AreOldRows number lines bad
    → IsFirstBadFor AreOldRows first all bad
bad_behind_row_line first number bad line all lines is written next bad_there =
    subst (λ ls. IsFirstBadFor AreOldRows first ls bad) (sym written)
    (bad_behind AreOldRows AreOldRows first line lines bad
    (λ rest rows. inl (is, rows))
    (λ rest rows. rows_go line rest is rows)
    (subst (λ n. IsFirstBadFor AreOldRows n lines bad) next bad_there))

end_is_rows : (lines : List Line) → IsEnd lines → AreOldRows lines
end_is_rows lines end = subst AreOldRows (sym end) (inr (refl, refl))

-- of rows without a line of a core there is the end alone
rows_end : (line : Line) (more : List Line) → (IsRowLine line → ⊥) → AreOldRows (line ∷ more) → IsEnd (line ∷ more)
rows_end line more none (inl rows) = absurd (none rows.0)
rows_end line more none (inr last) = let first = last.0 in let rest = last.1 in cc

pub bad_behind_rows : (first bad : ℕ) (lines : List Line) → StartsOtherwise IsRowLine lines
    → IsFirstBadFor IsEnd first lines bad → IsFirstBadFor AreOldRows first lines bad
bad_behind_rows first bad lines none is = bad_of_both AreOldRows IsEnd first lines bad end_is_rows
    (λ line rest more at rows. rows_end line more (none line rest at) rows)
    (λ at rows. absurd rows) is

-- the end after them
pub rows_at_end : (lines : List Line) → lines ≡ end_words ∷ [] → AreOldRows lines
rows_at_end = end_is_rows

-- ---- lines of vCPUs

vcpus_go : (line : Line) (lines : List Line) (vcpu : NamedHome) → IsHomeLine line vcpu
    → (vcpus : List NamedHome) → AreOldVcpus vcpus (line ∷ lines) → AreSomeOldVcpus lines
vcpus_go line lines vcpu is [] (inl rows) = absurd (home_is_no_row line vcpu is rows.0)
vcpus_go line lines vcpu is [] (inr last) = absurd (home_is_no_end line vcpu is last.0)
vcpus_go line lines vcpu is (first ∷ vcpus) are = (vcpus, are.1)

-- the line of a vCPU before those of others
pub vcpus_back : (line : Line) (all lines : List Line) (vcpu : NamedHome) (vcpus : List NamedHome)
    → IsHomeLine line vcpu → all ≡ line ∷ lines → AreOldVcpus vcpus lines → AreOldVcpus (vcpu ∷ vcpus) all
vcpus_back line all lines vcpu vcpus is written are =
    subst (AreOldVcpus (vcpu ∷ vcpus)) (sym written) (is, are)

-- the first bad line after a vCPU's
pub bad_behind_home_line : (first number bad : ℕ) (line : Line) (all lines : List Line) (vcpu : NamedHome)
    → IsHomeLine line vcpu → all ≡ line ∷ lines → number ≡ first + 1
    → IsFirstBadFor AreSomeOldVcpus number lines bad → IsFirstBadFor AreSomeOldVcpus first all bad
bad_behind_home_line first number bad line all lines vcpu is written next bad_there =
    subst (λ ls. IsFirstBadFor AreSomeOldVcpus first ls bad) (sym written)
    (bad_behind AreSomeOldVcpus AreSomeOldVcpus first line lines bad
    (λ rest some. (vcpu ∷ some.0, (is, some.1)))
    (λ rest some. vcpus_go line rest vcpu is some.0 some.1)
    (subst (λ n. IsFirstBadFor AreSomeOldVcpus n lines bad) next bad_there))

no_vcpus : (line : Line) (more : List Line) → (IsSomeHomeLine line → ⊥) → (vcpus : List NamedHome)
    → AreOldVcpus vcpus (line ∷ more) → AreOldRows (line ∷ more)
no_vcpus line more none [] are = are
no_vcpus line more none (vcpu ∷ vcpus) are = absurd (none (vcpu, are.0))

no_lines : (vcpus : List NamedHome) → AreOldVcpus vcpus [] → ⊥
no_lines [] are = are
no_lines (vcpu ∷ vcpus) are = are

-- after the last vCPU's line there are those of cores
pub bad_behind_homes : (first bad : ℕ) (lines : List Line) → StartsOtherwise IsSomeHomeLine lines
    → IsFirstBadFor AreOldRows first lines bad → IsFirstBadFor AreSomeOldVcpus first lines bad
bad_behind_homes first bad lines none is = bad_of_both AreSomeOldVcpus AreOldRows first lines bad
    (λ some rows. ([], rows))
    (λ line rest more at some. no_vcpus line more (none line rest at) some.0 some.1)
    (λ at some. absurd (no_lines some.0 some.1)) is

-- ---- the first line

text_begun : BeginsText IsSomeOldText []
text_begun = record {
  rest = head_words 0 0 ∷ end_words ∷ [];
  text = (
    [],
    (
      record { cores = 0; admitted = 0; cores_small = lit< tt; admitted_small = lit< tt; words = refl },
      inr (refl, refl),
    ),
  );
}

-- no text begins so
pub old_head_is_bad : (lines : List Line)
    → StartsOtherwise IsOldHead lines → IsFirstBadFor IsSomeOldText 1 lines 1
old_head_is_bad lines none = first_is_bad IsSomeOldText 1 lines text_begun
    (λ line back at rest text. none line back at text.1.0) (λ at text. absurd text.1)

-- the first bad line after the first one
pub bad_behind_old_head : (bad : ℕ) (head : Line) (all lines : List Line) → IsOldHead head → all ≡ head ∷ lines
    → IsFirstBadFor AreSomeOldVcpus 2 lines bad → IsFirstBadFor IsSomeOldText 1 all bad
bad_behind_old_head bad head all lines is written bad_there =
    subst (λ ls. IsFirstBadFor IsSomeOldText 1 ls bad) (sym written)
    (bad_behind IsSomeOldText AreSomeOldVcpus 1 head lines bad
    (λ rest some. (some.0, (is, some.1))) (λ rest text. (text.0, text.1.1)) bad_there)

-- ---- one meaning

-- the line of a vCPU gives one name and one home
one_home : (line : Line) (a b : NamedHome) → IsHomeLine line a → IsHomeLine line b → a ≡ b
one_home line a b of_a of_b =
    let same = sym of_a.words ∙ of_b.words in
    let name : a.name ≡ b.name = cc in
    let spelled : decimal a.home ≡ decimal b.home = cc in
    let home : a.home ≡ b.home = decimal_injective a.home b.home of_a.home_small of_b.home_small spelled in
    let made : List ℕ → ℕ → NamedHome = λ n h. record { name = n; home = h } in
    ap (λ n. made n a.home) name ∙ ap (λ h. made b.name h) home

one_vcpus : (a b : List NamedHome) (lines : List Line) → AreOldVcpus a lines → AreOldVcpus b lines → a ≡ b
one_vcpus [] [] lines of_a of_b = refl
one_vcpus [] (v ∷ b) [] of_a of_b = absurd of_b
one_vcpus [] (v ∷ b) (line ∷ lines) (inl rows) of_b = absurd (home_is_no_row line v of_b.0 rows.0)
one_vcpus [] (v ∷ b) (line ∷ lines) (inr last) of_b = absurd (home_is_no_end line v of_b.0 last.0)
one_vcpus (v ∷ a) [] [] of_a of_b = absurd of_a
one_vcpus (v ∷ a) [] (line ∷ lines) of_a (inl rows) = absurd (home_is_no_row line v of_a.0 rows.0)
one_vcpus (v ∷ a) [] (line ∷ lines) of_a (inr last) = absurd (home_is_no_end line v of_a.0 last.0)
one_vcpus (v ∷ a) (w ∷ b) [] of_a of_b = absurd of_a
one_vcpus (v ∷ a) (w ∷ b) (line ∷ lines) of_a of_b =
    let first = one_home line v w of_a.0 of_b.0 in
    let rest = one_vcpus a b lines of_a.1 of_b.1 in
    cc

-- a text has one list of vCPUs
pub one_old_text : (a b : List NamedHome) (lines : List Line) → IsOldText a lines → IsOldText b lines → a ≡ b
one_old_text a b [] of_a of_b = absurd of_a
one_old_text a b (head ∷ lines) of_a of_b = one_vcpus a b lines of_a.1 of_b.1
