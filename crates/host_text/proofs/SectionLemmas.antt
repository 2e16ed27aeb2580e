-- The text of a host is one section: no line of it is a separator.
use Rattle.std.proofs.Common.{◌≡◌, ℕ, ◌^◌, ◌<◌, ◌≤◌, Option, None, Some, Bool, true, false, not, ◌==◌, List, [], ◌∷◌, ◌++◌, codes, decimal, flat_map, length, map, nat_lt, refl, sym, ap, subst, ◌∙◌, arith, append_assoc, IfSome}
use Rattle.std.proofs.lemmas.Bool.{and_parts}
use Rattle.std.proofs.lemmas.Bool.Decides.{nat_tests}
use Rattle.std.proofs.lemmas.List.Folds.{list_all-append}
use Rattle.std.proofs.lemmas.List.Sums.{AllPass-from_list_all}
use Rattle.std.specs.List.{list_all}
use Rattle.tab_core.specs.Name.{IsName, is_byte_of_name}
use Rattle.tab_core.specs.declared.TheConstants.{MAX_TICK_NS}
use Rattle.tab_core.specs.declared.host.Host.{Host}
use Rattle.tab_words.specs.Lines.{raw_lines_of}
use Rattle.tab_words.specs.Sections.{is_separator, sections_of}
use Rattle.tab_words.proofs.LineLemmas.{raw_lines_of-line}
use Rattle.tab_words.specs.Texts.{Line, line_of, text_of}
use Rattle.tab_words.specs.Inside.Fronts.{sections_after}
use Rattle.tab_words.proofs.SectionLemmas.{sections_of-nil, sections_of-row}
use Rattle.tab_words.proofs.TextLemmas.{decimal_word, is_plain}
use Rattle.host_gen.specs.HostText.{capped_lines, head_lines, host_text, key_words, in_quotes, truth_word, vcpu_text, format_lines, named_tick, number_lines}
use Rattle.host_gen.proofs.HostTextLemmas.{key_line, if_named}
use Rattle.host_text.proofs.ByteLemmas.{name_bytes, weaker}
use Rattle.host_text.proofs.Statements.{AreNamed, Statement, settings_lines, vcpu_of}

-- ---- bytes without a line feed

-- a byte that ends no line
abbrev is_inside : ℕ → Bool
is_inside byte = not (byte == 10)

-- the digits of a number
digits_inside : (n : ℕ) → n < 2 ^ 64 → list_all is_inside (decimal n) ≡ true
digits_inside n low =
    weaker is_plain is_inside (λ b h. grind (arith, nat_tests)) (decimal n)
    (and_parts (nat_lt 0 (length (decimal n))) (list_all is_plain (decimal n)) (decimal_word n low)).1

-- a name between quotation marks
name_inside : (name : List ℕ) → IsName name → list_all is_inside (in_quotes name) ≡ true
name_inside name good =
    list_all-append is_inside name (34 ∷ [])
    ∙ rw (weaker is_byte_of_name is_inside (λ b h. grind (arith, nat_tests)) name (name_bytes name good))

-- a truth value
truth_inside : (truth : Bool) → list_all is_inside (truth_word truth) ≡ true
truth_inside true = refl
truth_inside false = refl

-- ---- lines

-- all bytes are one section
abbrev IsOneSection : List ℕ → Type 0
IsOneSection bytes = sections_of bytes ≡ bytes ∷ []

-- the first line ends with the first line feed
line_cut : (line rest : List ℕ) → list_all is_inside line ≡ true
    → raw_lines_of (line ++ 10 ∷ rest) ≡ (line ++ 10 ∷ []) ∷ raw_lines_of rest
line_cut line rest all = raw_lines_of-line line rest (λ k d low is.
    let inside = AllPass-from_list_all is_inside line all k d low in
    let feed : is_inside 10 ≡ true = ap is_inside (sym is) ∙ inside in absurd (cc))

-- a line that is no separator, before one section
line_more : (line rest : List ℕ) → list_all is_inside line ≡ true → is_separator (line ++ 10 ∷ []) ≡ false
    → IsOneSection rest → IsOneSection (line ++ 10 ∷ rest)
line_more line rest all other one =
    sections_of-row (line ++ 10 ∷ rest) (line ++ 10 ∷ []) rest (line_cut line rest all) other
    ∙ ap (sections_after (line ++ 10 ∷ [])) one
    ∙ ap (λ bytes. bytes ∷ []) (append_assoc line (10 ∷ []) rest)

-- the lines leave one section one, whatever it is
record KeepsSection (lines : List Line) : Type 0 where
  more : (rest : List ℕ) → IsOneSection rest → IsOneSection (text_of lines ++ rest)

-- where there is none
no_line : KeepsSection []
no_line = record { more = λ rest one. one }

-- one more line
line_and : (line : Line) (lines : List Line)
    → ((rest : List ℕ) → IsOneSection rest → IsOneSection (line_of line ++ rest)) → KeepsSection lines
    → KeepsSection (line ∷ lines)
line_and line lines first keeps = record {
  more = λ rest one.
      subst IsOneSection (sym (append_assoc (line_of line) (text_of lines) rest))
      (first (text_of lines ++ rest) (keeps.more rest one));
}

-- the line of a key and its value
pair_line : (key value : List ℕ) → list_all is_inside key ≡ true → list_all is_inside value ≡ true
    → is_separator ((key ++ (codes " = " ++ value)) ++ 10 ∷ []) ≡ false
    → (rest : List ℕ) → IsOneSection rest → IsOneSection (line_of (key_words key value) ++ rest)
pair_line key value of_key of_value other rest one =
    let line = key ++ (codes " = " ++ value) in
    let all : list_all is_inside line ≡ true =
    list_all-append is_inside key (codes " = " ++ value) ∙ rw (of_key, of_value) in
    let same : line_of (key_words key value) ++ rest ≡ line ++ 10 ∷ rest =
    key_line key value rest ∙ sym (append_assoc key (codes " = " ++ value) (10 ∷ rest)) in
    subst IsOneSection (sym same) (line_more line rest all other one)

-- the lines of the host's numbers after its format and its tick
numbers_keep : (host : Host) → KeepsSection (number_lines host)
numbers_keep host =
    line_and _ _
    (pair_line (codes "cores") (decimal host.cores) refl (digits_inside host.cores (omega arith)) refl)
    (line_and _ _
    (pair_line (codes "lag") (decimal host.lag) refl (digits_inside host.lag (omega arith)) refl)
    (line_and _ _
    (pair_line (codes "sliver") (decimal host.sliver) refl (digits_inside host.sliver (omega arith)) refl)
    (line_and _ _
    (pair_line (codes "quantum") (decimal host.quantum) refl (digits_inside host.quantum (omega arith)) refl)
    no_line)))

-- those lines with their format, and with a tick where one is named
lines_with : (named : Option ℕ) (host : Host) → IfSome named (λ tick. tick ≤ MAX_TICK_NS)
    → KeepsSection (format_lines named ++ number_lines host)
lines_with None host low =
    line_and _ _ (pair_line (codes "format") (codes "1") refl refl refl) (numbers_keep host)
lines_with (Some tick) host low =
    line_and _ _ (pair_line (codes "format") (codes "2") refl refl refl)
    (line_and _ _ (pair_line (codes "tick_ns") (decimal tick) refl (digits_inside tick (omega arith)) refl)
    (numbers_keep host))

-- all lines before the vCPUs'
head_keeps : (host : Host) → KeepsSection (head_lines host)
head_keeps host = lines_with (named_tick host.tick_ns) host
    (if_named (λ tick. tick ≤ MAX_TICK_NS) host.tick_ns host.tick_at_most)

-- the line of a capped vCPU
capped_keeps : (capped : Bool) → KeepsSection (capped_lines capped)
capped_keeps true = line_and _ _ (pair_line (codes "capped") (truth_word true) refl refl refl) no_line
capped_keeps false = no_line

-- the lines of an admitted vCPU after its header
settings_keep : (s : Statement) → IsName s.name → KeepsSection (settings_lines s)
settings_keep s good =
    let share = s.reservation.share_ppm in
    let latency = s.reservation.latency_ns in
    line_and _ _ (pair_line (codes "name") (in_quotes s.name) refl (name_inside s.name good) refl)
    (line_and _ _
    (pair_line (codes "share_ppm") (decimal share) refl (digits_inside share (omega arith)) refl)
    (line_and _ _
    (pair_line (codes "latency_ns") (decimal latency) refl (digits_inside latency (omega arith)) refl)
    (line_and _ _
    (pair_line (codes "runnable") (truth_word s.runnable) refl (truth_inside s.runnable) refl)
    (capped_keeps s.capped))))

-- the lines of an admitted vCPU with its header keep one section
statement_keeps : (s : Statement) → IsName s.name → (rest : List ℕ) → IsOneSection rest
    → IsOneSection (vcpu_text (vcpu_of s) ++ rest)
unfolding vcpu_text line_of
statement_keeps s good rest one =
    line_more [] _ refl refl
    (line_more (codes "[[vcpu]]") _ refl refl ((settings_keep s good).more rest one))

-- those of all vCPUs
statements_keep : (ss : List Statement) → AreNamed ss
    → IsOneSection (flat_map vcpu_text (map vcpu_of ss))
statements_keep [] good = sections_of-nil
statements_keep (s ∷ ss) good =
    statement_keeps s good.0 (flat_map vcpu_text (map vcpu_of ss)) (statements_keep ss good.1)

-- the whole text
pub host_section : (host : Host) (ss : List Statement) → map vcpu_of ss ≡ host.vcpus
    → AreNamed ss → sections_of (host_text host) ≡ host_text host ∷ []
unfolding host_text
host_section host ss are good =
    (head_keeps host).more (flat_map vcpu_text host.vcpus)
    (rw are at (statements_keep ss good))
