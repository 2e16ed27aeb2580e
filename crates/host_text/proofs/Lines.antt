-- The text of a host is the lines of its expressions.
use Rattle.std.proofs.Common.{◌≡◌, ℕ, ◌+◌, ◌^◌, ◌<◌, ◌≤◌, Option, None, Some, pos, Bool, true, false, ◌==◌, List, [], ◌∷◌, ◌++◌, codes, decimal, flat_map, map, refl, sym, ap, ◌∙◌, arith, append-nil, IfSome}
use Rattle.std.proofs.lemmas.Bool.{and_parts}
use Rattle.std.proofs.lemmas.Bool.Decides.{nat_tests}
use Rattle.std.proofs.lemmas.Fmt.{decimal_digit}
use Rattle.std.proofs.lemmas.Int.{fits_signed_from_abs}
use Rattle.std.specs.Int.{w64}
use Rattle.std.specs.List.{list_all, list_any}
use Rattle.tab_core.specs.Name.{IsName, is_byte_of_name}
use Rattle.tab_core.specs.declared.TheConstants.{MAX_TICK_NS}
use Rattle.tab_core.specs.declared.host.Host.{Host}
use Rattle.tab_words.specs.Texts.{Line, line_of, text_of}
use Rattle.toml_writer.specs.Text.{escaped, encoding_of, has, is_control, key_text, needs_escape, quotes_after, string_text}
use Rattle.toml.specs.Data.{Data, string, integer, boolean}
use Rattle.toml.specs.Tables.{Expression, key_value}
use Rattle.toml.specs.Text.{IsLineText, IsLinesText, IsValueText}
use Rattle.toml.proofs.Lines.{IsLinesText-append}
use Rattle.host_gen.specs.HostText.{capped_lines, host_text, key_words, in_quotes, truth_word, vcpu_text, format_lines, named_tick, number_lines}
use Rattle.host_gen.proofs.HostTextLemmas.{key_line, if_named}
use Rattle.host_text.proofs.ByteLemmas.{name_bytes}
use Rattle.host_text.proofs.Statements.{AreNamed, Statement, capped_expressions, head_expressions, settings_expressions, settings_lines, vcpu_expressions, vcpu_of, vcpus_expressions, expressions_with, number_expressions}

-- ---- values

-- a byte of a name is written as it is
plain_byte : (c : ℕ) → is_byte_of_name c ≡ true → needs_escape false 0 c ≡ false
unfolding needs_escape
plain_byte c h = grind (arith, nat_tests)

-- no quote is before what follows a byte of a name
no_quotes : (c : ℕ) → is_byte_of_name c ≡ true → quotes_after false 0 c ≡ 0
unfolding quotes_after
no_quotes c h = grind (arith, nat_tests)

-- bytes of a name need no escape
plain_text : (s : List ℕ) → list_all is_byte_of_name s ≡ true → escaped false 0 s ≡ s
unfolding escaped
plain_text [] all = refl
plain_text (c ∷ cs) all =
    let (here, more) = and_parts (is_byte_of_name c) (list_all is_byte_of_name cs) all in
    rw (plain_byte c here, no_quotes c here, plain_text cs more)

-- none of them is a control character
no_control : (s : List ℕ) → list_all is_byte_of_name s ≡ true → list_any is_control s ≡ false
no_control [] all = refl
no_control (c ∷ cs) all =
    let (here, more) = and_parts (is_byte_of_name c) (list_all is_byte_of_name cs) all in
    let first : is_control c ≡ false = grind (arith, nat_tests) in
    rw (first, no_control cs more)

-- none of them is a byte that no name has
lacks : (b : ℕ) (s : List ℕ) → is_byte_of_name b ≡ false → list_all is_byte_of_name s ≡ true → has b s ≡ false
lacks b [] other all = refl
lacks b (c ∷ cs) other all =
    let (here, more) = and_parts (is_byte_of_name c) (list_all is_byte_of_name cs) all in
    let first : (c == b) ≡ false = grind (arith, nat_tests) in
    rw (first, lacks b cs other more)

-- a name is written between quotation marks as it is
pub name_text : (s : List ℕ) → IsName s → string_text s ≡ in_quotes s
unfolding string_text encoding_of
name_text s good =
    let all = name_bytes s good in
    rw (
      no_control s all,
      lacks 92 s refl all,
      lacks 34 s refl all,
      lacks 10 s refl all,
      plain_text s all,
    )

-- ---- lines

-- the line of a key and its value
pair_line : (started : Bool) (key value : List ℕ) (d : Data) → key_text key ≡ key
    → IsValueText false d value
    → IsLineText false started ([], key) (key_value d) (line_of (key_words key value))
pair_line started key value d bare is = (
  value,
  sym (append-nil (line_of (key_words key value)))
      ∙ key_line key value []
      ∙ ap (λ k. k ++ (codes " = " ++ (value ++ 10 ∷ []))) (sym bare),
  is,
)

-- the line of a number
number_line : (started : Bool) (key : List ℕ) (n : ℕ) → key_text key ≡ key → n < 2 ^ 63
    → IsLineText false started ([], key) (key_value (integer (pos n))) (line_of (key_words key (decimal n)))
number_line started key n bare low =
    pair_line started key (decimal n) (integer (pos n)) bare (refl, fits_signed_from_abs w64 (pos n) low)

-- the line of a truth value
truth_line : (started : Bool) (key : List ℕ) (truth : Bool) → key_text key ≡ key
    → IsLineText false started ([], key) (key_value (boolean truth))
    (line_of (key_words key (truth_word truth)))
truth_line started key true bare = pair_line started key (codes "true") (boolean true) bare refl
truth_line started key false bare = pair_line started key (codes "false") (boolean false) bare refl

-- the lines are those of the expressions
record AreLines (started : Bool) (es : List Expression) (lines : List Line) : Type 0 where
  text : IsLinesText false started es (text_of lines)

-- where there is none, there is none
no_line : AreLines true [] []
no_line = record { text = refl }

-- one more line
line_and : (started : Bool) (e : Expression) (es : List Expression) (line : Line) (lines : List Line)
    → IsLineText false started e.0 e.1 (line_of line) → AreLines true es lines
    → AreLines started (e ∷ es) (line ∷ lines)
line_and started e es line lines first more =
    record { text = (line_of line, text_of lines, refl, first, more.text) }

-- the line of the format
format_line : (format : ℕ) → format < 10
    → IsLineText false false ([], codes "format") (key_value (integer (pos format)))
    (line_of (key_words (codes "format") ((48 + format) ∷ [])))
unfolding key_text
format_line format low = pair_line false (codes "format") ((48 + format) ∷ []) (integer (pos format)) refl
    (sym (decimal_digit format low), fits_signed_from_abs w64 (pos format) (omega arith))

-- the lines of the host's numbers after its format and its tick
numbers_text : (host : Host) → AreLines true (number_expressions host) (number_lines host)
unfolding key_text
numbers_text host =
    line_and true _ _ _ _ (number_line true (codes "cores") host.cores refl (omega arith))
    (line_and true _ _ _ _ (number_line true (codes "lag") host.lag refl (omega arith))
    (line_and true _ _ _ _ (number_line true (codes "sliver") host.sliver refl (omega arith))
    (line_and true _ _ _ _ (number_line true (codes "quantum") host.quantum refl (omega arith)) no_line)))

-- those lines with their format, and with a tick where one is named
lines_with : (named : Option ℕ) (host : Host) → IfSome named (λ tick. tick ≤ MAX_TICK_NS)
    → AreLines false (expressions_with named host) (format_lines named ++ number_lines host)
unfolding key_text
lines_with None host low = line_and false _ _ _ _ (format_line 1 (omega arith)) (numbers_text host)
lines_with (Some tick) host low =
    line_and false _ _ _ _ (format_line 2 (omega arith))
    (line_and true _ _ _ _ (number_line true (codes "tick_ns") tick refl (omega arith)) (numbers_text host))

-- the line of a capped vCPU
capped_text : (capped : Bool) → AreLines true (capped_expressions capped) (capped_lines capped)
unfolding key_text
capped_text true = line_and true _ _ _ _ (truth_line true (codes "capped") true refl) no_line
capped_text false = no_line

-- the lines of an admitted vCPU after its header
settings_text : (s : Statement) → IsName s.name → AreLines true (settings_expressions s) (settings_lines s)
unfolding key_text
settings_text s good =
    line_and true _ _ _ _ (pair_line true (codes "name") (in_quotes s.name) (string s.name) refl
    (sym (name_text s.name good)))
    (line_and true _ _ _ _ (number_line true (codes "share_ppm") s.reservation.share_ppm refl (omega arith))
    (line_and true _ _ _ _
    (number_line true (codes "latency_ns") s.reservation.latency_ns refl (omega arith))
    (line_and true _ _ _ _ (truth_line true (codes "runnable") s.runnable refl) (capped_text s.capped))))

-- the lines of an admitted vCPU with its header
statement_text : (s : Statement) → IsName s.name
    → IsLinesText false true (vcpu_expressions s) (vcpu_text (vcpu_of s))
unfolding key_text vcpu_text line_of
statement_text s good =
    (codes "\n[[vcpu]]\n", text_of (settings_lines s), refl, refl, (settings_text s good).text)

-- those of all vCPUs
statements_text : (ss : List Statement) → AreNamed ss
    → IsLinesText false true (vcpus_expressions ss) (flat_map vcpu_text (map vcpu_of ss))
statements_text [] good = refl
statements_text (s ∷ ss) good =
    IsLinesText-append false true (vcpu_expressions s) (vcpus_expressions ss) _ _ (statement_text s good.0)
    (statements_text ss good.1)

-- all lines, with a tick where one is named
all_text : (named : Option ℕ) (host : Host) (ss : List Statement) → IfSome named (λ tick. tick ≤ MAX_TICK_NS)
    → AreNamed ss
    → IsLinesText false false (expressions_with named host ++ vcpus_expressions ss)
    (text_of (format_lines named ++ number_lines host) ++ flat_map vcpu_text (map vcpu_of ss))
all_text None host ss low good =
    IsLinesText-append false false (expressions_with None host) (vcpus_expressions ss) _ _
    (lines_with None host low).text (statements_text ss good)
all_text (Some tick) host ss low good =
    IsLinesText-append false false (expressions_with (Some tick) host) (vcpus_expressions ss) _ _
    (lines_with (Some tick) host low).text (statements_text ss good)

-- the text of a host is the lines of its expressions
pub host_lines : (host : Host) (ss : List Statement) → map vcpu_of ss ≡ host.vcpus
    → AreNamed ss
    → IsLinesText false false (head_expressions host ++ vcpus_expressions ss) (host_text host)
unfolding host_text
host_lines host ss are good =
    rw are at (all_text (named_tick host.tick_ns) host ss
    (if_named (λ tick. tick ≤ MAX_TICK_NS) host.tick_ns host.tick_at_most) good)
