-- The text of a host is ASCII, and so UTF-8.
use Rattle.std.proofs.Common.{◌≡◌, ℕ, ◌^◌, ◌<◌, ◌≤◌, Option, None, Some, Bool, true, false, nat_lt, List, [], ◌∷◌, ◌++◌, codes, decimal, flat_map, map, refl, sym, subst, arith, IfSome}
use Rattle.std.proofs.lemmas.Bool.{and_parts}
use Rattle.std.proofs.lemmas.Bool.Decides.{nat_tests}
use Rattle.std.proofs.lemmas.Fmt.{IsAscii-decimal}
use Rattle.std.proofs.lemmas.Str.{IsAscii-append}
use Rattle.std.proofs.lemmas.Str.Ascii.{IsAscii-cons, IsAscii-nil}
use Rattle.std.specs.List.{list_all}
use Rattle.std.specs.Str.{IsAscii}
use Rattle.tab_core.specs.declared.TheConstants.{MAX_TICK_NS}
use Rattle.tab_core.specs.Name.{IsName, is_byte_of_name}
use Rattle.tab_core.specs.declared.host.Host.{Host}
use Rattle.tab_words.specs.Texts.{line_of, text_of}
use Rattle.host_gen.specs.HostText.{capped_lines, head_lines, host_text, truth_word, vcpu_text, format_lines, named_tick, number_lines}
use Rattle.host_gen.proofs.HostTextLemmas.{vcpu_pieces, first_pieces, head_parts, if_named, number_pieces, second_pieces}
use Rattle.host_text.proofs.ByteLemmas.{name_bytes, weaker}
use Rattle.host_text.proofs.Statements.{AreNamed, Statement, vcpu_of}

-- a byte of ASCII
abbrev is_low : ℕ → Bool
is_low byte = nat_lt byte 128

-- such bytes, as those of a literal
literal : (bs : List ℕ) → list_all is_low bs ≡ true → IsAscii bs
literal [] all = IsAscii-nil
literal (b ∷ bs) all =
    let (here, more) = and_parts (is_low b) (list_all is_low bs) all in
    IsAscii-cons b bs (grind (arith, nat_tests)) (literal bs more)

-- a name
name : (bs : List ℕ) → IsName bs → IsAscii bs
name bs good =
    literal bs (weaker is_byte_of_name is_low (λ b h. grind (arith, nat_tests)) bs (name_bytes bs good))

-- a truth value
truth : (b : Bool) → IsAscii (truth_word b)
truth true = literal (codes "true") refl
truth false = literal (codes "false") refl

-- the line of a capped vCPU
capped : (b : Bool) → IsAscii (text_of (capped_lines b))
unfolding line_of
capped true = literal (codes "capped = true\n") refl
capped false = IsAscii-nil

-- a literal and a number, before other bytes
numbered : (bs : List ℕ) (n : ℕ) (rest : List ℕ) → list_all is_low bs ≡ true → n < 2 ^ 64
    → IsAscii rest → IsAscii (bs ++ (decimal n ++ rest))
numbered bs n rest all low more =
    IsAscii-append bs (decimal n ++ rest) (literal bs all)
    (IsAscii-append (decimal n) rest (IsAscii-decimal n low) more)

-- the lines of the format and of a named tick
format : (named : Option ℕ) → IfSome named (λ tick. tick ≤ MAX_TICK_NS)
    → IsAscii (text_of (format_lines named))
format None low = subst IsAscii (sym first_pieces) (literal (codes "format = 1\n") refl)
format (Some tick) low = subst IsAscii (sym (second_pieces tick))
    (numbered (codes "format = 2\ntick_ns = ") tick _ refl (omega arith) (literal (codes "\n") refl))

-- the lines of the host's other numbers
numbers : (host : Host) → IsAscii (text_of (number_lines host))
numbers host = subst IsAscii (sym (number_pieces host))
    (numbered (codes "cores = ") host.cores _ refl (omega arith)
    (numbered (codes "\nlag = ") host.lag _ refl (omega arith)
    (numbered (codes "\nsliver = ") host.sliver _ refl (omega arith)
    (numbered (codes "\nquantum = ") host.quantum _ refl (omega arith) (literal (codes "\n") refl)))))

-- all lines before the vCPUs'
head : (host : Host) → IsAscii (text_of (head_lines host))
head host = subst IsAscii (sym (head_parts host))
    (IsAscii-append (text_of (format_lines (named_tick host.tick_ns))) (text_of (number_lines host))
    (format (named_tick host.tick_ns)
    (if_named (λ tick. tick ≤ MAX_TICK_NS) host.tick_ns host.tick_at_most))
    (numbers host))

-- the lines of a vCPU
statement : (s : Statement) → IsName s.name → IsAscii (vcpu_text (vcpu_of s))
statement s good = subst IsAscii (sym (vcpu_pieces (vcpu_of s) s.reservation refl))
    (IsAscii-append (codes "\n[[vcpu]]\nname = \"") _ (literal (codes "\n[[vcpu]]\nname = \"") refl)
    (IsAscii-append s.name _ (name s.name good)
    (numbered (codes "\"\nshare_ppm = ") s.reservation.share_ppm _ refl (omega arith)
    (numbered (codes "\nlatency_ns = ") s.reservation.latency_ns _ refl (omega arith)
    (IsAscii-append (codes "\nrunnable = ") _ (literal (codes "\nrunnable = ") refl)
    (IsAscii-append (truth_word s.runnable) _ (truth s.runnable)
    (IsAscii-append (codes "\n") (text_of (capped_lines s.capped)) (literal (codes "\n") refl)
    (capped s.capped))))))))

-- those of all vCPUs
statements : (ss : List Statement) → AreNamed ss
    → IsAscii (flat_map vcpu_text (map vcpu_of ss))
statements [] good = IsAscii-nil
statements (s ∷ ss) good =
    IsAscii-append (vcpu_text (vcpu_of s)) (flat_map vcpu_text (map vcpu_of ss)) (statement s good.0)
    (statements ss good.1)

-- the whole text
pub host_ascii : (host : Host) (ss : List Statement) → map vcpu_of ss ≡ host.vcpus
    → AreNamed ss → IsAscii (host_text host)
unfolding host_text
host_ascii host ss are good =
    IsAscii-append (text_of (head_lines host)) (flat_map vcpu_text host.vcpus) (head host)
    (rw are at (statements ss good))
