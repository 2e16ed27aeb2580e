-- The text of a host is short.
use Rattle.std.proofs.Common.{◌≡◌, ℕ, ◌+◌, ◌*◌, ◌≤◌, Bool, true, false, cond, List, [], ◌∷◌, flat_map, length, map, refl, ap, arith, length-append, Option, None, Some, IfSome}
use Rattle.std.proofs.lemmas.Bool.Decides.{nat_tests}
use Rattle.std.proofs.lemmas.Fmt.{length-decimal-le}
use Rattle.std.proofs.lemmas.List.{length-map}
use Rattle.std.proofs.lemmas.List.Sums.{sum_by-cons}
use Rattle.std.specs.List.{count_by}
use Rattle.tab_core.specs.Name.{IsName}
use Rattle.tab_core.specs.declared.TheConstants.{MAX_TICK_NS}
use Rattle.tab_core.specs.declared.host.Host.{Host}
use Rattle.tab_core.specs.declared.vcpu.Vcpu.{Vcpu}
use Rattle.tab_words.specs.Texts.{line_of, text_of}
use Rattle.host_gen.specs.HostText.{capped_lines, head_lines, host_text, truth_word, vcpu_text, format_lines, named_tick, number_lines}
use Rattle.host_gen.proofs.HostTextLemmas.{vcpu_pieces, first_pieces, head_parts, if_named, number_pieces, second_pieces}
use Rattle.host_text.proofs.Statements.{AreNamed, Statement, vcpu_of}

-- the lines of the format and of a named tick
format_size : (named : Option ℕ) → IfSome named (λ tick. tick ≤ MAX_TICK_NS)
    → length (text_of (format_lines named)) ≤ 30
format_size None low = rw first_pieces (omega arith)
format_size (Some tick) low =
    let size = length-decimal-le 4 tick (omega arith) (omega arith) (omega arith) in
    rw (second_pieces tick) (simp length-append (omega (arith, size)))

-- the lines of the host's other numbers
numbers_size : (host : Host) → length (text_of (number_lines host)) ≤ 70
numbers_size host =
    let cores = length-decimal-le 6 host.cores (omega arith) (omega arith) (omega arith) in
    let lag = length-decimal-le 6 host.lag (omega arith) (omega arith) (omega arith) in
    let sliver = length-decimal-le 6 host.sliver (omega arith) (omega arith) (omega arith) in
    let quantum = length-decimal-le 6 host.quantum (omega arith) (omega arith) (omega arith) in
    rw (number_pieces host) (simp length-append (omega (arith, cores, lag, sliver, quantum)))

-- all lines before the vCPUs'
head_size : (host : Host) → length (text_of (head_lines host)) ≤ 100
head_size host =
    let format = format_size (named_tick host.tick_ns)
    (if_named (λ tick. tick ≤ MAX_TICK_NS) host.tick_ns host.tick_at_most) in
    omega (
      arith,
      ap length (head_parts host),
      length-append (text_of (format_lines (named_tick host.tick_ns))) (text_of (number_lines host)),
      format,
      numbers_size host,
    )

-- a truth value
truth_size : (truth : Bool) → length (truth_word truth) ≤ 5
truth_size true = omega arith
truth_size false = omega arith

-- a vCPU that is capped, as a number
abbrev one : Vcpu → ℕ
one vcpu = cond vcpu.capped 1 0

-- the line of a capped vCPU
capped_size : (capped : Bool) → length (text_of (capped_lines capped)) ≡ 14 * cond capped 1 0
unfolding line_of
capped_size true = refl
capped_size false = refl

-- the lines of a vCPU
statement_size : (s : Statement) → IsName s.name
    → length (vcpu_text (vcpu_of s)) ≤ 120 + 14 * one (vcpu_of s)
statement_size s good =
    let name : length s.name ≤ 32 = grind (arith, nat_tests) in
    let share = length-decimal-le 7 s.reservation.share_ppm (omega arith) (omega arith) (omega arith) in
    let latency = length-decimal-le 13 s.reservation.latency_ns (omega arith) (omega arith) (omega arith) in
    let truth = truth_size s.runnable in
    rw (vcpu_pieces (vcpu_of s) s.reservation refl)
    (simp length-append (omega (arith, name, share, latency, truth, capped_size s.capped)))

-- those of all vCPUs
statements_size : (ss : List Statement) → AreNamed ss
    → length (flat_map vcpu_text (map vcpu_of ss))
    ≤ 120 * length ss + 14 * count_by (λ vcpu. vcpu.capped) (map vcpu_of ss)
statements_size [] good = omega arith
statements_size (s ∷ ss) good =
    omega (
      arith,
      length-append (vcpu_text (vcpu_of s)) (flat_map vcpu_text (map vcpu_of ss)),
      statement_size s good.0,
      statements_size ss good.1,
      sum_by-cons one (vcpu_of s) (map vcpu_of ss),
    )

-- the whole text
pub host_size : (host : Host) (ss : List Statement) → map vcpu_of ss ≡ host.vcpus
    → AreNamed ss → length (host_text host)
    ≤ 100 + 120 * length host.vcpus + 14 * count_by (λ vcpu. vcpu.capped) host.vcpus
unfolding host_text
host_size host ss are good =
    let vcpus : length (flat_map vcpu_text host.vcpus)
    ≤ 120 * length ss + 14 * count_by (λ (vcpu : Vcpu). vcpu.capped) host.vcpus =
    rw are at (statements_size ss good) in
    omega (
      arith,
      length-append (text_of (head_lines host)) (flat_map vcpu_text host.vcpus),
      head_size host,
      vcpus,
      length-map ss vcpu_of,
      ap length are,
    )
