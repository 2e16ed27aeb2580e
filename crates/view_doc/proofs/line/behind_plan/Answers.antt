use Rattle.std.proofs.Common.{◌≡◌, [], decimal, arith}
use Rattle.std.proofs.lemmas.Fmt.{decimal_injective}
use Rattle.view_doc.proofs.line.behind_plan.Goals as goal
use Rattle.view_doc.proofs.line.behind_plan.Goals.{else-cores-ge1-via-then-cores-ge1+then-cores-le-MAX_CORES+else-vcpus-le-MAX_VCPUS, else-cores-ge1-via-then-cores-ge1+else-cores-le-MAX_CORES, else-cores-ge1-via-else-cores-ge1}

pub returns-in_err-vcpus : goal.returns-in_err-vcpus
returns-in_err-vcpus c = rw c.from_residual-in_err-vcpus.ensures
    (λ m k some few low is. c.in_err-vcpus.ensures k [] (omega arith)
    (cc (c.in_ok-take_word.ensures, c.in_ok-cores.ensures.1, c.in_ok-take_word-2.ensures)))

pub returns-else-cores-ge1 : goal.returns-else-cores-ge1
returns-else-cores-ge1 c = λ m k some few low is.
    let cores : decimal m ≡ decimal c.in_ok-cores.cores =
    cc (c.in_ok-take_word.ensures, c.in_ok-cores.ensures.1) in
    let vcpus : decimal k ≡ decimal c.in_ok-vcpus.vcpus =
    cc (c.in_ok-take_word.ensures, c.in_ok-cores.ensures.1, c.in_ok-take_word-2.ensures, c.in_ok-vcpus.ensures.1) in
    let same : m ≡ c.in_ok-cores.cores = decimal_injective m c.in_ok-cores.cores (omega arith) (omega arith) cores in
    let many : k ≡ c.in_ok-vcpus.vcpus = decimal_injective k c.in_ok-vcpus.vcpus (omega arith) (omega arith) vcpus in
    elim c.else-cores-ge1.branch [
      | else-cores-ge1-via-then-cores-ge1+then-cores-le-MAX_CORES+else-vcpus-le-MAX_VCPUS w ↦ omega arith
      | else-cores-ge1-via-then-cores-ge1+else-cores-le-MAX_CORES w ↦ omega arith
      | else-cores-ge1-via-else-cores-ge1 w ↦ omega arith
    ]
