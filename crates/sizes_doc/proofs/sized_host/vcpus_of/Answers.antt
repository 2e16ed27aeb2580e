use Rattle.std.proofs.Common.{◌≡◌, ◌≤◌, ◌<◌, ◌+◌, ◌*◌, ◌⊎◌, ◌++◌, inr, length, take, rules, sym, subst, ap, ◌∙◌, length-append, arith}
use Rattle.std.proofs.lemmas.List.{take_all}
use Rattle.std.proofs.lemmas.Result.{err_from_is_err_and}
use Rattle.tab_core.specs.declared.TheConstants.{MAX_VCPUS}
use Rattle.sizes_doc.specs.SizedHost.{HasBadName, HasSizesFault, HasTooMany, size_vcpus, sizes_vcpus}
use Rattle.sizes_doc.specs.declared.fault.SizesFault.{SizesFault}
use Rattle.sizes_doc.specs.declared.fault.SizesFault.TheVariants.{BadName, NoMemory}
use Rattle.sizes_doc.proofs.SizedLemmas.{bad_at, length-size, parted, size_more}
use Rattle.sizes_doc.proofs.sized_host.vcpus_of.Goals as goal

pub returns-then-len-size-clause-fault : goal.returns-then-len-size-clause-fault
returns-then-len-size-clause-fault c =
    let size = c.size-item.result in
    let are : length c.loop-size.vcpus.items ≡ length (sizes_vcpus (take c.loop-size.size-index c.args.sizes.now)) =
    ap length c.loop-size.invariant.are in
    let more : MAX_VCPUS < length c.loop-size.vcpus.items + size.machines * size.vcpus = search rules in
    inr (HasTooMany (take c.loop-size.size-index c.args.sizes.now) size _
    (parted c.args.sizes.now c.loop-size.size-index size c.loop-size-test.true c.size-item.is)
    (omega (arith, are, c.loop-size.invariant.few)) (omega (arith, are, more)))

pub returns-in_err-push_size-clause-fault : goal.returns-in_err-push_size-clause-fault
returns-in_err-push_size-clause-fault c =
    let size = c.size-item.result in
    let p = err_from_is_err_and c.from_residual.result c.from_residual.ensures.1 in
    let cause : (c.in_err-push_size.field-0.0 ≡ NoMemory)
    ⊎ ((c.in_err-push_size.field-0.0 ≡ BadName size.line) × HasBadName size) = c.in_err-push_size.ensures.fault in
    let due = bad_at c.args.sizes.now c.loop-size.size-index size c.in_err-push_size.field-0.0 c.loop-size-test.true
    c.size-item.is cause in
    rw p.1 (subst (λ (fault : SizesFault). (fault ≡ NoMemory) ⊎ HasSizesFault c.args.sizes.now fault) (sym p.2) due)

pub loop-size-preserved : goal.loop-size-preserved
loop-size-preserved c =
    let size = c.size-item.result in
    let made : c.push_size.new.vcpus.items ≡ c.loop-size.vcpus.items ++ size_vcpus size =
    c.in_ok-push_size.ensures.ok in
    let few : length c.loop-size.vcpus.items + size.machines * size.vcpus ≤ MAX_VCPUS = search rules in
    record {
      are = made ∙ size_more c.args.sizes.now c.loop-size.size-index size c.loop-size.vcpus.items
          c.loop-size-test.true c.size-item.is c.loop-size.invariant.are;
      few = omega (
        arith,
        ap length made,
        length-append c.loop-size.vcpus.items (size_vcpus size),
        length-size size,
        few,
      );
    }

pub returns-clause-vcpus : goal.returns-clause-vcpus
returns-clause-vcpus c =
    let whole : take c.loop-size.size-index c.args.sizes.now ≡ c.args.sizes.now =
    take_all c.loop-size.size-index c.args.sizes.now (omega arith) in
    c.loop-size.invariant.are ∙ ap sizes_vcpus whole
