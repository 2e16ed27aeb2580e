use Rattle.std.proofs.Common.{ap, arith, sym}
use Rattle.table_form.specs.declared.segment.Segment.{Segment}
use Rattle.table_form.proofs.Search.{owner_from}
use Rattle.stint_text.proofs.NearLemmas.{parts_here}
use Rattle.stint_text.proofs.first_owner.owner_near.Goals as goal

pub returns : goal.returns
returns c =
    let ss = c.args.segments.now in
    let tick = c.args.tick in
    let here = c.place_near-place.ensures in
    let s = c.index-segments-place.result in
    let same = sym (ap (λ (x : Segment). x.end) c.index-segments-place.is) in
    rw (c.vcpu.ensures, ← c.index-segments-place.is)
    (owner_from ss tick c.place_near-place.result tick s c.requires.rises here.inside
    c.index-segments-place.is (parts_here ss tick c.place_near-place.result c.requires.rises here)
    (omega arith) (rw (← same) (here.ends s)))
