use Rattle.std.proofs.lemmas.List.Elements.{All-push}
use Rattle.size_fit.specs.Fits.{FitMore}
use Rattle.size_fit.specs.declared.fit.Room.{Room}
use Rattle.size_fit.proofs.MoreLemmas.{rooms_next}
use Rattle.size_fit.proofs.fit.rooms_of.Goals as goal

pub loop-size-preserved : goal.loop-size-preserved
loop-size-preserved c =
    let room : Room = record { size = c.size-item.result; more = c.in_ok-more.more } in
    rw c.in_ok-push.ensures.items (record {
      sizes = rooms_next c.args.sizes.now c.loop-size.size-index c.loop-size.rooms.items room c.loop-size-test.true
          c.size-item.is c.loop-size.invariant.sizes;
      more = All-push (λ room. FitMore c.args.no_split c.args.host.now room.size room.more) c.loop-size.rooms.items room
          c.loop-size.invariant.more c.in_ok-more.ensures;
    })
