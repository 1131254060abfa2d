use Rattle.std.proofs.Common.{get_or}
use Rattle.std.proofs.lemmas.Option.{slice_get-get_or}
use Rattle.run_ends.proofs.Lists.{below_length}
use Rattle.run_ends.proofs.Walking.{joins, one_link}
use Rattle.run_ends.proofs.settling.join.Goals as goal

pub gather-end-requires : goal.gather-end-requires
gather-end-requires g c =
    let nodes = c.args.nodes.now in
    let k = c.in_ok-k.k in
    let x = c.index-nodes-k.result in
    let there = c.in_ok-k.ensures in
    record {
      one_link = one_link nodes c.from.result c.to.result k (get_or nodes k x) c.give_sender.new.self (slice_get-get_or nodes k x (below_length nodes k there.0 there.1)) c.args.taker c.from.ensures
          c.to.ensures there c.in_ok-sender.sender g.K.RunName.run c.requires.named c.in_ok-sender.ensures.queue;
    }

pub returns : goal.returns
returns g c =
    let nodes = c.args.nodes.now in
    let k = c.in_ok-k.k in
    let x = c.index-nodes-k.result in
    let there = c.in_ok-k.ensures in
    let end = c.gather-end.ensures in
    joins nodes c.from.result c.to.result k (get_or nodes k x) c.give_sender.new.self (slice_get-get_or nodes k x (below_length nodes k there.0 there.1)) c.args.taker c.from.ensures c.to.ensures there
    c.in_ok-sender.sender c.in_ok-sender.ensures.given c.in_ok-sender.ensures.rest c.gather-end.result end.taken end.pushed end.front
