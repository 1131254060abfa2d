use Rattle.std.proofs.Common.{ap, ◌≡◌, ◌∙◌, ◌<◌, sym, length, arith, subst, List, set, true, false}
use Rattle.std.proofs.lemmas.Option.{same_Some}
use Rattle.history_rules.specs.Histories.{same_place}
use Rattle.link_queue.specs.Links.{Sending}
use Rattle.node_seat.specs.Ends.{HaveOffered, GoApart, WasOffered}
use Rattle.node_seat.proofs.Changed.{got, none_offered, offered_set, passed, below_length}
use Rattle.node_seat.proofs.offering.offer_among.Goals as goal

pub returns-then-is_same : goal.returns-then-is_same
returns-then-is_same g c =
    let below : c.loop-k.k < length c.loop-k.senders = search arith in
    let first = c.index-senders-k.result in
    let second = c.index-senders-k-then-is_same.result in
    let here = got c.loop-k.senders c.loop-k.k first below c.index-senders-k.is in
    let there = got c.loop-k.senders c.loop-k.k second below c.index-senders-k-then-is_same.is in
    let to_is : c.to.result ≡ first.line.to = c.to.ensures ∙ ap (λ (s : Sending). s.line.to) (sym c.index-senders-k.is) in
    let meant : same_place first.line.to c.args.to ≡ true = ap (λ p. same_place p c.args.to) (sym to_is) ∙ (sym c.is_same.ensures ∙ c.if-is_same.true) in
    let meant' : same_place second.line.to c.args.to ≡ true = ap (λ (s : Sending). same_place s.line.to c.args.to) (same_Some second first (sym there ∙ here)) ∙ meant in
    subst (λ (ss : List Sending). HaveOffered c.args.to c.args.packet ss (set c.loop-k.senders c.loop-k.k c.hand_over.new.sender)) c.loop-k.invariant.0
    (offered_set c.args.to c.args.packet c.loop-k.senders c.loop-k.k second c.hand_over.new.sender there meant' (subst GoApart (sym c.loop-k.invariant.0) c.requires.apart)
    (subst (λ (s : Sending). WasOffered c.args.packet s c.hand_over.new.sender) (sym c.index-senders-k-then-is_same.is) c.hand_over.ensures))

pub loop-k-preserved : goal.loop-k-preserved
loop-k-preserved g c =
    let below : c.loop-k.k < length c.loop-k.senders = search arith in
    let first = c.index-senders-k.result in
    let to_is : c.to.result ≡ first.line.to = c.to.ensures ∙ ap (λ (s : Sending). s.line.to) (sym c.index-senders-k.is) in
    let away : same_place first.line.to c.args.to ≡ false = ap (λ p. same_place p c.args.to) (sym to_is) ∙ (sym c.is_same.ensures ∙ c.if-is_same.false) in
    (c.loop-k.invariant.0, passed c.args.to c.loop-k.senders c.loop-k.k first (got _ _ _ below c.index-senders-k.is) away c.loop-k.invariant.1)

pub returns : goal.returns
returns g c =
    subst (λ (ss : List Sending). HaveOffered c.args.to c.args.packet ss c.loop-k.senders) c.loop-k.invariant.0
    (none_offered c.args.to c.args.packet c.loop-k.senders (λ j t at. let below = below_length c.loop-k.senders j t at in c.loop-k.invariant.1 j t (search arith) at))
