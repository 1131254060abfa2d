-- The ends of a node's links, and those that it gives away.
use Rattle.std.proofs.Common.{◌≡◌, ℕ, List, get_or, remove, slice_get, length, Some, refl, ap, subst, sym, ◌∙◌}
use Rattle.std.proofs.lemmas.Option.{same_Some, slice_get_read}
use Rattle.seata_types.specs.declared.ids.Place.{Place}
use Rattle.durable_records.specs.Members.{In}
use Rattle.history_rules.specs.Nodes.{Past}
use Rattle.link_queue.specs.Links.{Sending, Taking}
use Rattle.node_steps.specs.Nodes.{NodeState}
use Rattle.node_seat.specs.Naming.{Run}
use Rattle.node_seat.specs.Running.{IsRunning}
use Rattle.node_seat.specs.Seating.{Seated}
use Rattle.run_ends.specs.Ending.{Ending, GivesSender, HasLinks, LosesSenders, SendsThere, TakeAt, ending_of}
use Rattle.run_ends.proofs.Lists.{below_length, in_place, in_remove, place_in}

-- what the seat of a node of a run leaves has the ends of its links
pub has_links : {N : Type 0} (node : NodeState) (past : Past) (run : Run) (s : Seated N) → IsRunning node past run s → (e : Ending) → e ≡ ending_of node.place s → HasLinks run e
has_links node past run s is e same = subst (HasLinks run) (sym same) (record {
  takes = λ t h. let k = in_place s.takers t h in is.of_run.to_here k.0 t k.1;
  sends = λ x h. let k = in_place s.senders x h in is.of_run.from_here k.0 x k.1;
})

-- its ends that take
pub taken_links : (run : Run) (e old : Ending) → HasLinks run e → e ≡ old → (takers : List Taking) → takers ≡ e.takers → TakeAt run old.place takers
taken_links run e old has same takers are =
    subst (TakeAt run old.place) (sym are) (subst (λ (p : Place). TakeAt run p e.takers) (ap (λ (x : Ending). x.place) same) has.takes)

-- the end that stands somewhere among those that send is given away
module _ (run : Run) (e old : Ending) (has : HasLinks run e) (same : e ≡ old) (slice : List Sending) (all : slice ≡ e.senders) (to : Place) (k : ℕ) (there : SendsThere to slice k) (sender : Sending)
    (is : sender ≡ get_or e.senders k sender) (rest : List Sending) (left : rest ≡ remove e.senders k) where
  at : slice_get e.senders k ≡ Some there.0
  at = subst (λ (l : List Sending). slice_get l k ≡ Some there.0) all there.1

  one : slice_get e.senders k ≡ Some sender
  one = slice_get_read e.senders (length e.senders) k sender refl (below_length e.senders k there.0 at) is

  mine : In sender e.senders
  mine = place_in e.senders k sender one

  to_is : sender.line.to ≡ to
  to_is = ap (λ (s : Sending). s.line.to) (same_Some sender there.0 (sym one ∙ at)) ∙ there.2

  others : (s : Sending) → In s rest → In s e.senders
  others s h = in_remove e.senders k s (subst (λ (l : List Sending). In s l) left h)

  before : (s : Sending) → In s e.senders → In s old.senders
  before s h = subst (λ (x : Ending). In s x.senders) same h

  pub gives : GivesSender to old.senders rest sender
  gives = record { there = before sender mine; to_is = to_is; rest = λ s h. before s (others s h) }

  pub gives_named : sender.line.queue ≡ run.queue old.place to
  gives_named = (has.sends sender mine).1 ∙ ap (run.queue e.place) to_is ∙ ap (λ (x : Ending). run.queue x.place to) same

  pub loses : LosesSenders old (record e { senders = rest })
  loses = record { same = ap (λ (x : Ending). record x { senders = rest }) same; rest = λ s h. before s (others s h) }

  pub still_has : HasLinks run (record e { senders = rest })
  still_has = record { takes = has.takes; sends = λ s h. has.sends s (others s h) }
