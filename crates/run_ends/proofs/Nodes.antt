-- Nodes at their ends with their moments.
use Rattle.std.proofs.Common.{◌≡◌, inl, inr, ℕ, List, [], ◌∷◌, Option, Some, None, refl, ap, sym, subst, ◌∙◌}
use Rattle.std.proofs.lemmas.List.{append-nil}
use Rattle.seata_types.specs.declared.ids.Place.{Place}
use Rattle.durable_records.specs.Members.{In}
use Rattle.frame_codec.specs.Packets.{Sent}
use Rattle.history_rules.specs.CoordinatorMemory.{start}
use Rattle.history_rules.specs.Nodes.{Role, World, Past, role_at}
use Rattle.history_rules.specs.Histories.{Moment, own}
use Rattle.trace_rules.specs.Traces.{Alone, at}
use Rattle.trace_rules.specs.Links.{IsFront, Went, Within, received, sent_to}
use Rattle.trace_rules.specs.Stops.{HasBegun, NodeStop, RunsAlone}
use Rattle.trace_rules.specs.Settling.{EndedNode, Fits, LinkAt, history_of}
use Rattle.trace_rules.proofs.LinkOrder.{went-within}
use Rattle.node_steps.specs.Nodes.{IsLawful, NodeState, place_of}
use Rattle.history_text.specs.declared.entries.Entry.{Entry}
use Rattle.node_seat.specs.Keeping.{Keeps}
use Rattle.node_seat.specs.Naming.{Run}
use Rattle.node_seat.specs.Running.{HeardAll, IsRunning, KeepsRun, PushedAll, TookLast}
use Rattle.node_seat.specs.Seating.{Seated}
use Rattle.node_seat.specs.declared.faults.RunFault.{RunFault}
use Rattle.node_seat.proofs.Kept.{has_begun}
use Rattle.run_ends.specs.Ending.{Ending, ending_of}
use Rattle.run_ends.specs.Settled.{AreNodesWith, IsOneHistory, Shows, node_of, pushed_at, taken_at}
use Rattle.run_ends.proofs.Lists.{in_back, in_map, in_place, map_in, place_in}

-- ---- one node

heard_front : (missed : Option RunFault) (stamp : ℕ) (heard taken : List Sent) → HeardAll missed stamp heard taken → IsFront heard taken
heard_front missed stamp heard taken (inl e) = ([], e ∙ sym (append-nil heard))
heard_front missed stamp heard taken (inr (lost, e, may)) = (lost ∷ [], e)

pushed_within : (missed : Option RunFault) (pushed sent : List Sent) → PushedAll missed pushed sent → Within pushed sent
pushed_within None pushed sent w = went-within pushed sent w
pushed_within (Some fault) pushed sent w = w

module _ {N : Type 0} (node : NodeState) (w : World) (past : Past) (run : Run) (s : Seated N) (role : Role) (ms : List Moment) (law : IsLawful node) (is : IsRunning node past run s)
    (known : role_at w past (place_of role) ≡ Some role) (k : Keeps node s.trace role ms) (r : KeepsRun node (start past.sessions) run role s ms) where
  here : node.place ≡ place_of role
  here = law.tells.places role (own (place_of role) ms) k.stands

  abbrev ended : EndedNode
  ended = node_of (ending_of node.place s) ms

  fits : (Pushed : List Sent → List Sent → Type 0) → ((pushed sent : List Sent) → PushedAll s.fault pushed sent → Pushed pushed sent) → Fits Pushed w past run.stops ended
  fits Pushed to = record {
    role = role;
    known = ap (role_at w past) here ∙ known;
    alone = subst (λ (p : Place). Alone role p ms) (sym here) k.alone;
    runs = subst (λ (p : Place). RunsAlone (run.stops node.place) (start past.sessions) p ms) (sym here)
        (subst (λ (l : List NodeStop). RunsAlone l (start past.sessions) (place_of role) ms) is.of_run.stops r.runs);
    heard = λ l h.
        let t = in_map taken_at s.takers l h in
        let j = in_place s.takers t.0 t.1 in
        subst (λ (x : LinkAt). IsFront (received x.other ms) x.went) (sym t.2) (heard_front s.fault s.stamp (received t.0.line.from ms) t.0.taken (r.heard j.0 t.0 j.1));
    only = λ p none. r.only p (λ j t there. none (taken_at t) (map_in taken_at s.takers t (place_in s.takers j t there)));
    pushed = λ l h.
        let e = in_map pushed_at s.senders l h in
        let j = in_place s.senders e.0 e.1 in
        subst (λ (x : LinkAt). Pushed x.went (sent_to x.other ms)) (sym e.2) (to e.0.pushed (sent_to e.0.line.to ms) (r.pushed j.0 e.0 j.1));
  }

  -- what the type of a seat keeps makes its moments fit its links
  pub shows : Shows node w past run s role ms
  shows = record {
    here = here;
    fits = fits Within (pushed_within s.fault);
    whole = λ calm may. record {
      node = fits Went (λ pushed sent w. subst (λ (missed : Option RunFault). PushedAll missed pushed sent) calm w);
      begun = subst (λ (l : List NodeStop). HasBegun l ms) is.of_run.stops (has_begun s.trace s.plan.stops ms k.printed may.begun);
    };
  }

-- ---- all nodes

module _ (P : Ending → List Moment → Type 0) where
  -- where each has such moments, there are nodes with them
  pub chosen : (es : List Ending) → ((e : Ending) → In e es → (ms : List Moment) × P e ms) → (ns : List EndedNode) × AreNodesWith P es ns
  chosen [] each = ([], tt)
  chosen (e ∷ es) each =
      let first = each e (inl refl) in
      let rest = chosen es (λ f h. each f (inr h)) in
      (node_of e first.0 ∷ rest.0, (refl, first.1, rest.1))

  pub node_in : (es : List Ending) (ns : List EndedNode) → AreNodesWith P es ns → (n : EndedNode) → In n ns → (e : Ending) × In e es × (n ≡ node_of e n.moments) × P e n.moments
  node_in [] [] are n h = absurd h
  node_in [] (m ∷ ns) are n h = absurd are
  node_in (e ∷ es) [] are n h = absurd are
  node_in (e ∷ es) (m ∷ ns) are n (inl is) =
      (e, inl refl, subst (λ (x : EndedNode). x ≡ node_of e x.moments) (sym is) are.0, subst (λ (x : EndedNode). P e x.moments) (sym is) are.1)
  node_in (e ∷ es) (m ∷ ns) are n (inr h) = let r = node_in es ns are.2 n h in (r.0, inr r.1, r.2, r.3)

  pub ending_in : (es : List Ending) (ns : List EndedNode) → AreNodesWith P es ns → (e : Ending) → In e es → (n : EndedNode) × In n ns × (n ≡ node_of e n.moments) × P e n.moments
  ending_in [] [] are e h = absurd h
  ending_in [] (m ∷ ns) are e h = absurd are
  ending_in (f ∷ es) [] are e h = absurd are
  ending_in (f ∷ es) (m ∷ ns) are e (inl is) =
      (m, inl refl, subst (λ (x : Ending). m ≡ node_of x m.moments) (sym is) are.0, subst (λ (x : Ending). P x m.moments) (sym is) are.1)
  ending_in (f ∷ es) (m ∷ ns) are e (inr h) = let r = ending_in es ns are.2 e h in (r.0, inr r.1, r.2, r.3)

pub with_weaker : (P Q : Ending → List Moment → Type 0) → ((e : Ending) (ms : List Moment) → P e ms → Q e ms) → (es : List Ending) (ns : List EndedNode)
    → AreNodesWith P es ns → AreNodesWith Q es ns
with_weaker P Q to [] [] are = tt
with_weaker P Q to [] (n ∷ ns) are = absurd are
with_weaker P Q to (e ∷ es) [] are = absurd are
with_weaker P Q to (e ∷ es) (n ∷ ns) are = (are.0, to e n.moments are.1, with_weaker P Q to es ns are.2)

-- ---- what was taken

-- the last packet that an end took was sent there
pub took_sent : (w : World) (past : Past) (stops : Place → List NodeStop) (traces : List (List Entry)) (nodes : List EndedNode) → IsOneHistory w past stops traces nodes
    → (n : EndedNode) → In n nodes → (e : Ending) → n ≡ node_of e n.moments → (from : Place) (x : Sent) → TookLast e.takers from x → In x (sent_to n.place (at from (history_of nodes)))
took_sent w past stops traces nodes one n h e is from x took =
    let link = taken_at took.end in
    let there = map_in taken_at e.takers took.end (place_in e.takers took.k took.end took.there) in
    let last = subst (λ (l : List Sent). In x l) (sym took.took) (in_back took.front (x ∷ []) x (inl refl)) in
    subst (λ (p : Place). In x (sent_to n.place (at p (history_of nodes)))) took.from_is
    (one.sent n h link (subst (λ (m : EndedNode). In link m.takers) (sym is) there) x last)
