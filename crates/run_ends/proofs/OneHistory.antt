-- Nodes whose links were gathered made one history.
use Rattle.std.proofs.Common.{◌≡◌, ◌≢◌, inl, inr, List, [], ◌∷◌, map, refl, ap, sym, subst, ◌∙◌, arith}
use Rattle.seata_types.specs.declared.ids.Place.{Place}
use Rattle.durable_records.specs.Members.{In}
use Rattle.frame_codec.specs.Packets.{Sent}
use Rattle.history_rules.specs.Nodes.{Role, World, Past}
use Rattle.history_rules.specs.Histories.{Moment, own}
use Rattle.history_text.specs.declared.entries.Entry.{Entry}
use Rattle.history_text.specs.History.{entries}
use Rattle.trace_rules.specs.Traces.{Alone, at}
use Rattle.trace_rules.specs.Merged.{AreTraces, IsTraceOf, trace_at}
use Rattle.trace_rules.specs.Links.{IsFront, sent_to}
use Rattle.trace_rules.specs.Stops.{NodeStop}
use Rattle.trace_rules.specs.Settling.{AreNodes, EndedNode, FitsBroken, HasEach, LinkAt, SettlesAll, SettlesBroken, history_of, placed}
use Rattle.trace_rules.specs.Settling as law
use Rattle.trace_rules.proofs.Inserting.{merges_all}
use Rattle.trace_rules.proofs.LinkOrder.{in_within}
use Rattle.trace_rules.proofs.Order.{same_place-false, same_place-refl}
use Rattle.trace_merge.specs.Merges.{IsMerged, printed}
use Rattle.trace_merge.proofs.Histories.{merges_entries}
use Rattle.run_ends.specs.Ending.{Ending, trace_of}
use Rattle.run_ends.specs.Joining.{AreApart, AreJoined, AreOfRun}
use Rattle.run_ends.specs.Settled.{AreNodesWith, AreSettled, IsPrinted, pushed_at, taken_at}
use Rattle.run_ends.proofs.Lists.{in_front, in_map, map_in}
use Rattle.run_ends.proofs.Nodes.{ending_in, node_in}

-- ---- traces of places

trace_none : (p : Place) (ns : List EndedNode) → ((n : EndedNode) → In n ns → n.place ≢ p) → trace_at (map placed ns) p ≡ []
trace_none p [] none = refl
trace_none p (n ∷ ns) none =
    let apart : p ≢ n.place = λ e. none n (inl refl) (sym e) in
    grind (arith, same_place-false p n.place apart, trace_none p ns (λ m h. none m (inr h)))

trace_in : (n : EndedNode) (ns : List EndedNode) → law.AreApart ns → In n ns → trace_at (map placed ns) n.place ≡ n.moments
trace_in n [] apart h = absurd h
trace_in n (m ∷ ns) apart h = grind (arith, trace_in n ns, same_place-refl, same_place-false)

alone_trace : (role : Role) (p : Place) (ms : List Moment) → Alone role p ms → IsTraceOf p ms
alone_trace role p [] alone = tt
alone_trace role p (m ∷ ms) alone = (alone_trace role p ms alone.0, alone.1.here, alone.1.rises)

are_traces : (ns : List EndedNode) → law.AreApart ns → ((n : EndedNode) → In n ns → IsTraceOf n.place n.moments) → AreTraces (map placed ns)
are_traces [] apart each = tt
are_traces (n ∷ ns) apart each = (are_traces ns apart.0 (λ m h. each m (inr h)), each n (inl refl), trace_none n.place ns apart.1)

own_at : (p : Place) (ms : List Moment) → own p (at p ms) ≡ own p ms
own_at p [] = refl
own_at p (m ∷ ms) = grind (arith, own_at p ms)

-- ---- nodes of endings

nodes_apart : (es : List Ending) (ns : List EndedNode) → AreApart es → AreNodesWith IsPrinted es ns → law.AreApart ns
nodes_apart [] [] apart are = tt
nodes_apart [] (n ∷ ns) apart are = absurd are
nodes_apart (e ∷ es) [] apart are = absurd are
nodes_apart (e ∷ es) (n ∷ ns) apart are = (
  nodes_apart es ns apart.0 are.2,
  λ m h same.
      let f = node_in IsPrinted es ns are.2 m h in
      apart.1 f.0 f.1 (sym (ap (λ (x : EndedNode). x.place) f.2) ∙ same ∙ ap (λ (x : EndedNode). x.place) are.0),
)

printed_traces : (es : List Ending) (ns : List EndedNode) → AreNodesWith IsPrinted es ns → map trace_of es ≡ map printed (map placed ns)
printed_traces [] [] are = refl
printed_traces [] (n ∷ ns) are = absurd are
printed_traces (e ∷ es) [] are = absurd are
printed_traces (e ∷ es) (n ∷ ns) are =
    let first : e.trace ≡ entries n.moments = are.1 in
    let rest : map trace_of es ≡ map printed (map placed ns) = printed_traces es ns are.2 in
    λ i. first i ∷ rest i

module _ (w : World) (past : Past) (es : List Ending) (ns : List EndedNode) (of_run : AreOfRun w past es) (joined : AreJoined es) (are : AreNodesWith IsPrinted es ns) where
  each_there : HasEach w past ns
  each_there p role known =
      let s = of_run.each p role known in
      let m = ending_in IsPrinted es ns are s.node s.among in
      record { node = m.0; among = m.1; here = ap (λ (x : EndedNode). x.place) m.2 ∙ s.here }

  all_joined : law.AreJoined ns
  all_joined n h l g =
      let e = node_in IsPrinted es ns are n h in
      let t = in_map taken_at e.0.takers l (subst (λ (x : EndedNode). In l x.takers) e.2 g) in
      let whole = joined e.0 e.1 in
      let j = whole.joined t.0 t.1 in
      let m = ending_in IsPrinted es ns are j.node j.among in
      record {
        node = m.0;
        among = m.1;
        place_is = ap (λ (x : EndedNode). x.place) m.2 ∙ j.here ∙ sym (ap (λ (x : LinkAt). x.other) t.2);
        sender = pushed_at j.sender;
        there = subst (λ (x : EndedNode). In (pushed_at j.sender) x.senders) (sym m.2) (map_in pushed_at j.node.senders j.sender j.there);
        to_is = j.to_is ∙ whole.to_here t.0 t.1 ∙ sym (ap (λ (x : EndedNode). x.place) e.2);
        front = subst (λ (x : LinkAt). IsFront x.went j.sender.pushed) (sym t.2) j.front;
      }

  nodes_of_run : AreNodes w past ns
  nodes_of_run = record { apart = nodes_apart es ns of_run.apart are; each = each_there; joined = all_joined }

-- ---- their history

module _ (w : World) (past : Past) (stops : Place → List NodeStop) (ns : List EndedNode) (nodes : AreNodes w past ns) (fits : (n : EndedNode) → In n ns → FitsBroken w past stops n) where
  traces : AreTraces (map placed ns)
  traces = are_traces ns nodes.apart (λ n h. let f = fits n h in alone_trace f.role n.place n.moments f.alone)

  moments : (n : EndedNode) → In n ns → at n.place (history_of ns) ≡ n.moments
  moments n h = (merges_all (map placed ns) traces).each n.place ∙ trace_in n ns nodes.apart h

  owns : (n : EndedNode) → In n ns → own n.place (history_of ns) ≡ own n.place n.moments
  owns n h = sym (own_at n.place (history_of ns)) ∙ ap (own n.place) (moments n h)

  sent : (n : EndedNode) → In n ns → (l : LinkAt) → In l n.takers → (x : Sent) → In x l.went → In x (sent_to n.place (at l.other (history_of ns)))
  sent n h l g x i =
      let j = nodes.joined n h l g in
      let pushed : In x j.sender.went = subst (λ (s : List Sent). In x s) (sym j.front.1) (in_front l.went j.front.0 x i) in
      let there : In x (sent_to j.sender.other j.node.moments) =
      in_within j.sender.went (sent_to j.sender.other j.node.moments) ((fits j.node j.among).pushed j.sender j.there) x pushed in
      let mine : j.node.moments ≡ at l.other (history_of ns) = sym (moments j.node j.among) ∙ ap (λ (p : Place). at p (history_of ns)) j.place_is in
      subst (λ (p : Place). In x (sent_to p (at l.other (history_of ns)))) j.to_is (subst (λ (ms : List Moment). In x (sent_to j.sender.other ms)) mine there)

pub settled : SettlesAll → SettlesBroken → (w : World) (past : Past) (stops : Place → List NodeStop) (es : List Ending) → AreOfRun w past es → AreJoined es → AreSettled w past stops es
settled all broken w past stops es of_run joined ns are fits = record {
  broken = broken w past stops ns nodes fits;
  follows = λ whole. (all w past stops ns nodes whole).1;
  moments = moments w past stops ns nodes fits;
  owns = owns w past stops ns nodes fits;
  sent = sent w past stops ns nodes fits;
  printed = λ es' merged. merges_entries (map placed ns) (traces w past stops ns nodes fits) es' (subst (λ (l : List (List Entry)). IsMerged l es') (printed_traces es ns are) merged);
}
  where
    nodes : AreNodes w past ns
    nodes = nodes_of_run w past es ns of_run joined are
