-- The nodes of a run at their ends make one history.
use Rattle.std.proofs.Common.{◌≡◌, ◌≢◌, ◌⊎◌, inl, inr, Bool, List, [], ◌∷◌, find, map, Option, Some, None, refl, ap, sym, subst, ◌∙◌, arith}
use Rattle.seata_types.specs.declared.ids.Place.{Place}
use Rattle.durable_records.specs.Members.{In}
use Rattle.durable_records.proofs.MemberFacts.{find_none, found_in}
use Rattle.frame_codec.specs.Packets.{Sent}
use Rattle.history_rules.specs.CoordinatorMemory.{start}
use Rattle.history_rules.specs.Nodes.{Role, World, Past, role_at}
use Rattle.history_rules.specs.Histories.{Moment, same_place}
use Rattle.trace_rules.specs.Traces.{Alone, AloneAt, AreAlone, traces_of}
use Rattle.trace_rules.specs.Merged.{AreTraces, IsMergeOf, IsTraceOf, trace_at}
use Rattle.trace_rules.specs.Links.{EachLink, IsFront, IsHeard, Went, Within, received, sent_to}
use Rattle.trace_rules.specs.Stops.{HasBegun, NodeStop, RunsAlone}
use Rattle.trace_rules.specs.Runs.{AreBegun, EachRuns}
use Rattle.trace_rules.specs.Settling.{AreApart, AreNodes, EndedNode, Fits, LinkAt, SettlesAll, SettlesBroken, StandsAmong, history_of, placed}
use Rattle.trace_rules.proofs.Order.{same_place-eq, same_place-false, same_place-refl}
use Rattle.trace_rules.proofs.Inserting.{merges_all}
use Rattle.trace_rules.proofs.LinkOrder.{front_trans, within_front, within_nil}
use Rattle.trace_rules.proofs.Legality.{merged_traces, merges_legally, merges_to_run}

-- ---- by places

abbrev stands_at : {A : Type 0} → (A → Place) → Place → A → Bool
stands_at place_of p a = same_place (place_of a) p

-- one of these stands at a place, or none does
find_at : {A : Type 0} (place_of : A → Place) (p : Place) (xs : List A)
    → ((a : A) × In a xs × (place_of a ≡ p)) ⊎ ((a : A) → In a xs → place_of a ≢ p)
find_at {A} place_of p xs = by (find (stands_at place_of p) xs) refl
  where
    by : (o : Option A) → find (stands_at place_of p) xs ≡ o → ((a : A) × In a xs × (place_of a ≡ p)) ⊎ ((a : A) → In a xs → place_of a ≢ p)
    by (Some a) e = let found = found_in (stands_at place_of p) xs a e in inl (a, found.0, same_place-eq (place_of a) p found.1)
    by None e = inr (λ a h here. grind (arith, find_none (stands_at place_of p) xs a e h, same_place-refl p))

trace_in : (n : EndedNode) (all : List EndedNode) → AreApart all → In n all → trace_at (map placed all) n.place ≡ n.moments
trace_in n [] apart h = absurd h
trace_in n (m ∷ ms) apart h = grind (arith, trace_in n ms, same_place-refl, same_place-false)

trace_none : (p : Place) (all : List EndedNode) → ((n : EndedNode) → In n all → n.place ≢ p) → trace_at (map placed all) p ≡ []
trace_none p [] none = refl
trace_none p (m ∷ ms) none =
    let apart : p ≢ m.place = λ e. none m (inl refl) (sym e) in
    grind (arith, same_place-false p m.place apart, trace_none p ms (λ n h. none n (inr h)))

alone_trace : (role : Role) (p : Place) (ms : List Moment) → Alone role p ms → IsTraceOf p ms
alone_trace role p [] alone = tt
alone_trace role p (m ∷ ms) alone = (alone_trace role p ms alone.0, alone.1.here, alone.1.rises)

are_traces : (all : List EndedNode) → AreApart all → ((n : EndedNode) → In n all → IsTraceOf n.place n.moments) → AreTraces (map placed all)
are_traces [] apart each = tt
are_traces (n ∷ ns) apart each = (are_traces ns apart.0 (λ m h. each m (inr h)), each n (inl refl), trace_none n.place ns apart.1)

moved : (R : List Sent → List Sent → Type 0) (a b c d : List Sent) → a ≡ b → c ≡ d → R a c → R b d
moved R a b c d first second holds = subst (λ (l : List Sent). R l d) first (subst (R a) second holds)

-- ---- the nodes of a run

-- what the laws of the merge ask of the traces of nodes
record Merges (R : List Sent → List Sent → Type 0) (w : World) (past : Past) (stops : Place → List NodeStop) (all : List EndedNode) : Type 0 where
  merge : IsMergeOf (trace_at (map placed all)) (history_of all)
  alone : AreAlone w past (trace_at (map placed all))
  runs : EachRuns past stops (trace_at (map placed all))
  linked : EachLink R (trace_at (map placed all))

module _ (w : World) (past : Past) (stops : Place → List NodeStop) (all : List EndedNode) (nodes : AreNodes w past all) where
  abbrev traces : Place → List Moment
  traces = trace_at (map placed all)

  -- the trace of a place is that of the node there
  trace_of : (p : Place) (s : StandsAmong p all) → s.node.moments ≡ traces p
  trace_of p s = sym (trace_in s.node all nodes.apart s.among) ∙ ap traces s.here

  at_node : (P : Place → List Moment → Type 0) (p : Place) (s : StandsAmong p all) → P s.node.place s.node.moments → P p (traces p)
  at_node P p s holds = subst (P p) (trace_of p s) (subst (λ (q : Place). P q s.node.moments) s.here holds)

  -- no node stands at a place, and its trace is empty
  record IsEmpty (p : Place) : Type 0 where
    no_role : (role : Role) → role_at w past p ≢ Some role
    nothing : traces p ≡ []

  node_at : (p : Place) → StandsAmong p all ⊎ IsEmpty p
  node_at p = by (find_at (λ (n : EndedNode). n.place) p all)
    where
      by : ((n : EndedNode) × In n all × (n.place ≡ p)) ⊎ ((n : EndedNode) → In n all → n.place ≢ p) → StandsAmong p all ⊎ IsEmpty p
      by (inl (n, h, here)) = inl (record { node = n; among = h; here = here })
      by (inr none) = inr (record { no_role = λ role known. let s = nodes.each p role known in none s.node s.among s.here; nothing = trace_none p all none })

  module _ (Pushed R : List Sent → List Sent → Type 0) (fits : (n : EndedNode) → In n all → Fits Pushed w past stops n)
      (none : (sent : List Sent) → R [] sent) (over : (taken pushed sent : List Sent) → IsFront taken pushed → Pushed pushed sent → R taken sent) where
    are_alone : AreAlone w past traces
    are_alone p = by (node_at p)
      where
        without : (o : Option Role) → role_at w past p ≡ o → IsEmpty p → AloneAt o p (traces p)
        without None e empty = empty.nothing
        without (Some role) e empty = absurd (empty.no_role role e)

        by : StandsAmong p all ⊎ IsEmpty p → AloneAt (role_at w past p) p (traces p)
        by (inl s) = let f = fits s.node s.among in
            at_node (λ q ms. AloneAt (role_at w past q) q ms) p s (subst (λ o. AloneAt o s.node.place s.node.moments) (sym f.known) f.alone)
        by (inr empty) = without (role_at w past p) refl empty

    each_runs : EachRuns past stops traces
    each_runs p = by (node_at p)
      where
        by : StandsAmong p all ⊎ IsEmpty p → RunsAlone (stops p) (start past.sessions) p (traces p)
        by (inl s) = at_node (λ q ms. RunsAlone (stops q) (start past.sessions) q ms) p s (fits s.node s.among).runs
        by (inr empty) = subst (RunsAlone (stops p) (start past.sessions) p) (sym empty.nothing) tt

    -- what a node received over a link, and from where it has none
    over_link : (p q : Place) (s : StandsAmong q all) (l : LinkAt) → In l s.node.takers → l.other ≡ p → R (received p (traces q)) (sent_to q (traces p))
    over_link p q s l h other =
        let j = nodes.joined s.node s.among l h in
        let there : StandsAmong p all = record { node = j.node; among = j.among; here = j.place_is ∙ other } in
        let front : IsFront (received l.other s.node.moments) j.sender.went =
        front_trans (received l.other s.node.moments) l.went j.sender.went ((fits s.node s.among).heard l h) j.front in
        moved R (received l.other s.node.moments) (received p (traces q)) (sent_to j.sender.other j.node.moments) (sent_to q (traces p))
        (λ i. received (other i) (trace_of q s i)) (λ i. sent_to ((j.to_is ∙ s.here) i) (trace_of p there i))
        (over (received l.other s.node.moments) j.sender.went (sent_to j.sender.other j.node.moments) front ((fits j.node j.among).pushed j.sender j.there))

    nothing_heard : (p q : Place) → received p (traces q) ≡ [] → R (received p (traces q)) (sent_to q (traces p))
    nothing_heard p q empty = subst (λ (l : List Sent). R l (sent_to q (traces p))) (sym empty) (none (sent_to q (traces p)))

    linked : EachLink R traces
    linked p q = by (node_at q)
      where
        heard : (s : StandsAmong q all) → ((l : LinkAt) × In l s.node.takers × (l.other ≡ p)) ⊎ ((l : LinkAt) → In l s.node.takers → l.other ≢ p)
            → R (received p (traces q)) (sent_to q (traces p))
        heard s (inl (l, h, other)) = over_link p q s l h other
        heard s (inr without) = nothing_heard p q (sym (ap (received p) (trace_of q s)) ∙ (fits s.node s.among).only p without)

        by : StandsAmong q all ⊎ IsEmpty q → R (received p (traces q)) (sent_to q (traces p))
        by (inl s) = heard s (find_at (λ (l : LinkAt). l.other) p s.node.takers)
        by (inr empty) = nothing_heard p q (ap (received p) empty.nothing)

    merges : Merges R w past stops all
    merges = record {
      merge = merges_all (map placed all) (are_traces all nodes.apart (λ n h. let f = fits n h in alone_trace f.role n.place n.moments f.alone));
      alone = are_alone;
      runs = each_runs;
      linked = linked;
    }

  all_begun : ((n : EndedNode) → In n all → HasBegun (stops n.place) n.moments) → AreBegun w past stops traces
  all_begun begun p role known =
      let s = nodes.each p role known in
      at_node (λ q ms. HasBegun (stops q) ms) p s (begun s.node s.among)

-- ---- the laws

pub settles_all : SettlesAll
settles_all w past stops all nodes fits =
    merges_to_run w past stops (trace_at (map placed all)) (history_of all) m.merge m.alone m.linked m.runs
    (all_begun w past stops all nodes (λ n h. (fits n h).begun))
  where
    m : Merges IsHeard w past stops all
    m = merges w past stops all nodes Went IsHeard (λ n h. (fits n h).node) (λ sent. inl refl) (λ taken pushed sent front went. inr (pushed, front, went))

pub settles_broken : SettlesBroken
settles_broken w past stops all nodes fits = record {
  legal = merges_legally w past (trace_at (map placed all)) (history_of all) m.merge m.alone m.linked;
  nodes = subst (EachRuns past stops) same m.runs;
  taken = subst (EachLink Within) same m.linked;
}
  where
    m : Merges Within w past stops all
    m = merges w past stops all nodes Within Within fits within_nil within_front

    same : trace_at (map placed all) ≡ traces_of (history_of all)
    same = merged_traces (trace_at (map placed all)) (history_of all) m.merge
