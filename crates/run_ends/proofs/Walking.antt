-- Links that are gathered one after another.
use Rattle.std.proofs.Common.{◌≡◌, ◌⊎◌, inl, inr, ◌+◌, ◌<◌, ◌==◌, ℕ, Bool, true, false, List, [], ◌∷◌, ◌++◌, map, set, take, length, slice_get, Some, refl, ap, sym, subst, ◌∙◌, arith}
use Rattle.std.proofs.lemmas.Bool.Decides.{nat_tests}
use Rattle.std.proofs.lemmas.List.{append-nil, append_assoc, take-append-le, take_all}
use Rattle.std.proofs.lemmas.Option.{same_Some}
use Rattle.seata_types.specs.declared.ids.Place.{Place}
use Rattle.durable_records.specs.Members.{In}
use Rattle.frame_codec.specs.Packets.{Sent}
use Rattle.history_text.specs.declared.entries.Entry.{Entry}
use Rattle.link_queue.specs.Links.{Ended, IsFront, Sending, Taking}
use Rattle.node_seat.specs.Ends.{EachBecomes}
use Rattle.node_seat.specs.Naming.{Run}
use Rattle.run_ends.specs.Ending.{Ending, GivesSender, LosesSenders, TakeAt, trace_of, without_takers}
use Rattle.run_ends.specs.Joining.{AreJoined, AreLeft, AreNamed, HaveLost, IsGathered, IsJoined, IsLeft, IsNamed, Joins, JoinsAll, StandsThere}
use Rattle.run_ends.proofs.Lists.{below_length, each_same, each_set, each_then, in_place, map_same, place_in, stands_below}

-- ---- nodes that lost ends

pub lost_none : (es : List Ending) → HaveLost es es
lost_none es = each_same (λ j. LosesSenders) es (λ j e. record { same = refl; rest = λ s h. h })

loses_then : (a b c : Ending) → LosesSenders a b → LosesSenders b c → LosesSenders a c
loses_then a b c first second = record {
  same = second.same ∙ ap (λ (x : Ending). record x { senders = c.senders }) first.same;
  rest = λ s h. first.rest s (second.rest s h);
}

pub lost_then : (a b c : List Ending) → HaveLost a b → HaveLost b c → HaveLost a c
lost_then a b c first second = each_then (λ j. LosesSenders) (λ j. LosesSenders) (λ j. LosesSenders) a b c first second (λ j s t u at p q. loses_then s t u p q)

-- an end whose other end is there once others were given away had it there before
module _ (P : ℕ → Ending → Ending → Type 0) (place : (j : ℕ) (e f : Ending) → P j e f → f.place ≡ e.place)
    (senders : (j : ℕ) (e f : Ending) → P j e f → (s : Sending) → In s f.senders → In s e.senders) where
  joined_before : (old now : List Ending) → EachBecomes P old now → (t : Taking) → IsJoined now t → IsJoined old t
  joined_before old now became t j =
      let at = in_place now j.node j.among in
      let m = became.each at.0 j.node at.1 in
      record {
        node = m.0;
        among = place_in old at.0 m.0 m.1;
        here = sym (place at.0 m.0 j.node m.2) ∙ j.here;
        sender = j.sender;
        there = senders at.0 m.0 j.node m.2 j.sender j.there;
        to_is = j.to_is;
        front = j.front;
      }

loses_place : (e f : Ending) → LosesSenders e f → f.place ≡ e.place
loses_place e f l = ap (λ (x : Ending). x.place) l.same

-- ---- one end

-- an end that takes, and the one that its node of origin gives away
module _ (nodes : List Ending) (from to : Place) (k : ℕ) (d u : Ending) (at : slice_get nodes k ≡ Some d) (t : Taking) (from_is : from ≡ t.line.from) (to_is : to ≡ t.line.to)
    (there : StandsThere from nodes k) (s : Sending) where
  place_is : d.place ≡ t.line.from
  place_is = ap (λ (e : Ending). e.place) (same_Some d there.0 (sym at ∙ there.1)) ∙ there.2 ∙ from_is

  pub one_link : (run : Run) → IsNamed run t → s.line.queue ≡ run.queue d.place to → t.line.queue ≡ s.line.queue
  one_link run named queue = named ∙ (λ i. run.queue (sym place_is i) (sym to_is i)) ∙ sym queue

  pub joins : GivesSender to d.senders u.senders s → LosesSenders d u → (end : Ended) → end.taken ≡ t.taken → end.pushed ≡ s.pushed → IsFront end.taken end.pushed → Joins nodes (set nodes k u) t
  joins gives loses end taken pushed front = record {
    joined = record {
      node = d;
      among = place_in nodes k d at;
      here = place_is;
      sender = s;
      there = gives.there;
      to_is = gives.to_is ∙ to_is;
      front = subst (λ (l : List Sent). IsFront l s.pushed) taken (subst (IsFront end.taken) pushed front);
    };
    lost = each_set (λ j. LosesSenders) (λ j. LosesSenders) nodes nodes k d u (lost_none nodes) at (λ o l. loses_then o d u l loses) (λ j o v apart l. l);
  }

-- ---- some ends

-- of these ends all are gathered but for the last ones
pub record AreOnTheWay (run : Run) (old now : List Ending) (all rest : List Taking) : Type 0 where
  pub joined : (t : Taking) → In t all → In t rest ⊎ IsJoined old t
  pub named : AreNamed run rest
  pub lost : HaveLost old now

pub none_yet : (run : Run) (nodes : List Ending) (all : List Taking) → AreNamed run all → AreOnTheWay run nodes nodes all all
none_yet run nodes all named = record { joined = λ t h. inl h; named = named; lost = lost_none nodes }

pub one_more : (run : Run) (old now new : List Ending) (all rest : List Taking) (t : Taking) → AreOnTheWay run old now all (t ∷ rest) → Joins now new t → AreOnTheWay run old new all rest
one_more run old now new all rest t way j = record {
  joined = λ x h. by x (way.joined x h);
  named = λ x h. way.named x (inr h);
  lost = lost_then old now new way.lost j.lost;
}
  where
    here : IsJoined old t
    here = joined_before (λ i. LosesSenders) (λ i. loses_place) (λ i e f l. l.rest) old now way.lost t j.joined

    by : (x : Taking) → In x (t ∷ rest) ⊎ IsJoined old x → In x rest ⊎ IsJoined old x
    by x (inl (inl is)) = inr (subst (IsJoined old) (sym is) here)
    by x (inl (inr h)) = inl h
    by x (inr joined) = inr joined

pub none_left : (run : Run) (old now : List Ending) (all rest : List Taking) → rest ≡ [] → AreOnTheWay run old now all rest → JoinsAll old now all
none_left run old now all rest none way = record { joined = λ t h. by t (way.joined t h); lost = way.lost }
  where
    by : (t : Taking) → In t rest ⊎ IsJoined old t → IsJoined old t
    by t (inl h) = absurd (subst (In t) none h)
    by t (inr joined) = joined

-- ---- all nodes

pub left_none : (nodes : List Ending) → AreLeft 0 nodes nodes
left_none nodes =
    each_same (IsLeft nodes 0 0) nodes (λ j e. record { place = refl; trace = refl; senders = λ s h. h; gathered = λ below. absurd (omega (arith, below)); takers = λ above. refl })

-- the ends of the k-th node were named by the run
pub taken_named : (run : Run) (place : Place) (takers : List Taking) → TakeAt run place takers → AreNamed run takers
taken_named run place takers at t h = (at t h).1 ∙ ap (run.queue t.line.from) (sym (at t h).0)

module _ (run : Run) (old now new : List Ending) (k : ℕ) (x u : Ending) (takers : List Taking) (left : AreLeft k old now) (at : slice_get now k ≡ Some x) (took : takers ≡ x.takers)
    (links : TakeAt run x.place takers) (without : u ≡ without_takers x) (j : JoinsAll (set now k u) new takers) where
  -- the k-th node has no end that takes any longer
  given : EachBecomes (IsLeft old k (k + 1)) old (set now k u)
  given =
      each_set (IsLeft old k k) (IsLeft old k (k + 1)) old now k x u left at
      (λ s l. record {
        place = ap (λ (e : Ending). e.place) without ∙ l.place;
        trace = ap (λ (e : Ending). e.trace) without ∙ l.trace;
        senders = λ z h. l.senders z (subst (λ (e : Ending). In z e.senders) without h);
        gathered = l.gathered;
        takers = λ above. absurd (omega (arith, above));
      })
      (λ i s v apart l. record { place = l.place; trace = l.trace; senders = l.senders; gathered = l.gathered; takers = λ above. l.takers (omega (arith, above)) })

  -- its ends were gathered
  gathered : (e : Ending) → slice_get old k ≡ Some e → IsGathered old e
  gathered e there =
      let m = left.each k x at in
      let is : m.0 ≡ e = same_Some m.0 e (sym m.1 ∙ there) in
      let same : takers ≡ m.0.takers = took ∙ m.2.takers (omega arith) in
      subst (IsGathered old) is (record {
        to_here = λ t h. (links t (subst (In t) (sym same) h)).0 ∙ m.2.place;
        joined = λ t h.
            joined_before (IsLeft old k (k + 1)) (λ i s v l. l.place) (λ i s v l. l.senders) old (set now k u) given t (j.joined t (subst (In t) (sym same) h));
      })

  pub left_more : AreLeft (k + 1) old new
  left_more = each_then (IsLeft old k (k + 1)) (λ i. LosesSenders) (IsLeft old (k + 1) (k + 1)) old (set now k u) new given j.lost (λ i s t v there l m. record {
    place = loses_place t v m ∙ l.place;
    trace = ap (λ (e : Ending). e.trace) m.same ∙ l.trace;
    senders = λ z h. l.senders z (m.rest z h);
    gathered = λ below. by i s t there l below (i == k) refl;
    takers = λ above. ap (λ (e : Ending). e.takers) m.same ∙ l.takers above;
  })
    where
      by : (i : ℕ) (s t : Ending) → slice_get old i ≡ Some s → IsLeft old k (k + 1) i s t → i < k + 1 → (b : Bool) → (i == k) ≡ b → IsGathered old s
      by i s t there l below true is = let same : i ≡ k = grind (arith, nat_tests) in gathered s (ap (slice_get old) (sym same) ∙ there)
      by i s t there l below false is = l.gathered (grind (arith, nat_tests))

-- all of them
module _ (old new : List Ending) (left : AreLeft (length old) old new) where
  all_joined : AreJoined old
  all_joined e h =
      let at = in_place old e h in
      let below = below_length old at.0 e at.1 in
      let size = left.count in
      let f = stands_below new at.0 (omega (arith, below, size)) in
      let m = left.each at.0 f.0 f.1 in
      subst (IsGathered old) (same_Some m.0 e (sym m.1 ∙ at.1)) (m.2.gathered below)

  same_traces : map trace_of new ≡ map trace_of old
  same_traces = map_same trace_of old new left.count (λ j u e. let m = left.each j u e in (m.0, m.1, m.2.trace))

-- the same of nodes that were lent as a slice
module _ (old slice new : List Ending) (value : slice ≡ old) (left : AreLeft (length slice) slice new) where
  whole : AreLeft (length old) old new
  whole = subst (λ (es : List Ending). AreLeft (length es) es new) value left

  pub lent_joined : AreJoined old
  lent_joined = all_joined old new whole

  pub lent_traces : (len : ℕ) → len ≡ length old → (rest : List Ending) → map trace_of (take len (new ++ rest)) ≡ map trace_of old
  lent_traces len size rest =
      let count = whole.count in
      ap (map trace_of) (take-append-le len new rest (omega (arith, count, size)) ∙ take_all len new (omega (arith, count, size))) ∙ same_traces old new whole

-- ---- traces that are moved

-- one more was moved, of the first node that was left
pub one_moved : (before new : List (List Entry)) (moved : List Entry) (node : Ending) (rest left all : List Ending) → new ≡ before ++ moved ∷ [] → moved ≡ trace_of node → left ≡ node ∷ rest
    → before ++ map trace_of left ≡ map trace_of all → new ++ map trace_of rest ≡ map trace_of all
one_moved before new moved node rest left all pushed is next so_far =
    ap (λ (ts : List (List Entry)). ts ++ map trace_of rest) (pushed ∙ ap (λ (t : List Entry). before ++ t ∷ []) is) ∙ append_assoc before (trace_of node ∷ []) (map trace_of rest)
    ∙ ap (λ (es : List Ending). before ++ map trace_of es) (sym next) ∙ so_far

-- all were
pub all_moved : (traces : List (List Entry)) (left all : List Ending) → left ≡ [] → traces ++ map trace_of left ≡ map trace_of all → traces ≡ map trace_of all
all_moved traces left all none so_far = sym (append-nil traces) ∙ ap (λ (es : List Ending). traces ++ map trace_of es) (sym none) ∙ so_far
