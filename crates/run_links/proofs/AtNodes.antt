-- The links of a run, of which two nodes are joined.
use Rattle.std.proofs.Common.{◌≡◌, ◌≢◌, ◌==◌, ◌+◌, ◌-◌, ◌≤◌, ◌++◌, ℕ, zero, suc, Bool, true, false, List, [], ◌∷◌, set, length, slice_get, Option, Some, refl, ap, sym, subst, ◌∙◌, arith, length-set}
use Rattle.std.proofs.lemmas.Bool.{true≢false}
use Rattle.std.proofs.lemmas.Bool.Decides.{nat_tests}
use Rattle.seata_types.specs.declared.ids.Place.{Place}
use Rattle.seata_types.specs.declared.ids.Place.TheVariants as place
use Rattle.history_rules.specs.Nodes.{counted_at}
use Rattle.history_rules.specs.Histories.{same_place}
use Rattle.link_queue.specs.Links.{Sending, Taking}
use Rattle.trace_rules.proofs.Order.{same_place-eq}
use Rattle.run_links.specs.declared.links.NodeLinks.{NodeLinks}
use Rattle.run_links.specs.declared.links.RunLinks.{RunLinks}
use Rattle.run_links.specs.Linked.{AreEnds, AreJoined, AreLinked, AreLinks, HaveMade, goes_to, links_at, senders_at, senders_of, takers_at, takers_of}
use Rattle.run_links.specs.Routes.{both_ways}
use Rattle.run_links.proofs.Adding.{both_more, slice_get-set_other, slice_get-set_same}
use Rattle.run_links.proofs.BothWays.{both_ends, both_linked, go_both, linked_senders, linked_takers, was_linked}

-- ---- one node of a list

-- the item at a number, counted from 1, is another one now
pub record IsSet {A : Type 0} (old new : List A) (n : ℕ) (was is : A) : Type 0 where
  pub before : counted_at old n ≡ Some was
  pub now : counted_at new n ≡ Some is
  pub others : (m : ℕ) → (m == n) ≡ false → counted_at new m ≡ counted_at old m
  pub count : length new ≡ length old

pub counted_next : {A : Type 0} (xs : List A) (k : ℕ) → counted_at xs (k + 1) ≡ slice_get xs k
counted_next xs k = let next : k + 1 ≡ suc k = omega arith in ap (counted_at xs) next

other_index : (m k : ℕ) → (suc m == k + 1) ≡ false → m ≢ k
other_index m k e same = grind (arith, nat_tests)

pub set_next : {A : Type 0} (old new : List A) (k : ℕ) (was is : A) → slice_get old k ≡ Some was → new ≡ set old k is → IsSet old new (k + 1) was is
set_next {A} old new k was is there changed = record {
  before = counted_next old k ∙ there;
  now = counted_next new k ∙ ap (λ (l : List A). slice_get l k) changed ∙ slice_get-set_same old k is was there;
  others = others;
  count = ap length changed ∙ length-set old k is;
}
  where
    others : (m : ℕ) → (m == k + 1) ≡ false → counted_at new m ≡ counted_at old m
    others zero e = refl
    others (suc m) e = ap (λ (l : List A). slice_get l m) changed ∙ slice_get-set_other old k m is (other_index m k e)

pub set_number : {A : Type 0} (old new : List A) (n : ℕ) (was is : A) → 1 ≤ n → slice_get old (n - 1) ≡ Some was → new ≡ set old (n - 1) is → IsSet old new n was is
set_number old new n was is counted there changed =
    let same : n - 1 + 1 ≡ n = omega arith in subst (λ m. IsSet old new m was is) same (set_next old new (n - 1) was is there changed)

-- ---- two nodes

-- the nodes at two places are others now, and all else is as before
pub record AreChanged (l l' : RunLinks) (a b : Place) (one other one' other' : NodeLinks) : Type 0 where
  pub one_before : links_at l a ≡ Some one
  pub other_before : links_at l b ≡ Some other
  pub one_now : links_at l' a ≡ Some one'
  pub other_now : links_at l' b ≡ Some other'
  pub others : (p : Place) → same_place p a ≡ false → same_place p b ≡ false → links_at l' p ≡ links_at l p
  pub apart : same_place a b ≡ false
  pub resources : length l'.resources.items ≡ length l.resources.items
  pub managers : length l'.managers.items ≡ length l.managers.items

module _ (l l' : RunLinks) where
  -- the coordinator and a resource
  pub with_resource : (n : ℕ) (other one' other' : NodeLinks) → l'.coordinator ≡ one' → IsSet l.resources.items l'.resources.items n other other' → l'.managers.items ≡ l.managers.items
      → AreChanged l l' place.Tc (place.Res n) l.coordinator other one' other'
  with_resource n other one' other' one resource managers = record {
    one_before = refl;
    other_before = resource.before;
    one_now = ap Some one;
    other_now = resource.now;
    others = others;
    apart = refl;
    resources = resource.count;
    managers = ap length managers;
  }
    where
      others : (p : Place) → same_place p place.Tc ≡ false → same_place p (place.Res n) ≡ false → links_at l' p ≡ links_at l p
      others place.Net e f = refl
      others place.Tc e f = absurd (true≢false e)
      others (place.Res m) e f = resource.others m f
      others (place.Man m) e f = ap (λ (ns : List NodeLinks). counted_at ns m) managers

  -- the coordinator and a manager
  pub with_manager : (n : ℕ) (other one' other' : NodeLinks) → l'.coordinator ≡ one' → IsSet l.managers.items l'.managers.items n other other' → l'.resources.items ≡ l.resources.items
      → AreChanged l l' place.Tc (place.Man n) l.coordinator other one' other'
  with_manager n other one' other' one manager resources = record {
    one_before = refl;
    other_before = manager.before;
    one_now = ap Some one;
    other_now = manager.now;
    others = others;
    apart = refl;
    resources = ap length resources;
    managers = manager.count;
  }
    where
      others : (p : Place) → same_place p place.Tc ≡ false → same_place p (place.Man n) ≡ false → links_at l' p ≡ links_at l p
      others place.Net e f = refl
      others place.Tc e f = absurd (true≢false e)
      others (place.Res m) e f = ap (λ (ns : List NodeLinks). counted_at ns m) resources
      others (place.Man m) e f = manager.others m f

  -- a manager and a resource
  pub with_call : (m n : ℕ) (one other one' other' : NodeLinks) → l'.coordinator ≡ l.coordinator → IsSet l.managers.items l'.managers.items m one one' → IsSet l.resources.items l'.resources.items n other other'
      → AreChanged l l' (place.Man m) (place.Res n) one other one' other'
  with_call m n one other one' other' coordinator manager resource = record {
    one_before = manager.before;
    other_before = resource.before;
    one_now = manager.now;
    other_now = resource.now;
    others = others;
    apart = refl;
    resources = resource.count;
    managers = manager.count;
  }
    where
      others : (p : Place) → same_place p (place.Man m) ≡ false → same_place p (place.Res n) ≡ false → links_at l' p ≡ links_at l p
      others place.Net e f = refl
      others place.Tc e f = ap Some coordinator
      others (place.Res k) e f = resource.others k f
      others (place.Man k) e f = manager.others k e

-- ---- joined

module _ (l l' : RunLinks) (a b : Place) (one other one' other' : NodeLinks) (changed : AreChanged l l' a b one other one' other') (are : AreLinks l) where
  not_both : (p : Place) → same_place p a ≡ true → same_place p b ≡ true → ⊥
  not_both p e f = true≢false (sym f ∙ ap (λ q. same_place q b) (same_place-eq p a e) ∙ changed.apart)

  -- what is read of a node, where both have one item more
  read_more : {A : Type 0} (read : Option NodeLinks → List A) (x y : A) → read (Some one') ≡ read (Some one) ++ x ∷ [] → read (Some other') ≡ read (Some other) ++ y ∷ []
      → ((p : Place) → same_place p a ≡ true → same_place p b ≡ false → read (links_at l' p) ≡ read (links_at l p) ++ x ∷ [])
      × ((p : Place) → same_place p a ≡ false → same_place p b ≡ true → read (links_at l' p) ≡ read (links_at l p) ++ y ∷ [])
  read_more {A} read x y here there = (
    (λ p e f.
        let is = same_place-eq p a e in
        ap (λ q. read (links_at l' q)) is ∙ ap read changed.one_now ∙ here
        ∙ ap (λ (xs : List A). xs ++ x ∷ []) (sym (ap (λ q. read (links_at l q)) is ∙ ap read changed.one_before))),
    λ p e f.
        let is = same_place-eq p b f in
        ap (λ q. read (links_at l' q)) is ∙ ap read changed.other_now ∙ there
        ∙ ap (λ (xs : List A). xs ++ y ∷ []) (sym (ap (λ q. read (links_at l q)) is ∙ ap read changed.other_before)),
  )

  others_same : {A : Type 0} (read : Option NodeLinks → List A) (p : Place) → same_place p a ≡ false → same_place p b ≡ false → read (links_at l' p) ≡ read (links_at l p)
  others_same read p e f = ap read (changed.others p e f)

  abbrev Made : Type 0
  Made = HaveMade (both_ways a b) l l'

  module _ (none : goes_to b one.senders.items ≡ false) (linked : AreLinked a b one other one' other') where
    abbrev T : Place → List Taking
    T = takers_at l

    abbrev S : Place → List Sending
    S = senders_at l

    abbrev s : Sending
    s = linked.there.sender

    abbrev t : Taking
    t = linked.there.taker

    abbrev s' : Sending
    s' = linked.back.sender

    abbrev t' : Taking
    t' = linked.back.taker

    free : goes_to b (S a) ≡ false
    free = ap (λ o. goes_to b (senders_of o)) changed.one_before ∙ none

    senders : (p : Place) → senders_at l' p ≡ linked_senders T S a b s t s' t' p
    senders =
        let more = read_more senders_of s s' linked.there.sends linked.back.sends in
        both_more (senders_at l) (senders_at l') (λ p. same_place p a) (λ p. same_place p b) s s' more.0 more.1 (others_same senders_of) not_both

    takers : (p : Place) → takers_at l' p ≡ linked_takers T S a b s t s' t' p
    takers =
        let more = read_more takers_of t' t linked.back.takes linked.there.takes in
        both_more (takers_at l) (takers_at l') (λ p. same_place p b) (λ p. same_place p a) t t' (λ p e f. more.1 p f e) (λ p e f. more.0 p f e) (λ p e f. others_same takers_of p f e) (λ p e f. not_both p f e)

    now_linked : Made
    now_linked = record {
      links = record {
        ends = subst (λ (F : (Place → List Taking) × (Place → List Sending)). AreEnds F.0 F.1) (λ i. ((λ p. sym (takers p) i), (λ p. sym (senders p) i)))
            (both_ends T S a b s t s' t' linked.there.new linked.back.new are.ends are.returned changed.apart free);
        returned = λ p q.
            ap (goes_to q) (senders p) ∙ both_linked T S a b s t s' t' linked.there.new linked.back.new are.ends are.returned changed.apart free p q
            ∙ sym (ap (goes_to p) (senders q));
      };
      resources = changed.resources;
      managers = changed.managers;
      go = λ p q. ap (goes_to q) (senders p) ∙ go_both T S a b s t s' t' linked.there.new linked.back.new are.ends are.returned changed.apart free p q;
    }

  module _ (goes : goes_to b one.senders.items ≡ true) (same_one : one' ≡ one) (same_other : other' ≡ other) where
    there : goes_to b (senders_at l a) ≡ true
    there = ap (λ o. goes_to b (senders_of o)) changed.one_before ∙ goes

    all : (p : Place) → links_at l' p ≡ links_at l p
    all p = by (same_place p a) (same_place p b) refl refl
      where
        by : (c d : Bool) → same_place p a ≡ c → same_place p b ≡ d → links_at l' p ≡ links_at l p
        by true d e f =
            let is = same_place-eq p a e in
            ap (links_at l') is ∙ changed.one_now ∙ ap Some same_one ∙ sym (ap (links_at l) is ∙ changed.one_before)
        by false true e f =
            let is = same_place-eq p b f in
            ap (links_at l') is ∙ changed.other_now ∙ ap Some same_other ∙ sym (ap (links_at l) is ∙ changed.other_before)
        by false false e f = changed.others p e f

    still_linked : Made
    still_linked = record {
      links = record {
        ends = subst (λ (F : (Place → List Taking) × (Place → List Sending)). AreEnds F.0 F.1) (λ i. ((λ p. takers_of (sym (all p) i)), (λ p. senders_of (sym (all p) i)))) are.ends;
        returned = λ p q. ap (λ o. goes_to q (senders_of o)) (all p) ∙ are.returned p q ∙ sym (ap (λ o. goes_to p (senders_of o)) (all q));
      };
      resources = changed.resources;
      managers = changed.managers;
      go = λ p q. ap (λ o. goes_to q (senders_of o)) (all p) ∙ was_linked (λ x y. goes_to y (senders_at l x)) a b there (are.returned b a ∙ there) p q;
    }

  -- both nodes are linked, as before or now
  pub joined : (goes : Bool) → goes_to b one.senders.items ≡ goes → AreJoined goes a b one other one' other' → Made
  joined true is same = still_linked is same.0 same.1
  joined false is linked = now_linked is linked
