-- A verdict is the only one.
use Rattle.std.proofs.Common.{◌≡◌, ◌<◌, ◌≤◌, ℕ, zero, suc, List, [], ◌∷◌, ◌++◌, length, map, take, slice_get, Option, Some, None, option_map, refl, sym, ap, ◌∙◌, subst, arith}
use Rattle.seata_types.specs.declared.ids.Place.{Place}
use Rattle.seata_types.specs.declared.messages.Step.{Step}
use Rattle.history_rules.specs.Own.{Event}
use Rattle.history_rules.specs.Nodes.{World, Past, Role, role_at, ComesTo}
use Rattle.history_rules.specs.Histories.{Moment, own, brings, Rises, HappensAt, IsDone, Legal, Stands}
use Rattle.history_rules.specs.Chains.{IsBlankPast}
use Rattle.history_law.specs.EntrySafety.{shown}
use Rattle.history_law.specs.Safety.{IsScenario}
use Rattle.history_law.proofs.SafetyHistory.{safety_law}
use Rattle.history_law.proofs.ShownMoments.{entries_tell_moments}
use Rattle.history_text.specs.declared.entries.Entry.{Entry}
use Rattle.history_text.specs.Notes.{sent_of}
use Rattle.history_text.specs.History.{entry_of, entries}
use Rattle.verdict_law.specs.declared.rules.Rule.{Rule}
use Rattle.verdict_law.specs.declared.rules.Rule.TheVariants as rule
use Rattle.verdict_law.specs.Verdicts.{reason_of, event_at, moment_at, ComesAt, MayCome, Does, Breaks, Passes, AreLegal, BreakAt, IsVerdict}
use Rattle.verdict_law.specs.Exact.{AreSafe}
use Rattle.verdict_law.proofs.Told.{cause_back, reasoned, entries_tell}

-- ---- one entry

module _ (w : World) (past : Past) (ms : List Moment) where
  -- a moment with this entry is the entry's moment with its step
  moment_is : (m : Moment) (e : Entry) → Stands w past ms m → entry_of m ≡ e → m ≡ moment_at ms e m.step
  moment_is m e a is =
      let cause_is : m.cause ≡ reason_of e.cause = reasoned m e is in
      let place_is : m.place ≡ e.place = ap (λ (z : Entry). z.place) is in
      let event_is : m.event ≡ event_at ms e = a.brought ∙ ap (λ (p : Place). brings ms p m.cause) place_is ∙ ap (brings ms e.place) cause_is in
      λ i. record { stamp = ap (λ (z : Entry). z.stamp) is i; place = place_is i; now = ap (λ (z : Entry). z.now) is i; cause = cause_is i; event = event_is i; step = m.step }

  rises_by : (ns : List Moment) (e : Entry) (s t : Step) → Rises ns (moment_at ms e s) → Rises ns (moment_at ms e t)
  rises_by [] e s t r = r
  rises_by (n ∷ ns) e s t r = r

  -- so its entry breaks no rule
  pub passes : (m : Moment) (e : Entry) → Stands w past ms m → entry_of m ≡ e → Passes w past ms e m.step
  passes m e a is =
      let here : Stands w past ms (moment_at ms e m.step) = subst (Stands w past ms) (moment_is m e a is) a in
      record {
        in_order = record { rises = λ step. rises_by ms e m.step step here.rises; receives_later = here.receives_later };
        timely = here.clock_rises;
        does = record { done = here.done; same_act = ap (λ (z : Entry). z.act) is };
        sends = ap (λ (z : Entry). z.sent) is;
      }

  -- what may come, with a step that may be done, stands
  stands_with : (e : Entry) (step : Step) → MayCome w past ms e → Does w past ms e step → Stands w past ms (moment_at ms e step)
  stands_with e step c d = record {
    rises = c.in_order.rises step;
    receives_later = c.in_order.receives_later;
    clock_rises = c.timely;
    brought = refl;
    done = d.done;
  }

  comes : (e : Entry) (step : Step) (event : Option Event) → IsDone w past ms (moment_at ms e step) event → ComesAt w past ms e event
  comes e step None d = d.0
  comes e step (Some event) d = at (role_at w past e.place) refl d
    where
      at : (r : Option Role) → role_at w past e.place ≡ r → HappensAt r (own e.place ms) e.now event step → (role : Role) × (role_at w past e.place ≡ Some role) × ComesTo role event
      at None is h = absurd h
      at (Some role) is h = (role, is, h.comes)

  may_come : (e : Entry) (step : Step) → Passes w past ms e step → MayCome w past ms e
  may_come e step p = record { in_order = p.in_order; timely = p.timely; comes = comes e step (event_at ms e) p.does.done }

  -- an entry that breaks no rule is that of the moment at which its step is done, and this may come
  pub stands : (e : Entry) (step : Step) → Passes w past ms e step → Stands w past ms (moment_at ms e step)
  stands e step p = stands_with e step (may_come e step p) p.does

  pub printed_as : (e : Entry) (step : Step) → Passes w past ms e step → entry_of (moment_at ms e step) ≡ e
  printed_as e step p = λ i. record { stamp = e.stamp; place = e.place; now = e.now; cause = cause_back e.cause i; act = p.does.same_act i; sent = p.sends i }

  -- its act tells its step
  one_step : (e : Entry) (s t : Step) → Legal w past ms → MayCome w past ms e → Does w past ms e s → Does w past ms e t → s ≡ t
  one_step e s t a c d f =
      let act_is : s.act ≡ t.act = d.same_act ∙ sym f.same_act in
      let shown_is : shown (moment_at ms e s) ≡ shown (moment_at ms e t) =
      λ i. record { stamp = e.stamp; place = e.place; now = e.now; cause = reason_of e.cause; act = act_is i } in
      let all : moment_at ms e s ∷ ms ≡ moment_at ms e t ∷ ms =
      entries_tell_moments w past (moment_at ms e s ∷ ms) (moment_at ms e t ∷ ms) (a, stands_with e s c d) (a, stands_with e t c f) (ap (λ z. z ∷ map shown ms) shown_is) in
      let one : moment_at ms e s ≡ moment_at ms e t = cc in
      ap (λ (z : Moment). z.step) one

  -- an entry that breaks a rule has no step
  refuted : (e : Entry) (step : Step) (broken : Rule) → Legal w past ms → Breaks w past ms e broken → Passes w past ms e step → ⊥
  refuted e step rule.Stamp a b p = b p.in_order
  refuted e step rule.Clock a b p = b.1 p.timely
  refuted e step rule.Cause a b p = b.2 (comes e step (event_at ms e) p.does.done)
  refuted e step rule.Act a b p = b.1 step p.does
  refuted e step rule.Sent a b p =
      let one : (b.1).0 ≡ step = one_step e (b.1).0 step a b.0 (b.1).1 p.does in
      (b.1).2 (ap (λ (z : Step). option_map sent_of z.sent) one ∙ p.sends)

  -- no two rules are the first
  one_rule : (e : Entry) (p q : Rule) → Breaks w past ms e p → Breaks w past ms e q → p ≡ q
  one_rule e rule.Stamp rule.Stamp b c = refl
  one_rule e rule.Stamp rule.Clock b c = absurd (b c.0)
  one_rule e rule.Stamp rule.Cause b c = absurd (b c.0)
  one_rule e rule.Stamp rule.Act b c = absurd (b c.0.in_order)
  one_rule e rule.Stamp rule.Sent b c = absurd (b c.0.in_order)
  one_rule e rule.Clock rule.Stamp b c = absurd (c b.0)
  one_rule e rule.Clock rule.Clock b c = refl
  one_rule e rule.Clock rule.Cause b c = absurd (b.1 c.1)
  one_rule e rule.Clock rule.Act b c = absurd (b.1 c.0.timely)
  one_rule e rule.Clock rule.Sent b c = absurd (b.1 c.0.timely)
  one_rule e rule.Cause rule.Stamp b c = absurd (c b.0)
  one_rule e rule.Cause rule.Clock b c = absurd (c.1 b.1)
  one_rule e rule.Cause rule.Cause b c = refl
  one_rule e rule.Cause rule.Act b c = absurd (b.2 c.0.comes)
  one_rule e rule.Cause rule.Sent b c = absurd (b.2 c.0.comes)
  one_rule e rule.Act rule.Stamp b c = absurd (c b.0.in_order)
  one_rule e rule.Act rule.Clock b c = absurd (c.1 b.0.timely)
  one_rule e rule.Act rule.Cause b c = absurd (c.2 b.0.comes)
  one_rule e rule.Act rule.Act b c = refl
  one_rule e rule.Act rule.Sent b c = absurd (b.1 (c.1).0 (c.1).1)
  one_rule e rule.Sent rule.Stamp b c = absurd (c b.0.in_order)
  one_rule e rule.Sent rule.Clock b c = absurd (c.1 b.0.timely)
  one_rule e rule.Sent rule.Cause b c = absurd (c.2 b.0.comes)
  one_rule e rule.Sent rule.Act b c = absurd (c.1 (b.1).0 (b.1).1)
  one_rule e rule.Sent rule.Sent b c = refl

-- ---- lists

module _ {A : Type 0} where
  take_front : (xs : List A) (x : A) (k : ℕ) → k ≤ length xs → take k (xs ++ x ∷ []) ≡ take k xs
  take_front xs x zero h = refl
  take_front [] x (suc k) h = absurd (omega arith)
  take_front (y ∷ xs) x (suc k) h = ap (λ zs. y ∷ zs) (take_front xs x k (omega arith))

  take_whole : (xs : List A) → take (length xs) xs ≡ xs
  take_whole [] = refl
  take_whole (x ∷ xs) = ap (λ zs. x ∷ zs) (take_whole xs)

  snoc_below : (xs : List A) (x : A) (k : ℕ) → k < length xs → slice_get (xs ++ x ∷ []) k ≡ slice_get xs k
  snoc_below [] x k h = absurd (omega arith)
  snoc_below (y ∷ xs) x zero h = refl
  snoc_below (y ∷ xs) x (suc k) h = snoc_below xs x k (omega arith)

  snoc_end : (xs : List A) (x : A) → slice_get (xs ++ x ∷ []) (length xs) ≡ Some x
  snoc_end [] x = refl
  snoc_end (y ∷ xs) x = snoc_end xs x

  snoc_past : (xs : List A) (x : A) (k : ℕ) → length xs < k → slice_get (xs ++ x ∷ []) k ≡ None
  snoc_past [] x zero h = absurd (omega arith)
  snoc_past [] x (suc k) h = refl
  snoc_past (y ∷ xs) x zero h = absurd (omega arith)
  snoc_past (y ∷ xs) x (suc k) h = snoc_past xs x k (omega arith)

  taken_there : (xs : List A) (k j : ℕ) → j < k → slice_get (take k xs) j ≡ slice_get xs j
  taken_there xs zero j h = absurd (omega arith)
  taken_there [] (suc k) j h = refl
  taken_there (x ∷ xs) (suc k) zero h = refl
  taken_there (x ∷ xs) (suc k) (suc j) h = taken_there xs k j (omega arith)

  take_less : (xs : List A) (k j : ℕ) → j ≤ k → take j (take k xs) ≡ take j xs
  take_less xs k zero h = refl
  take_less xs zero (suc j) h = absurd (omega arith)
  take_less [] (suc k) (suc j) h = refl
  take_less (x ∷ xs) (suc k) (suc j) h = ap (λ zs. x ∷ zs) (take_less xs k j (omega arith))

none_some : {A : Type 0} (x : A) → None ≡ Some x → ⊥
none_some x e = absurd cc

data Order (j k : ℕ) : Type 0 where
  Less : j < k → Order j k
  Same : j ≡ k → Order j k
  More : k < j → Order j k

order : (j k : ℕ) → Order j k
order zero zero = Same refl
order zero (suc k) = Less (omega arith)
order (suc j) zero = More (omega arith)
order (suc j) (suc k) = next (order j k)
  where
    next : Order j k → Order (suc j) (suc k)
    next (Less h) = Less (omega arith)
    next (Same e) = Same (ap suc e)
    next (More h) = More (omega arith)

-- ---- the entries of a history

-- the part of a history before its k-th entry, counted from 0, and the moment of that
record Cut (w : World) (past : Past) (ms : List Moment) (k : ℕ) (e : Entry) : Type 0 where
  older : List Moment
  moment : Moment
  legal : Legal w past older
  stands : Stands w past older moment
  printed : entries older ≡ take k (entries ms)
  same : entry_of moment ≡ e

module _ (w : World) (past : Past) where
  cut : (ms : List Moment) (k : ℕ) (e : Entry) → Legal w past ms → slice_get (entries ms) k ≡ Some e → Cut w past ms k e
  cut [] k e a there = absurd (none_some e there)
  cut (m ∷ ms) k e a there = by (λ below. cut ms k e a.0 below) (order k (length (entries ms)))
    where
      by : (slice_get (entries ms) k ≡ Some e → Cut w past ms k e) → Order k (length (entries ms)) → Cut w past (m ∷ ms) k e
      by deeper (Less h) =
          let c : Cut w past ms k e = deeper (sym (snoc_below (entries ms) (entry_of m) k h) ∙ there) in
          record {
            older = c.older;
            moment = c.moment;
            legal = c.legal;
            stands = c.stands;
            same = c.same;
            printed = c.printed ∙ sym (take_front (entries ms) (entry_of m) k (omega arith));
          }
      by deeper (Same h) = record {
        older = ms;
        moment = m;
        legal = a.0;
        stands = a.1;
        printed = sym (ap (λ (n : ℕ). take n (entries ms ++ entry_of m ∷ [])) h ∙ take_front (entries ms) (entry_of m) (length (entries ms)) (omega arith) ∙ take_whole (entries ms));
        same = let found : Some (entry_of m) ≡ Some e = sym (snoc_end (entries ms) (entry_of m)) ∙ sym (ap (slice_get (entries ms ++ entry_of m ∷ [])) h) ∙ there in cc;
      }
      by deeper (More h) = absurd (none_some e (sym (snoc_past (entries ms) (entry_of m) k h) ∙ there))

  -- entries one of which breaks a rule are those of no legal history
  pub exact : (es : List Entry) (k : ℕ) (broken : Rule) → BreakAt w past es k broken → AreLegal w past es → ⊥
  exact es k broken b a =
      let c : Cut w past a.history k b.entry = cut a.history k b.entry a.legal (ap (λ (z : List Entry). slice_get z k) a.printed ∙ b.there) in
      let front : c.older ≡ b.before = entries_tell w past c.older b.before c.legal b.legal (c.printed ∙ ap (take k) a.printed ∙ sym b.printed) in
      refuted w past b.before b.entry c.moment.step broken b.legal b.breaks
      (passes w past b.before c.moment b.entry (subst (λ (z : List Moment). Stands w past z c.moment) front c.stands) c.same)

  -- the entries before the first one that breaks a rule are legal
  front_legal : (es : List Entry) (k : ℕ) (broken : Rule) → BreakAt w past es k broken → AreLegal w past (take k es)
  front_legal es k broken b = record { history = b.before; legal = b.legal; printed = b.printed }

  earlier : (es : List Entry) (j k : ℕ) (broken : Rule) → j < k → BreakAt w past es j broken → BreakAt w past (take k es) j broken
  earlier es j k broken h b = record {
    before = b.before;
    legal = b.legal;
    entry = b.entry;
    breaks = b.breaks;
    printed = b.printed ∙ sym (take_less es k j (omega arith));
    there = taken_there es k j h ∙ b.there;
  }

  one_break : (es : List Entry) (j k : ℕ) (p q : Rule) → BreakAt w past es j p → BreakAt w past es k q → (j ≡ k) × (p ≡ q)
  one_break es j k p q b c = by (order j k)
    where
      by : Order j k → (j ≡ k) × (p ≡ q)
      by (Less h) = absurd (exact (take k es) j p (earlier es j k p h b) (front_legal es k q c))
      by (More h) = absurd (exact (take j es) k q (earlier es k j q h c) (front_legal es j p b))
      by (Same h) =
          let front : b.before ≡ c.before = entries_tell w past b.before c.before b.legal c.legal (b.printed ∙ ap (λ (n : ℕ). take n es) h ∙ sym c.printed) in
          let found : Some b.entry ≡ Some c.entry = sym b.there ∙ ap (slice_get es) h ∙ c.there in
          let entry_is : b.entry ≡ c.entry = cc in
          let here : Breaks w past c.before c.entry p = subst (λ (z : List Moment). Breaks w past z c.entry p) front (subst (λ (e : Entry). Breaks w past b.before e p) entry_is b.breaks) in
          let rule_is : p ≡ q = one_rule w past c.before c.entry p q here c.breaks in
          (h, rule_is)

  some_same : (j k : ℕ) (p q : Rule) → (j ≡ k) × (p ≡ q) → ◌≡◌ {A = Option (ℕ × Rule)} (Some (suc j, p)) (Some (suc k, q))
  some_same j k p q e i = Some (suc (e.0 i), e.1 i)

  pub agree : (es : List Entry) (v u : Option (ℕ × Rule)) → IsVerdict w past es v → IsVerdict w past es u → v ≡ u
  agree es None None a b = refl
  agree es None (Some (zero, q)) a b = absurd b
  agree es None (Some (suc k, q)) a b = absurd (exact es k q b a)
  agree es (Some (zero, p)) u a b = absurd a
  agree es (Some (suc j, p)) None a b = absurd (exact es j p a b)
  agree es (Some (suc j, p)) (Some (zero, q)) a b = absurd b
  agree es (Some (suc j, p)) (Some (suc k, q)) a b = some_same j k p q (one_break es j k p q a b)

-- ---- a yes

pub yes_is_safe : (w : World) (past : Past) (es : List Entry) → IsScenario w → IsBlankPast past → AreLegal w past es → AreSafe w past es
yes_is_safe w past es runs blank a = record { history = a.history; legal = a.legal; printed = a.printed; safe = safety_law w past a.history runs blank a.legal }
