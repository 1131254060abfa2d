-- The history out of its traces.
use Rattle.std.proofs.Common.{inl, inr, ◌≡◌, ◌⊎◌, ◌+◌, ◌-◌, ◌<◌, ◌≤◌, ◌==◌, ℕ, zero, suc, Bool, true, false, List, [], ◌∷◌, ◌++◌, drop, take, map, reverse, length, slice_get, is_some, IsSome, Option, Some, None, option_map, Result, Ok, Err, OnOk, refl, ap, sym, subst, ◌∙◌, arith, length-append}
use Rattle.std.proofs.lemmas.Bool.{false≢true}
use Rattle.std.proofs.lemmas.List.{drop_more, map_more, reverse-append, take_all}
use Rattle.std.proofs.lemmas.Option.{get_or_from_slice_get, same_Some}
use Rattle.std.specs.Prelude.{Vec}
use Rattle.std.specs.declared.alloc.Global.{Global}
use Rattle.std.proofs.lemmas.Bool.Decides.{nat_tests}
use Rattle.seata_types.specs.declared.ids.Place.{Place}
use Rattle.seata_types.specs.declared.ids.Place.TheVariants as place
use Rattle.history_rules.specs.Histories.{Moment, same_place}
use Rattle.history_text.specs.declared.entries.Entry.{Entry}
use Rattle.history_text.specs.History.{entries, entry_of}
use Rattle.history_law.proofs.Deliveries.{one_place}
use Rattle.replay_runner.specs.declared.collecting.Traces.{Traces}
use Rattle.replay_runner.specs.Collecting.{AreTraces, HaveTraces, IsShortened, items_of, trace_among, trace_at}
use Rattle.replay_runner.specs.Traces.{at, places_of}
use Rattle.replay_runner.proofs.Printed.{length-places, printed_here, printed_there}
use Rattle.replay_runner.proofs.Lists.{get_past, member_at, snoc_below, snoc_end}

-- ---- the newest entry of a place is taken out

-- where one trace lost its newest entry and no other one changed
pub popped : (old new : Place → Option (List Entry)) (p : Place) → ((q : Place) → same_place q p ≡ false → new q ≡ old q) → (m : Moment) (ms : List Moment) → m.place ≡ p
    → AreTraces old (m ∷ ms) → new p ≡ Some (entries (at p ms)) → AreTraces new ms
popped old new p others m ms is t here = record { have = have_all ms t.have.0; each = λ q es e. by q es e (same_place q p) refl }
  where
    there : (q : Place) (b : Bool) → same_place q p ≡ b → IsSome (old q) → IsSome (new q)
    there q true e some = ap is_some (ap new (one_place q p e) ∙ here)
    there q false e some = ap is_some (others q e) ∙ some

    have_all : (ns : List Moment) → HaveTraces old ns → HaveTraces new ns
    have_all [] have = tt
    have_all (n ∷ ns) have = (have_all ns have.0, there n.place (same_place n.place p) refl have.1)

    by : (q : Place) (es : List Entry) → new q ≡ Some es → (b : Bool) → same_place q p ≡ b → es ≡ entries (at q ms)
    by q es e true near =
        let one = one_place q p near in
        same_Some es (entries (at q ms)) (sym e ∙ ap new one ∙ here ∙ ap (λ r. Some (entries (at r ms))) (sym one))
    by q es e false far = t.each q es (sym (others q far) ∙ e) ∙ printed_there q m ms (ap (same_place q) is ∙ far)

same_itself : (p : Place) → same_place p p ≡ true
same_itself place.Net = refl
same_itself place.Tc = refl
same_itself (place.Res n) = grind (arith, nat_tests)
same_itself (place.Man n) = grind (arith, nat_tests)

some_is : (o : Option (List Entry)) → IsSome o → (es : List Entry) × (o ≡ Some es)
some_is None some = absurd (false≢true some)
some_is (Some es) some = (es, refl)

-- the trace of the newest moment ends in it
pub newest : (trace : Place → Option (List Entry)) (p : Place) (m : Moment) (ms : List Moment) → m.place ≡ p → AreTraces trace (m ∷ ms) → trace p ≡ Some (entries (at p ms) ++ entry_of m ∷ [])
newest trace p m ms is t =
    let (es, found) = some_is (trace p) (subst (λ q. IsSome (trace q)) is t.have.1) in
    found ∙ ap Some (t.each p es found ∙ printed_here p m ms (ap (same_place p) is ∙ same_itself p))

-- what comes of taking an entry out at a place
abbrev pub Pops : (old new : Place → Option (List Entry)) (p : Place) (taken : Option Entry) → Type 0
Pops old new p taken = (m : Moment) (ms : List Moment) → AreTraces old (m ∷ ms) → m.place ≡ p → (taken ≡ Some (entry_of m)) × AreTraces new ms

pub pops : (old new : Place → Option (List Entry)) (p : Place) (taken : Option Entry)
    → ((front : List Entry) (e : Entry) → old p ≡ Some (front ++ e ∷ []) → (taken ≡ Some e) × (new p ≡ Some front) × ((q : Place) → same_place q p ≡ false → new q ≡ old q)) → Pops old new p taken
pops old new p taken out = λ m ms t is.
    let (got, here, others) = out (entries (at p ms)) (entry_of m) (newest old p m ms is t) in
    (got, popped old new p others m ms is t here)

-- ---- by place

module _ (old new : Traces) (taken : Option Entry) where
  pub pops_net : ((front : List Entry) (e : Entry) → old.network.items ≡ front ++ e ∷ [] → (taken ≡ Some e) × (new.network.items ≡ front))
      → new.coordinator ≡ old.coordinator → new.resources ≡ old.resources → new.managers ≡ old.managers → Pops (trace_at old) (trace_at new) place.Net taken
  pops_net out coordinator resources managers = pops (trace_at old) (trace_at new) place.Net taken
      (λ front e is. let (got, here) = out front e (same_Some old.network.items (front ++ e ∷ []) is) in (got, ap Some here, others))
    where
      others : (q : Place) → same_place q place.Net ≡ false → trace_at new q ≡ trace_at old q
      others place.Net e = absurd (false≢true (sym e))
      others place.Tc e = ap (λ (v : Vec Entry Global). Some v.items) coordinator
      others (place.Res n) e = ap (λ (v : Vec (Vec Entry Global) Global). trace_among v.items n) resources
      others (place.Man n) e = ap (λ (v : Vec (Vec Entry Global) Global). trace_among v.items n) managers

  pub pops_tc : ((front : List Entry) (e : Entry) → old.coordinator.items ≡ front ++ e ∷ [] → (taken ≡ Some e) × (new.coordinator.items ≡ front))
      → new.network ≡ old.network → new.resources ≡ old.resources → new.managers ≡ old.managers → Pops (trace_at old) (trace_at new) place.Tc taken
  pops_tc out network resources managers = pops (trace_at old) (trace_at new) place.Tc taken
      (λ front e is. let (got, here) = out front e (same_Some old.coordinator.items (front ++ e ∷ []) is) in (got, ap Some here, others))
    where
      others : (q : Place) → same_place q place.Tc ≡ false → trace_at new q ≡ trace_at old q
      others place.Net e = ap (λ (v : Vec Entry Global). Some v.items) network
      others place.Tc e = absurd (false≢true (sym e))
      others (place.Res n) e = ap (λ (v : Vec (Vec Entry Global) Global). trace_among v.items n) resources
      others (place.Man n) e = ap (λ (v : Vec (Vec Entry Global) Global). trace_among v.items n) managers

  pub pops_res : (n : ℕ) → ((front : List Entry) (e : Entry) → trace_among old.resources.items n ≡ Some (front ++ e ∷ []) → (taken ≡ Some e) × IsShortened old.resources.items new.resources.items n front)
      → new.network ≡ old.network → new.coordinator ≡ old.coordinator → new.managers ≡ old.managers → Pops (trace_at old) (trace_at new) (place.Res n) taken
  pops_res n out network coordinator managers = pops (trace_at old) (trace_at new) (place.Res n) taken
      (λ front e is. let (got, short) = out front e is in (got, short.here, λ q away. others short.others q away))
    where
      others : ((k : ℕ) → (k == n) ≡ false → trace_among new.resources.items k ≡ trace_among old.resources.items k) → (q : Place) → same_place q (place.Res n) ≡ false → trace_at new q ≡ trace_at old q
      others rest place.Net e = ap (λ (v : Vec Entry Global). Some v.items) network
      others rest place.Tc e = ap (λ (v : Vec Entry Global). Some v.items) coordinator
      others rest (place.Res k) e = rest k e
      others rest (place.Man k) e = ap (λ (v : Vec (Vec Entry Global) Global). trace_among v.items k) managers

  pub pops_man : (n : ℕ) → ((front : List Entry) (e : Entry) → trace_among old.managers.items n ≡ Some (front ++ e ∷ []) → (taken ≡ Some e) × IsShortened old.managers.items new.managers.items n front)
      → new.network ≡ old.network → new.coordinator ≡ old.coordinator → new.resources ≡ old.resources → Pops (trace_at old) (trace_at new) (place.Man n) taken
  pops_man n out network coordinator resources = pops (trace_at old) (trace_at new) (place.Man n) taken
      (λ front e is. let (got, short) = out front e is in (got, short.here, λ q away. others short.others q away))
    where
      others : ((k : ℕ) → (k == n) ≡ false → trace_among new.managers.items k ≡ trace_among old.managers.items k) → (q : Place) → same_place q (place.Man n) ≡ false → trace_at new q ≡ trace_at old q
      others rest place.Net e = ap (λ (v : Vec Entry Global). Some v.items) network
      others rest place.Tc e = ap (λ (v : Vec Entry Global). Some v.items) coordinator
      others rest (place.Res k) e = ap (λ (v : Vec (Vec Entry Global) Global). trace_among v.items k) resources
      others rest (place.Man k) e = rest k e

-- ---- the trace at a number

-- where there is none
pub none_there : {A : Type 0} (old : List (Vec Entry Global)) (n : ℕ) → (n ≡ 0) ⊎ (length old < n) → (es : List Entry) → trace_among old n ≡ Some es → A
none_there old zero past es is = absurd (let no : None ≡ Some es = is in cc)
none_there old (suc k) (inl none) es is = absurd (omega (arith, none))
none_there old (suc k) (inr past) es is = absurd (let no : None ≡ Some es = sym (ap (option_map items_of) (get_past old k (omega (arith, past)))) ∙ is in cc)

-- ---- one entry after the other

-- where a moment stands, from the end of the places
pub place_from_end : (ms : List Moment) (k : ℕ) → k < length ms → slice_get (places_of ms) (length (places_of ms) - 1 - k) ≡ option_map (λ (m : Moment). m.place) (slice_get ms k)
place_from_end [] k below = absurd (omega (arith, below))
place_from_end (m ∷ ms) zero below =
    let size = length-append (places_of ms) (m.place ∷ []) in
    ap (slice_get (places_of ms ++ m.place ∷ [])) (let end : length (places_of ms ++ m.place ∷ []) - 1 - 0 ≡ length (places_of ms) = omega (arith, size) in end) ∙ snoc_end (places_of ms) m.place
place_from_end (m ∷ ms) (suc k) below =
    let size = length-append (places_of ms) (m.place ∷ []) in
    let whole = length-places ms in
    ap (slice_get (places_of ms ++ m.place ∷ [])) (let front : length (places_of ms ++ m.place ∷ []) - 1 - suc k ≡ length (places_of ms) - 1 - k = omega (arith, size) in front)
    ∙ snoc_below (places_of ms) m.place (length (places_of ms) - 1 - k) (omega (arith, below, whole)) ∙ place_from_end ms k (omega (arith, below))

-- one more entry is moved
pub one_moved : (places : List Place) (old new : Traces) (before after : List Entry) (k : ℕ) (p : Place) → k < length places → slice_get places (length places - 1 - k) ≡ Some p
    → ((m : Moment) (ms : List Moment) → AreTraces (trace_at old) (m ∷ ms) → m.place ≡ p → (after ≡ before ++ entry_of m ∷ []) × AreTraces (trace_at new) ms)
    → (ms : List Moment) → places ≡ places_of ms → AreTraces (trace_at old) (drop k ms) × (before ≡ map entry_of (take k ms)) → AreTraces (trace_at new) (drop (k + 1) ms) × (after ≡ map entry_of (take (k + 1) ms))
one_moved places old new before after k p below here moves ms stand kept = (
  moved.1,
  moved.0 ∙ ap (λ es. es ++ entry_of m ∷ []) kept.1 ∙ sym (map_more entry_of ms k m within ∙ ap (λ x. map entry_of (take k ms) ++ entry_of x ∷ []) (get_or_from_slice_get ms k m m found.1)),
)
  where
    within : k < length ms
    within = let size = length-places ms in let count = ap length stand in omega (arith, below, size, count)

    found : (m : Moment) × (slice_get ms k ≡ Some m)
    found = member_at ms k within

    m : Moment
    m = found.0

    stands_at : m.place ≡ p
    stands_at =
        same_Some m.place p (sym (ap (option_map (λ (m : Moment). m.place)) found.1) ∙ sym (place_from_end ms k within) ∙ ap (λ ps. slice_get ps (length ps - 1 - k)) (sym stand) ∙ here)

    moved : (after ≡ before ++ entry_of m ∷ []) × AreTraces (trace_at new) (drop (k + 1) ms)
    moved = moves m (drop (k + 1) ms)
        (subst (AreTraces (trace_at old)) (drop_more ms k m within ∙ ap (λ x. x ∷ drop (k + 1) ms) (get_or_from_slice_get ms k m m found.1)) kept.0) stands_at

-- newest first, the other way round
reversed : (ms : List Moment) → reverse (map entry_of ms) ≡ entries ms
reversed [] = refl
reversed (m ∷ ms) = reverse-append (entry_of m ∷ []) (map entry_of ms) ∙ ap (λ es. es ++ entry_of m ∷ []) (reversed ms)

-- all entries are moved
pub all_moved : (places : List Place) (traces : Traces) (history : List Entry) (k : ℕ) → length places ≤ k → (ms : List Moment) → places ≡ places_of ms
    → AreTraces (trace_at traces) (drop k ms) × (history ≡ map entry_of (take k ms)) → reverse history ≡ entries ms
all_moved places traces history k end ms stand kept =
    let size = length-places ms in
    let count = ap length stand in
    ap reverse (kept.1 ∙ ap (map entry_of) (take_all k ms (omega (arith, end, size, count)))) ∙ reversed ms

-- ---- answers that may fail

pub on_ok : {T E : Type 0} (r : Result T E) (A B : Type 0) → (A → B) → OnOk r A → OnOk r B
on_ok (Ok x) A B f a = f a
on_ok (Err e) A B f a = tt
