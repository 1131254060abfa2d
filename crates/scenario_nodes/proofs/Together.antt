-- The disks of several nodes, taken and given back one node after the other.
use Rattle.std.proofs.Common.{◌≡◌, ⊎_elim, inl, inr, ◌∙◌, ◌++◌, ℕ, zero, suc, List, [], ◌∷◌, map, take, drop, length, slice_get, Some, None, Err, IsTrue, refl, ap, sym, subst, arith}
use Rattle.std.proofs.lemmas.List.{append-nil, append_assoc}
use Rattle.std.proofs.lemmas.Option.{same_Some}
use Rattle.std.specs.List.{AllByRecursion}
use Rattle.disk_model.specs.Shelf.{IsGivenBack, KeepsOthers, SamePlaces, SameUnder, ShelfState}
use Rattle.scenario_nodes.specs.Shelves.{AreGivenBack, HasBoth, HasDisk, IsDiskName, IsGivenIn, ReturnsAll, ReturnsBut, second_name}
use Rattle.scenario_nodes.specs.Together.{AreApart, AreEach, GivesBack, HaveBoth, IsOfOne, Takes, TakesOrReturns}
use Rattle.scenario_nodes.proofs.Returned.{all_after, all_in, all_same, back_since, but_after, but_of_all, but_wider, keeps_then, keeps_wider, node_back, places_here, places_then, still}

-- ---- one for each

pub each_append : {A B : Type 0} (P : A → B → Type 0) (xs us : List A) (ys vs : List B) → AreEach P xs ys → AreEach P us vs → AreEach P (xs ++ us) (ys ++ vs)
each_append P [] us [] vs one two = two
each_append P (x ∷ xs) us (y ∷ ys) vs one two = (one.0, each_append P xs us ys vs one.1 two)
each_append P [] us (y ∷ ys) vs one two = absurd one
each_append P (x ∷ xs) us [] vs one two = absurd one

pub each_weaker : {A B : Type 0} (P Q : A → B → Type 0) (xs : List A) (ys : List B) → ((x : A) (y : B) → P x y → Q x y) → AreEach P xs ys → AreEach Q xs ys
each_weaker P Q [] [] to each = tt
each_weaker P Q (x ∷ xs) (y ∷ ys) to each = (to x y each.0, each_weaker P Q xs ys to each.1)
each_weaker P Q [] (y ∷ ys) to each = absurd each
each_weaker P Q (x ∷ xs) [] to each = absurd each

-- each of these has one of those, which has one of the last
pub each_then : {A B C : Type 0} (P : A → B → Type 0) (Q : B → C → Type 0) (R : A → C → Type 0) (xs : List A) (ys : List B) (zs : List C) → ((x : A) (y : B) (z : C) → P x y → Q y z → R x z) → AreEach P xs ys → AreEach Q ys zs → AreEach R xs zs
each_then P Q R [] [] [] both one two = tt
each_then P Q R (x ∷ xs) (y ∷ ys) (z ∷ zs) both one two = (both x y z one.0 two.0, each_then P Q R xs ys zs both one.1 two.1)
each_then P Q R [] (y ∷ ys) zs both one two = absurd one
each_then P Q R (x ∷ xs) [] zs both one two = absurd one
each_then P Q R [] [] (z ∷ zs) both one two = absurd two
each_then P Q R (x ∷ xs) (y ∷ ys) [] both one two = absurd two

pub each_map : {A B C : Type 0} (P : A → C → Type 0) (f : B → C) (xs : List A) (ys : List B) → AreEach (λ x y. P x (f y)) xs ys → AreEach P xs (map f ys)
each_map P f [] [] each = tt
each_map P f (x ∷ xs) (y ∷ ys) each = (each.0, each_map P f xs ys each.1)
each_map P f [] (y ∷ ys) each = absurd each
each_map P f (x ∷ xs) [] each = absurd each

pub each_mapped : {A B C : Type 0} (P : C → B → Type 0) (f : A → C) (xs : List A) (ys : List B) → AreEach (λ x y. P (f x) y) xs ys → AreEach P (map f xs) ys
each_mapped P f [] [] each = tt
each_mapped P f (x ∷ xs) (y ∷ ys) each = (each.0, each_mapped P f xs ys each.1)
each_mapped P f [] (y ∷ ys) each = absurd each
each_mapped P f (x ∷ xs) [] each = absurd each

pub each_length : {A B : Type 0} (P : A → B → Type 0) (xs : List A) (ys : List B) → AreEach P xs ys → length xs ≡ length ys
each_length P [] [] each = refl
each_length P (x ∷ xs) (y ∷ ys) each = let rest = each_length P xs ys each.1 in omega (arith, rest)
each_length P [] (y ∷ ys) each = absurd each
each_length P (x ∷ xs) [] each = absurd each

-- what is said of each of two lists
pub each_all : {A B : Type 0} (P : A → B → Type 0) (Q : B → Type 0) (xs : List A) (ys : List B) → ((x : A) (y : B) → P x y → Q y) → AreEach P xs ys → AllByRecursion Q ys
each_all P Q [] [] to each = tt
each_all P Q (x ∷ xs) (y ∷ ys) to each = (to x y each.0, each_all P Q xs ys to each.1)
each_all P Q [] (y ∷ ys) to each = absurd each
each_all P Q (x ∷ xs) [] to each = absurd each

-- those of an item, of the items before it and of those behind it
pub record IsSplit {A B : Type 0} (P : A → B → Type 0) (xs : List A) (ys : List B) (y : B) (zs : List B) : Type 0 where
  pub before : List A
  pub at : A
  pub behind : List A
  pub all : xs ≡ before ++ at ∷ behind
  pub front : AreEach P before ys
  pub here : P at y
  pub rest : AreEach P behind zs

pub each_split : {A B : Type 0} (P : A → B → Type 0) (xs : List A) (ys : List B) (y : B) (zs : List B) → AreEach P xs (ys ++ y ∷ zs) → IsSplit P xs ys y zs
each_split P [] [] y zs each = absurd each
each_split P [] (u ∷ ys) y zs each = absurd each
each_split P (x ∷ xs) [] y zs each = record { before = []; at = x; behind = xs; all = refl; front = tt; here = each.0; rest = each.1 }
each_split P (x ∷ xs) (u ∷ ys) y zs each =
    let s = each_split P xs ys y zs each.1 in
    record { before = x ∷ s.before; at = s.at; behind = s.behind; all = ap (λ rest. x ∷ rest) s.all; front = (each.0, s.front); here = s.here; rest = s.rest }

-- of two lists that fall into parts alike
pub each_parts : {A B : Type 0} (P : A → B → Type 0) (xs us : List A) (ys vs : List B) → length xs ≡ length ys → AreEach P (xs ++ us) (ys ++ vs) → AreEach P xs ys × AreEach P us vs
each_parts P [] us [] vs size each = (tt, each)
each_parts P (x ∷ xs) us (y ∷ ys) vs size each = let parts = each_parts P xs us ys vs (omega (arith, size)) each.1 in ((each.0, parts.0), parts.1)
each_parts P [] us (y ∷ ys) vs size each = absurd (omega (arith, size))
each_parts P (x ∷ xs) us [] vs size each = absurd (omega (arith, size))

pub each_take : {A B : Type 0} (P : A → B → Type 0) (n : ℕ) (xs : List A) (ys : List B) → AreEach P xs ys → AreEach P (take n xs) (take n ys)
each_take P zero xs ys each = tt
each_take P (suc n) [] [] each = tt
each_take P (suc n) (x ∷ xs) (y ∷ ys) each = (each.0, each_take P n xs ys each.1)
each_take P (suc n) [] (y ∷ ys) each = absurd each
each_take P (suc n) (x ∷ xs) [] each = absurd each

pub each_drop : {A B : Type 0} (P : A → B → Type 0) (n : ℕ) (xs : List A) (ys : List B) → AreEach P xs ys → AreEach P (drop n xs) (drop n ys)
each_drop P zero xs ys each = each
each_drop P (suc n) [] [] each = tt
each_drop P (suc n) (x ∷ xs) (y ∷ ys) each = each_drop P n xs ys each.1
each_drop P (suc n) [] (y ∷ ys) each = absurd each
each_drop P (suc n) (x ∷ xs) [] each = absurd each

pub each_at : {A B : Type 0} (P : A → B → Type 0) (k : ℕ) (xs : List A) (ys : List B) (x : A) (y : B) → AreEach P xs ys → slice_get xs k ≡ Some x → slice_get ys k ≡ Some y → P x y
each_at P k [] ys x y each here there = absurd (let no : None ≡ Some x = here in cc)
each_at P k (u ∷ xs) [] x y each here there = absurd each
each_at P zero (u ∷ xs) (v ∷ ys) x y each here there = subst (λ a. P a y) (same_Some u x here) (subst (λ b. P u b) (same_Some v y there) each.0)
each_at P (suc k) (u ∷ xs) (v ∷ ys) x y each here there = each_at P k xs ys x y each.1 here there

pub all_append : {A : Type 0} (P : A → Type 0) (xs ys : List A) → AllByRecursion P xs → AllByRecursion P ys → AllByRecursion P (xs ++ ys)
all_append P [] ys one two = two
all_append P (x ∷ xs) ys one two = (one.0, all_append P xs ys one.1 two)

pub all_weaker : {A : Type 0} (P Q : A → Type 0) (xs : List A) → ((x : A) → P x → Q x) → AllByRecursion P xs → AllByRecursion Q xs
all_weaker P Q [] to all = tt
all_weaker P Q (x ∷ xs) to all = (to x all.0, all_weaker P Q xs to all.1)

pub all_front : {A : Type 0} (P : A → Type 0) (xs ys : List A) → AllByRecursion P (xs ++ ys) → AllByRecursion P xs
all_front P [] ys all = tt
all_front P (x ∷ xs) ys all = (all.0, all_front P xs ys all.1)

pub all_behind : {A : Type 0} (P : A → Type 0) (xs ys : List A) → AllByRecursion P (xs ++ ys) → AllByRecursion P ys
all_behind P [] ys all = all
all_behind P (x ∷ xs) ys all = all_behind P xs ys all.1

-- of the first items of a list there is one each, and these are left
pub record AreFirst {A B : Type 0} (P : A → B → Type 0) (all : List A) (found : List B) (left : List A) : Type 0 where
  pub before : List A
  pub split : all ≡ before ++ left
  pub each : AreEach P before found

pub first_none : {A B : Type 0} (P : A → B → Type 0) (all : List A) → AreFirst P all [] all
first_none P all = record { before = []; split = refl; each = tt }

pub first_next : {A B : Type 0} (P : A → B → Type 0) (all : List A) (found : List B) (x : A) (left : List A) (y : B) → AreFirst P all found (x ∷ left) → P x y → AreFirst P all (found ++ y ∷ []) left
first_next P all found x left y f is = record {
  before = f.before ++ x ∷ [];
  split = f.split ∙ sym (append_assoc f.before (x ∷ []) left);
  each = each_append P f.before (x ∷ []) found (y ∷ []) f.each (is, tt);
}

-- the same of lists that are these
pub first_push : {A B : Type 0} (P : A → B → Type 0) (all : List A) (found more : List B) (x : A) (left rest : List A) (y : B) → left ≡ x ∷ rest → more ≡ found ++ y ∷ [] → AreFirst P all found left → P x y → AreFirst P all more rest
first_push P all found more x left rest y next same f is = subst (λ ys. AreFirst P all ys rest) (sym same) (first_next P all found x rest y (subst (AreFirst P all found) next f) is)

pub first_all : {A B : Type 0} (P : A → B → Type 0) (all : List A) (found : List B) (left : List A) → left ≡ [] → AreFirst P all found left → AreEach P all found
first_all P all found left none f = subst (λ (xs : List _). AreEach P xs found) (sym (f.split ∙ ap (λ (xs : List _). f.before ++ xs) none ∙ append-nil f.before)) f.each

-- ---- names

pub of_front : (xs ys : List (List ℕ)) (n : List ℕ) → IsOfOne xs n → IsOfOne (xs ++ ys) n
of_front [] ys n o = absurd o
of_front (x ∷ xs) ys n o = ⊎_elim (λ named. inl named) (λ later. inr (of_front xs ys n later)) o

pub of_behind : (xs ys : List (List ℕ)) (n : List ℕ) → IsOfOne ys n → IsOfOne (xs ++ ys) n
of_behind [] ys n o = o
of_behind (x ∷ xs) ys n o = inr (of_behind xs ys n o)

-- the nodes of the front and those behind it
pub apart_between : (xs ys : List (List ℕ)) → AreApart (xs ++ ys) → (n : List ℕ) → IsOfOne xs n → ¬ IsOfOne ys n
apart_between [] ys apart n o = absurd o
apart_between (x ∷ xs) ys apart n o = ⊎_elim (λ named theirs. apart.0 n named (of_behind xs ys n theirs)) (λ later theirs. apart_between xs ys apart.1 n later theirs) o

pub apart_front : (xs ys : List (List ℕ)) → AreApart (xs ++ ys) → AreApart xs
apart_front [] ys apart = tt
apart_front (x ∷ xs) ys apart = ((λ n named theirs. apart.0 n named (of_front xs ys n theirs)), apart_front xs ys apart.1)

pub apart_behind : (xs ys : List (List ℕ)) → AreApart (xs ++ ys) → AreApart ys
apart_behind [] ys apart = apart
apart_behind (x ∷ xs) ys apart = apart_behind xs ys apart.1

module _ {D : Type 0} where
  -- ---- what stays

  both_stay : (a b : ShelfState D) (name : List ℕ) → ((n : List ℕ) → a.has_place n → b.has_place n) → HasBoth a name → HasBoth b name
  both_stay a b name stays both = record { first = stays name both.first; second = stays (second_name name) both.second }

  pub have_still : (a b : ShelfState D) (nodes : List (List ℕ)) → ((n : List ℕ) → a.has_place n → b.has_place n) → HaveBoth a nodes → HaveBoth b nodes
  have_still a b nodes stays have = all_weaker (HasBoth a) (HasBoth b) nodes (λ name both. both_stay a b name stays both) have

  pub disk_stays : (a b : ShelfState D) (name : List ℕ) (disk : D) → b.tells ≡ a.tells → SameUnder name a b → IsGivenBack a name disk → IsGivenBack b name disk
  disk_stays a b name disk tells same back = record {
    given = λ told. (same disk).1 (back.given (still b.tells a.tells (sym tells) told));
    only = λ d is. back.only d ((same d).0 is);
  }

  given_stays : (z a b : ShelfState D) (name : List ℕ) (disk : D) → b.tells ≡ a.tells → SameUnder name a b → b.gives name ≡ a.gives name → IsGivenIn z a name disk → IsGivenIn z b name disk
  given_stays z a b name disk tells same unmoved given = record {
    back = disk_stays a b name disk tells same given.back;
    counted = λ told. let rose = given.counted told in omega (arith, rose, unmoved);
  }

  -- a call for other nodes; what is said of disks that were given back in an earlier one, or in both
  pub one_stays : (Others : List ℕ → Type 0) (z a b : ShelfState D) (name : List ℕ) (disk : D) → ¬ Others name → KeepsOthers Others a b → IsGivenIn z a name disk → IsGivenIn z b name disk
  one_stays Others z a b name disk away keeps given = given_stays z a b name disk keeps.tells (keeps.others name away) (keeps.unmoved name away) given

  pub back_stays : (Others : List ℕ → Type 0) (z a b : ShelfState D) (name : List ℕ) (disks : D × D) → ((n : List ℕ) → IsDiskName name n → ¬ Others n) → KeepsOthers Others a b
      → AreGivenBack z a name disks → AreGivenBack z b name disks
  back_stays Others z a b name disks away keeps back = record {
    first = one_stays Others z a b name disks.0 (away name (inl refl)) keeps back.first;
    second = one_stays Others z a b (second_name name) disks.1 (away (second_name name) (inr refl)) keeps back.second;
  }

  pub backs_stay : (nodes : List (List ℕ)) (disks : List (D × D)) (Others : List ℕ → Type 0) (z a b : ShelfState D) → ((n : List ℕ) → IsOfOne nodes n → ¬ Others n) → KeepsOthers Others a b
      → AreEach (AreGivenBack z a) nodes disks → AreEach (AreGivenBack z b) nodes disks
  backs_stay [] [] Others z a b away keeps each = tt
  backs_stay (x ∷ xs) (d ∷ ds) Others z a b away keeps each = (back_stays Others z a b x d (λ n named. away n (inl named)) keeps each.0, backs_stay xs ds Others z a b (λ n o. away n (inr o)) keeps each.1)
  backs_stay [] (d ∷ ds) Others z a b away keeps each = absurd each
  backs_stay (x ∷ xs) [] Others z a b away keeps each = absurd each

  pub backs_since : (nodes : List (List ℕ)) (disks : List (D × D)) (Others : List ℕ → Type 0) (z a b : ShelfState D) → KeepsOthers Others z a → AreEach (AreGivenBack a b) nodes disks → AreEach (AreGivenBack z b) nodes disks
  backs_since nodes disks Others z a b keeps each = each_weaker (AreGivenBack a b) (AreGivenBack z b) nodes disks (λ name d back. back_since Others z a b name d keeps back) each

  -- ---- taken

  pub takes_none : (a : ShelfState D) → Takes [] a a
  takes_none a = record {
    both = tt;
    keeps = record {
      places = λ n had. had;
      made = λ n has. inl has;
      others = λ n other disk. ((λ here. here), (λ here. here));
      unmoved = λ n other. refl;
      gives = λ n. omega arith;
      faults = omega arith;
      tells = refl;
    };
    out = but_of_all (IsOfOne []) a a (all_same a);
  }

  -- a call that failed before any disk was asked for
  pub none_taken : {A E : Type 0} (nodes : List (List ℕ)) (a : ShelfState D) (e : E) → TakesOrReturns {D = D} {A = A} {E = E} nodes a a (Err e)
  none_taken nodes a e = record { takes = tt; keeps = keeps_wider (IsOfOne []) (IsOfOne nodes) a a (λ n none. absurd none) (takes_none a).keeps; returned = all_same a }

  pub takes_one : (name : List ℕ) (a b : ShelfState D) → HasBoth b name → KeepsOthers (IsDiskName name) a b → ReturnsBut (IsDiskName name) a b → Takes (name ∷ []) a b
  takes_one name a b both keeps out = record {
    both = (both, tt);
    keeps = keeps_wider (IsDiskName name) (IsOfOne (name ∷ [])) a b (λ n named. inl named) keeps;
    out = but_wider (IsDiskName name) (IsOfOne (name ∷ [])) a b (λ n named. inl named) out;
  }

  pub takes_then : (xs ys : List (List ℕ)) (a b c : ShelfState D) → Takes xs a b → Takes ys b c → Takes (xs ++ ys) a c
  takes_then xs ys a b c one two = record {
    both = all_append (HasBoth c) xs ys (have_still b c xs two.keeps.places one.both) two.both;
    keeps = keeps_then (IsOfOne xs) (IsOfOne ys) (IsOfOne (xs ++ ys)) a b c (of_front xs ys) (of_behind xs ys) one.keeps two.keeps;
    out = but_after (IsOfOne xs) (IsOfOne ys) (IsOfOne (xs ++ ys)) a b c one.keeps.tells (of_front xs ys) (of_behind xs ys) one.out two.out;
  }

  -- ---- given back

  pub gives_none : (a : ShelfState D) → GivesBack [] [] a a
  gives_none a = record { back = tt; keeps = (takes_none a).keeps; places = places_here a; returned = all_same a }

  pub gives_one : (name : List ℕ) (disks : D × D) (a b : ShelfState D) → AreGivenBack a b name disks → KeepsOthers (IsDiskName name) a b → SamePlaces a b → ReturnsAll a b → GivesBack (name ∷ []) (disks ∷ []) a b
  gives_one name disks a b back keeps places returned = record {
    back = (back, tt);
    keeps = keeps_wider (IsDiskName name) (IsOfOne (name ∷ [])) a b (λ n named. inl named) keeps;
    places = places;
    returned = returned;
  }

  pub gives_then : (xs ys : List (List ℕ)) (ds es : List (D × D)) (a b c : ShelfState D) → ((n : List ℕ) → IsOfOne xs n → ¬ IsOfOne ys n) → GivesBack xs ds a b → GivesBack ys es b c → GivesBack (xs ++ ys) (ds ++ es) a c
  gives_then xs ys ds es a b c away one two = record {
    back = each_append (AreGivenBack a c) xs ys ds es (backs_stay xs ds (IsOfOne ys) a b c away two.keeps one.back) (backs_since ys es (IsOfOne xs) a b c one.keeps two.back);
    keeps = keeps_then (IsOfOne xs) (IsOfOne ys) (IsOfOne (xs ++ ys)) a b c (of_front xs ys) (of_behind xs ys) one.keeps two.keeps;
    places = places_then a b c one.places two.places;
    returned = all_after a b c one.keeps.tells one.returned two.returned;
  }

  pub each_back : (nodes : List (List ℕ)) (disks : List (D × D)) (old shelf : ShelfState D) → IsTrue shelf.tells → AreEach (AreGivenBack old shelf) nodes disks → (n : List ℕ) → IsOfOne nodes n → HasDisk shelf n
  each_back [] disks old shelf told each n o = absurd o
  each_back (x ∷ xs) [] old shelf told each n o = absurd each
  each_back (x ∷ xs) (d ∷ ds) old shelf told each n o = ⊎_elim (λ named. node_back old shelf x d each.0 told n named) (λ later. each_back xs ds old shelf told each.1 n later) o

  -- the disks of nodes were taken, perhaps a call came after it that returned all that it took, and they were given back
  pub returned_all : (nodes : List (List ℕ)) (disks : List (D × D)) (a b c d : ShelfState D) → Takes nodes a b → c.tells ≡ b.tells → ReturnsAll b c → GivesBack nodes disks c d → ReturnsAll a d
  returned_all nodes disks a b c d takes tells between gives =
      all_in (IsOfOne nodes) a b d takes.keeps.tells takes.out (all_after b c d tells between gives.returned)
      (λ told n o. each_back nodes disks c d (still c.tells d.tells gives.keeps.tells (still b.tells c.tells tells (still a.tells b.tells takes.keeps.tells told))) gives.back n o)

-- ---- nodes closed one after the other

-- these were closed, and those are left
pub record AreClosing {D : Type 0} (nodes : List (List ℕ)) (disks : List (D × D)) (old now : ShelfState D) (nodes_left : List (List ℕ)) (disks_left : List (D × D)) : Type 0 where
  pub nodes_closed : List (List ℕ)
  pub disks_closed : List (D × D)
  pub nodes_are : nodes ≡ nodes_closed ++ nodes_left
  pub disks_are : disks ≡ disks_closed ++ disks_left
  pub gives : GivesBack nodes_closed disks_closed old now

module _ {D : Type 0} (nodes : List (List ℕ)) (disks : List (D × D)) where
  pub closing_none : (a : ShelfState D) → AreClosing nodes disks a a nodes disks
  closing_none a = record { nodes_closed = []; disks_closed = []; nodes_are = refl; disks_are = refl; gives = gives_none a }

  module _ (old now : ShelfState D) (name : List ℕ) (nodes_more : List (List ℕ)) (d : D × D) (disks_more : List (D × D)) (c : AreClosing nodes disks old now (name ∷ nodes_more) (d ∷ disks_more)) where
    -- the disks of the next one were taken
    pub closing_taken : HaveBoth old nodes → HasBoth now name
    closing_taken have =
        (have_still old now (name ∷ nodes_more) (λ n had. (c.gives.places n).1 had)
        (all_behind (HasBoth old) c.nodes_closed (name ∷ nodes_more) (subst (HaveBoth old) c.nodes_are have))).0

    pub closing_next : (new : ShelfState D) → AreApart nodes → AreGivenBack now new name d → KeepsOthers (IsDiskName name) now new → SamePlaces now new → ReturnsAll now new → AreClosing nodes disks old new nodes_more disks_more
    closing_next new apart back keeps places returned = record {
      nodes_closed = c.nodes_closed ++ name ∷ [];
      disks_closed = c.disks_closed ++ d ∷ [];
      nodes_are = c.nodes_are ∙ sym (append_assoc c.nodes_closed (name ∷ []) nodes_more);
      disks_are = c.disks_are ∙ sym (append_assoc c.disks_closed (d ∷ []) disks_more);
      gives = gives_then c.nodes_closed (name ∷ []) c.disks_closed (d ∷ []) old now new
          (λ n ours theirs. apart_between c.nodes_closed (name ∷ nodes_more) (subst AreApart c.nodes_are apart) n ours (of_front (name ∷ []) nodes_more n theirs))
          c.gives (gives_one name d now new back keeps places returned);
    }

  pub closing_all : (old now : ShelfState D) (nodes_left : List (List ℕ)) (disks_left : List (D × D)) → nodes_left ≡ [] → disks_left ≡ [] → AreClosing nodes disks old now nodes_left disks_left → GivesBack nodes disks old now
  closing_all old now nodes_left disks_left no_nodes no_disks c =
      let is_nodes : nodes ≡ c.nodes_closed = c.nodes_are ∙ ap (λ (l : List (List ℕ)). c.nodes_closed ++ l) no_nodes ∙ append-nil c.nodes_closed in
      let is_disks : disks ≡ c.disks_closed = c.disks_are ∙ ap (λ (l : List (D × D)). c.disks_closed ++ l) no_disks ∙ append-nil c.disks_closed in
      subst (λ (l : List (List ℕ)). GivesBack l disks old now) (sym is_nodes) (subst (λ (l : List (D × D)). GivesBack c.nodes_closed l old now) (sym is_disks) c.gives)
