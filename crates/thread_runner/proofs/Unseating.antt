-- Nodes that are taken out of their seats one after the other.
use Rattle.std.proofs.Common.{◌≡◌, List, [], ◌∷◌, ◌++◌, map, Option, Some, None, refl, ap, sym, subst, ◌∙◌, append-nil, append_assoc}
use Rattle.std.specs.List.{AllByRecursion}
use Rattle.history_rules.specs.Nodes.{World, Past}
use Rattle.node_steps.specs.Ends.{Starts}
use Rattle.node_steps.specs.Nodes.{NodeState}
use Rattle.node_seat.specs.Naming.{Run}
use Rattle.node_seat.specs.Seating.{Seated}
use Rattle.run_ends.specs.Ending.{Ending}
use Rattle.thread_runner.specs.Ending.{EachKeeps, Keeps, all_here, ending_at, endings_at, here, node_of}

map_append : {A B : Type 0} (f : A → B) (xs ys : List A) → map f (xs ++ ys) ≡ map f xs ++ map f ys
map_append f [] ys = refl
map_append f (x ∷ xs) ys = ap (λ (zs : List _). f x ∷ zs) (map_append f xs ys)

all_append : {A : Type 0} (P : A → Type 0) (xs ys : List A) → AllByRecursion P xs → AllByRecursion P ys → AllByRecursion P (xs ++ ys)
all_append P [] ys first second = second
all_append P (x ∷ xs) ys first second = (first.0, all_append P xs ys first.1 second)

here_snoc : {N : Type 0} (seats : List (Option (Seated N))) (seat : Option (Seated N)) → all_here (seats ++ seat ∷ []) ≡ all_here seats ++ here seat
here_snoc [] seat = append-nil (here seat)
here_snoc (x ∷ seats) seat = ap (λ l. here x ++ l) (here_snoc seats seat) ∙ sym (append_assoc (here x) (all_here seats) (here seat))

module _ {N : Type 0} (state : N → NodeState) (world : World) (held : Past → Starts → Type 0) (run : Run) (all : List (Option (Seated N))) (before : List Ending) where
  -- those of the first seats were taken out
  pub record IsUnseating (left : List (Option (Seated N))) (nodes : List N) (ended : List Ending) : Type 0 where
    pub done : List (Option (Seated N))
    pub split : all ≡ done ++ left
    pub nodes_are : nodes ≡ map node_of (all_here done)
    pub ended_are : ended ≡ before ++ endings_at state done
    pub keep : EachKeeps state world held run done

  pub unseats_none : (left : List (Option (Seated N))) (nodes : List N) (ended : List Ending) → left ≡ all → nodes ≡ [] → ended ≡ before → IsUnseating left nodes ended
  unseats_none left nodes ended whole none same = record { done = []; split = sym whole; nodes_are = none; ended_are = same ∙ sym (append-nil before); keep = tt }

  -- an empty seat
  pub unseats_empty : (left rest : List (Option (Seated N))) (nodes : List N) (ended : List Ending) → left ≡ None ∷ rest → IsUnseating left nodes ended → IsUnseating rest nodes ended
  unseats_empty left rest nodes ended next u = record {
    done = u.done ++ None ∷ [];
    split = u.split ∙ ap (λ l. u.done ++ l) next ∙ sym (append_assoc u.done (None ∷ []) rest);
    nodes_are = u.nodes_are ∙ sym (ap (map node_of) (here_snoc u.done None ∙ append-nil (all_here u.done)));
    ended_are = u.ended_are ∙ sym (ap (λ l. before ++ map (ending_at state) l) (here_snoc u.done None ∙ append-nil (all_here u.done)));
    keep = subst (AllByRecursion (Keeps state world held run)) (sym (here_snoc u.done None ∙ append-nil (all_here u.done))) u.keep;
  }

  -- a seat with its node
  pub unseats_one : (left rest : List (Option (Seated N))) (nodes more : List N) (ended later : List Ending) (s : Seated N) (node : N) (end : Ending) → left ≡ Some s ∷ rest → node ≡ s.node → end ≡ ending_at state s
      → more ≡ nodes ++ node ∷ [] → later ≡ ended ++ end ∷ [] → Keeps state world held run s → IsUnseating left nodes ended → IsUnseating rest more later
  unseats_one left rest nodes more ended later s node end next is_node is_end is_more is_later keeps u = record {
    done = u.done ++ Some s ∷ [];
    split = u.split ∙ ap (λ l. u.done ++ l) next ∙ sym (append_assoc u.done (Some s ∷ []) rest);
    nodes_are = is_more ∙ ap (λ l. l ++ node ∷ []) u.nodes_are ∙ ap (λ n. map node_of (all_here u.done) ++ n ∷ []) is_node ∙ sym (map_append node_of (all_here u.done) (s ∷ []))
        ∙ sym (ap (map node_of) (here_snoc u.done (Some s)));
    ended_are = is_later ∙ ap (λ l. l ++ end ∷ []) u.ended_are ∙ append_assoc before (endings_at state u.done) (end ∷ [])
        ∙ ap (λ e. before ++ (endings_at state u.done ++ e ∷ [])) is_end ∙ ap (λ l. before ++ l) (sym (map_append (ending_at state) (all_here u.done) (s ∷ [])))
        ∙ sym (ap (λ l. before ++ map (ending_at state) l) (here_snoc u.done (Some s)));
    keep = subst (AllByRecursion (Keeps state world held run)) (sym (here_snoc u.done (Some s))) (all_append (Keeps state world held run) (all_here u.done) (s ∷ []) u.keep (keeps, tt));
  }

  -- all of them
  all_done : (left : List (Option (Seated N))) (done : List (Option (Seated N))) → all ≡ done ++ left → left ≡ [] → done ≡ all
  all_done left done split none = sym (split ∙ ap (λ l. done ++ l) none ∙ append-nil done)

  pub unseated_nodes : (left : List (Option (Seated N))) (nodes : List N) (ended : List Ending) → left ≡ [] → IsUnseating left nodes ended → nodes ≡ map node_of (all_here all)
  unseated_nodes left nodes ended none u = u.nodes_are ∙ ap (λ l. map node_of (all_here l)) (all_done left u.done u.split none)

  pub unseated_ends : (left : List (Option (Seated N))) (nodes : List N) (ended : List Ending) → left ≡ [] → IsUnseating left nodes ended → ended ≡ before ++ endings_at state all
  unseated_ends left nodes ended none u = u.ended_are ∙ ap (λ l. before ++ endings_at state l) (all_done left u.done u.split none)

  pub unseated_keep : (left : List (Option (Seated N))) (nodes : List N) (ended : List Ending) → left ≡ [] → IsUnseating left nodes ended → EachKeeps state world held run all
  unseated_keep left nodes ended none u = subst (EachKeeps state world held run) (all_done left u.done u.split none) u.keep
