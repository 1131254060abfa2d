-- Bytes on their way, one part after another.
use Rattle.std.proofs.Common.{◌≡◌, ◌+◌, ◌-◌, ℕ, List, ◌++◌, length, take, drop, Option, ap, sym, subst, ◌∙◌, arith}
use Rattle.std.proofs.Math.Seq.{take-add, take-append_seam}
use Rattle.std.proofs.KnownBytes.{Appends-trans}
use Rattle.std.proofs.lemmas.List.{take_rest, drop-drop, take-append-drop}
use Rattle.std.specs.Io.KnownBytes.{Appends}

-- the front of a text, and the front of its rest
pub gains_more : (old mid new : Option (List ℕ)) (text : List ℕ) (done n : ℕ) → Appends old mid (take done text)
    → Appends mid new (take n (take (length text - done) (drop done text))) → Appends old new (take (done + n) text)
gains_more old mid new text done n first then =
    let rest : take (length text - done) (drop done text) ≡ drop done text = take_rest text done in
    let more : Appends mid new (take n (drop done text)) = subst (λ t. Appends mid new (take n t)) rest then in
    subst (λ t. Appends old new t) (sym (take-add done n text)) (Appends-trans old mid new (take done text) (take n (drop done text)) first more)

-- the bytes that were copied to the front of a buffer were the next ones
pub copied_next : (xs copied rest : List ℕ) (at n : ℕ) → length copied ≡ n → copied ≡ take (at + n - at) (drop at xs)
    → drop at xs ≡ take n (copied ++ rest) ++ drop (at + n) xs
copied_next xs copied rest at n size is =
    let span : at + n - at ≡ n = omega arith in
    let front : take n (copied ++ rest) ≡ copied = ap (λ k. take k (copied ++ rest)) (sym size) ∙ take-append_seam copied rest in
    let next : copied ≡ take n (drop at xs) = is ∙ ap (λ k. take k (drop at xs)) span in
    sym (ap (λ l. l ++ drop (at + n) xs) (front ∙ next) ∙ ap (λ l. take n (drop at xs) ++ l) (sym (drop-drop n at xs)) ∙ take-append-drop n (drop at xs))
