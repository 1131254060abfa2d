-- Lists in rising order are read back, and what is read as one stands there.
use Rattle.std.proofs.Common.{◌≡◌, ℕ, ◌+◌, Bool, cond, IsTrue, Option, None, List, ◌++◌, length, refl, subst, append_assoc, arith}
use Rattle.std.specs.List.{flat_map}
use Rattle.std.specs.Int.{w32, to_be_bytes}
use Rattle.std.proofs.lemmas.List.{length-append}
use Rattle.byte_fields.specs.declared.errors.FieldError.TheVariants as errors
use Rattle.byte_fields.specs.Layout.{may_come}
use Rattle.byte_fields.specs.Reading.{Position, Reader, gives, fails, number_at, items_at}
use Rattle.byte_fields.specs.Exactness.{Stands, ReadsExactly}
use Rattle.byte_fields.specs.LongLists.{next_item, long_list_bytes, FitsLongList, long_list_at}
use Rattle.byte_fields.proofs.Chains.{step_ok, Stands-then, AreBytes-after}
use Rattle.byte_fields.proofs.Numbers.{four_bytes_exact}
use Rattle.byte_fields.proofs.Sequences.{FollowsExactly, items_back, items_only}
use Rattle.byte_fields.proofs.Texts.{passed}

pub next_exact : {X : Type 0} (follows : X → X → Bool) (item : Reader X) (bytes : X → List ℕ) (Fits : X → Type 0) → ReadsExactly item bytes Fits → FollowsExactly (next_item follows item) bytes follows Fits
unfolding next_item
next_exact {X = X} follows item bytes Fits law last = record {
  back = λ x at rest fits. rw (law.back x at rest fits.0, fits.1) refl;
  only = λ x place after all e.
      let a = step_ok (item place) (λ y. cond (may_come follows last y) (gives y) (fails (errors.BadTag place.at))) (x, after) e in
      let found = law.only a.0.0 place a.0.1 all a.1 in
      let comes = passed (may_come follows last a.0.0) (errors.BadTag place.at) a.0.0 a.0.1 (x, after) a.2 in
      subst (λ (r : X × Position). (Fits r.0 × IsTrue (may_come follows last r.0)) × Stands place (bytes r.0) r.1) comes.1 ((found.0, comes.0), found.1);
}

pub long_list_exact : {X : Type 0} (follows : X → X → Bool) (item : Option X → Reader X) (bytes : X → List ℕ) (Fits : X → Type 0) → FollowsExactly item bytes follows Fits →
    ReadsExactly (long_list_at item) (long_list_bytes bytes) (FitsLongList follows Fits)
unfolding long_list_at
long_list_exact {X = X} follows item bytes Fits law = record {
  back = λ xs at rest fits.
      let count = four_bytes_exact.back (length xs) at (flat_map bytes xs ++ rest) fits.count in
      let body = items_back follows item bytes Fits law None xs (at + length (to_be_bytes w32 (length xs))) rest fits.each fits.order in
      let place : at + length (to_be_bytes w32 (length xs)) + length (flat_map bytes xs) ≡ at + length (long_list_bytes bytes xs) = omega (arith, length-append (to_be_bytes w32 (length xs)) (flat_map bytes xs)) in
      rw (append_assoc (to_be_bytes w32 (length xs)) (flat_map bytes xs) rest, count, body, place) refl;
  only = λ xs place after all e.
      let a = step_ok (number_at w32 place) (items_at item None) (xs, after) e in
      let count = four_bytes_exact.only a.0.0 place a.0.1 all a.1 in
      let body = items_only follows item bytes Fits law a.0.0 None xs a.0.1 after (AreBytes-after (to_be_bytes w32 a.0.0) place a.0.1 all count.1) a.2 in
      let both = Stands-then place a.0.1 after (to_be_bytes w32 a.0.0) (flat_map bytes xs) count.1 body.stands in
      (record { count = omega (arith, count.0, body.count); each = body.each; order = body.order }, rw body.count both);
}
