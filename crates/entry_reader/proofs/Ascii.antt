-- Words are texts.
use Rattle.std.proofs.Common.{◌≡◌, ℕ, ◌<◌, Bool, true, false, List, [], ◌∷◌, refl, arith}
use Rattle.std.specs.Prelude.{◌&&◌, nat_lt}
use Rattle.std.specs.List.{list_all}
use Rattle.std.specs.Str.{IsUtf8, IsAscii}
use Rattle.std.proofs.lemmas.Bool.Decides.{nat_tests}
use Rattle.std.proofs.lemmas.Str.{IsUtf8-from_ascii}
use Rattle.std.proofs.lemmas.Str.Ascii.{IsAscii-cons, IsAscii-nil}

pub both_left : (a b : Bool) → (a && b) ≡ true → a ≡ true
both_left true b is = refl
both_left false b is = cc

pub both_right : (a b : Bool) → (a && b) ≡ true → b ≡ true
both_right true b is = is
both_right false b is = cc

below : (b : ℕ) → nat_lt b 128 ≡ true → b < 128
below b is = grind (arith, nat_tests)

pub ascii : (w : List ℕ) → list_all (λ b. nat_lt b 128) w ≡ true → IsAscii w
ascii [] all = IsAscii-nil
ascii (b ∷ w) all =
    IsAscii-cons b w (below b (both_left (nat_lt b 128) (list_all (λ b. nat_lt b 128) w) all)) (ascii w (both_right (nat_lt b 128) (list_all (λ b. nat_lt b 128) w) all))

pub ascii_text : (w : List ℕ) → list_all (λ b. nat_lt b 128) w ≡ true → IsUtf8 w
ascii_text w all = IsUtf8-from_ascii w (ascii w all)
